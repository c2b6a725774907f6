-- `put_pad` runs CO and SO again, and stores the pad, the counts and the numbers.
use Rattle.common_laws.proofs.Base.{◌∙◌, arith}
use Rattle.standing_table.proofs.Slices.{ready-size}
use Rattle.standing_table.proofs.StandingTable.{stores}
use Rattle.standing_table.proofs.put_pad.Goals as goal

pub returns : goal.returns
returns c cells ss h =
    let e1 = c.word.ensures in
    let e2 = c.word-2.ensures in
    stores c.args.standing.now c.args.pads c.args.line c.requires.1 (ready-size c.args.standing.now c.requires.0) cells ss c.observe-observed.new.numbers c.put.new.table _ c.observe-observed.result _
    (c.observe-observed.ensures cells ss h)
    (λ i. record { cc = e1 i; sc = e2 i; co = c.observe-observed.result.combinational; so = c.observe-observed.result.sequential })
    c.put.ensures c.put_standing.ensures

pub observe-observed-requires : goal.observe-observed-requires
observe-observed-requires c =
    c.requires.0

pub overflow_add-pads : goal.overflow_add-pads
overflow_add-pads c =
    omega (arith, c.requires.1)

pub overflow_cast-line : goal.overflow_cast-line
overflow_cast-line c =
    omega (arith, c.requires.2)

pub overflow_add-pads-2 : goal.overflow_add-pads-2
overflow_add-pads-2 c =
    omega (arith, c.requires.1)

pub put_standing-requires : goal.put_standing-requires
put_standing-requires c =
    (omega (arith, c.requires.1), omega (arith, c.put.auto.table, ready-size c.args.standing.now c.requires.0))

pub shape_of-standing : goal.shape_of-standing
shape_of-standing c =
    c.put_standing.auto.standing ∙ c.put.auto.table
