-- `left_by` adds the costs of the mentioned lines, from the highest down.
use Rattle.common_laws.proofs.Base.{◌-◌, arith}
use Rattle.netlist_table.specs.Lines.{mention_at}
use Rattle.advice_calls.specs.Parts.{cost_at}
use Rattle.advice_calls.proofs.PadCosts.{left-begins, nevers-few, overs-few, left-next, left-ends}
use Rattle.advice_calls.proofs.lines.left_by.Goals as goal

pub with_line-left-requires : goal.with_line-left-requires
with_line-left-requires c =
    let a = c.args in
    let l = c.loop-l in
    let p = mention_at a.netlist.now in
    let f = cost_at a.numbers.now in
    (omega arith, omega arith, omega (arith, nevers-few p f (l.l - 1) l.left l.invariant), omega (arith, overs-few p f (l.l - 1) l.left l.invariant))

pub loop-l-init : goal.loop-l-init
loop-l-init c =
    let z = c.default-left.ensures in
    left-begins (mention_at c.args.netlist.now) (cost_at c.args.numbers.now) c.default-left.result z.0 z.1.0 z.1.1.0 z.1.1.1.0 z.1.1.1.1

pub loop-l-preserved : goal.loop-l-preserved
loop-l-preserved c =
    let a = c.args in
    let l = c.loop-l in
    left-next (mention_at a.netlist.now) (cost_at a.numbers.now) (l.l - 1) l.left l.invariant (omega arith) (omega arith) c.with_line-left.result
    c.with_line-left.ensures

pub returns : goal.returns
returns c =
    let l = c.loop-l in
    left-ends c.args.netlist.now (cost_at c.args.numbers.now) (l.l - 1) l.left (omega arith) l.invariant
