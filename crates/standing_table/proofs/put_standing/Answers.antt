-- `put_standing` clears, hands over, and puts the counts.
use Rattle.common_laws.proofs.Base.{List, ap, ◌∙◌, ℕ, arith, set}
use Rattle.standing_table.proofs.StandingTable.{stored}
use Rattle.standing_table.proofs.put_standing.Goals as goal

pub returns : goal.returns
returns c =
    stored c.args.standing.now c.args.pads c.requires.0 c.requires.1 c.args.numbers.now c.clear_pads.new.standing c.put_numbers.new.standing _ c.args.counts
    c.clear_pads.ensures c.put_numbers.ensures
    (c.put-5.ensures
    ∙ ap (λ (z : List ℕ). set z 4 c.args.counts.so)
    (c.put-4.ensures
    ∙ ap (λ (z : List ℕ). set z 3 c.args.counts.co)
    (c.put-3.ensures
    ∙ ap (λ (z : List ℕ). set z 2 c.args.counts.sc) (c.put-2.ensures ∙ ap (λ (z : List ℕ). set z 1 c.args.counts.cc) c.put.ensures))))

pub shape_of-standing : goal.shape_of-standing
shape_of-standing c =
    c.put-5.auto.table ∙ c.put-4.auto.table ∙ c.put-3.auto.table ∙ c.put-2.auto.table ∙ c.put.auto.table ∙ c.put_numbers.auto.standing ∙ c.clear_pads.auto.standing

pub clear_pads-requires : goal.clear_pads-requires
clear_pads-requires c =
    (c.requires.0, c.requires.1)

pub put_numbers-requires : goal.put_numbers-requires
put_numbers-requires c =
    omega (arith, c.clear_pads.auto.standing, c.requires.1)

pub overflow_cast-pads : goal.overflow_cast-pads
overflow_cast-pads c =
    omega (arith, c.requires.0)
