-- One place more is kept with each turn.
use Rattle.common_laws.proofs.Base.{arith, add-one}
use Rattle.sweep_reruns.proofs.Kept.{kept-none, kept_next}
use Rattle.sweep_reruns.proofs.keep_numbers.Goals as goal

pub loop-i-init : goal.loop-i-init
loop-i-init c = kept-none c.args.end c.args.standing.now c.args.numbers.now

pub loop-i-preserved : goal.loop-i-preserved
loop-i-preserved c =
    let l = c.loop-i in
    rw (add-one l.i) (kept_next c.args.end c.args.standing.now c.args.numbers.now l.numbers c.keep.new.numbers l.i (omega arith) l.invariant c.keep.ensures)
