-- `is_known` tests the bounds of the line and the value; each kind is known.
use Rattle.common_laws.proofs.Base.{Bool, true, false, ◌&&◌, ◌≡◌, refl, sym, leb, le-leb, lt-leb}
use Rattle.sizes.specs.Sizes as Size
use Rattle.cost.specs.Kind.{kind_index}
use Rattle.cost.proofs.Laws.{kind_most}
use Rattle.plan_calls.specs.Concluded.{known}
use Rattle.plan_calls.proofs.end.is_known.Goals as goal
use Rattle.plan_calls.proofs.end.is_known.Goals.{then-line-lt1-via-then-line-lt1, then-line-lt1-via-else-line-lt1+then-line-gt-LINES}

and-true : (b : Bool) → b && true ≡ b
and-true true = refl
and-true false = refl

pub returns-then-line-lt1 : goal.returns-then-line-lt1
unfolding known
returns-then-line-lt1 c =
    let l = c.args.line in
    elim c.then-line-lt1.branch [
      | then-line-lt1-via-then-line-lt1 w ↦ rw (lt-leb 1 l w.if-line-lt1.true)
      | then-line-lt1-via-else-line-lt1+then-line-gt-LINES w ↦ rw (le-leb 1 l w.if-line-lt1.false, lt-leb l Size.lines w.if-line-gt-LINES.true)
    ]

pub returns : goal.returns
unfolding known
returns c =
    let l = c.args.line in
    rw (le-leb 1 l c.if-line-lt1.false, le-leb l Size.lines c.if-line-gt-LINES.false, le-leb (kind_index c.args.kind) 1 (kind_most c.args.kind))
    (sym (and-true (leb c.args.value 1)))
