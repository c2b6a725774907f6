-- `is_way` looks for a contradiction where rows are read as those of one wire.
use Rattle.common_laws.proofs.Base.{Bool, true, false, not, none, some, ◌≡◌, refl, ap, ◌∙◌, ℕ}
use Rattle.reading.specs.Choice.{pick}
use Rattle.sweep_groups.specs.Tables.{read_row, has_way}
use Rattle.sweep_groups.proofs.is_way.Goals as goal
use Rattle.sweep_groups.proofs.is_way.Goals.{then-wired, else-wired}

contradiction : (b : Bool) (x : ℕ) → not b ≡ has_way (pick b none (some x))
unfolding has_way pick
contradiction true x = refl
contradiction false x = refl

pub returns : goal.returns
unfolding read_row has_way
returns c =
    elim c.if-wired.branch [
      | then-wired w ↦ rw w.if-wired.true (ap not (w.result-is ∙ w.needs_both.ensures) ∙ contradiction _ _)
      | else-wired w ↦ rw w.if-wired.false (ap not (w.result-is ∙ w.if-wired.false))
    ]
