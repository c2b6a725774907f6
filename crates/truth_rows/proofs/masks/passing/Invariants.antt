-- `passing` goes over the settings from the last on.
use Rattle.common_laws.proofs.Base.{Bool, map, ◌≡◌, ℕ, ◌-◌, ◌^◌, ◌<◌}
use Rattle.truth_rows.specs.Masks.{mask_of, up_from}
use Rattle.truth_rows.proofs.masks.passing.Given as goal

abbrev pub invariant-loop-j : goal.invariant-loop-j
invariant-loop-j g l = record {
  short : l.mask < 2 ^ (l.count - l.j);
  holds : (p : ℕ → Bool) → ((j : ℕ) (b : Bool) → j < l.count → goal.F-post g l.test j b → b ≡ p j) → l.mask ≡ mask_of (map p (up_from l.j (l.count - l.j)));
}
