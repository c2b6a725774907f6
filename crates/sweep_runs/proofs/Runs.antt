-- A run, sweep by sweep: what its loop keeps, and what it comes to.
use Rattle.common_laws.proofs.Base.{Bool, true, false, List, ◌≡◌, sym, ◌∙◌, ℕ, suc, ◌+◌, ◌-◌, ◌^◌, ◌≤◌, ◌<◌, arith}
use Rattle.plans.specs.System.{Visit}
use Rattle.plans.specs.Sweep.{lower, Settles}
use Rattle.calculation.specs.Changes.{Going}
use Rattle.sweep_turns.specs.Renewed.{Swept}
use Rattle.sweep_runs.specs.Runs.{Runs}
use Rattle.calculation.proofs.Sweeps.{changes-lower, going_first, going_on, going_ends, going_within}

-- Before the sweep that counts `count`, all sweeps before it changed something.
abbrev pub Before : List Visit → List ℕ → ℕ → List ℕ → Type 0
Before vs xs count ys = (1 ≤ count) × Going lower vs xs (count - 1) ys

pub run_first : (vs : List Visit) (xs : List ℕ) → Before vs xs 1 xs
run_first vs xs = (omega arith, going_first lower vs xs)

module _ {vs : List Visit} {xs ys zs : List ℕ} {count : ℕ} {changed : Bool} (r : Runs vs xs) (b : Before vs xs count ys) (s : Swept vs ys zs changed) where
  pub run_on : changed ≡ true → Before vs xs (count + 1) zs
  run_on t =
      let e : count + 1 - 1 ≡ suc (count - 1) = omega arith in
      (omega arith, rw (e, s.numbers) (going_on lower vs (changes-lower vs) b.1 (sym s.flag ∙ t)))

  pub run_fits : changed ≡ true → count + 1 < 2 ^ 32
  run_fits t = omega (arith, going_within r.fuel r.bound r.within (run_on t).1, r.small)

  pub run_ends : changed ≡ false → Settles lower vs xs count zs
  run_ends t =
      let e : count ≡ suc (count - 1) = omega arith in
      rw (e, s.numbers) (going_ends lower vs (changes-lower vs) b.1 (sym s.flag ∙ t))
