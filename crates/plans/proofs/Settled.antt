-- Runs: `run` with fuel enough settles, and what settles is settled by the start.
use Rattle.common_laws.proofs.Base.{Bool, true, false, List, ◌≡◌, refl, sym, ◌∙◌, ap, ℕ, zero, suc, ◌≤◌, ◌<◌, arith}
use Rattle.plans.specs.System.{Visit}
use Rattle.reading.specs.Choice.{pick}
use Rattle.plans.specs.Sweep.{Rule, sweep, sweeps, Rests, Settles, same, Run, after_one, run}
use Rattle.plans.proofs.Numbers.{same_true, same_refl}

same_false : (xs ys : List ℕ) → (xs ≡ ys → ⊥) → same xs ys ≡ false
same_false xs ys h = test (same xs ys) refl
  where
    test : (b : Bool) → same xs ys ≡ b → same xs ys ≡ false
    test true e = absurd (h (same_true xs ys e))
    test false e = e

module _ (rule : Rule) (vs : List Visit) where
  -- ---- one sweep of a run

  pub run-rests : (fuel : ℕ) (xs : List ℕ) → Rests rule vs xs → run rule vs (suc fuel) xs ≡ record { numbers = xs; count = 1 }
  unfolding run pick
  run-rests fuel xs e = rw (e, same_refl xs)

  pub run-changes : (fuel : ℕ) (xs : List ℕ) → (Rests rule vs xs → ⊥) → run rule vs (suc fuel) xs ≡ after_one (run rule vs fuel (sweep rule vs xs))
  unfolding run pick
  run-changes fuel xs h = rw (same_false (sweep rule vs xs) xs h)

  pub rests? : (xs : List ℕ) → Dec (Rests rule vs xs)
  rests? xs = test (same (sweep rule vs xs) xs) refl
    where
      test : (b : Bool) → same (sweep rule vs xs) xs ≡ b → Dec (Rests rule vs xs)
      test true e = yes (same_true (sweep rule vs xs) xs e)
      test false e = no (λ f. absurd (clash (sym (rw f at e) ∙ same_refl xs)))
        where
          clash : false ≡ true → ⊥
          clash g = let z : ◌≡◌ {A = ℕ} 0 1 = cc in omega arith

  -- ---- the run settles

  -- The run `r` from `xs` has settled, within `i` changing sweeps.
  abbrev Settled : List ℕ → ℕ → Run → Type 0
  Settled xs i r = Settles rule vs xs r.count r.numbers × (r.count ≤ suc i)

  settled_now : (xs : List ℕ) (i : ℕ) → Rests rule vs xs → Settled xs i (record { numbers = xs; count = 1 })
  unfolding sweeps
  settled_now xs i e =
      (record { changes = 0; counted = refl; reached = refl; rests = e; changed = λ j h. absurd (omega arith) }, omega arith)

  settled_later : (xs : List ℕ) (i : ℕ) (r : Run) → (Rests rule vs xs → ⊥) → Settled (sweep rule vs xs) i r → Settled xs (suc i) (after_one r)
  unfolding sweeps after_one
  settled_later xs i r h s = (
    record {
      changes = suc s.0.changes;
      counted = ap suc s.0.counted;
      reached = s.0.reached;
      rests = s.0.rests;
      changed = earlier;
    },
    omega arith,
  )
    where
      earlier : (j : ℕ) → j < suc s.0.changes → Rests rule vs (sweeps rule vs j xs) → ⊥
      earlier zero l = h
      earlier (suc j) l = s.0.changed j (omega arith)

  pub run_settled : (fuel i : ℕ) (xs : List ℕ) → i < fuel → Rests rule vs (sweeps rule vs i xs) → Settled xs i (run rule vs fuel xs)
  unfolding sweeps
  run_settled zero i xs l e = absurd (omega arith)
  run_settled (suc fuel) zero xs l e = rw (run-rests fuel xs e) (settled_now xs zero e)
  run_settled (suc fuel) (suc i) xs l e =
      step (rests? xs) (run_settled fuel i (sweep rule vs xs) (omega arith) e)
    where
      step : Dec (Rests rule vs xs) → Settled (sweep rule vs xs) i (run rule vs fuel (sweep rule vs xs)) → Settled xs (suc i) (run rule vs (suc fuel) xs)
      step (yes f) s = rw (run-rests fuel xs f) (settled_now xs (suc i) f)
      step (no f) s = rw (run-changes fuel xs f) (settled_later xs i (run rule vs fuel (sweep rule vs xs)) f s)

  -- ---- count and numbers are settled by the start

  not-before : (xs ys zs : List ℕ) (k l : ℕ) (s : Settles rule vs xs k ys) (t : Settles rule vs xs l zs) → s.changes < t.changes → ⊥
  not-before xs ys zs k l s t h = t.changed s.changes h (rw s.reached s.rests)

  pub settles-once : {xs ys zs : List ℕ} {k l : ℕ} → Settles rule vs xs k ys → Settles rule vs xs l zs → (k ≡ l) × (ys ≡ zs)
  settles-once {xs} {ys} {zs} {k} {l} s t =
      let a : s.changes < t.changes → ⊥ = not-before xs ys zs k l s t in
      let b : t.changes < s.changes → ⊥ = not-before xs zs ys l k t s in
      let e : s.changes ≡ t.changes = omega arith in
      (omega arith, sym s.reached ∙ ap (λ (i : ℕ). sweeps rule vs i xs) e ∙ t.reached)
