-- "becomes the least row sum" agrees with "keeps the lesser", sweep by sweep.
use Rattle.common_laws.proofs.Base.{List, [], ◌∷◌, List-as-Memᴰ, List-Memᴰ-head, List-Memᴰ-tail, ◌↔◌, ◌≡◌, refl, sym, ◌∙◌, ap, subst, ℕ, zero, suc, ◌≤◌, ◌<◌, ℕ_discrete, dec_lt}
use Rattle.common_laws.proofs.Base.{le_refl, le_trans, le_of_eq, le_antisymm, arith, length, set}
use Rattle.cost.specs.Cost.{lesser}
use Rattle.plans.specs.System.{Visit}
use Rattle.plans.specs.Sweep.{at, least, Rule, renew, lower, sweep, sweeps, Settles, run, Once, Above, Lowering, Lowering.keeps, Lowering.renews}
use Rattle.plans.specs.Statements.{SettlesWithin}
use Rattle.plans.proofs.Lowered.{lesser-right, lesser-most, least-bound, least_mono, lower_under, lower-here, lower-past}
use Rattle.plans.proofs.Kept.{lower-stores, rule-other}

pub renew-lower : (xs : List ℕ) (v : Visit) → least xs v.ways ≤ at xs v.node → renew xs v ≡ lower xs v
unfolding renew lower
renew-lower xs v h =
    let e : least xs v.ways ≡ lesser (at xs v.node) (least xs v.ways) =
    le_antisymm
    (lesser-most (at xs v.node) (least xs v.ways) (least xs v.ways) (least-bound xs v.ways) h (le_refl (least xs v.ways)))
    (lesser-right (at xs v.node) (least xs v.ways)) in
    ap (set xs v.node) e

module _ (vs : List Visit) (once : Once vs) where
  pub above_lower : (xs : List ℕ) (v : Visit) → List-as-Memᴰ v vs → Above vs xs → Above vs (lower xs v)
  above_lower xs v m h u i = place (ℕ_discrete v.node u.node) (dec_lt v.node (length xs))
    where
      fallen : least (lower xs v) u.ways ≤ least xs u.ways
      fallen = least_mono (lower xs v) xs u.ways (lower_under xs v).below

      place : Dec (v.node ≡ u.node) → Dec (v.node < length xs) → least (lower xs v) u.ways ≤ at (lower xs v) u.node
      place (yes e) (yes b) =
          rw (← e, lower-here xs v b)
          (lesser-most (at xs v.node) (least xs v.ways) (least (lower xs v) u.ways) (least-bound (lower xs v) u.ways)
          (le_trans fallen (rw e (h u i)))
          (le_trans fallen (le_of_eq (ap (least xs) (sym (once v u m i e))))))
      place (yes e) (no b) = rw (lower-past xs v (omega arith)) (h u i)
      place (no e) d = rw (rule-other lower lower-stores xs v u.node e) (le_trans fallen (h u i))

  -- The same for a part of the sweep.
  pub sweep-agrees : (us : List Visit) (xs : List ℕ) → ((v : Visit) → List-as-Memᴰ v us → List-as-Memᴰ v vs) → Above vs xs → (sweep renew us xs ≡ sweep lower us xs) × Above vs (sweep lower us xs)
  unfolding sweep
  sweep-agrees [] xs i h = (refl, h)
  sweep-agrees (v ∷ us) xs i h =
      let m : List-as-Memᴰ v vs = i v (List-Memᴰ-head refl) in
      let r : (sweep renew us (lower xs v) ≡ sweep lower us (lower xs v)) × Above vs (sweep lower us (lower xs v)) =
      sweep-agrees us (lower xs v) (λ u k. i u (List-Memᴰ-tail k)) (above_lower xs v m h) in
      (ap (sweep renew us) (renew-lower xs v (h v m)) ∙ r.0, r.1)

  pub sweep-same : (xs : List ℕ) → Above vs xs → sweep renew vs xs ≡ sweep lower vs xs
  sweep-same xs h = (sweep-agrees vs xs (λ v m. m) h).0

  pub sweep-above : (xs : List ℕ) → Above vs xs → Above vs (sweep lower vs xs)
  sweep-above xs h = (sweep-agrees vs xs (λ v m. m) h).1

  pub sweeps-above : (k : ℕ) (xs : List ℕ) → Above vs xs → Above vs (sweeps lower vs k xs)
  unfolding sweeps
  sweeps-above zero xs h = h
  sweeps-above (suc k) xs h = sweeps-above k (sweep lower vs xs) (sweep-above xs h)

  pub sweeps-same : (k : ℕ) (xs : List ℕ) → Above vs xs → sweeps renew vs k xs ≡ sweeps lower vs k xs
  unfolding sweeps
  sweeps-same zero xs h = refl
  sweeps-same (suc k) xs h = ap (sweeps renew vs k) (sweep-same xs h) ∙ sweeps-same k (sweep lower vs xs) (sweep-above xs h)

  rests-same : (k : ℕ) (xs : List ℕ) → Above vs xs → sweep renew vs (sweeps renew vs k xs) ≡ sweep lower vs (sweeps lower vs k xs)
  rests-same k xs h = ap (sweep renew vs) (sweeps-same k xs h) ∙ sweep-same (sweeps lower vs k xs) (sweeps-above k xs h)

  -- What settles by one rule settles by the other, with the same count and numbers.
  pub settles-same : {xs ys : List ℕ} {k : ℕ} → Above vs xs → Settles lower vs xs k ys ↔ Settles renew vs xs k ys
  settles-same {xs} {ys} h = (
    λ s.
        record {
          changes = s.changes;
          counted = s.counted;
          reached = sweeps-same s.changes xs h ∙ s.reached;
          rests = sweep-same ys (rw s.reached at (sweeps-above s.changes xs h)) ∙ s.rests;
          changed = λ i l e. s.changed i l (sym (rests-same i xs h) ∙ e ∙ sweeps-same i xs h);
        },
    λ s.
        record {
          changes = s.changes;
          counted = s.counted;
          reached = sym (sweeps-same s.changes xs h) ∙ s.reached;
          rests =
              sym (sweep-same ys (rw s.reached at (rw (← sweeps-same s.changes xs h) at (sweeps-above s.changes xs h))))
              ∙ s.rests;
          changed = λ i l e. s.changed i l (rests-same i xs h ∙ e ∙ sym (sweeps-same i xs h));
        },
  )

  pub run-same : (fuel : ℕ) (xs : List ℕ) → Above vs xs → run renew vs fuel xs ≡ run lower vs fuel xs
  unfolding run
  run-same zero xs h = refl
  run-same (suc fuel) xs h = rw (sweep-same xs h, run-same fuel (sweep lower vs xs) (sweep-above xs h))

-- ---- by either rule

module _ {rule : Rule} {vs : List Visit} where
  -- One visit, and visits one after the other.
  pub visit-lowers : {xs : List ℕ} → Lowering rule vs xs → (v : Visit) → List-as-Memᴰ v vs → rule xs v ≡ lower xs v
  visit-lowers {xs} (keeps e) v m = ap (λ (r : Rule). r xs v) e
  visit-lowers {xs} (renews e once above) v m = ap (λ (r : Rule). r xs v) e ∙ renew-lower xs v (above v m)

  pub sweep-lowers : {xs : List ℕ} → Lowering rule vs xs → (us : List Visit) → ((v : Visit) → List-as-Memᴰ v us → List-as-Memᴰ v vs) → (sweep rule us xs ≡ sweep lower us xs) × Lowering rule vs (sweep lower us xs)
  sweep-lowers {xs} (keeps e) us i = (ap (λ (r : Rule). sweep r us xs) e, keeps e)
  sweep-lowers {xs} (renews e once above) us i =
      let t : (sweep renew us xs ≡ sweep lower us xs) × Above vs (sweep lower us xs) = sweep-agrees vs once us xs i above in
      (ap (λ (r : Rule). sweep r us xs) e ∙ t.0, renews e once t.1)

  -- What settles by keeping the lesser settles by the rule, and a bound on the one is a bound on the other.
  pub lowers_settle : {xs ys : List ℕ} {k : ℕ} → Lowering rule vs xs → Settles lower vs xs k ys → Settles rule vs xs k ys
  lowers_settle {xs} {ys} {k} (keeps e) s = subst (λ (r : Rule). Settles r vs xs k ys) (sym e) s
  lowers_settle {xs} {ys} {k} (renews e once above) s = subst (λ (r : Rule). Settles r vs xs k ys) (sym e) ((settles-same vs once above).0 s)

  pub within-lowers : {xs : List ℕ} (fuel bound : ℕ) → Lowering rule vs xs → SettlesWithin rule vs xs fuel bound → SettlesWithin lower vs xs fuel bound
  within-lowers {xs} fuel bound (keeps e) w = subst (λ (r : Rule). SettlesWithin r vs xs fuel bound) e w
  within-lowers {xs} fuel bound (renews e once above) w =
      let r : SettlesWithin renew vs xs fuel bound = subst (λ (r : Rule). SettlesWithin r vs xs fuel bound) e w in
      rw (← run-same vs once fuel xs above) ((settles-same vs once above).1 r.0, r.1)

  pub settles-lowers : {xs ys : List ℕ} {k : ℕ} → Lowering rule vs xs → Settles rule vs xs k ys → Settles lower vs xs k ys
  settles-lowers {xs} {ys} {k} (keeps e) s = subst (λ (r : Rule). Settles r vs xs k ys) e s
  settles-lowers {xs} {ys} {k} (renews e once above) s = (settles-same vs once above).1 (subst (λ (r : Rule). Settles r vs xs k ys) e s)
