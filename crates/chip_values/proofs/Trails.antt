-- Without loops a fact that each line has from the lines that feed it holds of all lines: a trail of lines back from one, each
-- fed by the next, has no line twice, so it is no longer than there are gates.
use Rattle.common_laws.proofs.Base.{true, false, List, [], ◌∷◌, map, Memᴰ-map, ◌≡◌, refl, subst, ◌∙◌, ℕ, zero, suc, ◌+◌, ◌≤◌, ◌<◌, arith, eqb, length, length-map, eqb-true}
use Rattle.reading.proofs.Laws.{by_test, clash}
use Rattle.netlist_table.specs.Netlist.{Gate, Statement, gates_of, member}
use Rattle.netlist_table.specs.Sound.{Apart}
use Rattle.netlist_table.proofs.Counts.{apart-fewer}
use Rattle.netlist_table.proofs.Laws.{member-listed}
use Rattle.chip_values.specs.Loops.{Feeds, Leads, Leads.last, Leads.next, Loopless}

-- ---- trails

-- The lines that a gate drives.
driven_by_gates : List Statement → List ℕ
driven_by_gates ss = map (λ (g : Gate). g.line) (gates_of ss)

-- Lines that line l leads to, none twice, each driven by a gate.
record Trail (ss : List Statement) (l : ℕ) (ts : List ℕ) : Type 0 where
  apart : Apart ts
  leads : (t : ℕ) → member t ts ≡ true → Leads ss l t
  driven : (t : ℕ) → member t ts ≡ true → member t (driven_by_gates ss) ≡ true

module _ (ss : List Statement) (free : Loopless ss) where
  trail_none : (l : ℕ) → Trail ss l []
  unfolding Apart member
  trail_none l = record { apart = tt; leads = λ t h. clash false h refl; driven = λ t h. clash false h refl }

  trail_short : (l : ℕ) (ts : List ℕ) → Trail ss l ts → length ts ≤ length (gates_of ss)
  unfolding driven_by_gates
  trail_short l ts t =
      rw (← length-map (gates_of ss) (λ (g : Gate). g.line))
      (apart-fewer ts (driven_by_gates ss) t.apart t.driven)

  -- The line itself is none of them: it would lead to itself.
  new : (l : ℕ) (ts : List ℕ) → Trail ss l ts → member l ts ≡ false
  unfolding Loopless
  new l ts t = by_test (member l ts) (λ h. absurd (free l (t.leads l h))) (λ h. h)

  trail_more : (k l : ℕ) (ts : List ℕ) → Feeds ss k l → Trail ss l ts → Trail ss k (l ∷ ts)
  unfolding Apart member driven_by_gates
  trail_more k l ts f t =
      record {
        apart = (new l ts t, t.apart);
        leads = λ x h. by_test (eqb l x)
            (λ u. subst (λ (y : ℕ). Leads ss k y) (eqb-true l x u) (last f))
            (λ u. next f (t.leads x (rw u at h)));
        driven = λ x h. by_test (eqb l x)
            (λ u. subst (λ (y : ℕ). member y (driven_by_gates ss) ≡ true) (f.drives ∙ eqb-true l x u)
            (member-listed f.gate.line (driven_by_gates ss) (Memᴰ-map (λ (g : Gate). g.line) f.listed)))
            (λ u. t.driven x (rw u at h));
      }

  module _ (P : ℕ → Type 0) (step : (l : ℕ) → ((k : ℕ) → Feeds ss k l → P k) → P l) where
    descend : (n l : ℕ) (ts : List ℕ) → Trail ss l ts → length (gates_of ss) < length ts + n → P l
    descend zero l ts t h = absurd (let s = trail_short l ts t in omega (arith, s))
    descend (suc n) l ts t h =
        step l (λ k f. descend n k (l ∷ ts) (trail_more k l ts f t) (omega arith))

    pub by_feeding : (l : ℕ) → P l
    by_feeding l = descend (suc (length (gates_of ss))) l [] (trail_none l) (omega arith)
