-- Visits one after the other: what a visit leaves, a gate's visits, and the sweeps that are made of them.
use Rattle.common_laws.proofs.Base.{Bool, true, false, not, ◌||◌, or-false, List, [], ◌∷◌, ◌++◌, List-as-Memᴰ, List-Memᴰ-head, List-Memᴰ-tail, ◌≡◌, refl, sym, ap, ◌∙◌, ℕ, ◌+◌, ◌-◌}
use Rattle.common_laws.proofs.Base.{◌≤◌, ◌<◌, ℕ_discrete, add-one, arith, eqb, length, get_or, set, set-get_or}
use Rattle.sizes.specs.Places.{group_place}
use Rattle.cost.specs.Cost.{never, counted, capped, lesser}
use Rattle.cost.proofs.Laws.{sum_left, sum-right}
use Rattle.plans.specs.System.{Way, Visit}
use Rattle.plans.specs.Sweep.{at, sums, way, least, lower, sweep}
use Rattle.plans.proofs.Laws.{at_getD, sweep-append, sweep-length, lower-stores, rule-other}
use Rattle.calculation.specs.Changes.{alters, changes}
use Rattle.calculation.proofs.Sweeps.{alters-lower, same-alters, changes-append, unaltered}
use Rattle.netlist_table.specs.Gates.{gate_cell, gate_lines}
use Rattle.sweep_groups.specs.Tables.{group_visit, gate_pins, visit_group, visit_place, visit_wired, gate_visit}
use Rattle.sweep_groups.proofs.Roles.{role_set, role-observed}
use Rattle.sweep_turns.specs.Order.{gate_of_turn}
use Rattle.plans.specs.Idle.{in_turn}
use Rattle.sweep_turns.specs.Renewed.{Stored, Led, Renewed, Swept}

-- ---- one number
module _ (v : Visit) (xs : List ℕ) (inside : v.node < length xs) {number : ℕ} {ys : List ℕ} {changed : Bool} (s : Stored v.node number xs ys changed) where
  pub visited : number ≡ lesser (get_or xs v.node 0) (least xs v.ways) → Renewed v xs ys changed
  unfolding lower
  visited e =
      let q : number ≡ lesser (at xs v.node) (least xs v.ways) = e ∙ rw (at_getD xs v.node 0 inside) in
      record {
        numbers = s.numbers ∙ ap (set xs v.node) q;
        flag = s.flag ∙ ap (λ (x : ℕ). not (eqb x (at xs v.node))) q ∙ sym (alters-lower v xs inside);
      }

-- A visit changes no number but its own, and that only where it says so.
pub visit-keeps : (v : Visit) {xs ys : List ℕ} {changed : Bool} → Renewed v xs ys changed
    → (n : ℕ) → (changed ≡ true → v.node ≡ n → ⊥) → at ys n ≡ at xs n
visit-keeps v {xs} {ys} {changed} r n other = rw r.numbers (side changed refl)
  where
    side : (b : Bool) → changed ≡ b → at (lower xs v) n ≡ at xs n
    side true e = rule-other lower lower-stores xs v n (other e)
    side false e = ap (λ (zs : List ℕ). at zs n) (unaltered lower lower-stores v xs (sym r.flag ∙ e))

-- ---- a visit that can change nothing

module _ (xs : List ℕ) (o a : ℕ) (b : a ≤ never) (l : a ≤ at xs o) where
  -- A sum is at least each of its terms.
  sums-least : (ns : List ℕ) → List-as-Memᴰ o ns → a ≤ sums xs ns
  unfolding sums
  sums-least [] m = elim m [ ]
  sums-least (n ∷ ns) (List-Memᴰ-head e) = rw (← e) (omega (arith, sum_left (at xs o) (sums xs ns)))
  sums-least (n ∷ ns) (List-Memᴰ-tail m) = omega (arith, sum-right (at xs n) (sums xs ns), sums-least ns m)

  least-least : (ws : List Way) → ((w : Way) → List-as-Memᴰ w ws → List-as-Memᴰ o w.needs) → a ≤ least xs ws
  unfolding least way lesser counted
  least-least [] h = b
  least-least (w ∷ ws) h =
      let first : a ≤ way xs w = omega (arith, sum-right (capped w.depth) (sums xs w.needs), sums-least w.needs (h w (List-Memᴰ-head refl))) in
      let others : a ≤ least xs ws = least-least ws (λ u m. h u (List-Memᴰ-tail m)) in
      omega arith

-- The number is not above one that each way needs.
pub led-still : (role : ℕ) (v : Visit) (xs : List ℕ) {number observed : ℕ} → v.node < length xs → number ≡ get_or xs v.node 0 → Led role observed xs v
    → (role ≡ 0 → ⊥) × (number ≤ observed) × (number ≤ never) → Renewed v xs xs false
unfolding lower lesser counted at
led-still role v xs {number} {observed} inside e led t =
    let d = led t.0 in
    let n : number ≡ at xs v.node = e ∙ sym (at_getD xs v.node 0 inside) in
    let b : at xs v.node ≤ never = rw (← n) t.2 in
    let l : at xs v.node ≤ least xs v.ways = least-least xs d.0 (at xs v.node) b (rw (← n, ← d.1) t.1) v.ways d.2 in
    let kept : lesser (at xs v.node) (least xs v.ways) ≡ at xs v.node = omega arith in
    let same : lower xs v ≡ xs = ap (set xs v.node) kept ∙ set-get_or xs v.node never in
    record { numbers = sym same; flag = sym (same-alters lower v xs (ap (λ (zs : List ℕ). at zs v.node) same)) }

-- A visit by the numbers that the tables give is the gate's.
pub visit_is : (role kind : ℕ) (library netlist : List ℕ) (g i group place pins : ℕ) (lines : List ℕ) (wired : Bool)
    → wired ≡ visit_wired role library netlist g → lines ≡ gate_lines netlist g → pins ≡ gate_pins library netlist g
    → group ≡ group_place (gate_cell netlist g) (visit_group role kind i) → place ≡ visit_place role kind lines i
    → group_visit wired kind lines pins library group place ≡ gate_visit role kind library netlist g i
unfolding gate_visit
visit_is role kind library netlist g i group place pins lines wired w e n h p = rw (p, h, w, e, n)

-- ---- one after the other

pub swept-length : {vs : List Visit} {xs ys : List ℕ} {b : Bool} → Swept vs xs ys b → length ys ≡ length xs
swept-length {vs} {xs} r = ap length r.numbers ∙ sweep-length lower lower-stores vs xs

pub swept_none : (xs : List ℕ) → Swept [] xs xs false
unfolding sweep changes
swept_none xs = record { numbers = refl; flag = refl }

pub swept-one : {v : Visit} {xs ys : List ℕ} {b : Bool} → Renewed v xs ys b → Swept (v ∷ []) xs ys b
unfolding sweep changes
swept-one {v} {xs} {ys} {b} r = record { numbers = r.numbers; flag = r.flag ∙ sym (or-false (alters lower v xs)) }

swept-append : {us vs : List Visit} {xs ys zs : List ℕ} {a b : Bool} → Swept us xs ys a → Swept vs ys zs b → Swept (us ++ vs) xs zs (a || b)
swept-append {us} {vs} {xs} {ys} {zs} {a} {b} s t =
    record {
      numbers = t.numbers ∙ ap (sweep lower vs) s.numbers ∙ sym (sweep-append lower us vs xs);
      flag =
          ap (λ (x : Bool). x || b) s.flag
          ∙ ap (λ (x : Bool). changes lower us xs || x) (t.flag ∙ ap (changes lower vs) s.numbers)
          ∙ sym (changes-append lower us vs xs);
    }

-- One turn more.
pub next-turn : {xs ys zs : List ℕ} {a b : Bool} (visits : ℕ → List Visit) (i : ℕ)
    → Swept (in_turn visits i) xs ys a → Swept (visits i) ys zs b → Swept (in_turn visits (i + 1)) xs zs (a || b)
unfolding in_turn
next-turn visits i s t = rw (add-one i) (swept-append s t)

pub turn_inside : (role gates turn : ℕ) → turn < gates → gate_of_turn role gates turn < gates
turn_inside role gates turn h = go (ℕ_discrete role 0)
  where
    go : Dec (role ≡ 0) → gate_of_turn role gates turn < gates
    go (yes e) = rw (role_set role turn (gates - 1 - turn) e) h
    go (no e) = rw (role-observed role turn (gates - 1 - turn) e) (omega arith)
