-- The turns of a sweep: each is of a gate of the netlist, in a role that its cell has; and the visit that is made at a time is
-- that of the turn at that time.
use Rattle.common_laws.proofs.Base.{List, [], ◌∷◌, map, List-as-Memᴰ, List-Memᴰ-head, List-Memᴰ-tail, List-Memᴰ-not-nil, List-Memᴰ-append-cases, Memᴰ-of-map, ⊎_elim, ◌≡◌, refl, sym}
use Rattle.common_laws.proofs.Base.{ap, ◌∙◌, ℕ, zero, suc, ◌+◌, ◌%◌, ◌≤◌, ◌<◌, mod-lt, arith, length, get_or, length-map}
use Rattle.common_laws.proofs.Lists.{get_d_map}
use Rattle.plans.specs.System.{Visit}
use Rattle.plans.specs.Trace.{visit_at}
use Rattle.library_table.specs.Cells.{Cell}
use Rattle.netlist_table.specs.Netlist.{Gate}
use Rattle.calculation.specs.Nodes.{Kind}
use Rattle.calculation.specs.Ways.{cell_of, Role, value_roles, pin_roles, Turn, gate_turns, setting_turns, observing_turns}
use Rattle.calculation.proofs.Visits.{getD_listed, Sets, Observes, value_from, pins_from, turn_visit}
use Rattle.plan_marks.specs.Lowered.{turn_at}

module _ (cells : List Cell) where
  -- A gate of these, in a role that its cell has.
  abbrev pub Serves : (Cell → Role → Type 0) → List Gate → Turn → Type 0
  Serves has gs t = List-as-Memᴰ t.gate gs × has (cell_of cells t.gate) t.role

  gate-turn : (has : Cell → Role → Type 0) (roles : List Role) (g : Gate) (gs : List Gate) (t : Turn)
      → ((role : Role) → List-as-Memᴰ role roles → has (cell_of cells g) role)
      → List-as-Memᴰ t (gate_turns g roles) → Serves has (g ∷ gs) t
  unfolding gate_turns
  gate-turn has roles g gs t h m =
      let f = Memᴰ-of-map (λ (role : Role). record { gate = g; role = role }) roles m in
      rw (← f.2) (List-Memᴰ-head refl, h f.0 f.1)

  pin_from : (c : Cell) (role : Role) → List-as-Memᴰ role (pin_roles c.pins 1) → Observes c role
  pin_from c role m =
      let t : (j : ℕ) × (1 ≤ j) × (j < 1 + c.pins) × _ = pins_from c.pins 1 role m in
      rw t.3 (t.1, omega (arith, t.2))

  pub setting-turn : (gs : List Gate) (t : Turn) → List-as-Memᴰ t (setting_turns gs) → Serves Sets gs t
  unfolding setting_turns
  setting-turn [] t m = absurd (List-Memᴰ-not-nil m)
  setting-turn (g ∷ gs) t m =
      ⊎_elim (gate-turn Sets value_roles g gs t (value_from (cell_of cells g)))
      (λ i. (List-Memᴰ-tail (setting-turn gs t i).0, (setting-turn gs t i).1))
      (List-Memᴰ-append-cases (gate_turns g value_roles) m)

  pub observing-turn : (gs : List Gate) (t : Turn) → List-as-Memᴰ t (observing_turns cells gs) → Serves Observes gs t
  unfolding observing_turns
  observing-turn [] t m = absurd (List-Memᴰ-not-nil m)
  observing-turn (g ∷ gs) t m =
      ⊎_elim (λ i. (List-Memᴰ-tail (observing-turn gs t i).0, (observing-turn gs t i).1))
      (gate-turn Observes (pin_roles (cell_of cells g).pins 1) g gs t (pin_from (cell_of cells g)))
      (List-Memᴰ-append-cases (observing_turns cells gs) m)

-- The turn at a time is one of them, and its visit is the one that is made then.
module _ (k : Kind) (cells : List Cell) (ts : List Turn) (vs : List Visit) (are : vs ≡ map (turn_visit k cells) ts) (v : Visit) (listed : List-as-Memᴰ v vs) where
  some-turns : (us : List Visit) → List-as-Memᴰ v us → 0 < length us
  some-turns (u ∷ us) m = omega arith
  some-turns [] m = absurd (List-Memᴰ-not-nil m)

  long : length vs ≡ length ts
  long = ap length are ∙ length-map ts (turn_visit k cells)

  pub turn-listed : (t : ℕ) → List-as-Memᴰ (turn_at ts t) ts
  unfolding turn_at
  turn-listed t = getD_listed ts (t % length ts) _ (mod-lt t (rw (← long) (some-turns vs listed)))

  pub turn-visit : (t : ℕ) → visit_at vs t ≡ turn_visit k cells (turn_at ts t)
  unfolding turn_at visit_at
  turn-visit t =
      rw (long, are) (get_d_map (turn_visit k cells) ts (t % length ts) _ _ (mod-lt t (rw (← long) (some-turns vs listed))))
