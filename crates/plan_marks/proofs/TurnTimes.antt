-- At which times a gate's pins have their turns in the sweeps that observe lines: behind those of all later gates, "gates in
-- reverse order, pins in order". So what a writer of marks notes, a gate and a pin, is the turn at the mark's time.
-- No code cites this page yet: the marks of request E1 are to (D196).
use Rattle.common_laws.proofs.Base.{List, [], ◌∷◌, ◌++◌, append_assoc, append-nil, ◌≡◌, refl, sym, ap, ◌∙◌, ℕ, zero, suc, ◌+◌, ◌*◌, ◌%◌, ◌<◌, mod-eq_of_lt, add-mul-mod_self_right}
use Rattle.common_laws.proofs.Base.{arith, length, length-append, get_or-append-add}
use Rattle.library_table.specs.Cells.{Cell}
use Rattle.netlist_table.specs.Netlist.{Gate}
use Rattle.calculation.specs.Ways.{cell_of, Role, observing, pin_roles, Turn, gate_turns, observing_turns}
use Rattle.plan_marks.specs.Lowered.{turn_at}

turn-time : (ts past us : List Turn) (t : Turn) (s n : ℕ) → ts ≡ past ++ (t ∷ us) → n ≡ length past + s * length ts → turn_at ts n ≡ t
unfolding turn_at
turn-time ts past us t s n e c =
    let long : length ts ≡ length past + suc (length us) = ap length e ∙ length-append past (t ∷ us) in
    let place : n % length ts ≡ length past + 0 =
    ap (λ (x : ℕ). x % length ts) c ∙ add-mul-mod_self_right (length past) s (length ts) ∙ mod-eq_of_lt (omega (arith, long)) ∙ omega arith in
    rw (place, e) (get_or-append-add past (t ∷ us) 0 _)

abbrev pin_turn : Gate → ℕ → Turn
pin_turn g i = record { gate = g; role = observing i }

-- The pins of one gate, from pin i on.
pins_split : (g : Gate) (count i j : ℕ) → j < count
    → (past : List Turn) × (rest : List Turn) × (gate_turns g (pin_roles count i) ≡ past ++ (pin_turn g (i + j) ∷ rest)) × (length past ≡ j)
unfolding gate_turns pin_roles
pins_split g zero i j h = absurd (omega arith)
pins_split g (suc count) i zero h =
    let z : i + 0 ≡ i = omega arith in
    ([], gate_turns g (pin_roles count (suc i)), rw z refl, refl)
pins_split g (suc count) i (suc j) h =
    let r = pins_split g count (suc i) j (omega arith) in
    let n : i + suc j ≡ suc i + j = omega arith in
    (pin_turn g i ∷ r.0, r.1, rw n (ap (λ (ts : List Turn). pin_turn g i ∷ ts) r.2), ap suc r.3)

module _ (cells : List Cell) where
  abbrev own : Gate → List Turn
  own g = gate_turns g (pin_roles (cell_of cells g).pins 1)

  -- The later gates come before.
  gates_split : (pre : List Gate) (g : Gate) (post : List Gate) → (rest : List Turn) × (observing_turns cells (pre ++ (g ∷ post)) ≡ observing_turns cells post ++ (own g ++ rest))
  unfolding observing_turns
  gates_split [] g post = ([], ap (λ (ts : List Turn). observing_turns cells post ++ ts) (sym (append-nil (own g))))
  gates_split (h ∷ pre) g post =
      let r = gates_split pre g post in (
        r.0 ++ own h,
        ap (λ (ts : List Turn). ts ++ own h) r.1
            ∙ append_assoc (observing_turns cells post) (own g ++ r.0) (own h)
            ∙ ap (λ (ts : List Turn). observing_turns cells post ++ ts) (append_assoc (own g) r.0 (own h)),
      )

  pub observing-time : (pre : List Gate) (g : Gate) (post : List Gate) (j : ℕ) → j < (cell_of cells g).pins → (s n : ℕ)
      → n ≡ length (observing_turns cells post) + j + s * length (observing_turns cells (pre ++ (g ∷ post)))
      → turn_at (observing_turns cells (pre ++ (g ∷ post))) n ≡ record { gate = g; role = observing (suc j) }
  observing-time pre g post j h s n e =
      let r = gates_split pre g post in
      let p = pins_split g (cell_of cells g).pins 1 j h in
      let one : 1 + j ≡ suc j = omega arith in
      let past : List Turn = observing_turns cells post ++ p.0 in
      let split : observing_turns cells (pre ++ (g ∷ post)) ≡ past ++ (pin_turn g (suc j) ∷ (p.1 ++ r.0)) =
      r.1
      ∙ ap (λ (ts : List Turn). observing_turns cells post ++ (ts ++ r.0)) (rw one at p.2)
      ∙ ap (λ (ts : List Turn). observing_turns cells post ++ ts) (append_assoc p.0 (pin_turn g (suc j) ∷ p.1) r.0)
      ∙ sym (append_assoc (observing_turns cells post) p.0 (pin_turn g (suc j) ∷ (p.1 ++ r.0))) in
      turn-time (observing_turns cells (pre ++ (g ∷ post))) past (p.1 ++ r.0) (pin_turn g (suc j)) s n split
      (e ∙ ap (λ (x : ℕ). x + s * length (observing_turns cells (pre ++ (g ∷ post)))) (sym (length-append (observing_turns cells post) p.0 ∙ ap (λ (x : ℕ). length (observing_turns cells post) + x) p.3)))
