-- A gate's two visits, and those that read its line awake after a number of it was lowered.
use Rattle.common_laws.proofs.Base.{Bool, false, or-false, List, [], ◌∷◌, ◌≡◌, refl, sym, ◌∙◌, ℕ, ◌<◌, arith, get_or}
use Rattle.reading.specs.Choice.{pick}
use Rattle.plans.specs.System.{Visit}
use Rattle.plans.specs.Sweep.{lower, sweep}
use Rattle.calculation.specs.Changes.{alters, changes}
use Rattle.netlist_table.specs.Gates.{gate_line, gate_lines}
use Rattle.netlist_table.proofs.HeldGates.{line_at}
use Rattle.sweep_links.specs.AwakeLines.{ReadersWoken}
use Rattle.sweep_groups.specs.Tables.{by_role}
use Rattle.sweep_turns.specs.Renewed.{Renewed, Swept}
use Rattle.sweep_turns.specs.Wakes.{visit_line, NeedsByLine, ChangesWoken}
use Rattle.sweep_turns.proofs.Wakes.{readers-woken, changes-none, changes_first, changes_later}
use Rattle.plan_marks.specs.Visits.{turn_visit}
use Rattle.plan_marks.proofs.Turns.{swept-still}

one-renewed : {v : Visit} {xs ys : List ℕ} {b : Bool} → Swept (v ∷ []) xs ys b → Renewed v xs ys b
unfolding sweep changes
one-renewed {v} {xs} w = record { numbers = w.numbers; flag = w.flag ∙ or-false (alters lower v xs) }

module _ (kind : ℕ) (library netlist : List ℕ) where
  -- Where no number was lowered nobody is woken.
  pub nobody_woken : {vs : List Visit} {awake xs ys : List ℕ} {changed : Bool} → changed ≡ false → Swept vs xs ys changed
      → ChangesWoken 0 kind library netlist awake xs awake ys
  nobody_woken {awake = awake} {xs = xs} e w = rw (swept-still e w) (changes-none 0 kind library netlist awake xs)

  line_is_lem : (g i : ℕ) → gate_line netlist g 0 ≡ visit_line 0 (gate_lines netlist g) i
  unfolding by_role pick
  line_is_lem g i = sym (line_at netlist g 0 (omega arith))

  -- The readers that are woken after the second visit are awake for both.
  pub gate-woken : NeedsByLine 0 kind library netlist → (g : ℕ) → g < get_or netlist 0 0 → {awake after xs ys zs : List ℕ} {a b : Bool} {line : ℕ} → line ≡ gate_line netlist g 0
      → Swept (turn_visit kind library netlist g 0 ∷ []) xs ys a → Swept (turn_visit kind library netlist g 1 ∷ []) ys zs b
      → ReadersWoken netlist (get_or netlist 0 0) line awake after
      → ChangesWoken 0 kind library netlist awake xs after zs
  unfolding by_role pick
  gate-woken needs g inside {awake} {after} {xs} e f s r =
      changes_later 0 kind library netlist needs g 1 inside (omega arith)
      (changes_later 0 kind library netlist needs g 0 inside (omega arith) (changes_first 0 kind library netlist awake xs {changed = false}) (one-renewed f))
      (one-renewed s) after (readers-woken refl (rw (e ∙ line_is_lem g 0) at r))
