-- What wakes a turn: the gates that need a line, and what a visit leaves of those that are asleep.
use Rattle.common_laws.proofs.Base.{Bool, true, ◌||◌, or-true, List, List-as-Memᴰ, ◌≡◌, refl, sym, ap, subst, ◌∙◌, ℕ, ◌-◌, ◌≤◌, ◌<◌, le_of_eq, arith}
use Rattle.common_laws.proofs.Base.{get_or}
use Rattle.plans.specs.System.{Visit}
use Rattle.plans.specs.Idle.{Needs}
use Rattle.reading.specs.Choice.{pick}
use Rattle.sweep_links.specs.Turns.{bit_at}
use Rattle.netlist_table.specs.Gates.{gate_line, gate_lines}
use Rattle.sweep_links.specs.AwakeLines.{ReadersWoken, DriverWoken}
use Rattle.sweep_groups.specs.Tables.{by_role, group_visit, gate_pins, visit_count, visit_place, gate_visit}
use Rattle.sweep_links.specs.Lines.{Chained, Driven, Links}
use Rattle.sweep_turns.specs.Fits.{GateReadFits}
use Rattle.sweep_turns.specs.Order.{gate_of_turn, turn_visits}
use Rattle.sweep_turns.specs.Renewed.{Renewed}
use Rattle.sweep_turns.specs.Wakes.{Asleep, visit_line, DrivenOnce, NeedsByLine, LineWoken, ChangesWoken}
use Rattle.sweep_turns.proofs.VisitsLaws.{visit-keeps, turn_inside}

-- ---- the gates that need a line

pub readers-woken : {role : ℕ} {netlist : List ℕ} {gates line : ℕ} {changed : Bool} {before after : List ℕ} → role ≡ 0
    → ReadersWoken netlist gates line before after → LineWoken role netlist gates line changed before after
unfolding by_role pick
readers-woken e r =
    rw e (record { slept = r.slept; woken = λ q t b n. r.readers t n.0 b n.1 n.2 n.3; size = r.size })

pub driver-woken : {role : ℕ} {netlist : List ℕ} {gates line : ℕ} {changed : Bool} {before after : List ℕ} → role ≤ 1 → (role ≡ 0 → ⊥)
    → DrivenOnce netlist gates → DriverWoken netlist gates line before after → LineWoken role netlist gates line changed before after
unfolding by_role pick
driver-woken {role} {netlist} {gates} {line} {changed} {before} {after} a h once r =
    let e : role ≡ 1 = omega arith in
    rw e (record { slept = r.slept; woken = λ q. wakes; size = r.size })
  where
    wakes : (t : ℕ) → t < gates → gate_line netlist (gates - 1 - t) 0 ≡ line → bit_at after t ≡ 1
    wakes t b n =
        let e : gates - 1 - (gates - 1 - t) ≡ t = omega arith in
        rw e at (r.driver (gates - 1 - t) (omega arith) n (λ g c m. le_of_eq (once g (gates - 1 - t) c (omega arith) (m ∙ sym n))))

-- At a gate of the netlist, where its gates were counted.
module _ {role kind : ℕ} {library netlist numbers : List ℕ} {gate cell pins : ℕ} (f : GateReadFits role kind library netlist numbers gate cell pins)
    {links : List ℕ} (linked : Links library netlist links) {gates : ℕ} (counted : gates ≡ get_or netlist 0 0) where
  chained : Chained netlist gates links
  chained = subst (λ (n : ℕ). Chained netlist n links) (sym counted) linked.chained

  driven : Driven netlist gates links
  driven = subst (λ (n : ℕ). Driven netlist n links) (sym counted) linked.driven

  pub line-woken : {line l : ℕ} {changed : Bool} {awake after : List ℕ} → line ≡ l
      → ((net : List ℕ) → Chained net gates links → Driven net gates links → DrivenOnce net gates → LineWoken role net gates line changed awake after)
      → LineWoken role netlist (get_or netlist 0 0) l changed awake after
  line-woken {line} {l} {changed} {awake} {after} e w =
      rw (← e, ← counted)
      (w netlist chained driven (subst (DrivenOnce netlist) (sym counted) f.visits_fit.links_fit.needs.once))

module _ (role kind : ℕ) (library netlist : List ℕ) where
  abbrev gates : ℕ
  gates = get_or netlist 0 0

  -- ---- after a visit

  pub changes-none : (awake xs : List ℕ) → ChangesWoken role kind library netlist awake xs awake xs
  changes-none awake xs = record { slept = λ t h a. a; unmoved = λ t h a v m n d. refl; size = refl }

  -- Where nothing has changed yet, whoever is woken.
  pub changes_first : (before xs : List ℕ) {line : ℕ} {changed : Bool} (after : List ℕ)
      → LineWoken role netlist gates line changed before after → ChangesWoken role kind library netlist before xs after xs
  changes_first before xs after w =
      record { slept = λ t h. w.slept t; unmoved = λ t h a v m n d. refl; size = w.size }

  module _ (l : NeedsByLine role kind library netlist) (h i : ℕ) (inside : h < gates) (turn : i < visit_count role (gate_pins library netlist h)) where
    pub changes-on : {before xs between ys after zs : List ℕ} {changed : Bool}
        → ChangesWoken role kind library netlist before xs between ys
        → Renewed (gate_visit role kind library netlist h i) ys zs changed
        → LineWoken role netlist gates (visit_line role (gate_lines netlist h) i) changed between after
        → ChangesWoken role kind library netlist before xs after zs
    unfolding gate_visit group_visit
    changes-on {before} {xs} {between} {ys} {after} {zs} {changed} c r w =
        record {
          slept = λ t b a. c.slept t b (w.slept t a);
          unmoved = λ t b a v m n d.
              visit-keeps (gate_visit role kind library netlist h i) r n
              (λ q e. needed t b a q v m (rw (← e) at d))
              ∙ c.unmoved t b (w.slept t a) v m n d;
          size = w.size ∙ c.size;
        }
      where
        needed : (t : ℕ) → t < gates → Asleep after t → changed ≡ true → (v : Visit) → List-as-Memᴰ v (turn_visits role kind library netlist t) → Needs v (visit_place role kind (gate_lines netlist h) i) → ⊥
        needed t b a q v m d =
            let g : gate_of_turn role gates t < gates = turn_inside role gates t b in
            omega (arith, a, w.woken q t b (l.needs (gate_of_turn role gates t) h i g inside turn v m d))

    -- The same where gates are woken behind visits that renew numbers of one line: one visit more.
    pub changes_later : {before xs ys zs : List ℕ} {a b : Bool}
        → ((after : List ℕ) → LineWoken role netlist gates (visit_line role (gate_lines netlist h) i) a before after → ChangesWoken role kind library netlist before xs after ys)
        → Renewed (gate_visit role kind library netlist h i) ys zs b
        → (after : List ℕ) → LineWoken role netlist gates (visit_line role (gate_lines netlist h) i) (a || b) before after → ChangesWoken role kind library netlist before xs after zs
    changes_later {a = a} {b} c r after w =
        changes-on (c after (record { slept = w.slept; woken = λ q. w.woken (ap (λ (x : Bool). x || b) q); size = w.size })) r
        (record { slept = λ t s. s; woken = λ q. w.woken (ap (λ (x : Bool). a || x) q ∙ or-true a); size = refl })
