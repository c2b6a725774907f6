-- The lines of the gates, at the tables of accepted cells and statements: which gates need a line, for the links that tell it.
use Rattle.common_laws.proofs.Base.{List, [], ◌∷◌, ◌++◌, List-as-Memᴰ, Memᴰ-map, Memᴰ-of-map, ◌≡◌, refl, sym, ap, ◌∙◌, subst, ℕ, zero, suc, ◌+◌, ◌-◌, ◌≤◌, ◌<◌, arith, length, get_or}
use Rattle.sizes.specs.Sizes as Size
use Rattle.sizes.specs.Places.{setting_place, observing_place}
use Rattle.reading.specs.Choice.{pick}
use Rattle.plans.specs.System.{Way, Visit}
use Rattle.plans.specs.Idle.{Needs}
use Rattle.library_table.specs.Cells.{Row, Cell, Column}
use Rattle.library_table.specs.Layout.{library_words}
use Rattle.netlist_table.specs.Netlist.{Gate, Statement, gates_of}
use Rattle.netlist_table.specs.Layout.{netlist_words}
use Rattle.netlist_table.specs.Sound.{InRange, GateSound, DrivenOnce}
use Rattle.netlist_table.specs.Gates.{gate_line, gate_lines, no_gate}
use Rattle.netlist_table.proofs.HeldGates.{line_at}
use Rattle.netlist_table.proofs.HeldGates as Held
use Rattle.netlist_table.proofs.Laws.{gate-sound, driven-once}
use Rattle.netlist_table.proofs.Places.{netlist-count}
use Rattle.calculation.specs.Acceptance.{BothSound}
use Rattle.calculation.specs.Nodes.{Kind, kind_number, set, observe, node}
use Rattle.calculation.specs.Ways.{cell_of, pin_line, asked, needs, Role, setting, observing, group_of, asks, usable, way_of, ways_of, visit, value_roles, pin_roles}
use Rattle.calculation.specs.Ways as W
use Rattle.calculation.proofs.Acceptance.{row_observes, gate-cell, gate-pin, role_row}
use Rattle.calculation.proofs.Needs.{setting-reads, observing-drives}
use Rattle.calculation.proofs.Visits.{getD_listed, Sets, value_from, pins_from, asks-observe, usable_from}
use Rattle.sweep_groups.specs.Tables.{by_role, gate_pins, visit_place, gate_visit}
use Rattle.sweep_groups.proofs.Bridge.{pins-number}
use Rattle.sweep_groups.proofs.Named.{set-node, observe-node}
use Rattle.sweep_turns.specs.Order.{gate_visits}
use Rattle.sweep_turns.specs.Wakes.{NeedsLine, visit_line, NeedsByLine}
use Rattle.sweep_turns.specs.Wakes as Table
use Rattle.sweep_runs.proofs.Bridge.{values-are, pin-visit, pins-are}

-- No two places of the list have gates that drive one line.
once-at : (gs : List Gate) → DrivenOnce gs → (i j : ℕ) → i < length gs → j < length gs → (get_or gs i no_gate).line ≡ (get_or gs j no_gate).line → i ≡ j
once-at [] once i j a b e = elim a [ ]
once-at (g ∷ gs) once zero zero a b e = refl
once-at (g ∷ gs) once zero (suc j) a b e = absurd (once.0 (get_or gs j no_gate) (getD_listed gs j no_gate (omega arith)) e)
once-at (g ∷ gs) once (suc i) zero a b e = absurd (once.0 (get_or gs i no_gate) (getD_listed gs i no_gate (omega arith)) (sym e))
once-at (g ∷ gs) once (suc i) (suc j) a b e = ap suc (once-at gs once.1 i j (omega arith) (omega arith) e)

module _ (cells : List Cell) (ss : List Statement) (sound : BothSound cells ss) (behind past : List ℕ) where
  abbrev library : List ℕ
  library = library_words cells ++ behind

  abbrev netlist : List ℕ
  netlist = netlist_words ss ++ past

  abbrev gate : ℕ → Gate
  gate g = get_or (gates_of ss) g no_gate

  count : get_or netlist 0 0 ≡ length (gates_of ss)
  count = netlist-count ss past

  module _ (g : ℕ) (h : g < get_or netlist 0 0) where
    inside : g < length (gates_of ss)
    inside = omega (arith, count)

    listed : List-as-Memᴰ (gate g) (gates_of ss)
    listed = getD_listed (gates_of ss) g no_gate inside

    is_sound : GateSound cells (gate g)
    is_sound = gate-sound cells ss sound.netlist (gate g) listed

    -- The gate's own line, and that of a pin.
    own_line : gate_line netlist g 0 ≡ (gate g).line
    own_line = Held.own_line sound.netlist past g inside

    pin-line : (i : ℕ) → i < Size.pins → gate_line netlist g (i + 1) ≡ get_or (gate g).pins i 0
    pin-line = Held.pin-line sound.netlist past g inside

  once : Table.DrivenOnce netlist (get_or netlist 0 0)
  once g h a b e =
      once-at (gates_of ss) (driven-once cells ss sound.netlist) g h (inside g a) (inside h b)
      (sym (own_line g a) ∙ e ∙ own_line h b)

  -- A gate that needs a line observed drives it.
  pub drives-line : (k : Kind) (g : ℕ) (a : g < get_or netlist 0 0) (l : ℕ) → InRange l → (v : Visit) → List-as-Memᴰ v (gate_visits 1 (kind_number k) library netlist g)
      → Needs v (node k (observe l)) → gate_line netlist g 0 ≡ l
  unfolding by_role pick W.gate_visits
  drives-line k g a l range v m d =
      let t : (role : Role) × List-as-Memᴰ role (pin_roles (cell_of cells (gate g)).pins 1) × (visit k cells (gate g) role ≡ v) =
      Memᴰ-of-map (visit k cells (gate g)) (pin_roles (cell_of cells (gate g)).pins 1) (rw (pins-are cells ss sound behind past k g (inside g a)) at m) in
      let f = pins_from (cell_of cells (gate g)).pins 1 t.0 t.1 in
      let q : visit k cells (gate g) (observing f.0) ≡ v = ap (visit k cells (gate g)) (sym f.3) ∙ t.2 in
      own_line g a
      ∙ observing-drives k cells ss sound (gate g) (listed g a) f.0 l range (subst (λ (u : Visit). Needs u (node k (observe l))) (sym q) d)

  -- ---- who needs the number that a visit renews

  module _ (k : Kind) (g h i : ℕ) (a : g < get_or netlist 0 0) (b : h < get_or netlist 0 0) where
    reads : i < Size.values → (v : Visit) → List-as-Memᴰ v (gate_visits 0 (kind_number k) library netlist g)
        → Needs v (visit_place 0 (kind_number k) (gate_lines netlist h) i)
        → NeedsLine 0 netlist g (visit_line 0 (gate_lines netlist h) i)
    unfolding by_role pick W.gate_visits pin_line
    reads c v m d = go t.0 (value_from (cell_of cells (gate g)) t.0 t.1) t.2
      where
        t : (role : Role) × List-as-Memᴰ role value_roles × (visit k cells (gate g) role ≡ v)
        t = Memᴰ-of-map (visit k cells (gate g)) value_roles (rw (values-are cells ss sound behind past k g (inside g a)) at m)

        own : get_or (gate_lines netlist h) 0 0 ≡ (gate h).line
        own = line_at netlist h 0 (omega arith) ∙ own_line h b

        place : visit_place 0 (kind_number k) (gate_lines netlist h) i ≡ node k (set (gate h).line i)
        place = ap (λ (l : ℕ). setting_place (kind_number k) l i) own ∙ set-node k (gate h).line i

        go : (role : Role) → Sets (cell_of cells (gate g)) role → visit k cells (gate g) role ≡ v → NeedsLine 0 netlist g (visit_line 0 (gate_lines netlist h) i)
        go (setting e) s q =
            let r =
            setting-reads k cells ss sound (gate g) (listed g a) e (gate h).line i ((is_sound h b).line, omega arith)
            (subst (Needs (visit k cells (gate g) (setting e))) place (subst (λ (u : Visit). Needs u (visit_place 0 (kind_number k) (gate_lines netlist h) i)) (sym q) d)) in
            let few : r.0 ≤ Size.pins = omega (arith, r.2, (gate-cell sound (gate g) (listed g a)).header.most-pins) in
            let z : r.0 ≡ r.0 - 1 + 1 = omega (arith, r.1) in
            (r.0, r.1, few, ap (gate_line netlist g) z ∙ pin-line g a (r.0 - 1) (omega (arith, r.1, few)) ∙ r.3 ∙ sym own)
        go (observing j) s q = absurd s

    drives : i < gate_pins library netlist h → (v : Visit) → List-as-Memᴰ v (gate_visits 1 (kind_number k) library netlist g)
        → Needs v (visit_place 1 (kind_number k) (gate_lines netlist h) i)
        → NeedsLine 1 netlist g (visit_line 1 (gate_lines netlist h) i)
    unfolding by_role pick pin_line
    drives c v m d = drives-line k g a (get_or (gate h).pins i 0) ranged v m (subst (Needs v) place d) ∙ sym read
      where
        few : i < (cell_of cells (gate h)).pins
        few = rw (pins-number cells ss sound behind past h (inside h b)) at c

        low : i < Size.pins
        low = omega (arith, few, (gate-cell sound (gate h) (listed h b)).header.most-pins)

        read : get_or (gate_lines netlist h) (i + 1) 0 ≡ get_or (gate h).pins i 0
        read = line_at netlist h (i + 1) (omega (arith, low)) ∙ pin-line h b i low

        ranged : InRange (get_or (gate h).pins i 0)
        ranged =
            let z : i + 1 - 1 ≡ i = omega arith in
            rw z at (gate-pin sound (gate h) (listed h b) (i + 1) (omega arith) (omega (arith, few)))

        place : visit_place 1 (kind_number k) (gate_lines netlist h) i ≡ node k (observe (get_or (gate h).pins i 0))
        place = ap (observing_place (kind_number k)) read ∙ observe-node k (get_or (gate h).pins i 0)

  -- ---- what each way of a gate needs, where lines are observed

  module _ (k : Kind) (g p : ℕ) (a : g < get_or netlist 0 0) (b : p < (cell_of cells (gate g)).pins) where
    row_needs : (w : Way) → List-as-Memᴰ w (visit k cells (gate g) (observing (1 + p))).ways → List-as-Memᴰ (node k (observe (gate g).line)) w.needs
    unfolding visit ways_of way_of needs asked
    row_needs w m =
        let c : Cell = cell_of cells (gate g) in
        let role = observing (1 + p) in
        let r : (r : Row) × List-as-Memᴰ r (usable (gate g) c role (group_of k c role)) × (way_of k (gate g) c role r ≡ w) =
        Memᴰ-of-map (way_of k (gate g) c role) (usable (gate g) c role (group_of k c role)) m in
        let e : w.needs ≡ needs k (gate g) (asks (gate g) c role r.0) = ap (λ (x : Way). x.needs) (sym r.2) in
        rw e (Memᴰ-map (λ (d : Column). node k (asked (gate g) d))
        (asks-observe (gate g) c (1 + p) r.0 (row_observes k (1 + p) c.pins _ r.0
        (role_row sound (gate g) (listed g a) k role (omega arith, omega arith) r.0 (usable_from (gate g) c role (group_of k c role) r.0 r.1).0))))

    output-needed : (w : Way) → List-as-Memᴰ w (gate_visit 1 (kind_number k) library netlist g p).ways
        → List-as-Memᴰ (observing_place (kind_number k) (get_or (gate_lines netlist g) 0 0)) w.needs
    output-needed w m =
        let place : observing_place (kind_number k) (get_or (gate_lines netlist g) 0 0) ≡ node k (observe (gate g).line) =
        ap (observing_place (kind_number k)) (line_at netlist g 0 (omega arith) ∙ own_line g a) ∙ observe-node k (gate g).line in
        rw place (row_needs w (subst (λ (v : Visit). List-as-Memᴰ w v.ways) (pin-visit cells ss sound behind past k g (inside g a) p b) m))

  pub reads_needs : (k : Kind) → NeedsByLine 0 (kind_number k) library netlist
  unfolding by_role pick
  reads_needs k =
      record {
        once = once;
        needs = λ g h i a b t v m n. reads k g h i a b t v m n;
        leads = λ g i a b r. absurd (r refl);
      }

  pub drives_needs : (k : Kind) → NeedsByLine 1 (kind_number k) library netlist
  unfolding by_role pick
  drives_needs k =
      record {
        once = once;
        needs = λ g h i a b t v m n. drives k g h i a b t v m n;
        leads = λ g i a b r. output-needed k g i a (rw (pins-number cells ss sound behind past g (inside g a)) at b);
      }
