-- A visit out of the tables, from what the parts of `visit` read and store.
use Rattle.common_laws.proofs.Base.{Bool, true, false, List, [], ◌∷◌, Option, some, ◌≡◌, refl, sym, ap, ◌∙◌, ℕ, suc, ◌+◌, ◌*◌, ◌^◌, ◌≤◌, ◌<◌, dec_le, arith, eqb-true, eqb-false}
use Rattle.common_laws.proofs.Base.{not-true, not-false, length, get_or, set, sets, length-sets, set-get_or}
use Rattle.sizes.specs.Sizes as Size
use Rattle.sizes.specs.Places.{group_place, setting_place, mark_place}
use Rattle.reading.specs.Choice.{pick}
use Rattle.cost.specs.Cost.{never, lesser, counted}
use Rattle.plans.specs.System.{Visit}
use Rattle.plans.specs.Sweep.{at, least, lower}
use Rattle.plans.specs.Trace.{first_place, Trace, trace_visit, trace_sweep}
use Rattle.plans.proofs.Laws.{at_getD, least-bound}
use Rattle.netlist_table.specs.Gates.{gate_cell, gate_lines}
use Rattle.sweep_sums.specs.declared.Sum.{Sum}
use Rattle.sweep_sums.specs.Sums.{sum_number, place_kind, Summed}
use Rattle.sweep_sums.proofs.Sums.{setting-kind}
use Rattle.sweep_groups.specs.Tables.{read_row, group_columns, gate_pins, by_role, role_columns, visit_group, visit_place, gate_tied, group_visit}
use Rattle.sweep_groups.specs.Fits.{LinesFit, Gathered, GatherFits, GroupFits, GateFits, ReadFits, LeastFits}
use Rattle.sweep_turns.specs.Renewed.{Stored, Swept}
use Rattle.sweep_turns.proofs.Groups as Group
use Rattle.sweep_turns.proofs.VisitsLaws.{visited, swept-one}
use Rattle.plan_marks.specs.Rows.{way_row, FirstOf}
use Rattle.plan_marks.proofs.RowsLaws.{first_same}
use Rattle.plan_marks.specs.Marks.{row_place, gate_row, last_pin, written_row, asking_row, Stands}
use Rattle.plan_marks.specs.Visits.{Fits, turn_visit, Traced}
use Rattle.plan_marks.proofs.Marks.{stands-still, stands-lowered}

module _ (kind : ℕ) (library netlist numbers marks : List ℕ) (fits : Fits kind library netlist numbers marks) (g e : ℕ) (inside : g < get_or netlist 0 0) (value : e ≤ 1)
    (lines : List ℕ) (pins group : ℕ) (lines_are : lines ≡ gate_lines netlist g) (pins-are : pins ≡ gate_pins library netlist g)
    (group_is : group ≡ group_place (gate_cell netlist g) (visit_group 0 kind e)) where
  gate-fits : GateFits library netlist g
  gate-fits = fits.links_fit.tables_fit.gates g inside

  pub lines_fit_lem : LinesFit lines pins
  lines_fit_lem = Group.lines_fit_lem kind fits.links_fit.kind_fits library netlist g e gate-fits value lines pins group lines_are pins-are group_is

  few-columns : role_columns 0 pins ≤ Size.columns
  few-columns = Group.few-columns kind fits.links_fit.kind_fits library netlist g e gate-fits value lines pins group lines_are pins-are group_is

  rows_fit : GroupFits library group (role_columns 0 pins)
  rows_fit = Group.rows_fit kind fits.links_fit.kind_fits library netlist g e gate-fits value lines pins group lines_are pins-are group_is

  pub rows-room : group + 1 + Size.row_words * get_or library group 0 ≤ length library
  rows-room = rows_fit.room

  pub least_fits_lem : (wired : Bool) (costs : List ℕ) → length costs ≡ Size.columns → LeastFits wired kind library group pins costs
  least_fits_lem = Group.least_fits_lem kind fits.links_fit.kind_fits library netlist g e gate-fits value lines pins group lines_are pins-are group_is

  pub gather-fits : (costs : List ℕ) → length costs ≡ Size.columns → GatherFits true 0 kind lines pins numbers costs
  gather-fits costs size = Group.gather-fits kind fits.links_fit.kind_fits library netlist g e gate-fits value lines pins group lines_are pins-are group_is numbers costs fits.size size

  pub place_inside : (place : ℕ) → place ≡ visit_place 0 kind lines e → place < Size.numbers
  unfolding by_role pick
  place_inside place place_is = rw place_is (omega (arith, fits.links_fit.kind_fits, lines_fit_lem.least 0 (omega arith), lines_fit_lem.most 0 (omega arith)))

  pub place-kind : (place : ℕ) → place ≡ visit_place 0 kind lines e → place_kind place ≡ kind
  unfolding by_role pick
  place-kind place place_is = rw place_is (setting-kind kind (get_or lines 0 0) e fits.links_fit.kind_fits value)

  module _ (place : ℕ) (place_is : place ≡ visit_place 0 kind lines e) (wired : Bool) (tied : wired ≡ gate_tied library netlist g) where
    abbrev here : Visit
    here = group_visit wired kind lines pins library group place

    abbrev read : ℕ → Option ℕ
    read = read_row wired lines pins

    narrow : (c x : ℕ) → c < 2 ^ role_columns 0 pins → read c ≡ some x → x < 2 ^ role_columns 0 pins
    narrow = Group.narrow kind fits.links_fit.kind_fits library netlist g e gate-fits value lines pins group lines_are pins-are group_is place place_is wired tied

    same-visit : here ≡ turn_visit kind library netlist g e
    same-visit = Group.same-visit kind fits.links_fit.kind_fits library netlist g e gate-fits value lines pins group lines_are pins-are group_is place place_is wired tied

    module _ (costs : List ℕ) (gathered : Gathered (role_columns 0 pins) kind lines pins numbers costs) (found : Sum) (least_of : Summed kind (least costs (group_columns read library group)) found) where
      abbrev lowest : ℕ
      lowest = sum_number found

      least_is_lem : lowest ≡ least numbers here.ways
      least_is_lem = least_of.comes_to ∙ Group.columns-least kind fits.links_fit.kind_fits library netlist g e gate-fits value lines pins group lines_are pins-are group_is place place_is wired tied numbers costs gathered

      number_is_lem : at numbers here.node ≡ get_or numbers place 0
      unfolding group_visit
      number_is_lem = at_getD numbers place 0 (omega (arith, fits.size, place_inside place place_is))

      -- What was stored, and whether another number stood there.
      module _ {number : ℕ} {ys : List ℕ} {changed : Bool} (taken : number ≡ lesser (get_or numbers place 0) lowest) (stored : Stored place number numbers ys changed) where
        stood : get_or numbers place 0 ≡ at numbers place
        stood = sym (at_getD numbers place 0 (omega (arith, fits.size, place_inside place place_is)))

        still-there : changed ≡ false → number ≡ get_or numbers place 0
        still-there e = eqb-true number (at numbers place) (not-false _ (sym stored.flag ∙ e)) ∙ sym stood

        below : changed ≡ true → lowest < get_or numbers place 0
        unfolding lesser counted
        below e =
            let other = eqb-false number (at numbers place) (not-true _ (sym stored.flag ∙ e)) in
            let apart : number ≡ get_or numbers place 0 → ⊥ = λ q. other (q ∙ stood) in
            go (dec_le (get_or numbers place 0) lowest) apart
          where
            go : Dec (get_or numbers place 0 ≤ lowest) → (number ≡ get_or numbers place 0 → ⊥) → lowest < get_or numbers place 0
            go (yes h) apart = absurd (apart (omega (arith, taken, least_is_lem, least-bound numbers here.ways)))
            go (no h) apart = omega arith

        not-below : changed ≡ false → get_or numbers place 0 ≤ lowest
        unfolding lesser counted
        not-below e = omega (arith, taken, still-there e)

        same_numbers : changed ≡ false → ys ≡ numbers
        same_numbers e = stored.numbers ∙ ap (set numbers place) (still-there e) ∙ set-get_or numbers place 0

        lowered-numbers : changed ≡ true → ys ≡ set numbers place lowest
        unfolding lesser counted
        lowered-numbers e = stored.numbers ∙ ap (set numbers place) (omega (arith, taken, below e, least_is_lem, least-bound numbers here.ways))

        swept-here : Swept (turn_visit kind library netlist g e ∷ []) numbers ys changed
        unfolding group_visit
        swept-here =
            rw (← same-visit)
            (swept-one (visited here numbers (omega (arith, fits.size, place_inside place place_is)) stored (taken ∙ ap (lesser (get_or numbers place 0)) least_is_lem)))

        pub traced_still : (clock : ℕ) → changed ≡ false → Traced kind library netlist (turn_visit kind library netlist g e ∷ []) clock numbers marks ys marks false
        unfolding trace_sweep group_visit
        traced_still clock q =
            record {
              stands = λ t r s.
                  rw (same_numbers q, ← same-visit)
                  (stands-still kind library netlist t numbers marks s here (omega (arith, number_is_lem, least_is_lem, not-below q)));
              swept = rw q at swept-here;
              marks_long = refl;
            }

      node_is : here.node ≡ setting_place kind (get_or lines 0 0) e
      unfolding group_visit by_role pick
      node_is = place_is

      -- The row that the number was lowered by.
      module _ (first : ℕ) (first_of : FirstOf read library group costs first) where
        row_is_lem : first ≡ gate_row kind library netlist g e (first_place numbers here.ways)
        unfolding group_visit by_role pick
        row_is_lem =
            first_of.row
            ∙ ap (way_row read library (get_or library group 0) (group + 1)) (first_same gathered read narrow library group few-columns rows_fit)
            ∙ rw (group_is, tied, lines_are, pins-are)

        -- It may be read.
        pub row_fits_lem : {number : ℕ} {ys : List ℕ} {changed : Bool} → number ≡ lesser (get_or numbers place 0) lowest → Stored place number numbers ys changed → changed ≡ true
            → ReadFits wired pins (get_or library (group + 1 + Size.row_words * first + 1) 0)
        unfolding by_role pick
        row_fits_lem taken stored f =
            let b : at numbers place ≤ never = fits.bounded place in
            record { few = lines_fit_lem.count; within = λ w. rows_fit.columns first (first_of.some (omega (arith, below taken stored f, stood taken stored, least_of.comes_to))) }

        noted : (t : Trace) (line clock row columns last : ℕ) → t.time ≡ clock → line ≡ get_or lines 0 0
            → row ≡ written_row library netlist g (row_place kind netlist g e (first)) → columns ≡ asking_row library netlist g (row_place kind netlist g e (first))
            → last ≡ last_pin library netlist g → lowest < get_or numbers place 0
            → Stands kind library netlist t numbers marks
            → Stands kind library netlist (trace_visit lower t here) (set numbers here.node lowest) (sets marks (mark_place line e) ((clock + 1) ∷ row ∷ columns ∷ last ∷ []))
        noted t line clock row columns last q l d c p h s =
            let time : clock + 1 ≡ suc t.time = omega arith in
            rw (time, l, d, c, p)
            (stands-lowered kind library netlist t numbers marks s here g (get_or lines 0 0) e node_is inside
            (ap (λ (ls : List ℕ). get_or ls 0 0) (sym lines_are)) fits.links_fit.kind_fits (lines_fit_lem.least 0 (omega arith)) (lines_fit_lem.most 0 (omega arith)) value fits.marks_size
            (lowest) (first) least_is_lem row_is_lem (omega (arith, number_is_lem, least_is_lem)))

        pub traced_lowered : {number : ℕ} {ys : List ℕ} {changed : Bool} → number ≡ lesser (get_or numbers place 0) lowest → Stored place number numbers ys changed → changed ≡ true
            → (line clock row columns last : ℕ) → line ≡ get_or lines 0 0
            → row ≡ written_row library netlist g (row_place kind netlist g e (first)) → columns ≡ asking_row library netlist g (row_place kind netlist g e (first))
            → last ≡ last_pin library netlist g
            → (marks' : List ℕ) → marks' ≡ sets marks (mark_place line e) ((clock + 1) ∷ row ∷ columns ∷ last ∷ [])
            → Traced kind library netlist (turn_visit kind library netlist g e ∷ []) clock numbers marks ys marks' true
        unfolding trace_sweep group_visit
        traced_lowered taken stored f line clock row columns last l d c p marks' m =
            record {
              stands = λ t q s.
                  rw (lowered-numbers taken stored f, ← same-visit, m)
                  (noted t line clock row columns last q l d c p (below taken stored f) s);
              swept = rw f at (swept-here taken stored);
              marks_long = ap length m ∙ length-sets marks (mark_place line e) ((clock + 1) ∷ row ∷ columns ∷ last ∷ []);
            }
