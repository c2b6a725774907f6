-- A gate's visits, turn by turn: what one asks of the costs of its columns, and what it leaves of them to the next.
use Rattle.common_laws.proofs.Base.{Bool, true, false, true≢false, List, List-as-Memᴰ, ◌≡◌, refl, sym, ap, subst, ◌∙◌, ℕ, ◌+◌, ◌*◌, ◌-◌, ◌/◌, ◌≤◌, ◌<◌, ℕ_discrete, dec_le, arith}
use Rattle.common_laws.proofs.Base.{length, get_or}
use Rattle.sizes.specs.Sizes as Size
use Rattle.sizes.specs.Places.{group_place, observing_place}
use Rattle.plans.specs.System.{Way, Visit}
use Rattle.plans.specs.Sweep.{at}
use Rattle.plans.proofs.Laws.{at_getD}
use Rattle.netlist_table.specs.Gates.{gate_cell, gate_lines}
use Rattle.sweep_sums.specs.Sums.{place_kind}
use Rattle.reading.specs.Choice.{pick}
use Rattle.sweep_groups.specs.Tables.{column_place, by_role, role_columns, visit_count, visit_group, visit_place, gate_tied, visit_wired, group_visit, gate_visit}
use Rattle.sweep_groups.specs.Fits.{LinesFit, Gathered, GatherFits, GroupFits, GateFits}
use Rattle.sweep_groups.proofs.Gathered.{group_wider}
use Rattle.sweep_groups.proofs.Rows.{line-column, observe-column}
use Rattle.sweep_groups.proofs.Roles.{role_set, role-observed}
use Rattle.sweep_turns.specs.VisitFits.{VisitFits, CostsOf}
use Rattle.sweep_turns.specs.Fits.{TurnFits, GateReadFits}
use Rattle.sweep_turns.specs.Order.{turn_group, read_visit}
use Rattle.sweep_turns.specs.Renewed.{Led, Renewed}
use Rattle.sweep_turns.specs.Wakes.{OwnUnread}
use Rattle.sweep_turns.proofs.VisitsLaws.{visit-keeps, visit_is}

columns-few : (role : ℕ) {lines : List ℕ} {pins : ℕ} → LinesFit lines pins → role_columns role pins ≤ Size.columns
columns-few role {lines} {pins} f = go (ℕ_discrete role 0)
  where
    go : Dec (role ≡ 0) → role_columns role pins ≤ Size.columns
    go (yes e) = rw (role_set role (2 * pins) (2 * pins + 3) e) (omega (arith, f.count))
    go (no e) = rw (role-observed role (2 * pins) (2 * pins + 3) e) (omega (arith, f.count))

-- Rows are read as those of one wire only where lines are set.
pub wired-setting : (role : ℕ) (tied : Bool) → by_role role tied false ≡ true → role ≡ 0
wired-setting role tied e = go (ℕ_discrete role 0)
  where
    go : Dec (role ≡ 0) → role ≡ 0
    go (yes z) = z
    go (no z) = absurd (true≢false (sym e ∙ role-observed role tied false z))

-- The rows of a group that stands there.
pub rows_same : (role : ℕ) {library : List ℕ} {group place pins count : ℕ} → group ≡ place → pins ≡ count
    → GroupFits library place (role_columns role count) → GroupFits library group (role_columns role pins)
rows_same role e n f = rw (e, n) f

-- A visit that was made is another that is the same.
pub renewed-same : {role number : ℕ} {xs ys : List ℕ} {b : Bool} {u v : Visit} → u ≡ v
    → (Led role number xs u → Renewed u xs ys b) → Led role number xs v → Renewed v xs ys b
renewed-same {role} {number} {xs} {ys} {b} e = subst (λ (v : Visit). Led role number xs v → Renewed v xs ys b) e

module _ (role : ℕ) {kind : ℕ} {lines : List ℕ} {pins : ℕ} (kinds : kind ≤ 1) (fit : LinesFit lines pins) where
  -- Before the first turn nothing is gathered.
  pub gather_first : {xs costs : List ℕ} → length xs ≡ Size.numbers → length costs ≡ Size.columns → GatherFits true role kind lines pins xs costs
  gather_first n e =
      record {
        kind_fits = kinds;
        row_fits = record { lines_fit = fit; size = n };
        size = e;
        fresh = λ t. absurd (true≢false t);
      }

  -- Where the ways of a visit need the gate's output observed, its cost is the last that was gathered.
  pub led : {ys costs : List ℕ} {u v : Visit} → u ≡ v → Gathered (role_columns role pins) kind lines pins ys costs
      → ((role ≡ 0 → ⊥) → (w : Way) → List-as-Memᴰ w v.ways → List-as-Memᴰ (observing_place kind (get_or lines 0 0)) w.needs)
      → Led role (get_or costs (2 * pins + 2) 0) ys u
  led {ys} {costs} {u} {v} same g needed h =
      let few = fit.count in
      let all : role_columns role pins ≡ 2 * pins + 3 = role-observed role (2 * pins) (2 * pins + 3) h in (
        observing_place kind (get_or lines 0 0),
        sym (at_getD costs (2 * pins + 2) 0 (omega (arith, g.size)))
            ∙ g.each (2 * pins + 2) (omega (arith, all))
            ∙ ap (at ys) (observe-column kind lines pins (2 * pins + 2) (omega arith)),
        rw same (needed h),
      )

  -- At a turn the costs are those of the present numbers `ys`.
  module _ {library : List ℕ} {group : ℕ} (rows : GroupFits library group (role_columns role pins)) {ys costs : List ℕ} (n : length ys ≡ Size.numbers) (g : Gathered (role_columns role pins) kind lines pins ys costs) where
    pub visit-fits : {wired : Bool} {place : ℕ} → (wired ≡ true → role ≡ 0) → place < Size.numbers → place_kind place ≡ kind → VisitFits wired kind library group costs ys place pins
    visit-fits w inside k =
        record {
          least_fits =
              record {
                few = fit.count;
                sum_fits = record { kind_fits = kinds; group_fits = group_wider (columns-few role fit) rows; size = g.size };
                within = λ t. rw (role_set role (2 * pins) (2 * pins + 3) (w t)) at rows;
              };
          size = n;
          place_fits = inside;
          of_kind = k;
        }

    pub costs-of : CostsOf kind library group lines pins ys costs
    costs-of = record { count = role_columns role pins; few = columns-few role fit; gathered = g; group_fits = rows }

-- ---- places that are not gathered

module _ {kind : ℕ} {lines : List ℕ} {pins : ℕ} (kinds : kind ≤ 1) (fit : LinesFit lines pins) (i j : ℕ) where
  -- Where lines are set, the gate's own line, if no pin reads it.
  pub set_apart : OwnUnread lines pins → i ≤ 1 → j < role_columns 0 pins → visit_place 0 kind lines i ≡ column_place kind lines pins j → ⊥
  unfolding by_role pick
  set_apart unread value few e =
      let k = pins - j / 2 in
      let b : k ≤ pins = omega arith in
      let same = e ∙ line-column kind lines pins j (omega arith) in
      unread k (omega arith) b (omega (arith, same, fit.least 0 (omega arith), fit.least k b))

  -- Where lines are observed, a pin's line that is not the gate's own.
  pub observed-apart : (get_or lines (i + 1) 0 ≡ get_or lines 0 0 → ⊥) → i < pins → visit_place 1 kind lines i ≡ column_place kind lines pins j → ⊥
  unfolding by_role pick
  observed-apart other turn e = go (dec_le (j / 2) pins)
    where
      go : Dec (j / 2 ≤ pins) → ⊥
      go (yes h) =
          let k = pins - j / 2 in
          let same = e ∙ line-column kind lines pins j h in
          omega (arith, same, fit.least (i + 1) (omega arith), fit.least k (omega arith))
      go (no h) =
          let same = e ∙ observe-column kind lines pins j (omega arith) in
          other (omega (arith, same, fit.least 0 (omega arith), fit.least (i + 1) (omega arith)))

-- ---- a gate of which the cell and the pins were read

module _ {role kind : ℕ} {library netlist numbers : List ℕ} {gate cell pins : ℕ} (f : GateReadFits role kind library netlist numbers gate cell pins) where
  abbrev kinds : kind ≤ 1
  kinds = f.visits_fit.links_fit.kind_fits

  pub gate-fits : GateFits library netlist gate
  gate-fits = f.visits_fit.links_fit.tables_fit.gates gate f.visits_fit.inside

  module _ (lines : List ℕ) (lines_are : lines ≡ gate_lines netlist gate) where
    pub lines_fit_lem : LinesFit lines pins
    lines_fit_lem = rw (lines_are, f.pins_are) gate-fits.lines

    -- A visit that changes no number which was gathered leaves the costs as they are.
    pub gather-next : (i : ℕ) {ys zs costs : List ℕ} {changed stale : Bool} → Gathered (role_columns role pins) kind lines pins ys costs
        → Renewed (gate_visit role kind library netlist gate i) ys zs changed → length zs ≡ Size.numbers
        → (stale ≡ false → changed ≡ true → (j : ℕ) → j < role_columns role pins → visit_place role kind lines i ≡ column_place kind lines pins j → ⊥)
        → GatherFits stale role kind lines pins zs costs
    unfolding gate_visit group_visit
    gather-next i g r m apart =
        record {
          kind_fits = kinds;
          row_fits = record { lines_fit = lines_fit_lem; size = m };
          size = g.size;
          fresh = λ e.
              record {
                size = g.size;
                each = λ j h.
                    g.each j h
                    ∙ sym (visit-keeps (gate_visit role kind library netlist gate i) r (column_place kind lines pins j)
                    (λ q n. apart e q j h (ap (λ (ls : List ℕ). visit_place role kind ls i) lines_are ∙ n)));
              };
        }

    module _ (wired : Bool) (wired_is : wired ≡ visit_wired role library netlist gate) (i : ℕ) (turn : i < visit_count role pins) where
      group_is : turn_group role kind cell i ≡ group_place (gate_cell netlist gate) (visit_group role kind i)
      group_is = ap (λ (c : ℕ). c + Size.groups_at + visit_group role kind i * Size.group_words) f.cell_is

      module _ {ys costs : List ℕ} (g : Gathered (role_columns role pins) kind lines pins ys costs) where
        pub turn-fits : length ys ≡ Size.numbers → TurnFits role kind library cell wired lines pins costs ys i
        turn-fits n =
            record {
              kind_fits = kinds;
              lines_fit = lines_fit_lem;
              turn = turn;
              room = rw f.cell_is gate-fits.cell;
              rows =
                  rows_same role group_is f.pins_are
                  (gate-fits.groups role kind i f.visits_fit.links_fit.role_fits kinds (subst (λ (n : ℕ). i < visit_count role n) f.pins_are turn));
              setting = λ t. wired-setting role (gate_tied library netlist gate) (sym wired_is ∙ t);
              size = n;
              gathered = g;
            }

        -- The visit that was made is the gate's.
        pub turn-made : {zs : List ℕ} {b : Bool}
            → (Led role (get_or costs (2 * pins + 2) 0) ys (read_visit role kind library cell wired lines pins i) → Renewed (read_visit role kind library cell wired lines pins i) ys zs b)
            → Renewed (gate_visit role kind library netlist gate i) ys zs b
        turn-made made =
            let this =
            visit_is role kind library netlist gate i (turn_group role kind cell i) (visit_place role kind lines i) pins lines wired wired_is lines_are f.pins_are group_is refl in
            rw this at (made
            (led role kinds lines_fit_lem this g
            (λ h. rw (← lines_are) at (f.visits_fit.links_fit.needs.leads gate i f.visits_fit.inside (subst (λ (n : ℕ). i < visit_count role n) f.pins_are turn) h))))
