-- The group of a gate's output at a value, out of the tables: its rows over the costs of the gate's columns.
use Rattle.common_laws.proofs.Base.{Bool, true, List, Option, some, ◌≡◌, ℕ, ◌*◌, ◌^◌, ◌≤◌, ◌<◌, arith, length}
use Rattle.sizes.specs.Sizes as Size
use Rattle.sizes.specs.Places.{group_place}
use Rattle.reading.specs.Choice.{pick}
use Rattle.plans.specs.Sweep.{least}
use Rattle.netlist_table.specs.Gates.{gate_cell, gate_lines}
use Rattle.sweep_groups.specs.Tables.{read_row, group_columns, gate_pins, by_role, role_columns, visit_group, visit_place, gate_tied, visit_wired, group_visit, gate_visit}
use Rattle.sweep_groups.specs.Fits.{LinesFit, Gathered, GatherFits, GroupFits, GateFits, LeastFits}
use Rattle.sweep_groups.proofs.Gathered.{group_same, group_wider, read-narrow}
use Rattle.sweep_turns.proofs.VisitsLaws.{visit_is}
use Rattle.sweep_turns.proofs.Turns.{gather_first, rows_same}

module _ (kind : ℕ) (kind_fits_lem : kind ≤ 1) (library netlist : List ℕ) (g e : ℕ) (gate-fits : GateFits library netlist g) (value : e ≤ 1)
    (lines : List ℕ) (pins group : ℕ) (lines_are : lines ≡ gate_lines netlist g) (pins-are : pins ≡ gate_pins library netlist g)
    (group_is : group ≡ group_place (gate_cell netlist g) (visit_group 0 kind e)) where
  pub lines_fit_lem : LinesFit lines pins
  lines_fit_lem = rw (lines_are, pins-are) gate-fits.lines

  pub few-columns : role_columns 0 pins ≤ Size.columns
  unfolding by_role pick
  few-columns = omega (arith, lines_fit_lem.count)

  pub rows_fit : GroupFits library group (role_columns 0 pins)
  unfolding by_role pick
  rows_fit = rows_same 0 group_is pins-are (gate-fits.groups 0 kind e (omega arith) kind_fits_lem (omega arith))

  pub least_fits_lem : (wired : Bool) (costs : List ℕ) → length costs ≡ Size.columns → LeastFits wired kind library group pins costs
  unfolding by_role pick
  least_fits_lem wired costs size =
      record {
        few = lines_fit_lem.count;
        sum_fits = record { kind_fits = kind_fits_lem; group_fits = group_wider few-columns rows_fit; size = size };
        within = λ w. rows_fit;
      }

  pub gather-fits : (numbers costs : List ℕ) → length numbers ≡ Size.numbers → length costs ≡ Size.columns → GatherFits true 0 kind lines pins numbers costs
  gather-fits numbers costs size columns = gather_first 0 kind_fits_lem lines_fit_lem size columns

  module _ (place : ℕ) (place_is : place ≡ visit_place 0 kind lines e) (wired : Bool) (tied : wired ≡ gate_tied library netlist g) where
    wired_is : wired ≡ visit_wired 0 library netlist g
    unfolding by_role pick
    wired_is = tied

    -- What the rows come to is the gate's visit,
    pub same-visit : group_visit wired kind lines pins library group place ≡ gate_visit 0 kind library netlist g e
    same-visit = visit_is 0 kind library netlist g e group place pins lines wired wired_is lines_are pins-are group_is place_is

    abbrev pub read : ℕ → Option ℕ
    read = read_row wired lines pins

    pub narrow : (c x : ℕ) → c < 2 ^ role_columns 0 pins → read c ≡ some x → x < 2 ^ role_columns 0 pins
    unfolding by_role pick
    narrow = read-narrow wired lines pins (2 * pins) (omega (arith, lines_fit_lem.count))

    -- and the least over the costs of the columns is the least over the numbers.
    pub columns-least : (numbers costs : List ℕ) → Gathered (role_columns 0 pins) kind lines pins numbers costs
        → least costs (group_columns read library group) ≡ least numbers (group_visit wired kind lines pins library group place).ways
    unfolding group_visit
    columns-least numbers costs gathered = group_same gathered read narrow library group few-columns rows_fit
