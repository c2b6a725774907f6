-- A row of a gate, read out of the library table as its gate's rows are, is the way that specs/Ways.antt of crate `calculation`
-- makes of it, if it is one.
use Rattle.common_laws.proofs.Base.{Bool, true, false, not, ◌&&◌, List, [], ◌∷◌, Option, none, some, ◌≡◌, refl, sym, ap, ◌∙◌, ℕ, suc, ◌*◌, ◌-◌, ◌^◌, ◌≤◌, ◌<◌, arith, length, get_or}
use Rattle.sizes.specs.Sizes as Size
use Rattle.reading.specs.Choice.{pick}
use Rattle.plans.specs.System.{Way}
use Rattle.table.proofs.Places.{getD_fitted}
use Rattle.library_table.specs.Cells.{Row, Cell, Column, setting_columns, named}
use Rattle.library_table.specs.Library.{column_count}
use Rattle.netlist_table.specs.Netlist.{Gate}
use Rattle.netlist_table.specs.Layout.{gate_line_words}
use Rattle.calculation.specs.Nodes.{Kind, combinational, sequential, kind_number}
use Rattle.calculation.specs.Ways.{pin_line, needs, Role, setting, observing, word_of, columns_of, named_by, both_values, one_wire, merges, once, needs_both, asks, is_way, way_of}
use Rattle.sweep_wires.specs.Wires.{once_columns, both_columns, shares_line}
use Rattle.sweep_wires.proofs.RowBits.{once-few, once-columns, both-columns, once_untied, needs_untied}
use Rattle.sweep_groups.specs.Tables.{row_places, read_row, has_way, with_way}
use Rattle.sweep_groups.proofs.Named.{setting-places, role-places}

-- Whether a gate's rows are read as those of one wire, by the role.
abbrev pub role_wired : Gate → Cell → Role → Bool
role_wired g c (setting e) = shares_line (gate_line_words g) c.pins && one_wire c
role_wired g c (observing i) = false

module _ (k : Kind) (g : Gate) (c : Cell) (few : c.pins ≤ Size.pins) (r : Row) where
  abbrev n : ℕ
  n = c.pins

  abbrev x : ℕ
  x = r.columns

  abbrev places : ℕ → List ℕ
  places = row_places (kind_number k) (gate_line_words g) n

  abbrev lines : List ℕ
  lines = gate_line_words g

  pub pins-read : (p : ℕ) → 1 ≤ p → p ≤ n → get_or lines p 0 ≡ pin_line g p
  unfolding pin_line
  pins-read p a b =
      let e : p ≡ suc (p - 1) = omega arith in
      ap (λ (q : ℕ). get_or lines q 0) e ∙ getD_fitted 0 Size.pins g.pins (p - 1) (omega arith)

  -- A row that is read as it stands.
  plainly : (ns : List ℕ) → places x ≡ ns → (ws : List Way) → with_way r.depth places (some x) ws ≡ record { depth = r.depth; needs = ns } ∷ ws
  unfolding with_way
  plainly ns e ws = rw e

  module _ (stands : places x ≡ needs k g (named n (setting_columns n) x)) (within : x < 2 ^ (2 * n)) where
    most : 2 * n ≤ 32
    most = omega (arith, few)

    abbrev names : List Column
    names = named n (setting_columns n) x

    setting-read : (s w : Bool) → shares_line lines n ≡ s → (w ≡ true → both_values n n x ≡ false) → (ws : List Way)
        → with_way r.depth places (read_row (s && w) lines n x) ws
        ≡ pick (not (w && needs_both g [] names)) (record { depth = r.depth; needs = needs k g (pick w (once g [] names) names) } ∷ ws) ws
    unfolding read_row pick
    setting-read true false p q ws = plainly (needs k g names) stands ws
    setting-read false false p q ws = plainly (needs k g names) stands ws
    setting-read false true p q ws =
        rw (needs_untied g n lines pins-read x most within p (q refl), once_untied g n lines pins-read x most within p (q refl)) (plainly (needs k g names) stands ws)
    setting-read true true p q ws = rw (← both-columns g n lines pins-read x most within) (side (both_columns lines n x))
      where
        once-stands : places (once_columns lines n x) ≡ needs k g (once g [] names)
        once-stands =
            setting-places k g n few (once_columns lines n x) (once-few lines n x (2 * n) most within) ∙ ap (needs k g) (once-columns g n lines pins-read x most within)

        side : (b : Bool)
            → with_way r.depth places (pick b none (some (once_columns lines n x))) ws
            ≡ pick (not b) (record { depth = r.depth; needs = needs k g (once g [] names) } ∷ ws) ws
        side true = unfold with_way in refl
        side false = unfold with_way in rw once-stands

-- One row.
pub row_read : (k : Kind) (g : Gate) (c : Cell) (role : Role) → c.pins ≤ Size.pins → (r : Row) → r.columns < 2 ^ column_count (word_of k role) c.pins
    → (one_wire c ≡ true → both_values c.pins c.pins r.columns ≡ false) → (ws : List Way)
    → with_way r.depth (row_places (kind_number k) (gate_line_words g) c.pins) (read_row (role_wired g c role) (gate_line_words g) c.pins r.columns) ws
    ≡ pick (is_way g c role r) (way_of k g c role r ∷ ws) ws
unfolding is_way way_of asks merges named_by columns_of
row_read k g c (setting e) few r b q ws =
    setting-read k g c few r (role-places k g c (setting e) few r b) (within k b) (shares_line (gate_line_words g) c.pins) (one_wire c) refl q ws
  where
    within : (k : Kind) → r.columns < 2 ^ column_count (word_of k (setting e)) c.pins → r.columns < 2 ^ (2 * c.pins)
    within combinational h = unfold word_of column_count in h
    within sequential h = unfold word_of column_count in h
row_read k g c (observing i) few r b q ws =
    unfold read_row pick in plainly k g c few r (needs k g (named_by c (observing i) r)) (role-places k g c (observing i) few r b) ws

-- ---- a row that sets a value: whether it is a way, and by which columns it asks

module _ (g : Gate) (c : Cell) (e : ℕ) (few : c.pins ≤ Size.pins) (r : Row) (within : r.columns < 2 ^ (2 * c.pins))
    (lone : one_wire c ≡ true → both_values c.pins c.pins r.columns ≡ false) where
  abbrev wired : Bool
  wired = role_wired g c (setting e)

  -- A way is one way more.
  told : (o : Option ℕ) (b : Bool) (w : Way) → with_way r.depth (row_places (kind_number combinational) (gate_line_words g) c.pins) o [] ≡ pick b (w ∷ []) [] → has_way o ≡ b
  unfolding with_way has_way pick
  told none true w h = let z : ◌≡◌ {A = ℕ} 0 1 = ap length h in absurd (omega arith)
  told none false w h = refl
  told (some y) true w h = refl
  told (some y) false w h = let z : ◌≡◌ {A = ℕ} 1 0 = ap length h in absurd (omega arith)

  pub way-told : has_way (read_row wired (gate_line_words g) c.pins r.columns) ≡ is_way g c (setting e) r
  way-told =
      told (read_row wired (gate_line_words g) c.pins r.columns) (is_way g c (setting e) r) (way_of combinational g c (setting e) r)
      (row_read combinational g c (setting e) few r (unfold word_of column_count in within) lone [])

  abbrev all : List Column
  all = named c.pins (setting_columns c.pins) r.columns

  abbrev asking : Bool → ℕ
  asking b = pick b (once_columns (gate_line_words g) c.pins r.columns) r.columns

  pub asking-few : (b : Bool) → asking b < 2 ^ (2 * c.pins)
  unfolding pick
  asking-few true = once-few (gate_line_words g) c.pins r.columns (2 * c.pins) (omega (arith, few)) within
  asking-few false = within

  asking_by : (s w : Bool) → shares_line (gate_line_words g) c.pins ≡ s → (w ≡ true → both_values c.pins c.pins r.columns ≡ false)
      → named c.pins (setting_columns c.pins) (asking (s && w)) ≡ pick w (once g [] all) all
  unfolding pick
  asking_by true true p q = once-columns g c.pins (gate_line_words g) (pins-read combinational g c few r) r.columns (omega (arith, few)) within
  asking_by false true p q = sym (once_untied g c.pins (gate_line_words g) (pins-read combinational g c few r) r.columns (omega (arith, few)) within p (q refl))
  asking_by true false p q = refl
  asking_by false false p q = refl

  pub asking_named : named c.pins (setting_columns c.pins) (asking wired) ≡ asks g c (setting e) r
  unfolding asks merges named_by columns_of
  asking_named = asking_by (shares_line (gate_line_words g) c.pins) (one_wire c) refl lone
