-- The gates of the tables of accepted cells and statements: read place for place their visits are those of crate `calculation`,
-- and every place that is read is there.
use Rattle.common_laws.proofs.Base.{Bool, true, false, ◌&&◌, List, [], ◌++◌, ◌∷◌, map, List-as-Memᴰ, List-Memᴰ-head, List-Memᴰ-tail, Option, ◌≡◌, refl, ap, ◌∙◌, ℕ, zero, suc, ◌+◌}
use Rattle.common_laws.proofs.Base.{◌*◌, ◌-◌, ◌^◌, ◌≤◌, ◌<◌, arith, length, get_or, length-append}
use Rattle.sizes.specs.Sizes as Size
use Rattle.sizes.specs.Places.{group_place}
use Rattle.cost.specs.Cost.{over}
use Rattle.plans.specs.System.{Way}
use Rattle.reading.specs.Choice.{pick}
use Rattle.table.proofs.Places.{getD_fitted}
use Rattle.reading.proofs.Laws.{each_at}
use Rattle.library_table.specs.Cells.{Row, Group, Cell, no_row}
use Rattle.library_table.specs.Library.{column_count, word_groups}
use Rattle.library_table.specs.Layout.{library_words, cell_groups, first_group}
use Rattle.library_table.specs.Sound.{SoundRow}
use Rattle.library_table.proofs.Places.{length-library_words, cell-pins, group_count_lem, row_depth, row_columns, cell_group, within-space, first_most}
use Rattle.netlist_table.specs.Netlist.{Gate, Statement, gates_of}
use Rattle.netlist_table.specs.Layout.{gate_line_words, netlist_words}
use Rattle.netlist_table.specs.Gates.{gate_cell, gate_lines, no_gate}
use Rattle.netlist_table.specs.Sound.{InRange, GateSound}
use Rattle.netlist_table.proofs.Laws.{gate-sound}
use Rattle.netlist_table.proofs.HeldGates.{cell-held, lines-held}
use Rattle.netlist_table.proofs.Places.{netlist-room, netlist-count}
use Rattle.calculation.specs.Acceptance.{BothSound}
use Rattle.calculation.specs.Nodes.{Kind, combinational, sequential, kind_number}
use Rattle.calculation.specs.Ways.{no_cell, cell_of, pin_line, Role, setting, observing, purpose_of, word_of, group_index, group_of, both_values, one_wire, is_way, usable, way_of, ways_of, visit}
use Rattle.calculation.proofs.Acceptance.{has_index, gate-cell, pin-count, gate-groups, role_group_lem, role_row, depth-figure}
use Rattle.calculation.proofs.Visits.{getD_listed, Has}
use Rattle.sweep_groups.specs.Tables.{row_places, read_row, with_way, row_ways, group_ways, group_visit, gate_pins, by_role, role_columns, visit_count, visit_group, gate_tied, visit_wired, gate_visit}
use Rattle.sweep_wires.specs.Wires.{shares_line, tied_at}
use Rattle.sweep_wires.proofs.Cells.{one-wire_row, cell-one-wire}
use Rattle.sweep_groups.specs.Fits.{GroupFits, GateFits, TablesFit}
use Rattle.sweep_groups.proofs.Named.{set-node, observe-node}
use Rattle.sweep_groups.proofs.RowWays.{role_wired, row_read}

-- ---- rows

module _ (k : Kind) (g : Gate) (c : Cell) (role : Role) (library : List ℕ) (read : ℕ → Option ℕ) (places : ℕ → List ℕ) where
  rows-ways : (rs : Group) (place : ℕ)
      → ((r : ℕ) → r < length rs → get_or library (place + Size.row_words * r) 0 ≡ (get_or rs r no_row).depth)
      → ((r : ℕ) → r < length rs → get_or library (place + Size.row_words * r + 1) 0 ≡ (get_or rs r no_row).columns)
      → ((r : Row) → List-as-Memᴰ r rs → (ws : List Way) → with_way r.depth places (read r.columns) ws ≡ pick (is_way g c role r) (way_of k g c role r ∷ ws) ws)
      → row_ways read places library (length rs) place ≡ ways_of k g c role rs
  unfolding row_ways ways_of usable
  rows-ways [] place d q p = refl
  rows-ways (r ∷ rs) place d q p =
      let z : place + Size.row_words * 0 ≡ place = omega arith in
      let d0 : get_or library place 0 ≡ r.depth = rw z at (d 0 (omega arith)) in
      let c0 : get_or library (place + 1) 0 ≡ r.columns = rw z at (q 0 (omega arith)) in
      rw (d0, c0)
      (ap (with_way r.depth places (read r.columns))
      (rows-ways rs (place + Size.row_words)
      (λ i h. rw (next i) (d (suc i) (omega arith)))
      (λ i h. rw (next i) (q (suc i) (omega arith)))
      (λ y m. p y (List-Memᴰ-tail m)))
      ∙ p r (List-Memᴰ-head refl) (map (way_of k g c role) (usable g c role rs))
      ∙ mapped (is_way g c role r))
    where
      next : (i : ℕ) → place + Size.row_words + Size.row_words * i ≡ place + Size.row_words * suc i
      next i = omega arith

      mapped : (b : Bool)
          → pick b (way_of k g c role r ∷ map (way_of k g c role) (usable g c role rs)) (map (way_of k g c role) (usable g c role rs))
          ≡ map (way_of k g c role) (pick b (r ∷ usable g c role rs) (usable g c role rs))
      mapped true = unfold pick in refl
      mapped false = unfold pick in refl

-- A role as the tables count it.
abbrev pub role_number : Role → ℕ
role_number (setting e) = 0
role_number (observing i) = 1

-- The group of a role among those of a cell.
abbrev role_group : Kind → Role → ℕ
role_group k role = visit_group (role_number role) (kind_number k) (group_index role)

role_first : (k : Kind) (role : Role) → role_group k role ≡ first_group (word_of k role) + group_index role
unfolding by_role pick first_group word_of group_index
role_first combinational (setting e) = omega arith
role_first sequential (setting e) = omega arith
role_first combinational (observing i) = omega arith
role_first sequential (observing i) = omega arith

role-width : (k : Kind) (role : Role) (n : ℕ) → column_count (word_of k role) n ≡ role_columns (role_number role) n
unfolding column_count word_of by_role pick
role-width combinational (setting e) n = refl
role-width sequential (setting e) n = refl
role-width combinational (observing i) n = refl
role-width sequential (observing i) n = refl

-- ---- the tables

module _ (cells : List Cell) (ss : List Statement) (sound : BothSound cells ss) (behind past : List ℕ) where
  abbrev library : List ℕ
  library = library_words cells ++ behind

  abbrev netlist : List ℕ
  netlist = netlist_words ss ++ past

  library-room : Size.library ≤ length library
  library-room = omega (arith, length-append (library_words cells) behind, length-library_words cells)

  -- ---- one gate

  module _ (i : ℕ) (h : i < length (gates_of ss)) where
    abbrev gate : Gate
    gate = get_or (gates_of ss) i no_gate

    abbrev cell : Cell
    cell = cell_of cells gate

    listed : List-as-Memᴰ gate (gates_of ss)
    listed = getD_listed (gates_of ss) i no_gate h

    sound-gate : GateSound cells gate
    sound-gate = gate-sound cells ss sound.netlist gate listed

    few-gates : i < Size.gates
    few-gates = omega (arith, sound.netlist.few)

    cell-number : gate_cell netlist i ≡ gate.cell
    cell-number = cell-held sound.netlist past i h

    pub pins-number : gate_pins library netlist i ≡ cell.pins
    unfolding cell_of
    pins-number = rw cell-number (cell-pins no_cell cells behind sound.library.few gate.cell sound-gate.known)

    pub pins-most : cell.pins ≤ Size.pins
    pins-most = (gate-cell sound gate listed).header.most-pins

    lines_are : gate_lines netlist i ≡ gate_line_words gate
    lines_are = lines-held sound.netlist past i h

    -- Whether its rows are read as those of one wire.
    pub tied_is : gate_tied library netlist i ≡ (shares_line (gate_line_words gate) cell.pins && one_wire cell)
    unfolding tied_at cell_of
    tied_is =
        rw (lines_are, pins-number, cell-number)
        (ap (λ (b : Bool). shares_line (gate_line_words gate) cell.pins && b)
        (cell-one-wire no_cell cells behind sound.library.few gate.cell sound-gate.known (gate-cell sound gate listed)))

    wired_is : (role : Role) → visit_wired (role_number role) library netlist i ≡ role_wired gate cell role
    unfolding by_role pick
    wired_is (setting e) = tied_is
    wired_is (observing p) = refl

    -- ---- its groups, by the role

    module _ (k : Kind) (role : Role) (has : Has cell role) where
      abbrev rows : Group
      rows = group_of k cell role

      abbrev place : ℕ
      place = group_place (gate_cell netlist i) (role_group k role)

      low : role_group k role < Size.groups
      low = rw (role_first k role) (omega (arith, within-space (word_of k role) cell.pins pins-most, has_index k cell role has, first_most (word_of k role)))

      same : get_or (cell_groups cell) (role_group k role) [] ≡ rows
      unfolding group_of
      same = rw (role_first k role) (cell_group (word_of k role) cell (group_index role) pins-most (has_index k cell role has))

      most : length rows ≤ Size.rows
      most = (role_group_lem sound gate listed k role has).most-rows

      pub row_sound : (r : Row) → List-as-Memᴰ r rows → SoundRow (word_of k role) cell.pins (word_groups (word_of k role) cell) r
      row_sound = role_row sound gate listed k role has

      pub group_number : get_or library place 0 ≡ length rows
      unfolding cell_of
      group_number = rw (cell-number, ← same) (group_count_lem no_cell cells behind sound.library.few gate.cell sound-gate.known (role_group k role) low)

      pub depth-number : (r : ℕ) → r < length rows → get_or library (place + 1 + Size.row_words * r) 0 ≡ (get_or rows r no_row).depth
      unfolding cell_of
      depth-number r q =
          rw (cell-number, ← same)
          (row_depth no_cell cells behind sound.library.few gate.cell sound-gate.known (role_group k role) low r no_row (rw same most) (rw same q))

      pub columns-number : (r : ℕ) → r < length rows → get_or library (place + 1 + Size.row_words * r + 1) 0 ≡ (get_or rows r no_row).columns
      unfolding cell_of
      columns-number r q =
          let e : group_place gate.cell (role_group k role) + 1 + Size.row_words * r + 1 ≡ group_place gate.cell (role_group k role) + 2 + Size.row_words * r = omega arith in
          rw (cell-number, e, ← same)
          (row_columns no_cell cells behind sound.library.few gate.cell sound-gate.known (role_group k role) low r no_row (rw same most) (rw same q))

      -- Its rows name none but the role's columns.
      width : column_count (word_of k role) cell.pins ≡ role_columns (role_number role) (gate_pins library netlist i)
      width = rw pins-number (role-width k role cell.pins)

      group_fits_lem : GroupFits library place (role_columns (role_number role) (gate_pins library netlist i))
      group_fits_lem =
          record {
            room = rw group_number (rw cell-number (omega (arith, library-room, sound.library.few, sound-gate.known, low, most)));
            depth = λ r q. shallow r (rw group_number at q);
            columns = λ r q. within r (rw group_number at q);
          }
        where
          shallow : (r : ℕ) → r < length rows → get_or library (place + 1 + Size.row_words * r) 0 ≤ over
          shallow r q = rw (depth-number r q) (omega (arith, depth-figure (row_sound (get_or rows r no_row) (getD_listed rows r no_row q))))

          within : (r : ℕ) → r < length rows → get_or library (place + 1 + Size.row_words * r + 1) 0 < 2 ^ role_columns (role_number role) (gate_pins library netlist i)
          within r q = rw (columns-number r q, ← width) (row_sound (get_or rows r no_row) (getD_listed rows r no_row q)).within

      -- A row of a one-wire cell names no pin at both values.
      pub lone : (r : Row) → List-as-Memᴰ r rows → one_wire cell ≡ true → both_values cell.pins cell.pins r.columns ≡ false
      unfolding group_of
      lone r m w =
          one-wire_row cell w (word_of k role) (group_index role) (rw (gate-groups sound gate listed (word_of k role)).count (has_index k cell role has)) r m

      group_ways_lem : group_ways (read_row (visit_wired (role_number role) library netlist i) (gate_lines netlist i) (gate_pins library netlist i)) (row_places (kind_number k) (gate_lines netlist i) (gate_pins library netlist i)) library place
          ≡ ways_of k gate cell role rows
      unfolding group_ways
      group_ways_lem =
          rw (wired_is role, lines_are, group_number, pins-number)
          (rows-ways k gate cell role library (read_row (role_wired gate cell role) (gate_line_words gate) cell.pins) (row_places (kind_number k) (gate_line_words gate) cell.pins) rows (place + 1) depth-number columns-number
          (λ r m. row_read k gate cell role pins-most r (row_sound r m).within (lone r m)))

    -- ---- its visits

    pub visit_is : (k : Kind) (role : Role) → Has cell role → gate_visit (role_number role) (kind_number k) library netlist i (group_index role) ≡ visit k cells gate role
    unfolding gate_visit by_role pick group_visit visit purpose_of pin_line group_index
    visit_is k (setting e) h = rw (group_ways_lem k (setting e) h, lines_are, set-node k gate.line e)
    visit_is k (observing p) h =
        let z : p - 1 + 1 ≡ suc (p - 1) = omega arith in
        let low : p - 1 < Size.pins = omega (arith, pins-most, h.0, h.1) in
        rw (group_ways_lem k (observing p) h, lines_are, z, getD_fitted 0 Size.pins gate.pins (p - 1) low, observe-node k (get_or gate.pins (p - 1) 0))

    -- ---- and the places that they read

    of_number : (P : ℕ → Type 0) → ((k : Kind) → P (kind_number k)) → (kind : ℕ) → kind ≤ 1 → P kind
    of_number P f zero b = f combinational
    of_number P f (suc zero) b = f sequential
    of_number P f (suc (suc kind)) b = absurd (omega arith)

    groups-fit : (role kind p : ℕ) → role ≤ 1 → kind ≤ 1 → p < visit_count role (gate_pins library netlist i) → GroupFits library (group_place (gate_cell netlist i) (visit_group role kind p)) (role_columns role (gate_pins library netlist i))
    unfolding by_role pick group_index
    groups-fit zero kind p a b l =
        of_number (λ (m : ℕ). GroupFits library (group_place (gate_cell netlist i) (visit_group 0 m p)) (role_columns 0 (gate_pins library netlist i))) (λ k. group_fits_lem k (setting p) (omega arith)) kind b
    groups-fit (suc zero) kind p a b l =
        of_number (λ (m : ℕ). GroupFits library (group_place (gate_cell netlist i) (visit_group 1 m p)) (role_columns 1 (gate_pins library netlist i)))
        (λ k. let z : suc p - 1 ≡ p = omega arith in rw z at (group_fits_lem k (observing (suc p)) (omega arith, omega (arith, pins-number)))) kind b
    groups-fit (suc (suc role)) kind p a b l = absurd (omega arith)

    line-sound : (j : ℕ) → j ≤ cell.pins → InRange (get_or (gate_line_words gate) j 0)
    line-sound zero q = sound-gate.line
    line-sound (suc j) q =
        rw (getD_fitted 0 Size.pins gate.pins j (omega (arith, pins-most)))
        (each_at InRange gate.pins j 0 (omega (arith, pin-count sound gate listed)) sound-gate.pins)

    gate-fits : GateFits library netlist i
    unfolding InRange
    gate-fits =
        record {
          room = omega (arith, netlist-room ss past, few-gates);
          cell = rw cell-number (omega (arith, library-room, sound.library.few, sound-gate.known));
          lines =
              rw (lines_are, pins-number)
              (record {
                count = pins-most;
                least = λ j q. (line-sound j q).0;
                most = λ j q. (line-sound j q).1;
              });
          groups = groups-fit;
        }

  pub tables_fit_lem : TablesFit library netlist
  tables_fit_lem = record { some = omega (arith, netlist-room ss past); gates = λ g h. gate-fits g (rw (netlist-count ss past) at h) }
