-- The causes of a gate, by the tests of the code.
use Rattle.common_laws.proofs.Base.{true, false, not, ◌||◌, List, [], ◌∷◌, ◌≡◌, sym, ◌≤◌, ◌<◌, leb, eqb, length, eq-eqb, ne_eqb, le-leb, lt-leb}
use Rattle.reading.specs.Choice.{pick}
use Rattle.reading.specs.Numbers as No
use Rattle.library_table.specs.Cells.{Cell}
use Rattle.netlist_table.specs.declared.RawStatement.{RawStatement}
use Rattle.netlist_table.specs.Lowest.{lowest}
use Rattle.netlist_table.specs.Netlist.{Gate, lines_of, line_bad, any_line_bad, unknown_cell, pins_at, count_differs}
use Rattle.netlist_table.specs.Admission.{IsGate, gate_cause}

module _ (cells : List Cell) (g : Gate) (p : RawStatement) (is : IsGate g p) where
  told : gate_cause cells g
      ≡ lowest
      ((No.line_bad, line_bad p.line || p.bad)
      ∷ (No.cell_unknown, leb (length cells) p.cell)
      ∷ (No.pins_differ, not (eqb p.count (pins_at cells p.cell)))
      ∷ [])
  unfolding gate_cause lines_of any_line_bad unknown_cell count_differs
  told = rw (is.line, is.bad, is.cell, is.count)

  pub lines-bad : (line_bad p.line || p.bad) ≡ true → No.line_bad ≡ gate_cause cells g
  unfolding lowest pick
  lines-bad b = rw (told, b)

  module _ (b : (line_bad p.line || p.bad) ≡ false) where
    pub cell-unknown : length cells ≤ p.cell → No.cell_unknown ≡ gate_cause cells g
    unfolding lowest pick
    cell-unknown u = rw (told, b, le-leb (length cells) p.cell u)

    module _ (known : p.cell < length cells) where
      pub pins-differ : (pins_at cells p.cell ≡ p.count → ⊥) → No.pins_differ ≡ gate_cause cells g
      unfolding lowest pick
      pins-differ d = rw (told, b, lt-leb (length cells) p.cell known, ne_eqb p.count (pins_at cells p.cell) (λ e. d (sym e)))

      pub none-holds : pins_at cells p.cell ≡ p.count → 0 ≡ gate_cause cells g
      unfolding lowest pick
      none-holds e = rw (told, b, lt-leb (length cells) p.cell known, eq-eqb p.count (pins_at cells p.cell) (sym e))
