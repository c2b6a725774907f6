-- The reader of a netlist text: what reading one answers and leaves.
use Rattle.std.specs.Prelude.{◌||◌, List, [], ◌∷◌, ◌++◌, ◌≡◌, ℕ, ltb, length, drop}
use Rattle.sizes.specs.Sizes as Size
use Rattle.reading.specs.Numbers as No
use Rattle.reading.specs.Refusal.{Read, refused, read, weigh}
use Rattle.reading.specs.Answer.{answer_read, done_read}
use Rattle.std.specs.Prelude.{Result}
use Rattle.reading.specs.declared.Refusal.{Refusal}
use Rattle.library_table.specs.Cells.{Cell}
use Rattle.library_table.specs.Layout.{LibraryHolds, cells_in}
use Rattle.netlist_table.specs.declared.Rules.{Rules}
use Rattle.netlist_table.specs.Netlist.{Statement, netlist}
use Rattle.netlist_table.specs.Layout.{netlist_words, netlist_after}

-- "entry (line 0)": "1 a lent table below its published size; 2 a text above 65,535 bytes". By the lengths of the text, of the
-- library table and of the netlist table.
unfoldable pub netlist_entry : ℕ → ℕ → ℕ → Read (Unit {0})
netlist_entry text library table =
    weigh 0
    ((No.table_short, ltb library Size.library || ltb table Size.netlist)
    ∷ (No.text_long, ltb Size.text_bytes text)
    ∷ [])

-- A table that holds no statement: zero up to its published size.
pub record NoStatements (table : List ℕ) : Type 0 where
  pub words : table ≡ netlist_words [] ++ drop Size.netlist table

-- What a reading answers, and leaves in the table where nothing is refused; what a refusal leaves is the caller's to clear.
pub record Fills (o : Read (List Statement)) (before : List ℕ) (verdict : Result (Unit {0}) Refusal) (after : List ℕ) : Type 0 where
  pub answers : answer_read verdict ≡ done_read o
  pub filled : (ss : List Statement) → o ≡ read ss → after ≡ netlist_words ss ++ drop Size.netlist before

-- What a reading answers, and leaves in the lent table.
pub record ReadsAs (o : Read (List Statement)) (before : List ℕ) (verdict : Result (Unit {0}) Refusal) (after : List ℕ) : Type 0 where
  pub answers : answer_read verdict ≡ done_read o
  pub leaves : after ≡ netlist_after o before

-- Behind the entry the text is read against the cells of the library table, whatever it has in it; of a table that holds cells
-- these are they.
pub record ReadsAgainst (rules : Rules) (text library before : List ℕ) (verdict : Result (Unit {0}) Refusal) (after : List ℕ) : Type 0 where
  pub any : ReadsAs (netlist rules (cells_in library) text) before verdict after
  pub holds : (cells : List Cell) → LibraryHolds library cells → ReadsAs (netlist rules cells text) before verdict after

-- "Entry refusals leave lent memory untouched", whatever the library table has in it.
unfoldable pub ReadsFrom : Rules → Read (Unit {0}) → List ℕ → List ℕ → List ℕ → Result (Unit {0}) Refusal → List ℕ → Type 0
ReadsFrom rules (refused number line) text library before verdict after =
    (answer_read verdict ≡ refused number line) × (after ≡ before)
ReadsFrom rules (read u) text library before verdict after = ReadsAgainst rules text library before verdict after

-- What reading a netlist text answers, and leaves in the lent table.
unfoldable pub ReadsNetlist : Rules → List ℕ → List ℕ → List ℕ → Result (Unit {0}) Refusal → List ℕ → Type 0
ReadsNetlist rules text library before verdict after =
    ReadsFrom rules (netlist_entry (length text) (length library) (length before)) text library before verdict after
