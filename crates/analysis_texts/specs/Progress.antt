-- How far a call has come: the entry and the library, the netlist.
use Rattle.std.specs.Prelude.{List, ◌++◌, ◌≡◌, ℕ, ◌≤◌, length, drop, Result, Ok, Err}
use Rattle.sizes.specs.Sizes as Size
use Rattle.reading.specs.Refusal.{Read, refused, read}
use Rattle.library_table.specs.Cells.{Cell}
use Rattle.library_table.specs.Library.{library}
use Rattle.library_table.specs.Layout.{library_words, LibraryHolds}
use Rattle.netlist_table.specs.declared.Rules.{Rules}
use Rattle.netlist_table.specs.Layout.{netlist_words}
use Rattle.netlist_table.specs.Netlist.{Statement, netlist}
use Rattle.demands.specs.Outcome.{Given, Pair, entry_by, read_pair}
use Rattle.reading.specs.declared.Refusal.{Refusal}
use Rattle.analysis_texts.specs.declared.Stop.{Stop}
use Rattle.analysis_texts.specs.declared.Stop.TheVariants.{AtEntry, Later}

-- ---- the entry and the library

-- Where a call is stopped, the refusal.
abbrev pub refusal_of : Stop → Refusal
refusal_of (AtEntry r) = r
refusal_of (Later r) = r

-- What it leaves of what was lent: as it was at entry, and zero later.
unfoldable pub left_at : {A : Type 0} → Stop → A → A → A
left_at (AtEntry r) before zero = before
left_at (Later r) before zero = zero

-- How far a call has come: it goes on, or is stopped.
abbrev pub Progress : Type 0
Progress = Result (Unit {0}) Stop

-- The progress that a reading behind the entry leads to.
unfoldable pub progress_of : {A : Type 0} → Read A → Progress
progress_of (refused number line) = Err (Later (record { number = number; line = line }))
progress_of (read a) = Ok tt

-- The progress that the entry, and the reading behind it, lead to.
unfoldable pub progress_from : {A : Type 0} → Read (Unit {0}) → Read A → Progress
progress_from (refused number line) o = Err (AtEntry (record { number = number; line = line }))
progress_from (read u) o = progress_of o

-- What the library table has in it then: what it had, after a refusal at entry; the cells, where they are read. What a later
-- refusal leaves is not said: the end of the call clears it.
unfoldable pub LibraryStands : Read (Unit {0}) → Read (List Cell) → List ℕ → List ℕ → Type 0
LibraryStands (refused number line) o before after = after ≡ before
LibraryStands (read u) (refused number line) before after = Unit {0}
LibraryStands (read u) (read cells) before after = after ≡ library_words cells ++ drop Size.library before

-- The entry and the library text, over the lengths of the netlist text and of the tables that are not read yet.
pub record Begun (text : List ℕ) (net : ℕ) (before : List ℕ) (netlist numbers : ℕ) (said : Progress) (after : List ℕ) : Type 0 where
  pub answers : said ≡ progress_from (entry_by (length text) net (length before) netlist numbers) (library text)
  pub leaves : LibraryStands (entry_by (length text) net (length before) netlist numbers) (library text) before after

-- ---- the netlist text

-- What the entry has checked of the netlist text and its table.
unfoldable pub NetlistFits : List ℕ → List ℕ → Type 0
NetlistFits text table = (length text ≤ Size.text_bytes) × (Size.netlist ≤ length table)

-- The text is read against the cells that the library table holds.
pub record TextRead (rules : Rules) (text lib before after : List ℕ) (said : Progress) : Type 0 where
  pub reads : (cells : List Cell) → LibraryHolds lib cells
      → (said ≡ progress_of (netlist rules cells text))
      × ((ss : List Statement) → netlist rules cells text ≡ read ss → after ≡ netlist_words ss ++ drop Size.netlist before)

-- ---- both

-- What is given reads as a pair, and the two tables hold it; "Entries past a table's published size keep their values on
-- acceptance."
pub record PairStands (g : Given) (library netlist library' netlist' : List ℕ) : Type 0 where
  pub pair : Pair
  pub reads : read_pair g ≡ read pair
  pub cells_stand : library' ≡ library_words pair.cells ++ drop Size.library library
  pub statements_stand : netlist' ≡ netlist_words pair.statements ++ drop Size.netlist netlist

-- Where a call stands behind the reading, from what its entry came to: refused at entry, with the tables as they were; refused
-- behind it; or both are read.
unfoldable pub Reached : Given → Read (Unit {0}) → List ℕ → List ℕ → List ℕ → List ℕ → Progress → Type 0
Reached g entry library netlist library' netlist' (Err (AtEntry r)) =
    (entry ≡ refused r.number r.line) × (library' ≡ library) × (netlist' ≡ netlist)
Reached g entry library netlist library' netlist' (Err (Later r)) = (entry ≡ read tt) × (read_pair g ≡ refused r.number r.line)
Reached g entry library netlist library' netlist' (Ok u) =
    (entry ≡ read tt) × PairStands g library netlist library' netlist'
