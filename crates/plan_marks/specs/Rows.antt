-- A row of a group: which one is way k, how it is written, by which columns it asks, and the first that comes to the least row
-- sum.
use Rattle.std.specs.Prelude.{Bool, List, ◌≡◌, ℕ, zero, suc, ◌+◌, ◌*◌, ◌%◌, ◌≤◌, ◌<◌, eqb, get_or}
use Rattle.std.proofs.Math.Option.{Option, none, some}
use Rattle.sizes.specs.Sizes as Size
use Rattle.reading.specs.Choice.{pick}
use Rattle.cost.specs.Cost.{never}
use Rattle.plans.specs.Sweep.{least}
use Rattle.plans.specs.Trace.{first_place}
use Rattle.sweep_wires.specs.Wires.{once_columns}
use Rattle.sweep_groups.specs.Tables.{group_columns}

-- Of `count` rows from a place of the library table on, the one that is way k: a row that is no way there is not counted
-- (document 02, K7).
unfoldable pub step_row : Option ℕ → ℕ → (ℕ → ℕ) → ℕ
step_row none k next = suc (next k)
step_row (some columns) zero next = 0
step_row (some columns) (suc k) next = suc (next k)

unfoldable pub way_row : (ℕ → Option ℕ) → List ℕ → ℕ → ℕ → ℕ → ℕ
way_row read library zero at k = 0
way_row read library (suc count) at k = step_row (read (get_or library (at + 1) 0)) k (way_row read library count (at + Size.row_words))

-- A row as its entry writes it, by the number of its cell's heading; it is stored within 32 bits, where that of an accepted
-- library is.
unfoldable pub as_written : ℕ → ℕ → ℕ → ℕ
as_written heading depth columns = pick (eqb heading 0) (columns * 2 + depth) (columns * 8 + depth) % 4294967296

-- The columns by which a row asks that is a way: where it is read as a row of one wire, "once, at its lowest column".
unfoldable pub asking_columns : Bool → List ℕ → ℕ → ℕ → ℕ
asking_columns wired lines pins columns = pick wired (once_columns lines pins columns) columns

-- The first row of a group that comes to the least row sum over the costs of its columns; the rows are read as those of the
-- gate.
pub record FirstOf (read : ℕ → Option ℕ) (library : List ℕ) (group : ℕ) (costs : List ℕ) (said : ℕ) : Type 0 where
  pub row : said ≡ way_row read library (get_or library group 0) (group + 1) (first_place costs (group_columns read library group))
  pub few : said ≤ get_or library group 0
  pub some : least costs (group_columns read library group) < never → said < get_or library group 0
