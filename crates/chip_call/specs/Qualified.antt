-- Of which netlists document 02, K8, speaks, by the numbers of the tables, and what the answer says of cells and statements.
use Rattle.std.specs.Prelude.{Bool, true, false, ◌&&◌, List, [], ◌∷◌, ◌↔◌, ◌≡◌, ℕ, ◌≤◌, eqb, get_or}
use Rattle.reading.specs.Choice.{pick}
use Rattle.library_table.specs.Cells.{Cell}
use Rattle.netlist_table.specs.Netlist.{Gate, Statement}
use Rattle.netlist_table.specs.Gates.{gates_held}
use Rattle.calculation.specs.Calculation.{analysed}
use Rattle.calculation.specs.Stored.{Holds}
use Rattle.demands.specs.Demands.{NumbersStand}
use Rattle.chip_values.specs.Loops.{ReadOnce}
use Rattle.chip_values.specs.Built.{Built, Qualifies, tables_of}
use Rattle.chip_values.specs.Never.{NeverMeans, NeverExactly}
use Rattle.truth_cells.specs.Words.{generated_at}
use Rattle.chip_call.specs.declared.Theorems.{Theorems}
use Rattle.chip_call.specs.declared.Theorems.TheVariants.{Neither, First, Both}
use Rattle.chip_loops.specs.Marks.{without_loops, read_once}

-- "built only of cells that K6 generates, constants among them"
unfoldable pub all_generated : List ℕ → List Gate → Bool
all_generated library [] = true
all_generated library (g ∷ gs) = generated_at library g.cell && all_generated library gs

-- How many of K8's theorems hold.
abbrev pub theorems_number : Theorems → ℕ
theorems_number Neither = 0
theorems_number First = 1
theorems_number Both = 2

-- 0 where K8 says nothing of the netlist, 1 where its first theorem holds of it, 2 where both do.
unfoldable pub qualifying : List ℕ → List ℕ → ℕ
qualifying library netlist =
    pick (without_loops netlist && all_generated library (gates_held netlist)) (pick (read_once netlist) 2 1) 0

-- What the answer says of the cells and statements that the tables hold, and of the numbers of their analysis: `b` has the
-- truth tables of the cells.
pub record Says (cells : List Cell) (ss : List Statement) (said : ℕ) : Type 0 where
  pub most : said ≤ 2
  -- "a netlist without loops or open lines, built only of cells that K6 generates, constants among them"
  pub first : (1 ≤ said) ↔ Qualifies cells ss
  -- "If besides each line is read by at most one pin"
  pub both : (said ≡ 2) ↔ (Qualifies cells ss × ReadOnce ss)
  -- "No setting of the inputs then gives a line a value whose CC number is never."
  pub never : 1 ≤ said → (b : Built cells ss) → NeverMeans ss (tables_of b.bits) (analysed cells ss).numbers
  -- "never stands exactly when no setting does."
  pub exactly : said ≡ 2 → (b : Built cells ss) → NeverExactly ss (tables_of b.bits) (analysed cells ss).numbers
  -- Demands 2 and 3 of these numbers: never stands there exactly when there is no plan.
  pub stands : NumbersStand cells ss (analysed cells ss).numbers

-- What the call promises: its answer by equation with the tables, whatever stands there, and what it says of the cells and
-- statements that they hold.
pub record Qualified (library netlist : List ℕ) (said : ℕ) : Type 0 where
  pub answers : said ≡ qualifying library netlist
  pub says : (cells : List Cell) (ss : List Statement) → Holds library netlist cells ss → Says cells ss said

-- ---- cells that were judged before

-- A cell with a mark is generated.
unfoldable pub Known : List ℕ → List Bool → Type 0
Known library known = (c : ℕ) → get_or known c false ≡ true → generated_at library c ≡ true

pub record Judged (library : List ℕ) (cell : ℕ) (known : List Bool) (said : Bool) : Type 0 where
  pub answer : said ≡ generated_at library cell
  pub still : Known library known
