-- What "never" says of the chip. Document 02, K8.
use Rattle.std.specs.Prelude.{Bool, true, List, ◌↔◌, ◌≡◌, ℕ, get_or}
use Rattle.reading.specs.Refusal.{Read, read}
use Rattle.cost.specs.Cost.{never}
use Rattle.library_table.specs.Cells.{Cell}
use Rattle.netlist_table.specs.Netlist.{Statement, mentioned}
use Rattle.calculation.specs.Nodes.{combinational, set, node}
use Rattle.calculation.specs.Prices.{Pricing, WithinRanges}
use Rattle.calculation.specs.Calculation.{analysed_at}
use Rattle.demands.specs.declared.Summary.{Summary}
use Rattle.demands.specs.Outcome.{Given, Lent}
use Rattle.demands.specs.Demands.{PairRead, Promised}
use Rattle.truth_tables.specs.Tables.{digit}
use Rattle.chip_values.specs.Loops.{ReadOnce}
use Rattle.chip_values.specs.Values.{Setting, Values, Tables, Does, OneValue}
use Rattle.chip_values.specs.Built.{Qualifies, tables_of}

-- The CC number of line l for a value.
unfoldable pub cc_number : List ℕ → ℕ → Bool → ℕ
cc_number numbers l x = get_or numbers (node combinational (set l (digit x))) 0

-- "never stands exactly when no setting does", for every line that the netlist mentions.
abbrev pub NeverExactly : List Statement → Tables → List ℕ → Type 0
NeverExactly ss tables numbers =
    (l : ℕ) → mentioned l ss ≡ true → (x : Bool)
    → (cc_number numbers l x ≡ never) ↔ ((s : Setting) (v : Values) → Does ss tables s v → v l ≡ x → ⊥)

-- What the numbers table of an accepted analysis says of the chip, for every line that the netlist mentions.
pub record NeverMeans (ss : List Statement) (tables : Tables) (numbers : List ℕ) : Type 0 where
  -- Each setting of the inputs gives each line one value.
  pub one_value : (s : Setting) → OneValue ss tables s
  -- "No setting of the inputs then gives a line a value whose CC number is never."
  pub none_gives : (s : Setting) (v : Values) → Does ss tables s v → (l : ℕ) → mentioned l ss ≡ true
      → cc_number numbers l (v l) ≡ never → ⊥
  -- "If besides each line is read by at most one pin, never stands exactly when no setting does."
  pub exactly : ReadOnce ss → NeverExactly ss tables numbers

-- ---- behind the promise of an analysis, under the names of proofs/Laws.antt

-- `never-means-of`, `never-means` of two texts: of every accepted call that keeps `Promised` of what it is given, and of the
-- numbers table that it leaves.
abbrev pub NeverOf : Given → Type 0
NeverOf g =
    (before after : Lent) (said : Read Summary) →
    Promised g before after said →
    (pair : PairRead g) (s : Summary) → said ≡ read s →
    (q : Qualifies pair.cells pair.statements) →
    NeverMeans pair.statements (tables_of q.built.bits) after.numbers

-- `never-at-prices`: of the numbers at all prices within the ranges (K10), those of the second report among them.
abbrev pub NeverAtPrices : Given → Type 0
NeverAtPrices g =
    (before after : Lent) (said : Read Summary) →
    Promised g before after said →
    (pair : PairRead g) (s : Summary) → said ≡ read s →
    (q : Qualifies pair.cells pair.statements) →
    (price : Pricing) → WithinRanges pair.statements price →
    NeverMeans pair.statements (tables_of q.built.bits) (analysed_at price pair.cells pair.statements).numbers
