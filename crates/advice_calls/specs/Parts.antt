-- What the parts of an advice and of ranks ask and leave.
use Rattle.std.specs.Prelude.{Bool, false, not, ◌&&◌, ◌||◌, List, ◌++◌, ◌≡◌, ℕ, suc, ◌*◌, ◌-◌, ◌≤◌, max, leb, eqb, length, get_or, drop}
use Rattle.std.proofs.lemmas.List.Edits.{sets}
use Rattle.sizes.specs.Sizes as Size
use Rattle.sizes.specs.Places.{output_place, observing_place}
use Rattle.reading.specs.Choice.{pick}
use Rattle.cost.specs.Cost.{most, is_never, is_over, ◌⊕◌}
use Rattle.library_table.specs.Cells.{Cell}
use Rattle.netlist_table.specs.Netlist.{Statement, member}
use Rattle.netlist_table.specs.Lines.{mention_at}
use Rattle.netlist_table.specs.Sound.{InRange}
use Rattle.std.specs.Prelude.{Option}
use Rattle.calculation.specs.declared.Advice.{Advice}
use Rattle.calculation.specs.Advice.{allowed, allowed_lines, leaves, largest, before, count_where, figures, total, line_rank, ranks}
use Rattle.calculation.specs.Calculation.{analysed}
use Rattle.calculation.specs.Stored.{Holds}
use Rattle.advice_calls.specs.declared.lines.Left.{Left}

-- ---- which lines may be padded

-- Of each line, whether a list names it.
pub record Barred (forbidden : List ℕ) (barred : List Bool) : Type 0 where
  pub size : length barred ≡ Size.line_places
  pub says : (l : ℕ) → l ≤ Size.lines → get_or barred l false ≡ member l forbidden

-- An entry of a list, whatever its number, with those that were barred before.
pub record Bars (entry : ℕ) (before after : List Bool) : Type 0 where
  pub size : length after ≡ length before
  pub says : (l : ℕ) → l ≤ Size.lines → get_or after l false ≡ (eqb entry l || get_or before l false)

-- What a netlist table and these say.
abbrev pub may_pad : List ℕ → List Bool → ℕ → Bool
may_pad netlist barred l = mention_at netlist l && (not (get_or barred l false) && eqb (get_or netlist (output_place l) 0) 0)

-- ---- what a pad leaves

-- The CO of a line in a table of numbers.
abbrev pub cost_at : List ℕ → ℕ → ℕ
cost_at numbers l = get_or numbers (observing_place 0 l) 0

-- The largest of some costs, and their rank.
unfoldable pub left_of : List ℕ → Left
left_of xs =
    record {
      largest = largest xs;
      nevers = count_where is_never xs;
      overs = count_where is_over xs;
      figure = largest (figures xs);
      total = total (figures xs);
    }

-- One cost more.
unfoldable pub left_with : ℕ → Left → Left
left_with x a =
    record {
      largest = max x a.largest;
      nevers = pick (is_never x) (suc a.nevers) a.nevers;
      overs = pick (is_over x) (suc a.overs) a.overs;
      figure = pick (leb x most) (max x a.figure) a.figure;
      total = pick (leb x most) (x ⊕ a.total) a.total;
    }

-- ---- where pads are tried

-- The tables of an accepted library and netlist.
pub record Holding (library netlist : List ℕ) : Type 0 where
  pub cells : List Cell
  pub statements : List Statement
  pub holds : Holds library netlist cells statements

-- The same with the numbers of their analysis.
pub record Stands (library netlist numbers : List ℕ) (cells : List Cell) (ss : List Statement) : Type 0 where
  pub holds : Holds library netlist cells ss
  pub stand : numbers ≡ (analysed cells ss).numbers

-- One of the 1,000 lines may be tried, in an array that holds the numbers.
pub record TryLineFits (library netlist numbers tried : List ℕ) (l : ℕ) : Type 0 where
  pub cells : List Cell
  pub statements : List Statement
  pub stands : Stands library netlist numbers cells statements
  pub laid : tried ≡ numbers
  pub range : InRange l

-- What the trial comes to; the array holds the numbers again.
pub record LineTried (cells : List Cell) (ss : List Statement) (l : ℕ) (numbers after : List ℕ) (said : Left) : Type 0 where
  pub leave : said ≡ left_of (leaves cells ss l)
  pub back : after ≡ numbers

-- Any line may be, with the lines that some list names barred.
pub record TrialsFit (library netlist numbers tried : List ℕ) (barred : List Bool) : Type 0 where
  pub cells : List Cell
  pub statements : List Statement
  pub forbidden : List ℕ
  pub stands : Stands library netlist numbers cells statements
  pub laid : tried ≡ numbers
  pub bars : Barred forbidden barred

-- ---- what the loops come to

-- The advice of one line more, below those that were tried.
abbrev pub Considered : List Cell → List Statement → List ℕ → ℕ → Option Advice → Option Advice → Type 0
Considered cells ss forbidden l found r =
    r ≡ pick (allowed ss forbidden l) (before l (largest (leaves cells ss l)) found) found

-- The rank of one line more, and how many of them are allowed.
pub record LineRanked (cells : List Cell) (ss : List Statement) (forbidden : List ℕ) (l count : ℕ) (table after : List ℕ) (said : ℕ) : Type 0 where
  pub counts : said ≡ pick (allowed ss forbidden l) (suc count) count
  pub lays : after ≡ sets table ((l - 1) * Size.rank_words) (line_rank cells ss forbidden l)

-- Those of all lines.
pub record AllRanked (cells : List Cell) (ss : List Statement) (forbidden table after : List ℕ) (said : ℕ) : Type 0 where
  pub counts : said ≡ length (allowed_lines ss forbidden)
  pub lays : after ≡ ranks cells ss forbidden ++ drop Size.ranks table
