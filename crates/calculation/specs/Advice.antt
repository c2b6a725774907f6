-- The pad adviser: which one allowed line, padded alone, leaves the lowest largest CO; and, beyond the request, what a pad on
-- each allowed line leaves, so that a caller can rank them. Document 02, K13.
use Rattle.std.specs.Prelude.{Bool, true, false, not, ◌&&◌, List, [], ◌∷◌, ◌++◌, map, ◌≡◌, ℕ, zero, suc, ◌≤◌, max, leb, Option, Some, None}
use Rattle.sizes.specs.Sizes as Size
use Rattle.reading.specs.Choice.{pick}
use Rattle.cost.specs.Cost.{most, never, is_never, is_over, ◌⊕◌}
use Rattle.plans.specs.Sweep.{at}
use Rattle.library_table.specs.Cells.{Cell}
use Rattle.netlist_table.specs.Netlist.{Statement, mark, output, member, mentioned, is_output, lines_where}
use Rattle.calculation.specs.declared.Advice.{Advice}
use Rattle.calculation.specs.Nodes.{combinational, observe, node}
use Rattle.calculation.specs.Acceptance.{BothSound}
use Rattle.calculation.specs.Calculation.{analysed}
use Rattle.calculation.specs.LinePlans.{Exact}

-- ---- which lines may be padded

-- "Allowed means mentioned, not forbidden and not already an output"; "list entries that name no mentioned line count for
-- nothing".
unfoldable pub allowed : List Statement → List ℕ → ℕ → Bool
allowed ss forbidden l = mentioned l ss && (not (member l forbidden) && not (is_output l ss))

unfoldable pub allowed_lines : List Statement → List ℕ → List ℕ
allowed_lines ss forbidden = lines_where (allowed ss forbidden) Size.lines 1

-- ---- what a line, "padded alone, leaves"

-- The netlist with a pad: the line is marked output.
abbrev pub with_pad : List Statement → ℕ → List Statement
with_pad ss l = ss ++ (mark output l ∷ [])

-- The CO of line m with a pad on line l, as a new analysis has it.
unfoldable pub observed_with : List Cell → List Statement → ℕ → ℕ → ℕ
observed_with cells ss l m = at (analysed cells (with_pad ss l)).numbers (node combinational (observe m))

-- "over the mentioned lines", ascending, the padded one among them.
unfoldable pub leaves : List Cell → List Statement → ℕ → List ℕ
leaves cells ss l = map (observed_with cells ss l) (lines_where (λ m. mentioned m ss) Size.lines 1)

-- ---- the advice

-- The "largest CO .., by document 01's order of costs", which is that of their numbers; 0 of none.
unfoldable pub largest : List ℕ → ℕ
largest [] = 0
largest (x ∷ xs) = max x (largest xs)

-- An advice: a line, and the largest CO that a pad on it leaves.
abbrev pub pad : ℕ → ℕ → Option Advice
pad l x = Some (record { line = l; largest = x })

-- "names one allowed line .. The answer carries that largest CO"; "with no such line, and only then, it says so". "Ties go to
-- the lowest line": a line before others keeps its place where it leaves no more than they.
unfoldable pub before : ℕ → ℕ → Option Advice → Option Advice
before l x None = pad l x
before l x (Some a) = pick (leb x a.largest) (pad l x) (Some a)

unfoldable pub best : (ℕ → ℕ) → List ℕ → Option Advice
best f [] = None
best f (l ∷ ls) = before l (f l) (best f ls)

unfoldable pub advice : List Cell → List Statement → List ℕ → Option Advice
advice cells ss forbidden = best (λ l. largest (leaves cells ss l)) (allowed_lines ss forbidden)

-- ---- the ranks

unfoldable pub count_where : (ℕ → Bool) → List ℕ → ℕ
count_where p [] = 0
count_where p (x ∷ xs) = pick (p x) (suc (count_where p xs)) (count_where p xs)

-- Costs that are figures, neither over nor never.
unfoldable pub figures : List ℕ → List ℕ
figures [] = []
figures (x ∷ xs) = pick (leb x most) (x ∷ figures xs) (figures xs)

-- A sum of costs, which is over where it "exceeds 999,999,999".
unfoldable pub total : List ℕ → ℕ
total [] = 0
total (x ∷ xs) = x ⊕ total xs

-- Of costs: how many are never, how many over, the largest that is a figure, 0 where none is, and the sum of those.
pub record Rank : Type 0 where
  pub nevers : ℕ
  pub overs : ℕ
  pub largest : ℕ
  pub total : ℕ

unfoldable pub rank_of : List ℕ → Rank
rank_of xs =
    record {
      nevers = count_where is_never xs;
      overs = count_where is_over xs;
      largest = largest (figures xs);
      total = total (figures xs);
    }

-- Four numbers of a line: those of what a pad on it leaves; never of a line that is not allowed.
unfoldable pub rank_words : Rank → List ℕ
rank_words r = r.nevers ∷ r.overs ∷ r.largest ∷ r.total ∷ []

unfoldable pub no_rank : List ℕ
no_rank = never ∷ never ∷ never ∷ never ∷ []

unfoldable pub line_rank : List Cell → List Statement → List ℕ → ℕ → List ℕ
line_rank cells ss forbidden l = pick (allowed ss forbidden l) (rank_words (rank_of (leaves cells ss l))) no_rank

unfoldable pub line_ranks : (ℕ → List ℕ) → ℕ → ℕ → List ℕ
line_ranks f zero first = []
line_ranks f (suc n) first = f first ++ line_ranks f n (suc first)

-- The table of ranks: lines 1 to 1,000, ascending.
unfoldable pub ranks : List Cell → List Statement → List ℕ → List ℕ
ranks cells ss forbidden = line_ranks (line_rank cells ss forbidden) Size.lines 1

-- ---- what the advice says

-- Demand 3 of what a pad on a line leaves: each CO is exact against the plans of the netlist with that output.
abbrev pub LeavesExact : List Cell → List Statement → ℕ → Type 0
LeavesExact cells ss l = (m : ℕ) → mentioned m ss ≡ true → Exact cells (with_pad ss l) combinational (observe m) (observed_with cells ss l m)

-- The largest CO that a pad on a line leaves is that of some mentioned line, and no mentioned line has a higher one.
pub record LargestLeft (cells : List Cell) (ss : List Statement) (l x : ℕ) : Type 0 where
  pub line : ℕ
  pub is_mentioned : mentioned line ss ≡ true
  pub same : observed_with cells ss l line ≡ x
  pub most : (m : ℕ) → mentioned m ss ≡ true → observed_with cells ss l m ≤ x

-- "names one allowed line. Every other allowed line, padded alone, leaves a largest CO at least as high. .. Ties go to the
-- lowest line .. The answer carries that largest CO."
pub record Best (cells : List Cell) (ss : List Statement) (forbidden : List ℕ) (l x : ℕ) : Type 0 where
  pub is_allowed : allowed ss forbidden l ≡ true
  pub carries : LargestLeft cells ss l x
  pub exact : LeavesExact cells ss l
  pub least : (m y : ℕ) → allowed ss forbidden m ≡ true → LargestLeft cells ss m y → x ≤ y
  pub lowest : (m : ℕ) → allowed ss forbidden m ≡ true → LargestLeft cells ss m x → l ≤ m

-- "with no such line, and only then, it says so".
abbrev pub Says : List Cell → List Statement → List ℕ → Option Advice → Type 0
Says cells ss forbidden None = (m : ℕ) → allowed ss forbidden m ≡ false
Says cells ss forbidden (Some a) = Best cells ss forbidden a.line a.largest

-- `advice_says` of proofs/AdvisedLine.antt.
abbrev pub AdviceSays : Type 0
AdviceSays =
    (cells : List Cell) (ss : List Statement) → BothSound cells ss → (forbidden : List ℕ) →
    Says cells ss forbidden (advice cells ss forbidden)

-- ---- what a list forbids

-- Two lists name the same mentioned lines, in whatever order, however often, and whatever else they name.
abbrev pub ForbidSame : List Statement → List ℕ → List ℕ → Type 0
ForbidSame ss xs ys = (l : ℕ) → mentioned l ss ≡ true → member l xs ≡ member l ys

-- `same-advice`, `same-ranks`: so they come to the same.
abbrev pub SameAdvice : Type 0
SameAdvice = (cells : List Cell) (ss : List Statement) (xs ys : List ℕ) → ForbidSame ss xs ys → advice cells ss xs ≡ advice cells ss ys

abbrev pub SameRanks : Type 0
SameRanks = (cells : List Cell) (ss : List Statement) (xs ys : List ℕ) → ForbidSame ss xs ys → ranks cells ss xs ≡ ranks cells ss ys
