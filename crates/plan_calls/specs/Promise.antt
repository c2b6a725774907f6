-- What a call that writes out the cheapest way answers and leaves. Document 02, K3.
use Rattle.std.specs.Prelude.{Bool, true, false, ◌||◌, List, ◌++◌, ◌≡◌, ℕ, eqb, length, take, drop, replicate}
use Rattle.sizes.specs.Sizes as Size
use Rattle.reading.specs.Numbers as No
use Rattle.reading.specs.Refusal.{Read, refused, read, ◌>>=◌, ◌>>◌}
use Rattle.writer.specs.Buffer.{length_read, left_by}
use Rattle.library_table.specs.Layout.{library_words}
use Rattle.netlist_table.specs.Layout.{netlist_words}
use Rattle.calculation.specs.Calculation.{analysed}
use Rattle.plan_text.specs.PlanText.{plan_text}
use Rattle.plan_text.specs.Plan.{Cheapest}
use Rattle.demands.specs.Demands.{NumbersStand}
use Rattle.demands.specs.Outcome as O
use Rattle.plan_calls.specs.Concluded.{kind_of, plan_read, PlanConcluded}

-- The numbers of K3's own refusals.
abbrev pub own_number : ℕ → Bool
own_number number = eqb number No.no_figure || eqb number No.plan_long

-- ---- the call

-- "Both come after every other check (17 isn't made here)": the entry, then the library and the netlist, then 18 and 19. `m` is
-- what is lent, the text buffer in the report's place.
unfoldable pub plan_outcome : O.Given → O.Lent → ℕ → ℕ → ℕ → Read (List ℕ)
plan_outcome g m l v kind = O.entry g m >> (O.read_pair g >>= λ p. plan_read p.cells p.statements l v kind (length m.report))

-- What is lent, behind the library and the netlist: the tables hold what was read and the numbers of its analysis, also where
-- the call refuses by 18 or 19.
unfoldable pub tables_filled : O.Pair → O.Lent → List ℕ → O.Lent
tables_filled p m text =
    record {
      library = library_words p.cells ++ drop Size.library m.library;
      netlist = netlist_words p.statements ++ drop Size.netlist m.netlist;
      numbers = (analysed p.cells p.statements).numbers ++ drop Size.numbers m.numbers;
      report = text;
    }

unfoldable pub plan_filled : O.Pair → O.Lent → ℕ → ℕ → ℕ → O.Lent
plan_filled p m l v kind = tables_filled p m (left_by (plan_read p.cells p.statements l v kind (length m.report)) m.report)

-- "every other check .. whose refusals treat that buffer as the report's": at entry all stays as it was, later all is zero.
unfoldable pub plan_later : Read O.Pair → O.Lent → ℕ → ℕ → ℕ → O.Lent
plan_later (refused number line) m l v kind = O.zeroed m
plan_later (read p) m l v kind = plan_filled p m l v kind

unfoldable pub plan_from : Read (Unit {0}) → Read O.Pair → O.Lent → ℕ → ℕ → ℕ → O.Lent
plan_from (refused number line) o m l v kind = m
plan_from (read u) o m l v kind = plan_later o m l v kind

-- All that was lent afterwards.
unfoldable pub plan_left : O.Given → O.Lent → ℕ → ℕ → ℕ → O.Lent
plan_left g m l v kind = plan_from (O.entry g m) (O.read_pair g) m l v kind

-- ---- what holds of it

-- What a caller has of an accepted call who sees its text alone, the first `n` bytes of a buffer: "The text is a plan in
-- document 01's sense and costs exactly the reported number."
pub record PlanSeen (g : O.Given) (l v kind : ℕ) (buffer : List ℕ) (n : ℕ) : Type 0 where
  pub pair : O.Pair
  pub was_read : O.read_pair g ≡ read pair
  pub cheapest : Cheapest pair.cells pair.statements (kind_of kind) l v
  pub size : n ≡ length (plan_text 0 cheapest.plan)
  pub bytes : take n buffer ≡ plan_text 0 cheapest.plan

-- Demand 1: what a refusal leaves, by the check that makes it, and by its number alone.
pub record PlanRefusals (g : O.Given) (before after : O.Lent) (said : Read ℕ) : Type 0 where
  -- "A refusal at entry touches no lent table";
  pub at_entry : (number line : ℕ) → O.entry g before ≡ refused number line → (said ≡ refused number line) × (after ≡ before)
  -- "every other refusal leaves them all zero", the text buffer too: "every other check .. whose refusals treat that buffer as
  -- the report's";
  pub of_texts : O.entry g before ≡ read tt → (number line : ℕ) → O.read_pair g ≡ refused number line
      → (said ≡ refused number line) × (after ≡ O.zeroed before)
  -- 18 and 19 "zero that buffer alone". No other refusal is made of an accepted library and netlist.
  pub of_plan : O.entry g before ≡ read tt → (p : O.Pair) → O.read_pair g ≡ read p → (number line : ℕ) → said ≡ refused number line
      → (own_number number ≡ true) × (after ≡ tables_filled p before (replicate (length before.report) 0))
  -- By the number: what was lent, and the text buffer.
  pub untouched : (number line : ℕ) → said ≡ refused number line → No.of_entry number ≡ true → after ≡ before
  pub cleared : (number line : ℕ) → said ≡ refused number line → No.of_entry number ≡ false
      → after.report ≡ replicate (length before.report) 0

-- What the call promises: by equation its answer, the refusal and its line, and every entry of every lent slice afterwards; the
-- three demands; which refusals never come; and of an accepted library and netlist, what was said above.
pub record PlanPromised (g : O.Given) (before after : O.Lent) (l v kind : ℕ) (said : Read ℕ) : Type 0 where
  pub answers : said ≡ length_read (plan_outcome g before l v kind)
  pub leaves : after ≡ plan_left g before l v kind
  -- "(17 isn't made here)"
  pub no_report : (line : ℕ) → said ≡ refused No.report_long line → ⊥
  -- 1 only of "a lent table below its published size".
  pub table_short : (line : ℕ) → said ≡ refused No.table_short line → O.table_short before ≡ true
  pub refusals : PlanRefusals g before after said
  -- An accepted call's text is the plan's.
  pub seen : (n : ℕ) → said ≡ read n → PlanSeen g l v kind after.report n
  -- Demands 2 and 3 of the numbers that it leaves, also where it refuses by 18 or 19.
  pub stands : (p : O.Pair) → O.entry g before ≡ read tt → O.read_pair g ≡ read p → NumbersStand p.cells p.statements after.numbers
  pub accepted : (p : O.Pair) → O.entry g before ≡ read tt → O.read_pair g ≡ read p
      → PlanConcluded p.cells p.statements l v kind before.report after.report said
