-- Other libraries under a standing analysis: whole texts in, numbers out, by computation over the definitions. Document 02,
-- K14.
use Rattle.std.specs.Prelude.{true, false, List, [], ◌∷◌, ◌++◌, ◌≡◌, refl, ℕ, take, drop, replicate}
use Prim.Native.String.{String}
use Rattle.sizes.specs.Sizes as Size
use Rattle.text.specs.Bytes.{text}
use Rattle.table.specs.Blocks.{fitted}
use Rattle.reading.specs.Refusal.{Read, refused, read}
use Rattle.calculation.specs.Runs.{lesser_runs}
use Rattle.calculation.specs.Growth.{same_row, keeps, pairwise, same_heading, same_entry, grown_cell, grown}
use Rattle.calculation.specs.Pads.{padded, takes_none, placeable}
use Rattle.calculation.specs.StandingAnalysis.{begun_again}
use Rattle.sweep_reruns.specs.Kept.{held}
use Rattle.demands.specs.Outcome.{Given, given_texts, read_pair}
use Rattle.report_figures.specs.Entries.{nand2, and2}
use Rattle.report_figures.specs.Figures.{outcome_open}
use Rattle.standing_table.specs.StandingTable.{standing_words, pads_held, counts_held, analysis_held, state_held}
use Rattle.standing_table.specs.Held.{entered, foreign, held_by}
use Rattle.standing_calls.specs.Calls.{table_short, stood_later, stood_from, stood}
use Rattle.standing_change.specs.Calls.{gone_on, Change, change_of, changed, changed_by, comes, answer_of, table_after}

-- "Latch: gates 3 = (1,4), 4 = (2,3), inputs 1, 2, output 3".
abbrev latch : List String → Given
latch lib = given_texts (text lib) (text ("input,1" ∷ "input,2" ∷ "gate,NAND2,3,1,4" ∷ "gate,NAND2,4,2,3" ∷ "output,3" ∷ []))

unfoldable pub standing_table : List ℕ
standing_table = stood (latch nand2) (replicate Size.standing 0) (replicate 200 0)

-- What a change to a library comes to.
unfoldable pub came : List String → Read Change
came lib = comes (latch nand2) (latch lib) standing_table

unfoldable pub changes_open : ℕ
unfolding outcome_open read_pair fitted held padded takes_none placeable lesser_runs same_row keeps pairwise same_heading same_entry grown_cell grown begun_again standing_words pads_held counts_held analysis_held state_held entered foreign held_by table_short stood_later stood_from stood gone_on change_of changed changed_by comes answer_of table_after standing_table came
changes_open = 0

-- A row of depth 0 added to group 1 of CC, which names pin 1 at 0.
abbrev one_more : List String
one_more = "Name,NAND2,2" ∷ "CC,13,21,M,5,M,20" ∷ "CO,203,211" ∷ "SC,12,20,M,4" ∷ "SO,202,210" ∷ "End" ∷ []

-- The sweeps go on: CC takes 3, SC 1, CO 2, SO 1, and the numbers are those of a new analysis: CC of 3 and 4 both 3,1, CO of
-- 1 to 4 is 2,4,0,2.
pub more-goes : answer_of (came one_more) ≡ read true
unfolding changes_open
more-goes = refl

pub more-counts : take 6 (table_after (came one_more) standing_table) ≡ 0 ∷ 3 ∷ 1 ∷ 2 ∷ 1 ∷ 0 ∷ []
unfolding changes_open
more-counts = refl

pub more_numbers : take 24 (drop Size.standing_numbers (table_after (came one_more) standing_table))
    ≡ 1 ∷ 1 ∷ 0 ∷ 0 ∷ 2 ∷ 0 ∷ 1 ∷ 1 ∷ 0 ∷ 0 ∷ 4 ∷ 0 ∷ 3 ∷ 1 ∷ 0 ∷ 0 ∷ 0 ∷ 0 ∷ 3 ∷ 1 ∷ 0 ∷ 0 ∷ 2 ∷ 0 ∷ []
unfolding changes_open
more_numbers = refl

-- The same library: each run takes the one sweep that changes nothing.
pub same-goes : answer_of (came nand2) ≡ read true
unfolding changes_open
same-goes = refl

pub same-counts : take 6 (table_after (came nand2) standing_table) ≡ 0 ∷ 1 ∷ 1 ∷ 1 ∷ 1 ∷ 0 ∷ []
unfolding changes_open
same-counts = refl

-- An entry more: analysed from the beginning.
pub entry-begins : answer_of (came (nand2 ++ and2)) ≡ read false
unfolding changes_open
entry-begins = refl

pub entry-counts : take 6 (table_after (came (nand2 ++ and2)) standing_table) ≡ 0 ∷ 3 ∷ 3 ∷ 3 ∷ 3 ∷ 0 ∷ []
unfolding changes_open
entry-counts = refl

-- A row in the place of another: it is another library too.
pub replaced_begins : answer_of (came ("Name,NAND2,2" ∷ "CC,13,21,M,20" ∷ "CO,203,211" ∷ "SC,12,20,M,4" ∷ "SO,202,210" ∷ "End" ∷ [])) ≡ read false
unfolding changes_open
replaced_begins = refl

-- A library without the netlist's cell: refused at the netlist's third line.
pub other-refused : answer_of (came and2) ≡ refused 12 3
unfolding changes_open
other-refused = refl
