-- Pads asked for and placed: whole texts in, numbers out, by computation over the definitions. Document 02, K11.
use Rattle.std.specs.Prelude.{false, List, [], ◌∷◌, ◌≡◌, refl, ℕ, take, drop, replicate}
use Rattle.sizes.specs.Sizes as Size
use Rattle.text.specs.Bytes.{text}
use Rattle.table.specs.Blocks.{fitted}
use Rattle.reading.specs.Refusal.{Read, refused, read}
use Rattle.netlist_table.specs.Layout.{line_words}
use Rattle.calculation.specs.Runs.{mixed, of_setting, relaid, last_runs, observed_anew}
use Rattle.calculation.specs.Pads.{padded, State, takes_none, unpaddable, stale, placeable, placed, Operation, ask, commit, causes_of, checked}
use Rattle.sweep_reruns.specs.Kept.{held}
use Rattle.demands.specs.Outcome.{Given, given_texts, read_pair}
use Rattle.report_figures.specs.Entries.{nand2}
use Rattle.report_figures.specs.Figures.{outcome_open}
use Rattle.standing_table.specs.StandingTable.{standing_words, pads_held, counts_held, analysis_held, state_held, observed_words}
use Rattle.standing_table.specs.Held.{entered, foreign, held_by}
use Rattle.standing_calls.specs.Calls.{comes, table_short, ticket_of, answer_after, placed_of, table_after, stood_later, stood_from, stood}

-- "Latch: gates 3 = (1,4), 4 = (2,3), inputs 1, 2, output 3".
abbrev latch : Given
latch = given_texts (text nand2) (text ("input,1" ∷ "input,2" ∷ "gate,NAND2,3,1,4" ∷ "gate,NAND2,4,2,3" ∷ "output,3" ∷ []))

-- The table of the analysis, and what an ask or a commit comes to on it.
unfoldable pub standing_table : List ℕ
standing_table = stood latch (replicate Size.standing 0) (replicate 200 0)

unfoldable pub came : Operation → Read State
came o = comes latch false standing_table o

-- The table once a pad is placed on line 4.
unfoldable pub padded_table : List ℕ
padded_table = table_after (came (commit 4 0)) 4 standing_table

unfoldable pub pads_open : ℕ
unfolding outcome_open read_pair fitted line_words held padded mixed of_setting relaid last_runs observed_anew takes_none unpaddable stale placeable placed causes_of checked standing_words pads_held counts_held analysis_held state_held observed_words entered foreign held_by comes table_short ticket_of answer_after placed_of table_after stood_later stood_from stood standing_table came padded_table
pads_open = 0

-- No pad, the four counts, and CO and SO of 3,5,0,2 and 0.
pub latch-stands : take 6 standing_table ≡ 0 ∷ 3 ∷ 3 ∷ 3 ∷ 3 ∷ 0 ∷ []
unfolding pads_open
latch-stands = refl

-- Line 4 asked for: the ticket has no pad yet; CO of 1 to 4 is 3,3,0,0, SO 0.
pub latch_ticket : ticket_of (came (ask 4)) ≡ read 0
unfolding pads_open
latch_ticket = refl

pub latch-asked : take 8 (answer_after (came (ask 4)) 4 (replicate Size.observed 0)) ≡ 3 ∷ 0 ∷ 3 ∷ 0 ∷ 0 ∷ 0 ∷ 0 ∷ 0 ∷ []
unfolding pads_open
latch-asked = refl

-- "23 for a line that the netlist doesn't mention or already an output; then 24".
pub latch-output : ticket_of (came (ask 3)) ≡ refused 23 0
unfolding pads_open
latch-output = refl

pub latch-unmentioned : ticket_of (came (ask 5)) ≡ refused 23 0
unfolding pads_open
latch-unmentioned = refl

pub latch-stale : placed_of (came (commit 4 1)) 4 ≡ refused 24 0
unfolding pads_open
latch-stale = refl

pub latch-both : placed_of (came (commit 3 1)) 3 ≡ refused 23 0
unfolding pads_open
latch-both = refl

-- Line 4 committed: one pad, CC and SC sweeps as they were, CO and SO 2 each, and the numbers of lines 1 to 4.
pub latch-placed : placed_of (came (commit 4 0)) 4 ≡ read 1
unfolding pads_open
latch-placed = refl

pub latch-table : take 7 padded_table ≡ 1 ∷ 3 ∷ 3 ∷ 2 ∷ 2 ∷ 4 ∷ 0 ∷ []
unfolding pads_open
latch-table = refl

pub latch-numbers : take 24 (drop Size.standing_numbers padded_table)
    ≡ 1 ∷ 1 ∷ 0 ∷ 0 ∷ 3 ∷ 0 ∷ 1 ∷ 1 ∷ 0 ∷ 0 ∷ 3 ∷ 0 ∷ 4 ∷ 2 ∷ 0 ∷ 0 ∷ 0 ∷ 0 ∷ 4 ∷ 2 ∷ 0 ∷ 0 ∷ 0 ∷ 0 ∷ []
unfolding pads_open
latch-numbers = refl
