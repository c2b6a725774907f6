-- What the calls come to, answer and leave, whatever is lent. Document 02, K11.
use Rattle.std.specs.Prelude.{Bool, List, [], ◌∷◌, ◌++◌, ℕ, ltb, length, drop, replicate}
use Rattle.sizes.specs.Sizes as Size
use Rattle.reading.specs.Numbers as No
use Rattle.reading.specs.Refusal.{Read, refused, read, ◌>>=◌, ◌>>◌, weigh}
use Rattle.calculation.specs.Calculation.{analysed}
use Rattle.calculation.specs.Pads.{padded, State, placed, Operation, ask, commit, causes_of, checked}
use Rattle.demands.specs.Outcome as O
use Rattle.demands.specs.Own.{own_tables}
use Rattle.standing_table.specs.Held.{entered, held_by}
use Rattle.standing_table.specs.StandingTable.{standing_words, observed_words}

-- ---- asking and committing

-- The refusal of a call, or the state of which it asks: entry and texts, then 23, then 24.
unfoldable pub comes : O.Given → Bool → List ℕ → Operation → Read State
comes g short table o = entered short g >> (held_by g table >>= λ s. checked s o)

-- A lent table, or an answer, that is below its size.
unfoldable pub table_short : List ℕ → Bool
table_short table = ltb (length table) Size.standing

unfoldable pub answer_short : List ℕ → Bool
answer_short answer = ltb (length answer) Size.observed

-- "It hands out a ticket: the line and the number of pads placed so far."
unfoldable pub ticket_of : Read State → Read ℕ
ticket_of (refused number line) = refused number line
ticket_of (read s) = read (length s.pads)

-- "answers with the CO and SO of all lines as if it were marked output"; "a lent answer [is] left untouched" by a refusal.
unfoldable pub answer_after : Read State → ℕ → List ℕ → List ℕ
answer_after (refused number line) l before = before
answer_after (read s) l before = observed_words (placed s l).analysis.numbers ++ drop Size.observed before

-- The number of pads placed then.
unfoldable pub placed_of : Read State → ℕ → Read ℕ
placed_of (refused number line) l = refused number line
placed_of (read s) l = read (length (placed s l).pads)

-- "Committing a ticket marks the line and makes exactly those numbers stand"; "state, numbers .. are left untouched" by a
-- refusal.
unfoldable pub table_after : Read State → ℕ → List ℕ → List ℕ
table_after (refused number line) l before = before
table_after (read s) l before = standing_words (placed s l).pads (placed s l).analysis ++ drop Size.standing before

-- ---- on a standing analysis

-- What an ask answers: 23, or the ticket with the CO and SO of "a new analysis with the committed pads as outputs", and the
-- line.
unfoldable pub asked : State → ℕ → Read (ℕ × List ℕ)
asked s l =
    weigh 0 (causes_of s (ask l))
    >> read (length s.pads, observed_words (analysed s.cells (padded s.statements (s.pads ++ (l ∷ [])))).numbers)

-- What a commit answers: 23, 24, or the number of pads placed then.
unfoldable pub committed : State → ℕ → ℕ → Read ℕ
committed s l n = weigh 0 (causes_of s (commit l n)) >> read (length (s.pads ++ (l ∷ [])))

-- ---- the analysis that is to stand

-- A standing table below its size, then what `analyse` refuses, on tables of its own.
unfoldable pub standing : O.Given → List ℕ → List ℕ → Read O.Accepted
standing g table report = weigh 0 ((No.table_short, table_short table) ∷ []) >> O.outcome g (own_tables report)

-- "Entry refusals leave lent memory untouched; later ones leave every table and the report buffer zero": as an analysis does.
unfoldable pub stood_later : Read O.Accepted → List ℕ → List ℕ
stood_later (refused number line) before = replicate (length before) 0
stood_later (read a) before = standing_words [] a.analysis ++ drop Size.standing before

unfoldable pub stood_from : Read (Unit {0}) → Read O.Accepted → List ℕ → List ℕ
stood_from (refused number line) o before = before
stood_from (read u) o before = stood_later o before

unfoldable pub stood : O.Given → List ℕ → List ℕ → List ℕ
stood g before report = stood_from (entered (table_short before) g) (O.reading g (length report)) before

unfoldable pub reported_from : Read (Unit {0}) → O.Given → List ℕ → List ℕ
reported_from (refused number line) g report = report
reported_from (read u) g report = (O.left g (own_tables report)).report

unfoldable pub reported : O.Given → List ℕ → List ℕ → List ℕ
reported g table report = reported_from (entered (table_short table) g) g report
