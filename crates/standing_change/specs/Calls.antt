-- What a change of library comes to, answers and leaves, whatever is lent. Document 02, K14. `g` is what is given to read under
-- the old library, `h` under the new one: the netlist is the same text, which goes by the names of cells.
use Rattle.std.specs.Prelude.{Bool, true, false, ◌||◌, List, [], ◌∷◌, ◌++◌, ℕ, drop}
use Rattle.sizes.specs.Sizes as Size
use Rattle.reading.specs.Choice.{pick}
use Rattle.reading.specs.Numbers as No
use Rattle.reading.specs.Refusal.{Read, refused, read, ◌>>=◌, ◌>>◌, weigh}
use Rattle.library_table.specs.Cells.{Cell}
use Rattle.library_table.specs.Library.{library}
use Rattle.netlist_table.specs.Netlist.{Statement, gates_of}
use Rattle.calculation.specs.Runs.{lesser_runs}
use Rattle.calculation.specs.Growth.{grown}
use Rattle.calculation.specs.Pads.{State, statements_of}
use Rattle.calculation.specs.StandingAnalysis.{begun_again}
use Rattle.demands.specs.Outcome.{Given}
use Rattle.standing_table.specs.StandingTable.{standing_words}
use Rattle.standing_table.specs.Held.{held_by}
use Rattle.standing_calls.specs.Calls.{table_short}
use Rattle.std.specs.Prelude.{Result, Ok, Err}
use Rattle.reading.specs.declared.Refusal.{Refusal}
use Rattle.standing_change.specs.declared.Course.{Course}
use Rattle.standing_change.specs.declared.Course.TheVariants.{WentOn, BegunAgain}

-- ---- whatever stands in the table

-- "CC and SC sweeps then go on from the standing numbers, CO and SO after them": from any numbers, by keeping the lesser. Of a
-- standing analysis this is `went_on` of calculation/specs/StandingAnalysis.antt (`gone-on` of proofs/Promise.antt).
unfoldable pub gone_on : State → List Cell → State
gone_on s more =
    record {
      cells = more;
      statements = s.statements;
      pads = s.pads;
      analysis = lesser_runs more (gates_of (statements_of s)) s.analysis.numbers;
    }

-- "the answer names which happened": whether the sweeps went on; and the state then.
pub record Change : Type 0 where
  pub went_on : Bool
  pub state : State

-- "Any other accepted library is analysed from the beginning, pads kept".
unfoldable pub change_of : State → List Cell → List Statement → Change
change_of s more ss =
    let on : Bool = grown s.cells more in
    record { went_on = on; state = pick on (gone_on s more) (begun_again s more ss) }

-- Under the cells of the new library, and what the netlist comes to under them.
unfoldable pub changed : State → List Cell → Read (List Statement) → Read Change
changed s more r = r >>= λ ss. read (change_of s more ss)

-- The new library, then the netlist under it.
unfoldable pub changed_by : Given → State → Read Change
changed_by h s = library h.library >>= λ more. changed s more (h.statements more)

-- "1 a lent table below its published size; 2 a text above 65,535 bytes"; then what is lent as a standing analysis; then the
-- change.
unfoldable pub comes : Given → Given → List ℕ → Read Change
comes g h table =
    weigh 0 ((No.table_short, table_short table) ∷ ((No.text_long, g.long || h.long) ∷ []))
    >> (held_by g table >>= λ s. changed_by h s)

unfoldable pub answer_of : Read Change → Read Bool
answer_of (refused number line) = refused number line
answer_of (read c) = read c.went_on

-- "one that is refused, or under which the netlist is, leaves the standing analysis untouched".
unfoldable pub table_after : Read Change → List ℕ → List ℕ
table_after (refused number line) before = before
table_after (read c) before = standing_words c.state.pads c.state.analysis ++ drop Size.standing before

-- The answer of the call.
unfoldable pub changed_read : Result Course Refusal → Read Bool
changed_read (Ok WentOn) = read true
changed_read (Ok BegunAgain) = read false
changed_read (Err r) = refused r.number r.line

-- ---- on a standing analysis

-- What a change answers: 2 where the new library's text is too long, the refusal of that text, that of the netlist under it, or
-- which of the two happened.
unfoldable pub told : Given → State → Read Bool
told h s =
    weigh 0 ((No.text_long, h.long) ∷ [])
    >> (library h.library >>= λ more. h.statements more >>= λ ss. read (grown s.cells more))
