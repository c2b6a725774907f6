-- The sweeps of one kind, once more, with what each visit lowered. Document 02, K3: "the row is the one by which the sweeps last
-- lowered the number, the first in library order among equals at that visit". Request E1 (D196), of a line observed: the gate is
-- the one at whose visit the sweeps last lowered its number, the pin the lowest, and the row the first in library order, of those
-- whose sums reach the number at that visit.
use Rattle.std.specs.Prelude.{List, ℕ, ◌+◌, ◌*◌, ◌%◌, length, get_or}
use Rattle.std.proofs.Math.Option.{Option}
use Rattle.plans.specs.Sweep.{renew, lower, sweep_open}
use Rattle.plans.specs.Trace.{Mark, Trace, mark_at, trace_sweeps, untraced, trace_open}
use Rattle.library_table.specs.Cells.{Cell}
use Rattle.netlist_table.specs.Netlist.{Statement, gates_of}
use Rattle.netlist_table.specs.Gates.{no_gate}
use Rattle.calculation.specs.Nodes.{Kind, Purpose, set, observe, node}
use Rattle.calculation.specs.Ways.{setting, setting_visits, observing_visits, Turn, setting_turns, observing_turns}
use Rattle.calculation.specs.Calculation.{start, calculation_open}

-- What the sweeps of one kind remember, from the start on. "With G gates, CC and SC take at most 2G + 1 sweeps each": of those
-- that come after the first that changes nothing, none lowers or marks anything.
unfoldable pub setting_trace : Kind → List Cell → List Statement → Trace
setting_trace k cells ss =
    let gs = gates_of ss in
    trace_sweeps renew (setting_visits k cells gs) (2 * length gs + 1) (untraced (start ss))

-- "Then CO and SO": from the numbers that those leave. "CO and SO at most G + 1".
unfoldable pub observing_trace : Kind → List Cell → List Statement → Trace
observing_trace k cells ss =
    let gs = gates_of ss in
    trace_sweeps lower (observing_visits k cells gs) (length gs + 1) (untraced (setting_trace k cells ss).numbers)

-- ---- one definition for both roles

-- What was remembered of a purpose: none where no visit lowered its number.
unfoldable pub mark_for : Kind → List Cell → List Statement → Purpose → Option Mark
mark_for k cells ss (set l v) = mark_at (setting_trace k cells ss).marks (node k (set l v))
mark_for k cells ss (observe l) = mark_at (observing_trace k cells ss).marks (node k (observe l))

-- The visits of a sweep, each a gate in a role, and the one that is made at a time: of pins that read one line, a mark's time
-- tells which it was.
unfoldable pub turns_for : List Cell → List Statement → Purpose → List Turn
turns_for cells ss (set l v) = setting_turns (gates_of ss)
turns_for cells ss (observe l) = observing_turns cells (gates_of ss)

unfoldable pub turn_at : List Turn → ℕ → Turn
turn_at ts t = get_or ts (t % length ts) (record { gate = no_gate; role = setting 0 })

-- Opens the page's definitions, where a figure computes with them.
unfoldable pub lowered_open : ℕ
unfolding sweep_open trace_open calculation_open setting_trace observing_trace mark_for turns_for turn_at
lowered_open = 0
