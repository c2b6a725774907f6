-- `qualifies` puts the three answers together.
use Rattle.common_laws.proofs.Base.{ap, not}
use Rattle.netlist_table.specs.Gates.{gates_held}
use Rattle.chip_loops.specs.Marks.{read_once}
use Rattle.chip_call.specs.Qualified.{all_generated, qualifying}
use Rattle.chip_call.proofs.Laws.{qualified}
use Rattle.chip_call.proofs.Judged.{comes-looped, comes_unbuilt, comes_first, comes-both}
use Rattle.chip_call.proofs.qualifies.Goals as goal

pub returns-then-not-without_loops : goal.returns-then-not-without_loops
unfolding qualifying
returns-then-not-without_loops c =
    let a = c.args in
    qualified a.library.now a.netlist.now 0
    (rw (← c.without_loops.ensures)
    (comes-looped c.without_loops.result (all_generated a.library.now (gates_held a.netlist.now)) (read_once a.netlist.now) (ap not c.if-not-without_loops.true)))

pub returns-then-not-all_generated : goal.returns-then-not-all_generated
unfolding qualifying
returns-then-not-all_generated c =
    let a = c.args in
    qualified a.library.now a.netlist.now 0
    (rw (← c.without_loops.ensures, ← c.all_generated.ensures)
    (comes_unbuilt c.without_loops.result c.all_generated.result (read_once a.netlist.now) (ap not c.if-not-without_loops.false) (ap not c.if-not-all_generated.true)))

pub returns-then-read_once : goal.returns-then-read_once
unfolding qualifying
returns-then-read_once c =
    let a = c.args in
    qualified a.library.now a.netlist.now 2
    (rw (← c.without_loops.ensures, ← c.all_generated.ensures, ← c.read_once.ensures)
    (comes-both c.without_loops.result c.all_generated.result c.read_once.result (ap not c.if-not-without_loops.false) (ap not c.if-not-all_generated.false) c.if-read_once.true))

pub returns-else-read_once : goal.returns-else-read_once
unfolding qualifying
returns-else-read_once c =
    let a = c.args in
    qualified a.library.now a.netlist.now 1
    (rw (← c.without_loops.ensures, ← c.all_generated.ensures, ← c.read_once.ensures)
    (comes_first c.without_loops.result c.all_generated.result c.read_once.result (ap not c.if-not-without_loops.false) (ap not c.if-not-all_generated.false) c.if-read_once.false))
