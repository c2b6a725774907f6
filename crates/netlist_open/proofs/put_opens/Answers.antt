-- A line more with each turn.
use Rattle.common_laws.proofs.Base.{add-one}
use Rattle.writer.proofs.Steps.{puts-none, puts_then}
use Rattle.netlist_table.specs.Netlist.{lines_where}
use Rattle.netlist_table.specs.Admission.{words_undeclared}
use Rattle.netlist_open.specs.Copy.{open_lines}
use Rattle.netlist_open.proofs.Opens.{opens-more}
use Rattle.netlist_open.proofs.put_opens.Goals as goal

pub loop-row-init : goal.loop-row-init
unfolding open_lines lines_where
loop-row-init c = puts-none _

pub loop-row-preserved : goal.loop-row-preserved
loop-row-preserved c =
    let l = c.loop-row in
    rw (add-one l.row, opens-more (words_undeclared c.args.netlist.now) l.row) (puts_then l.invariant c.put_one.ensures)
