-- A line more with each turn; past the highest that is mentioned there is none.
use Rattle.common_laws.proofs.Base.{false, List, ◌≡◌, ℕ, ◌≤◌, ◌<◌, add_comm, add-one, arith}
use Rattle.sizes.specs.Sizes as Size
use Rattle.netlist_table.specs.Lines.{highest_mentioned}
use Rattle.netlist_table.proofs.HeldLines.{past_highest, highest_few}
use Rattle.report_text.specs.Arguments.{marked}
use Rattle.report_text.specs.Report.{lines_bytes}
use Rattle.writer.proofs.Steps.{puts-none, puts_then}
use Rattle.report_text.proofs.Steps.{lines_more, lines-all}
use Rattle.report_text.proofs.put_lines.Goals as goal

unmarked : (netlist : List ℕ) (l : ℕ) → highest_mentioned netlist < l → l ≤ Size.lines → marked netlist l ≡ false
unfolding marked
unmarked netlist l low high = past_highest netlist l low high

pub loop-row-init : goal.loop-row-init
unfolding lines_bytes
loop-row-init c = puts-none _

pub put_row-requires : goal.put_row-requires
put_row-requires c = omega (arith, highest_few c.args.netlist.now)

pub loop-row-preserved : goal.loop-row-preserved
loop-row-preserved c =
    let l = c.loop-row in
    rw (add-one l.row, lines_more (marked c.args.netlist.now) c.args.numbers.now l.row 1, add_comm 1 l.row)
    (puts_then l.invariant c.put_row.ensures)

pub returns : goal.returns
returns c =
    let l = c.loop-row in
    let netlist = c.args.netlist.now in
    let all = lines-all (marked netlist) c.args.numbers.now l.row (omega (arith, highest_few netlist)) (λ k low. unmarked netlist k (omega arith)) in
    rw all at l.invariant
