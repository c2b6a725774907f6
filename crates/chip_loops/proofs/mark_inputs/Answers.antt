-- `mark_inputs` meets its contract.
use Rattle.common_laws.proofs.Base.{refl, sym, ap, ◌∙◌, arith}
use Rattle.sizes.specs.Sizes as Size
use Rattle.netlist_table.specs.Lines.{input_at, inputs_held}
use Rattle.chip_loops.specs.Marks.{mark_each}
use Rattle.chip_loops.proofs.Steps.{mark-next, where-end}
use Rattle.chip_loops.proofs.mark_inputs.Goals as goal

pub loop-l-init : goal.loop-l-init
unfolding inputs_held
loop-l-init c = refl

pub loop-l-preserved : goal.loop-l-preserved
loop-l-preserved c =
    let l = c.loop-l in
    mark-next l.marks (input_at c.args.netlist.now) Size.line_places l.l (omega arith) c.mark_input.ensures ∙ l.invariant

pub returns : goal.returns
unfolding mark_each
returns c =
    let l = c.loop-l in
    sym (ap (mark_each l.marks) (where-end (input_at c.args.netlist.now) Size.line_places l.l (omega arith))) ∙ l.invariant
