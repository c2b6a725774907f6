-- `without_loops` marks the inputs, levels ahead, makes passes and looks at the lines that are mentioned.
use Rattle.chip_loops.proofs.Order.{all-levelled}
use Rattle.chip_loops.proofs.without_loops.Goals as goal

pub returns : goal.returns
returns c =
    all-levelled c.args.netlist.now c.mark_inputs.ensures c.level_ahead.ensures c.level_lines.ensures
    c.mentions_marked.ensures
