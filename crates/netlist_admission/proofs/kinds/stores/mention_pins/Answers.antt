-- `mention_pins` marks the lines of the pins: those passed are.
use Rattle.common_laws.proofs.Base.{◌∙◌}
use Rattle.netlist_table.proofs.Stores.{mention_start, mention_step}
use Rattle.netlist_admission.proofs.kinds.stores.mention_pins.Goals as goal

pub loop-l-init : goal.loop-l-init
loop-l-init c = mention_start c.args.pins c.args.table.now

pub loop-l-preserved : goal.loop-l-preserved
loop-l-preserved c = c.mention.ensures ∙ rw c.loop-l.invariant (mention_step _ c.loop-l.l-index c.args.table.now c.loop-l-test.true)
