-- By the role those that read the line are woken, or the one that drives it.
use Rattle.common_laws.proofs.Base.{arith}
use Rattle.sweep_turns.proofs.Wakes.{readers-woken, driver-woken}
use Rattle.sweep_turns.proofs.wake_needing.Goals as goal

pub returns-in-Setting : goal.returns-in-Setting
returns-in-Setting c netlist chained driven once = rw c.in-Setting.is (readers-woken (omega arith) (c.wake_readers.ensures netlist _ chained))

pub returns-in-Observing : goal.returns-in-Observing
returns-in-Observing c netlist chained driven once =
    rw c.in-Observing.is (driver-woken (omega arith) (λ e. omega (arith, e)) once (c.wake_driver.ensures netlist driven))
