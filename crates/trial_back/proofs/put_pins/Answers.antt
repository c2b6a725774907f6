-- One pin more: where it reads a line, the line is put back.
use Rattle.trial_back.proofs.Back.{pins-none, pins-pass, pins-next}
use Rattle.trial_back.proofs.put_pins.Goals.{in-Some, in_default}
use Rattle.trial_back.proofs.put_pins.Goals as goal

pub loop-i-init : goal.loop-i-init
loop-i-init c =
    let a = c.args in
    pins-none a.standing.now a.netlist.now a.gate a.tried.now a.stack.now

pub loop-i-preserved : goal.loop-i-preserved
loop-i-preserved c =
    elim c.match-pin_line.branch [
      | in-Some w ↦ rw (w.tried-is, w.stack-is) (pins-next c.loop-i.invariant w.in-Some.ensures.1 w.put_line.ensures)
      | in_default w ↦ rw (w.tried-is, w.stack-is) (pins-pass c.loop-i.invariant w.in_default.ensures)
    ]
