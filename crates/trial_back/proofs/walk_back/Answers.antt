-- The walk goes from line to line until the stack is empty.
use Rattle.common_laws.proofs.Base.{◌+◌, ◌≤◌, sym, ◌∙◌, arith, eqb-true, leb-true, length, length-append}
use Rattle.std.proofs.lemmas.List.{nil_from_length}
use Rattle.sizes.specs.Sizes as Size
use Rattle.netlist_table.specs.Sound.{InRange}
use Rattle.trial_back.proofs.Back.{walk-on, walk-past, walk_ends, driver-stands}
use Rattle.trial_back.proofs.walk_back.Goals.{in-Some-driver_of, in_default-driver_of}
use Rattle.trial_back.proofs.walk_back.Goals as goal

pub returns-in_default : goal.returns-in_default
returns-in_default c e =
    let a = c.args in
    walk_ends a.netlist.now a.links.now a.standing.now a.tried.now a.stack.now c.loop.tried c.loop.stack c.in_default.ensures.0 c.loop.invariant.walk (omega arith)

pub driver_of-requires : goal.driver_of-requires
unfolding InRange
driver_of-requires c = c.in-Some.ensures.1.1

pub put_pins-requires : goal.put_pins-requires
unfolding InRange
put_pins-requires c =
    let room : length c.loop.stack + Size.pins ≤ Size.back_lines = leb-true _ _ (sym c.if-not-has_room.ensures) in
    let s = c.in-Some.ensures in
    let d = c.in-Some-driver_of.ensures in
    (omega (arith, rw (s.0, length-append) at room), driver-stands c.in-Some.line c.in-Some-driver_of.gate c.requires s.1.1 d.0 d.1)

pub loop-preserved : goal.loop-preserved
loop-preserved c =
    let a = c.args in
    let s = c.in-Some.ensures in
    elim c.match-driver_of.branch [
      | in-Some-driver_of w ↦
          record {
            long = rw w.tried-is w.put_pins.array_long;
            walk =
                rw (w.tried-is, w.stack-is)
                (walk-on a.netlist.now a.links.now a.standing.now a.tried.now a.stack.now c.loop.tried c.loop.stack c.pop.new.self c.in-Some.line
                w.in-Some-driver_of.gate c.loop.invariant.walk s.0 w.in-Some-driver_of.ensures.1 w.put_pins.ensures);
          }
      | in_default-driver_of w ↦
          record {
            long = rw w.tried-is c.loop.invariant.long;
            walk =
                rw (w.tried-is, w.stack-is)
                (walk-past a.netlist.now a.links.now a.standing.now a.tried.now a.stack.now c.loop.tried c.loop.stack c.pop.new.self c.in-Some.line
                c.loop.invariant.walk s.0 w.in_default-driver_of.ensures);
          }
    ]

pub returns : goal.returns
returns c e =
    let a = c.args in
    walk_ends a.netlist.now a.links.now a.standing.now a.tried.now a.stack.now c.loop.tried c.loop.stack
    (nil_from_length c.loop.stack (eqb-true (length c.loop.stack) 0 (sym c.is_empty.ensures ∙ e))) c.loop.invariant.walk (omega arith)
