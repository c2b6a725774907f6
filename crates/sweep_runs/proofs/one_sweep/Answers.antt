-- The turns from one that is awake to the next are idle.
use Rattle.common_laws.proofs.Base.{◌≡◌, ◌∙◌, ap, ℕ, ◌<◌, arith, get_or}
use Rattle.cost.specs.Kind.{kind_index}
use Rattle.plans.specs.Idle.{in_turn}
use Rattle.sweep_groups.specs.Roles.{role_index}
use Rattle.sweep_turns.specs.Order.{gate_of_turn, turn_visits}
use Rattle.sweep_turns.proofs.VisitsLaws.{swept_none, swept-length, next-turn, turn_inside}
use Rattle.sweep_runs.proofs.Asleep.{come, skips, rests-on}
use Rattle.sweep_runs.proofs.one_sweep.Goals.{After-gate_of_turn-gate}
use Rattle.sweep_runs.proofs.one_sweep.Goals as goal

pub loop-turn-init : goal.loop-turn-init
unfolding in_turn
loop-turn-init c =
    let a = c.args in
    record {
      swept = skips (role_index a.role) (kind_index a.kind) a.circuit.now.library.now a.circuit.now.netlist.now (omega arith) c.requires.resting c.next_awake-turn.ensures (swept_none a.numbers.now);
      rests = c.requires.resting;
    }

gate_is : (c : After-gate_of_turn-gate) → c.gate_of_turn-gate.result ≡ gate_of_turn (role_index c.args.role) (get_or c.args.circuit.now.netlist.now 0 0) c.loop-turn.turn
gate_is c = c.gate_of_turn-gate.ensures ∙ ap (λ (n : ℕ). gate_of_turn (role_index c.args.role) n c.loop-turn.turn) c.count-gates.ensures

pub visit_gate-renewed-requires : goal.visit_gate-renewed-requires
visit_gate-renewed-requires c =
    let inside : c.loop-turn.turn < get_or c.args.circuit.now.netlist.now 0 0 = rw c.count-gates.ensures at c.loop-turn-test.true in
    record {
      links_fit = c.requires.links_fit;
      inside =
          rw (gate_is (goal.at.visit_gate-renewed-requires c).After-gate_of_turn-gate)
          (turn_inside (role_index c.args.role) (get_or c.args.circuit.now.netlist.now 0 0) c.loop-turn.turn inside);
      size = swept-length c.loop-turn.invariant.swept ∙ c.requires.size;
    }

pub loop-turn-preserved : goal.loop-turn-preserved
loop-turn-preserved c =
    let a = c.args in
    let role = role_index a.role in
    let kind = kind_index a.kind in
    let l = c.loop-turn in
    let here : l.turn < get_or a.circuit.now.netlist.now 0 0 = rw c.count-gates.ensures at c.loop-turn-test.true in
    let came : come role kind a.circuit.now.library.now a.circuit.now.netlist.now l.turn ≡ l.turn = omega arith in
    let done = rw came at l.invariant.swept in
    let made = rw (gate_is (goal.at.loop-turn-preserved c).After-gate_of_turn-gate) at c.visit_gate-renewed.ensures.swept in
    let rests = rests-on role kind a.circuit.now.library.now a.circuit.now.netlist.now l.turn here l.invariant.rests c.rest.ensures c.visit_gate-renewed.ensures.wakes made in
    let next = next-turn (λ turn. turn_visits role kind a.circuit.now.library.now a.circuit.now.netlist.now turn) l.turn done made in
    record {
      swept = skips role kind a.circuit.now.library.now a.circuit.now.netlist.now (omega arith) rests c.next_awake-turn-in-loop-turn.ensures next;
      rests = rests;
    }
