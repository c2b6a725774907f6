-- A turn of the loop: one visit more, by the costs that are those of the numbers.
use Rattle.common_laws.proofs.Base.{List, [], ◌∷◌, ◌≡◌, refl, ◌∙◌, ap, ℕ, arith, get_or}
use Rattle.sizes.specs.Sizes as Size
use Rattle.reading.specs.Choice.{pick}
use Rattle.cost.specs.Kind.{kind_index}
use Rattle.plans.specs.Idle.{in_turn}
use Rattle.sweep_groups.specs.Tables.{by_role, gate_visit}
use Rattle.sweep_turns.specs.Renewed.{Renewed}
use Rattle.sweep_turns.proofs.Turns.{gather_first, gather-next, set_apart, lines_fit_lem, turn-fits, turn-made}
use Rattle.sweep_turns.proofs.Wakes.{line-woken, changes_first, changes_later}
use Rattle.sweep_turns.proofs.VisitsLaws.{swept_none, swept-one, swept-length, next-turn}
use Rattle.sweep_turns.proofs.set_gate.Goals.{After-visit_in_turn-renewed}
use Rattle.sweep_turns.proofs.set_gate.Goals as goal

pub loop-i-init : goal.loop-i-init
unfolding in_turn
loop-i-init c =
    let a = c.args in
    let f = c.requires.visits_fit in
    record {
      swept = swept_none a.numbers.now;
      wakes = changes_first 0 (kind_index a.kind) a.circuit.now.library.now a.circuit.now.netlist.now a.awake.now a.numbers.now;
      gather = gather_first 0 f.links_fit.kind_fits (lines_fit_lem c.requires c.lines_of-lines.result c.lines_of-lines.ensures) f.size refl;
    }

pub visit_in_turn-renewed-requires : goal.visit_in_turn-renewed-requires
unfolding by_role pick
visit_in_turn-renewed-requires c =
    let f = c.requires.visits_fit in
    turn-fits c.requires c.lines_of-lines.result c.lines_of-lines.ensures c.is_tied-wired.result (c.is_tied-wired.ensures _ _ _ c.args.circuit.now.linked.tied f.inside)
    c.loop-i.i c.loop-i-test.true c.column_costs.ensures (swept-length c.loop-i.invariant.swept ∙ f.size)

-- The visit that was made.
made : (c : After-visit_in_turn-renewed)
    → let a = c.args in
    Renewed (gate_visit 0 (kind_index a.kind) a.circuit.now.library.now a.circuit.now.netlist.now a.gate c.loop-i.i) c.loop-i.numbers c.visit_in_turn-renewed.new.numbers c.visit_in_turn-renewed.result
unfolding by_role pick
made c =
    let f = c.requires.visits_fit in
    turn-made c.requires c.lines_of-lines.result c.lines_of-lines.ensures c.is_tied-wired.result (c.is_tied-wired.ensures _ _ _ c.args.circuit.now.linked.tied f.inside)
    c.loop-i.i c.loop-i-test.true c.column_costs.ensures c.visit_in_turn-renewed.ensures

pub loop-i-preserved : goal.loop-i-preserved
unfolding by_role pick
loop-i-preserved c =
    let a = c.args in
    let f = c.requires.visits_fit in
    let i = c.loop-i.i in
    let inv = c.loop-i.invariant in
    let read = c.lines_of-lines in
    let taken = c.loop-i-test.true in
    let visit = made (goal.at.loop-i-preserved c).After-visit_in_turn-renewed in
    let done = next-turn (λ k. gate_visit 0 (kind_index a.kind) a.circuit.now.library.now a.circuit.now.netlist.now a.gate k ∷ []) i inv.swept (swept-one visit) in
    record {
      swept = done;
      wakes = changes_later 0 (kind_index a.kind) a.circuit.now.library.now a.circuit.now.netlist.now f.links_fit.needs a.gate i f.inside taken inv.wakes visit;
      gather = gather-next c.requires read.result read.ensures i c.column_costs.ensures visit (swept-length done ∙ f.size)
          (λ e q j h. set_apart f.links_fit.kind_fits (lines_fit_lem c.requires read.result read.ensures) i j (c.own_read-stale.ensures e q) (omega (arith, taken)) h);
    }

pub returns-clause-swept : goal.returns-clause-swept
unfolding by_role pick
returns-clause-swept c =
    let e : c.loop-i.i ≡ Size.values = omega arith in
    rw e at c.loop-i.invariant.swept

pub returns-clause-wakes : goal.returns-clause-wakes
returns-clause-wakes c =
    c.loop-i.invariant.wakes _
    (line-woken c.requires c.args.circuit.now.linked c.count-gates.ensures (ap (λ (ls : List ℕ). get_or ls 0 0) c.lines_of-lines.ensures) c.wake_needing.ensures)
