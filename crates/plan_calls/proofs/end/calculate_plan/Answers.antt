-- `calculate_plan`: the numbers, and the plan.
use Rattle.plan_calls.proofs.EndLaws.{analysis-held}
use Rattle.plan_calls.proofs.end.calculate_plan.Goals as goal

pub conclude_plan-requires : goal.conclude_plan-requires
conclude_plan-requires c =
    let r = c.requires in
    record {
      cells = r.cells;
      statements = r.statements;
      are = analysis-held r.holds (c.calculate-counts.ensures r.cells r.statements r.holds);
    }

pub returns : goal.returns
returns c cells ss h =
    let done = c.calculate-counts.ensures cells ss h in
    record { numbers_stand = done.numbers; concluded = c.conclude_plan.ensures cells ss (analysis-held h done) }
