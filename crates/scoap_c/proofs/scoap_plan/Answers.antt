-- `scoap_plan` tells the answer of `write_plan` by one number.
use Rattle.demands.specs.Own.{own_tables}
use Rattle.answer_codes.proofs.Plan.{plan-line, plan-coded}
use Rattle.scoap_c.proofs.scoap_plan.Goals as goal

pub code-requires : goal.code-requires
unfolding own_tables
code-requires c =
    plan-line c.args.lib.now c.args.net.now c.args.text.now _ c.args.line c.args.value c.args.kind c.write_plan_into-written.result c.write_plan_into-written.ensures
    c.write_plan_into-written.auto.text _ c.limit_plan-told.result c.limit_plan-told.ensures

pub returns : goal.returns
unfolding own_tables
returns c =
    plan-coded c.args.lib.now c.args.net.now c.args.text.now _ c.args.line c.args.value c.args.kind c.write_plan_into-written.result c.write_plan_into-written.ensures
    c.write_plan_into-written.auto.text _ c.limit_plan-told.result c.limit_plan-told.ensures c.code.result c.code.ensures
