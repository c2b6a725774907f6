-- `put_plan` leaves the text where it stands, or puts the refusal there.
use Rattle.common_laws.proofs.Base.{◌≡◌, refl, length, rules}
use Rattle.sizes.specs.Sizes as Size
use Rattle.demands.specs.Own.{own_tables}
use Rattle.plan_calls.proofs.Printed.{plan-printed}
use Rattle.plan_calls.proofs.put_plan.Goals as goal

pub returns : goal.returns
unfolding own_tables
returns c =
    let a = c.args in
    let room : Size.report_bytes ≡ length c.write_plan_into-written.new.text = search rules in
    plan-printed a.lib.now a.net.now a.text.now a.line a.value a.kind _ c.write_plan_into-written.result
    c.write_plan_into-written.ensures room _ c.show.result c.show.ensures

pub write_plan_into-written-requires : goal.write_plan_into-written-requires
write_plan_into-written-requires c = (refl, refl)
