-- `limit_plan` keeps what was answered, or refuses a text whose length is not told.
use Rattle.common_laws.proofs.Base.{arith, refl}
use Rattle.reading.specs.Numbers as No
use Rattle.writer.specs.Buffer.{Refuses}
use Rattle.answer_codes.proofs.Plan.{limits_short, limits_refused, limits_long}
use Rattle.answer_codes.proofs.limit_plan.Goals as goal

pub returns-in-Ok : goal.returns-in-Ok
returns-in-Ok c =
    limits_long No.plan_long _ _ c.in-Ok.n c.in-Ok.is (omega arith) _ _ (rw c.at.ensures at c.refuse.ensures)

pub returns-in_default : goal.returns-in_default
returns-in_default c = limits_short No.plan_long _ _ c.in-Ok.n c.in-Ok.is (omega arith)

pub returns-in_default-2 : goal.returns-in_default-2
returns-in_default-2 c = rw c.in_default.is (limits_refused No.plan_long _ _ _ refl)
