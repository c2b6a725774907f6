-- A number above 0 is the observing role's.
use Rattle.common_laws.proofs.Base.{arith}
use Rattle.sweep_groups.proofs.Roles.{role_of_above}
use Rattle.sweep_groups.proofs.turns.RoleFromUsize.from.Goals as goal

pub returns-in_default : goal.returns-in_default
returns-in_default c = role_of_above c.args.number (λ e. omega (arith, e))
