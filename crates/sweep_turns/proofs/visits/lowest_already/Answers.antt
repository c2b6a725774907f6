-- Only a number that is observed, and at most the cost.
use Rattle.common_laws.proofs.Base.{Bool, true, not, ◌≡◌, sym, ◌∙◌, ap, ℕ, ◌≤◌, arith, not-true, ltb-false, ltb}
use Rattle.cost.specs.Cost.{never, counted}
use Rattle.sweep_sums.specs.declared.Sum.{Sum}
use Rattle.sweep_sums.specs.Sums.{Summed, sum_number}
use Rattle.sweep_groups.specs.Roles.{role_index}
use Rattle.sweep_turns.proofs.visits.lowest_already.Goals as goal

not_lower : {kind observed number : ℕ} {a b : Sum} {r : Bool} → Summed kind observed a → Summed kind number b
    → r ≡ ltb (counted (sum_number a)) (counted (sum_number b)) → number ≤ never → not r ≡ true → number ≤ observed
unfolding counted
not_lower {observed = observed} {number} p q e most n =
    let l = ltb-false (counted observed) (counted number) (rw (p.comes_to, q.comes_to) at (sym e ∙ not-true _ n)) in
    omega arith

pub returns-then-number-le-NEVER : goal.returns-then-number-le-NEVER
returns-then-number-le-NEVER g c e = (
  λ z. let n = ap role_index (sym (c.as_role.ensures.setting z) ∙ c.in-Observing.is) in omega (arith, n),
  not_lower c.sum_of.ensures c.sum_of-then-number-le-NEVER.ensures c.is_lower.ensures c.if-number-le-NEVER.true e,
  c.if-number-le-NEVER.true,
)
