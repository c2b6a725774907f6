-- `capped_sum` is the sum of document 01: the tests that led to each answer say which of its three cases holds.
use Rattle.common_laws.proofs.Base.{inl, inr, sym, arith}
use Rattle.cost.proofs.Laws.{sum-never, sum_over, sum-exact}
use Rattle.cost.proofs.capped_sum.Goals as goal

pub returns-then-a-ge-NEVER : goal.returns-then-a-ge-NEVER
returns-then-a-ge-NEVER c = sym (sum-never _ _ (inl (omega arith)))

pub returns-then-b-ge-NEVER : goal.returns-then-b-ge-NEVER
returns-then-b-ge-NEVER c = sym (sum-never _ _ (inr (omega arith)))

pub returns-then-sum-gt-MOST : goal.returns-then-sum-gt-MOST
returns-then-sum-gt-MOST c = sym (sum_over _ _ (omega arith) (omega arith) (inr (inr (omega arith))))

pub returns : goal.returns
returns c = sym (sum-exact _ _ (omega arith))
