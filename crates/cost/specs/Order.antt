-- How a cost "compares with" another, and what the code's answer stands for.
use Rattle.std.specs.Prelude.{ℕ}
use Rattle.std.specs.Ordering.{nat_cmp}
use Rattle.std.specs.declared.cmp.Ordering.{Ordering}
use Rattle.cost.specs.Cost.{counted, lesser}
use Rattle.cost.specs.declared.Cost.{Cost}

-- "They are ordered so": by their numbers.
abbrev pub order : ℕ → ℕ → Ordering
order a b = nat_cmp (counted a) (counted b)

-- "each time a new cost is handed back": how a cost stands to another, and the lesser of the two.
pub record Compared : Type 0 where
  pub order : Ordering
  pub cost : ℕ

abbrev pub compared : ℕ → ℕ → Compared
compared a b = record { order = order a b; cost = lesser a b }

abbrev pub order_told : {KIND : ℕ} → Ordering × Cost KIND → Compared
order_told r = record { order = r.0; cost = r.1.0 }
