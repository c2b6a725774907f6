-- The prices and the ways of a netlist, as crate `plans` has them: what its plans are made from.
use Rattle.std.specs.Prelude.{Bool, true, false, List, ℕ, eqb}
use Rattle.std.proofs.Math.Option.{Option, none, some}
use Rattle.cost.specs.Cost.{never}
use Rattle.plans.specs.System.{System}
use Rattle.plans.specs.Sweep.{at}
use Rattle.plans.specs.Stages.{all_visits}
use Rattle.library_table.specs.Cells.{Cell}
use Rattle.netlist_table.specs.Netlist.{Statement, gates_of}
use Rattle.calculation.specs.Prices.{Pricing, prices_of}
use Rattle.calculation.specs.Calculation.{start_at, stages}

-- A number as a price: none where it is never.
unfoldable pub price_of : Bool → ℕ → Option ℕ
price_of true x = none
price_of false x = some x

-- What stands in the table at the start.
unfoldable pub price_at : Pricing → List Statement → ℕ → Option ℕ
price_at price ss n = price_of (eqb (at (start_at price ss) n) never) (at (start_at price ss) n)

abbrev pub system_at : Pricing → List Cell → List Statement → System
system_at price cells ss = record { price = price_at price ss; visits = all_visits (stages cells (gates_of ss)) }

-- At the prices of the netlist.
abbrev pub system : List Cell → List Statement → System
system cells ss = system_at (prices_of ss) cells ss
