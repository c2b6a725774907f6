-- An analysis in document 01's own words ("Sweeps"), without a bound on the sweeps: four runs on one table, each until the
-- first sweep that changes nothing.
use Rattle.std.specs.Prelude.{List, [], ◌∷◌, ℕ, ◌+◌, ◌*◌, ◌≤◌}
use Rattle.plans.specs.Stages.{Stages}
use Rattle.library_table.specs.Cells.{Cell}
use Rattle.netlist_table.specs.Netlist.{Statement, gates_of}
use Rattle.calculation.specs.declared.Counts.{Counts}
use Rattle.calculation.specs.Prices.{Pricing, prices_of}
use Rattle.calculation.specs.Calculation.{start_at, stages, Analysed}

-- The four counts in the order of the runs.
abbrev pub in_order : Counts → List ℕ
in_order c = c.cc ∷ c.sc ∷ c.co ∷ c.so ∷ []

-- "Sweeps stop after the first that changes nothing; it is counted. CC and SC run separately. Then CO and SO". There is one
-- such analysis, and `analysed` is it (`settled` and `settled-once` of proofs/Laws.antt).
abbrev pub SettledAt : Pricing → List Cell → List Statement → Analysed → Type 0
SettledAt price cells ss a = Stages (stages cells (gates_of ss)) (start_at price ss) (in_order a.counts) a.numbers

abbrev pub Settled : List Cell → List Statement → Analysed → Type 0
Settled cells ss a = SettledAt (prices_of ss) cells ss a

-- "With G gates, CC and SC take at most 2G + 1 sweeps each, CO and SO at most G + 1."
pub record FewSweeps (gates : ℕ) (c : Counts) : Type 0 where
  pub cc : c.cc ≤ 2 * gates + 1
  pub sc : c.sc ≤ 2 * gates + 1
  pub co : c.co ≤ gates + 1
  pub so : c.so ≤ gates + 1
