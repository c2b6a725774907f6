-- Goldstein's calculation. Document 01, "Sweeps".
use Rattle.std.specs.Prelude.{List, [], ◌∷◌, ◌++◌, ℕ, zero, suc, ◌+◌, ◌*◌, length}
use Rattle.sizes.specs.Sizes as Size
use Rattle.reading.specs.Choice.{pick}
use Rattle.cost.specs.Cost.{never}
use Rattle.plans.specs.Sweep.{run, Run, renew, lower}
use Rattle.plans.specs.Stages.{Stage, run_stage}
use Rattle.library_table.specs.Cells.{Cell}
use Rattle.netlist_table.specs.Netlist.{Gate, Statement, gates_of, is_input, is_output, netlist_open}
use Rattle.calculation.specs.declared.Counts.{Counts}
use Rattle.calculation.specs.Nodes.{Kind, combinational, sequential}
use Rattle.calculation.specs.Prices.{Pricing, input_cost, prices_of}
use Rattle.calculation.specs.Ways.{setting_visits, observing_visits, ways_open}

-- "inputs CC 1 and SC 0 for both values, all other controllabilities never. .. CO and SO start at 0 for outputs, never
-- elsewhere": the six numbers of a line at the start, in the table's order, with the input's price in the place of CC's 1.
unfoldable pub start_line : Pricing → List Statement → ℕ → List ℕ
start_line price ss l =
    let cc = pick (is_input l ss) (input_cost price combinational l) never in
    let sc = pick (is_input l ss) (input_cost price sequential l) never in
    let o = pick (is_output l ss) 0 never in
    cc ∷ cc ∷ sc ∷ sc ∷ o ∷ o ∷ []

unfoldable pub start_lines : Pricing → List Statement → ℕ → ℕ → List ℕ
start_lines price ss zero first = []
start_lines price ss (suc n) first = start_line price ss first ++ start_lines price ss n (suc first)

unfoldable pub start_at : Pricing → List Statement → List ℕ
start_at price ss = start_lines price ss Size.lines 1

abbrev pub start : List Statement → List ℕ
start ss = start_at (prices_of ss) ss

-- "each output number becomes the least row sum of its group"; "With G gates, CC and SC take at most 2G + 1 sweeps each"
abbrev pub setting_stage : Kind → List Cell → List Gate → Stage
setting_stage k cells gs = record { rule = renew; visits = setting_visits k cells gs; bound = 2 * length gs + 1 }

-- "a line keeps the lesser of its number and the row sums"; "CO and SO at most G + 1"
abbrev pub observing_stage : Kind → List Cell → List Gate → Stage
observing_stage k cells gs = record { rule = lower; visits = observing_visits k cells gs; bound = length gs + 1 }

-- "CC and SC run separately. Then CO and SO"
abbrev pub stages : List Cell → List Gate → List Stage
stages cells gs =
    setting_stage combinational cells gs
    ∷ setting_stage sequential cells gs
    ∷ observing_stage combinational cells gs
    ∷ observing_stage sequential cells gs
    ∷ []

-- The numbers and the four sweep counts that an analysis comes to.
pub record Analysed : Type 0 where
  pub numbers : List ℕ
  pub counts : Counts

-- The four runs by computation, at any prices. No run meets its bound with numbers still changing (`settled` of
-- proofs/Laws.antt), so that the bounds cut nothing off.
unfoldable pub analysed_at : Pricing → List Cell → List Statement → Analysed
analysed_at price cells ss =
    let gs = gates_of ss in
    let cc : Run = run_stage (setting_stage combinational cells gs) (start_at price ss) in
    let sc : Run = run_stage (setting_stage sequential cells gs) cc.numbers in
    let co : Run = run_stage (observing_stage combinational cells gs) sc.numbers in
    let so : Run = run_stage (observing_stage sequential cells gs) co.numbers in
    record {
      numbers = so.numbers;
      counts = record { cc = cc.count; sc = sc.count; co = co.count; so = so.count };
    }

-- At the prices of the netlist.
abbrev pub analysed : List Cell → List Statement → Analysed
analysed cells ss = analysed_at (prices_of ss) cells ss

-- Opens the page's definitions, where a figure computes with them.
unfoldable pub calculation_open : ℕ
unfolding ways_open netlist_open input_cost start_line start_lines start_at run_stage run analysed_at
calculation_open = 0
