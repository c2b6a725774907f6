-- The halves of the calculation, and all of it, from whatever numbers stand in the table. Document 01, "Sweeps": "CC and SC run
-- separately. Then CO and SO".
use Rattle.std.specs.Prelude.{Bool, List, [], ◌∷◌, ℕ, suc, ◌%◌, ltb}
use Rattle.sizes.specs.Sizes as Size
use Rattle.reading.specs.Choice.{pick}
use Rattle.plans.specs.Sweep.{lower, Run}
use Rattle.plans.specs.Stages.{Stage, run_stage}
use Rattle.library_table.specs.Cells.{Cell}
use Rattle.netlist_table.specs.Netlist.{Gate, Statement, gates_of}
use Rattle.calculation.specs.declared.Counts.{Counts}
use Rattle.calculation.specs.Nodes.{combinational, sequential}
use Rattle.calculation.specs.Prices.{Pricing}
use Rattle.calculation.specs.Calculation.{start_at, setting_stage, observing_stage, Analysed}

-- ---- the halves

abbrev pub setting_stages : List Cell → List Gate → List Stage
setting_stages cells gs = setting_stage combinational cells gs ∷ setting_stage sequential cells gs ∷ []

abbrev pub observing_stages : List Cell → List Gate → List Stage
observing_stages cells gs = observing_stage combinational cells gs ∷ observing_stage sequential cells gs ∷ []

-- ---- by computation

-- The four runs; `analysed_at` is these from the start (`analysed_runs`).
unfoldable pub runs_from : List Cell → List Gate → List ℕ → Analysed
runs_from cells gs xs =
    let cc : Run = run_stage (setting_stage combinational cells gs) xs in
    let sc : Run = run_stage (setting_stage sequential cells gs) cc.numbers in
    let co : Run = run_stage (observing_stage combinational cells gs) sc.numbers in
    let so : Run = run_stage (observing_stage sequential cells gs) co.numbers in
    record {
      numbers = so.numbers;
      counts = record { cc = cc.count; sc = sc.count; co = co.count; so = so.count };
    }

-- The four runs where each visit keeps the lesser, whatever its rule: from any costs they settle within the same bounds
-- (`lesser-settled` of proofs/AnyNumbers.antt). Where the numbers stand under fewer rows they are `runs_from` (`lesser-on` of
-- proofs/NewLibrary.antt).
abbrev pub lesser : Stage → Stage
lesser s = record { rule = lower; visits = s.visits; bound = s.bound }

unfoldable pub lesser_runs : List Cell → List Gate → List ℕ → Analysed
lesser_runs cells gs xs =
    let cc : Run = run_stage (lesser (setting_stage combinational cells gs)) xs in
    let sc : Run = run_stage (lesser (setting_stage sequential cells gs)) cc.numbers in
    let co : Run = run_stage (lesser (observing_stage combinational cells gs)) sc.numbers in
    let so : Run = run_stage (lesser (observing_stage sequential cells gs)) co.numbers in
    record {
      numbers = so.numbers;
      counts = record { cc = cc.count; sc = sc.count; co = co.count; so = so.count };
    }

-- The last two of the four runs, beside the counts of the first two.
unfoldable pub last_runs : List Cell → List Gate → Counts → List ℕ → Analysed
last_runs cells gs counts xs =
    let co : Run = run_stage (observing_stage combinational cells gs) xs in
    let so : Run = run_stage (observing_stage sequential cells gs) co.numbers in
    record {
      numbers = so.numbers;
      counts = record { cc = counts.cc; sc = counts.sc; co = co.count; so = so.count };
    }

-- ---- CO and SO run again over the values that stand

-- Of two tables place by place: the first where the test holds, else the second.
unfoldable pub mixed : (ℕ → Bool) → ℕ → List ℕ → List ℕ → List ℕ
mixed p i [] ys = []
mixed p i (x ∷ xs) [] = []
mixed p i (x ∷ xs) (y ∷ ys) = pick (p i) x y ∷ mixed p (suc i) xs ys

-- A number of a value, CC or SC, and not one of observing.
unfoldable pub of_setting : ℕ → Bool
of_setting n = ltb (n % Size.costs) Size.observed_at

-- The numbers that stand, with "CO and SO start at 0 for outputs, never elsewhere" laid anew.
unfoldable pub relaid : Pricing → List Statement → List ℕ → List ℕ
relaid price ss xs = mixed of_setting 0 xs (start_at price ss)

-- CC, SC and their counts stand.
unfoldable pub observed_anew : Pricing → List Cell → List Statement → Analysed → Analysed
observed_anew price cells ss a = last_runs cells (gates_of ss) a.counts (relaid price ss a.numbers)
