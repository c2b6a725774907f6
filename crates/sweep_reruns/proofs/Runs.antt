-- The runs from numbers that were kept, at the tables of accepted cells and statements.
use Rattle.common_laws.proofs.Base.{false, List, ◌≡◌, ◌∙◌, ap, ℕ, ◌≤◌, length}
use Rattle.sizes.specs.Sizes as Size
use Rattle.plans.specs.Sweep.{Bounded}
use Rattle.plans.specs.Stages.{Stages, Stages.ended, Stages.stage}
use Rattle.plans.specs.Continued.{all_by_lower}
use Rattle.library_table.specs.Cells.{Cell}
use Rattle.netlist_table.specs.Netlist.{Statement, gates_of}
use Rattle.calculation.specs.Prices.{prices_of}
use Rattle.calculation.specs.Calculation.{start, stages}
use Rattle.calculation.specs.Runs.{observing_stages, relaid}
use Rattle.calculation.specs.Settled.{in_order}
use Rattle.calculation.specs.declared.Counts.{Counts}
use Rattle.calculation.proofs.Laws.{own-figures, last_runs_lem}
use Rattle.sweep_start.specs.Start.{lines_start}
use Rattle.calculation.specs.Stored.{Holds}
use Rattle.sweep_runs.specs.Halves.{Ran}
use Rattle.sweep_runs.specs.declared.Sweeps.{Sweeps}
use Rattle.sweep_runs.proofs.Bridge.{start_is}
use Rattle.sweep_reruns.specs.Kept.{held, Kept, ObservedAnew, GoneOn}
use Rattle.sweep_reruns.proofs.Kept.{relaid-length, relaid-bounded, kept-all, held-length, held-bounded, all-kept}

module _ {library netlist : List ℕ} {cells : List Cell} {ss : List Statement} (h : Holds library netlist cells ss)
    {standing : List ℕ} (room : Size.numbers ≤ length standing) where
  -- ---- CO and SO from their start

  module _ {x0 x : List ℕ} (begun : x0 ≡ lines_start false netlist Size.lines 1) (kept : Kept Size.observed_at standing x0 Size.numbers x) where
    starts : x0 ≡ start ss
    starts = begun ∙ rw h.statements_stand (start_is cells ss h.sound h.behind h.past false)

    relaid_is : x ≡ relaid (prices_of ss) ss (held standing)
    relaid_is = kept-all ss standing room x (rw starts at kept)

    pub anew-size : length x ≡ Size.numbers
    anew-size = ap length relaid_is ∙ relaid-length ss standing room

    pub anew-costs : Bounded x
    anew-costs = rw relaid_is (relaid-bounded ss standing room (own-figures h.sound))

    pub observed-anew : {x2 : List ℕ} {said : Sweeps} → Ran (observing_stages cells (gates_of ss)) x said x2 → ObservedAnew cells ss standing x2 said
    observed-anew (stage s (stage t (ended e))) =
        record {
          runs = λ counts. rw (← relaid_is) (last_runs_lem cells ss h.sound x anew-size anew-costs s (rw e t) counts);
        }

  -- ---- all four

  module _ {before x0 : List ℕ} (size : length before ≡ Size.numbers) (kept : Kept Size.costs standing before Size.numbers x0) where
    is_held : x0 ≡ held standing
    is_held = all-kept standing room before x0 size kept

    pub on-size : length x0 ≡ Size.numbers
    on-size = ap length is_held ∙ held-length standing room

    pub on-costs : Bounded x0
    on-costs = rw is_held (held-bounded standing room)

    pub gone-on : {x4 : List ℕ} {said : Counts} → Stages (all_by_lower (stages cells (gates_of ss))) x0 (in_order said) x4 → GoneOn cells ss standing x4 said
    gone-on ran = record { runs = rw is_held at ran }
