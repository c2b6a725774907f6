-- The runs from any numbers that are costs: by keeping the lesser they settle, all four to `lesser_runs`, those of CO and SO to
-- `last_runs`.
use Rattle.common_laws.proofs.Base.{List, map, Memᴰ-map, ◌≡◌, refl, ◌∙◌, ap, ℕ, ◌+◌, ◌*◌, arith, le_trans, le_of_eq, length, get_or, length-map}
use Rattle.sizes.specs.Sizes as Size
use Rattle.plans.specs.System.{Visit}
use Rattle.plans.specs.Sweep.{lower, Settles, run, Bounded}
use Rattle.plans.specs.Stages.{run_stage, Stages, Stages.ended, Stages.stage}
use Rattle.plans.specs.Statements.{SettlesWithin}
use Rattle.plans.specs.Continued.{all_by_lower}
use Rattle.plans.proofs.Laws.{settles_under, visited-bound, stages-once}
use Rattle.library_table.specs.Cells.{Cell}
use Rattle.netlist_table.specs.Netlist.{Gate, Statement, gates_of}
use Rattle.calculation.specs.declared.Counts.{Counts}
use Rattle.calculation.specs.Nodes.{Kind, combinational, sequential}
use Rattle.calculation.specs.Ways.{setting_visits, observing_visits}
use Rattle.calculation.specs.Acceptance.{BothSound}
use Rattle.calculation.specs.Calculation.{stages, Analysed}
use Rattle.calculation.specs.Runs.{last_runs, lesser_runs}
use Rattle.calculation.specs.Settled.{in_order}
use Rattle.calculation.proofs.Sweeps.{settled-run}
use Rattle.calculation.proofs.Bounds.{visiting_inside, observing-works}
use Rattle.calculation.proofs.Visits.{sets-has, visiting_more, setting_from, setting-length}

still-long : {vs : List Visit} {xs ys : List ℕ} {k : ℕ} → Settles lower vs xs k ys → length xs ≡ Size.numbers → length ys ≡ Size.numbers
still-long s long = (settles_under s).long ∙ long

still-bounded : {vs : List Visit} {xs ys : List ℕ} {k : ℕ} → Settles lower vs xs k ys → Bounded xs → Bounded ys
still-bounded s bounded n = le_trans ((settles_under s).below n) (bounded n)

-- Counts are settled by their list.
pub in_order_lem : (c d : Counts) → in_order c ≡ in_order d → c ≡ d
in_order_lem c d e =
    let at : (i : ℕ) → get_or (in_order c) i 0 ≡ get_or (in_order d) i 0 = λ i. ap (λ (ns : List ℕ). get_or ns i 0) e in
    let a : c.cc ≡ d.cc = at 0 in
    let b : c.sc ≡ d.sc = at 1 in
    let p : c.co ≡ d.co = at 2 in
    let q : c.so ≡ d.so = at 3 in
    λ i. record { cc = a i; sc = b i; co = p i; so = q i }

module _ (cells : List Cell) (ss : List Statement) (sound : BothSound cells ss) where
  abbrev gs : List Gate
  gs = gates_of ss

  pub observing-within : (k : Kind) (xs : List ℕ) → length xs ≡ Size.numbers → Bounded xs → SettlesWithin lower (observing_visits k cells gs) xs (length gs + 1) (length gs + 1)
  observing-within k xs long bounded =
      (observing-works cells ss sound xs long bounded k).within xs (record { long = refl; below = λ n. le_of_eq refl; kept = λ n v. refl })

  -- CC and SC too, by keeping the lesser.
  pub setting-within : (k : Kind) (xs : List ℕ) → length xs ≡ Size.numbers → Bounded xs → SettlesWithin lower (setting_visits k cells gs) xs (2 * length gs + 1) (2 * length gs + 1)
  setting-within k xs long bounded =
      let vs : List Visit = setting_visits k cells gs in
      let l : length (map (λ v. v.node) vs) ≡ 2 * length gs = length-map vs (λ v. v.node) ∙ setting-length k cells gs in
      let r : SettlesWithin lower vs xs (2 * length gs + 1) (length (map (λ v. v.node) vs) + 1) =
      visited-bound vs (map (λ v. v.node) vs) xs (2 * length gs + 1) (λ n v. rw (← v.same) (Memᴰ-map (λ u. u.node) v.listed)) bounded
      (λ v m. rw long (visiting_inside cells ss sound (visiting_more sets-has (setting_from k cells gs v m)))) (omega arith) in
      (r.0, omega (arith, r.1))

  module _ (xs : List ℕ) (long : length xs ≡ Size.numbers) (bounded : Bounded xs) {ys zs : List ℕ} {co so : ℕ}
      (first : Settles lower (observing_visits combinational cells gs) xs co ys)
      (second : Settles lower (observing_visits sequential cells gs) ys so zs) where
    pub between-long : length ys ≡ Size.numbers
    between-long = still-long first long

    pub between-bounded : Bounded ys
    between-bounded = still-bounded first bounded

    pub last_runs_lem : (counts : Counts) → last_runs cells gs counts xs ≡ record { numbers = zs; counts = record { cc = counts.cc; sc = counts.sc; co = co; so = so } }
    unfolding last_runs run_stage
    last_runs_lem counts =
        let e : run lower (observing_visits combinational cells gs) (length gs + 1) xs ≡ record { numbers = ys; count = co } =
        settled-run (length gs + 1) (length gs + 1) (observing-within combinational xs long bounded) first in
        let f : run lower (observing_visits sequential cells gs) (length gs + 1) ys ≡ record { numbers = zs; count = so } =
        settled-run (length gs + 1) (length gs + 1) (observing-within sequential ys between-long between-bounded) second in
        rw (e, f)

  -- All four.
  module _ (xs : List ℕ) (long : length xs ≡ Size.numbers) (bounded : Bounded xs) where
    pub lesser-settled : Stages (all_by_lower (stages cells gs)) xs (in_order (lesser_runs cells gs xs).counts) (lesser_runs cells gs xs).numbers
    unfolding lesser_runs run_stage
    lesser-settled =
        let a = (setting-within combinational xs long bounded).0 in
        let b = (setting-within sequential _ (still-long a long) (still-bounded a bounded)).0 in
        let c = (observing-within combinational _ (still-long b (still-long a long)) (still-bounded b (still-bounded a bounded))).0 in
        let d = (observing-within sequential _ (still-long c (still-long b (still-long a long))) (still-bounded c (still-bounded b (still-bounded a bounded)))).0 in
        stage a (stage b (stage c (stage d (ended refl))))

    pub lesser_runs_lem : (a : Analysed) → Stages (all_by_lower (stages cells gs)) xs (in_order a.counts) a.numbers → lesser_runs cells gs xs ≡ a
    lesser_runs_lem a run =
        let e = stages-once (all_by_lower (stages cells gs)) xs _ _ _ _ lesser-settled run in
        let c = in_order_lem (lesser_runs cells gs xs).counts a.counts e.0 in
        λ i. record { numbers = e.1 i; counts = c i }
