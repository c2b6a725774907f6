-- The run at the tables of accepted cells and statements: its marks are those that the definitions remember.
use Rattle.common_laws.proofs.Base.{false, List, Option, none, ◌≡◌, refl, sym, ap, subst, ◌∙◌, ℕ, zero, suc, ◌+◌, ◌*◌, ◌-◌, ◌≤◌, ◌<◌, arith, length, get_or, get_or-replicate}
use Rattle.common_laws.proofs.Base.{replicate, length-replicate, List-get_or-eq-default, dec_lt}
use Rattle.sizes.specs.Sizes as Size
use Rattle.sizes.specs.Places.{setting_place, mark_place}
use Rattle.plans.specs.System.{Visit}
use Rattle.plans.specs.Sweep.{lower, sweep, Rests, Inside, Bounded}
use Rattle.plans.specs.Trace.{Mark, Trace, mark_at, trace_sweeps, untraced}
use Rattle.plans.proofs.Laws.{sweep-numbers}
use Rattle.library_table.specs.Cells.{Cell}
use Rattle.netlist_table.specs.Netlist.{Statement, gates_of}
use Rattle.netlist_table.proofs.Places.{netlist-count}
use Rattle.calculation.specs.Prices.{prices_of}
use Rattle.calculation.specs.Nodes.{Kind, combinational, sequential, kind_number}
use Rattle.calculation.specs.Calculation.{start}
use Rattle.calculation.proofs.Places.{start-length, start-bounded}
use Rattle.calculation.proofs.Prices.{own-figures}
use Rattle.sweep_turns.specs.Fits.{LinksFit}
use Rattle.sweep_runs.specs.Order.{sweep_visits}
use Rattle.calculation.specs.Stored.{Holds}
use Rattle.sweep_start.specs.Start.{lines_start}
use Rattle.sweep_runs.proofs.Bridge.{setting-sweep, start_is}
use Rattle.sweep_runs.proofs.FourRuns.{set-fits}
use Rattle.sweep_start.proofs.StartLines.{laid-length}
use Rattle.plan_marks.specs.Marks.{NotedAs, AllNoted, Stands}
use Rattle.plan_marks.specs.Visits.{Traced}
use Rattle.plan_marks.proofs.Remembered.{trace-time, traces_last, traces_add, resting}
use Rattle.plan_marks.specs.Lowered.{setting_trace}
use Rattle.plan_marks.proofs.Sweeps.{gates-length}
use Rattle.plan_marks.proofs.Rest.{visits, trace-lower, visits-inside}

-- The tables of accepted cells and statements, for the sweeps that set lines.
pub links-fit : {library netlist : List ℕ} {cells : List Cell} {ss : List Statement} → Holds library netlist cells ss
    → (xs : List ℕ) → length xs ≡ Size.numbers → Bounded xs → (kind : ℕ) → kind ≤ 1 → LinksFit 0 kind library netlist
links-fit h xs n b zero f = (set-fits h combinational n b).links_fit
links-fit h xs n b (suc zero) f = (set-fits h sequential n b).links_fit
links-fit h xs n b (suc (suc kind)) f = absurd (omega arith)

module _ (kind : ℕ) (library netlist : List ℕ) where
  abbrev pub run-visits : List Visit
  run-visits = sweep_visits 0 kind library netlist

  -- What the first `done` sweeps remember.
  abbrev pub after : ℕ → Trace
  after done = trace_sweeps lower run-visits done (untraced (lines_start false netlist Size.lines 1))

  visits-count : length run-visits ≡ 2 * get_or netlist 0 0
  visits-count = gates-length kind library netlist (get_or netlist 0 0)

  -- At the start nothing is marked. The lengths are variables, so that no list is computed.
  unmarked : (k n : ℕ) → mark_at (replicate k none) n ≡ none
  unfolding mark_at
  unmarked k n = place (dec_lt n k)
    where
      place : Dec (n < k) → get_or (replicate {A = Option Mark} k none) n none ≡ none
      place (yes h) = get_or-replicate k n none none h
      place (no h) = List-get_or-eq-default (replicate {A = Option Mark} k none) none {n = n} (rw (length-replicate {A = Option Mark} k none) (omega arith))

  none-noted : (k m n l v : ℕ) → mark_place l v + 2 < m → NotedAs kind library netlist (mark_at (replicate k none) n) l v (replicate m 0)
  unfolding NotedAs
  none-noted k m n l v h =
      rw (unmarked k n)
      (record { visit = get_or-replicate m (mark_place l v) 0 0 (omega arith); columns = get_or-replicate m (mark_place l v + 2) 0 0 h })

  noted-none : (k m n l v : ℕ) {marks : List ℕ} → marks ≡ replicate m 0 → mark_place l v + 2 < m
      → NotedAs kind library netlist (mark_at (replicate k none) n) l v marks
  noted-none k m n l v e h = rw e (none-noted k m n l v h)

  pub begins : (numbers marks : List ℕ) → numbers ≡ lines_start false netlist Size.lines 1 → marks ≡ replicate Size.marks 0
      → Stands kind library netlist (after 0) numbers marks × ((after 0).time ≡ 0)
  unfolding trace_sweeps untraced
  begins numbers marks e m =
      let long = laid-length false netlist Size.lines 1 in (
        record {
          numbers_are = e;
          long = length-replicate {A = Option Mark} (length (lines_start false netlist Size.lines 1)) none ∙ long;
          noted = λ l v a b c. noted-none (length (lines_start false netlist Size.lines 1)) Size.marks (setting_place kind l v) l v m (omega arith);
        },
        refl,
      )

  module _ (done clock : ℕ) (numbers marks numbers' marks' : List ℕ) (s : Stands kind library netlist (after done) numbers marks) (t : (after done).time ≡ clock) where
    module _ {said : _} (swept : Traced kind library netlist run-visits clock numbers marks numbers' marks' said) where
      pub one_more_lem : Stands kind library netlist (after (suc done)) numbers' marks' × ((after (suc done)).time ≡ clock + 2 * get_or netlist 0 0)
      one_more_lem =
          let e = traces_last lower run-visits done (untraced (lines_start false netlist Size.lines 1)) in
          (rw e (swept.stands (after done) t s), rw e (trace-time lower run-visits (after done) ∙ omega (arith, visits-count)))

  -- ---- at accepted cells and statements

  module _ (cells : List Cell) (ss : List Statement) (h : Holds library netlist cells ss) where
    pub few-gates : get_or netlist 0 0 ≤ Size.gates
    few-gates = rw (h.statements_stand, netlist-count ss h.past) h.sound.netlist.few

    starts : lines_start false netlist Size.lines 1 ≡ start ss
    starts = rw h.statements_stand (start_is cells ss h.sound h.behind h.past false)

    pub starts-bounded : Bounded (lines_start false netlist Size.lines 1)
    starts-bounded = rw starts (start-bounded (prices_of ss) ss (own-figures h.sound))

  module _ (k : Kind) (cells : List Cell) (ss : List Statement) (e : kind_number k ≡ kind) (h : Holds library netlist cells ss) where
    pub count_is : get_or netlist 0 0 ≡ length (gates_of ss)
    count_is = rw h.statements_stand (netlist-count ss h.past)

    visits-are : run-visits ≡ visits cells ss h.sound k
    visits-are = rw (← e, h.cells_stand, h.statements_stand) (setting-sweep cells ss h.sound h.behind h.past k)

    start-are : lines_start false netlist Size.lines 1 ≡ start ss
    start-are = starts cells ss h

    all_is : after (2 * get_or netlist 0 0 + 1) ≡ setting_trace k cells ss
    all_is = rw (visits-are, start-are, count_is) (sym (trace-lower cells ss h.sound k))

    pub ends-all : (numbers marks : List ℕ) → Stands kind library netlist (after (2 * get_or netlist 0 0 + 1)) numbers marks
        → AllNoted kind library netlist (setting_trace k cells ss).marks marks
    ends-all numbers marks s = subst (λ (t : Trace). AllNoted kind library netlist t.marks marks) all_is s.noted

    inside : (xs : List ℕ) → length xs ≡ Size.numbers → Inside run-visits xs
    inside xs long v m = rw (long, ← start-length (prices_of ss) ss) (visits-inside cells ss h.sound k v (rw visits-are at m))

    -- A sweep that changed nothing was the last that matters.
    pub ends-early : (done more : ℕ) → suc done + more ≡ 2 * get_or netlist 0 0 + 1 → (numbers marks numbers' marks' : List ℕ) → length numbers' ≡ Size.numbers → numbers' ≡ numbers
        → Stands kind library netlist (after done) numbers marks → Stands kind library netlist (after (suc done)) numbers' marks'
        → AllNoted kind library netlist (setting_trace k cells ss).marks marks'
    ends-early done more all numbers marks numbers' marks' long still s s' =
        let t = untraced (lines_start false netlist Size.lines 1) in
        let last = after (suc done) in
        let same : last.numbers ≡ (after done).numbers = sym s'.numbers_are ∙ still ∙ s.numbers_are in
        let swept : last.numbers ≡ sweep lower run-visits (after done).numbers = ap (λ (x : Trace). x.numbers) (traces_last lower run-visits done t) ∙ sweep-numbers lower run-visits (after done) in
        let rests : Rests lower run-visits last.numbers = rw same (sym swept ∙ same) in
        let size : length last.numbers ≡ Size.numbers = ap length (sym s'.numbers_are) ∙ long in
        let r = resting run-visits more last (s'.long ∙ sym size) (inside last.numbers size) rests in
        let whole : trace_sweeps lower run-visits more last ≡ setting_trace k cells ss = sym (traces_add lower run-visits (suc done) more t) ∙ ap after all ∙ all_is in
        subst (λ (ms : List (Option Mark)). AllNoted kind library netlist ms marks') (sym r.marks ∙ ap (λ (x : Trace). x.marks) whole) s'.noted
