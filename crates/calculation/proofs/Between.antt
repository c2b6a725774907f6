-- The calculation at whatever prices within the ranges. A plan is one at any prices, and where no input costs more neither
-- does the plan; the runs of SC and SO look at no number that has to do with prices.
use Rattle.common_laws.proofs.Base.{true, List, List-as-Memᴰ, ◌≡◌, refl, sym, ◌∙◌, ℕ, ◌≤◌, le_refl, le_antisymm, arith}
use Rattle.plans.specs.System.{Visit}
use Rattle.plans.specs.Sweep.{Rule, renew, lower, Settles, Visited}
use Rattle.plans.specs.Stages.{Stages, Stages.ended, Stages.stage}
use Rattle.plans.specs.Continued.{Alike, Looks, Reads}
use Rattle.plans.proofs.Laws.{stands-least, Stores, lower-stores, renew-stores, lower-reads, renew-reads, alike-settles, settles-once, settles-length, settles-other}
use Rattle.library_table.specs.Cells.{Cell, Column}
use Rattle.netlist_table.specs.Netlist.{Gate, Statement, gates_of, is_input, low_price, high_price}
use Rattle.calculation.specs.declared.Counts.{Counts}
use Rattle.calculation.specs.Nodes.{Kind, combinational, sequential, Purpose, set, observe, node}
use Rattle.calculation.specs.Prices.{Pricing, input_cost, Figures, WithinRanges}
use Rattle.calculation.specs.Ways.{asked, purpose_of, setting_visits, observing_visits}
use Rattle.calculation.specs.Acceptance.{BothSound}
use Rattle.calculation.specs.Calculation.{start_at, stages, analysed_at}
use Rattle.calculation.specs.Settled.{in_order}
use Rattle.calculation.specs.LinePlans.{Plan, Plan.input, Plan.row, Plan.output, Plan.through, Plans, Plans.done, Plans.also, cost_at, costs_at}
use Rattle.calculation.specs.Between.{number_at, AnalysisAt, Between, cost_each, costs_each, BetweenEach, EachWithin, ExactEach}
use Rattle.calculation.proofs.Places.{Placed, node_injective, first_number, start-length, start-at}
use Rattle.calculation.proofs.Prices.{within-ends, low-within, high-within, within-figures}
use Rattle.calculation.proofs.Visits.{Has, sets-has, observes-has, Visiting, visiting_node, visiting_more, setting_from, observing_from}
use Rattle.calculation.proofs.Acceptance.{asked-placed}
use Rattle.calculation.proofs.Needs.{column}
use Rattle.calculation.proofs.Bounds.{visiting_placed, settled, few-sweeps, settled-once}
use Rattle.calculation.proofs.Exactness.{exact}

-- ---- the cost of a plan

module _ {cells : List Cell} {ss : List Statement} {k : Kind} (low high : Pricing)
    (rises : (l : ℕ) → is_input l ss ≡ true → input_cost low k l ≤ input_cost high k l) where
  mutual
    unfolding cost_at

    cost_rises : {p : Purpose} (d : Plan cells ss k p) → cost_at low d ≤ cost_at high d
    cost_rises (input {l = l} h e) = rises l e
    cost_rises (row g m e r q u ps) = omega (arith, costs_rise ps)
    cost_rises (output e) = omega arith
    cost_rises (through g m i b h e r q ps) = omega (arith, costs_rise ps)

    costs_rise : {g : Gate} {cs : List Column} (ds : Plans cells ss k g cs) → costs_at low ds ≤ costs_at high ds
    costs_rise done = omega arith
    costs_rise (also p ps) = omega (arith, cost_rises p, costs_rise ps)

-- The same where each value has its own price.
module _ {cells : List Cell} {ss : List Statement} (low high : Pricing) (price : ℕ → ℕ → ℕ)
    (within : (l v : ℕ) → is_input l ss ≡ true → (low l ≤ price l v) × (price l v ≤ high l)) where
  mutual
    unfolding cost_at cost_each input_cost

    each_within : {p : Purpose} (d : Plan cells ss combinational p) → (cost_at low d ≤ cost_each price d) × (cost_each price d ≤ cost_at high d)
    each_within (input {l = l} {v = v} h e) = within l v e
    each_within (row g m e r q u ps) = (omega (arith, (alls_within ps).0), omega (arith, (alls_within ps).1))
    each_within (output e) = (omega arith, omega arith)
    each_within (through g m i b h e r q ps) = (omega (arith, (alls_within ps).0), omega (arith, (alls_within ps).1))

    alls_within : {g : Gate} {cs : List Column} (ds : Plans cells ss combinational g cs) → (costs_at low ds ≤ costs_each price ds) × (costs_each price ds ≤ costs_at high ds)
    alls_within done = (omega arith, omega arith)
    alls_within (also p ps) = (omega (arith, (each_within p).0, (alls_within ps).0), omega (arith, (each_within p).1, (alls_within ps).1))

-- ---- the runs of SC and SO

pub kinds-apart : combinational ≡ sequential → ⊥
kinds-apart e = let z : ◌≡◌ {A = ℕ} 0 1 = cc in omega arith

module _ (cells : List Cell) (ss : List Statement) (sound : BothSound cells ss) where
  abbrev gs : List Gate
  gs = gates_of ss

  -- The place of a sequential number.
  abbrev Sequential : ℕ → Type 0
  Sequential n = (p : Purpose) × Placed p × (n ≡ node sequential p)

  -- Sequential visits look at such places alone ..
  looks : (vs : List Visit) → ((v : Visit) → List-as-Memᴰ v vs → Visiting Has sequential cells gs v) → Looks Sequential vs
  looks vs from =
      record {
        visits = λ v m. let t = from v m in (purpose_of t.gate t.role, visiting_placed cells ss sound t, visiting_node t);
        needs = λ v m n d.
            let t = from v m in
            let c = column sequential cells ss sound t.gate t.listed t.role n (rw t.same at d) in
            (asked t.gate c.0, asked-placed sound t.gate t.listed t.role c.0 c.1, sym c.2);
      }

  -- .. and combinational ones are to none of them.
  passes : (vs : List Visit) → ((v : Visit) → List-as-Memᴰ v vs → Visiting Has combinational cells gs v) → (n : ℕ) → Sequential n → Visited vs n → ⊥
  passes vs from n p v =
      let t = from v.visit v.listed in
      kinds-apart
      (node_injective combinational sequential (purpose_of t.gate t.role) p.0 (visiting_placed cells ss sound t) p.1
      (sym (visiting_node t) ∙ v.same ∙ p.2)).0

  sets : (k : Kind) (v : Visit) → List-as-Memᴰ v (setting_visits k cells gs) → Visiting Has k cells gs v
  sets k v m = visiting_more sets-has (setting_from k cells gs v m)

  observes : (k : Kind) (v : Visit) → List-as-Memᴰ v (observing_visits k cells gs) → Visiting Has k cells gs v
  observes k v m = visiting_more observes-has (observing_from k cells gs v m)

  module _ (rule : Rule) (stores : Stores rule) {vs : List Visit} {xs ys us ws : List ℕ} {i j : ℕ} (alike : Alike Sequential xs ys)
      (s : Settles rule vs xs i us) (t : Settles rule vs ys j ws) where
    -- A combinational run leaves them alike.
    stays_alike : ((v : Visit) → List-as-Memᴰ v vs → Visiting Has combinational cells gs v) → Alike Sequential us ws
    stays_alike from =
        record {
          long = settles-length rule stores s ∙ alike.long ∙ sym (settles-length rule stores t);
          same = λ n p. settles-other rule stores s n (passes vs from n p) ∙ alike.same n p ∙ sym (settles-other rule stores t n (passes vs from n p));
        }

    -- A sequential one too, and takes as many sweeps.
    runs_alike : Reads rule → ((v : Visit) → List-as-Memᴰ v vs → Visiting Has sequential cells gs v) → (i ≡ j) × Alike Sequential us ws
    runs_alike reads from =
        let r = alike-settles rule stores reads Sequential vs xs ys us i (looks vs from) alike s in
        let e : (i ≡ j) × (r.0 ≡ ws) = settles-once rule vs ys r.0 ws i j r.1 t in
        (e.0, rw e.1 at r.2)

  same-sweeps : {xs ys us ws : List ℕ} (c d : Counts) → Alike Sequential xs ys → Stages (stages cells gs) xs (in_order c) us
      → Stages (stages cells gs) ys (in_order d) ws → (c.sc ≡ d.sc) × (c.so ≡ d.so)
  same-sweeps c d a (stage s1 (stage s2 (stage s3 (stage s4 (ended e))))) (stage t1 (stage t2 (stage t3 (stage t4 (ended f))))) =
      let cc = stays_alike renew renew-stores a s1 t1 (sets combinational) in
      let sc = runs_alike renew renew-stores cc s2 t2 renew-reads (sets sequential) in
      let co = stays_alike lower lower-stores sc.1 s3 t3 (observes combinational) in
      let so = runs_alike lower lower-stores co s4 t4 lower-reads (observes sequential) in
      (sc.0, so.0)

  -- At the start prices have to do with no sequential number.
  start-alike : (low high : Pricing) → Alike Sequential (start_at low ss) (start_at high ss)
  unfolding input_cost
  start-alike low high =
      record {
        long = start-length low ss ∙ sym (start-length high ss);
        same = λ n p. rw p.2 (start-at low ss sequential p.0 p.1 ∙ first p.0 ∙ sym (start-at high ss sequential p.0 p.1));
      }
    where
      first : (p : Purpose) → first_number low ss sequential p ≡ first_number high ss sequential p
      first (set l v) = refl
      first (observe l) = refl

  pub analysis-at : (price : Pricing) → WithinRanges ss price → AnalysisAt cells ss price
  analysis-at price w =
      let f = within-figures sound price w in
      let low = within-figures sound (low_price ss) (low-within sound) in
      let same =
      same-sweeps (analysed_at price cells ss).counts (analysed_at (low_price ss) cells ss).counts (start-alike price (low_price ss))
      (settled cells ss sound price f) (settled cells ss sound (low_price ss) low)
      in
      record {
        settled = settled cells ss sound price f;
        settled_once = settled-once cells ss sound price f;
        few_sweeps = few-sweeps cells ss sound price f;
        same_sc = same.0;
        same_so = same.1;
      }

-- ---- the numbers

module _ (cells : List Cell) (ss : List Statement) (sound : BothSound cells ss) (p : Purpose) (placed : Placed p) where
  pub number_rises : (k : Kind) (low high : Pricing) → Figures low ss → Figures high ss
      → ((l : ℕ) → is_input l ss ≡ true → input_cost low k l ≤ input_cost high k l)
      → number_at low cells ss k p ≤ number_at high cells ss k p
  number_rises k low high f g h =
      stands-least (λ d. cost_at high d) (λ d. cost_at low d) (λ d. (d, cost_rises low high h d)) _ _
      (exact cells ss sound high g k p placed) (exact cells ss sound low f k p placed)

  pub between : (price : Pricing) → WithinRanges ss price → Between cells ss price p
  unfolding input_cost
  between price w =
      let f : Figures price ss = within-figures sound price w in
      let low : Figures (low_price ss) ss = within-figures sound (low_price ss) (low-within sound) in
      let high : Figures (high_price ss) ss = within-figures sound (high_price ss) (high-within sound) in
      record {
        exact = λ k. exact cells ss sound price f k p placed;
        above = number_rises combinational (low_price ss) price low f (λ l e. (within-ends sound price w l e).0);
        below = number_rises combinational price (high_price ss) f high (λ l e. (within-ends sound price w l e).1);
        both_never = λ k. (
          λ e. (exact cells ss sound (low_price ss) low k p placed).is_never.1 ((exact cells ss sound price f k p placed).is_never.0 e),
          λ e. (exact cells ss sound price f k p placed).is_never.1 ((exact cells ss sound (low_price ss) low k p placed).is_never.0 e),
        );
        same =
            le_antisymm (number_rises sequential price (low_price ss) f low (λ l e. le_refl 0))
            (number_rises sequential (low_price ss) price low f (λ l e. le_refl 0));
      }

  -- And where the two values of an input have prices of their own.
  pub between-each : (price : ℕ → ℕ → ℕ) → EachWithin ss price → (x : ℕ) → ExactEach price cells ss p x → BetweenEach cells ss p x
  between-each price w x e =
      let low : Figures (low_price ss) ss = within-figures sound (low_price ss) (low-within sound) in
      let high : Figures (high_price ss) ss = within-figures sound (high_price ss) (high-within sound) in
      let lies = each_within (low_price ss) (high_price ss) price (λ l v i. within-ends sound (λ m. price m v) (w v) l i) in
      let at_low = exact cells ss sound (low_price ss) low combinational p placed in
      let at_high = exact cells ss sound (high_price ss) high combinational p placed in
      record {
        above = stands-least (λ d. cost_each price d) (λ d. cost_at (low_price ss) d) (λ d. (d, (lies d).0)) _ _ e at_low;
        below = stands-least (λ d. cost_at (high_price ss) d) (λ d. cost_each price d) (λ d. (d, (lies d).1)) _ _ at_high e;
        both_never = (λ n. at_low.is_never.1 (e.is_never.0 n), λ n. e.is_never.1 (at_low.is_never.0 n));
      }
