-- Document 02, K12: what a run within a budget is worth, from the theorems of crate `plans`.
use Rattle.common_laws.proofs.Base.{List, [], ◌∷◌, ◌++◌, append-nil, List-as-Memᴰ, List-Memᴰ-head, List-Memᴰ-tail, ◌⊎◌, inl, inr, ◌≡◌, refl, sym, ◌∙◌, ap, ap₂, subst, ℕ, zero, suc}
use Rattle.common_laws.proofs.Base.{◌+◌, ◌*◌, ◌-◌, ◌/◌, ◌%◌, ◌≤◌, ◌<◌, ℕ_discrete, dec_lt, arith, lt-ltb, le-ltb, ltb, length, get_or, drop}
use Rattle.sizes.specs.Sizes as Size
use Rattle.sizes.specs.Places.{leaf_of, leaf_place, flag_place}
use Rattle.reading.specs.Choice.{pick}
use Rattle.reading.proofs.Laws.{by_test}
use Rattle.cost.specs.Cost.{never}
use Rattle.plans.specs.System.{System, Way}
use Rattle.plans.specs.Sweep.{at}
use Rattle.plans.specs.Exact as General
use Rattle.plans.specs.Budget.{Fixed, fixed, offer, bid, cheapest, Budgeted, unbegun, fix, step, budgeted, Ascending, Enclosed, fixed_among}
use Rattle.plans.proofs.Laws.{
  at_getD,
  exact-once,
  fixed-exact,
  other-between,
  budget-stops,
  steps-counted,
  more-budget,
  budget-ends,
  budget-same,
  among-most,
  bid_open,
}
use Rattle.library_table.specs.Cells.{Cell, Column, pin, output}
use Rattle.library_table.specs.Cells as C
use Rattle.netlist_table.specs.Netlist.{Gate, Statement, gates_of}
use Rattle.netlist_table.specs.Sound.{InRange}
use Rattle.calculation.specs.Nodes.{Kind, combinational, Purpose, set, observe, node}
use Rattle.calculation.specs.Ways.{cell_of, asked, Role, setting, observing, purpose_of, pin_line}
use Rattle.calculation.specs.Acceptance.{BothSound}
use Rattle.calculation.specs.Prices.{prices_of}
use Rattle.calculation.specs.Calculation.{analysed}
use Rattle.calculation.specs.Systems.{system}
use Rattle.calculation.specs.Budget.{values_from, values, best_within, flagged, handed, values_words, best_words, last_of, flag_of, handed_of, flag_sum, reported, ValueWithin, WithinBudget}
use Rattle.calculation.proofs.Places.{Placed, node-inside, node_injective}
use Rattle.calculation.proofs.Prices.{own-figures}
use Rattle.calculation.proofs.Visits.{Has, Visiting, Offer, offer as offer-from, offer-need, MayName, asks_named}
use Rattle.calculation.proofs.Acceptance.{purpose_placed, asked-placed}
use Rattle.calculation.proofs.Bounds.{all_from, numbers-length}
use Rattle.calculation.proofs.Exactness.{generally-exact, exact}

-- A run makes no more steps than its budget has.
steps-most : (S : System) (ns : List ℕ) (size budget : ℕ) → (budgeted S ns size budget).steps ≤ budget
unfolding budgeted unbegun step fix pick
steps-most S ns size zero = omega arith
steps-most S ns size (suc budget) =
    by_test (ltb (cheapest S (budgeted S ns size budget).numbers ns).cost never)
    (λ t. rw t (omega (arith, steps-most S ns size budget)))
    (λ t. rw t (omega (arith, steps-most S ns size budget)))

-- ---- the values

values_from_lem : (count first l v : ℕ) → first ≤ l → l < first + count → v ≤ 1 → List-as-Memᴰ (node combinational (set l v)) (values_from count first)
unfolding values_from
values_from_lem zero first l v a b h = absurd (omega arith)
values_from_lem (suc count) first l v a b h = here (ℕ_discrete l first) (ℕ_discrete v 0) (λ c. values_from_lem count (suc first) l v c (omega arith) h)
  where
    here : Dec (l ≡ first) → Dec (v ≡ 0) → (suc first ≤ l → List-as-Memᴰ (node combinational (set l v)) (values_from count (suc first))) → List-as-Memᴰ (node combinational (set l v)) (node combinational (set first 0) ∷ node combinational (set first 1) ∷ values_from count (suc first))
    here (yes e) (yes f) r = List-Memᴰ-head (ap₂ (λ (a b : ℕ). node combinational (set a b)) e f)
    here (yes e) (no f) r = let g : v ≡ 1 = omega arith in List-Memᴰ-tail (List-Memᴰ-head (ap₂ (λ (a b : ℕ). node combinational (set a b)) e g))
    here (no e) d r = List-Memᴰ-tail (List-Memᴰ-tail (r (omega arith)))

-- A value of a line is one of them, ..
pub value-listed : (l v : ℕ) → Placed (set l v) → List-as-Memᴰ (node combinational (set l v)) values
unfolding values InRange
value-listed l v h = values_from_lem Size.lines 1 l v h.0.0 (omega (arith, h.0.1)) h.1

abbrev Value : ℕ → Type 0
Value n = (l : ℕ) × (v : ℕ) × Placed (set l v) × (n ≡ node combinational (set l v))

-- .. and each of them is a value of a line.
from_values : (count first : ℕ) → 1 ≤ first → first + count ≤ Size.lines + 1 → (n : ℕ) → List-as-Memᴰ n (values_from count first) → Value n
unfolding values_from InRange
from_values zero first a b n m = elim m [ ]
from_values (suc count) first a b n (List-Memᴰ-head e) = (first, 0, ((a, omega arith), omega arith), e)
from_values (suc count) first a b n (List-Memᴰ-tail (List-Memᴰ-head e)) = (first, 1, ((a, omega arith), omega arith), e)
from_values (suc count) first a b n (List-Memᴰ-tail (List-Memᴰ-tail m)) = from_values count (suc first) (omega arith) (omega arith) n m

pub value_of : (n : ℕ) → List-as-Memᴰ n values → Value n
unfolding values
value_of n m = from_values Size.lines 1 (omega arith) (omega arith) n m

-- A value's leaf: where its number stands, and back.
pub leaf_node : (l v : ℕ) → 1 ≤ l → v ≤ 1 → leaf_place (leaf_of l v) ≡ node combinational (set l v)
unfolding node
leaf_node l v a b = omega arith

pub leaf_value : (i : ℕ) → leaf_place i ≡ node combinational (set (i / Size.values + 1) (i % Size.values))
unfolding node
leaf_value i = omega arith

pub leaf_placed : (i : ℕ) → i < Size.leaves → Placed (set (i / Size.values + 1) (i % Size.values))
unfolding InRange
leaf_placed i h = ((omega arith, omega arith), omega arith)

-- They ascend.
values-above : (count from : ℕ) → 1 ≤ from → (m : ℕ) → List-as-Memᴰ m (values_from count from) → node combinational (set from 0) ≤ m
unfolding values_from node
values-above zero from a m i = elim i [ ]
values-above (suc count) from a m (List-Memᴰ-head e) = omega arith
values-above (suc count) from a m (List-Memᴰ-tail (List-Memᴰ-head e)) = omega arith
values-above (suc count) from a m (List-Memᴰ-tail (List-Memᴰ-tail i)) = omega (arith, values-above count (suc from) (omega arith) m i)

values_ascend : (count from : ℕ) → 1 ≤ from → Ascending (values_from count from)
unfolding values_from node
values_ascend zero from a = tt
values_ascend (suc count) from a =
    (first, ((λ m i. omega (arith, values-above count (suc from) (omega arith) m i)), values_ascend count (suc from) (omega arith)))
  where
    first : (m : ℕ) → List-as-Memᴰ m (node combinational (set from 1) ∷ values_from count (suc from)) → node combinational (set from 0) < m
    first m (List-Memᴰ-head e) = omega arith
    first m (List-Memᴰ-tail i) = omega (arith, values-above count (suc from) (omega arith) m i)

pub ascending : Ascending values
unfolding values
ascending = values_ascend Size.lines 1 (omega arith)

values_length : (count first : ℕ) → length (values_from count first) ≡ 2 * count
unfolding values_from
values_length zero first = refl
values_length (suc count) first = omega (arith, values_length count (suc first))

all-length : length values ≡ Size.leaves
unfolding values
all-length = omega (arith, values_length Size.lines 1)

-- ---- their words

module _ (xs : List ℕ) (n : ℕ) where
  flag-fixed : Fixed xs n → flagged xs n ≡ 1
  unfolding flagged fixed pick
  flag-fixed h = rw (lt-ltb (at xs n) never h)

  flag_open : (Fixed xs n → ⊥) → flagged xs n ≡ 0
  unfolding flagged fixed pick
  flag_open h = rw (le-ltb (at xs n) never (omega arith))

  handed-fixed : (S : System) → Fixed xs n → handed S xs n ≡ at xs n
  unfolding handed fixed pick
  handed-fixed S h = rw (lt-ltb (at xs n) never h)

  handed_open : (S : System) → (Fixed xs n → ⊥) → handed S xs n ≡ offer S xs n
  unfolding handed fixed pick
  handed_open S h = rw (le-ltb (at xs n) never (omega arith))

values-words : (S : System) (xs ns : List ℕ) → length (values_words S xs ns) ≡ length ns * Size.flag_words
unfolding values_words
values-words S xs [] = refl
values-words S xs (n ∷ ns) = omega (arith, values-words S xs ns)

module _ (S : System) (xs rest : List ℕ) where
  abbrev words_of : List ℕ → List ℕ
  words_of ns = values_words S xs ns ++ rest

  -- What stands at the words of a value.
  abbrev Told : List ℕ → ℕ → ℕ → Type 0
  Told words n k = (get_or words k 0 ≡ flagged xs n) × (get_or words (suc k) 0 ≡ handed S xs n)

  words-at : (count first l v : ℕ) → first ≤ l → l < first + count → v ≤ 1 → (k : ℕ) → k ≡ ((l - first) * 2 + v) * 2
      → Told (words_of (values_from count first)) (node combinational (set l v)) k
  unfolding values_from values_words
  words-at zero first l v a b h k e = absurd (omega arith)
  words-at (suc count) first l v a b h k e =
      place (ℕ_discrete l first) (ℕ_discrete v 0) (λ c j q. words-at count (suc first) l v c (omega arith) h j q)
    where
      here : List ℕ
      here = words_of (values_from (suc count) first)

      place : Dec (l ≡ first) → Dec (v ≡ 0) → (suc first ≤ l → (j : ℕ) → j ≡ ((l - suc first) * 2 + v) * 2 → Told (words_of (values_from count (suc first))) (node combinational (set l v)) j)
          → Told here (node combinational (set l v)) k
      place (yes p) (yes q) r = let z : k ≡ 0 = omega arith in rw (z, p, q) (refl, refl)
      place (yes p) (no q) r = let z : k ≡ 2 = omega arith in let w : v ≡ 1 = omega arith in rw (z, p, w) (refl, refl)
      place (no p) d r =
          let z : k ≡ suc (suc (suc (suc (k - 4)))) = omega arith in
          rw z (r (omega arith) (k - 4) (omega arith))

  flags-counted : (ns : List ℕ) → flag_sum (length ns) (words_of ns) ≡ fixed_among xs ns
  unfolding flag_sum values_words fixed_among flagged
  flags-counted [] = refl
  flags-counted (n ∷ ns) = ap (λ (k : ℕ). pick (fixed xs n) 1 0 + k) (flags-counted ns)

-- ---- what their ways need

module _ (cells : List Cell) (ss : List Statement) (sound : BothSound cells ss) where
  abbrev gs : List Gate
  gs = gates_of ss

  -- A CC row asks for values of lines.
  asked-value : (g : Gate) (c : Cell) (role : Role) (l v : ℕ) (d : Column) → purpose_of g role ≡ set l v → MayName c.pins role d → Placed (asked g d) → List-as-Memᴰ (node combinational (asked g d)) values
  unfolding asked purpose_of
  asked-value g c role l v (pin i e) q h p = value-listed (pin_line g i) e p
  asked-value g c (setting e) l v (output x) q h p = absurd h
  asked-value g c (observing i) l v (output x) q h p = value-listed g.line x p
  asked-value g c (setting e) l v C.observe q h p = absurd h
  asked-value g c (observing i) l v C.observe q h p = absurd (clash q)
    where
      clash : observe (pin_line g i) ≡ set l v → ⊥
      clash e = let z : ◌≡◌ {A = ℕ} 0 1 = cc in omega arith

  kind-here : (k : Kind) → k ≡ combinational → (p : Purpose) → node k p ≡ node combinational p
  kind-here k e p = rw e

  need-value : {k : Kind} {n : ℕ} {w : Way} (o : Offer Has k cells gs n w) → Value n → (m : ℕ) → List-as-Memᴰ m w.needs → List-as-Memᴰ m values
  need-value {k} o t m i =
      let f = offer-need o m i in
      let c : Cell = cell_of cells o.gate in
      let a : MayName c.pins o.role f.0 = asks_named o.gate c o.role o.row f.0 f.1 in
      let q : (k ≡ combinational) × (purpose_of o.gate o.role ≡ set t.0 t.1) =
      node_injective k combinational (purpose_of o.gate o.role) (set t.0 t.1)
      (purpose_placed sound o.gate o.listed o.role o.allowed) t.2 (sym o.node ∙ t.3) in
      subst (λ (j : ℕ). List-as-Memᴰ j values) (sym (kind-here k q.0 (asked o.gate f.0)) ∙ f.2)
      (asked-value o.gate c o.role t.0 t.1 f.0 q.1 a (asked-placed sound o.gate o.listed o.role f.0 a))

  pub enclosed : Enclosed (system cells ss) values Size.numbers
  enclosed =
      record {
        ascending = ascending;
        inside = λ n m. inside n (value_of n m);
        needs = λ n w m o j i.
            let f : (k : Kind) × Visiting Has k cells gs o.visit = all_from cells gs o.visit o.listed in
            need-value (offer-from o f.1) (value_of n m) j i;
      }
    where
      inside : (n : ℕ) → Value n → n < Size.numbers
      inside n t = rw t.3 (node-inside combinational (set t.0 t.1) t.2)

  -- ---- what the run is worth

  abbrev S : System
  S = system cells ss

  module _ (budget : ℕ) (rest : List ℕ) where
    abbrev b : Budgeted
    b = best_within cells ss budget

    abbrev words : List ℕ
    words = best_words cells ss budget ++ rest

    pub words_last : last_of words ≡ b.last
    unfolding best_words
    words_last = refl

    told : (l v : ℕ) → Placed (set l v) → (flag_of words l v ≡ flagged b.numbers (node combinational (set l v))) × (handed_of words l v ≡ handed S b.numbers (node combinational (set l v)))
    unfolding best_words values InRange
    told l v placed =
        let z : flag_place (leaf_of l v) ≡ suc (((l - 1) * 2 + v) * 2) = omega arith in
        let y : suc (((l - 1) * 2 + v) * 2) + 1 ≡ suc (suc (((l - 1) * 2 + v) * 2)) = omega arith in
        let t = words-at S b.numbers rest Size.lines 1 l v placed.0.0 (omega (arith, placed.0.1)) placed.1 (((l - 1) * 2 + v) * 2) refl in
        rw z (t.0, ap (λ (j : ℕ). get_or words j 0) y ∙ t.1)

    -- The same by leaves.
    pub words_leaf : (i : ℕ) → i < Size.leaves → (get_or words (flag_place i) 0 ≡ flagged b.numbers (leaf_place i)) × (get_or words (flag_place i + 1) 0 ≡ handed S b.numbers (leaf_place i))
    words_leaf i h =
        let t = told (i / Size.values + 1) (i % Size.values) (leaf_placed i h) in
        let e : leaf_of (i / Size.values + 1) (i % Size.values) ≡ i = omega arith in
        rw (leaf_value i) (rw e at t)

  pub words-length : (budget : ℕ) → length (best_words cells ss budget) ≡ Size.best
  unfolding best_words
  words-length budget = omega (arith, values-words S (best_within cells ss budget).numbers values, all-length)

  module _ (budget l v : ℕ) (placed : Placed (set l v)) (rest : List ℕ) where
    abbrev n : ℕ
    n = node combinational (set l v)

    abbrev xs : List ℕ
    xs = (best_within cells ss budget).numbers

    abbrev here-words : List ℕ
    here-words = best_words cells ss budget ++ rest

    here : at (analysed cells ss).numbers n ≡ reported cells ss l v
    here = at_getD (analysed cells ss).numbers n 0 (rw (numbers-length cells ss sound (prices_of ss) (own-figures sound)) (node-inside combinational (set l v) placed))

    true-number : General.Exact S n (reported cells ss l v)
    true-number = rw here at (generally-exact cells ss sound (prices_of ss) (own-figures sound) n)

    fixed-reported : Fixed xs n → at xs n ≡ reported cells ss l v
    unfolding best_within
    fixed-reported f = exact-once S n (at xs n) (reported cells ss l v) (fixed-exact S values Size.numbers budget enclosed n f) true-number

    open_between : (Fixed xs n → ⊥) → ((best_within cells ss budget).last ≤ reported cells ss l v) × (reported cells ss l v ≤ offer S xs n)
    unfolding best_within
    open_between f = other-between S values Size.numbers budget enclosed n (reported cells ss l v) (value-listed l v placed) f true-number

    open_ends : (Fixed xs n → ⊥) → Size.leaves ≤ budget → offer S xs n ≡ reported cells ss l v
    unfolding best_within
    open_ends f h =
        let e = budget-ends S values Size.numbers budget enclosed (rw all-length h) n (value-listed l v placed) in
        let same : at xs n ≡ reported cells ss l v = exact-once S n (at xs n) (reported cells ss l v) e.0 true-number in
        let none : offer S xs n ≡ never = sym (bid_open S xs n f) ∙ e.1 in
        omega (arith, (open_between f).1)

    fixed-larger : (more : ℕ) → budget ≤ more → Fixed xs n → at (best_within cells ss more).numbers n ≡ at xs n
    unfolding best_within
    fixed-larger more h f = more-budget S values Size.numbers budget more h n f

    larger : (more : ℕ) → budget ≤ more → Fixed xs n → (flag_of (best_words cells ss more) l v ≡ 1) × (handed_of (best_words cells ss more) l v ≡ at xs n)
    larger more h f =
        let q : at (best_within cells ss more).numbers n ≡ at xs n = fixed-larger more h f in
        let g : Fixed (best_within cells ss more).numbers n = rw q f in
        let t = rw (append-nil (best_words cells ss more)) at (told more [] l v placed) in
        (t.0 ∙ flag-fixed (best_within cells ss more).numbers n g, t.1 ∙ handed-fixed (best_within cells ss more).numbers n S g ∙ q)

    worth : ValueWithin cells ss budget here-words l v
    worth = split (dec_lt (at xs n) never)
      where
        t : (flag_of here-words l v ≡ flagged xs n) × (handed_of here-words l v ≡ handed S xs n)
        t = told budget rest l v placed

        split : Dec (Fixed xs n) → ValueWithin cells ss budget here-words l v
        split (yes f) =
            let flag : flag_of here-words l v ≡ 1 = t.0 ∙ flag-fixed xs n f in
            let is : handed_of here-words l v ≡ at xs n = t.1 ∙ handed-fixed xs n S f in
            record {
              flag = inl flag;
              is_reported = λ e. (is ∙ fixed-reported f, rw is f);
              exact = exact cells ss sound (prices_of ss) (own-figures sound) combinational (set l v) placed;
              between = λ e. absurd (omega arith);
              larger = λ more h e. ((larger more h f).0, (larger more h f).1 ∙ sym is);
              ends = λ h. is ∙ fixed-reported f;
            }
        split (no f) =
            let flag : flag_of here-words l v ≡ 0 = t.0 ∙ flag_open xs n f in
            let is : handed_of here-words l v ≡ offer S xs n = t.1 ∙ handed_open xs n S f in
            record {
              flag = inr flag;
              is_reported = λ e. absurd (omega arith);
              exact = exact cells ss sound (prices_of ss) (own-figures sound) combinational (set l v) placed;
              between = λ e. (rw (words_last budget rest) (open_between f).0, rw is (open_between f).1);
              larger = λ more h e. absurd (omega arith);
              ends = λ h. is ∙ open_ends f h;
            }

  module _ (budget : ℕ) (rest : List ℕ) where
    abbrev ys : List ℕ
    ys = (best_within cells ss budget).numbers

    counted : (best_within cells ss budget).steps ≡ fixed_among ys values
    unfolding best_within
    counted = steps-counted S values Size.numbers budget enclosed

    flags : flag_sum Size.leaves (drop Size.flags_at (best_words cells ss budget ++ rest)) ≡ fixed_among ys values
    unfolding best_words
    flags = ap (λ (k : ℕ). flag_sum k (values_words S ys values ++ rest)) (sym all-length) ∙ flags-counted S ys rest values

    stops : ((best_within cells ss budget).steps ≡ budget) ⊎ ((n : ℕ) → List-as-Memᴰ n values → bid S ys n ≡ never)
    unfolding best_within
    stops = budget-stops S values Size.numbers budget

    -- A flag that is 0 is that of a value which is not fixed: what is handed of it is its bid.
    handed-bid : (l v : ℕ) → Placed (set l v) → flag_of (best_words cells ss budget ++ rest) l v ≡ 0
        → handed_of (best_words cells ss budget ++ rest) l v ≡ bid S ys (node combinational (set l v))
    handed-bid l v placed e = split (dec_lt (at ys (node combinational (set l v))) never)
      where
        t : (flag_of (best_words cells ss budget ++ rest) l v ≡ flagged ys (node combinational (set l v))) × (handed_of (best_words cells ss budget ++ rest) l v ≡ handed S ys (node combinational (set l v)))
        t = told budget rest l v placed

        split : Dec (Fixed ys (node combinational (set l v))) → handed_of (best_words cells ss budget ++ rest) l v ≡ bid S ys (node combinational (set l v))
        split (yes f) = absurd (omega (arith, t.0, flag-fixed ys (node combinational (set l v)) f))
        split (no f) = t.1 ∙ handed_open ys (node combinational (set l v)) S f ∙ sym (bid_open S ys (node combinational (set l v)) f)

    at-most : (best_within cells ss budget).steps ≤ budget
    unfolding best_within
    at-most = steps-most S values Size.numbers budget

    pub within-budget : WithinBudget cells ss budget (best_within cells ss budget).steps (best_words cells ss budget ++ rest)
    within-budget =
        record {
          each = λ l v a c. worth budget l v (a, c) rest;
          counted = counted ∙ sym flags;
          few = omega (arith, counted, among-most ys values, all-length);
          at_most = at-most;
          stops = split stops;
          unlimited = λ more h k. unfold best_within in budget-same S values Size.numbers budget more enclosed (rw all-length h) k;
        }
      where
        split : ((best_within cells ss budget).steps ≡ budget) ⊎ ((n : ℕ) → List-as-Memᴰ n values → bid S ys n ≡ never)
            → ((best_within cells ss budget).steps ≡ budget)
            ⊎ ((l v : ℕ) → InRange l → v ≤ 1 → flag_of (best_words cells ss budget ++ rest) l v ≡ 0 → handed_of (best_words cells ss budget ++ rest) l v ≡ never)
        split (inl e) = inl e
        split (inr g) = inr (λ l v a c e. handed-bid l v (a, c) e ∙ g (node combinational (set l v)) (value-listed l v (a, c)))
