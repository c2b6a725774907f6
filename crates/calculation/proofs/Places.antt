-- Where numbers stand: each purpose in each kind has a place of its own in the table, and what stands there at the start.
use Rattle.common_laws.proofs.Base.{Bool, true, false, List, ◌++◌, ◌≡◌, refl, ◌∙◌, ap, ap₂, ℕ, zero, suc, ◌+◌, ◌*◌, ◌-◌, ◌%◌, ◌≤◌, ◌<◌, le_refl, arith, length, get_or}
use Rattle.common_laws.proofs.Base.{List-get_or-append, get_or-append-add}
use Rattle.sizes.specs.Sizes as Size
use Rattle.sizes.specs.Places.{line_place}
use Rattle.reading.specs.Choice.{pick}
use Rattle.cost.specs.Cost.{most, never}
use Rattle.plans.specs.Sweep.{at, Bounded}
use Rattle.netlist_table.specs.Netlist.{Statement, is_input, is_output}
use Rattle.netlist_table.specs.Sound.{InRange}
use Rattle.calculation.specs.Nodes.{Kind, combinational, sequential, kind_number, Purpose, set, observe, line_of, cost_index, node}
use Rattle.calculation.specs.Prices.{Pricing, Figures, input_cost}
use Rattle.calculation.specs.Calculation.{start_line, start_lines, start_at}

-- A purpose that the table has a number for: a line from 1 to 1,000, and a value 0 or 1.
abbrev pub Placed : Purpose → Type 0
Placed (set l v) = InRange l × (v ≤ 1)
Placed (observe l) = InRange l

pub kind-small : (k : Kind) → kind_number k ≤ 1
kind-small combinational = omega arith
kind-small sequential = omega arith

same_kind : (j k : Kind) → kind_number j ≡ kind_number k → j ≡ k
same_kind combinational combinational e = refl
same_kind combinational sequential e = absurd (omega arith)
same_kind sequential combinational e = absurd (omega arith)
same_kind sequential sequential e = refl

index_below : (k : Kind) (p : Purpose) → Placed p → cost_index k p < Size.costs
index_below k (set l v) h = omega (arith, h.1, kind-small k)
index_below k (observe l) h = omega (arith, kind-small k)

line-least : (p : Purpose) → Placed p → 1 ≤ line_of p
unfolding InRange
line-least (set l v) h = h.0.0
line-least (observe l) h = h.0

line-most : (p : Purpose) → Placed p → line_of p ≤ Size.lines
unfolding InRange
line-most (set l v) h = h.0.1
line-most (observe l) h = h.1

-- Every number has its place in the table ..
pub node-inside : (k : Kind) (p : Purpose) → Placed p → node k p < Size.numbers
unfolding node
node-inside k p h = omega (arith, line-least p h, line-most p h, index_below k p h)

-- .. which tells its index among the six ..
pub node_index : (k : Kind) (p : Purpose) → Placed p → node k p % Size.costs ≡ cost_index k p
unfolding node
node_index k p h = omega (arith, index_below k p h)

-- .. and is its own.
same_place : (a b i j : ℕ) → 1 ≤ a → 1 ≤ b → i < Size.costs → j < Size.costs → line_place a + i ≡ line_place b + j → (a ≡ b) × (i ≡ j)
same_place a b i j ha hb hi hj e = (omega arith, omega arith)

same_index : (j k : Kind) (p q : Purpose) → Placed p → Placed q → line_of p ≡ line_of q → cost_index j p ≡ cost_index k q → (j ≡ k) × (p ≡ q)
same_index j k (set l v) (set m w) g h e f = (same_kind j k (omega (arith, g.1, h.1)), ap₂ set e (omega (arith, g.1, h.1)))
same_index j k (set l v) (observe m) g h e f = absurd (omega (arith, g.1, kind-small j))
same_index j k (observe l) (set m w) g h e f = absurd (omega (arith, h.1, kind-small k))
same_index j k (observe l) (observe m) g h e f = (same_kind j k (omega arith), ap observe e)

pub node_injective : (j k : Kind) (p q : Purpose) → Placed p → Placed q → node j p ≡ node k q → (j ≡ k) × (p ≡ q)
unfolding node
node_injective j k p q g h e =
    let t : (line_of p ≡ line_of q) × (cost_index j p ≡ cost_index k q) =
    same_place (line_of p) (line_of q) (cost_index j p) (cost_index k q) (line-least p g) (line-least q h) (index_below j p g) (index_below k q h) e in
    same_index j k p q g h t.0 t.1

-- ---- the start

pick_bound : (b : Bool) (a : ℕ) → (b ≡ true → a ≤ most) → pick b a never ≤ never
unfolding pick
pick_bound true a h = omega (arith, h refl)
pick_bound false a h = le_refl never

module _ (price : Pricing) (ss : List Statement) where
  lines-length : (n first : ℕ) → length (start_lines price ss n first) ≡ n * Size.costs
  unfolding start_lines start_line
  lines-length zero first = refl
  lines-length (suc n) first = omega (arith, lines-length n (suc first))

  pub start-length : length (start_at price ss) ≡ Size.numbers
  unfolding start_at
  start-length = lines-length Size.lines 1

  lines_at : (n first d j : ℕ) → d < n → j < Size.costs → at (start_lines price ss n first) (d * Size.costs + j) ≡ get_or (start_line price ss (first + d)) j never
  unfolding at start_lines start_line
  lines_at zero first d j h i = absurd (omega arith)
  lines_at (suc n) first zero j h i =
      let z : zero * Size.costs + j ≡ j = omega arith in
      let l : first ≡ first + zero = omega arith in
      rw z (List-get_or-append (start_line price ss first) (start_lines price ss n (suc first)) never j i ∙ ap (λ (m : ℕ). get_or (start_line price ss m) j never) l)
  lines_at (suc n) first (suc d) j h i =
      let next : suc d * Size.costs + j ≡ length (start_line price ss first) + (d * Size.costs + j) = omega arith in
      let l : suc first + d ≡ first + suc d = omega arith in
      ap (λ (m : ℕ). get_or (start_line price ss first ++ start_lines price ss n (suc first)) m never) next
      ∙ get_or-append-add (start_line price ss first) (start_lines price ss n (suc first)) (d * Size.costs + j) never
      ∙ lines_at n (suc first) d j (omega arith) i
      ∙ ap (λ (m : ℕ). get_or (start_line price ss m) j never) l

  -- "inputs CC 1 and SC 0 for both values, all other controllabilities never. .. CO and SO start at 0 for outputs, never
  -- elsewhere": an input's price in the place of CC's 1.
  abbrev pub first_number : Kind → Purpose → ℕ
  first_number k (set l v) = pick (is_input l ss) (input_cost price k l) never
  first_number k (observe l) = pick (is_output l ss) 0 never

  line_at : (k : Kind) (p : Purpose) → Placed p → get_or (start_line price ss (line_of p)) (cost_index k p) never ≡ first_number k p
  unfolding start_line input_cost
  line_at combinational (set l zero) h = refl
  line_at combinational (set l (suc zero)) h = refl
  line_at combinational (set l (suc (suc v))) h = absurd (omega (arith, h.1))
  line_at sequential (set l zero) h = refl
  line_at sequential (set l (suc zero)) h = refl
  line_at sequential (set l (suc (suc v))) h = absurd (omega (arith, h.1))
  line_at combinational (observe l) h = refl
  line_at sequential (observe l) h = refl

  pub start-at : (k : Kind) (p : Purpose) → Placed p → at (start_at price ss) (node k p) ≡ first_number k p
  unfolding start_at node
  start-at k p h =
      let a : 1 ≤ line_of p = line-least p h in
      let b : line_of p ≤ Size.lines = line-most p h in
      let e : 1 + (line_of p - 1) ≡ line_of p = omega arith in
      rw (lines_at Size.lines 1 (line_of p - 1) (cost_index k p) (omega arith) (index_below k p h), e) (line_at k p h)

  -- An input's cost is a figure in both kinds.
  pub cost-figure : Figures price ss → (k : Kind) (l : ℕ) → is_input l ss ≡ true → input_cost price k l ≤ most
  unfolding input_cost
  cost-figure f combinational l e = f l e
  cost-figure f sequential l e = omega arith

  lines-bounded : Figures price ss → (n first i : ℕ) → at (start_lines price ss n first) i ≤ never
  unfolding at start_lines start_line
  lines-bounded f zero first i = le_refl never
  lines-bounded f (suc n) first zero = pick_bound (is_input first ss) _ (cost-figure f combinational first)
  lines-bounded f (suc n) first (suc zero) = pick_bound (is_input first ss) _ (cost-figure f combinational first)
  lines-bounded f (suc n) first (suc (suc zero)) = pick_bound (is_input first ss) _ (cost-figure f sequential first)
  lines-bounded f (suc n) first (suc (suc (suc zero))) = pick_bound (is_input first ss) _ (cost-figure f sequential first)
  lines-bounded f (suc n) first (suc (suc (suc (suc zero)))) = pick_bound (is_output first ss) 0 (λ e. omega arith)
  lines-bounded f (suc n) first (suc (suc (suc (suc (suc zero))))) = pick_bound (is_output first ss) 0 (λ e. omega arith)
  lines-bounded f (suc n) first (suc (suc (suc (suc (suc (suc i)))))) = lines-bounded f n (suc first) i

  pub start-bounded : Figures price ss → Bounded (start_at price ss)
  unfolding start_at
  start-bounded f = lines-bounded f Size.lines 1
