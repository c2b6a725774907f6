-- Best numbers within a budget. Document 02, K12: numbers found one at a time, the cheapest offer first, instead of by sweeps.
-- What K12 calls settled is called fixed here, since "settled" is said of runs (specs/Sweep.antt). A node is fixed where its
-- number is below never; every other number of the table is never. So the sum of a way is never unless all that it needs is
-- fixed (`way-fixed` of proofs/Laws.antt), and no second table says which nodes are.
use Rattle.std.specs.Prelude.{Bool, ◌⊎◌, ◌≢◌, ◌≡◌, ℕ, zero, suc, ◌+◌, ◌≤◌, ◌<◌, eqb, leb, ltb, length, set, replicate}
use mathlib.Core.List.{List, [], ◌∷◌, Memᴰ}
use Rattle.reading.specs.Choice.{pick}
use Rattle.cost.specs.Cost.{never, lesser}
use Rattle.plans.specs.System.{Way, Visit, System, Offers}
use Rattle.plans.specs.Sweep.{at, way, least, Visited}
use Rattle.plans.specs.Exact.{Exact, first}

-- ---- offers

-- "settled"
abbrev pub Fixed : List ℕ → ℕ → Type 0
Fixed xs n = at xs n < never

unfoldable pub fixed : List ℕ → ℕ → Bool
fixed xs n = ltb (at xs n) never

-- "a gate's value by a row whose columns are all settled": the least sum of all ways to the node.
unfoldable pub offered : List Visit → List ℕ → ℕ → ℕ
offered [] xs n = never
offered (v ∷ vs) xs n = lesser (pick (eqb v.node n) (least xs v.ways) never) (offered vs xs n)

-- "an input at its price or a gate's value by a row whose columns are all settled"; never where there is no offer.
unfoldable pub offer : System → List ℕ → ℕ → ℕ
offer S xs n = lesser (first (S.price n)) (offered S.visits xs n)

-- A value on offer: the offer of a node that is not fixed, and never else.
unfoldable pub bid : System → List ℕ → ℕ → ℕ
bid S xs n = pick (fixed xs n) never (offer S xs n)

pub record Bid : Type 0 where
  pub node : ℕ
  pub cost : ℕ

-- "always the cheapest unsettled value on offer, .. lowest line first, 0 before 1": the first of the nodes among equals. The
-- cost is never where nothing is on offer.
unfoldable pub cheapest : System → List ℕ → List ℕ → Bid
cheapest S xs [] = record { node = 0; cost = never }
cheapest S xs (n ∷ ns) =
    let rest : Bid = cheapest S xs ns in
    pick (leb (bid S xs n) rest.cost) (record { node = n; cost = bid S xs n }) rest

-- ---- steps

-- Where a run stands: the numbers, "the number of steps", and "the last settled cost (0 before any)".
pub record Budgeted : Type 0 where
  pub numbers : List ℕ
  pub steps : ℕ
  pub last : ℕ

unfoldable pub unbegun : ℕ → Budgeted
unbegun size = record { numbers = replicate size never; steps = 0; last = 0 }

unfoldable pub fix : Budgeted → Bid → Budgeted
fix b c = record { numbers = set b.numbers c.node c.cost; steps = suc b.steps; last = c.cost }

-- One step, over the nodes `ns`; none where nothing is on offer.
unfoldable pub step : System → List ℕ → Budgeted → Budgeted
step S ns b =
    let c : Bid = cheapest S b.numbers ns in
    pick (ltb c.cost never) (fix b c) b

-- "It stops after a given number of steps or when nothing is on offer."
unfoldable pub budgeted : System → List ℕ → ℕ → ℕ → Budgeted
budgeted S ns size zero = unbegun size
budgeted S ns size (suc budget) = step S ns (budgeted S ns size budget)

-- "the number of settled values"
unfoldable pub fixed_among : List ℕ → List ℕ → ℕ
fixed_among xs [] = 0
fixed_among xs (n ∷ ns) = pick (fixed xs n) 1 0 + fixed_among xs ns

-- To compute a run of a closed system, say `unfolding sweep_open budget_open`.
unfoldable pub budget_open : ℕ
unfolding fixed offered offer bid cheapest unbegun fix step budgeted fixed_among first
budget_open = 0

-- ---- what the theorems ask of the nodes

-- The nodes ascend: "lowest line first, 0 before 1".
abbrev pub Ascending : List ℕ → Type 0
Ascending [] = Unit {0}
Ascending (n ∷ ns) = ((m : ℕ) → Memᴰ m ns → n < m) × Ascending ns

-- Besides, they have places in the table, and their ways need no other nodes.
pub record Enclosed (S : System) (ns : List ℕ) (size : ℕ) : Type 0 where
  pub ascending : Ascending ns
  pub inside : (n : ℕ) → Memᴰ n ns → n < size
  pub needs : (n : ℕ) (w : Way) → Memᴰ n ns → Offers S.visits n w → (m : ℕ) → Memᴰ m w.needs → Memᴰ m ns

-- The node's bid is the cheapest, and of equal ones the lowest node's.
pub record First (S : System) (xs ns : List ℕ) (n : ℕ) : Type 0 where
  pub listed : Memᴰ n ns
  pub least : (m : ℕ) → Memᴰ m ns → bid S xs n ≤ bid S xs m
  pub lowest : (m : ℕ) → Memᴰ m ns → bid S xs m ≡ bid S xs n → n ≤ m

-- ---- what is shown of them

-- `first_cheapest`: so the code may find it in any way.
abbrev pub FirstCheapest : Type 0
FirstCheapest =
    (S : System) (xs ns : List ℕ) →
    Ascending ns →
    (n : ℕ) → First S xs ns n →
    cheapest S xs ns ≡ record { node = n; cost = bid S xs n }

-- `step_first`, `step-none`: a step where a bid is the first, and one where nothing is on offer.
abbrev pub StepFirst : Type 0
StepFirst =
    (S : System) (ns : List ℕ) (b : Budgeted) →
    Ascending ns →
    (n : ℕ) → First S b.numbers ns n →
    bid S b.numbers n < never →
    step S ns b ≡ fix b (record { node = n; cost = bid S b.numbers n })

abbrev pub StepNone : Type 0
StepNone =
    (S : System) (ns : List ℕ) (b : Budgeted) →
    ((n : ℕ) → Memᴰ n ns → never ≤ bid S b.numbers n) →
    step S ns b ≡ b

-- `bid_open`: the bid of a node that is not fixed is its offer.
abbrev pub BidOpen : Type 0
BidOpen = (S : System) (xs : List ℕ) (n : ℕ) → (Fixed xs n → ⊥) → bid S xs n ≡ offer S xs n

-- `bid-kept`: a number that is stored changes the bids of its own node and of those that have a way which needs it.
abbrev pub BidKept : Type 0
BidKept =
    (S : System) (xs : List ℕ) (n a m : ℕ) →
    m ≢ n →
    ((w : Way) → Offers S.visits m w → Memᴰ n w.needs → ⊥) →
    bid S (set xs n a) m ≡ bid S xs m

-- `offered-one`, `offered-none`: the offer at a node that one visit is to, and at one that none is to.
abbrev pub OfferedOne : Type 0
OfferedOne =
    (vs : List Visit) (xs : List ℕ) (v : Visit) →
    Memᴰ v vs →
    ((u : Visit) → Memᴰ u vs → u.node ≡ v.node → u.ways ≡ v.ways) →
    offered vs xs v.node ≡ least xs v.ways

abbrev pub OfferedNone : Type 0
OfferedNone =
    (vs : List Visit) (xs : List ℕ) (n : ℕ) →
    (Visited vs n → ⊥) →
    offered vs xs n ≡ never

-- `way-fixed`: a way has a sum below never only where all that it needs is fixed.
abbrev pub WayFixed : Type 0
WayFixed = (xs : List ℕ) (w : Way) → way xs w < never → (n : ℕ) → Memᴰ n w.needs → Fixed xs n

-- `fixed-exact`: "A settled value is exactly the reported number."
abbrev pub FixedExact : Type 0
FixedExact =
    (S : System) (ns : List ℕ) (size budget : ℕ) →
    Enclosed S ns size →
    (n : ℕ) → Fixed (budgeted S ns size budget).numbers n →
    Exact S n (at (budgeted S ns size budget).numbers n)

-- `other-between`: "For each other it gives the present offer, or never, and the last settled cost (0 before any), and the true
-- number lies between."
abbrev pub OtherBetween : Type 0
OtherBetween =
    (S : System) (ns : List ℕ) (size budget : ℕ) →
    Enclosed S ns size →
    (n x : ℕ) → Memᴰ n ns →
    (Fixed (budgeted S ns size budget).numbers n → ⊥) →
    Exact S n x →
    ((budgeted S ns size budget).last ≤ x) × (x ≤ offer S (budgeted S ns size budget).numbers n)

-- `budget-stops`: "It stops after a given number of steps or when nothing is on offer."
abbrev pub BudgetStops : Type 0
BudgetStops =
    (S : System) (ns : List ℕ) (size budget : ℕ) →
    ((budgeted S ns size budget).steps ≡ budget)
    ⊎ ((n : ℕ) → Memᴰ n ns → bid S (budgeted S ns size budget).numbers n ≡ never)

-- `steps-counted`: "The answer carries the number of steps, equal to the number of settled values."
abbrev pub StepsCounted : Type 0
StepsCounted =
    (S : System) (ns : List ℕ) (size budget : ℕ) →
    Enclosed S ns size →
    (budgeted S ns size budget).steps ≡ fixed_among (budgeted S ns size budget).numbers ns

-- `more-budget`: "A larger budget never changes a settled value".
abbrev pub MoreBudget : Type 0
MoreBudget =
    (S : System) (ns : List ℕ) (size budget larger : ℕ) →
    budget ≤ larger →
    (n : ℕ) → Fixed (budgeted S ns size budget).numbers n →
    at (budgeted S ns size larger).numbers n ≡ at (budgeted S ns size budget).numbers n

-- `budget-ends`: "and an unlimited one ends in demand 2's numbers": with as many steps as there are nodes every number is
-- exact, and nothing is on offer.
abbrev pub BudgetEnds : Type 0
BudgetEnds =
    (S : System) (ns : List ℕ) (size budget : ℕ) →
    Enclosed S ns size →
    length ns ≤ budget →
    (n : ℕ) → Memᴰ n ns →
    Exact S n (at (budgeted S ns size budget).numbers n) × (bid S (budgeted S ns size budget).numbers n ≡ never)

-- `budget-same`: so a larger one than that comes to the same run.
abbrev pub BudgetSame : Type 0
BudgetSame =
    (S : System) (ns : List ℕ) (size budget larger : ℕ) →
    Enclosed S ns size →
    length ns ≤ budget →
    budget ≤ larger →
    budgeted S ns size larger ≡ budgeted S ns size budget

-- `idle-same`: where a step changes nothing, so does a larger budget.
abbrev pub IdleSame : Type 0
IdleSame =
    (S : System) (ns : List ℕ) (size budget larger : ℕ) →
    step S ns (budgeted S ns size budget) ≡ budgeted S ns size budget →
    budget ≤ larger →
    budgeted S ns size larger ≡ budgeted S ns size budget
