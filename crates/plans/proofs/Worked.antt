-- Small systems computed by the checker: what the definitions say of a chain, a loop and a fan-out.
use Rattle.common_laws.proofs.Base.{List, [], ◌∷◌, List-as-Memᴰ, List-Memᴰ-head, List-Memᴰ-tail, Option, none, some, ◌≡◌, refl, sym, ◌∙◌, ap, ℕ, zero, suc, arith}
use Rattle.cost.specs.Cost.{over, never, capped}
use Rattle.plans.specs.System.{
  Way,
  Visit,
  System,
  Plan,
  Plan.priced,
  Plan.chosen,
  Plans.done,
  Plans.also,
  cost,
}
use Rattle.plans.specs.Sweep.{at, renew, lower, Run, run, sweep_open, Inside, Bounded, Visited}
use Rattle.plans.specs.Exact.{Exact, Start, first}
use Rattle.plans.specs.Trace.{trace_sweeps, untraced, trace_open}
use Rattle.plans.specs.Budget.{offer, budgeted, budget_open}
use Rattle.plans.specs.Statements.{SettlesWithin}
use Rattle.plans.proofs.Exactness.{attained-bound}
use Rattle.plans.proofs.Laws.{first_start, visited-bound, run-exact}

abbrev visit : ℕ → List Way → Visit
visit n ws = record { node = n; ways = ws }

abbrev row : ℕ → List ℕ → Way
row d ns = record { depth = d; needs = ns }

-- ---- a chain visited backwards meets the bound: three visited nodes, four sweeps

abbrev backwards : List Visit
backwards = visit 3 (row 1 (2 ∷ []) ∷ []) ∷ visit 2 (row 1 (1 ∷ []) ∷ []) ∷ visit 1 (row 1 (0 ∷ []) ∷ []) ∷ []

chain-backwards : run renew backwards 4 (1 ∷ never ∷ never ∷ never ∷ []) ≡ record { numbers = 1 ∷ 2 ∷ 3 ∷ 4 ∷ []; count = 4 }
unfolding sweep_open
chain-backwards = refl

-- .. and two sweeps do not reach it.
chain-short : run renew backwards 2 (1 ∷ never ∷ never ∷ never ∷ []) ≡ record { numbers = 1 ∷ 2 ∷ 3 ∷ never ∷ []; count = 2 }
unfolding sweep_open
chain-short = refl

-- Observing: the nodes 1 and 2 lead the ways (two gates' outputs, 2 is marked output), and the bound of three is met.
abbrev onward : List Visit
onward = visit 0 (row 1 (1 ∷ []) ∷ []) ∷ visit 1 (row 1 (2 ∷ []) ∷ []) ∷ []

chain-onward : run lower onward 3 (never ∷ never ∷ 0 ∷ []) ≡ record { numbers = 2 ∷ 1 ∷ 0 ∷ []; count = 3 }
unfolding sweep_open
chain-onward = refl

-- ---- a loop: 1 from 0 twice or from 2, and 2 from 1. The cheapest plan of 1 goes round no loop.

unfoldable inputs : ℕ → Option ℕ
inputs zero = some 1
inputs (suc n) = none

abbrev straight : Way
straight = row 1 (0 ∷ 0 ∷ [])

abbrev round : Way
round = row 0 (2 ∷ [])

abbrev back : Way
back = row 1 (1 ∷ [])

abbrev loop : System
loop = record { price = inputs; visits = visit 1 (round ∷ straight ∷ []) ∷ visit 2 (back ∷ []) ∷ [] }

loop-numbers : run lower loop.visits 3 (1 ∷ never ∷ never ∷ []) ≡ record { numbers = 1 ∷ 3 ∷ 4 ∷ []; count = 2 }
unfolding sweep_open
loop-numbers = refl

input : Plan loop 0
unfolding inputs
input = priced 1 refl

-- The straight plan: two uses of the input are paid twice.
shortest : Plan loop 1
shortest =
    chosen straight
    (record { visit = visit 1 (round ∷ straight ∷ []); listed = List-Memᴰ-head refl; same = refl; among = List-Memᴰ-tail (List-Memᴰ-head refl) })
    (also input (also input done))

shortest-cost : cost shortest ≡ 3
unfolding cost input shortest
shortest-cost = refl

-- A plan that goes round the loop once, over another one of node 1.
around : Plan loop 1 → Plan loop 1
around p =
    chosen round
    (record { visit = visit 1 (round ∷ straight ∷ []); listed = List-Memᴰ-head refl; same = refl; among = List-Memᴰ-head refl })
    (also
    (chosen back (record { visit = visit 2 (back ∷ []); listed = List-Memᴰ-tail (List-Memᴰ-head refl); same = refl; among = List-Memᴰ-head refl }) (also p done))
    done)

around-cost : cost (around (around shortest)) ≡ 5
unfolding cost input shortest around
around-cost = refl

-- The theorems at this system: its start is one, the run settles within its bound, and the numbers are exact, of all nodes.
at-start : (n : ℕ) → at (1 ∷ never ∷ never ∷ []) n ≡ first (inputs n)
unfolding at first inputs capped
at-start zero = refl
at-start (suc zero) = refl
at-start (suc (suc zero)) = refl
at-start (suc (suc (suc n))) = refl

loop-inside : Inside loop.visits (1 ∷ never ∷ never ∷ [])
loop-inside v (List-Memᴰ-head e) = rw e (omega arith)
loop-inside v (List-Memᴰ-tail (List-Memᴰ-tail i)) = elim i [ ]
loop-inside v (List-Memᴰ-tail (List-Memᴰ-head e)) = rw e (omega arith)

loop-visited : (n : ℕ) → Visited loop.visits n → List-as-Memᴰ n (1 ∷ 2 ∷ [])
loop-visited n v = place v.visit v.same v.listed
  where
    place : (u : Visit) → u.node ≡ n → List-as-Memᴰ u loop.visits → List-as-Memᴰ n (1 ∷ 2 ∷ [])
    place u q (List-Memᴰ-head e) = List-Memᴰ-head (sym q ∙ ap (λ (t : Visit). t.node) e)
    place u q (List-Memᴰ-tail (List-Memᴰ-tail i)) = elim i [ ]
    place u q (List-Memᴰ-tail (List-Memᴰ-head e)) = List-Memᴰ-tail (List-Memᴰ-head (sym q ∙ ap (λ (t : Visit). t.node) e))

loop-start : Start loop (1 ∷ never ∷ never ∷ [])
loop-start = first_start loop (1 ∷ never ∷ never ∷ []) at-start

loop-bounded : Bounded (1 ∷ never ∷ never ∷ [])
loop-bounded n = attained-bound loop n (at (1 ∷ never ∷ never ∷ []) n) (loop-start.attained n)

loop-exact : (n : ℕ) → Exact loop n (at (1 ∷ 3 ∷ 4 ∷ []) n)
loop-exact =
    let s : SettlesWithin lower loop.visits (1 ∷ never ∷ never ∷ []) 3 3 =
    visited-bound loop.visits (1 ∷ 2 ∷ []) (1 ∷ never ∷ never ∷ []) 3 loop-visited loop-bounded loop-inside (omega arith) in
    rw (ap (λ (r : Run). r.numbers) loop-numbers) at
    (run-exact loop (1 ∷ never ∷ never ∷ []) (run lower loop.visits 3 (1 ∷ never ∷ never ∷ [])).numbers
    (run lower loop.visits 3 (1 ∷ never ∷ never ∷ [])).count loop-inside loop-start s.0)

-- ---- over and never: a sum past 999,999,999, and a loop that nothing feeds

past-most : run renew (visit 1 (row 1 (0 ∷ 0 ∷ []) ∷ []) ∷ visit 2 (row 0 (3 ∷ []) ∷ []) ∷ visit 3 (row 0 (2 ∷ []) ∷ []) ∷ []) 4 (500000000 ∷ never ∷ never ∷ never ∷ []) ≡ record { numbers = 500000000 ∷ over ∷ never ∷ never ∷ []; count = 2 }
unfolding sweep_open
past-most = refl

-- ---- marks: of two equal ways the first is remembered, and a later visit that lowers no number marks nothing

abbrev twice : List Visit
twice = visit 1 (row 2 (0 ∷ []) ∷ row 0 (2 ∷ []) ∷ []) ∷ visit 2 (row 0 (0 ∷ []) ∷ row 0 (0 ∷ []) ∷ []) ∷ []

marks-twice : trace_sweeps lower twice 3 (untraced (1 ∷ never ∷ never ∷ []))
    ≡ record {
      numbers = 1 ∷ 1 ∷ 1 ∷ [];
      marks =
          none
          ∷ some (record { way = row 0 (2 ∷ []); place = 1; time = 2 })
          ∷ some (record { way = row 0 (0 ∷ []); place = 0; time = 1 })
          ∷ [];
      time = 6;
    }
unfolding sweep_open trace_open
marks-twice = refl

-- ---- within a budget: the loop again. Node 0 is an input, 1 comes from it twice or from 2, 2 from 1.

budget-none : budgeted loop (0 ∷ 1 ∷ 2 ∷ []) 3 0 ≡ record { numbers = never ∷ never ∷ never ∷ []; steps = 0; last = 0 }
unfolding sweep_open budget_open inputs
budget-none = refl

budget-two : budgeted loop (0 ∷ 1 ∷ 2 ∷ []) 3 2 ≡ record { numbers = 1 ∷ 3 ∷ never ∷ []; steps = 2; last = 3 }
unfolding sweep_open budget_open inputs
budget-two = refl

budget-offer : offer loop (budgeted loop (0 ∷ 1 ∷ 2 ∷ []) 3 2).numbers 2 ≡ 4
unfolding sweep_open budget_open inputs
budget-offer = refl

budget-all : budgeted loop (0 ∷ 1 ∷ 2 ∷ []) 3 9 ≡ record { numbers = 1 ∷ 3 ∷ 4 ∷ []; steps = 3; last = 4 }
unfolding sweep_open budget_open inputs
budget-all = refl
