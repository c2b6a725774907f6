-- One step: what the front of the queue, the store, the readers and the fresh offers come to.
use Rattle.common_laws.proofs.Base.{List, ◌≡◌, refl, ap, ◌∙◌, ℕ, suc, ◌+◌, ◌/◌, ◌<◌, length, set, length-set}
use Rattle.std.proofs.Common.{Some, None}
use Rattle.sizes.specs.Sizes as Size
use Rattle.sizes.specs.Places.{leaf_place}
use Rattle.cost.specs.Cost.{never}
use Rattle.plans.specs.Budget.{bid, Budgeted, fix, step}
use Rattle.plans.proofs.Laws.{step_first, step-none}
use Rattle.library_table.specs.Cells.{Cell}
use Rattle.netlist_table.specs.Netlist.{Statement}
use Rattle.calculation.specs.Systems.{system}
use Rattle.calculation.specs.Budget.{values}
use Rattle.calculation.specs.Stored.{Holds}
use Rattle.calculation.proofs.Budget.{ascending}
use Rattle.budget_queue.specs.Queue.{cost_at, Put, NoCost, Front}
use Rattle.budget_run.specs.Steps.{GateBids, Stale, Fresh, Reads}
use Rattle.budget_run.specs.Queued.{leaf_bid, Matches, Stepped}
use Rattle.budget_run.proofs.Bids.{gate-bids, stale-after, front-none, front-bid, front_first}

module _ {library netlist : List ℕ} {cells : List Cell} {ss : List Statement} (h : Holds library netlist cells ss) where
  pub held-bids : (xs : List ℕ) → GateBids library netlist xs (leaf_bid cells ss xs)
  held-bids xs = rw (h.cells_stand, h.statements_stand) (gate-bids cells ss h.sound h.behind h.past xs)

  held-stale : (xs q p : List ℕ) (j c : ℕ) → j < Size.leaves → c < never → length xs ≡ Size.numbers → ((i : ℕ) → i < Size.leaves → cost_at q i ≡ leaf_bid cells ss xs i)
      → Put j never q p → Stale netlist (Reads netlist (j / Size.values + 1)) p (leaf_bid cells ss (set xs (leaf_place j) c))
  held-stale xs q p j c inside below size bids put =
      rw h.statements_stand (stale-after cells ss h.sound h.behind h.past xs q p j c inside below size bids put)

  module _ {xs q : List ℕ} (m : Matches cells ss xs q) where
    -- Nothing is on offer.
    pub stepped_none : NoCost q → Stepped cells ss xs None xs q
    stepped_none none = record { matches = m; numbers = λ s e. ap (λ (t : Budgeted). t.numbers) (idle s e) ∙ e; made = idle }
      where
        idle : (s : Budgeted) → s.numbers ≡ xs → step (system cells ss) values s ≡ s
        idle s e = step-none (system cells ss) values s (λ n i. rw e (front-none cells ss xs q m.bids none n i))

    -- The cheapest is fixed.
    pub stepped_fix : {leaf cost : ℕ} → Front q leaf cost → {p q' : List ℕ} → Put leaf never q p
        → Fresh library netlist (set xs (leaf_place leaf) cost) (Reads netlist (leaf / Size.values + 1)) p q'
        → Stepped cells ss xs (Some cost) (set xs (leaf_place leaf) cost) q'
    stepped_fix {leaf} {cost} front {p} {q'} put fresh =
        record {
          matches =
              record {
                bids = fresh.fresh (leaf_bid cells ss ys) (held-bids ys) (held-stale xs q p leaf cost front.inside front.bounded m.size m.bids put);
                size = length-set xs (leaf_place leaf) cost ∙ m.size;
              };
          numbers = λ s e. ap (λ (t : Budgeted). t.numbers) (made s e) ∙ numbers-are s e;
          made = λ s e. (ap (λ (t : Budgeted). t.steps) (made s e) ∙ steps-are s, ap (λ (t : Budgeted). t.last) (made s e) ∙ last_is_lem s e);
        }
      where
        ys : List ℕ
        ys = set xs (leaf_place leaf) cost

        is_bid : (s : Budgeted) → s.numbers ≡ xs → bid (system cells ss) s.numbers (leaf_place leaf) ≡ cost
        is_bid s e = rw e (front-bid cells ss xs q m.bids leaf cost front)

        made : (s : Budgeted) → s.numbers ≡ xs → step (system cells ss) values s ≡ fix s (record { node = leaf_place leaf; cost = bid (system cells ss) s.numbers (leaf_place leaf) })
        made s e =
            step_first (system cells ss) values s ascending (leaf_place leaf) (rw e (front_first cells ss xs q m.bids leaf cost front))
            (rw (is_bid s e) front.bounded)

        numbers-are : (s : Budgeted) → s.numbers ≡ xs → (fix s (record { node = leaf_place leaf; cost = bid (system cells ss) s.numbers (leaf_place leaf) })).numbers ≡ set xs (leaf_place leaf) cost
        numbers-are s e = unfold fix in rw (is_bid s e, e)

        steps-are : (s : Budgeted) → (fix s (record { node = leaf_place leaf; cost = bid (system cells ss) s.numbers (leaf_place leaf) })).steps ≡ suc s.steps
        steps-are s = unfold fix in refl

        last_is_lem : (s : Budgeted) → s.numbers ≡ xs → (fix s (record { node = leaf_place leaf; cost = bid (system cells ss) s.numbers (leaf_place leaf) })).last ≡ cost
        last_is_lem s e = unfold fix in is_bid s e
