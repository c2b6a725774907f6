-- The visits of a sweep over the tables, in order. A role is a number, 0 setting and 1 observing, and a kind, 0 combinational
-- and 1 sequential. `proofs/Bridge.antt` shows that at the tables of accepted cells and statements these are the visits of
-- crate `calculation`.
use Rattle.std.specs.Prelude.{List, ℕ, get_or}
use Rattle.plans.specs.System.{Visit}
use Rattle.plans.specs.Idle.{in_turn}
use Rattle.sweep_turns.specs.Order.{turn_visits}

module _ (role kind : ℕ) (library netlist : List ℕ) where
  -- The visits of the gates of the first `count` turns.
  abbrev pub first_gates : ℕ → List Visit
  first_gates count = in_turn (λ turn. turn_visits role kind library netlist turn) count

  -- One sweep over all gates.
  abbrev pub sweep_visits : List Visit
  sweep_visits = first_gates (get_or netlist 0 0)
