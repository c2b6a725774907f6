-- Turns of a sweep that are passed over: not awake, and idle. `specs/Wakes.antt` of crate `sweep_turns` says what wakes a turn.
use Rattle.std.specs.Prelude.{List, ◌≡◌, ℕ, length, get_or}
use Rattle.sizes.specs.Sizes as Size
use Rattle.plans.specs.Sweep.{lower}
use Rattle.plans.specs.Idle.{Watched}
use Rattle.sweep_turns.specs.Order.{turn_visits}
use Rattle.sweep_turns.specs.Wakes.{Asleep}

module _ (role kind : ℕ) (library netlist : List ℕ) where
  -- What a sweep that goes from one awake turn to the next asks, and keeps: turns that are asleep are idle at these numbers.
  pub record Resting (awake xs : List ℕ) : Type 0 where
    pub size : length awake ≡ Size.awake_words
    pub watched : Watched lower (turn_visits role kind library netlist) (get_or netlist 0 0) (Asleep awake) xs
