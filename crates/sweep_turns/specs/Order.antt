-- The visits of a gate over the tables, in order, and of a turn of a sweep. A role is a number, 0 setting and 1 observing, and
-- a kind, 0 combinational and 1 sequential. `proofs/Bridge.antt` of crate `sweep_runs` shows that at the tables of accepted
-- cells and statements these are the visits of crate `calculation`.
use Rattle.std.specs.Prelude.{Bool, List, [], ◌∷◌, ℕ, ◌+◌, ◌*◌, ◌-◌, get_or}
use Rattle.sizes.specs.Sizes as Size
use Rattle.plans.specs.System.{Visit}
use Rattle.plans.specs.Idle.{in_turn}
use Rattle.sweep_groups.specs.Tables.{by_role, gate_pins, visit_count, visit_group, visit_place, group_visit, gate_visit}

-- "visits the gates in netlist order"; "visit gates in reverse order"
abbrev pub gate_of_turn : ℕ → ℕ → ℕ → ℕ
gate_of_turn role gates turn = by_role role turn (gates - 1 - turn)

-- Where the group of visit i stands, of a gate whose cell starts at a place.
abbrev pub turn_group : ℕ → ℕ → ℕ → ℕ → ℕ
turn_group role kind cell i = cell + Size.groups_at + visit_group role kind i * Size.group_words

-- Visit i of a gate, out of what was read of it: where its cell starts, whether its rows are read as those of one wire, its
-- lines and its pins.
abbrev pub read_visit : ℕ → ℕ → List ℕ → ℕ → Bool → List ℕ → ℕ → ℕ → Visit
read_visit role kind library cell wired lines pins i =
    group_visit wired kind lines pins library (turn_group role kind cell i) (visit_place role kind lines i)

module _ (role kind : ℕ) (library netlist : List ℕ) where
  -- "for each the output's 0 before its 1", "pins in order": the first `count` of a gate's visits, and all.
  abbrev pub first_visits : ℕ → ℕ → List Visit
  first_visits g count = in_turn (λ i. gate_visit role kind library netlist g i ∷ []) count

  abbrev pub gate_visits : ℕ → List Visit
  gate_visits g = first_visits g (visit_count role (gate_pins library netlist g))

  -- The visits of a turn.
  abbrev pub turn_visits : ℕ → List Visit
  turn_visits turn = gate_visits (gate_of_turn role (get_or netlist 0 0) turn)
