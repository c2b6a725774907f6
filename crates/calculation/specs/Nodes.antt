-- The numbers table: which number stands where. Document 01, "Report": "The numbers table has six costs for each line 1 to
-- 1,000, lines ascending, costs in the report's order", which is cc0, cc1, sc0, sc1, co, so.
use Rattle.std.specs.Prelude.{ℕ, ◌+◌, ◌*◌}
use Rattle.sizes.specs.Places.{line_place}

-- The two kinds of cost, "combinational" and "sequential".
pub data Kind : Type 0 where
  combinational sequential : Kind

abbrev pub kind_number : Kind → ℕ
kind_number combinational = 0
kind_number sequential = 1

-- What a plan is for: a line set to a value, or a line observed.
pub data Purpose : Type 0 where
  set : (line v : ℕ) → Purpose
  observe : (line : ℕ) → Purpose

abbrev pub line_of : Purpose → ℕ
line_of (set l v) = l
line_of (observe l) = l

-- The index of a purpose's number among the six of its line, from 0.
abbrev pub cost_index : Kind → Purpose → ℕ
cost_index k (set l v) = 2 * kind_number k + v
cost_index k (observe l) = 4 + kind_number k

-- The node of a purpose, in the sense of crate `plans`: the place of its number in the numbers table.
unfoldable pub node : Kind → Purpose → ℕ
node k p = line_place (line_of p) + cost_index k p

-- Opens the page's definitions, where a figure computes with them.
unfoldable pub nodes_open : ℕ
unfolding node
nodes_open = 0
