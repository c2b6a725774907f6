-- Plans, in document 01's own words ("Plans"), over the cells and the statements as they were read, and what demand 3 says of
-- a number. `proofs/PlansAlike.antt` shows that these plans are those of crate `plans` at the ways and visits of this netlist.
use Rattle.std.specs.Prelude.{true, ◌≡◌, ℕ, ◌+◌, ◌≤◌}
use mathlib.Core.List.{List, [], ◌∷◌, Memᴰ}
use Rattle.plans.specs.Exact.{Stands}
use Rattle.library_table.specs.Cells.{Row, Cell, Column}
use Rattle.netlist_table.specs.Netlist.{Gate, Statement, gates_of, is_input, is_output}
use Rattle.calculation.specs.Nodes.{Kind, Purpose, set, observe}
use Rattle.calculation.specs.Prices.{Pricing, input_cost, prices_of}
use Rattle.calculation.specs.Ways.{cell_of, pin_line, asked, setting, observing, group_of, asks, is_way}

module _ (cells : List Cell) (ss : List Statement) (k : Kind) where
  mutual
    -- "A plan is a finite tree."
    pub data Plan : Purpose → Type 0 where
      -- "An input is set to either value"
      input : {l v : ℕ} → v ≤ 1 → is_input l ss ≡ true → Plan (set l v)
      -- "A gate's output is set to e by choosing a row of group e of its cell and giving one plan for each column that the row
      -- names". Document 02, K7: "a row that needs 0 and 1 of one line is no way at all", and what several pins of one wire ask
      -- for, the row asks for once.
      row : {l e : ℕ} (g : Gate) → Memᴰ g (gates_of ss) → g.line ≡ l → (r : Row)
          → Memᴰ r (group_of k (cell_of cells g) (setting e))
          → is_way g (cell_of cells g) (setting e) r ≡ true
          → Plans g (asks g (cell_of cells g) (setting e) r)
          → Plan (set l e)
      -- "An output line is observed at cost 0."
      output : {l : ℕ} → is_output l ss ≡ true → Plan (observe l)
      -- "Any line is also observed by choosing a gate and a pin that reads the line, a row of that pin's group, a plan for each
      -- value named and an observing plan for the gate's output": the row names "observe the output" too.
      through : {l : ℕ} (g : Gate) → Memᴰ g (gates_of ss)
          → (i : ℕ) → 1 ≤ i → i ≤ (cell_of cells g).pins → pin_line g i ≡ l → (r : Row)
          → Memᴰ r (group_of k (cell_of cells g) (observing i))
          → Plans g (asks g (cell_of cells g) (observing i) r)
          → Plan (observe l)

    -- One plan for each column, at a gate.
    pub data Plans : Gate → List Column → Type 0 where
      done : {g : Gate} → Plans g []
      also : {g : Gate} {c : Column} {cs : List Column} → Plan (asked g c) → Plans g cs → Plans g (c ∷ cs)

-- "its cost is the sum of those plans plus the depth"; "costs and depth add"; "The cost of a plan is the exact sum, without a
-- ceiling.": at whatever prices of the inputs.
unfoldable mutual
  pub cost_at : Pricing → {cells : List Cell} {ss : List Statement} {k : Kind} {p : Purpose} → Plan cells ss k p → ℕ
  cost_at price {k = k} (input {l = l} h e) = input_cost price k l
  cost_at price (row g m e r q u ps) = r.depth + costs_at price ps
  cost_at price (output e) = 0
  cost_at price (through g m i b h e r q ps) = r.depth + costs_at price ps

  pub costs_at : Pricing → {cells : List Cell} {ss : List Statement} {k : Kind} {g : Gate} {cs : List Column} → Plans cells ss k g cs → ℕ
  costs_at price done = 0
  costs_at price (also p ps) = cost_at price p + costs_at price ps

-- At the prices of the netlist.
abbrev pub cost : {cells : List Cell} {ss : List Statement} {k : Kind} {p : Purpose} → Plan cells ss k p → ℕ
cost {ss = ss} q = cost_at (prices_of ss) q

-- Demand 3, of one number x for one purpose, "each against every plan for the same line and the same purpose, in the same
-- terms, combinational or sequential".
abbrev pub ExactAt : Pricing → List Cell → List Statement → Kind → Purpose → ℕ → Type 0
ExactAt price cells ss k p x = Stands (Plan cells ss k p) (λ q. cost_at price q) x

abbrev pub Exact : List Cell → List Statement → Kind → Purpose → ℕ → Type 0
Exact cells ss k p x = ExactAt (prices_of ss) cells ss k p x
