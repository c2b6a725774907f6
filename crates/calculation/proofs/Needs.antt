-- Which gates need a number that a visit renews: where lines are set, those that read the number's line; where they are
-- observed, the one that drives it.
use Rattle.common_laws.proofs.Base.{List, List-as-Memᴰ, Memᴰ-of-map, ◌≡◌, sym, ap, ℕ, ◌≤◌}
use Rattle.plans.specs.System.{Way}
use Rattle.plans.specs.Idle.{Needs}
use Rattle.library_table.specs.Cells.{Row, Cell, Column, pin, output}
use Rattle.library_table.specs.Cells as C
use Rattle.netlist_table.specs.Netlist.{Gate, Statement, gates_of}
use Rattle.calculation.specs.Nodes.{Kind, Purpose, set, observe, line_of, node}
use Rattle.calculation.specs.Ways.{cell_of, pin_line, asked, needs, Role, setting, observing, group_of, asks, usable, way_of, ways_of, visit}
use Rattle.calculation.specs.Acceptance.{BothSound}
use Rattle.calculation.proofs.Places.{Placed, node_injective}
use Rattle.calculation.proofs.Visits.{MayName, asks_named}
use Rattle.calculation.proofs.Acceptance.{asked-placed}

-- The line of a purpose that a column asks for.
module _ (k : Kind) (cells : List Cell) (ss : List Statement) (sound : BothSound cells ss) (g : Gate) (listed : List-as-Memᴰ g (gates_of ss)) where
  abbrev cell : Cell
  cell = cell_of cells g

  -- What a visit needs is what a column asks for.
  pub column : (role : Role) (n : ℕ) → Needs (visit k cells g role) n → (c : Column) × MayName cell.pins role c × (node k (asked g c) ≡ n)
  unfolding visit ways_of way_of needs
  column role n d =
      let r : (r : Row) × List-as-Memᴰ r (usable g cell role (group_of k cell role)) × (way_of k g cell role r ≡ d.way) =
      Memᴰ-of-map (way_of k g cell role) (usable g cell role (group_of k cell role)) d.listed in
      let e : d.way.needs ≡ needs k g (asks g cell role r.0) = ap (λ (w : Way). w.needs) (sym r.2) in
      let c : (c : Column) × List-as-Memᴰ c (asks g cell role r.0) × (node k (asked g c) ≡ n) =
      Memᴰ-of-map (λ (c : Column). node k (asked g c)) (asks g cell role r.0) (rw e at d.among) in
      (c.0, asks_named g cell role r.0 c.0 c.1, c.2)

  same : (role : Role) (c : Column) → MayName cell.pins role c → (p : Purpose) → Placed p → node k (asked g c) ≡ node k p → asked g c ≡ p
  same role c may p placed e = (node_injective k k (asked g c) p (asked-placed sound g listed role c may) placed e).1

  pub setting-reads : (e l v : ℕ) → Placed (set l v) → Needs (visit k cells g (setting e)) (node k (set l v))
      → (i : ℕ) × (1 ≤ i) × (i ≤ cell.pins) × (pin_line g i ≡ l)
  unfolding asked
  setting-reads e l v placed d =
      let t = column (setting e) (node k (set l v)) d in
      go t.0 t.1 (same (setting e) t.0 t.1 (set l v) placed t.2)
    where
      go : (c : Column) → MayName cell.pins (setting e) c → asked g c ≡ set l v → (i : ℕ) × (1 ≤ i) × (i ≤ cell.pins) × (pin_line g i ≡ l)
      go (pin i w) may q = (i, may.0, may.1, ap line_of q)
      go (output w) may q = absurd may
      go C.observe may q = absurd may

  pub observing-drives : (i l : ℕ) → Placed (observe l) → Needs (visit k cells g (observing i)) (node k (observe l)) → g.line ≡ l
  unfolding asked
  observing-drives i l placed d =
      let t = column (observing i) (node k (observe l)) d in
      go t.0 t.1 (same (observing i) t.0 t.1 (observe l) placed t.2)
    where
      go : (c : Column) → MayName cell.pins (observing i) c → asked g c ≡ observe l → g.line ≡ l
      go (pin j w) may q = cc
      go (output w) may q = cc
      go C.observe may q = ap line_of q
