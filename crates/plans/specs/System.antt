-- Plans, as document 01, "Plans", has them, over nodes, ways and prices of any kind.
-- A node is what a plan is for: a line set to a value or a line observed, in combinational or in sequential terms.
-- Nodes are numbers: in the analyser, the places of the numbers table.
use mathlib.Core.List.{List, [], ◌∷◌, Memᴰ}
use Rattle.std.proofs.Math.Option.{Option, some}
use Rattle.std.specs.Prelude.{◌≡◌, ℕ, ◌+◌}

-- A way to have a node, here a row of a group at a gate: its depth, and the nodes that its columns name, each as often as
-- it is named ("A column's plan is counted each time it is named").
pub record Way : Type 0 where
  pub depth : ℕ
  pub needs : List ℕ

-- A node that a sweep renews, with the ways to have it: "a row of group e of its cell", or "a row of that pin's group".
pub record Visit : Type 0 where
  pub node : ℕ
  pub ways : List Way

-- What plans are made from. The price of a node is what it costs without any way: "An input is set to either value at
-- combinational cost 1, sequential cost 0", "An output line is observed at cost 0"; most nodes have none.
pub record System : Type 0 where
  pub price : ℕ → Option ℕ
  pub visits : List Visit

-- `w` is a way to have the node `n`: one of those of a visit to it.
pub record Offers (vs : List Visit) (n : ℕ) (w : Way) : Type 0 where
  pub visit : Visit
  pub listed : Memᴰ visit vs
  pub same : visit.node ≡ n
  pub among : Memᴰ w visit.ways

mutual
  -- "A plan is a finite tree": of a node that has a price, nothing more; else "choosing a row .. and giving one plan for
  -- each column that the row names".
  pub data Plan (S : System) : ℕ → Type 0 where
    priced : {n : ℕ} (c : ℕ) → S.price n ≡ some c → Plan S n
    chosen : {n : ℕ} (w : Way) → Offers S.visits n w → Plans S w.needs → Plan S n

  -- One plan for each node of a list.
  pub data Plans (S : System) : List ℕ → Type 0 where
    done : Plans S []
    also : {n : ℕ} {ns : List ℕ} → Plan S n → Plans S ns → Plans S (n ∷ ns)

-- "its cost is the sum of those plans plus the depth"; "The cost of a plan is the exact sum, without a ceiling."
unfoldable mutual
  pub cost : {S : System} {n : ℕ} → Plan S n → ℕ
  cost (priced c e) = c
  cost (chosen w o ps) = w.depth + costs ps

  pub costs : {S : System} {ns : List ℕ} → Plans S ns → ℕ
  costs done = 0
  costs (also p ps) = cost p + costs ps
