-- Sweeps, as document 01, "Sweeps", has them, over the numbers as a list: the number of the node n stands at place n.
use Rattle.std.specs.Prelude.{Bool, true, false, ◌&&◌, ◌⊎◌, ◌≡◌, ℕ, zero, suc, ◌≤◌, ◌<◌, eqb, length, get_or, set}
use mathlib.Core.List.{List, [], ◌∷◌, Memᴰ}
use Rattle.reading.specs.Choice.{pick}
use Rattle.cost.specs.Cost.{never, ◌⊕◌, capped, lesser, cost_open}
use Rattle.plans.specs.System.{Way, Visit, Offers}

-- The number of a node; never past the table's end.
unfoldable pub at : List ℕ → ℕ → ℕ
at xs n = get_or xs n never

-- "A row's sum is taken as its lowest named column plus the sum of the rest, the routine calling itself."
unfoldable pub sums : List ℕ → List ℕ → ℕ
sums xs [] = 0
sums xs (n ∷ ns) = at xs n ⊕ sums xs ns

-- The sum of a row: its columns and its depth ("the sum of those plans plus the depth"), of any size.
unfoldable pub way : List ℕ → Way → ℕ
way xs w = capped w.depth ⊕ sums xs w.needs

-- "the least row sum of its group"; never where there is no row.
unfoldable pub least : List ℕ → List Way → ℕ
least xs [] = never
least xs (w ∷ ws) = lesser (way xs w) (least xs ws)

-- What a visit does to the numbers. There are two such rules:
abbrev pub Rule : Type 0
Rule = List ℕ → Visit → List ℕ

-- "each output number becomes the least row sum of its group" (CC and SC)
unfoldable pub renew : Rule
renew xs v = set xs v.node (least xs v.ways)

-- "a line keeps the lesser of its number and the row sums" (CO and SO)
unfoldable pub lower : Rule
lower xs v = set xs v.node (lesser (at xs v.node) (least xs v.ways))

-- "A sweep visits the gates .. using numbers already renewed in this sweep."
unfoldable pub sweep : Rule → List Visit → List ℕ → List ℕ
sweep rule [] xs = xs
sweep rule (v ∷ vs) xs = sweep rule vs (rule xs v)

-- The numbers after k sweeps.
unfoldable pub sweeps : Rule → List Visit → ℕ → List ℕ → List ℕ
sweeps rule vs zero xs = xs
sweeps rule vs (suc k) xs = sweeps rule vs k (sweep rule vs xs)

-- A sweep changes nothing.
abbrev pub Rests : Rule → List Visit → List ℕ → Type 0
Rests rule vs xs = sweep rule vs xs ≡ xs

-- "Sweeps stop after the first that changes nothing; it is counted": from the numbers `xs`, `count` sweeps leave `ys`, all
-- but the last changed something, and the last did not. Count and numbers are settled by the rule, the visits and the start
-- (`settles-once` of proofs/Laws.antt).
pub record Settles (rule : Rule) (vs : List Visit) (xs : List ℕ) (count : ℕ) (ys : List ℕ) : Type 0 where
  pub changes : ℕ
  pub counted : count ≡ suc changes
  pub reached : sweeps rule vs changes xs ≡ ys
  pub rests : Rests rule vs ys
  pub changed : (i : ℕ) → i < changes → Rests rule vs (sweeps rule vs i xs) → ⊥

-- Two tables are the same.
unfoldable pub same : List ℕ → List ℕ → Bool
same [] [] = true
same [] (y ∷ ys) = false
same (x ∷ xs) [] = false
same (x ∷ xs) (y ∷ ys) = eqb x y && same xs ys

pub record Run : Type 0 where
  pub numbers : List ℕ
  pub count : ℕ

-- One sweep more than a run.
unfoldable pub after_one : Run → Run
after_one r = record { numbers = r.numbers; count = suc r.count }

-- The same by computation, of at most `fuel` sweeps. With the fuel that the bounds on sweeps give it never runs dry: its
-- numbers and count are those of `Settles` (`renew-bound`, `visited-bound` and `lead_bound` of proofs/Laws.antt).
unfoldable pub run : Rule → List Visit → ℕ → List ℕ → Run
run rule vs zero xs = record { numbers = xs; count = 0 }
run rule vs (suc fuel) xs =
    let ys : List ℕ = sweep rule vs xs in
    let more : Run = after_one (run rule vs fuel ys) in
    pick (same ys xs) (record { numbers = ys; count = 1 }) more

-- To compute a run of a closed system, say `unfolding sweep_open`.
unfoldable pub sweep_open : ℕ
unfolding cost_open at sums way least renew lower sweep sweeps same after_one run
sweep_open = 0

-- ---- what the theorems ask of the visits and of the numbers at the start

-- Every visited node has a place in the table.
abbrev pub Inside : List Visit → List ℕ → Type 0
Inside vs xs = (v : Visit) → Memᴰ v vs → v.node < length xs

-- No number is above never.
abbrev pub Bounded : List ℕ → Type 0
Bounded xs = (n : ℕ) → at xs n ≤ never

-- The node is visited.
pub record Visited (vs : List Visit) (n : ℕ) : Type 0 where
  pub visit : Visit
  pub listed : Memᴰ visit vs
  pub same : visit.node ≡ n

-- No node has two different visits in a sweep: no line is driven twice.
abbrev pub Once : List Visit → Type 0
Once vs = (u v : Visit) → Memᴰ u vs → Memᴰ v vs → u.node ≡ v.node → u.ways ≡ v.ways

-- Each visited number is at least its own least way sum: so it is where the visited numbers are never, and so it stays.
abbrev pub Above : List Visit → List ℕ → Type 0
Above vs xs = (v : Visit) → Memᴰ v vs → least xs v.ways ≤ at xs v.node

-- The rule is the second, or the first where both come to the same, sweep after sweep (`rules_agree` of proofs/Laws.antt).
pub data Lowering (rule : Rule) (vs : List Visit) (xs : List ℕ) : Type 0 where
  keeps : rule ≡ lower → Lowering rule vs xs
  renews : rule ≡ renew → Once vs → Above vs xs → Lowering rule vs xs

-- The node `o` leads the way `w`: the way needs it, and needs no other node that is visited. Of an observing row it is
-- "observe the output", the observed output of the row's gate.
pub record Lead (vs : List Visit) (w : Way) (o : ℕ) : Type 0 where
  pub among : Memᴰ o w.needs
  pub others : (m : ℕ) → Memᴰ m w.needs → (m ≡ o) ⊎ (Visited vs m → ⊥)

-- Every way has a lead, one of the nodes `outs`.
abbrev pub Leads : List Visit → List ℕ → Type 0
Leads vs outs = (n : ℕ) (w : Way) → Offers vs n w → (o : ℕ) × Memᴰ o outs × Lead vs w o
