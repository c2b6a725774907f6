-- Where the effect of more outputs spreads: a line's CO or SO falls only behind one that falls, back from a new output.
use Rattle.common_laws.proofs.Base.{true, List, ◌∷◌, List-as-Memᴰ, cons≢nil, ◌⊎◌, inl, inr, ⊎_elim, ◌≡◌, sym, ◌∙◌, ℕ, ◌+◌, ◌≤◌, ◌<◌, dec_lt, le_refl}
use Rattle.common_laws.proofs.Base.{le_of_eq, arith}
use Rattle.reading.proofs.Laws.{by_test}
use Rattle.cost.specs.Cost.{capped}
use Rattle.plans.specs.Exact.{AttainedBy}
use Rattle.plans.proofs.Laws.{stands-attained, stands-below, stands-least, stands-none-less}
use Rattle.library_table.specs.Cells.{Row, Cell, Column, pin}
use Rattle.library_table.specs.Cells as C
use Rattle.netlist_table.specs.Netlist.{Gate, Statement, gates_of, is_output}
use Rattle.netlist_table.specs.Sound.{InRange}
use Rattle.netlist_table.proofs.Laws.{gate-sound}
use Rattle.calculation.specs.Nodes.{Kind, Purpose, set, observe, node}
use Rattle.calculation.specs.Prices.{Pricing, Figures}
use Rattle.calculation.specs.Ways.{cell_of, asked}
use Rattle.calculation.specs.Acceptance.{BothSound}
use Rattle.calculation.specs.Added.{OutputsAdded}
use Rattle.calculation.specs.LinePlans.{Plan, Plan.input, Plan.row, Plan.output, Plan.through, Plans, Plans.done, Plans.also, cost_at, costs_at, ExactAt}
use Rattle.calculation.specs.Effects.{seen_at, Spread, FallsSpread}
use Rattle.calculation.specs.Effects as E
use Rattle.calculation.proofs.Exactness.{exact, entry-bounded}
use Rattle.calculation.proofs.Parted.{Fine, carry, LastSees, asks-last, Observes, sets}

-- ---- sums by the order of costs

capped-sum : (a b x y : ℕ) → capped a ≤ capped b → capped x ≤ capped y → capped (a + x) ≤ capped (b + y)
unfolding capped
capped-sum a b x y h g = omega arith

module _ (cells : List Cell) (ss ts : List Statement) (old : BothSound cells ss) (more : BothSound cells ts) (added : OutputsAdded ss ts)
    (price : Pricing) (figures : Figures price ss) (k : Kind) where
  others : Figures price ts
  others l e = figures l (sym (added.inputs l) ∙ e)

  before : (m : ℕ) → InRange m → ExactAt price cells ss k (observe m) (seen_at price cells ss k m)
  before m range = exact cells ss old price figures k (observe m) range

  after : (m : ℕ) → InRange m → ExactAt price cells ts k (observe m) (seen_at price cells ts k m)
  after m range = exact cells ts more price others k (observe m) range

  not-above : (m : ℕ) → InRange m → seen_at price cells ts k m ≤ seen_at price cells ss k m
  not-above m range =
      stands-least (λ d. cost_at price d) (λ d. cost_at price d)
      (λ d. let t = carry (Unit {0}) (λ g i. rw added.gates i) (λ l e. added.inputs l ∙ e) (λ z l e. added.outputs l e) d tt in (t.0, le_of_eq (t.1 price)))
      _ _ (before m range) (after m range)

  -- A plan without the new outputs that costs no more, by the order of costs.
  abbrev Cheap : (p : Purpose) → Plan cells ts k p → Type 0
  Cheap p d = (e : Plan cells ss k p) × (capped (cost_at price e) ≤ capped (cost_at price d))

  abbrev CheapAll : (g : Gate) (cs : List Column) → Plans cells ts k g cs → Type 0
  CheapAll g cs ds = (es : Plans cells ss k g cs) × (capped (costs_at price es) ≤ capped (costs_at price ds))

  -- The line of a purpose is one of those found.
  abbrev Found : Purpose → Type 0
  Found (set l v) = ⊥
  Found (observe l) = Spread price cells ss ts k l

  abbrev Falls : ℕ → Type 0
  Falls m = seen_at price cells ts k m < seen_at price cells ss k m

  gate-here : (g : Gate) → List-as-Memᴰ g (gates_of ts) → List-as-Memᴰ g (gates_of ss)
  gate-here g m = rw added.gates at m

  driven : (g : Gate) → List-as-Memᴰ g (gates_of ts) → InRange g.line
  driven g m = (gate-sound cells ts more.netlist g m).line

  -- An output that is observed, old or new.
  at-output : (l : ℕ) (e : is_output l ts ≡ true) → Spread price cells ss ts k l ⊎ Cheap (observe l) (output e)
  unfolding cost_at
  at-output l e = by_test (is_output l ss) (λ t. inr (output t, le_refl _)) (λ t. inl (E.new t e))

  -- A plan that sets a line, before the others of its row.
  set_first : {g : Gate} {c : Column} {cs : List Column} (d : Plan cells ts k (asked g c)) → Fine ⊥ (asked g c) → (ds : Plans cells ts k g cs)
      → CheapAll g cs ds → CheapAll g (c ∷ cs) (also d ds)
  unfolding costs_at
  set_first d f ds t =
      let s = sets added d f in
      (also s.0 t.0, capped-sum (cost_at price s.0) (cost_at price d) (costs_at price t.0) (costs_at price ds) (rw (s.1 price) (le_refl _)) t.1)

  -- The gate's output, observed last: it falls, or one without the new outputs does as well.
  seen_last : (g : Gate) → List-as-Memᴰ g (gates_of ts) → (d : Plan cells ts k (observe g.line))
      → Spread price cells ss ts k g.line ⊎ Cheap (observe g.line) d → (Falls g.line × Spread price cells ss ts k g.line) ⊎ Cheap (observe g.line) d
  seen_last g m d (inr t) = inr t
  seen_last g m d (inl s) = test (dec_lt (seen_at price cells ts k g.line) (seen_at price cells ss k g.line))
    where
      test : Dec (Falls g.line) → (Falls g.line × Spread price cells ss ts k g.line) ⊎ Cheap (observe g.line) d
      test (yes h) = inl (h, s)
      test (no h) =
          let e : seen_at price cells ts k g.line ≡ seen_at price cells ss k g.line = omega (arith, not-above g.line (driven g m)) in
          inr (stands-none-less (λ q. cost_at price q) (λ q. cost_at price q) (seen_at price cells ss k g.line) (rw e at (after g.line (driven g m))) (before g.line (driven g m)) d)

  mutual
    unfolding cost_at asked

    walk : {p : Purpose} (d : Plan cells ts k p) → Observes p → Found p ⊎ Cheap p d
    walk (input h e) o = absurd o
    walk (row g m e r q u ps) o = absurd o
    walk (output {l = l} e) o = at-output l e
    walk (through {l = l} g m i b h e r q ps) o =
        ⊎_elim (λ t. inl (E.behind g (gate-here g m) i b h e t.0 t.1))
        (λ t. inr (through g (gate-here g m) i b h e r q t.0, capped-sum r.depth r.depth (costs_at price t.0) (costs_at price ps) (le_refl _) t.1))
        (walk-all g m ps (asks-last g (cell_of cells g) i r))

    walk-all : (g : Gate) (m : List-as-Memᴰ g (gates_of ts)) {cs : List Column} (ds : Plans cells ts k g cs) → LastSees cs
        → (Falls g.line × Spread price cells ss ts k g.line) ⊎ CheapAll g cs ds
    walk-all g m done h = inr (done, le_refl _)
    walk-all g m (also {c = pin i v} d ds) h = ⊎_elim inl (λ t. inr (set_first d tt ds t)) (walk-all g m ds h)
    walk-all g m (also {c = C.output v} d ds) h = ⊎_elim inl (λ t. inr (set_first d tt ds t)) (walk-all g m ds h)
    walk-all g m (also {c = C.observe} d done) h =
        ⊎_elim inl (λ t. inr (also t.0 done, capped-sum (cost_at price t.0) (cost_at price d) 0 0 t.1 (le_refl _))) (seen_last g m d (walk d tt))
    walk-all g m (also {c = C.observe} d (also e es)) h = absurd (cons≢nil h)

  pub spreads : (m : ℕ) → InRange m → Falls m → Spread price cells ss ts k m
  spreads m range falls = split (stands-attained (λ q. cost_at price q) (seen_at price cells ts k m) (after m range))
    where
      split : AttainedBy (Plan cells ts k (observe m)) (λ q. cost_at price q) (seen_at price cells ts k m) → Spread price cells ss ts k m
      split (inl e) = absurd (omega (arith, falls, entry-bounded cells ss old price figures (node k (observe m))))
      split (inr t) =
          ⊎_elim (λ s. s) (λ c. absurd (omega (arith, falls, t.1, c.1, stands-below (λ q. cost_at price q) (seen_at price cells ss k m) (before m range) c.0))) (walk t.0 tt)

pub falls_spread : FallsSpread
falls_spread cells ss ts old more added price figures k m range falls = spreads cells ss ts old more added price figures k m range falls
