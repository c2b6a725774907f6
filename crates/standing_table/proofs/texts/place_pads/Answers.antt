-- `place_pads` marks one pad after the other.
use Rattle.common_laws.proofs.Base.{Bool, true, List, ◌≡◌, refl, sym, subst, ◌∙◌, ℕ, ◌+◌, add-one, arith, get_or, take, drop, length-drop, get_or-drop}
use Rattle.sizes.specs.Sizes as Size
use Rattle.library_table.specs.Cells.{Cell}
use Rattle.netlist_table.specs.Netlist.{Statement}
use Rattle.calculation.specs.Pads.{padded}
use Rattle.standing_table.specs.Parts.{PadTried, PadsTried}
use Rattle.standing_table.proofs.Pads.{tried-none, tried-next, tried-stopped}
use Rattle.standing_table.proofs.texts.place_pads.Goals as goal

-- The pad of the turn.
module _ (lib table net' : List ℕ) (cells : List Cell) (ss : List Statement) (i : ℕ) where
  abbrev Tried : ℕ → Bool → Type 0
  Tried l b = PadTried lib cells (padded ss (take i (drop Size.pads_at table))) l net' b

  tried : (l : ℕ) (a b : Bool) → l ≡ get_or table (Size.pads_at + i) 0 → a ≡ b → Tried l a → Tried (get_or (drop Size.pads_at table) i 0) b
  tried l a b e f h = subst (λ (k : ℕ). Tried k b) (e ∙ sym (get_or-drop Size.pads_at table i 0)) (subst (Tried l) f h)

pub returns-then-not-place : goal.returns-then-not-place
returns-then-not-place c cells ss h =
    let a = c.args in
    let l = c.loop-i in
    tried-stopped a.library.now cells ss (drop Size.pads_at a.standing.now) l.i (omega (arith, length-drop Size.pads_at a.standing.now, c.requires.1, c.requires.0, c.loop-i-test.true)) l.netlist _
    (l.invariant cells ss h) a.count c.loop-i-test.true (omega (arith, length-drop Size.pads_at a.standing.now, c.requires.1, c.requires.0))
    (tried a.library.now a.standing.now c.place.new.netlist cells ss l.i c.word.result _ _ c.word.ensures c.if-not-place.true
    (c.place.ensures cells (padded ss (take l.i (drop Size.pads_at a.standing.now))) ((l.invariant cells ss h).holds refl)))

pub loop-i-preserved : goal.loop-i-preserved
loop-i-preserved c cells ss h =
    let a = c.args in
    let l = c.loop-i in
    rw (add-one l.i)
    (tried-next a.library.now cells ss (drop Size.pads_at a.standing.now) l.i (omega (arith, length-drop Size.pads_at a.standing.now, c.requires.1, c.requires.0, c.loop-i-test.true)) l.netlist _
    (l.invariant cells ss h) (tried a.library.now a.standing.now c.place.new.netlist cells ss l.i c.word.result _ _ c.word.ensures c.if-not-place.false
    (c.place.ensures cells (padded ss (take l.i (drop Size.pads_at a.standing.now))) ((l.invariant cells ss h).holds refl))))

pub returns : goal.returns
returns c cells ss h =
    let l = c.loop-i in
    let e : l.i ≡ c.args.count = omega arith in
    subst (λ (n : ℕ). PadsTried c.args.library.now cells ss (take n (drop Size.pads_at c.args.standing.now)) l.netlist true) e (l.invariant cells ss h)

pub loop-i-init : goal.loop-i-init
loop-i-init c cells ss h = tried-none c.args.library.now cells ss c.args.netlist.now h
