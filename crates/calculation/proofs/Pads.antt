-- One pad more: CC, SC and their counts are what they were, CO and SO run again come to the new analysis, and none is higher.
-- Document 02, K11.
use Rattle.common_laws.proofs.Base.{true, false, not, ◌&&◌, ◌||◌, and_assoc, List, [], ◌∷◌, ◌++◌, map, map-append, append-nil, append_assoc, ◌≡◌, sym, ◌∙◌, ap, subst, ℕ, ◌≤◌}
use Rattle.common_laws.proofs.Base.{arith, not-true, not-false}
use Rattle.reading.specs.Choice.{pick}
use Rattle.reading.proofs.Laws.{by_test, and_left, and_right, or_left, or_right}
use Rattle.plans.specs.Sweep.{at}
use Rattle.library_table.specs.Cells.{Cell}
use Rattle.netlist_table.specs.Netlist.{Statement, mark, output, mentioned, is_output, undeclared_lines}
use Rattle.netlist_table.proofs.Pad.{pad-gates, pad-inputs, pad-outputs, pad-prices, pad-declared, pad-sound}
use Rattle.calculation.specs.Acceptance.{BothSound}
use Rattle.calculation.specs.Added.{OutputsAdded}
use Rattle.calculation.specs.Nodes.{combinational, sequential, set, node}
use Rattle.calculation.specs.Prices.{Pricing, Figures, prices_of}
use Rattle.calculation.specs.Calculation.{analysed_at, analysed}
use Rattle.calculation.specs.Runs.{observed_anew}
use Rattle.calculation.specs.Pads.{padded, State, statements_of, fresh, unpaddable, takes_none, stale, placeable, placed, Operation, ask, commit, step, steps, AsNew, AllStand, PadsValues}
use Rattle.calculation.proofs.Prices.{own-figures}
use Rattle.calculation.proofs.Outputs.{Setting, outputs-analysed, outputs-lower, outputs-values}

module _ (cells : List Cell) (ss : List Statement) (l : ℕ) (old : BothSound cells ss) (said : mentioned l ss ≡ true) (free : is_output l ss ≡ false) where
  abbrev ts : List Statement
  ts = ss ++ (mark output l ∷ [])

  pub both-sound : BothSound cells ts
  both-sound = record { library = old.library; netlist = pad-sound ss l cells old.netlist said free }

  pub pad-added : OutputsAdded ss ts
  pad-added = record { gates = pad-gates ss l; inputs = pad-inputs ss l; outputs = λ k e. rw (pad-outputs ss l k, e) }

  pub pad-figures : Figures (prices_of ss) ts
  pad-figures = subst (λ (price : Pricing). Figures price ts) (pad-prices ss l) (own-figures both-sound)

  -- What an ask answers with, and a commit makes stand, is the new analysis: a pad changes no price.
  pub anew : observed_anew (prices_of ts) cells ts (analysed cells ss) ≡ analysed cells ts
  anew =
      subst (λ (price : Pricing). observed_anew price cells ts (analysed cells ss) ≡ analysed_at price cells ts) (sym (pad-prices ss l))
      (outputs-analysed cells ss ts old both-sound pad-added (prices_of ss) (own-figures old) pad-figures)

  pub lowers : (n : ℕ) → at (analysed cells ts).numbers n ≤ at (analysed cells ss).numbers n
  lowers n =
      subst (λ (price : Pricing). at (analysed_at price cells ts).numbers n ≤ at (analysed cells ss).numbers n) (sym (pad-prices ss l))
      (outputs-lower cells ss ts old both-sound pad-added (prices_of ss) (own-figures old) pad-figures n)

  -- A pad changes no CC and no SC.
  pub values-kept : (n : ℕ) → Setting n → at (analysed cells ts).numbers n ≡ at (analysed cells ss).numbers n
  values-kept n p =
      subst (λ (price : Pricing). at (analysed_at price cells ts).numbers n ≡ at (analysed cells ss).numbers n) (sym (pad-prices ss l))
      (outputs-values cells ss ts old both-sound pad-added (prices_of ss) (own-figures old) pad-figures n p)

-- ---- every list of asks and commits

pub padded-more : (ss : List Statement) (ls : List ℕ) (l : ℕ) → padded ss (ls ++ (l ∷ [])) ≡ padded ss ls ++ (mark output l ∷ [])
unfolding padded
padded-more ss ls l = rw (map-append (mark output) ls (l ∷ [])) (sym (append_assoc ss (map (mark output) ls) (mark output l ∷ [])))

-- The first pads may be placed, and the others behind them.
pub placeable-append : (ss : List Statement) (ls ks : List ℕ) → placeable ss (ls ++ ks) ≡ (placeable ss ls && placeable (padded ss ls) ks)
unfolding placeable padded
placeable-append ss [] ks = rw append-nil
placeable-append ss (l ∷ ls) ks =
    rw (placeable-append (ss ++ (mark output l ∷ [])) ls ks, append_assoc ss (mark output l ∷ []) (map (mark output) ls))
    (sym (and_assoc (not (takes_none ss l)) (placeable (ss ++ (mark output l ∷ [])) ls) (placeable (ss ++ (mark output l ∷ map (mark output) ls)) ks)))

pub placeable-more : (ss : List Statement) (ls : List ℕ) (l : ℕ) → placeable ss ls ≡ true → takes_none (padded ss ls) l ≡ false → placeable ss (ls ++ (l ∷ [])) ≡ true
placeable-more ss ls l h free = placeable-append ss ls (l ∷ []) ∙ unfold placeable in rw (h, free)

module _ (ss : List Statement) (l : ℕ) (good : takes_none ss l ≡ false) where
  pub taken-said : mentioned l ss ≡ true
  unfolding takes_none
  taken-said = not-false (mentioned l ss) (or_left (not (mentioned l ss)) (is_output l ss) good)

  pub taken_free : is_output l ss ≡ false
  unfolding takes_none
  taken_free = or_right (not (mentioned l ss)) (is_output l ss) good

module _ (s : State) (l : ℕ) (good : unpaddable s l ≡ false) where
  pub said : mentioned l (statements_of s) ≡ true
  said = taken-said (statements_of s) l (unfold unpaddable in good)

  pub free : is_output l (statements_of s) ≡ false
  free = taken_free (statements_of s) l (unfold unpaddable in good)

-- Pads that may be placed leave what was accepted accepted, and no line undeclared that was not.
placed_first : (ss : List Statement) (l : ℕ) (ls : List ℕ) → placeable ss (l ∷ ls) ≡ true → (takes_none ss l ≡ false) × (placeable (ss ++ (mark output l ∷ [])) ls ≡ true)
unfolding placeable
placed_first ss l ls h =
    (not-true (takes_none ss l) (and_left (not (takes_none ss l)) (placeable (ss ++ (mark output l ∷ [])) ls) h), and_right (not (takes_none ss l)) (placeable (ss ++ (mark output l ∷ [])) ls) h)

padded_first : (ss : List Statement) (l : ℕ) (ls : List ℕ) → padded (ss ++ (mark output l ∷ [])) ls ≡ padded ss (l ∷ ls)
unfolding padded
padded_first ss l ls = append_assoc ss (mark output l ∷ []) (map (mark output) ls)

pub placeable-sound : (cells : List Cell) (ss : List Statement) (ls : List ℕ) → BothSound cells ss → placeable ss ls ≡ true → BothSound cells (padded ss ls)
placeable-sound cells ss [] both h = unfold padded in rw append-nil both
placeable-sound cells ss (l ∷ ls) both h =
    let p = placed_first ss l ls h in
    rw (padded_first ss l ls) at (placeable-sound cells (ss ++ (mark output l ∷ [])) ls (both-sound cells ss l both (taken-said ss l p.0) (taken_free ss l p.0)) p.1)

-- Nor do pads one after the other.
values-pads : (cells : List Cell) (ss : List Statement) (ls : List ℕ) → BothSound cells ss → placeable ss ls ≡ true → (n : ℕ) → Setting n
    → at (analysed cells (padded ss ls)).numbers n ≡ at (analysed cells ss).numbers n
values-pads cells ss [] both h n p = unfold padded in rw append-nil
values-pads cells ss (l ∷ ls) both h n p =
    let q = placed_first ss l ls h in
    let said = taken-said ss l q.0 in
    let free = taken_free ss l q.0 in
    (rw (padded_first ss l ls) at (values-pads cells (ss ++ (mark output l ∷ [])) ls (both-sound cells ss l both said free) q.1 n p))
    ∙ values-kept cells ss l both said free n p

pub pads-values : PadsValues
unfolding node
pads-values cells ss pads both h combinational l v b = values-pads cells ss pads both h (node combinational (set l v)) (omega arith)
pads-values cells ss pads both h sequential l v b = values-pads cells ss pads both h (node sequential (set l v)) (omega arith)

pub placeable-declared : (cells : List Cell) (ss : List Statement) (ls : List ℕ) → BothSound cells ss → placeable ss ls ≡ true → undeclared_lines (padded ss ls) ≡ undeclared_lines ss
placeable-declared cells ss [] both h = unfold padded in ap undeclared_lines (append-nil ss)
placeable-declared cells ss (l ∷ ls) both h =
    let p = placed_first ss l ls h in
    let said = taken-said ss l p.0 in
    let free = taken_free ss l p.0 in
    (rw (padded_first ss l ls) at (placeable-declared cells (ss ++ (mark output l ∷ [])) ls (both-sound cells ss l both said free) p.1))
    ∙ pad-declared ss l cells both.netlist said free

module _ (s : State) (stands : AsNew s) (l : ℕ) (good : unpaddable s l ≡ false) where
  abbrev ss : List Statement
  ss = statements_of s

  pub placed-stands : AsNew (placed s l)
  unfolding placed
  placed-stands =
      record {
        sound = rw (padded-more s.statements s.pads l) (both-sound s.cells ss l stands.sound (said s l good) (free s l good));
        analysed =
            rw (padded-more s.statements s.pads l)
            (ap (observed_anew (prices_of (ss ++ (mark output l ∷ []))) s.cells (ss ++ (mark output l ∷ []))) stands.analysed ∙ anew s.cells ss l stands.sound (said s l good) (free s l good));
      }

step-stands : (s : State) → AsNew s → (o : Operation) → AsNew (step s o)
unfolding step pick
step-stands s h (ask l) = h
step-stands s h (commit l n) =
    by_test (unpaddable s l || stale s n) (λ t. rw t h) (λ t. rw t (placed-stands s h l (or_left (unpaddable s l) (stale s n) t)))

steps-stand : (s : State) → AsNew s → (os : List Operation) → AsNew (steps s os)
unfolding steps
steps-stand s h [] = h
steps-stand s h (o ∷ os) = steps-stand (step s o) (step-stands s h o) os

fresh-stands : (cells : List Cell) (ss : List Statement) → BothSound cells ss → AsNew (fresh cells ss)
unfolding fresh padded
fresh-stands cells ss h = record { sound = rw append-nil h; analysed = rw append-nil }

pub all-stand : AllStand
all-stand cells ss h os = steps-stand (fresh cells ss) (fresh-stands cells ss h) os
