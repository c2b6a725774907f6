-- The order in which gates are levelled does not matter: what passes come to is the same from marks that are ahead of others.
use Rattle.common_laws.proofs.Base.{Bool, true, false, not, List, [], ◌∷◌, List-as-Memᴰ, List-Memᴰ-head, List-Memᴰ-tail, ⊎_elim, ◌≡◌, refl, sym, ap, subst, ◌∙◌, ℕ, zero, suc, ◌+◌}
use Rattle.common_laws.proofs.Base.{◌<◌, dec_lt, arith, length, set, length-replicate, set_out}
use Rattle.sizes.specs.Sizes as Size
use Rattle.reading.specs.Choice.{pick}
use Rattle.reading.proofs.Laws.{by_test, and_right}
use Rattle.netlist_table.specs.Netlist.{Gate}
use Rattle.netlist_table.specs.Gates.{each_of, gate_at, count_held, gates_held}
use Rattle.netlist_table.specs.Lines.{inputs_held, mentions_held}
use Rattle.chip_loops.specs.Marks.{marked, all_marked, mark_each, no_marks, ready, level, pass, passes, most_passes}
use Rattle.chip_loops.specs.Marks.{levelled_lines, without_loops, Ahead, Ahead.none, Ahead.next}
use Rattle.chip_loops.proofs.Marks.{set_cases, all_listed, listed-all, each-size}
use Rattle.chip_loops.proofs.Steps.{level-size}
use Rattle.chip_loops.proofs.Levelled.{level-keeps, pass-levels, ends}

same_test : (a b : Bool) → (a ≡ true → b ≡ true) → (b ≡ true → a ≡ true) → a ≡ b
same_test true b f g = sym (f refl)
same_test false true f g = g refl
same_test false false f g = refl

-- ---- marks that are ahead

each-held : {A : Type 0} (f : ℕ → A) (n first i : ℕ) → i < n → List-as-Memᴰ (f (first + i)) (each_of f n first)
unfolding each_of
each-held f zero first i h = absurd (omega arith)
each-held f (suc n) first zero h = let e : first + 0 ≡ first = omega arith in List-Memᴰ-head (ap f e)
each-held {A} f (suc n) first (suc i) h =
    let e : suc first + i ≡ first + suc i = omega arith in
    List-Memᴰ-tail (subst (λ (k : ℕ). List-as-Memᴰ (f k) (each_of f n (suc first))) e (each-held f n (suc first) i (omega arith)))

-- A gate of the table is levelled, or is not ready.
pub ahead-gate : (table : List ℕ) (i : ℕ) → i < count_held table → {before after : List Bool} → after ≡ level before (gate_at table i)
    → Ahead (gates_held table) before after
unfolding gates_held
ahead-gate table i h {before} e =
    let z : 0 + i ≡ i = omega arith in
    let held = each-held (gate_at table) (count_held table) 0 i h in
    let m = subst (λ (k : ℕ). List-as-Memᴰ (gate_at table k) (gates_held table)) z held in
    subst (λ (ms : List Bool). Ahead (gates_held table) before ms) (sym e) (next (gate_at table i) m none)

module _ (gs : List Gate) where
  pub ahead-both : {a b c : List Bool} → Ahead gs a b → Ahead gs b c → Ahead gs a c
  ahead-both p none = p
  ahead-both p (next g m q) = next g m (ahead-both p q)

  pub ahead-size : {a b : List Bool} → Ahead gs a b → length b ≡ length a
  ahead-size none = refl
  ahead-size (next {marks} g m q) = level-size marks g ∙ ahead-size q

  ahead-keeps : (k : ℕ) {a b : List Bool} → Ahead gs a b → marked a k ≡ true → marked b k ≡ true
  ahead-keeps k none t = t
  ahead-keeps k (next {marks} g m q) t = level-keeps k marks g (ahead-keeps k q t)

  -- ---- passes are such

  pass-ahead : (hs : List Gate) (marks : List Bool) → ((g : Gate) → List-as-Memᴰ g hs → List-as-Memᴰ g gs) → Ahead gs marks (pass hs marks)
  unfolding pass
  pass-ahead [] marks among = none
  pass-ahead (h ∷ hs) marks among =
      ahead-both (next h (among h (List-Memᴰ-head refl)) none)
      (pass-ahead hs (level marks h) (λ g m. among g (List-Memᴰ-tail m)))

  passes-ahead : (n : ℕ) (marks : List Bool) → Ahead gs marks (passes n gs marks)
  unfolding passes
  passes-ahead zero marks = none
  passes-ahead (suc n) marks = ahead-both (pass-ahead gs marks (λ g m. m)) (passes-ahead n (pass gs marks))

  -- ---- marks at which a pass rests have all that is ahead

  module _ (last : List Bool) (rests : pass gs last ≡ last) where
    abbrev Within : List Bool → Type 0
    Within marks = (k : ℕ) → marked marks k ≡ true → marked last k ≡ true

    level-within : (marks : List Bool) (g : Gate) → List-as-Memᴰ g gs → length marks ≡ length last → Within marks → Within (level marks g)
    unfolding level pick ready
    level-within marks g m size within =
        by_test (ready marks g) (λ r. rw r (set-within r (dec_lt g.line (length marks)))) (λ r. rw r within)
      where
        set-within : ready marks g ≡ true → Dec (g.line < length marks) → Within (set marks g.line true)
        set-within r (no n) k t = within k (rw (set_out marks g.line true (omega arith)) at t)
        set-within r (yes h) k t =
            let pins = and_right (not (marked marks g.line)) (all_marked marks g.pins) r in
            let all = listed-all last g.pins (λ l i. within l (all_listed marks g.pins pins l i)) in
            let levelled = pass-levels gs last g m all (rw (← size) h) in
            ⊎_elim
            (λ e. rw e (subst (λ (ms : List Bool). marked ms g.line ≡ true) rests levelled))
            (λ u. within k u)
            (set_cases marks g.line k t)

    ahead_within : {a b : List Bool} → Ahead gs a b → length a ≡ length last → Within a → Within b
    ahead_within none size within = within
    ahead_within (next {marks} g m q) size within =
        level-within marks g m (ahead-size q ∙ size) (ahead_within q size within)

  -- Of two that go ahead from the same marks, one at which a pass rests has the lines of the other.
  rest_has : {start a b : List Bool} → Ahead gs start a → Ahead gs start b → pass gs b ≡ b → (ls : List ℕ) → all_marked a ls ≡ true
      → all_marked b ls ≡ true
  rest_has {start} {a} {b} p q rests ls t =
      listed-all b ls
      (λ l i.
      ahead_within b rests p (sym (ahead-size q)) (λ k u. ahead-keeps k q u) l (all_listed a ls t l i))

  -- ---- so passes come to the same lines

  module _ (first ahead : List Bool) (size : length first ≡ Size.line_places) (goes : Ahead gs first ahead) where
    same_lines : (ls : List ℕ) → all_marked (passes most_passes gs ahead) ls ≡ all_marked (passes most_passes gs first) ls
    same_lines ls =
        let a = ahead-both goes (passes-ahead most_passes ahead) in
        let b = passes-ahead most_passes first in
        same_test _ _
        (rest_has a b (ends gs first size) ls)
        (rest_has b a (ends gs ahead (ahead-size goes ∙ size)) ls)

pub all-levelled : (table : List ℕ) {first ahead last : List Bool} {r : Bool} → first ≡ mark_each no_marks (inputs_held table)
    → Ahead (gates_held table) first ahead → last ≡ passes most_passes (gates_held table) ahead
    → r ≡ all_marked last (mentions_held table) → r ≡ without_loops table
unfolding without_loops levelled_lines
all-levelled table {first} {ahead} e goes f g =
    let size = ap length e ∙ each-size no_marks (inputs_held table) ∙ length-replicate {A = Bool} Size.line_places false in
    g
    ∙ ap (λ (ms : List Bool). all_marked ms (mentions_held table)) f
    ∙ same_lines (gates_held table) first ahead size goes (mentions_held table)
    ∙ ap (λ (ms : List Bool). all_marked (passes most_passes (gates_held table) ms) (mentions_held table)) e
