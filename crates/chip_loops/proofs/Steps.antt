-- One step of each loop: what is left of the lines, pins or gates is the next and what is left behind it.
use Rattle.common_laws.proofs.Base.{Bool, true, false, not, ◌&&◌, ◌||◌, List, [], ◌∷◌, ◌++◌, flat_map, ◌≡◌, refl, sym, ap, ◌∙◌, ℕ, zero, suc, ◌+◌, ◌-◌, ◌≤◌, ◌<◌, add-one, arith, eqb, ltb}
use Rattle.common_laws.proofs.Base.{leb, length, set, length-set, ne_eqb, ltb-true, leb-true}
use Rattle.std.specs.Prelude.{Option, Some, None, is_none, map}
use Rattle.std.specs.List.{list_all, range_with_len, find}
use Rattle.std.specs.Option.{option_map}
use Rattle.sizes.specs.Sizes as Size
use Rattle.reading.specs.Choice.{pick}
use Rattle.reading.proofs.Laws.{by_test, clash, and_left, and_right, or_left, or_right}
use Rattle.netlist_table.specs.Netlist.{Gate, lines_where}
use Rattle.netlist_table.specs.Gates.{gate_line, each_of, present, pin_lines, gate_at}
use Rattle.netlist_table.proofs.HeldGates.{each_next}
use Rattle.chip_loops.specs.Marks.{marked, all_marked, mark_each, ready, level, pass, passes, Passed, once_each, pins_of, Noted}

-- ---- what is left

module _ (p : ℕ → Bool) (n l : ℕ) where
  where_next : l < n
      → lines_where p (n - l) l ≡ pick (p l) (l ∷ lines_where p (n - (l + 1)) (l + 1)) (lines_where p (n - (l + 1)) (l + 1))
  unfolding lines_where
  where_next h =
      let e : n - l ≡ suc (n - (l + 1)) = omega arith in
      let s : l + 1 ≡ suc l = omega arith in
      rw (e, s)

  pub where-end : n ≤ l → lines_where p (n - l) l ≡ []
  unfolding lines_where
  where-end h = let e : n - l ≡ 0 = omega arith in rw e

-- ---- marks

module _ (before : List Bool) (l : ℕ) {w x : ℕ} (e : w ≡ x) where
  pub input-marked : {after : List Bool} → w ≡ 1 → after ≡ set before l true → after ≡ pick (eqb x 1) (set before l true) before
  unfolding pick
  input-marked t h = rw (← e, t) h

  pub input_none : (w ≡ 1 → ⊥) → before ≡ pick (eqb x 1) (set before l true) before
  unfolding pick
  input_none n = rw (← e, ne_eqb w 1 n)

module _ (marks : List Bool) where
  pub mark-next : (p : ℕ → Bool) (n l : ℕ) → l < n → {after : List Bool} → after ≡ pick (p l) (set marks l true) marks
      → mark_each after (lines_where p (n - (l + 1)) (l + 1)) ≡ mark_each marks (lines_where p (n - l) l)
  unfolding mark_each pick
  mark-next p n l h e = rw (e, where_next p n l h) (by_test (p l) (λ t. rw t) (λ t. rw t))

  -- What is asked of the lines from one on.
  pub mentions-all : (p : ℕ → Bool) (first n : ℕ) → list_all (λ (l : ℕ). not (p l) || marked marks l) (range_with_len first n) ≡ all_marked marks (lines_where p n first)
  unfolding all_marked lines_where pick
  mentions-all p first zero = refl
  mentions-all p first (suc n) = by_test (p first) (λ t. rw (t, add-one first, mentions-all p (suc first) n) refl) (λ t. rw (t, add-one first, mentions-all p (suc first) n) refl)

  -- What is looked for among the pins from one on.
  find-unmarked : (f : ℕ → ℕ) (first n : ℕ) → is_none (find (λ (line : ℕ). not (eqb line 0) && not (marked marks line)) (map f (range_with_len first n))) ≡ all_marked marks (present (each_of f n first))
  unfolding all_marked present each_of pick
  find-unmarked f first zero = refl
  find-unmarked f first (suc n) =
      by_test (eqb (f first) 0)
      (λ z. rw (z, add-one first) (find-unmarked f (suc first) n))
      (λ z. by_test (marked marks (f first)) (λ m. rw (z, m, add-one first) (find-unmarked f (suc first) n)) (λ m. rw (z, m) refl))

  same_none : (r : Option ℕ) → is_none (option_map (λ (x : ℕ). x) r) ≡ is_none r
  same_none None = refl
  same_none (Some x) = refl

  pub pins-found : (f : ℕ → ℕ) (first n : ℕ) (r : Option ℕ)
      → option_map (λ (x : ℕ). x) r ≡ find (λ (line : ℕ). not (eqb line 0) && not (marked marks line)) (map f (range_with_len first n))
      → is_none r ≡ all_marked marks (present (each_of f n first))
  pins-found f first n r e = sym (same_none r) ∙ ap is_none e ∙ find-unmarked f first n

-- ---- gates

module _ (before : List Bool) (table : List ℕ) (g : ℕ) {line : ℕ} {r : Bool} (at : line ≡ gate_line table g 0) (e : r ≡ marked before line) where
  abbrev Levels : List Bool → Bool → Type 0
  Levels after is = (is ≡ ready before (gate_at table g)) × (after ≡ level before (gate_at table g))

  pub levelled-before : r ≡ true → Levels before false
  unfolding ready level gate_at pick
  levelled-before t = let m : marked before (gate_line table g 0) ≡ true = rw (← at) (sym e ∙ t) in (rw m, rw m)

  module _ {pins : Bool} (f : pins ≡ all_marked before (pin_lines table g)) (t : r ≡ false) where
    pub not-ready : not pins ≡ true → Levels before false
    unfolding ready level gate_at pick
    not-ready n =
        let m : marked before (gate_line table g 0) ≡ false = rw (← at) (sym e ∙ t) in
        let q : all_marked before (pin_lines table g) ≡ false = by_test pins (λ u. clash (not pins) n (rw u)) (λ u. sym f ∙ u) in
        (rw (m, q), rw (m, q))

    pub levels : {after : List Bool} → not pins ≡ false → after ≡ set before line true → Levels after true
    unfolding ready level gate_at pick
    levels n a =
        let m : marked before (gate_line table g 0) ≡ false = rw (← at) (sym e ∙ t) in
        let q : all_marked before (pin_lines table g) ≡ true = by_test pins (λ u. sym f ∙ u) (λ u. clash (not pins) (rw u) n) in
        (rw (m, q), rw (m, q, ← at) a)

pub pass-next : (f : ℕ → Gate) (n i : ℕ) (marks : List Bool) → i < n → {after : List Bool} → after ≡ level marks (f i)
    → pass (each_of f (n - (i + 1)) (i + 1)) after ≡ pass (each_of f (n - i) i) marks
unfolding pass
pass-next f n i marks h e = rw (e, each_next f n i h)

pub level-size : (marks : List Bool) (g : Gate) → length (level marks g) ≡ length marks
unfolding level pick
level-size marks g = by_test (ready marks g) (λ t. rw t (simp length-set)) (λ t. rw t)

pub pass-size : (gs : List Gate) (marks : List Bool) → length (pass gs marks) ≡ length marks
unfolding pass
pass-size [] marks = refl
pass-size (g ∷ gs) marks = pass-size gs (level marks g) ∙ level-size marks g

pub passes-size : (n : ℕ) (gs : List Gate) (marks : List Bool) → length (passes n gs marks) ≡ length marks
unfolding passes
passes-size zero gs marks = refl
passes-size (suc n) gs marks = passes-size n gs (pass gs marks) ∙ pass-size gs marks

pub level-same : (marks : List Bool) (g : Gate) → ready marks g ≡ false → level marks g ≡ marks
unfolding level pick
level-same marks g t = rw t

-- A pass levels nothing after those before it, and it is said so.
pub unchanged : (g : Gate) {start before after : List Bool} {r changed : Bool} → (changed ≡ false → before ≡ start)
    → r ≡ ready before g → after ≡ level before g → (changed || r) ≡ false → after ≡ start
unchanged g {start} {before} {after} {r} {changed} same e s n =
    s ∙ level-same before g (sym e ∙ or_right changed r n) ∙ same (or_left changed r n)

-- Where a pass levels nothing no further one does.
pub passes-rest : (gs : List Gate) (marks : List Bool) (n : ℕ) → pass gs marks ≡ marks → passes n gs marks ≡ marks
unfolding passes
passes-rest gs marks zero e = refl
passes-rest gs marks (suc n) e = rw e (passes-rest gs marks n e)

module _ {gs : List Gate} {before after : List Bool} {changed : Bool} (passed : Passed gs before after changed) where
  pub passes-end : (n : ℕ) → not changed ≡ true → after ≡ passes n gs before
  passes-end n t =
      let still : changed ≡ false = by_test changed (λ u. clash (not changed) t (rw u)) (λ u. u) in
      let same = passed.same still in
      same ∙ sym (passes-rest gs before n (sym passed.leaves ∙ same))

  pub passes-next : (n : ℕ) → 0 < n → passes (n - 1) gs after ≡ passes n gs before
  unfolding passes
  passes-next zero h = absurd (omega arith)
  passes-next (suc n) h = let e : suc n - 1 ≡ n = omega arith in rw (e, passed.leaves)

-- ---- lines that stand once

module _ {before after : List Bool} (line : ℕ) where
  pub note_none : line ≡ 0 → after ≡ before → Noted (present (line ∷ [])) before after true
  unfolding present pick once_each mark_each
  note_none z e = rw z (record { answers = refl; leaves = λ _. e; size = ap length e })

  pub note_again : (line ≡ 0 → ⊥) → marked before line ≡ true → after ≡ before → Noted (present (line ∷ [])) before after false
  unfolding present pick once_each
  note_again z t e = rw (ne_eqb line 0 z) (record { answers = rw t; leaves = λ h. clash false h refl; size = ap length e })

  pub note_new : (line ≡ 0 → ⊥) → marked before line ≡ false → after ≡ set before line true
      → Noted (present (line ∷ [])) before after true
  unfolding present pick once_each mark_each
  note_new z t e = rw (ne_eqb line 0 z) (record { answers = rw t; leaves = λ _. e; size = ap length e ∙ simp length-set })

mark-both : (marks : List Bool) (xs ys : List ℕ) → mark_each marks (xs ++ ys) ≡ mark_each (mark_each marks xs) ys
unfolding mark_each
mark-both marks [] ys = refl
mark-both marks (x ∷ xs) ys = mark-both (set marks x true) xs ys

once-both : (marks : List Bool) (xs ys : List ℕ) → once_each marks (xs ++ ys) ≡ (once_each marks xs && once_each (mark_each marks xs) ys)
unfolding mark_each once_each
once-both marks [] ys = refl
once-both marks (x ∷ xs) ys = by_test (marked marks x) (λ t. rw t) (λ t. rw t (once-both (set marks x true) xs ys))

module _ {xs : List ℕ} {before after : List Bool} {once : Bool} (noted : Noted xs before after once) (ys : List ℕ) where
  once-goes : not once ≡ false → once_each before (xs ++ ys) ≡ once_each after ys
  once-goes n =
      by_test once
      (λ t. once-both before xs ys ∙ rw (← noted.answers, t, ← noted.leaves t))
      (λ t. clash (not once) (rw t) n)

  marks-go : not once ≡ false → mark_each before (xs ++ ys) ≡ mark_each after ys
  marks-go n = by_test once (λ t. mark-both before xs ys ∙ rw (← noted.leaves t)) (λ t. clash (not once) (rw t) n)

  once-stops : not once ≡ true → once_each before (xs ++ ys) ≡ false
  once-stops n =
      by_test once
      (λ t. clash (not once) n (rw t))
      (λ t. once-both before xs ys ∙ rw (← noted.answers, t))

module _ (f : ℕ → ℕ) (n i : ℕ) (h : i < n) {line : ℕ} (at : line ≡ f i) {before after : List Bool} {once : Bool}
    (noted : Noted (present (line ∷ [])) before after once) where
  abbrev left : List ℕ
  left = present (each_of f (n - (i + 1)) (i + 1))

  split : present (each_of f (n - i) i) ≡ present (line ∷ []) ++ left
  unfolding present pick
  split = rw (each_next f n i h, at) (by_test (eqb (f i) 0) (λ t. rw t) (λ t. rw t))

  pub pins-go : not once ≡ false
      → (once_each after left ≡ once_each before (present (each_of f (n - i) i)))
      × (mark_each after left ≡ mark_each before (present (each_of f (n - i) i)))
  pins-go t = (rw split (sym (once-goes noted left t)), rw split (sym (marks-go noted left t)))

  pub pins_stop : not once ≡ true → once_each before (present (each_of f (n - i) i)) ≡ false
  pins_stop t = rw split (once-stops noted left t)

module _ (table : List ℕ) (n i : ℕ) (h : i < n) {before after : List Bool} {once : Bool}
    (noted : Noted (pin_lines table i) before after once) where
  split_gates : pins_of (each_of (gate_at table) (n - i) i) ≡ pin_lines table i ++ pins_of (each_of (gate_at table) (n - (i + 1)) (i + 1))
  unfolding flat_map gate_at
  split_gates = rw (each_next (gate_at table) n i h)

  pub gates-go : not once ≡ false
      → once_each after (pins_of (each_of (gate_at table) (n - (i + 1)) (i + 1)))
      ≡ once_each before (pins_of (each_of (gate_at table) (n - i) i))
  gates-go t = rw split_gates (sym (once-goes noted _ t))

  pub gates_stop : not once ≡ true → once_each before (pins_of (each_of (gate_at table) (n - i) i)) ≡ false
  gates_stop t = rw split_gates (once-stops noted _ t)

-- ---- gates that wait

-- What the test of the walk from gate to gate says.
pub one_more_lem : (top left : ℕ) → ((ltb 0 top && leb top Size.gates) && ltb 0 left) ≡ true
    → (0 < top) × (top ≤ Size.gates) × (0 < left)
one_more_lem top left t =
    let both = and_left (ltb 0 top && leb top Size.gates) (ltb 0 left) t in (
      ltb-true 0 top (and_left (ltb 0 top) (leb top Size.gates) both),
      leb-true top Size.gates (and_right (ltb 0 top) (leb top Size.gates) both),
      ltb-true 0 left (and_right (ltb 0 top && leb top Size.gates) (ltb 0 left) t),
    )
