-- A netlist that was read under some cells, under others: all but the cells of its gates is the same, so that it is refused for
-- these alone.
use Rattle.common_laws.proofs.Base.{Bool, false, not, ◌&&◌, ◌||◌, List, [], ◌∷◌, ◌++◌, map, flat_map, map-append, inl, inr, Option, none, some, ◌≡◌, refl, sym, ◌∙◌, ap, ap₂, ℕ, suc}
use Rattle.common_laws.proofs.Base.{arith}
use Rattle.sizes.specs.Sizes as Size
use Rattle.text.specs.Bytes.{bytes}
use Rattle.text.specs.Lines.{lines, same_bytes}
use Rattle.text.specs.Numeral.{name_form}
use Rattle.reading.specs.Choice.{pick}
use Rattle.reading.specs.Numbers as No
use Rattle.reading.specs.Refusal.{Read, refused, read, ◌>>=◌, ◌>>◌, weigh, form}
use Rattle.reading.proofs.Laws.{by_test, refused-read, same-refusal, bind_read, then-read, weigh-one}
use Rattle.library_table.specs.Cells.{Cell}
use Rattle.library_table.specs.Library.{Fields, cell_named}
use Rattle.netlist_table.specs.declared.Rules.{Rules}
use Rattle.netlist_table.specs.Netlist.{
  Statement,
  mark,
  gate,
  priced,
  input,
  output,
  opened,
  declaring,
  decimals,
  lone,
  mark_of,
  driven_by,
  gate_of,
  range_of,
  statement_of,
  lines_of,
  lines_marked,
  lines_claimed,
  lines_needed,
  lines_ranged,
  marked_lines,
  claimed_lines,
  needed_lines,
  ranged_lines,
  member,
  some_line,
  is_marked,
  is_input,
  claimed,
  has_range,
  any_line_bad,
  any_member,
  driven_before,
  marked_before,
  not_input,
  bounds_bad,
  range_bad,
  causes,
  admit,
  admitted,
  line_form,
  line_forms,
  text_statements,
  undeclared,
  lines_where,
  undeclared_lines,
  declared,
  netlist,
}
use Rattle.netlist_table.specs.Reread.{ForCell}

-- ---- a statement without its cell

unfoldable bare : Statement → Statement
bare (mark m l) = mark m l
bare (gate g) = gate (record { cell = 0; line = g.line; pins = g.pins })
bare (priced r) = priced r

unfoldable bare_form : Option Statement → Option Statement
bare_form none = none
bare_form (some s) = some (bare s)

some_same : (s t : Statement) → ◌≡◌ {A = Option Statement} (some s) (some t) → s ≡ t
some_same s t e = cc

none-some : {A : Type 0} {s : Statement} → ◌≡◌ {A = Option Statement} none (some s) → A
none-some e = let z : ◌≡◌ {A = ℕ} 0 1 = cc in absurd (omega arith)

-- ---- what is said of lines goes by that

module _ (f : Statement → List ℕ) (own : (s : Statement) → f (bare s) ≡ f s) where
  bare-lines : (ss : List Statement) → flat_map f (map bare ss) ≡ flat_map f ss
  unfolding flat_map
  bare-lines [] = refl
  bare-lines (s ∷ ss) = ap₂ (λ (x y : List ℕ). x ++ y) (own s) (bare-lines ss)

  lines-alike : (ss ts : List Statement) → map bare ss ≡ map bare ts → flat_map f ts ≡ flat_map f ss
  lines-alike ss ts e = sym (bare-lines ts) ∙ ap (flat_map f) (sym e) ∙ bare-lines ss

  line-alike : (s t : Statement) → bare s ≡ bare t → f t ≡ f s
  line-alike s t e = sym (own t) ∙ ap f (sym e) ∙ own s

lines-own : (s : Statement) → lines_of (bare s) ≡ lines_of s
unfolding bare lines_of
lines-own (mark m l) = refl
lines-own (gate g) = refl
lines-own (priced r) = refl

marked-own : (s : Statement) → lines_marked output (bare s) ≡ lines_marked output s
unfolding bare lines_marked
marked-own (mark m l) = refl
marked-own (gate g) = refl
marked-own (priced r) = refl

input-own : (s : Statement) → lines_marked input (bare s) ≡ lines_marked input s
unfolding bare lines_marked
input-own (mark m l) = refl
input-own (gate g) = refl
input-own (priced r) = refl

claimed-own : (s : Statement) → lines_claimed (bare s) ≡ lines_claimed s
unfolding bare lines_claimed
claimed-own (mark m l) = refl
claimed-own (gate g) = refl
claimed-own (priced r) = refl

needed-own : (s : Statement) → lines_needed (bare s) ≡ lines_needed s
unfolding bare lines_needed
needed-own (mark m l) = refl
needed-own (gate g) = refl
needed-own (priced r) = refl

ranged-own : (s : Statement) → lines_ranged (bare s) ≡ lines_ranged s
unfolding bare lines_ranged
ranged-own (mark m l) = refl
ranged-own (gate g) = refl
ranged-own (priced r) = refl

-- ---- the causes but 12 and 13

module _ (ss ts : List Statement) (e : map bare ss ≡ map bare ts) where
  inputs-alike : (l : ℕ) → is_input l ts ≡ is_input l ss
  unfolding is_marked marked_lines
  inputs-alike l = ap (member l) (lines-alike (lines_marked input) input-own ss ts e)

  ranges-alike : (l : ℕ) → has_range l ts ≡ has_range l ss
  unfolding has_range ranged_lines
  ranges-alike l = ap (member l) (lines-alike lines_ranged ranged-own ss ts e)

  not-input : (s : Statement) → not_input ts (bare s) ≡ not_input ss s
  unfolding not_input bare
  not-input (mark m l) = refl
  not-input (gate g) = refl
  not-input (priced r) = ap not (inputs-alike r.line)

  range-bad : (s : Statement) → range_bad ts (bare s) ≡ range_bad ss s
  unfolding range_bad bare
  range-bad (mark m l) = refl
  range-bad (gate g) = refl
  range-bad (priced r) = ap (λ (b : Bool). bounds_bad r.low r.high || b) (ranges-alike r.line)

  undeclared-alike : undeclared_lines ts ≡ undeclared_lines ss
  unfolding undeclared_lines undeclared claimed needed_lines claimed_lines
  undeclared-alike =
      ap₂ (λ (needs claims : List ℕ). lines_where (λ l. member l needs && not (member l claims)) Size.lines 1)
      (lines-alike lines_needed needed-own ss ts e)
      (lines-alike lines_claimed claimed-own ss ts e)

own-not-input : (ts : List Statement) (t : Statement) → not_input ts (bare t) ≡ not_input ts t
own-not-input ts t = not-input ts ts refl t

own-range-bad : (ts : List Statement) (t : Statement) → range_bad ts (bare t) ≡ range_bad ts t
own-range-bad ts t = range-bad ts ts refl t

module _ (cells more : List Cell) (line : ℕ) (ss ts : List Statement) (e : map bare ss ≡ map bare ts) (s t : Statement) (a : bare s ≡ bare t) where
  lines-so : any_line_bad (lines_of t) ≡ any_line_bad (lines_of s)
  lines-so = ap any_line_bad (line-alike lines_of lines-own s t a)

  driven-so : driven_before ts t ≡ driven_before ss s
  unfolding driven_before claimed_lines
  driven-so = ap₂ any_member (line-alike lines_claimed claimed-own s t a) (lines-alike lines_claimed claimed-own ss ts e)

  marked-so : marked_before ts t ≡ marked_before ss s
  unfolding marked_before marked_lines
  marked-so = ap₂ any_member (line-alike (lines_marked output) marked-own s t a) (lines-alike (lines_marked output) marked-own ss ts e)

  input-so : not_input ts t ≡ not_input ss s
  input-so = sym (own-not-input ts t) ∙ ap (not_input ts) (sym a) ∙ not-input ss ts e s

  range-so : range_bad ts t ≡ range_bad ss s
  range-so = sym (own-range-bad ts t) ∙ ap (range_bad ts) (sym a) ∙ range-bad ss ts e s

  -- What is admitted under some cells is refused under others by 12 or 13.
  for_cell_lem : weigh line (causes cells ss s) ≡ read tt → (number at : ℕ) → weigh line (causes more ts t) ≡ refused number at → ForCell number
  unfolding causes
  for_cell_lem clean number at r =
      let c11 = weigh-one No.line_bad line (any_line_bad (lines_of s)) _ tt clean in
      let c12 = weigh-one No.cell_unknown line _ _ tt c11.1 in
      let c13 = weigh-one No.pins_differ line _ _ tt c12.1 in
      let c14 = weigh-one No.driven_before line (driven_before ss s) _ tt c13.1 in
      let c15 = weigh-one No.marked_before line (marked_before ss s) _ tt c14.1 in
      let c21 = weigh-one No.not_input line (not_input ss s) _ tt c15.1 in
      let c22 = weigh-one No.range_bad line (range_bad ss s) _ tt c21.1 in
      split _ _ (rw (lines-so ∙ c11.0, driven-so ∙ c14.0, marked-so ∙ c15.0, input-so ∙ c21.0, range-so ∙ c22.0) at r)
    where
      split : (unknown differs : Bool)
          → weigh line ((No.line_bad, false) ∷ (No.cell_unknown, unknown) ∷ (No.pins_differ, differs) ∷ (No.driven_before, false) ∷ (No.marked_before, false) ∷ (No.not_input, false) ∷ (No.range_bad, false) ∷ []) ≡ refused number at
          → ForCell number
      split unknown differs q =
          unfold weigh pick in
          by_test unknown
          (λ u. inl (sym (same-refusal No.cell_unknown line number at (rw u at q)).0))
          (λ u. by_test differs
          (λ d. inr (sym (same-refusal No.pins_differ line number at (rw (u, d) at q)).0))
          (λ d. refused-read (sym (rw (u, d) at q))))

-- ---- lists of statements

-- What comes of statements that were read as `us` under the other cells.
abbrev ByCells : List Statement → Read (List Statement) → Type 0
ByCells us (refused number line) = ForCell number
ByCells us (read vs) = map bare us ≡ map bare vs

heads : (v w : Option Statement) (vs ws : List (Option Statement)) → ◌≡◌ {A = List (Option Statement)} (v ∷ vs) (w ∷ ws) → (v ≡ w) × (vs ≡ ws)
heads v w vs ws e = (cc, cc)

no_more : {A : Type 0} (w : Option Statement) (ws : List (Option Statement)) → ◌≡◌ {A = List (Option Statement)} [] (w ∷ ws) → A
no_more w ws e = let z : ◌≡◌ {A = ℕ} 0 1 = cc in absurd (omega arith)

bare-more : (ss ts : List Statement) (s t : Statement) → map bare ss ≡ map bare ts → bare s ≡ bare t → map bare (ss ++ (s ∷ [])) ≡ map bare (ts ++ (t ∷ []))
bare-more ss ts s t e a =
    map-append bare ss (s ∷ []) ∙ ap₂ (λ (xs : List Statement) (x : Statement). xs ++ (x ∷ [])) e a ∙ sym (map-append bare ts (t ∷ []))

module _ (cells more : List Cell) where
  by_cells : (line : ℕ) (ss ts us : List Statement) (xs ys : List (Option Statement)) → map bare ss ≡ map bare ts → map bare_form xs ≡ map bare_form ys
      → admitted line cells ss xs ≡ read us → ByCells us (admitted line more ts ys)
  unfolding admitted form admit bare_form ◌>>=◌ ◌>>◌
  by_cells line ss ts us [] [] e f r = let z : ss ≡ us = cc in rw (← z) e
  by_cells line ss ts us [] (w ∷ ys) e f r = no_more (bare_form w) (map bare_form ys) f
  by_cells line ss ts us (v ∷ xs) [] e f r = no_more (bare_form v) (map bare_form xs) (sym f)
  by_cells line ss ts us (none ∷ xs) (w ∷ ys) e f r = refused-read r
  by_cells line ss ts us (some s ∷ xs) (none ∷ ys) e f r = none-some (sym (heads _ _ _ _ f).0)
  by_cells line ss ts us (some s ∷ xs) (some t ∷ ys) e f r =
      let a : bare s ≡ bare t = some_same _ _ (heads _ _ _ _ f).0 in
      then-read (weigh line (causes cells ss s)) _ us
      (λ u clean rest.
      go a clean (by_cells (suc line) (ss ++ (s ∷ [])) (ts ++ (t ∷ [])) us xs ys (bare-more ss ts s t e a) (heads _ _ _ _ f).1 rest) (weigh line (causes more ts t)) refl)
      r
    where
      go : bare s ≡ bare t → weigh line (causes cells ss s) ≡ read tt → ByCells us (admitted (suc line) more (ts ++ (t ∷ [])) ys)
          → (o : Read (Unit {0})) → weigh line (causes more ts t) ≡ o → ByCells us (o >> admitted (suc line) more (ts ++ (t ∷ [])) ys)
      go a clean rest (refused number at) q = for_cell_lem cells more line ss ts e s t a clean number at q
      go a clean rest (read u) q = rest

  -- ---- the lines of a text

  gate-bare : (ns : Option (List ℕ)) (b c : ℕ) → bare_form (driven_by b ns) ≡ bare_form (driven_by c ns)
  unfolding driven_by bare_form bare
  gate-bare none b c = refl
  gate-bare (some []) b c = refl
  gate-bare (some (l ∷ ps)) b c = refl

  gates-bare : (fs : Fields) → bare_form (gate_of cells fs) ≡ bare_form (gate_of more fs)
  unfolding gate_of pick
  gates-bare [] = refl
  gates-bare (name ∷ fs) =
      by_test (name_form name) (λ t. rw t (gate-bare (decimals fs) (cell_named name cells) (cell_named name more))) (λ t. rw t)

  statement_bare : (rules : Rules) (fs : Fields) → bare_form (statement_of rules cells fs) ≡ bare_form (statement_of rules more fs)
  unfolding statement_of pick
  statement_bare rules [] = refl
  statement_bare rules (f ∷ fs) =
      by_test (same_bytes f (bytes "input"))
      (λ a. rw a)
      (λ a. by_test (same_bytes f (bytes "output"))
      (λ b. rw (a, b))
      (λ b. by_test (same_bytes f (bytes "gate")) (λ c. rw (a, b, c) (gates-bare fs)) (λ c. rw (a, b, c))))

  forms_bare : (rules : Rules) (ls : List (Option Fields)) → map bare_form (line_forms rules cells ls) ≡ map bare_form (line_forms rules more ls)
  unfolding line_forms line_form
  forms_bare rules [] = refl
  forms_bare rules (none ∷ ls) = ap (λ (ws : List (Option Statement)). bare_form none ∷ ws) (forms_bare rules ls)
  forms_bare rules (some fs ∷ ls) = ap₂ (λ (w : Option Statement) (ws : List (Option Statement)). w ∷ ws) (statement_bare rules fs) (forms_bare rules ls)

  -- 20 is of lines alone.
  declared-still : (rules : Rules) (us vs ss : List Statement) → declared rules us ≡ read ss → map bare us ≡ map bare vs → declared rules vs ≡ read vs
  unfolding declared
  declared-still rules us vs ss r e =
      then-read (weigh 0 ((No.undeclared, declaring rules && some_line (undeclared_lines us)) ∷ [])) _ ss
      (λ u q z.
      let none_open_lem = (weigh-one No.undeclared 0 (declaring rules && some_line (undeclared_lines us)) [] u q).0 in
      rw (undeclared-alike us vs e, none_open_lem) (unfold weigh pick ◌>>◌ in refl)) r

  pub netlist-refuses : (rules : Rules) (text : List ℕ) (ss : List Statement) → netlist rules cells text ≡ read ss → (number line : ℕ)
      → netlist rules more text ≡ refused number line → ForCell number
  unfolding netlist text_statements ◌>>=◌
  netlist-refuses rules text ss r number line q =
      bind_read (admitted 1 cells [] (line_forms rules cells (lines text))) (declared rules) ss
      (λ us eu du.
      by us du (admitted 1 more [] (line_forms rules more (lines text)))
      (by_cells 1 [] [] us (line_forms rules cells (lines text)) (line_forms rules more (lines text)) refl (forms_bare rules (lines text)) eu)
      q)
      r
    where
      by : (us : List Statement) → declared rules us ≡ read ss → (o : Read (List Statement)) → ByCells us o → (o >>= declared rules) ≡ refused number line → ForCell number
      by us du (refused n l) f z = let same : n ≡ number = (same-refusal n l number line z).0 in rw (← same) f
      by us du (read vs) f z = refused-read (sym z ∙ declared-still rules us vs ss du f)
