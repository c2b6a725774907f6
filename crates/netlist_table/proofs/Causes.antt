-- Why a statement is refused, as the tests of the code have it, and what the statements behind one more say.
use Rattle.common_laws.proofs.Base.{Bool, true, false, not, ◌||◌, or-false, or-true, or_assoc, List, [], ◌∷◌, ◌++◌, append-nil, flat_map, ◌⊎◌, ⊎_elim, ◌≡◌, refl, sym, ap, ◌∙◌, ℕ}
use Rattle.common_laws.proofs.Base.{zero, suc, ◌+◌, ◌*◌, ◌≤◌, ◌<◌, not-suc-le-zero, le_of_suc-le-suc, rules, arith, le-leb, lt-leb, leb-true, leb-false, ltb-false, ne_eqb, leb}
use Rattle.common_laws.proofs.Base.{ltb, eqb, length, get_or}
use Rattle.common_laws.proofs.Lists.{flatMap_append}
use Rattle.sizes.specs.Sizes as Size
use Rattle.reading.specs.Choice.{pick}
use Rattle.reading.specs.Each.{Each}
use Rattle.reading.specs.Numbers as No
use Rattle.reading.proofs.Laws.{by_test, clash, or_left, or_right, or_cases}
use Rattle.library_table.specs.Cells.{Cell}
use Rattle.netlist_table.specs.Lowest.{lowest}
use Rattle.netlist_table.specs.Netlist.{Gate, Mark, input, output, opened, Range, Statement, mark, gate, priced, member, lines_of, lines_marked}
use Rattle.netlist_table.specs.Netlist.{lines_claimed, marked_lines, claimed_lines, is_marked, is_input}
use Rattle.netlist_table.specs.Netlist.{is_output, is_open, claimed, line_bad, any_line_bad, unknown_cell, pins_at, count_differs}
use Rattle.netlist_table.specs.Netlist.{any_member, driven_before, marked_before, not_input, price_bad, bounds_bad, range_bad, lines_ranged, ranges_in, ranged_lines, ranges_of, has_range, of_range, causes}
use Rattle.netlist_table.specs.Layout.{driver_word, output_word, packed, range_word}
use Rattle.netlist_table.specs.Sound.{RangeSound}
use Rattle.netlist_table.specs.Admission.{gate_cause, mark_number}
use Rattle.netlist_table.proofs.LowestCause.{Counted, lowest-append}

-- ---- line numbers

pub line_bad-low : (l : ℕ) → l < 1 → line_bad l ≡ true
unfolding line_bad
line_bad-low l h = rw (lt-leb 1 l h)

pub line_bad-high : (l : ℕ) → 1 ≤ l → Size.lines < l → line_bad l ≡ true
unfolding line_bad
line_bad-high l p h = rw (le-leb 1 l p, lt-leb l Size.lines h)

pub line_bad-good : (l : ℕ) → 1 ≤ l → l ≤ Size.lines → line_bad l ≡ false
unfolding line_bad
line_bad-good l p h = rw (le-leb 1 l p, le-leb l Size.lines h)

pub line_bad-range : (l : ℕ) → line_bad l ≡ false → (1 ≤ l) × (l ≤ Size.lines)
line_bad-range l h =
    by_test (leb 1 l)
    (λ p. by_test (leb l Size.lines)
    (λ q. (leb-true 1 l p, leb-true l Size.lines q))
    (λ q. clash (line_bad l) (line_bad-high l (leb-true 1 l p) (leb-false l Size.lines q)) h))
    (λ p. clash (line_bad l) (line_bad-low l (leb-false 1 l p)) h)

-- ---- lists of lines

pub member-append : (l : ℕ) (xs ys : List ℕ) → member l (xs ++ ys) ≡ (member l xs || member l ys)
unfolding member
member-append l [] ys = refl
member-append l (x ∷ xs) ys = rw (member-append l xs ys) (sym (or_assoc (eqb x l) (member l xs) (member l ys)))

pub member-left : (l : ℕ) (xs ys : List ℕ) → member l xs ≡ true → member l (xs ++ ys) ≡ true
member-left l xs ys e = rw (member-append l xs ys, e)

pub member_right : (l : ℕ) (xs ys : List ℕ) → member l ys ≡ true → member l (xs ++ ys) ≡ true
member_right l xs ys e = rw (member-append l xs ys, e) (or-true (member l xs))

pub member_cases : (l : ℕ) (xs ys : List ℕ) → member l (xs ++ ys) ≡ true → (member l xs ≡ true) ⊎ (member l ys ≡ true)
member_cases l xs ys e = or_cases (member l xs) (member l ys) (sym (member-append l xs ys) ∙ e)

-- What statements have of something, with one statement more.
pub one_more_lem : {B : Type 0} (f : Statement → List B) (ss : List Statement) (s : Statement)
    → flat_map f (ss ++ (s ∷ [])) ≡ flat_map f ss ++ f s
unfolding flat_map
one_more_lem f ss s = flatMap_append f ss (s ∷ []) ∙ ap (λ (l : List _). flat_map f ss ++ l) (append-nil (f s))

pub member-more : (l : ℕ) (f : Statement → List ℕ) (ss : List Statement) (s : Statement)
    → member l (flat_map f (ss ++ (s ∷ []))) ≡ (member l (flat_map f ss) || member l (f s))
member-more l f ss s = ap (member l) (one_more_lem f ss s) ∙ member-append l (flat_map f ss) (f s)

-- What each statement has of one thing, it has of another.
pub member-among : (l : ℕ) (f g : Statement → List ℕ) → ((s : Statement) → member l (f s) ≡ true → member l (g s) ≡ true)
    → (ss : List Statement) → member l (flat_map f ss) ≡ true → member l (flat_map g ss) ≡ true
unfolding flat_map
member-among l f g h [] e = e
member-among l f g h (s ∷ ss) e =
    ⊎_elim
    (λ t. member-left l (g s) (flat_map g ss) (h s t))
    (λ t. member_right l (g s) (flat_map g ss) (member-among l f g h ss t))
    (member_cases l (f s) (flat_map f ss) e)

-- ---- the words of a line, as tests

-- Whether a mark claims its line: an input and an open line do, an output does not.
abbrev pub claiming : Mark → Bool
claiming input = true
claiming output = false
claiming opened = true

pub mark_claims : (m : Mark) → claiming m ≡ true → (l : ℕ) (s : Statement) → member l (lines_marked m s) ≡ true
    → member l (lines_claimed s) ≡ true
unfolding lines_marked lines_claimed member pick
mark_claims input c l (mark input k) e = e
mark_claims input c l (mark output k) e = e
mark_claims input c l (mark opened k) e = clash false e refl
mark_claims input c l (gate g) e = clash false e refl
mark_claims input c l (priced r) e = clash false e refl
mark_claims output c l s e = clash false c refl
mark_claims opened c l (mark input k) e = clash false e refl
mark_claims opened c l (mark output k) e = e
mark_claims opened c l (mark opened k) e = e
mark_claims opened c l (gate g) e = clash false e refl
mark_claims opened c l (priced r) e = clash false e refl

pub marked-claimed : (m : Mark) → claiming m ≡ true → (l : ℕ) (ss : List Statement) → is_marked m l ss ≡ true
    → claimed l ss ≡ true
unfolding is_marked marked_lines claimed claimed_lines
marked-claimed m c l ss e = member-among l (lines_marked m) lines_claimed (mark_claims m c l) ss e

pub unclaimed_marked : (m : Mark) → claiming m ≡ true → (l : ℕ) (ss : List Statement) → claimed l ss ≡ false
    → is_marked m l ss ≡ false
unclaimed_marked m c l ss h =
    by_test (is_marked m l ss) (λ e. clash (claimed l ss) (marked-claimed m c l ss e) h) (λ e. e)

-- A mark that the statements have already, or another claim where it is one, for which it is refused.
unfoldable pub taken : Mark → List Statement → ℕ → Bool
taken input ss l = claimed l ss
taken output ss l = is_output l ss
taken opened ss l = claimed l ss

unfoldable pub mark_word : Mark → List Statement → ℕ → ℕ
mark_word input ss l = driver_word ss l
mark_word output ss l = output_word ss l
mark_word opened ss l = driver_word ss l

pub driver-taken : (ss : List Statement) (l : ℕ) → eqb (driver_word ss l) 0 ≡ not (claimed l ss)
unfolding driver_word pick
driver-taken ss l =
    go (is_input l ss) (is_open l ss) (claimed l ss) (marked-claimed input refl l ss) (marked-claimed opened refl l ss)
  where
    go : (i o d : Bool) → (i ≡ true → d ≡ true) → (o ≡ true → d ≡ true) → eqb (pick i 1 (pick o 3 (pick d 2 0))) 0 ≡ not d
    go true o d h k = ap not (sym (h refl))
    go false true d h k = ap not (sym (k refl))
    go false false true h k = refl
    go false false false h k = refl

-- A flag is 0 just where its test fails.
pub flag-zero : (b : Bool) → eqb (pick b 1 0) 0 ≡ not b
unfolding pick
flag-zero true = refl
flag-zero false = refl

-- The word of a mark is 0 just where it is not taken.
pub word-taken : (m : Mark) (ss : List Statement) (l : ℕ) → eqb (mark_word m ss l) 0 ≡ not (taken m ss l)
unfolding mark_word taken output_word pick
word-taken input ss l = driver-taken ss l
word-taken output ss l = flag-zero (is_output l ss)
word-taken opened ss l = driver-taken ss l

-- An input's word is 1, and no other.
pub driver-input : (ss : List Statement) (l : ℕ) → eqb (driver_word ss l) 1 ≡ is_input l ss
unfolding driver_word pick
driver-input ss l = go (is_input l ss) (is_open l ss) (claimed l ss)
  where
    go : (i o d : Bool) → eqb (pick i 1 (pick o 3 (pick d 2 0))) 1 ≡ i
    go true o d = refl
    go false true d = refl
    go false false true = refl
    go false false false = refl

-- The lines of ranges.
unfoldable pub range_lines : List Range → List ℕ
range_lines [] = []
range_lines (r ∷ rs) = r.line ∷ range_lines rs

pub ranged-lines : (ss : List Statement) → ranged_lines ss ≡ range_lines (ranges_of ss)
unfolding ranged_lines lines_ranged ranges_of ranges_in range_lines flat_map
ranged-lines [] = refl
ranged-lines (mark m l ∷ ss) = ranged-lines ss
ranged-lines (gate g ∷ ss) = ranged-lines ss
ranged-lines (priced r ∷ ss) = ap (λ (ls : List ℕ). r.line ∷ ls) (ranged-lines ss)

packed-taken : (ss : List Statement) (rs : List Range) (l : ℕ) → Each (RangeSound ss) rs
    → eqb (of_range packed 0 rs l) 0 ≡ not (member l (range_lines rs))
unfolding of_range range_lines member packed Each pick
packed-taken ss [] l h = refl
packed-taken ss (r ∷ rs) l h =
    by_test (eqb r.line l)
    (λ t. rw (t, ne_eqb (r.low + Size.prices * r.high) 0 (λ e. omega (arith, h.0.least))))
    (λ t. rw (t, packed-taken ss rs l h.1))

-- The word of a range is 0 just where there is none.
pub range-taken : (ss : List Statement) (l : ℕ) → Each (RangeSound ss) (ranges_of ss) → eqb (range_word ss l) 0 ≡ not (has_range l ss)
unfolding range_word has_range
range-taken ss l h = rw (ranged-lines ss) (packed-taken ss (ranges_of ss) l h)

-- What good bounds are.
pub bounds-fit : (low high : ℕ) → bounds_bad low high ≡ false → (1 ≤ low) × (low ≤ high) × (high ≤ Size.most_price)
unfolding bounds_bad price_bad
bounds-fit low high e =
    let a : (ltb low 1 || ltb Size.most_price low) ≡ false = or_left _ _ e in
    let rest = or_right (ltb low 1 || ltb Size.most_price low) _ e in
    let b : (ltb high 1 || ltb Size.most_price high) ≡ false = or_left _ _ rest in (
      ltb-false low 1 (or_left _ _ a),
      ltb-false high low (or_right (ltb high 1 || ltb Size.most_price high) _ rest),
      ltb-false Size.most_price high (or_right (ltb high 1) _ b),
    )

-- ---- the lowest cause

pub causes-counted : (cells : List Cell) (ss : List Statement) (s : Statement) → Each Counted (causes cells ss s)
unfolding causes Each
causes-counted cells ss s = search rules

module _ (cells : List Cell) (ss : List Statement) where
  pub mark_cause : (m : Mark) (l : ℕ)
      → lowest (causes cells ss (mark m l)) ≡ pick (line_bad l) No.line_bad (pick (taken m ss l) (mark_number m) 0)
  unfolding lowest causes lines_of lines_marked lines_claimed any_line_bad unknown_cell count_differs any_member driven_before marked_before not_input range_bad taken is_marked claimed pick
  mark_cause input l = rw (or-false (line_bad l), or-false (member l (claimed_lines ss)))
  mark_cause output l = rw (or-false (line_bad l), or-false (member l (marked_lines output ss)))
  mark_cause opened l = rw (or-false (line_bad l), or-false (member l (claimed_lines ss)))

  -- a gate's own causes come first
  pub gate-causes : (g : Gate) → lowest (causes cells ss (gate g))
      ≡ pick (eqb (gate_cause cells g) 0)
      (pick (claimed g.line ss) No.driven_before 0) (gate_cause cells g)
  unfolding causes gate_cause lowest lines_marked lines_claimed any_member driven_before marked_before not_input range_bad claimed pick Each
  gate-causes g =
      lowest-append
      ((No.line_bad, any_line_bad (lines_of (gate g)))
      ∷ (No.cell_unknown, unknown_cell cells (gate g))
      ∷ (No.pins_differ, count_differs cells (gate g))
      ∷ [])
      ((No.driven_before, driven_before ss (gate g))
      ∷ (No.marked_before, marked_before ss (gate g))
      ∷ (No.not_input, not_input ss (gate g))
      ∷ (No.range_bad, range_bad ss (gate g))
      ∷ [])
      (search rules)
      ∙ rw (or-false (member g.line (claimed_lines ss)))

  pub range_cause : (r : Range) → lowest (causes cells ss (priced r))
      ≡ pick (line_bad r.line) No.line_bad
      (pick (not (is_input r.line ss)) No.not_input
      (pick (bounds_bad r.low r.high || has_range r.line ss) No.range_bad 0))
  unfolding lowest causes lines_of lines_marked lines_claimed any_line_bad unknown_cell count_differs any_member driven_before marked_before not_input range_bad pick
  range_cause r = rw (or-false (line_bad r.line))

pub pins_at-cell : (cells : List Cell) (k : ℕ) (d : Cell) → k < length cells → pins_at cells k ≡ (get_or cells k d).pins
unfolding pins_at
pins_at-cell [] k d h = absurd (not-suc-le-zero h)
pins_at-cell (c ∷ cells) zero d h = refl
pins_at-cell (c ∷ cells) (suc k) d h = pins_at-cell cells k d (le_of_suc-le-suc h)
