-- What the table says of lines that nothing declares, behind refusal 20, and whether there is a range.
use Rattle.common_laws.proofs.Base.{Bool, true, false, not, ◌&&◌, ◌||◌, and-false, or_assoc, Bool-not-not, List, [], ◌∷◌, flat_map, ◌⊎◌, inl, inr, ⊎_elim, ◌≡◌, refl, ap, ◌∙◌, ℕ}
use Rattle.common_laws.proofs.Base.{zero, suc, ◌+◌, ◌-◌, ◌≤◌, ◌<◌, arith, eqb, eqb-true}
use Rattle.sizes.specs.Sizes as Size
use Rattle.reading.specs.Choice.{pick}
use Rattle.reading.specs.Each.{Each}
use Rattle.reading.specs.Numbers as No
use Rattle.reading.specs.Refusal.{read, ◌>>◌, weigh}
use Rattle.reading.proofs.Laws.{by_test, clash, or_cases, refused-read, then-read}
use Rattle.library_table.specs.Cells.{Cell}
use Rattle.netlist_table.specs.declared.Rules.{Rules}
use Rattle.netlist_table.specs.Netlist.{input, output, opened, Range, Statement, mark, gate, priced, declaring, member, lines_of}
use Rattle.netlist_table.specs.Netlist.{lines_claimed, lines_needed, lines_ranged, mentioned_lines, claimed_lines, needed_lines, ranged_lines}
use Rattle.netlist_table.specs.Netlist.{ranges_of, mentioned, is_input, claimed}
use Rattle.netlist_table.specs.Netlist.{undeclared, lines_where, undeclared_lines, some_line, some_range, declared}
use Rattle.netlist_table.specs.Layout.{ranged_word, NetlistHolds}
use Rattle.netlist_table.specs.Admission.{words_undeclared, some_undeclared, some_ranged}
use Rattle.netlist_table.specs.Sound.{RangeSound, Sound}
use Rattle.netlist_table.proofs.Causes.{member-left, member_right, member_cases, member-among, marked-claimed, driver-taken, flag-zero, range_lines, ranged-lines}
use Rattle.netlist_table.proofs.HeldLines.{where-same, mention_held}
use Rattle.netlist_table.proofs.Places.{driver-word, ranged-word}

-- ---- a line that is mentioned is needed, or claimed, or has a range, and is then an input

abbrev Cases : ℕ → List ℕ → List ℕ → List ℕ → Type 0
Cases l needed claimed ranged = (member l needed ≡ true) ⊎ ((member l claimed ≡ true) ⊎ (member l ranged ≡ true))

mention_cases : (l : ℕ) (s : Statement) → member l (lines_of s) ≡ true → Cases l (lines_needed s) (lines_claimed s) (lines_ranged s)
unfolding lines_of lines_needed lines_claimed lines_ranged member
mention_cases l (mark input k) e = inr (inl e)
mention_cases l (mark output k) e = inl e
mention_cases l (mark opened k) e = inr (inl e)
mention_cases l (priced r) e = inr (inr e)
mention_cases l (gate g) e =
    ⊎_elim (λ t. inr (inl (rw t))) (λ t. inl t) (or_cases (eqb g.line l) (member l g.pins) e)

each_case : {A B C D E F : Type 0} → (A → D) → (B → E) → (C → F) → A ⊎ (B ⊎ C) → D ⊎ (E ⊎ F)
each_case f g h c = ⊎_elim (λ x. inl (f x)) (λ t. ⊎_elim (λ x. inr (inl (g x))) (λ x. inr (inr (h x))) t) c

mentioned_cases : (l : ℕ) (ss : List Statement) → mentioned l ss ≡ true → Cases l (needed_lines ss) (claimed_lines ss) (ranged_lines ss)
unfolding mentioned mentioned_lines needed_lines claimed_lines ranged_lines flat_map
mentioned_cases l [] e = inl e
mentioned_cases l (s ∷ ss) e =
    ⊎_elim
    (λ t.
    each_case (member-left l (lines_needed s) (needed_lines ss)) (member-left l (lines_claimed s) (claimed_lines ss))
    (member-left l (lines_ranged s) (ranged_lines ss)) (mention_cases l s t))
    (λ t.
    each_case (member_right l (lines_needed s) (needed_lines ss)) (member_right l (lines_claimed s) (claimed_lines ss))
    (member_right l (lines_ranged s) (ranged_lines ss)) (mentioned_cases l ss t))
    (member_cases l (lines_of s) (mentioned_lines ss) e)

line-input : (l : ℕ) (ss : List Statement) (rs : List Range) → Each (RangeSound ss) rs → member l (range_lines rs) ≡ true → is_input l ss ≡ true
unfolding Each range_lines member
line-input l ss [] h e = clash false e refl
line-input l ss (r ∷ rs) h e =
    by_test (eqb r.line l)
    (λ t. rw (← eqb-true r.line l t) h.0.input)
    (λ t. line-input l ss rs h.1 (rw t at e))

mentioned-needed : {cells : List Cell} (l : ℕ) (ss : List Statement) → Sound cells ss → mentioned l ss ≡ true
    → (member l (needed_lines ss) ≡ true) ⊎ (claimed l ss ≡ true)
unfolding claimed
mentioned-needed l ss so e =
    ⊎_elim (λ n. inl n)
    (λ t.
    inr
    (⊎_elim (λ c. c)
    (λ r. unfold claimed in marked-claimed input refl l ss (line-input l ss (ranges_of ss) so.ranges (rw (ranged-lines ss) at r)))
    t))
    (mentioned_cases l ss e)

needs_mentions : (l : ℕ) (s : Statement) → member l (lines_needed s) ≡ true → member l (lines_of s) ≡ true
unfolding lines_of lines_needed
needs_mentions l (mark input k) e = clash false (unfold member in e) refl
needs_mentions l (mark output k) e = e
needs_mentions l (mark opened k) e = clash false (unfold member in e) refl
needs_mentions l (priced r) e = clash false (unfold member in e) refl
needs_mentions l (gate g) e = member_right l (g.line ∷ []) g.pins e

pub needed-mentioned : (l : ℕ) (ss : List Statement) → member l (needed_lines ss) ≡ true → mentioned l ss ≡ true
unfolding mentioned mentioned_lines needed_lines
needed-mentioned l ss e = member-among l lines_needed lines_of (needs_mentions l) ss e

pub mention_undeclared : {cells : List Cell} (ss : List Statement) → Sound cells ss → (l : ℕ) → (mentioned l ss && not (claimed l ss)) ≡ undeclared ss l
unfolding undeclared
mention_undeclared ss so l =
    by_test (claimed l ss)
    (λ t. rw (t, and-false (mentioned l ss), and-false (member l (needed_lines ss))))
    (λ t.
    by_test (member l (needed_lines ss))
    (λ n. rw (n, needed-mentioned l ss n))
    (λ n.
    by_test (mentioned l ss)
    (λ m. ⊎_elim (λ x. clash (member l (needed_lines ss)) x n) (λ x. clash (claimed l ss) x t) (mentioned-needed l ss so m))
    (λ m. rw (m, n))))

-- ---- what the table says

pub words-undeclared : {cells : List Cell} {table : List ℕ} {ss : List Statement} → NetlistHolds table ss → Sound cells ss
    → (l : ℕ) → 1 ≤ l → l ≤ Size.lines
    → words_undeclared table l ≡ undeclared ss l
words-undeclared {cells} {table} {ss} h so l low high =
    rw (h.words, mention_held ss h.past l low high, driver-word ss h.past l low high, driver-taken ss l) (mention_undeclared ss so l)

pub some_same : {cells : List Cell} {table : List ℕ} {ss : List Statement} → NetlistHolds table ss → Sound cells ss
    → some_undeclared table ≡ some_line (undeclared_lines ss)
unfolding undeclared_lines
some_same {cells} {table} {ss} h so =
    ap some_line
    (where-same (words_undeclared table) (undeclared ss) Size.lines 1 (λ l low high. words-undeclared h so l low (omega arith)))

-- Whether there is a range, as the table says it.
pub some-ranged : {table : List ℕ} {ss : List Statement} → NetlistHolds table ss → some_ranged table ≡ some_range ss
unfolding ranged_word
some-ranged {table} {ss} h = rw (h.words, ranged-word ss h.past) (ap not (flag-zero (some_range ss)) ∙ Bool-not-not (some_range ss))

-- ---- the loop over the lines

-- What is left to ask from line l on.
abbrev pub some_from : (ℕ → Bool) → ℕ → Bool
some_from p l = some_line (lines_where p (Size.lines + 1 - l) l)

module _ (p : ℕ → Bool) where
  some-step : (n l : ℕ) → some_line (lines_where p (suc n) l) ≡ (p l || some_line (lines_where p n (suc l)))
  unfolding lines_where some_line pick
  some-step n l = by_test (p l) (λ t. rw t) (λ t. rw t)

  pub some_more : (l : ℕ) (found : Bool) → l ≤ Size.lines → (found || some_from p l) ≡ ((found || p l) || some_from p (l + 1))
  some_more l found h =
      let n : Size.lines + 1 - l ≡ suc (Size.lines - l) = omega arith in
      let m : Size.lines + 1 - (l + 1) ≡ Size.lines - l = omega arith in
      let k : l + 1 ≡ suc l = omega arith in
      rw (n, m, k, some-step (Size.lines - l) l, or_assoc found (p l) (some_line (lines_where p (Size.lines - l) (suc l))))

  none-where : (n l : ℕ) → ((k : ℕ) → l ≤ k → k < l + n → p k ≡ false) → some_line (lines_where p n l) ≡ false
  unfolding lines_where some_line
  none-where zero l h = refl
  none-where (suc n) l h =
      some-step n l ∙ rw (h l (omega arith) (omega arith)) (none-where n (suc l) (λ k low high. h k (omega arith) (omega arith)))

  pub none_from : (l : ℕ) → ((k : ℕ) → l ≤ k → k ≤ Size.lines → p k ≡ false) → some_from p l ≡ false
  none_from l h = none-where (Size.lines + 1 - l) l (λ k low high. h k low (omega arith))

-- ---- behind all statements

-- The old rules ask nothing, and neither do the new ones of statements that declare every line.
pub declared-read : (rules : Rules) (ss rs : List Statement) → declared rules ss ≡ read rs → ss ≡ rs
unfolding declared
declared-read rules ss rs e =
    then-read (weigh 0 ((No.undeclared, declaring rules && some_line (undeclared_lines ss)) ∷ [])) (read ss) rs
    (λ u w r. let same : ss ≡ rs = cc in same) e

-- Statements that leave the same lines undeclared as others that were read are read.
pub declared_same : (rules : Rules) (ss ts : List Statement) → undeclared_lines ts ≡ undeclared_lines ss → declared rules ss ≡ read ss
    → declared rules ts ≡ read ts
unfolding declared weigh pick ◌>>◌
declared_same rules ss ts same e =
    by_test (declaring rules && some_line (undeclared_lines ss))
    (λ t. refused-read (rw t at e))
    (λ t. rw (same, t))
