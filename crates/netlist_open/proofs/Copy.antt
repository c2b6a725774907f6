-- The new rules accept the copy, and give it the numbers that the old rules gave.
use Rattle.common_laws.proofs.Base.{Bool, true, false, not, ◌&&◌, ◌||◌, or-false, or-true, List, [], ◌∷◌, ◌++◌, append-nil, append_assoc, flat_map, Option, none, some, ◌≡◌, refl}
use Rattle.common_laws.proofs.Base.{sym, ap, ◌∙◌, ℕ, zero, suc, ◌+◌, ◌≤◌, ◌<◌, arith, eqb, leb, ltb, length, eq-eqb, ne_eqb, eqb-true, eqb-false, le-leb, leb-true, not-true}
use Rattle.common_laws.proofs.Lists.{flatMap_append}
use Rattle.sizes.specs.Sizes as Size
use Rattle.reading.specs.Choice.{pick}
use Rattle.reading.specs.Each.{Each}
use Rattle.reading.specs.Numbers as No
use Rattle.reading.specs.Refusal.{refused, read, ◌>>=◌, ◌>>◌, weigh, form}
use Rattle.reading.proofs.Laws.{by_test, and_left, and_right, or_left, or_right, bind_read, refused-read, each_append}
use Rattle.text.specs.Bytes.{bytes}
use Rattle.text.specs.Lines.{fields, lines, same_bytes, lines_open}
use Rattle.text.specs.Numeral.{digit_below, all_digits, well_formed, decimal, name_form}
use Rattle.text.proofs.FieldLaws.{numeral-good, numeral-bad, well_formed-digits}
use Rattle.writer.specs.Decimal.{decimal_bytes}
use Rattle.writer.proofs.Decimal.{decimal-below, decimal-read}
use Rattle.library_table.specs.Cells.{Cell}
use Rattle.library_table.specs.Library.{Fields}
use Rattle.netlist_table.specs.declared.Rules.{Rules}
use Rattle.netlist_table.specs.declared.Rules.TheVariants.{Old, New}
use Rattle.netlist_table.specs.Netlist.{Mark, input, output, opened, Statement, mark, gate, lone, decimals, mark_of, driven_by, gate_of, statement_of, ranges_in, ranges_of, low_price}
use Rattle.netlist_table.specs.Netlist.{member, lines_of, lines_marked, lines_claimed, lines_needed, gates_in, mentioned_lines, marked_lines}
use Rattle.netlist_table.specs.Netlist.{claimed_lines, needed_lines, gates_of, mentioned, is_marked, claimed}
use Rattle.netlist_table.specs.Netlist.{admitted, line_form, line_forms, text_statements, undeclared, lines_where, undeclared_lines}
use Rattle.netlist_table.specs.Netlist.{some_line, declared, netlist}
use Rattle.netlist_table.specs.Admission.{refusal_of, extended}
use Rattle.netlist_table.specs.Sound.{Apart}
use Rattle.netlist_table.proofs.Counts.{each_in}
use Rattle.netlist_table.proofs.Unranged.{Unranged, none-unranged, pick_unranged, admitted-unranged, no_range}
use Rattle.netlist_table.proofs.Causes.{line_bad-good, member-append, member-more, mark_cause, taken}
use Rattle.netlist_table.proofs.OpenLines.{declared-read, needed-mentioned}
use Rattle.netlist_table.proofs.Admission.{admitted-more, admitted-refused}
use Rattle.calculation.specs.Prices.{input_cost, prices_of}
use Rattle.calculation.specs.Calculation.{start_line, start_lines, start_at, analysed_at, analysed}
use Rattle.netlist_open.specs.Copy.{open_line, open_lines, copy_of, opens, declared_too}
use Rattle.netlist_open.specs.Kept.{CopyKeeps}
use Rattle.netlist_open.proofs.Split.{Good, lines-append, Unmarked, split_marked, split_whole, line_first}

-- ---- the netlist itself, by the new rules

-- What the old rules read, the new rules read alike.
new_pick : {A : Type 0} (a b c d f : Bool) (x y z w v : Option A) (s : A)
    → pick a x (pick b y (pick c z (pick (false && d) w (pick (false && f) v none)))) ≡ some s
    → pick a x (pick b y (pick c z (pick (true && d) w (pick (true && f) v none)))) ≡ some s
unfolding pick
new_pick true b c d f x y z w v s e = e
new_pick false true c d f x y z w v s e = e
new_pick false false true d f x y z w v s e = e
new_pick false false false d f x y z w v s e = let n : ◌≡◌ {A = ℕ} 0 1 = cc in absurd (omega arith)

form-new : (cells : List Cell) (l : Option Fields) (s : Statement) → line_form Old cells l ≡ some s → line_form New cells l ≡ some s
unfolding line_form statement_of
form-new cells none s e = e
form-new cells (some []) s e = e
form-new cells (some (f ∷ fs)) s e = new_pick _ _ _ _ _ _ _ _ _ _ s e

-- The old rules know no range.
mark-unranged : (m : Mark) (o : Option ℕ) → Unranged (mark_of m o)
unfolding Unranged mark_of ranges_in
mark-unranged m none s e = none-unranged s e
mark-unranged m (some l) s e = let same : mark m l ≡ s = cc in rw (← same)

drives-unranged : (cell : ℕ) (o : Option (List ℕ)) → Unranged (driven_by cell o)
unfolding Unranged driven_by ranges_in
drives-unranged cell none s e = none-unranged s e
drives-unranged cell (some []) s e = none-unranged s e
drives-unranged cell (some (l ∷ ps)) s e =
    let same : gate (record { cell = cell; line = l; pins = ps }) ≡ s = cc in rw (← same)

gate-unranged : (cells : List Cell) (fs : Fields) → Unranged (gate_of cells fs)
unfolding gate_of
gate-unranged cells [] = none-unranged
gate-unranged cells (name ∷ fs) = pick_unranged (name_form name) _ none (drives-unranged _ (decimals fs)) none-unranged

old-unranged : (cells : List Cell) (l : Option Fields) → Unranged (line_form Old cells l)
unfolding line_form statement_of pick
old-unranged cells none = none-unranged
old-unranged cells (some []) = none-unranged
old-unranged cells (some (f ∷ fs)) =
    pick_unranged (same_bytes f (bytes "input")) _ _ (mark-unranged input (lone fs))
    (pick_unranged (same_bytes f (bytes "output")) _ _ (mark-unranged output (lone fs))
    (pick_unranged (same_bytes f (bytes "gate")) _ none (gate-unranged cells fs) none-unranged))

all-unranged : (cells : List Cell) (ls : List (Option Fields)) → Each Unranged (line_forms Old cells ls)
unfolding Each line_forms
all-unranged cells [] = tt
all-unranged cells (l ∷ ls) = (old-unranged cells l, all-unranged cells ls)

none-refused : (line : ℕ) (cells : List Cell) (ss : List Statement) (ws : List (Option Statement))
    → admitted line cells ss (none ∷ ws) ≡ refused No.netlist_form line
unfolding admitted form ◌>>=◌
none-refused line cells ss ws = refl

-- A list that is admitted to its end has good forms only.
pub good_forms : (line : ℕ) (cells : List Cell) (ss : List Statement) (ws : List (Option Statement)) (rs : List Statement)
    → admitted line cells ss ws ≡ read rs → Each Good ws
unfolding Each
good_forms line cells ss [] rs e = tt
good_forms line cells ss (none ∷ ws) rs e = refused-read (sym (none-refused line cells ss ws) ∙ e)
good_forms line cells ss (some s ∷ ws) rs e =
    by_test (eqb (refusal_of cells ss (some s)) 0)
    (λ t.
    (tt, good_forms (suc line) cells (extended ss (some s)) ws rs (sym (admitted-more line cells ss (some s) ws (eqb-true _ 0 t)) ∙ e)))
    (λ t. refused-read (sym (admitted-refused line cells ss (some s) ws (eqb-false _ 0 t)) ∙ e))

forms_good : (cells : List Cell) (ls : List (Option Fields)) → Each Good (line_forms Old cells ls)
    → Each Good ls × (line_forms New cells ls ≡ line_forms Old cells ls)
unfolding line_forms Each
forms_good cells [] h = (tt, refl)
forms_good cells (none ∷ ls) h = absurd (unfold line_form in h.0)
forms_good cells (some fs ∷ ls) h =
    let rest = forms_good cells ls h.1 in
    ((tt, rest.0), λ i. same (line_form Old cells (some fs)) refl h.0 i ∷ rest.1 i)
  where
    same : (o : Option Statement) → line_form Old cells (some fs) ≡ o → Good o → line_form New cells (some fs) ≡ line_form Old cells (some fs)
    same none e g = absurd g
    same (some s) e g = form-new cells (some fs) s e ∙ sym e

-- ---- the lines that are added

module _ (l : ℕ) (low : 1 ≤ l) (high : l ≤ Size.lines) where
  digits-good : well_formed 10 20 (decimal_bytes l) ≡ true
  digits-good =
      by_test (well_formed 10 20 (decimal_bytes l))
      (λ t. t)
      (λ t.
      let n : none ≡ some l = sym (numeral-bad 10 20 (decimal_bytes l) t) ∙ decimal-read l (omega arith) in
      let z : ◌≡◌ {A = ℕ} 0 1 = cc in absurd (omega arith))

  pub decimal-back : decimal (decimal_bytes l) ≡ some l
  unfolding decimal well_formed
  decimal-back =
      let f = decimal_bytes l in
      let most = and_right (leb 1 (length f)) _ digits-good in
      let good : well_formed 10 5 f ≡ true =
      rw (
        and_left (leb 1 (length f)) _ digits-good,
        le-leb (length f) 5 (omega (arith, decimal-below 4 l (omega arith))),
        and_right (leb (length f) 20) _ most,
      )
      in
      numeral-good 10 5 f good ∙ sym (numeral-good 10 20 f digits-good) ∙ decimal-read l (omega arith)

  digits-unmarked : (m : ℕ) → m < 48 → (f : List ℕ) → all_digits 10 f ≡ true → Unmarked m f
  unfolding all_digits digit_below Each
  digits-unmarked m h [] d = tt
  digits-unmarked m h (b ∷ f) d =
      let digit = and_left (leb 48 b && ltb b 58) (all_digits 10 f) d in
      let least : 48 ≤ b = leb-true 48 b (and_left (leb 48 b) (ltb b 58) digit) in
      (ne_eqb b m (λ e. omega arith), digits-unmarked m h f (and_right (leb 48 b && ltb b 58) (all_digits 10 f) d))

  line-unmarked : (m : ℕ) → m < 48 → Unmarked m (decimal_bytes l)
  line-unmarked m h = digits-unmarked m h (decimal_bytes l) (well_formed-digits 10 20 (decimal_bytes l) digits-good)

  -- A line of a word and L, by its fields.
  module _ (word : List ℕ) (apart : Unmarked 44 word) (plain : Unmarked 10 word) where
    word_fields : fields (word ++ (44 ∷ decimal_bytes l)) ≡ word ∷ (decimal_bytes l ∷ [])
    unfolding fields
    word_fields =
        split_marked 44 word (decimal_bytes l) apart
        ∙ ap (λ (ps : List (List ℕ)). word ∷ ps) (split_whole 44 (decimal_bytes l) (line-unmarked 44 (omega arith)))

    pub word_line : (t : List ℕ) → lines ((word ++ (44 ∷ (decimal_bytes l ++ (10 ∷ [])))) ++ t) ≡ some (word ∷ (decimal_bytes l ∷ [])) ∷ lines t
    unfolding Each
    word_line t =
        let p = word ++ (44 ∷ decimal_bytes l) in
        let whole : (word ++ (44 ∷ (decimal_bytes l ++ (10 ∷ [])))) ++ t ≡ p ++ (10 ∷ t) = simp append_assoc in
        let all : Unmarked 10 p =
        each_append (λ (b : ℕ). eqb b 10 ≡ false) word (44 ∷ decimal_bytes l) plain (refl, line-unmarked 10 (omega arith))
        in
        ap lines whole ∙ line_first p t all ∙ ap (λ (fs : Fields). some fs ∷ lines t) word_fields

  -- `open,L`, and what it says.
  open_line_lem : (t : List ℕ) → lines (open_line l ++ t) ≡ some (bytes "open" ∷ (decimal_bytes l ∷ [])) ∷ lines t
  unfolding open_line bytes Each
  open_line_lem t = word_line (bytes "open") (refl, (refl, (refl, (refl, tt)))) (refl, (refl, (refl, (refl, tt)))) t

  open_says : (cells : List Cell) → line_form New cells (some (bytes "open" ∷ (decimal_bytes l ∷ []))) ≡ some (mark opened l)
  unfolding line_form statement_of lone mark_of bytes same_bytes pick
  open_says cells = rw decimal-back

abbrev InRange : ℕ → Type 0
InRange l = (1 ≤ l) × (l ≤ Size.lines)

unfoldable somes : List Statement → List (Option Statement)
somes [] = []
somes (s ∷ ss) = some s ∷ somes ss

opens_forms : (cells : List Cell) (ls : List ℕ) → Each InRange ls → line_forms New cells (lines (open_lines ls)) ≡ somes (opens ls)
unfolding open_lines opens somes line_forms Each
opens_forms cells [] h = unfold lines_open in refl
opens_forms cells (l ∷ ls) h =
    rw (open_line_lem l h.0.0 h.0.1 (open_lines ls), open_says l h.0.0 h.0.1 cells, opens_forms cells ls h.1)

-- ---- statements one after the other

pub forms_append : (rules : Rules) (cells : List Cell) (ls ks : List (Option Fields))
    → line_forms rules cells (ls ++ ks) ≡ line_forms rules cells ls ++ line_forms rules cells ks
unfolding line_forms
forms_append rules cells [] ks = refl
forms_append rules cells (l ∷ ls) ks = ap (λ (ws : List (Option Statement)). line_form rules cells l ∷ ws) (forms_append rules cells ls ks)

ended_same : (line : ℕ) (cells : List Cell) (ss rs : List Statement) → admitted line cells ss [] ≡ read rs → ss ≡ rs
unfolding admitted
ended_same line cells ss rs e = cc

pub admitted-append : (line : ℕ) (cells : List Cell) (ss : List Statement) (ws vs : List (Option Statement)) (rs : List Statement)
    → admitted line cells ss ws ≡ read rs → admitted line cells ss (ws ++ vs) ≡ admitted (line + length ws) cells rs vs
admitted-append line cells ss [] vs rs e =
    let same : ss ≡ rs = ended_same line cells ss rs e in
    let n : line + 0 ≡ line = omega arith in
    rw (n, same)
admitted-append line cells ss (w ∷ ws) vs rs e =
    by_test (eqb (refusal_of cells ss w) 0)
    (λ t.
    let z = eqb-true (refusal_of cells ss w) 0 t in
    let n : suc line + length ws ≡ line + suc (length ws) = omega arith in
    admitted-more line cells ss w (ws ++ vs) z
    ∙ admitted-append (suc line) cells (extended ss w) ws vs rs (sym (admitted-more line cells ss w ws z) ∙ e)
    ∙ ap (λ (k : ℕ). admitted k cells rs vs) n)
    (λ t. refused-read (sym (admitted-refused line cells ss w ws (eqb-false (refusal_of cells ss w) 0 t)) ∙ e))

-- Lines that nothing claims, each once.
abbrev Free : List Statement → ℕ → Type 0
Free ss l = InRange l × (claimed l ss ≡ false)

claimed-more : (ss : List Statement) (k l : ℕ) → claimed k (ss ++ (mark opened l ∷ [])) ≡ (claimed k ss || eqb l k)
unfolding claimed claimed_lines lines_claimed member
claimed-more ss k l = rw (member-more k lines_claimed ss (mark opened l), or-false (eqb l k))

free_more : (ss : List Statement) (l : ℕ) (ls : List ℕ) → member l ls ≡ false → Each (Free ss) ls
    → Each (Free (ss ++ (mark opened l ∷ []))) ls
unfolding member Each
free_more ss l [] m h = tt
free_more ss l (k ∷ ls) m h =
    let other : eqb l k ≡ false = ne_eqb l k (λ e. eqb-false k l (or_left (eqb k l) (member l ls) m) (sym e)) in
    ((h.0.0, rw (claimed-more ss k l, h.0.1, other)), free_more ss l ls (or_right (eqb k l) (member l ls) m) h.1)

opens-admitted : (line : ℕ) (cells : List Cell) (ss : List Statement) (ls : List ℕ) → Each (Free ss) ls → Apart ls
    → admitted line cells ss (somes (opens ls)) ≡ read (ss ++ opens ls)
unfolding somes opens Each Apart extended
opens-admitted line cells ss [] h a = unfold admitted in ap read (sym (append-nil ss))
opens-admitted line cells ss (l ∷ ls) h a =
    let s = mark opened l in
    let free : refusal_of cells ss (some s) ≡ 0 = unfold refusal_of taken pick in
    rw (mark_cause cells ss opened l, line_bad-good l h.0.0.0 h.0.0.1, h.0.1)
    in
    admitted-more line cells ss (some s) (somes (opens ls)) free
    ∙ opens-admitted (suc line) cells (ss ++ (s ∷ [])) ls (free_more ss l ls a.0 h.1) a.1
    ∙ ap read (append_assoc ss (s ∷ []) (opens ls))

-- ---- the lines for which a test holds

module _ (p : ℕ → Bool) where
  where-each : (P : ℕ → Type 0) (n first : ℕ) → ((l : ℕ) → first ≤ l → l < first + n → p l ≡ true → P l) → Each P (lines_where p n first)
  unfolding lines_where Each pick
  where-each P zero first h = tt
  where-each P (suc n) first h =
      let rest = where-each P n (suc first) (λ l low high t. h l (omega arith) (omega arith) t) in
      by_test (p first)
      (λ t. rw t (h first (omega arith) (omega arith) t, rest))
      (λ t. rw t rest)

  above-absent : (k : ℕ) (ls : List ℕ) → Each (λ (l : ℕ). k < l) ls → member k ls ≡ false
  unfolding member Each
  above-absent k [] h = refl
  above-absent k (l ∷ ls) h = rw (ne_eqb l k (λ e. omega (arith, h.0)), above-absent k ls h.1)

  where-apart : (n first : ℕ) → Apart (lines_where p n first)
  unfolding lines_where Apart pick
  where-apart zero first = tt
  where-apart (suc n) first =
      by_test (p first)
      (λ t. rw t (
        above-absent first (lines_where p n (suc first)) (where-each (λ (l : ℕ). first < l) n (suc first) (λ l low high q. low)),
        where-apart n (suc first),
      ))
      (λ t. rw t (where-apart n (suc first)))

  where-member : (l n first : ℕ) → p l ≡ true → first ≤ l → l < first + n → member l (lines_where p n first) ≡ true
  unfolding lines_where member pick
  where-member l zero first t low high = absurd (omega arith)
  where-member l (suc n) first t low high =
      by_test (eqb first l)
      (λ e. let same = eqb-true first l e in rw (same, t) (rw (eq-eqb l l refl)))
      (λ e.
      let rest = where-member l n (suc first) t (omega (arith, eqb-false first l e)) (omega arith) in
      by_test (p first)
      (λ q. rw q (rw rest (or-true (eqb first l))))
      (λ q. rw q rest))

where-none : (p : ℕ → Bool) (n first : ℕ) → ((l : ℕ) → first ≤ l → l < first + n → p l ≡ false)
    → some_line (lines_where p n first) ≡ false
unfolding lines_where some_line pick
where-none p zero first h = refl
where-none p (suc n) first h =
    rw (h first (omega arith) (omega arith)) (where-none p n (suc first) (λ l low high. h l (omega arith) (omega arith)))

-- ---- what the added statements say

opens_silent : {B : Type 0} (f : Statement → List B) → ((l : ℕ) → f (mark opened l) ≡ []) → (ss : List Statement) (ls : List ℕ)
    → flat_map f (ss ++ opens ls) ≡ flat_map f ss
unfolding flat_map opens
opens_silent f h ss ls = flatMap_append f ss (opens ls) ∙ ap (λ (xs : List _). flat_map f ss ++ xs) (none_of ls) ∙ append-nil (flat_map f ss)
  where
    none_of : (ks : List ℕ) → flat_map f (opens ks) ≡ []
    none_of [] = refl
    none_of (k ∷ ks) = rw (h k, none_of ks)

opens-told : (f : Statement → List ℕ) → ((l : ℕ) → f (mark opened l) ≡ l ∷ []) → (ss : List Statement) (ls : List ℕ)
    → flat_map f (ss ++ opens ls) ≡ flat_map f ss ++ ls
unfolding flat_map opens
opens-told f h ss ls = flatMap_append f ss (opens ls) ∙ ap (λ (xs : List ℕ). flat_map f ss ++ xs) (all_of ls)
  where
    all_of : (ks : List ℕ) → flat_map f (opens ks) ≡ ks
    all_of [] = refl
    all_of (k ∷ ks) = rw (h k, all_of ks)

module _ (ss : List Statement) where
  abbrev ls : List ℕ
  ls = undeclared_lines ss

  listed : (l : ℕ) → member l ls ≡ true → undeclared ss l ≡ true
  unfolding undeclared_lines
  listed l e = each_in (λ (k : ℕ). undeclared ss k ≡ true) ls l e (where-each (undeclared ss) (λ (k : ℕ). undeclared ss k ≡ true) Size.lines 1 (λ k low high t. t))

  free : Each (Free ss) ls
  unfolding undeclared_lines undeclared
  free =
      where-each (undeclared ss) (Free ss) Size.lines 1
      (λ l low high t. ((low, omega arith), not-true (claimed l ss) (and_right (member l (needed_lines ss)) (not (claimed l ss)) t)))

  in-range : Each InRange ls
  unfolding undeclared_lines
  in-range = where-each (undeclared ss) InRange Size.lines 1 (λ l low high t. (low, omega arith))

  once : Apart ls
  unfolding undeclared_lines
  once = where-apart (undeclared ss) Size.lines 1

  claimed_too : (l : ℕ) → claimed l (declared_too ss) ≡ (claimed l ss || member l ls)
  unfolding claimed claimed_lines declared_too
  claimed_too l = rw (opens-told lines_claimed (λ k. unfold lines_claimed in refl) ss ls) (member-append l (flat_map lines_claimed ss) ls)

  needed_too : needed_lines (declared_too ss) ≡ needed_lines ss
  unfolding needed_lines declared_too
  needed_too = opens_silent lines_needed (λ k. unfold lines_needed in refl) ss ls

  there : (l : ℕ) → 1 ≤ l → l < 1 + Size.lines → undeclared ss l ≡ true → member l ls ≡ true
  unfolding undeclared_lines
  there l low high is = where-member (undeclared ss) l Size.lines 1 is low high

  all-declared : (l : ℕ) → 1 ≤ l → l < 1 + Size.lines → undeclared (declared_too ss) l ≡ false
  unfolding undeclared
  all-declared l low high =
      rw (needed_too, claimed_too l)
      (by_test (member l (needed_lines ss))
      (λ n.
      by_test (claimed l ss)
      (λ c. rw (n, c))
      (λ c.
      let is : undeclared ss l ≡ true = rw (n, c) in
      rw (n, c, there l low high is)))
      (λ n. rw n))

  mentioned_too : (l : ℕ) → mentioned l (declared_too ss) ≡ mentioned l ss
  unfolding mentioned mentioned_lines declared_too
  mentioned_too l =
      let told : member l (flat_map lines_of (ss ++ opens ls)) ≡ (member l (flat_map lines_of ss) || member l ls) =
      rw (opens-told lines_of (λ k. unfold lines_of in refl) ss ls) (member-append l (flat_map lines_of ss) ls)
      in
      told
      ∙ by_test (member l ls)
      (λ t.
      let n = and_left (member l (needed_lines ss)) (not (claimed l ss)) (unfold undeclared in listed l t) in
      rw (t, or-true (member l (flat_map lines_of ss))) (sym (needed-mentioned l ss n)))
      (λ t. rw (t, or-false (member l (flat_map lines_of ss))))

  marked_too : (m : Mark) → ((l : ℕ) → lines_marked m (mark opened l) ≡ []) → (l : ℕ) → is_marked m l (declared_too ss) ≡ is_marked m l ss
  unfolding is_marked marked_lines declared_too
  marked_too m h l = rw (opens_silent (lines_marked m) h ss ls)

  ranges_too : ranges_of (declared_too ss) ≡ ranges_of ss
  unfolding ranges_of declared_too
  ranges_too = opens_silent ranges_in (λ k. unfold ranges_in in refl) ss ls

  lines_too : (n first : ℕ) → start_lines (prices_of (declared_too ss)) (declared_too ss) n first ≡ start_lines (prices_of ss) ss n first
  unfolding start_lines start_line input_cost low_price
  lines_too zero first = refl
  lines_too (suc n) first =
      rw (
        marked_too input (λ k. unfold lines_marked pick in refl) first,
        marked_too output (λ k. unfold lines_marked pick in refl) first,
        ranges_too,
        lines_too n (suc first),
      )

  numbers_too : (cells : List Cell) → analysed cells (declared_too ss) ≡ analysed cells ss
  unfolding analysed_at start_at
  numbers_too cells =
      let gates : gates_of (declared_too ss) ≡ gates_of ss = unfold gates_of declared_too in
      opens_silent gates_in (λ k. unfold gates_in in refl) ss ls
      in
      rw (gates, lines_too Size.lines 1)

-- ---- the theorem

module _ (cells : List Cell) (net : List ℕ) (ss : List Statement) (e : netlist Old cells net ≡ read ss) where
  old : text_statements Old cells net ≡ read ss
  unfolding netlist
  old =
      bind_read (text_statements Old cells net) (declared Old) ss
      (λ rs read_all held. read_all ∙ ap read (declared-read Old rs ss held)) e

  statements : text_statements New cells (copy_of net ss) ≡ read (declared_too ss)
  unfolding text_statements copy_of declared_too
  statements =
      let forms = forms_good cells (lines net) (good_forms 1 cells [] (line_forms Old cells (lines net)) ss old) in
      let added = open_lines (undeclared_lines ss) in
      let all : line_forms New cells (lines (net ++ added)) ≡ line_forms Old cells (lines net) ++ somes (opens (undeclared_lines ss)) =
      ap (line_forms New cells) (lines-append net added forms.0)
      ∙ forms_append New cells (lines net) (lines added)
      ∙ (λ i. forms.1 i ++ opens_forms cells (undeclared_lines ss) (in-range ss) i)
      in
      ap (admitted 1 cells []) all
      ∙ admitted-append 1 cells [] (line_forms Old cells (lines net)) (somes (opens (undeclared_lines ss))) ss old
      ∙ opens-admitted (1 + length (line_forms Old cells (lines net))) cells ss (undeclared_lines ss) (free ss) (once ss)

  accepts : netlist New cells (copy_of net ss) ≡ read (declared_too ss)
  unfolding netlist declared ◌>>=◌ ◌>>◌ weigh pick
  accepts =
      let none : some_line (undeclared_lines (declared_too ss)) ≡ false = unfold undeclared_lines in
      where-none (undeclared (declared_too ss)) Size.lines 1 (λ l low high. all-declared ss l low high)
      in
      rw (statements, none)

pub copy_keeps : CopyKeeps
copy_keeps cells net ss e =
    record {
      accepts = accepts cells net ss e;
      numbers = numbers_too ss cells;
      unranged =
          no_range (declared_too ss)
          (ranges_too ss
          ∙ admitted-unranged 1 cells [] (line_forms Old cells (lines net)) ss (all-unranged cells (lines net)) (unfold ranges_of flat_map in refl)
          (unfold text_statements in old cells net ss e));
      mentions = mentioned_too ss;
    }
