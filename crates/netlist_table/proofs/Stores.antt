-- Stores into the netlist table: one statement more.
use Rattle.common_laws.proofs.Base.{Bool, true, false, ◌||◌, or-false, or-true, List, [], ◌∷◌, ◌++◌, append-nil, append_assoc, flat_map, ◌≡◌, refl, sym, ap, ap₂, fun_ext, ◌∙◌, ℕ}
use Rattle.common_laws.proofs.Base.{zero, suc, ◌+◌, ◌*◌, ◌≤◌, ◌<◌, zero-add, add-suc, suc-add, add-zero, add_comm, add_assoc, zero-mul, suc-mul, not-suc-le-zero, le_of_suc-le-suc}
use Rattle.common_laws.proofs.Base.{add-one, one-add, arith, eqb, length, get_or, set, take, length-append, length-set, get_or-set_same, get_or-set_other, ext_get_or, sets, take-suc}
use Rattle.common_laws.proofs.Base.{length-take-le, eq-eqb, ne_eqb, eqb-true, eqb-false}
use lib.Seq.{set-append_left}
use Rattle.sizes.specs.Places.{gate_place, driver_place, mention_place, range_place, ranged_place}
use Rattle.sizes.specs.Sizes as Size
use Rattle.table.specs.Blocks.{fitted, blocks}
use Rattle.table.proofs.Places.{length-fitted, length_blocks, blocks_append}
use Rattle.reading.specs.Choice.{pick}
use Rattle.reading.proofs.Laws.{by_test, clash, or_left, or_right}
use Rattle.netlist_table.specs.Netlist.{Gate, Mark, input, output, opened, Range, Statement, mark, gate, priced, member, some_line, lines_of, lines_marked}
use Rattle.netlist_table.specs.Netlist.{lines_ranged, ranges_in, ranged_lines, ranges_of, has_range, some_range, of_range}
use Rattle.netlist_table.specs.Netlist.{lines_claimed, gates_in, mentioned_lines, marked_lines, claimed_lines, gates_of, mentioned}
use Rattle.netlist_table.specs.Netlist.{is_marked, is_input, is_output, is_open, claimed, line_bad, any_line_bad}
use Rattle.netlist_table.specs.Layout.{gate_words, driver_word, output_word, mention_word, packed, range_word, ranged_word, line_parts, line_words, part_words}
use Rattle.netlist_table.specs.Layout.{netlist_words}
use Rattle.netlist_table.specs.Admission.{mark_place, mark_value, mention_all, range_stored}
use Rattle.netlist_table.proofs.Places.{length-gate_words, length-line_words, length-part_words, getD_line_words, zero_word}
use Rattle.netlist_table.proofs.Causes.{one_more_lem, member-more, line_bad-range, claiming, mark_claims, unclaimed_marked, taken, range_lines, ranged-lines}

-- ---- lists

pub set-fitted : (d : ℕ) (n : ℕ) (xs : List ℕ) (x : ℕ) → set (fitted d n xs) (length xs) x ≡ fitted d n (xs ++ (x ∷ []))
unfolding fitted
set-fitted d zero xs x = refl
set-fitted d (suc n) [] x = refl
set-fitted d (suc n) (y ∷ xs) x = ap (λ (l : List ℕ). y ∷ l) (set-fitted d n xs x)

sets-fitted : (d n : ℕ) (ys xs : List ℕ) → sets (fitted d n xs) (length xs) ys ≡ fitted d n (xs ++ ys)
sets-fitted d n [] xs = ap (fitted d n) (sym (append-nil xs))
sets-fitted d n (y ∷ ys) xs =
    let one : length (xs ++ (y ∷ [])) ≡ suc (length xs) = length-append xs (y ∷ []) ∙ add-one (length xs) in
    ap (λ (l : List ℕ). sets l (suc (length xs)) ys) (set-fitted d n xs y)
    ∙ ap (λ (k : ℕ). sets (fitted d n (xs ++ (y ∷ []))) k ys) (sym one)
    ∙ sets-fitted d n ys (xs ++ (y ∷ []))
    ∙ ap (fitted d n) (append_assoc xs (y ∷ []) ys)

set-behind : (xs ys : List ℕ) (n i v : ℕ) → length xs ≡ n → set (xs ++ ys) (n + i) v ≡ xs ++ set ys i v
set-behind [] ys n i v h = rw (← h, zero-add i)
set-behind (x ∷ xs) ys n i v h =
    rw (← h, suc-add (length xs) i) (ap (λ (l : List ℕ). x ∷ l) (set-behind xs ys (length xs) i v refl))

sets_behind : (ws xs ys : List ℕ) (n i : ℕ) → length xs ≡ n → sets (xs ++ ys) (n + i) ws ≡ xs ++ sets ys i ws
sets_behind [] xs ys n i h = refl
sets_behind (w ∷ ws) xs ys n i h =
    rw (set-behind xs ys n i w h, ← add-suc n i) (sets_behind ws xs (set ys i w) n (suc i) h)

sets-front : (ws xs ys : List ℕ) (i : ℕ) → i + length ws ≤ length xs → sets (xs ++ ys) i ws ≡ sets xs i ws ++ ys
sets-front [] xs ys i h = refl
sets-front (w ∷ ws) xs ys i h =
    rw (set-append_left xs ys i w (omega arith)) (sets-front ws (set xs i w) ys (suc i) (rw (length-set xs i w) (omega arith)))

-- number j of part i, where that makes another part of it
set_blocks : {A : Type 0} (f : A → List ℕ) (k : ℕ) → ((x : A) → length (f x) ≡ k) → (d y : A) (xs : List A) (i j v : ℕ)
    → i < length xs → j < k → set (f (get_or xs i d)) j v ≡ f y
    → set (blocks f xs) (i * k + j) v ≡ blocks f (set xs i y)
unfolding blocks
set_blocks f k even d y [] i j v h q e = absurd (not-suc-le-zero h)
set_blocks f k even d y (x ∷ xs) zero j v h q e =
    rw (zero-mul k, zero-add j)
    (set-append_left (f x) (blocks f xs) j v (rw (even x) q) ∙ ap (λ (l : List ℕ). l ++ blocks f xs) e)
set_blocks f k even d y (x ∷ xs) (suc i) j v h q e =
    rw (suc-mul i k, add_comm (i * k) k, add_assoc k (i * k) j)
    (set-behind (f x) (blocks f xs) k (i * k + j) v (even x)
    ∙ ap (λ (l : List ℕ). f x ++ l) (set_blocks f k even d y xs i j v (le_of_suc-le-suc h) q e))

-- a number for each line, one of them set
set-line_words : (f g : ℕ → ℕ) (n first i v : ℕ) → i < n → g (first + i) ≡ v → ((j : ℕ) → (j ≡ first + i → ⊥) → g j ≡ f j)
    → set (line_words f n first) i v ≡ line_words g n first
set-line_words f g n first i v h here other =
    ext_get_or 0 (set (line_words f n first) i v) (line_words g n first)
    (rw (length-set (line_words f n first) i v, length-line_words f n first, length-line_words g n first))
    each
  where
    each : (j : ℕ) → j < length (set (line_words f n first) i v)
        → get_or (set (line_words f n first) i v) j 0 ≡ get_or (line_words g n first) j 0
    each j q =
        let k : j < n = rw (length-set (line_words f n first) i v, length-line_words f n first) at q in
        by_test (eqb j i)
        (λ e.
        let same : j ≡ i = eqb-true j i e in
        let below : i < length (line_words f n first) = rw (length-line_words f n first) h in
        rw (same, get_or-set_same (line_words f n first) i v 0 below, getD_line_words g n first i h) (sym here))
        (λ e.
        let apart = eqb-false j i e in
        rw (get_or-set_other (line_words f n first) i j v 0 apart, getD_line_words f n first j k, getD_line_words g n first j k)
        (sym (other (first + j) (λ e. apart (omega arith)))))

-- ---- one turn of the loops that store pins

take-one : (xs : List ℕ) (i : ℕ) → i < length xs → take (i + 1) xs ≡ take i xs ++ (get_or xs i 0 ∷ [])
take-one xs i h = rw (add-one i) (take-suc xs i 0 h)

mention_last : (ls : List ℕ) (l : ℕ) (table : List ℕ)
    → set (mention_all ls table) (mention_place l) 1 ≡ mention_all (ls ++ (l ∷ [])) table
unfolding mention_all
mention_last [] l table = refl
mention_last (k ∷ ls) l table = mention_last ls l (set table (mention_place k) 1)

pub mention_start : (pins table : List ℕ) → table ≡ mention_all (take 0 pins) table
unfolding mention_all
mention_start pins table = refl

pub mention_step : (pins : List ℕ) (i : ℕ) (table : List ℕ) → i < length pins
    → set (mention_all (take i pins) table) (mention_place (get_or pins i 0)) 1 ≡ mention_all (take (i + 1) pins) table
mention_step pins i table h = rw (take-one pins i h) (mention_last (take i pins) (get_or pins i 0) table)

-- ---- the table by its parts

-- The count of gates, the parts, and what stands behind them ..
unfoldable laid : ℕ → List (ℕ → ℕ) → List ℕ → List ℕ
laid n fs gs = n ∷ (blocks part_words fs ++ gs)

-- .. whether there is a range, and the gates.
gates_laid : ℕ → List Gate → List ℕ → List ℕ
gates_laid w gs past = w ∷ (fitted 0 (Size.gates * Size.gate_words) (blocks gate_words gs) ++ past)

netlist-laid : (ss : List Statement) (past : List ℕ)
    → netlist_words ss ++ past ≡ laid (length (gates_of ss)) (line_parts ss) (gates_laid (ranged_word ss) (gates_of ss) past)
unfolding netlist_words laid gates_laid
netlist-laid ss past = ap (λ (l : List ℕ). length (gates_of ss) ∷ l) (append_assoc (blocks part_words (line_parts ss)) _ past)

module _ (n : ℕ) (fs : List (ℕ → ℕ)) (gs : List ℕ) where
  set-count : (v : ℕ) → set (laid n fs gs) 0 v ≡ laid v fs gs
  unfolding laid
  set-count v = refl

  -- line l of part p
  set-part : (p l v : ℕ) (f : ℕ → ℕ) → p < length fs → 1 ≤ l → l ≤ Size.lines → f l ≡ v
      → ((k : ℕ) → (k ≡ l → ⊥) → f k ≡ get_or fs p zero_word k)
      → set (laid n fs gs) (p * Size.lines + l) v ≡ laid n (set fs p f) gs
  unfolding laid
  set-part p zero v f h low high here other = absurd (not-suc-le-zero low)
  set-part p (suc i) v f h low high here other =
      let long = length_blocks part_words Size.lines length-part_words fs in
      let e : 1 + i ≡ suc i = one-add i in
      rw (add-suc (p * Size.lines) i)
      (ap (λ (l : List ℕ). n ∷ l)
      (set-append_left (blocks part_words fs) gs (p * Size.lines + i) v (omega (arith, long))
      ∙ ap (λ (l : List ℕ). l ++ gs)
      (set_blocks part_words Size.lines length-part_words zero_word f fs p i v h high
      (set-line_words (get_or fs p zero_word) f Size.lines 1 i v high (rw e here) (rw e other)))))

  -- from place i behind the parts on
  sets-behind-parts : (ws : List ℕ) (i : ℕ) → sets (laid n fs gs) (suc (length fs * Size.lines) + i) ws ≡ laid n fs (sets gs i ws)
  unfolding laid
  sets-behind-parts ws i =
      sets_behind ws (n ∷ blocks part_words fs) gs (suc (length fs * Size.lines)) i
      (ap suc (length_blocks part_words Size.lines length-part_words fs))

-- ---- lines mentioned

unfoldable with_mentions : List ℕ → (ℕ → ℕ) → ℕ → ℕ
with_mentions ls m k = pick (member k ls) 1 (m k)

mentions-one : (l : ℕ) (ls : List ℕ) (m : ℕ → ℕ) (k : ℕ) → with_mentions ls (with_mentions (l ∷ []) m) k ≡ with_mentions (l ∷ ls) m k
unfolding with_mentions member pick
mentions-one l ls m k = go (eqb l k) (member k ls)
  where
    go : (a b : Bool) → pick b 1 (pick (a || false) 1 (m k)) ≡ pick (a || b) 1 (m k)
    go true true = refl
    go true false = refl
    go false true = refl
    go false false = refl

module _ (n : ℕ) (d o r : ℕ → ℕ) (gs : List ℕ) where
  mention_all-laid : (ls : List ℕ) (m : ℕ → ℕ) → any_line_bad ls ≡ false
      → mention_all ls (laid n (d ∷ o ∷ m ∷ r ∷ []) gs) ≡ laid n (d ∷ o ∷ with_mentions ls m ∷ r ∷ []) gs
  unfolding mention_all any_line_bad
  mention_all-laid [] m h = ap (λ (f : ℕ → ℕ). laid n (d ∷ o ∷ f ∷ r ∷ []) gs) (fun_ext (λ k. unfold with_mentions member pick in refl))
  mention_all-laid (l ∷ ls) m h =
      let range = line_bad-range l (or_left (line_bad l) (any_line_bad ls) h) in
      ap (mention_all ls)
      (set-part n (d ∷ o ∷ m ∷ r ∷ []) gs 2 l 1 (with_mentions (l ∷ []) m) (omega arith) range.0 range.1
      (unfold with_mentions member pick in rw (eq-eqb l l refl))
      (λ k apart. unfold with_mentions member pick in rw (ne_eqb l k (λ e. apart (sym e)))))
      ∙ mention_all-laid ls (with_mentions (l ∷ []) m) (or_right (line_bad l) (any_line_bad ls) h)
      ∙ ap (λ (f : ℕ → ℕ). laid n (d ∷ o ∷ f ∷ r ∷ []) gs) (fun_ext (mentions-one l ls m))

-- ---- the words of a line after one statement more

module _ (ss : List Statement) (s : Statement) where
  abbrev after : List Statement
  after = ss ++ (s ∷ [])

  more-mentioned : (k : ℕ) → with_mentions (lines_of s) (mention_word ss) k ≡ mention_word after k
  unfolding with_mentions mention_word mentioned mentioned_lines pick
  more-mentioned k = rw (member-more k lines_of ss s) (go (member k (lines_of s)) (member k (flat_map lines_of ss)))
    where
      go : (a b : Bool) → ◌≡◌ {A = ℕ} (pick a 1 (pick b 1 0)) (pick (b || a) 1 0)
      go true true = refl
      go true false = refl
      go false true = refl
      go false false = refl

  is_marked-more : (m : Mark) (k : ℕ) → is_marked m k after ≡ (is_marked m k ss || member k (lines_marked m s))
  unfolding is_marked marked_lines
  is_marked-more m k = member-more k (lines_marked m) ss s

  claimed-more : (k : ℕ) → claimed k after ≡ (claimed k ss || member k (lines_claimed s))
  unfolding claimed claimed_lines
  claimed-more k = member-more k lines_claimed ss s

  same-output : (k : ℕ) → member k (lines_marked output s) ≡ false → output_word after k ≡ output_word ss k
  unfolding output_word
  same-output k h = rw (is_marked-more output k, h, or-false (is_output k ss))

  same-mark : (m : Mark) → claiming m ≡ true → (k : ℕ) → member k (lines_claimed s) ≡ false → is_marked m k after ≡ is_marked m k ss
  same-mark m c k q =
      let unmarked : member k (lines_marked m s) ≡ false =
      by_test (member k (lines_marked m s)) (λ t. clash (member k (lines_claimed s)) (mark_claims m c k s t) q) (λ t. t)
      in
      rw (is_marked-more m k, unmarked, or-false (is_marked m k ss))

  same-driver : (k : ℕ) → member k (lines_claimed s) ≡ false → driver_word after k ≡ driver_word ss k
  unfolding driver_word
  same-driver k q =
      rw (same-mark input refl k q, same-mark opened refl k q, claimed-more k, q, or-false (claimed k ss))

  same-range : ranges_in s ≡ [] → (k : ℕ) → range_word after k ≡ range_word ss k
  unfolding range_word ranges_of
  same-range h k = rw (one_more_lem ranges_in ss s, h, append-nil (flat_map ranges_in ss))

  same-ranged : lines_ranged s ≡ [] → ranged_word ss ≡ ranged_word after
  unfolding ranged_word some_range ranged_lines
  same-ranged h = rw (one_more_lem lines_ranged ss s, h, append-nil (flat_map lines_ranged ss))

  same-gates : gates_in s ≡ [] → gates_of ss ≡ gates_of after
  unfolding gates_of
  same-gates h = rw (one_more_lem gates_in ss s, h, append-nil (flat_map gates_in ss))

  -- What a statement changes of the parts besides the lines mentioned: part p, at line l alone, to v.
  record Changes (p l v : ℕ) : Type 0 where
    part : p < length (line_parts ss)
    here : get_or (line_parts after) p zero_word l ≡ v
    other : (k : ℕ) → (k ≡ l → ⊥) → get_or (line_parts after) p zero_word k ≡ get_or (line_parts ss) p zero_word k
    rest : set (line_parts ss) p (get_or (line_parts after) p zero_word) ≡ driver_word after ∷ output_word after ∷ mention_word ss ∷ range_word after ∷ []

  stored : (past : List ℕ) (p l v : ℕ) → Changes p l v → line_bad l ≡ false → any_line_bad (lines_of s) ≡ false
      → mention_all (lines_of s) (set (netlist_words ss ++ past) (p * Size.lines + l) v)
      ≡ laid (length (gates_of ss)) (line_parts after) (gates_laid (ranged_word ss) (gates_of ss) past)
  unfolding line_parts
  stored past p l v c good all =
      let n = length (gates_of ss) in
      let gs = gates_laid (ranged_word ss) (gates_of ss) past in
      let range = line_bad-range l good in
      ap (λ (t : List ℕ). mention_all (lines_of s) (set t (p * Size.lines + l) v)) (netlist-laid ss past)
      ∙ ap (mention_all (lines_of s))
      (set-part n (line_parts ss) gs p l v (get_or (line_parts after) p zero_word) c.part range.0 range.1 c.here c.other
      ∙ ap (λ (fs : List (ℕ → ℕ)). laid n fs gs) c.rest)
      ∙ mention_all-laid n (driver_word after) (output_word after) (range_word after) gs (lines_of s) (mention_word ss) all
      ∙ ap (λ (m : ℕ → ℕ). laid n (driver_word after ∷ output_word after ∷ m ∷ range_word after ∷ []) gs) (fun_ext more-mentioned)

-- ---- one statement more

-- The part of the table that a mark goes into.
abbrev part_of : Mark → ℕ
part_of input = 0
part_of output = 1
part_of opened = 0

mark-place : (m : Mark) (l : ℕ) → mark_place m l ≡ part_of m * Size.lines + l
mark-place input l = omega arith
mark-place output l = refl
mark-place opened l = omega arith

module _ (ss : List Statement) (l : ℕ) where
  other-not : (k : ℕ) → (k ≡ l → ⊥) → member k (l ∷ []) ≡ false
  unfolding member
  other-not k apart = rw (ne_eqb l k (λ e. apart (sym e)))

  mark-changes : (m : Mark) → taken m ss l ≡ false → Changes ss (mark m l) (part_of m) l (mark_value m)
  unfolding line_parts lines_marked lines_claimed ranges_in driver_word output_word taken member pick
  mark-changes input free =
      record {
        part = omega arith;
        here = rw (is_marked-more ss (mark input l) input l, eq-eqb l l refl, or-true (is_input l ss));
        other = λ k apart. same-driver ss (mark input l) k (other-not k apart);
        rest =
            ap₂ (λ (f g : ℕ → ℕ). driver_word (ss ++ (mark input l ∷ [])) ∷ f ∷ mention_word ss ∷ g ∷ [])
            (fun_ext (λ k. sym (same-output ss (mark input l) k refl)))
            (fun_ext (λ k. sym (same-range ss (mark input l) refl k)));
      }
  mark-changes output free =
      record {
        part = omega arith;
        here = rw (is_marked-more ss (mark output l) output l, eq-eqb l l refl, or-true (is_output l ss));
        other = λ k apart. same-output ss (mark output l) k (other-not k apart);
        rest =
            ap₂ (λ (f g : ℕ → ℕ). f ∷ output_word (ss ++ (mark output l ∷ [])) ∷ mention_word ss ∷ g ∷ [])
            (fun_ext (λ k. sym (same-driver ss (mark output l) k refl)))
            (fun_ext (λ k. sym (same-range ss (mark output l) refl k)));
      }
  mark-changes opened free =
      let s = mark opened l in
      record {
        part = omega arith;
        here =
            rw (
              is_marked-more ss s input l,
              is_marked-more ss s opened l,
              unclaimed_marked input refl l ss free,
              eq-eqb l l refl,
              or-true (is_open l ss),
            );
        other = λ k apart. same-driver ss s k (other-not k apart);
        rest =
            ap₂ (λ (f g : ℕ → ℕ). driver_word (ss ++ (s ∷ [])) ∷ f ∷ mention_word ss ∷ g ∷ [])
            (fun_ext (λ k. sym (same-output ss s k refl)))
            (fun_ext (λ k. sym (same-range ss s refl k)));
      }

pub stored-mark : (ss : List Statement) (past : List ℕ) (m : Mark) (l : ℕ) → line_bad l ≡ false → taken m ss l ≡ false
    → mention_all (l ∷ []) (set (netlist_words ss ++ past) (mark_place m l) (mark_value m)) ≡ netlist_words (ss ++ (mark m l ∷ [])) ++ past
unfolding lines_of any_line_bad gates_in lines_ranged
stored-mark ss past m l good free =
    let s = mark m l in
    ap (λ (i : ℕ). mention_all (l ∷ []) (set (netlist_words ss ++ past) i (mark_value m))) (mark-place m l)
    ∙ stored ss s past (part_of m) l (mark_value m) (mark-changes ss l m free) good (rw good)
    ∙ ap₂ (λ (gs : List Gate) (w : ℕ). laid (length gs) (line_parts (ss ++ (s ∷ []))) (gates_laid w gs past)) (same-gates ss s refl) (same-ranged ss s refl)
    ∙ sym (netlist-laid (ss ++ (s ∷ [])) past)

-- ---- a range

of_range-append : (f : Range → ℕ) (x : ℕ) (rs qs : List Range) (l : ℕ) → member l (range_lines rs) ≡ false
    → of_range f x (rs ++ qs) l ≡ of_range f x qs l
unfolding of_range range_lines member pick
of_range-append f x [] qs l h = refl
of_range-append f x (r ∷ rs) qs l h =
    rw (
      or_left (eqb r.line l) (member l (range_lines rs)) h,
      of_range-append f x rs qs l (or_right (eqb r.line l) (member l (range_lines rs)) h),
    )

of_range-other : (f : Range → ℕ) (x : ℕ) (rs : List Range) (r : Range) (l : ℕ) → (l ≡ r.line → ⊥)
    → of_range f x (rs ++ (r ∷ [])) l ≡ of_range f x rs l
unfolding of_range pick
of_range-other f x [] r l h = rw (ne_eqb r.line l (λ e. h (sym e)))
of_range-other f x (q ∷ rs) r l h = rw (of_range-other f x rs r l h)

range-changes : (ss : List Statement) (r : Range) → has_range r.line ss ≡ false → Changes ss (priced r) 3 r.line (packed r)
unfolding has_range line_parts lines_marked lines_claimed member range_word ranges_of ranges_in of_range pick
range-changes ss r free =
    let s = priced r in
    let none : member r.line (range_lines (flat_map ranges_in ss)) ≡ false = rw (ranged-lines ss) at free in
    record {
      part = omega arith;
      here = rw (one_more_lem ranges_in ss s, of_range-append packed 0 (flat_map ranges_in ss) (r ∷ []) r.line none, eq-eqb r.line r.line refl);
      other = λ k apart. rw (one_more_lem ranges_in ss s) (of_range-other packed 0 (flat_map ranges_in ss) r k apart);
      rest =
          ap₂ (λ (f g : ℕ → ℕ). f ∷ g ∷ mention_word ss ∷ range_word (ss ++ (s ∷ [])) ∷ [])
          (fun_ext (λ k. sym (same-driver ss s k refl)))
          (fun_ext (λ k. sym (same-output ss s k refl)));
    }

some_more : (ls : List ℕ) (l : ℕ) → some_line (ls ++ (l ∷ [])) ≡ true
unfolding some_line
some_more [] l = refl
some_more (k ∷ ls) l = refl

now_ranged : (ss : List Statement) (r : Range) → ranged_word (ss ++ (priced r ∷ [])) ≡ 1
unfolding ranged_word some_range ranged_lines lines_ranged pick
now_ranged ss r = rw (one_more_lem lines_ranged ss (priced r), some_more (flat_map lines_ranged ss) r.line)

pub stored-range : (ss : List Statement) (past : List ℕ) (r : Range) → line_bad r.line ≡ false → has_range r.line ss ≡ false
    → range_stored r (netlist_words ss ++ past) ≡ netlist_words (ss ++ (priced r ∷ [])) ++ past
unfolding range_stored gates_laid line_parts lines_of any_line_bad gates_in
stored-range ss past r good free =
    let s = priced r in
    let fs = line_parts (ss ++ (s ∷ [])) in
    ap (λ (t : List ℕ). set t ranged_place 1) (stored ss s past 3 r.line (packed r) (range-changes ss r free) good (rw good))
    ∙ sets-behind-parts (length (gates_of ss)) fs (gates_laid (ranged_word ss) (gates_of ss) past) (1 ∷ []) 0
    ∙ ap₂ (λ (gs : List Gate) (w : ℕ). laid (length gs) fs (gates_laid w gs past)) (same-gates ss s refl) (sym (now_ranged ss r))
    ∙ sym (netlist-laid (ss ++ (s ∷ [])) past)

gate-changes : (ss : List Statement) (g : Gate) → claimed g.line ss ≡ false → Changes ss (gate g) 0 g.line 2
unfolding line_parts lines_marked lines_claimed ranges_in member driver_word pick
gate-changes ss g free =
    let s = gate g in
    let l = g.line in
    record {
      part = omega arith;
      here =
          rw (
            is_marked-more ss s input l,
            is_marked-more ss s opened l,
            claimed-more ss s l,
            unclaimed_marked input refl l ss free,
            unclaimed_marked opened refl l ss free,
            free,
            eq-eqb l l refl,
          );
      other = λ k apart. same-driver ss s k (other-not ss l k apart);
      rest =
          ap₂ (λ (f g : ℕ → ℕ). driver_word (ss ++ (s ∷ [])) ∷ f ∷ mention_word ss ∷ g ∷ [])
          (fun_ext (λ k. sym (same-output ss s k refl)))
          (fun_ext (λ k. sym (same-range ss s refl k)));
    }

one-gate : (w : ℕ) (gs : List Gate) (past : List ℕ) (g : Gate) → length gs < Size.gates
    → sets (gates_laid w gs past) (1 + length gs * Size.gate_words) (gate_words g) ≡ gates_laid w (gs ++ (g ∷ [])) past
unfolding gates_laid blocks
one-gate w gs past g few =
    let bs = blocks gate_words gs in
    let size = Size.gates * Size.gate_words in
    let long = length_blocks gate_words Size.gate_words length-gate_words gs in
    sets_behind (gate_words g) (w ∷ []) (fitted 0 size bs ++ past) 1 (length gs * Size.gate_words) refl
    ∙ ap (λ (l : List ℕ). w ∷ l)
    (sets-front (gate_words g) (fitted 0 size bs) past (length gs * Size.gate_words)
    (rw (length-gate_words g, length-fitted 0 size bs) (omega arith))
    ∙ ap (λ (l : List ℕ). l ++ past)
    (ap (λ (i : ℕ). sets (fitted 0 size bs) i (gate_words g)) (sym long)
    ∙ sets-fitted 0 size (gate_words g) bs
    ∙ ap (fitted 0 size) (sym (blocks_append gate_words gs (g ∷ []) ∙ ap (λ (l : List ℕ). bs ++ l) (append-nil (gate_words g))))))

pub stored-gate : (ss : List Statement) (past : List ℕ) (g : Gate) → any_line_bad (g.line ∷ g.pins) ≡ false
    → claimed g.line ss ≡ false → length (gates_of ss) < Size.gates
    → set
    (sets (mention_all (g.line ∷ g.pins) (set (netlist_words ss ++ past) (driver_place g.line) 2))
    (gate_place (length (gates_of ss))) (gate_words g)) 0 (length (gates_of ss) + 1)
    ≡ netlist_words (ss ++ (gate g ∷ [])) ++ past
unfolding lines_of any_line_bad gates_in lines_ranged line_parts
stored-gate ss past g good free few =
    let s = gate g in
    let l = g.line in
    let n = length (gates_of ss) in
    let fs = line_parts (ss ++ (s ∷ [])) in
    let gates : gates_of (ss ++ (s ∷ [])) ≡ gates_of ss ++ (g ∷ []) = unfold gates_of in one_more_lem gates_in ss s in
    let count : n + 1 ≡ length (gates_of (ss ++ (s ∷ []))) = rw gates (sym (length-append (gates_of ss) (g ∷ []))) in
    ap (λ (i : ℕ). set (sets (mention_all (l ∷ g.pins) (set (netlist_words ss ++ past) i 2)) (gate_place n) (gate_words g)) 0 (n + 1))
    (omega arith)
    ∙ ap (λ (t : List ℕ). set (sets t (gate_place n) (gate_words g)) 0 (n + 1))
    (stored ss s past 0 l 2 (gate-changes ss g free) (or_left (line_bad l) (any_line_bad g.pins) good) good)
    ∙ ap (λ (t : List ℕ). set t 0 (n + 1))
    (ap (λ (i : ℕ). sets (laid n fs (gates_laid (ranged_word ss) (gates_of ss) past)) i (gate_words g)) (omega arith)
    ∙ sets-behind-parts n fs (gates_laid (ranged_word ss) (gates_of ss) past) (gate_words g) (1 + n * Size.gate_words)
    ∙ ap (laid n fs) (one-gate (ranged_word ss) (gates_of ss) past g few))
    ∙ set-count n fs (gates_laid (ranged_word ss) (gates_of ss ++ (g ∷ [])) past) (n + 1)
    ∙ rw (count, ← gates, same-ranged ss s refl) (sym (netlist-laid (ss ++ (s ∷ [])) past))
