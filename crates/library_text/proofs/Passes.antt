-- The walk over a row line, tied to the definitions of the library text.
use Rattle.common_laws.proofs.Base.{Bool, true, false, not, ◌&&◌, ◌||◌, or-false, or-true, or_assoc, List, [], ◌∷◌, ◌++◌, append_assoc, Option, none, some, ◌≡◌, refl, sym, ap, ◌∙◌}
use Rattle.common_laws.proofs.Base.{ℕ, zero, suc, ◌+◌, ◌*◌, ◌/◌, ◌%◌, ◌^◌, ◌≤◌, ◌<◌, max, min, pow-suc, pow-le-pow_right, add-one, arith, leb, ltb, eqb, length, get_or, drop}
use Rattle.common_laws.proofs.Base.{length-append, pow_pos, ne_eqb, lt-ltb, le-ltb, le-leb, lt-leb, ltb-true, ltb-false, leb-true, leb-false}
use native.Mathlib.Nat.{div-lt_iff_lt-mul}
use Rattle.std.specs.Prelude as Code
use Rattle.sizes.specs.Sizes as Size
use Rattle.reading.specs.Numbers as No
use Rattle.reading.specs.Choice.{pick}
use Rattle.text.specs.Lines.{same_bytes, part, fields_from, next_after}
use Rattle.text.specs.Numeral.{numeral, value, well_formed, numeral_read}
use Rattle.reading.proofs.Laws.{by_test, clash, and_left, and_right, or_left, or_right}
use Rattle.text.proofs.Laws.{fields_from-step, fields_from-end}
use Rattle.text.proofs.FieldLaws.{numeral-good, numeral-bad}
use Rattle.library_table.specs.Cells.{Row, row_of, Group, bit}
use Rattle.library_table.specs.declared.Heading.{Heading}
use Rattle.library_table.specs.declared.Heading.TheVariants.{Plain as plain, Deep as deep}
use Rattle.library_table.proofs.Any.{any_append}
use Rattle.library_table.specs.declared.Word.{Word}
use Rattle.library_table.specs.declared.Word.TheVariants.{CC, CO, SC, SO}
use Rattle.library_table.specs.Library.{Fields, holds, row_digits, is_row, is_join, is_z, may_join, may_end, rows_form, join_first, with_row, groups_of, any_of, above_rows, above, names_none, observes_not, word_bytes, group_count, column_count, idle, empty_group, excepted, row_idle, rows_after}
use Rattle.library_table.specs.declared.Before.{Before}
use Rattle.library_table.specs.declared.Before.TheVariants.{Word as word, Row as row, Join as join}
use Rattle.library_text.specs.Groups.{marked, opened, group_for, row_added, rowless_added, number_of, Small, InTable, farthest}
use Rattle.library_text.specs.Passes.{or_zero, field_value, field_row, least_columns, asked_of, no_columns, none_passed, field_passed, passed, field_stored, stored, RowsRead, setting, row_number}
use Rattle.library_text.specs.declared.groups.Asked.{Asked}
use Rattle.library_text.specs.declared.groups.Passed.{Passed}
use Rattle.library_table.proofs.Places.{first_most}

-- ---- a field

field_value_lem : (h : Heading) (f : List ℕ) → is_row h f ≡ true → field_value h f ≡ value 8 0 f
unfolding is_row field_value holds or_zero
field_value_lem h f e = by_test (well_formed 8 (row_digits h) f) good bad
  where
    good : well_formed 8 (row_digits h) f ≡ true → or_zero (numeral 8 (row_digits h) f) ≡ value 8 0 f
    good w = ap or_zero (numeral-good 8 (row_digits h) f w)

    bad : well_formed 8 (row_digits h) f ≡ false → or_zero (numeral 8 (row_digits h) f) ≡ value 8 0 f
    bad w = clash (holds (numeral 8 (row_digits h) f)) e (ap holds (numeral-bad 8 (row_digits h) f w))

pub row_value_lem : (h : Heading) (f : List ℕ) → is_row h f ≡ true → field_row h f ≡ row_of h (value 8 0 f)
unfolding field_row
row_value_lem h f e = ap (row_of h) (field_value_lem h f e)

-- A row has no more digits than `octal` reads.
few-digits : (h : Heading) → min (row_digits h) 10 ≡ row_digits h
unfolding row_digits
few-digits plain = refl
few-digits deep = refl

-- A field that `octal` reads is a row, and one that it does not read is none.
module _ (h : Heading) (most : ℕ) (v : Code.Option ℕ) (f : List ℕ) (m : most ≡ row_digits h) (e : numeral_read v ≡ numeral 8 (min most 10) f) where
  told : numeral_read v ≡ numeral 8 (row_digits h) f
  told = e ∙ rw (m, few-digits h)

  pub value_row : (x : ℕ) → v ≡ Code.Some x → (is_row h f ≡ true) × (field_row h f ≡ row_of h x)
  unfolding is_row field_row field_value holds or_zero numeral_read
  value_row x q =
      let same : some x ≡ numeral 8 (row_digits h) f = rw q at told in
      (ap holds (sym same), ap (λ (o : Option ℕ). row_of h (or_zero o)) (sym same))

  pub no_row : v ≡ Code.None → is_row h f ≡ false
  unfolding is_row holds numeral_read
  no_row q = let same : none ≡ numeral 8 (row_digits h) f = rw q at told in ap holds (sym same)

-- ---- a line that has the form, field by field

module _ (h : Heading) (b : Before) (f : List ℕ) (fs : Fields) where
  pub form_join : is_join f ≡ true → rows_form h b (f ∷ fs) ≡ true → (may_join b ≡ true) × (rows_form h join fs ≡ true)
  unfolding rows_form pick
  form_join e k =
      let both : (may_join b && rows_form h join fs) ≡ true = rw e at k in
      (and_left (may_join b) (rows_form h join fs) both, and_right (may_join b) (rows_form h join fs) both)

  pub form_rowless : is_join f ≡ false → is_z f ≡ true → rows_form h b (f ∷ fs) ≡ true → (may_end b ≡ true) × (rows_form h word fs ≡ true)
  unfolding rows_form pick
  form_rowless e z k =
      let both : (may_end b && rows_form h word fs) ≡ true = rw (e, z) at k in
      (and_left (may_end b) (rows_form h word fs) both, and_right (may_end b) (rows_form h word fs) both)

  pub form_row : is_join f ≡ false → is_z f ≡ false → rows_form h b (f ∷ fs) ≡ true → (is_row h f ≡ true) × (rows_form h row fs ≡ true)
  unfolding rows_form pick
  form_row e z k =
      let both : (is_row h f && rows_form h row fs) ≡ true = rw (e, z) at k in
      (and_left (is_row h f) (rows_form h row fs) both, and_right (is_row h f) (rows_form h row fs) both)

-- ---- the groups, from the left

-- Whether the next row goes into the open group.
unfoldable pub joined : Before → Bool
joined word = false
joined row = false
joined join = true

-- The groups of a line from where `done` are whole and `part` is open, behind what was just passed.
unfoldable pub gather : Heading → List Group → Group → Before → Fields → List Group
gather h done part b [] = done ++ (part ∷ [])
gather h done part b (f ∷ fs) =
    pick (is_join f) (gather h done part join fs)
    (pick (is_z f) (gather h (done ++ (part ∷ [])) [] word fs)
    (pick (joined b)
    (gather h done (part ++ (field_row h f ∷ [])) row fs)
    (gather h (done ++ (part ∷ [])) (field_row h f ∷ []) row fs)))

-- Rows in front of the first group.
prepend : Group → List Group → List Group
prepend part [] = part ∷ []
prepend part (g ∷ gs) = (part ++ g) ∷ gs

prepend_row : (part : Group) (r : Row) (j : Bool) (gs : List Group) → prepend part (with_row j r gs) ≡ pick j (prepend (part ++ (r ∷ [])) gs) ((part ++ (r ∷ [])) ∷ gs)
unfolding prepend with_row pick
prepend_row part r false gs = refl
prepend_row part r true [] = refl
prepend_row part r true (g ∷ gs) = ap (λ (x : Group). x ∷ gs) (sym (append_assoc part (r ∷ []) g))

single_row : (r : Row) (j : Bool) (gs : List Group) → pick j (prepend (r ∷ []) gs) ((r ∷ []) ∷ gs) ≡ with_row j r gs
unfolding prepend with_row pick
single_row r false gs = refl
single_row r true [] = refl
single_row r true (g ∷ gs) = refl

-- What the fields still to come make of the open group.
ahead : Heading → Before → Group → Fields → List Group
ahead h word part fs = part ∷ groups_of h fs
ahead h row part fs = pick (join_first fs) (prepend part (groups_of h fs)) (part ∷ groups_of h fs)
ahead h join part fs = prepend part (groups_of h fs)

-- An M, a Z, or what is neither.
pub by_field : {A : Type 0} (f : List ℕ) → (is_join f ≡ true → A) → (is_join f ≡ false → is_z f ≡ true → A) → (is_join f ≡ false → is_z f ≡ false → A) → A
by_field f m z r = by_test (is_join f) m (λ e. by_test (is_z f) (z e) (r e))

pub may-joined : (b : Before) → may_end b ≡ true → joined b ≡ false
unfolding may_end joined
may-joined word h = refl
may-joined row h = refl
may-joined join h = clash false h refl

module _ (h : Heading) where
  -- What is no M leaves the open group as it is, unless an M stands before it.
  ahead-new : (b : Before) (part : Group) (f : List ℕ) (fs : Fields) → joined b ≡ false → is_join f ≡ false → ahead h b part (f ∷ fs) ≡ part ∷ groups_of h (f ∷ fs)
  unfolding ahead joined join_first pick
  ahead-new word part f fs j e = refl
  ahead-new row part f fs j e = rw e
  ahead-new join part f fs j e = clash true refl j

  -- What a field makes of the groups behind it: a group of no row, of one row, or one row more of the open one.
  rowless_ahead : (f : List ℕ) (fs : Fields) → is_join f ≡ false → is_z f ≡ true → ahead h word [] fs ≡ groups_of h (f ∷ fs)
  unfolding ahead groups_of pick
  rowless_ahead f fs e z = rw (e, z)

  row_ahead : (f : List ℕ) (fs : Fields) → is_join f ≡ false → is_z f ≡ false → is_row h f ≡ true → ahead h row (field_row h f ∷ []) fs ≡ groups_of h (f ∷ fs)
  unfolding ahead groups_of pick
  row_ahead f fs e z i = rw (e, z, row_value_lem h f i) (single_row (row_of h (value 8 0 f)) (join_first fs) (groups_of h fs))

  more-ahead : (b : Before) (part : Group) (f : List ℕ) (fs : Fields) → joined b ≡ true → is_join f ≡ false → is_z f ≡ false → is_row h f ≡ true
      → ahead h row (part ++ (field_row h f ∷ [])) fs ≡ ahead h b part (f ∷ fs)
  unfolding ahead groups_of joined pick
  more-ahead word part f fs j e z i = clash false j refl
  more-ahead row part f fs j e z i = clash false j refl
  more-ahead join part f fs j e z i = rw (e, z, row_value_lem h f i) (sym (prepend_row part (row_of h (value 8 0 f)) (join_first fs) (groups_of h fs)))

  module _ (f : List ℕ) (fs : Fields) (rest : (done : List Group) (part : Group) (b : Before) → rows_form h b fs ≡ true → gather h done part b fs ≡ done ++ ahead h b part fs)
      (done : List Group) (part : Group) (b : Before) (k : rows_form h b (f ∷ fs) ≡ true) where
    gather_join : is_join f ≡ true → gather h done part b (f ∷ fs) ≡ done ++ ahead h b part (f ∷ fs)
    unfolding gather ahead groups_of join_first pick may_join
    gather_join e = go b (form_join h b f fs e k).0
      where
        go : (b : Before) → may_join b ≡ true → gather h done part b (f ∷ fs) ≡ done ++ ahead h b part (f ∷ fs)
        go word m = clash false m refl
        go row m = rw e (rest done part join (form_join h b f fs e k).1)
        go join m = clash false m refl

    -- A group behind the open one.
    gather-new : joined b ≡ false → is_join f ≡ false → (c : Before) (g : Group) → rows_form h c fs ≡ true → ahead h c g fs ≡ groups_of h (f ∷ fs)
        → gather h (done ++ (part ∷ [])) g c fs ≡ done ++ ahead h b part (f ∷ fs)
    gather-new j e c g k same =
        rest (done ++ (part ∷ [])) g c k
        ∙ append_assoc done (part ∷ []) (ahead h c g fs)
        ∙ ap (λ (x : List Group). done ++ (part ∷ x)) same
        ∙ ap (λ (x : List Group). done ++ x) (sym (ahead-new b part f fs j e))

    gather_rowless : is_join f ≡ false → is_z f ≡ true → gather h done part b (f ∷ fs) ≡ done ++ ahead h b part (f ∷ fs)
    unfolding gather pick
    gather_rowless e z =
        let good = form_rowless h b f fs e z k in
        rw (e, z) (gather-new (may-joined b good.0) e word [] good.1 (rowless_ahead f fs e z))

    gather_row : is_join f ≡ false → is_z f ≡ false → gather h done part b (f ∷ fs) ≡ done ++ ahead h b part (f ∷ fs)
    unfolding gather pick
    gather_row e z =
        let good = form_row h b f fs e z k in
        by_test (joined b)
        (λ j. rw (e, z, j) (rest done (part ++ (field_row h f ∷ [])) row good.1 ∙ ap (λ (x : List Group). done ++ x) (more-ahead b part f fs j e z good.0)))
        (λ j. rw (e, z, j) (gather-new j e row (field_row h f ∷ []) good.1 (row_ahead f fs e z good.0)))

  gather-ahead : (done : List Group) (part : Group) (b : Before) (fs : Fields) → rows_form h b fs ≡ true → gather h done part b fs ≡ done ++ ahead h b part fs
  unfolding gather ahead rows_form may_end join_first groups_of pick
  gather-ahead done part word [] k = refl
  gather-ahead done part row [] k = refl
  gather-ahead done part join [] k = clash false k refl
  gather-ahead done part b (f ∷ fs) k =
      by_field f
      (gather_join f fs (λ d p c g. gather-ahead d p c fs g) done part b k)
      (gather_rowless f fs (λ d p c g. gather-ahead d p c fs g) done part b k)
      (gather_row f fs (λ d p c g. gather-ahead d p c fs g) done part b k)

  -- The groups of a line that has the form, from its first group: a Z, or a row.
  pub rowless_first : (f : List ℕ) (fs : Fields) → is_join f ≡ false → is_z f ≡ true → rows_form h word (f ∷ fs) ≡ true → gather h [] [] word fs ≡ groups_of h (f ∷ fs)
  rowless_first f fs e z k = gather-ahead [] [] word fs (form_rowless h word f fs e z k).1 ∙ rowless_ahead f fs e z

  pub gather_first : (f : List ℕ) (fs : Fields) → is_join f ≡ false → is_z f ≡ false → rows_form h word (f ∷ fs) ≡ true → gather h [] (field_row h f ∷ []) row fs ≡ groups_of h (f ∷ fs)
  gather_first f fs e z k =
      let good = form_row h word f fs e z k in
      gather-ahead [] (field_row h f ∷ []) row fs good.1 ∙ row_ahead f fs e z good.0

  pub word_first : (f : List ℕ) (fs : Fields) → rows_form h word (f ∷ fs) ≡ true → is_join f ≡ false
  unfolding may_join
  word_first f fs k = by_test (is_join f) (λ e. clash false (form_join h word f fs e k).0 refl) (λ e. e)

-- ---- tests of groups

-- A number made of the elements from the left.
over : {A : Type 0} → (ℕ → A → ℕ) → ℕ → List A → ℕ
over f n [] = n
over f n (x ∷ xs) = over f (f n x) xs

over_last : {A : Type 0} (f : ℕ → A → ℕ) (n : ℕ) (xs : List A) (x : A) → over f n (xs ++ (x ∷ [])) ≡ f (over f n xs) x
unfolding over
over_last f n [] x = refl
over_last f n (y ∷ xs) x = over_last f (f n y) xs x

-- A test of the number, where it holds of a step just where it held before or holds of the element.
over-test : {A : Type 0} (t : ℕ → Bool) (p : A → Bool) (f : ℕ → A → ℕ) → ((n : ℕ) (x : A) → t (f n x) ≡ (t n || p x))
    → (n : ℕ) (xs : List A) → t (over f n xs) ≡ (t n || any_of p xs)
unfolding over any_of
over-test t p f step n [] = sym (or-false (t n))
over-test t p f step n (x ∷ xs) =
    over-test t p f step (f n x) xs ∙ ap (λ (b : Bool). b || any_of p xs) (step n x) ∙ or_assoc (t n) (p x) (any_of p xs)

ltb_max : (k a b : ℕ) → ltb k (max a b) ≡ (ltb k a || ltb k b)
ltb_max k a b =
    by_test (ltb k a)
    (λ t. rw t (lt-ltb k (max a b) (omega (arith, ltb-true k a t))))
    (λ t. rw t
    (by_test (ltb k b)
    (λ u. rw u (lt-ltb k (max a b) (omega (arith, ltb-true k b u))))
    (λ u. rw u (le-ltb k (max a b) (omega (arith, ltb-false k a t, ltb-false k b u))))))

leb_max : (k a b : ℕ) → leb k (max a b) ≡ (leb k a || leb k b)
leb_max k a b =
    by_test (leb k a)
    (λ t. rw t (le-leb k (max a b) (omega (arith, leb-true k a t))))
    (λ t. rw t
    (by_test (leb k b)
    (λ u. rw u (le-leb k (max a b) (omega (arith, leb-true k b u))))
    (λ u. rw u (lt-leb k (max a b) (omega (arith, leb-false k a t, leb-false k b u))))))

min_ltb : (k a b : ℕ) → ltb (min a b) k ≡ (ltb a k || ltb b k)
min_ltb k a b =
    by_test (ltb a k)
    (λ t. rw t (lt-ltb (min a b) k (omega (arith, ltb-true a k t))))
    (λ t. rw t
    (by_test (ltb b k)
    (λ u. rw u (lt-ltb (min a b) k (omega (arith, ltb-true b k u))))
    (λ u. rw u (le-ltb (min a b) k (omega (arith, ltb-false a k t, ltb-false b k u))))))

-- The rows of the longest group, and the highest and the lowest columns of a row.
longer : ℕ → Group → ℕ
longer n g = max n (length g)

higher : ℕ → Row → ℕ
higher n r = max n r.columns

deeper : ℕ → Row → ℕ
deeper n r = min n r.columns

pub longest_of : List Group → ℕ
longest_of gs = over longer 0 gs

pub most_of : List Group → ℕ
most_of gs = over (over higher) 0 gs

pub least_of : List Group → ℕ
least_of gs = over (over deeper) no_columns gs

longest-above : (gs : List Group) → ltb Size.rows (longest_of gs) ≡ any_of above_rows gs
unfolding longest_of longer above_rows
longest-above gs = over-test (ltb Size.rows) above_rows longer step 0 gs
  where
    step : (n : ℕ) (g : Group) → ltb Size.rows (longer n g) ≡ (ltb Size.rows n || above_rows g)
    step n g = ltb_max Size.rows n (length g)

most-above : (k : ℕ) → 0 < k → (gs : List Group) → leb k (most_of gs) ≡ any_of (any_of (λ r. leb k r.columns)) gs
unfolding most_of higher
most-above k h gs =
    over-test (leb k) (any_of (λ r. leb k r.columns)) (over higher) (λ n g. over-test (leb k) (λ r. leb k r.columns) higher step n g) 0 gs
    ∙ rw (lt-leb k 0 h)
  where
    step : (n : ℕ) (r : Row) → leb k (higher n r) ≡ (leb k n || leb k r.columns)
    step n r = leb_max k n r.columns

least-below : (k : ℕ) → k ≤ no_columns → (gs : List Group) → ltb (least_of gs) k ≡ any_of (any_of (λ r. ltb r.columns k)) gs
unfolding least_of deeper
least-below k h gs =
    over-test (λ n. ltb n k) (any_of (λ r. ltb r.columns k)) (over deeper) (λ n g. over-test (λ n. ltb n k) (λ r. ltb r.columns k) deeper step n g) no_columns gs
    ∙ rw (le-ltb no_columns k h)
  where
    step : (n : ℕ) (r : Row) → ltb (deeper n r) k ≡ (ltb n k || ltb r.columns k)
    step n r = min_ltb k n r.columns

-- A row more in the last group, and a group of one row behind the others.
over_row : (f : ℕ → Row → ℕ) (n : ℕ) (done : List Group) (part : Group) (r : Row)
    → over (over f) n (done ++ ((part ++ (r ∷ [])) ∷ [])) ≡ f (over (over f) n (done ++ (part ∷ []))) r
over_row f n done part r =
    over_last (over f) n done (part ++ (r ∷ []))
    ∙ over_last f (over (over f) n done) part r
    ∙ ap (λ (m : ℕ). f m r) (sym (over_last (over f) n done part))

over-new : (f : ℕ → Row → ℕ) (n : ℕ) (gs : List Group) (r : Row) → over (over f) n (gs ++ ((r ∷ []) ∷ [])) ≡ f (over (over f) n gs) r
unfolding over
over-new f n gs r = over_last (over f) n gs (r ∷ [])

longest_row : (done : List Group) (part : Group) (r : Row)
    → longest_of (done ++ ((part ++ (r ∷ [])) ∷ [])) ≡ max (longest_of (done ++ (part ∷ []))) (length part + 1)
unfolding longest_of longer
longest_row done part r =
    over_last longer 0 done (part ++ (r ∷ []))
    ∙ rw (length-append part (r ∷ []), over_last longer 0 done part) (omega arith)

-- A group of no row behind the others.
over_none : (f : ℕ → Row → ℕ) (n : ℕ) (gs : List Group) → over (over f) n (gs ++ ([] ∷ [])) ≡ over (over f) n gs
unfolding over
over_none f n gs = over_last (over f) n gs []

longest-none : (gs : List Group) → longest_of (gs ++ ([] ∷ [])) ≡ longest_of gs
unfolding longest_of longer
longest-none gs = over_last longer 0 gs [] ∙ omega arith

-- Whether a group has no row: a new one has none or a row, and a row more changes nothing where there was one.
none-new : (gs : List Group) → any_of empty_group (gs ++ ([] ∷ [])) ≡ true
unfolding any_of empty_group
none-new gs = any_append empty_group gs ([] ∷ []) ∙ or-true (any_of empty_group gs)

none_row : (gs : List Group) (g : Group) → empty_group g ≡ false → any_of empty_group (gs ++ (g ∷ [])) ≡ any_of empty_group gs
unfolding any_of
none_row gs g e = any_append empty_group gs (g ∷ []) ∙ rw e (or-false (any_of empty_group gs))

pub row_some : (part : Group) (r : Row) → empty_group (part ++ (r ∷ [])) ≡ false
unfolding empty_group
row_some part r = ne_eqb (length (part ++ (r ∷ []))) 0 (λ e. omega (arith, length-append part (r ∷ [])))

longest-new : (gs : List Group) (r : Row) → longest_of (gs ++ ((r ∷ []) ∷ [])) ≡ max (longest_of gs) 1
unfolding longest_of longer
longest-new gs r = over_last longer 0 gs (r ∷ [])

-- Two tests that agree on the rows of which a third does not hold.
any-agree : (h p q : Row → Bool) → ((r : Row) → h r ≡ false → p r ≡ q r) → (g : Group) → any_of h g ≡ false → any_of p g ≡ any_of q g
unfolding any_of
any-agree h p q same [] e = refl
any-agree h p q same (r ∷ g) e =
    rw (same r (or_left (h r) (any_of h g) e), any-agree h p q same g (or_right (h r) (any_of h g) e))

any-groups : (h p q : Row → Bool) → ((r : Row) → h r ≡ false → p r ≡ q r) → (gs : List Group)
    → any_of (any_of h) gs ≡ false → any_of (any_of p) gs ≡ any_of (any_of q) gs
unfolding any_of
any-groups h p q same [] e = refl
any-groups h p q same (g ∷ gs) e =
    rw
    (any-agree h p q same g (or_left (any_of h g) (any_of (any_of h) gs) e), any-groups h p q same gs (or_right (any_of h g) (any_of (any_of h) gs) e))

-- ---- the walk: form

either-bad : (x m r : Bool) → ((x || not m) || not r) ≡ (x || not (m && r))
either-bad true m r = refl
either-bad false true r = refl
either-bad false false r = refl

group_bad : (a : Asked) (p : Passed) → (group_for a p).bad ≡ p.bad
unfolding group_for opened pick
group_bad a p = go (may_end p.before)
  where
    go : (t : Bool) → (pick t (opened a p) p).bad ≡ p.bad
    go true = refl
    go false = refl

module _ (a : Asked) where
  abbrev ends : Passed → Bool
  ends p = p.bad || not (may_end p.before)

  -- A field is out of place, or the last one is an M, just where the line does not have the form.
  form-passed : (fs : Fields) (p : Passed) → ends (passed a p fs) ≡ (p.bad || not (rows_form a.heading p.before fs))
  unfolding passed field_passed rows_form pick marked row_added rowless_added
  form-passed [] p = refl
  form-passed (f ∷ fs) p = form-passed fs (field_passed a p f) ∙ step (is_join f) (is_z f) (is_row a.heading f)
    where
      step : (j z i : Bool)
          → let q =
          pick j (marked p join (p.bad || not (may_join p.before)))
          (pick z (rowless_added a p) (pick i (row_added (group_for a p) (field_row a.heading f).columns) (marked p p.before true))) in
          (q.bad || not (rows_form a.heading q.before fs))
          ≡ (p.bad || not (pick j (may_join p.before && rows_form a.heading join fs)
          (pick z (may_end p.before && rows_form a.heading word fs) (i && rows_form a.heading row fs))))
      step true z i = either-bad p.bad (may_join p.before) (rows_form a.heading join fs)
      step false true i = either-bad p.bad (may_end p.before) (rows_form a.heading word fs)
      step false false true = rw (group_bad a p)
      step false false false = sym (or-true p.bad)

-- ---- the walk: groups

-- Whether the open group is one without rows.
unfoldable pub closed : Before → Bool
closed word = true
closed row = false
closed join = false

joined-closed : (b : Before) → joined b ≡ true → closed b ≡ false
unfolding joined closed
joined-closed word h = clash false h refl
joined-closed row h = refl
joined-closed join h = refl

pub joined-ends : (b : Before) → may_end b ≡ not (joined b)
unfolding joined may_end
joined-ends word = refl
joined-ends row = refl
joined-ends join = refl

module _ (a : Asked) where
  -- What is passed where `done` are whole, `part` is open, behind what was just passed.
  abbrev pub shown : List Group → Group → Before → Passed
  shown done part b =
      record {
        before = b;
        groups = length done + 1;
        rows = length part;
        place = a.place + length done * Size.group_words;
        bad = false;
        rowless = any_of empty_group (done ++ (part ∷ []));
        longest = longest_of (done ++ (part ∷ []));
        most = most_of (done ++ (part ∷ []));
        least = least_of (done ++ (part ∷ []));
      }

  rowless_shown : rowless_added a none_passed ≡ shown [] [] word
  unfolding rowless_added opened may_end any_of empty_group longest_of most_of least_of over longer higher deeper
  rowless_shown = refl

  shown_rowless : (done : List Group) (part : Group) (b : Before) → joined b ≡ false → rowless_added a (shown done part b) ≡ shown (done ++ (part ∷ [])) [] word
  unfolding rowless_added opened most_of least_of
  shown_rowless done part b j =
      let gs = done ++ (part ∷ []) in
      rw (joined-ends b, j, length-append done (part ∷ []), none-new gs, longest-none gs, over_none higher 0 gs, over_none deeper no_columns gs)

  module _ (x : Row) where
    shown_first : row_added (opened a none_passed) x.columns ≡ shown [] (x ∷ []) row
    unfolding row_added opened any_of empty_group longest_of most_of least_of over longer higher deeper
    shown_first = refl

    shown-more : (done : List Group) (part : Group) (b : Before) → empty_group part ≡ false → row_added (shown done part b) x.columns ≡ shown done (part ++ (x ∷ [])) row
    unfolding row_added most_of least_of higher deeper
    shown-more done part b some-row =
        rw
        (length-append part (x ∷ []), none_row done part some-row, none_row done (part ++ (x ∷ [])) (row_some part x), longest_row done part x, over_row higher 0 done part x, over_row deeper no_columns done part x)

    shown-new : (done : List Group) (part : Group) (b : Before) → row_added (opened a (shown done part b)) x.columns ≡ shown (done ++ (part ∷ [])) (x ∷ []) row
    unfolding row_added opened most_of least_of higher deeper
    shown-new done part b =
        let gs = done ++ (part ∷ []) in
        rw
        (length-append done (part ∷ []), none_row gs (x ∷ []) (row_some [] x), longest-new gs x, over-new higher 0 gs x, over-new deeper no_columns gs x)

  -- What each field makes of it.
  module _ (f : List ℕ) (done : List Group) (part : Group) where
    pub join_passed : is_join f ≡ true → field_passed a (shown done part row) f ≡ shown done part join
    unfolding field_passed marked may_join pick
    join_passed e = rw e

    module _ (b : Before) (e : is_join f ≡ false) where
      pub rowless_passed : is_z f ≡ true → joined b ≡ false → field_passed a (shown done part b) f ≡ shown (done ++ (part ∷ [])) [] word
      unfolding field_passed pick
      rowless_passed z j = rw (e, z) (shown_rowless done part b j)

      pub more-passed : is_z f ≡ false → is_row a.heading f ≡ true → empty_group part ≡ closed b → joined b ≡ true → field_passed a (shown done part b) f ≡ shown done (part ++ (field_row a.heading f ∷ [])) row
      unfolding field_passed group_for pick
      more-passed z g k j = rw (e, z, g, joined-ends b, j) (shown-more (field_row a.heading f) done part b (k ∙ joined-closed b j))

      pub new-passed : is_z f ≡ false → is_row a.heading f ≡ true → joined b ≡ false → field_passed a (shown done part b) f ≡ shown (done ++ (part ∷ [])) (field_row a.heading f ∷ []) row
      unfolding field_passed group_for pick
      new-passed z g j = rw (e, z, g, joined-ends b, j) (shown-new (field_row a.heading f) done part b)

  module _ (f : List ℕ) (e : is_join f ≡ false) where
    pub none_passed_lem : is_z f ≡ true → field_passed a none_passed f ≡ shown [] [] word
    unfolding field_passed pick
    none_passed_lem z = rw (e, z) rowless_shown

    pub first_passed : is_z f ≡ false → is_row a.heading f ≡ true → field_passed a none_passed f ≡ shown [] (field_row a.heading f ∷ []) row
    unfolding field_passed group_for may_end pick
    first_passed z g = rw (e, z, g) (shown_first (field_row a.heading f))

  -- The numbers behind 3, of what is passed, and of groups.
  abbrev lower : Passed → ℕ
  lower p =
      pick (not (eqb p.groups a.groups) || ltb Size.rows p.longest) No.groups_bad
      (pick (leb a.limit p.most) No.bit_above
      (pick (not (a.excepts && p.rowless) && ltb p.least a.least) No.row_idle 0))

  abbrev weights : List Group → ℕ
  weights gs =
      pick (not (eqb (length gs) a.groups) || ltb Size.rows (longest_of gs)) No.groups_bad
      (pick (leb a.limit (most_of gs)) No.bit_above
      (pick (not (a.excepts && any_of empty_group gs) && ltb (least_of gs) a.least) No.row_idle 0))

  module _ (f : List ℕ) (fs : Fields)
      (rest : (done : List Group) (part : Group) (b : Before) → empty_group part ≡ closed b → rows_form a.heading b fs ≡ true → lower (passed a (shown done part b) fs) ≡ weights (gather a.heading done part b fs))
      (done : List Group) (part : Group) (b : Before) (k : empty_group part ≡ closed b) (h : rows_form a.heading b (f ∷ fs) ≡ true) where
    walked : {p q : Passed} → p ≡ q → lower (passed a p fs) ≡ lower (passed a q fs)
    walked e = ap (λ (q : Passed). lower (passed a q fs)) e

    lower_join : is_join f ≡ true → lower (passed a (shown done part b) (f ∷ fs)) ≡ weights (gather a.heading done part b (f ∷ fs))
    unfolding passed gather pick may_join closed
    lower_join e = go b k (form_join a.heading b f fs e h).0
      where
        go : (b : Before) → empty_group part ≡ closed b → may_join b ≡ true → lower (passed a (shown done part b) (f ∷ fs)) ≡ weights (gather a.heading done part b (f ∷ fs))
        go word k m = clash false m refl
        go row k m = rw e (walked (join_passed f done part e) ∙ rest done part join k (form_join a.heading b f fs e h).1)
        go join k m = clash false m refl

    lower_rowless : is_join f ≡ false → is_z f ≡ true → lower (passed a (shown done part b) (f ∷ fs)) ≡ weights (gather a.heading done part b (f ∷ fs))
    unfolding passed gather pick empty_group closed
    lower_rowless e z =
        let good = form_rowless a.heading b f fs e z h in
        rw (e, z) (walked (rowless_passed f done part b e z (may-joined b good.0)) ∙ rest (done ++ (part ∷ [])) [] word refl good.1)

    lower_row : is_join f ≡ false → is_z f ≡ false → lower (passed a (shown done part b) (f ∷ fs)) ≡ weights (gather a.heading done part b (f ∷ fs))
    unfolding passed gather pick closed
    lower_row e z =
        let good = form_row a.heading b f fs e z h in
        let r = field_row a.heading f in
        by_test (joined b)
        (λ j. rw (e, z, j) (walked (more-passed f done part b e z good.0 k j) ∙ rest done (part ++ (r ∷ [])) row (row_some part r) good.1))
        (λ j. rw (e, z, j) (walked (new-passed f done part b e z good.0 j) ∙ rest (done ++ (part ∷ [])) (r ∷ []) row (row_some [] r) good.1))

  lower-gather : (fs : Fields) (done : List Group) (part : Group) (b : Before) → empty_group part ≡ closed b → rows_form a.heading b fs ≡ true
      → lower (passed a (shown done part b) fs) ≡ weights (gather a.heading done part b fs)
  unfolding passed gather
  lower-gather [] done part b k h = rw (length-append done (part ∷ []))
  lower-gather (f ∷ fs) done part b k h =
      by_field f
      (lower_join f fs (λ d p c i g. lower-gather fs d p c i g) done part b k h)
      (lower_rowless f fs (λ d p c i g. lower-gather fs d p c i g) done part b k h)
      (lower_row f fs (λ d p c i g. lower-gather fs d p c i g) done part b k h)

  lower-groups : (fs : Fields) → rows_form a.heading word fs ≡ true → lower (passed a none_passed fs) ≡ weights (groups_of a.heading fs)
  unfolding passed groups_of longest_of most_of least_of over any_of empty_group closed
  lower-groups [] h = refl
  lower-groups (f ∷ fs) h =
      let e : is_join f ≡ false = word_first a.heading f fs h in
      by_test (is_z f)
      (λ z.
      ap (λ (q : Passed). lower (passed a q fs)) (none_passed_lem f e z)
      ∙ lower-gather fs [] [] word refl (form_rowless a.heading word f fs e z h).1
      ∙ ap weights (rowless_first a.heading f fs e z h))
      (λ z.
      let good = form_row a.heading word f fs e z h in
      ap (λ (q : Passed). lower (passed a q fs)) (first_passed f e z good.0)
      ∙ lower-gather fs [] (field_row a.heading f ∷ []) row (row_some [] (field_row a.heading f)) good.1
      ∙ ap weights (gather_first a.heading f fs e z h))

  -- The number of the walk, from the form of the fields and their groups.
  number-walk : (fs : Fields) → number_of a (passed a none_passed fs) ≡ pick (rows_form a.heading word fs) (weights (groups_of a.heading fs)) No.library_form
  unfolding number_of pick
  number-walk fs = rw (form-passed a fs none_passed) (by_test (rows_form a.heading word fs) (λ t. rw t (lower-groups fs t)) (λ t. rw t))

-- ---- one turn of the walk over a line

module _ (a : Asked) (p : Passed) (s : List ℕ) (at : ℕ) where
  pub passed-turn : at ≤ length s → passed a p (fields_from s at) ≡ passed a (field_passed a p (part 44 s at)) (fields_from s (next_after s at (part 44 s at)))
  unfolding passed
  passed-turn h = rw (fields_from-step s at h)

  pub passed-ended : length s < at → passed a p (fields_from s at) ≡ p
  unfolding passed
  passed-ended h = rw (fields_from-end s at h)

  pub stored-turn : (table : List ℕ) → at ≤ length s
      → stored a p (fields_from s at) table ≡ stored a (field_passed a p (part 44 s at)) (fields_from s (next_after s at (part 44 s at))) (field_stored a p (part 44 s at) table)
  unfolding stored
  stored-turn table h = rw (fields_from-step s at h)

  pub stored-ended : (table : List ℕ) → length s < at → stored a p (fields_from s at) table ≡ table
  unfolding stored
  stored-ended table h = rw (fields_from-end s at h)

-- The group that a row goes into is small too.
pub group_small : (a : Asked) (p : Passed) (m : ℕ) → Small a p m → ((group_for a p).rows ≤ m) × ((group_for a p).place ≤ a.place + Size.group_words * m)
unfolding group_for pick opened
group_small a p m s = go (may_end p.before)
  where
    go : (t : Bool) → ((pick t (opened a p) p).rows ≤ m) × ((pick t (opened a p) p).place ≤ a.place + Size.group_words * m)
    go true = (omega arith, omega arith)
    go false = (s.rows, s.place)

-- A row can be put into it.
pub group_near : (a : Asked) (p g : Passed) → InTable a p → g ≡ group_for a p → (g.place ≤ farthest) × (g.rows ≤ Size.text_bytes)
group_near a p g near e =
    let small = group_small a p Size.text_bytes near.1 in
    rw e (omega (arith, small.1, near.0), small.0)

-- Counts and places grow by little.
pub field_small : (a : Asked) (p : Passed) (f : List ℕ) (m k : ℕ) → Small a p m → m < k → Small a (field_passed a p f) k
unfolding field_passed group_for pick marked row_added rowless_added opened
field_small a p f m k s h = go (is_join f) (is_z f) (is_row a.heading f) (may_end p.before)
  where
    go : (j z i t : Bool)
        → Small a (pick j (marked p join (p.bad || not (may_join p.before)))
        (pick z (rowless_added a p) (pick i (row_added (pick t (opened a p) p) (field_row a.heading f).columns) (marked p p.before true)))) k
    go true z i t = record { groups = omega arith; rows = omega arith; place = omega arith }
    go false true i t = record { groups = omega arith; rows = omega arith; place = omega arith }
    go false false true true = record { groups = omega arith; rows = omega arith; place = omega arith }
    go false false true false = record { groups = omega arith; rows = omega arith; place = omega arith }
    go false false false t = record { groups = omega arith; rows = omega arith; place = omega arith }

-- ---- words

pub group_count_by : (w : Word) (n : ℕ) → group_count w n ≡ pick (setting w) 2 n
unfolding group_count setting pick
group_count_by CC n = refl
group_count_by CO n = refl
group_count_by SC n = refl
group_count_by SO n = refl

pub column_count_by : (w : Word) (n : ℕ) → column_count w n ≡ pick (setting w) (2 * n) (2 * n + 3)
unfolding column_count setting pick
column_count_by CC n = refl
column_count_by CO n = refl
column_count_by SC n = refl
column_count_by SO n = refl

pub least_columns_by : (w : Word) (n : ℕ) → least_columns w n ≡ pick (setting w) 1 (2 ^ (2 * n + 2))
unfolding least_columns setting pick
least_columns_by CC n = refl
least_columns_by CO n = refl
least_columns_by SC n = refl
least_columns_by SO n = refl

pub excepted_by : (w : Word) (gs : List Group) → excepted w gs ≡ (setting w && any_of empty_group gs)
unfolding excepted setting
excepted_by CC gs = refl
excepted_by CO gs = refl
excepted_by SC gs = refl
excepted_by SO gs = refl

-- ---- the number of a row line, from its walk

least-small : (w : Word) (n : ℕ) → n ≤ Size.pins → least_columns w n ≤ no_columns
unfolding least_columns
least-small CC n h = omega arith
least-small CO n h = let two : 0 < 2 = omega arith in let most : 2 * n + 2 ≤ 18 = omega arith in omega (arith, pow-le-pow_right two most)
least-small SC n h = omega arith
least-small SO n h = let two : 0 < 2 = omega arith in let most : 2 * n + 2 ≤ 18 = omega arith in omega (arith, pow-le-pow_right two most)

-- Of a row without a bit above its columns, the lowest columns tell whether it is idle.
top_bit : (x k : ℕ) → x < 2 ^ (k + 1) → not (eqb (x / 2 ^ k % 2) 1) ≡ ltb x (2 ^ k)
top_bit x k h =
    let m = 2 ^ k in
    let some_power : 0 < m = pow_pos k in
    let below : x < 2 * m = omega (arith, rw (add-one k, pow-suc 2 k) at h) in
    by_test (ltb x m)
    (λ t.
    let less : x / m < 1 = (div-lt_iff_lt-mul {y = 1} some_power).1 (omega (arith, ltb-true x m t)) in
    let none : x / m ≡ 0 = omega arith in
    rw (t, none))
    (λ t.
    let more : x / m < 1 → ⊥ = λ q. omega (arith, (div-lt_iff_lt-mul {y = 1} some_power).0 q, ltb-false x m t) in
    let less : x / m < 2 = (div-lt_iff_lt-mul {y = 2} some_power).1 below in
    let one : x / m ≡ 1 = omega arith in
    rw (t, one))

no_columns_lem : (x : ℕ) → eqb x 0 ≡ ltb x 1
no_columns_lem zero = refl
no_columns_lem (suc x) = rw (ne_eqb (suc x) 0 (λ e. omega arith), le-ltb (suc x) 1 (omega arith))

next : (n : ℕ) → 2 * n + 3 ≡ 2 * n + 2 + 1
next n = omega arith

idle-low : (w : Word) (n : ℕ) (r : Row) → above (column_count w n) r ≡ false → ltb r.columns (least_columns w n) ≡ idle w n r
unfolding above column_count least_columns idle names_none observes_not bit
idle-low CC n r h = sym (no_columns_lem r.columns)
idle-low CO n r h = sym (top_bit r.columns (2 * n + 2) (rw (next n) at (leb-false (2 ^ (2 * n + 3)) r.columns h)))
idle-low SC n r h = sym (no_columns_lem r.columns)
idle-low SO n r h = sym (top_bit r.columns (2 * n + 2) (rw (next n) at (leb-false (2 ^ (2 * n + 3)) r.columns h)))

pub row_formed : (h : Heading) (w : Word) (fs : Fields) → 0 < length fs → holds (rows_after h w fs) ≡ (same_bytes (get_or fs 0 []) (word_bytes w) && rows_form h word (drop 1 fs))
unfolding rows_after holds pick
row_formed h w [] k = absurd (omega arith)
row_formed h w (f ∷ fs) k = go (same_bytes f (word_bytes w) && rows_form h word fs)
  where
    go : (t : Bool) → holds (pick t (some (groups_of h fs)) none) ≡ t
    go true = refl
    go false = refl

pick_and : {A : Type 0} (s t : Bool) (x y : A) → pick (s && t) x y ≡ pick s (pick t x y) y
unfolding pick
pick_and true t x y = refl
pick_and false t x y = refl

-- Where the groups of a word start in the table.
pub asked-place : (cell : ℕ) (h : Heading) (w : Word) (n : ℕ) → cell ≤ Size.cells → (asked_of cell h w n).place ≤ Size.library + Size.cell_words
unfolding asked_of
asked-place cell h w n few = omega (arith, first_most w)

module _ (cell : ℕ) (h : Heading) (w : Word) (n : ℕ) (few : n ≤ Size.pins) where
  abbrev asking : Asked
  asking = asked_of cell h w n

  weights-asked : (gs : List Group) → weights asking gs
      ≡ pick (not (eqb (length gs) (group_count w n)) || any_of above_rows gs) No.groups_bad
      (pick (any_of (any_of (above (column_count w n))) gs) No.bit_above
      (pick (row_idle w n gs) No.row_idle 0))
  unfolding asked_of above row_idle pick
  weights-asked gs =
      rw (longest-above gs, most-above (2 ^ column_count w n) (pow_pos (column_count w n)) gs, least-below (least_columns w n) (least-small w n few) gs, excepted_by w gs)
      (by_test (any_of (any_of (above (column_count w n))) gs)
      (λ t. rw t)
      (λ t. rw (t, any-groups (above (column_count w n)) (λ r. ltb r.columns (least_columns w n)) (idle w n) (idle-low w n) gs t)))

  -- The number of a row line, from the walk over the fields behind its word.
  pub row_number-walk : (fs : Fields) → 0 < length fs
      → row_number h w n fs
      ≡ pick (same_bytes (get_or fs 0 []) (word_bytes w)) (number_of asking (passed asking none_passed (drop 1 fs))) No.library_form
  unfolding row_number asked_of
  row_number-walk fs some-field =
      let gs = groups_of h (drop 1 fs) in
      rw (row_formed h w fs some-field, number-walk asking (drop 1 fs), weights-asked gs)
      (pick_and (same_bytes (get_or fs 0 []) (word_bytes w)) (rows_form h word (drop 1 fs)) _ No.library_form)

  -- A line of the right word is read by the walk behind it.
  pub walk-read : (fs : Fields) → 0 < length fs → same_bytes (get_or fs 0 []) (word_bytes w) ≡ true → (a : Asked) (p : Passed) (rest : Fields) (said : ℕ) (before after : List ℕ)
      → a ≡ asking → rest ≡ drop 1 fs → p ≡ passed a none_passed rest → after ≡ stored a none_passed rest before → said ≡ number_of a p
      → RowsRead cell h w n fs before after said
  unfolding pick
  walk-read fs some-field same a p rest said before after asks rows walk put number =
      record {
        number = number ∙ rw (walk, asks, rows, row_number-walk fs some-field, same);
        table = λ z. put ∙ rw (asks, rows);
      }
