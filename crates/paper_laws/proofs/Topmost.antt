-- Which line, and which number, a text is refused by: weighing conditions in ascending order finds the least cause.
use Rattle.common_laws.proofs.Base.{Bool, true, false, not, ◌||◌, List, [], ◌∷◌, ◌++◌, List-as-Memᴰ, List-Memᴰ-head, List-Memᴰ-tail, List-Memᴰ-not-nil, Option, none, some, ◌≡◌}
use Rattle.common_laws.proofs.Base.{refl, sym, ap, ℕ, suc, ◌≤◌, ◌<◌, arith, leb, eqb, length}
use Rattle.sizes.specs.Sizes as Size
use Rattle.reading.specs.Choice.{pick}
use Rattle.reading.specs.Each.{Each}
use Rattle.reading.specs.Numbers as No
use Rattle.reading.specs.Refusal.{Read, refused, read, ◌>>=◌, ◌>>◌, weigh, form}
use Rattle.reading.proofs.Laws.{by_test, clash, each_member, refused-read, same-refusal}
use Rattle.library_table.specs.declared.Word.{Word}
use Rattle.library_table.specs.Cells.{Group, Cell}
use Rattle.library_table.specs.Library.{Fields, any_of, above_rows, above, group_count, column_count, row_idle, rows_after, row_line, Header, name_used, pins_bad, name_after, name_line, end_after, Place, outside, inside, Reading, library_line, library_end, library_from, library}
use Rattle.library_table.specs.declared.Wanted.TheVariants.{Rows as word_line, End as end_line}
use Rattle.text.specs.Lines.{lines}
use Rattle.netlist_table.specs.Netlist.{Statement, causes, admit, admitted}
use Rattle.paper_laws.specs.Topmost.{Least, TopmostStatement, TopmostStatement.here, TopmostStatement.later, NetlistTopmost, NameCause, NameCause.used, NameCause.pins, NameCause.many, RowsCause, RowsCause.groups, RowsCause.bits, RowsCause.idle, FormOr, PlaceCause, TopmostLine, TopmostLine.here, TopmostLine.later, TopmostLine.broken_off, LibraryTopmost}

-- ---- weighing

abbrev Conditions : Type 0
Conditions = List (ℕ × Bool)

-- A number whose condition holds.
abbrev Holds : Conditions → ℕ → Type 0
Holds xs n = List-as-Memᴰ (n, true) xs

-- In the order of the numbers.
abbrev Ascends : Conditions → Type 0
Ascends [] = Unit {0}
Ascends (x ∷ xs) = Each (λ (y : ℕ × Bool). x.0 < y.0) xs × Ascends xs

first_same : (n : ℕ) (t : Bool) (x : ℕ × Bool) → ◌≡◌ {A = ℕ × Bool} (n, t) x → (n ≡ x.0) × (t ≡ x.1)
first_same n t x e = (ap (λ (y : ℕ × Bool). y.0) e, ap (λ (y : ℕ × Bool). y.1) e)

itself : (x : ℕ × Bool) → x.1 ≡ true → ◌≡◌ {A = ℕ × Bool} (x.0, true) x
itself x t = λ i. (x.0, sym t i)

weigh_finds : (line : ℕ) (xs : Conditions) → Ascends xs → (n l : ℕ) → weigh line xs ≡ refused n l → (l ≡ line) × Least (Holds xs) n
unfolding weigh pick
weigh_finds line [] a n l e = refused-read (sym e)
weigh_finds line (x ∷ xs) a n l e =
    by_test x.1
    (λ t.
    let q = same-refusal x.0 line n l (rw t at e) in
    let first : n ≡ x.0 = sym q.0 in (
      sym q.1,
      record {
        is = List-Memᴰ-head (rw first (itself x t));
        least = λ m k. lowest first m k;
      },
    ))
    (λ t.
    let r = weigh_finds line xs a.1 n l (rw t at e) in (
      r.0,
      record { is = List-Memᴰ-tail r.1.is; least = λ m k. behind t r.1 m k },
    ))
  where
    lowest : n ≡ x.0 → (m : ℕ) → Holds (x ∷ xs) m → n ≤ m
    lowest f m (List-Memᴰ-head k) = omega (arith, f, (first_same m true x k).0)
    lowest f m (List-Memᴰ-tail k) = omega (arith, f, each_member (λ (y : ℕ × Bool). x.0 < y.0) k a.0)

    behind : x.1 ≡ false → Least (Holds xs) n → (m : ℕ) → Holds (x ∷ xs) m → n ≤ m
    behind t r m (List-Memᴰ-head k) = clash x.1 (sym (first_same m true x k).1) t
    behind t r m (List-Memᴰ-tail k) = r.least m k

weigh-least : (line : ℕ) (xs : Conditions) → Ascends xs → (n : ℕ) → Least (Holds xs) n → weigh line xs ≡ refused n line
unfolding weigh pick
weigh-least line [] a n h = absurd (List-Memᴰ-not-nil h.is)
weigh-least line (x ∷ xs) a n h =
    by_test x.1
    (λ t. let e : x.0 ≡ n = first t h.is in rw (t, e))
    (λ t. rw t (weigh-least line xs a.1 n (rest t h.is)))
  where
    first : x.1 ≡ true → Holds (x ∷ xs) n → x.0 ≡ n
    first t (List-Memᴰ-head k) = sym (first_same n true x k).0
    first t (List-Memᴰ-tail k) = absurd (omega (arith, h.least x.0 (List-Memᴰ-head (itself x t)), each_member (λ (y : ℕ × Bool). x.0 < y.0) k a.0))

    rest : x.1 ≡ false → Holds (x ∷ xs) n → Least (Holds xs) n
    rest t (List-Memᴰ-head k) = clash x.1 (sym (first_same n true x k).1) t
    rest t (List-Memᴰ-tail k) = record { is = k; least = λ m j. h.least m (List-Memᴰ-tail j) }

weigh-none : (line : ℕ) (xs : Conditions) (u : Unit {0}) → weigh line xs ≡ read u → (n : ℕ) → Holds xs n → ⊥
unfolding weigh pick
weigh-none line [] u e n k = List-Memᴰ-not-nil k
weigh-none line (x ∷ xs) u e n k = by_test x.1 (λ t. refused-read (rw t at e)) (λ t. go t k (weigh-none line xs u (rw t at e) n))
  where
    go : x.1 ≡ false → Holds (x ∷ xs) n → (Holds xs n → ⊥) → ⊥
    go t (List-Memᴰ-head j) rest = clash x.1 (sym (first_same n true x j).1) t
    go t (List-Memᴰ-tail j) rest = rest j

none-weighed : (line : ℕ) (xs : Conditions) → ((n : ℕ) → Holds xs n → ⊥) → weigh line xs ≡ read tt
unfolding weigh pick
none-weighed line [] h = refl
none-weighed line (x ∷ xs) h =
    by_test x.1
    (λ t. absurd (h x.0 (List-Memᴰ-head (itself x t))))
    (λ t. rw t (none-weighed line xs (λ n k. h n (List-Memᴰ-tail k))))

-- ---- the netlist

causes_ascend : (cells : List Cell) (ss : List Statement) (s : Statement) → Ascends (causes cells ss s)
unfolding causes Each
causes_ascend cells ss s = (
  (omega arith, (omega arith, (omega arith, (omega arith, (omega arith, (omega arith, tt)))))),
  (
    (omega arith, (omega arith, (omega arith, (omega arith, (omega arith, tt))))),
    (
      (omega arith, (omega arith, (omega arith, (omega arith, tt)))),
      (
        (omega arith, (omega arith, (omega arith, tt))),
        (
          (omega arith, (omega arith, tt)),
          (
            (omega arith, tt),
            (tt, tt),
          ),
        ),
      ),
    ),
  ),
)

one_cause : (cause number : ℕ) → number ≡ cause → Least (λ n. n ≡ cause) number
one_cause cause number e = record { is = e; least = λ m k. omega (arith, e, k) }

module _ (cells : List Cell) where
  statement_found : (line : ℕ) (ss : List Statement) (ws : List (Option Statement)) (number at : ℕ) → admitted line cells ss ws ≡ refused number at
      → TopmostStatement cells line ss ws number at
  unfolding admitted form admit ◌>>=◌ ◌>>◌
  statement_found line ss [] number at e = refused-read (sym e)
  statement_found line ss (none ∷ ws) number at e =
      let q = same-refusal No.netlist_form line number at e in
      rw (← q.1) (here (one_cause No.netlist_form number (sym q.0)))
  statement_found line ss (some s ∷ ws) number at e =
      by (weigh line (causes cells ss s)) refl e (statement_found (suc line) (ss ++ (s ∷ [])) ws number at)
    where
      by : (o : Read (Unit {0})) → weigh line (causes cells ss s) ≡ o → (o >> admitted (suc line) cells (ss ++ (s ∷ [])) ws) ≡ refused number at
          → (admitted (suc line) cells (ss ++ (s ∷ [])) ws ≡ refused number at → TopmostStatement cells (suc line) (ss ++ (s ∷ [])) ws number at)
          → TopmostStatement cells line ss (some s ∷ ws) number at
      by (refused n l) q z rest =
          let k = same-refusal n l number at z in
          let f = weigh_finds line (causes cells ss s) (causes_ascend cells ss s) n l q in
          rw (← k.0, ← k.1, f.0) (here f.1)
      by (read u) q z rest = later (weigh-none line (causes cells ss s) u q) (rest z)

  statement_refused : {line : ℕ} {ss : List Statement} {ws : List (Option Statement)} {number at : ℕ} → TopmostStatement cells line ss ws number at
      → admitted line cells ss ws ≡ refused number at
  unfolding admitted form admit ◌>>=◌ ◌>>◌
  statement_refused (here {line = line} {w = none} h) = let e = h.is in rw e
  statement_refused (here {line = line} {ss = ss} {w = some s} h) = rw (weigh-least line (causes cells ss s) (causes_ascend cells ss s) _ h)
  statement_refused (later {line = line} {ss = ss} {s = s} c t) = rw (none-weighed line (causes cells ss s) c) (statement_refused t)

pub netlist_topmost_lem : NetlistTopmost
netlist_topmost_lem cells ws number line = (statement_found cells 1 [] ws number line, statement_refused cells)

-- ---- the library

-- Three conditions in ascending order, and the causes that they stand for.
module _ (Cause : ℕ → Type 0) (a b c : ℕ) (p q r : Bool) (order : (a < b) × (b < c))
    (on-a : p ≡ true → Cause a) (on-b : q ≡ true → Cause b) (on-c : r ≡ true → Cause c)
    (from : (n : ℕ) → Cause n → Holds ((a, p) ∷ (b, q) ∷ (c, r) ∷ []) n) where
  abbrev three : Conditions
  three = (a, p) ∷ (b, q) ∷ (c, r) ∷ []

  three_ascend : Ascends three
  unfolding Each
  three_ascend = ((order.0, (omega (arith, order.0, order.1), tt)), ((order.1, tt), (tt, tt)))

  to : (n : ℕ) → Holds three n → Cause n
  to n (List-Memᴰ-head k) = let e = first_same n true (a, p) k in rw e.0 (on-a (sym e.1))
  to n (List-Memᴰ-tail (List-Memᴰ-head k)) = let e = first_same n true (b, q) k in rw e.0 (on-b (sym e.1))
  to n (List-Memᴰ-tail (List-Memᴰ-tail (List-Memᴰ-head k))) = let e = first_same n true (c, r) k in rw e.0 (on-c (sym e.1))
  to n (List-Memᴰ-tail (List-Memᴰ-tail (List-Memᴰ-tail x12))) = elim x12 [ ]

  three-found : (line n l : ℕ) → weigh line three ≡ refused n l → (l ≡ line) × Least Cause n
  three-found line n l e =
      let f = weigh_finds line three three_ascend n l e in
      (f.0, record { is = to n f.1.is; least = λ m k. f.1.least m (from m k) })

  three-refused : (line n : ℕ) → Least Cause n → weigh line three ≡ refused n line
  three-refused line n h =
      weigh-least line three three_ascend n (record { is = from n h.is; least = λ m k. h.least m (to m k) })

-- The conditions of `name_line` and `row_line`, as they stand there.
abbrev name_conditions : List Cell → Header → Conditions
name_conditions cells h =
    (No.name_used, name_used h.name cells) ∷ (No.pins_bad, pins_bad h.pins) ∷ (No.cells_many, leb Size.cells (length cells)) ∷ []

abbrev rows_conditions : Word → ℕ → List Group → Conditions
rows_conditions w n gs =
    (No.groups_bad, not (eqb (length gs) (group_count w n)) || any_of above_rows gs)
    ∷ (No.bit_above, any_of (any_of (above (column_count w n))) gs)
    ∷ (No.row_idle, row_idle w n gs)
    ∷ []

module _ (line : ℕ) where
  name_from : (cells : List Cell) (h : Header) (n : ℕ) → NameCause cells h n → Holds (name_conditions cells h) n
  name_from cells h n (used t) = List-Memᴰ-head (λ i. (No.name_used, sym t i))
  name_from cells h n (pins t) = List-Memᴰ-tail (List-Memᴰ-head (λ i. (No.pins_bad, sym t i)))
  name_from cells h n (many t) = List-Memᴰ-tail (List-Memᴰ-tail (List-Memᴰ-head (λ i. (No.cells_many, sym t i))))

  rows_from_lem : (w : Word) (p : ℕ) (gs : List Group) (n : ℕ) → RowsCause w p gs n → Holds (rows_conditions w p gs) n
  rows_from_lem w p gs n (groups t) = List-Memᴰ-head (λ i. (No.groups_bad, sym t i))
  rows_from_lem w p gs n (bits t) = List-Memᴰ-tail (List-Memᴰ-head (λ i. (No.bit_above, sym t i)))
  rows_from_lem w p gs n (idle t) = List-Memᴰ-tail (List-Memᴰ-tail (List-Memᴰ-head (λ i. (No.row_idle, sym t i))))

  name-found : (cells : List Cell) (h : Header) (n l : ℕ) → weigh line (name_conditions cells h) ≡ refused n l → (l ≡ line) × Least (NameCause cells h) n
  name-found cells h n l e =
      three-found (NameCause cells h) No.name_used No.pins_bad No.cells_many _ _ _ (omega arith, omega arith) used pins many (name_from cells h) line n l e

  name-refused : (cells : List Cell) (h : Header) (n : ℕ) → Least (NameCause cells h) n → weigh line (name_conditions cells h) ≡ refused n line
  name-refused cells h n e =
      three-refused (NameCause cells h) No.name_used No.pins_bad No.cells_many _ _ _ (omega arith, omega arith) used pins many (name_from cells h) line n e

  rows-found : (w : Word) (p : ℕ) (gs : List Group) (n l : ℕ) → weigh line (rows_conditions w p gs) ≡ refused n l → (l ≡ line) × Least (RowsCause w p gs) n
  rows-found w p gs n l e =
      three-found (RowsCause w p gs) No.groups_bad No.bit_above No.row_idle _ _ _ (omega arith, omega arith) groups bits idle (rows_from_lem w p gs) line n l e

  rows-refused : (w : Word) (p : ℕ) (gs : List Group) (n : ℕ) → Least (RowsCause w p gs) n → weigh line (rows_conditions w p gs) ≡ refused n line
  rows-refused w p gs n e =
      three-refused (RowsCause w p gs) No.groups_bad No.bit_above No.row_idle _ _ _ (omega arith, omega arith) groups bits idle (rows_from_lem w p gs) line n e

  form-found : {A : Type 0} (n l : ℕ) → ◌≡◌ {A = Read A} (refused No.library_form line) (refused n l) → (l ≡ line) × Least (λ m. m ≡ No.library_form) n
  form-found n l e =
      let q = same-refusal No.library_form line n l e in
      (sym q.1, one_cause No.library_form n (sym q.0))

  then-stops : {A B : Type 0} (o : Read (Unit {0})) (a : Read A) (f : A → B) (n l : ℕ) → ((o >> a) >>= λ x. read (f x)) ≡ refused n l → ((x : A) × (a ≡ read x)) → o ≡ refused n l
  unfolding ◌>>◌ ◌>>=◌
  then-stops (refused m k) a f n l e r = let q = same-refusal m k n l e in rw (q.0, q.1)
  then-stops (read u) a f n l e r = refused-read (sym (rw r.1 at e))

  line-found : (cells : List Cell) (p : Place) (fs : Fields) (n l : ℕ) → library_line line cells p fs ≡ refused n l → (l ≡ line) × Least (PlaceCause cells p fs) n
  unfolding library_line name_line row_line form ◌>>◌ ◌>>=◌
  line-found cells outside fs n l e = by (name_after fs) refl
    where
      by : (o : Option Header) → name_after fs ≡ o → (l ≡ line) × Least (FormOr (name_after fs) (NameCause cells)) n
      by none q = let z : ◌≡◌ {A = Read Reading} (refused No.library_form line) (refused n l) = rw q at e in rw q (form-found n l z)
      by (some h) q = rw q (name-found cells h n l (then-stops (weigh line (name_conditions cells h)) (read h) _ n l (rw q at e) (h, refl)))
  line-found cells (inside (word_line w) c) fs n l e = by (rows_after c.heading w fs) refl
    where
      by : (o : Option (List Group)) → rows_after c.heading w fs ≡ o → (l ≡ line) × Least (FormOr (rows_after c.heading w fs) (RowsCause w c.pins)) n
      by none q = let z : ◌≡◌ {A = Read Reading} (refused No.library_form line) (refused n l) = rw q at e in rw q (form-found n l z)
      by (some gs) q = rw q (rows-found w c.pins gs n l (then-stops (weigh line (rows_conditions w c.pins gs)) (read gs) _ n l (rw q at e) (gs, refl)))
  line-found cells (inside end_line c) fs n l e = by (end_after fs) refl
    where
      by : (o : Option (Unit {0})) → end_after fs ≡ o → (l ≡ line) × Least (FormOr (end_after fs) (λ u m. ⊥)) n
      by none q = let z : ◌≡◌ {A = Read Reading} (refused No.library_form line) (refused n l) = rw q at e in rw q (form-found n l z)
      by (some u) q = refused-read (sym (rw q at e))

  line_refused : (cells : List Cell) (p : Place) (fs : Fields) (n : ℕ) → Least (PlaceCause cells p fs) n → library_line line cells p fs ≡ refused n line
  unfolding library_line name_line row_line form ◌>>◌ ◌>>=◌
  line_refused cells outside fs n h = by (name_after fs) refl h
    where
      by : (o : Option Header) → name_after fs ≡ o → Least (FormOr o (NameCause cells)) n → library_line line cells outside fs ≡ refused n line
      by none q k = let e = k.is in rw (q, e)
      by (some x) q k = rw (q, name-refused cells x n k)
  line_refused cells (inside (word_line w) c) fs n h = by (rows_after c.heading w fs) refl h
    where
      by : (o : Option (List Group)) → rows_after c.heading w fs ≡ o → Least (FormOr o (RowsCause w c.pins)) n → library_line line cells (inside (word_line w) c) fs ≡ refused n line
      by none q k = let e = k.is in rw (q, e)
      by (some gs) q k = rw (q, rows-refused w c.pins gs n k)
  line_refused cells (inside end_line c) fs n h = by (end_after fs) refl h
    where
      by : (o : Option (Unit {0})) → end_after fs ≡ o → Least (FormOr o (λ u m. ⊥)) n → library_line line cells (inside end_line c) fs ≡ refused n line
      by none q k = let e = k.is in rw (q, e)
      by (some u) q k = absurd k.is

library-found : (line : ℕ) (r : Reading) (ls : List (Option Fields)) (number at : ℕ) → library_from line r ls ≡ refused number at → TopmostLine line r ls number at
unfolding library_from library_end form ◌>>=◌
library-found line r [] number at e = by r.place refl e
  where
    by : (p : Place) → r.place ≡ p → library_end line r.cells p ≡ refused number at → TopmostLine line r [] number at
    by outside q z = refused-read (sym z)
    by (inside wanted c) q z =
        let k = same-refusal No.library_form line number at z in
        rw (← k.0, ← k.1) (broken_off q)
library-found line r (none ∷ ls) number at e =
    let z : ◌≡◌ {A = Read (List Cell)} (refused No.library_form line) (refused number at) = e in
    let f = form-found line number at z in
    rw f.0 (here f.1)
library-found line r (some fs ∷ ls) number at e =
    by (library_line line r.cells r.place fs) refl e (λ next. library-found (suc line) next ls number at)
  where
    by : (o : Read Reading) → library_line line r.cells r.place fs ≡ o → (o >>= λ next. library_from (suc line) next ls) ≡ refused number at
        → ((next : Reading) → library_from (suc line) next ls ≡ refused number at → TopmostLine (suc line) next ls number at)
        → TopmostLine line r (some fs ∷ ls) number at
    by (refused n l) q z rest =
        let k = same-refusal n l number at z in
        let f = line-found line r.cells r.place fs n l q in
        rw (← k.0, ← k.1, f.0) (here f.1)
    by (read next) q z rest = later q (rest next z)

library-refused : {line : ℕ} {r : Reading} {ls : List (Option Fields)} {number at : ℕ} → TopmostLine line r ls number at → library_from line r ls ≡ refused number at
unfolding library_from library_end form ◌>>=◌
library-refused (here {line = line} {l = none} h) = let e = h.is in rw e
library-refused (here {line = line} {r = r} {l = some fs} h) = rw (line_refused line r.cells r.place fs _ h)
library-refused (later q t) = rw q (library-refused t)
library-refused (broken_off q) = rw q

pub library_topmost_lem : LibraryTopmost
unfolding library
library_topmost_lem text number line = (library-found 1 (record { cells = []; place = outside }) (lines text) number line, library-refused)
