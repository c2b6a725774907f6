-- A library that differs from another only by rows added to groups: to a netlist its entries are the same, and at each gate
-- rows were added, so that what proofs/Rows.antt says holds of it. Document 02, K14.
use Rattle.common_laws.proofs.Base.{Bool, true, false, not, ◌&&◌, ◌||◌, List, [], ◌∷◌, ◌++◌, List-as-Memᴰ, List-Memᴰ-head, List-Memᴰ-tail, List-Memᴰ-not-nil, ◌⊎◌, inl, inr, ⊎_elim}
use Rattle.common_laws.proofs.Base.{◌≡◌, refl, sym, ◌∙◌, ap, ℕ, zero, suc, ◌<◌, arith, eqb-true, eq-eqb, not-false, eqb, length, get_or}
use Rattle.reading.specs.Choice.{pick}
use Rattle.reading.proofs.Laws.{by_test, clash, and_left, and_right, or_cases}
use Rattle.text.specs.Lines.{same_bytes}
use Rattle.text.proofs.Laws.{same_bytes_refl, same_bytes-true}
use Rattle.library_table.proofs.Any.{any-member}
use Rattle.library_table.specs.Cells.{Row, Group, Cell}
use Rattle.library_table.specs.declared.Heading.{Heading}
use Rattle.library_table.specs.declared.Heading.TheVariants.{Plain as plain, Deep as deep}
use Rattle.library_table.specs.Library.{any_of, word_groups, cell_named}
use Rattle.netlist_table.specs.Netlist.{Statement, pins_at}
use Rattle.netlist_table.specs.Sound as N
use Rattle.netlist_table.specs.Reread.{SameEntries}
use Rattle.netlist_table.proofs.Laws.{gate-sound}
use Rattle.calculation.specs.Nodes.{Kind, combinational, sequential}
use Rattle.calculation.specs.Ways.{no_cell, cell_of, Role, setting, observing, word_of, group_index, group_of, both_values, one_wire}
use Rattle.calculation.specs.Added.{RowsAdded, AtGates}
use Rattle.calculation.specs.Growth.{same_row, keeps, pairwise, same_heading, same_entry, grown_cell, grown}

-- ---- rows and groups

same_row_lem : (r s : Row) → same_row r s ≡ true → r ≡ s
unfolding same_row
same_row_lem r s e =
    let d : r.depth ≡ s.depth = eqb-true r.depth s.depth (and_left (eqb r.depth s.depth) (eqb r.columns s.columns) e) in
    let c : r.columns ≡ s.columns = eqb-true r.columns s.columns (and_right (eqb r.depth s.depth) (eqb r.columns s.columns) e) in
    λ i. record { depth = d i; columns = c i }

-- Each old row is one of the new.
keeps-listed : (old new : Group) → keeps old new ≡ true → (r : Row) → List-as-Memᴰ r old → List-as-Memᴰ r new
unfolding keeps pick
keeps-listed [] new e r m = absurd (List-Memᴰ-not-nil m)
keeps-listed (q ∷ old) [] e r m = clash false e refl
keeps-listed (q ∷ old) (s ∷ new) e r m =
    by_test (same_row q s)
    (λ t. here t (keeps-listed old new (rw t at e) r) m)
    (λ t. List-Memᴰ-tail (keeps-listed (q ∷ old) new (rw t at e) r m))
  where
    here : same_row q s ≡ true → (List-as-Memᴰ r old → List-as-Memᴰ r new) → List-as-Memᴰ r (q ∷ old) → List-as-Memᴰ r (s ∷ new)
    here t more (List-Memᴰ-head f) = List-Memᴰ-head (f ∙ same_row_lem q s t)
    here t more (List-Memᴰ-tail i) = List-Memᴰ-tail (more i)

module _ {A : Type 0} (p : A → A → Bool) where
  pairwise-at : (xs ys : List A) → pairwise p xs ys ≡ true → (i : ℕ) (d : A) → i < length xs → p (get_or xs i d) (get_or ys i d) ≡ true
  unfolding pairwise
  pairwise-at [] ys e i d h = absurd (omega arith)
  pairwise-at (x ∷ xs) [] e i d h = clash false e refl
  pairwise-at (x ∷ xs) (y ∷ ys) e zero d h = and_left (p x y) (pairwise p xs ys) e
  pairwise-at (x ∷ xs) (y ∷ ys) e (suc i) d h = pairwise-at xs ys (and_right (p x y) (pairwise p xs ys) e) i d (omega arith)

  pairwise_append : (xs ys us vs : List A) → pairwise p xs ys ≡ true → pairwise p us vs ≡ true → pairwise p (xs ++ us) (ys ++ vs) ≡ true
  unfolding pairwise
  pairwise_append [] [] us vs e f = f
  pairwise_append [] (y ∷ ys) us vs e f = clash false e refl
  pairwise_append (x ∷ xs) [] us vs e f = clash false e refl
  pairwise_append (x ∷ xs) (y ∷ ys) us vs e f =
      rw (and_left (p x y) (pairwise p xs ys) e) (pairwise_append xs ys us vs (and_right (p x y) (pairwise p xs ys) e) f)

-- A row of a group is one of the group at the same place.
group_listed : (xs ys : List Group) → pairwise keeps xs ys ≡ true → (i : ℕ) (r : Row) → List-as-Memᴰ r (get_or xs i []) → List-as-Memᴰ r (get_or ys i [])
unfolding pairwise
group_listed [] ys e i r m = absurd (List-Memᴰ-not-nil m)
group_listed (x ∷ xs) [] e i r m = clash false e refl
group_listed (x ∷ xs) (y ∷ ys) e zero r m = keeps-listed x y (and_left (keeps x y) (pairwise keeps xs ys) e) r m
group_listed (x ∷ xs) (y ∷ ys) e (suc i) r m = group_listed xs ys (and_right (keeps x y) (pairwise keeps xs ys) e) i r m

-- ---- the one-wire reading

abbrev SomeOf : {A : Type 0} → (A → Bool) → List A → Type 0
SomeOf {A} p xs = (x : A) × List-as-Memᴰ x xs × (p x ≡ true)

any_from : {A : Type 0} (p : A → Bool) (xs : List A) → any_of p xs ≡ true → SomeOf p xs
unfolding any_of
any_from p [] e = clash false e refl
any_from p (x ∷ xs) e =
    ⊎_elim (λ t. (x, List-Memᴰ-head refl, t)) (λ t. let s = any_from p xs t in (s.0, List-Memᴰ-tail s.1, s.2)) (or_cases (p x) (any_of p xs) e)

-- What holds of a row of some group holds of one of the new groups.
any-keeps : (p : Row → Bool) (xs ys : List Group) → pairwise keeps xs ys ≡ true → any_of (any_of p) xs ≡ true → any_of (any_of p) ys ≡ true
unfolding pairwise any_of
any-keeps p [] ys e t = clash false t refl
any-keeps p (x ∷ xs) [] e t = clash false e refl
any-keeps p (x ∷ xs) (y ∷ ys) e t =
    side (any-keeps p xs ys (and_right (keeps x y) (pairwise keeps xs ys) e)) (or_cases (any_of p x) (any_of (any_of p) xs) t)
  where
    side : (any_of (any_of p) xs ≡ true → any_of (any_of p) ys ≡ true) → (any_of p x ≡ true) ⊎ (any_of (any_of p) xs ≡ true) → (any_of p y || any_of (any_of p) ys) ≡ true
    side more (inl s) =
        let f : SomeOf p x = any_from p x s in
        let g : any_of p y ≡ true = any-member p (keeps-listed x y (and_left (keeps x y) (pairwise keeps xs ys) e) f.0 f.1) f.2 in
        rw g
    side more (inr s) = by_test (any_of p y) (λ b. rw b) (λ b. rw b (more s))

-- ---- cells

module _ (c d : Cell) (e : grown_cell c d ≡ true) where
  abbrev kept : Bool
  kept = pairwise keeps c.cc d.cc && (pairwise keeps c.sc d.sc && (pairwise keeps c.co d.co && pairwise keeps c.so d.so))

  entry : same_entry c d ≡ true
  unfolding grown_cell
  entry = and_left (same_entry c d) (kept && (not (one_wire c) || one_wire d)) e

  behind : (kept && (not (one_wire c) || one_wire d)) ≡ true
  unfolding grown_cell
  behind = and_right (same_entry c d) (kept && (not (one_wire c) || one_wire d)) e

  groups : kept ≡ true
  groups = and_left kept (not (one_wire c) || one_wire d) behind

  grown-name : d.name ≡ c.name
  unfolding same_entry
  grown-name =
      sym (same_bytes-true c.name d.name (and_left (same_bytes c.name d.name) (eqb c.pins d.pins && same_heading c.heading d.heading) entry))

  grown-pins : d.pins ≡ c.pins
  unfolding same_entry
  grown-pins =
      sym (eqb-true c.pins d.pins
      (and_left (eqb c.pins d.pins) (same_heading c.heading d.heading)
      (and_right (same_bytes c.name d.name) (eqb c.pins d.pins && same_heading c.heading d.heading) entry)))

  cc-kept : pairwise keeps c.cc d.cc ≡ true
  cc-kept = and_left _ _ groups

  sc-kept : pairwise keeps c.sc d.sc ≡ true
  sc-kept = and_left _ _ (and_right (pairwise keeps c.cc d.cc) _ groups)

  co-kept : pairwise keeps c.co d.co ≡ true
  co-kept = and_left _ _ (and_right (pairwise keeps c.sc d.sc) _ (and_right (pairwise keeps c.cc d.cc) _ groups))

  so-kept : pairwise keeps c.so d.so ≡ true
  so-kept = and_right (pairwise keeps c.co d.co) _ (and_right (pairwise keeps c.sc d.sc) _ (and_right (pairwise keeps c.cc d.cc) _ groups))

  all-kept : pairwise keeps (c.cc ++ (c.sc ++ (c.co ++ c.so))) (d.cc ++ (d.sc ++ (d.co ++ d.so))) ≡ true
  all-kept =
      pairwise_append keeps c.cc d.cc _ _ cc-kept
      (pairwise_append keeps c.sc d.sc _ _ sc-kept (pairwise_append keeps c.co d.co c.so d.so co-kept so-kept))

  -- Neither lost nor gained: an added row may lose it, which is not allowed, and none regains it.
  grown-wire : one_wire d ≡ one_wire c
  unfolding one_wire
  grown-wire = by_test (one_wire c) (λ t. stays t ∙ sym t) (λ t. gone t ∙ sym t)
    where
      stays : one_wire c ≡ true → one_wire d ≡ true
      stays t = rw t at (and_right kept (not (one_wire c) || one_wire d) behind)

      gone : one_wire c ≡ false → one_wire d ≡ false
      gone t =
          rw (
            grown-pins,
            any-keeps (λ r. both_values c.pins c.pins r.columns) (c.cc ++ (c.sc ++ (c.co ++ c.so))) (d.cc ++ (d.sc ++ (d.co ++ d.so)))
                all-kept (not-false _ t),
          )

  grown_group : (k : Kind) (role : Role) (r : Row) → List-as-Memᴰ r (group_of k c role) → List-as-Memᴰ r (group_of k d role)
  unfolding group_of word_of word_groups
  grown_group combinational (setting x) r m = group_listed c.cc d.cc cc-kept (group_index (setting x)) r m
  grown_group sequential (setting x) r m = group_listed c.sc d.sc sc-kept (group_index (setting x)) r m
  grown_group combinational (observing i) r m = group_listed c.co d.co co-kept (group_index (observing i)) r m
  grown_group sequential (observing i) r m = group_listed c.so d.so so-kept (group_index (observing i)) r m

  grown-rows : RowsAdded c d
  grown-rows = record { pins = grown-pins; wire = grown-wire; rows = grown_group }

-- ---- libraries

-- "differs only by rows added to groups", at each gate of a netlist.
pub rows-added : (cells more : List Cell) (ss : List Statement) → N.Sound cells ss → grown cells more ≡ true → AtGates RowsAdded cells more ss
unfolding cell_of grown
rows-added cells more ss sound e g m =
    grown-rows (get_or cells g.cell no_cell) (get_or more g.cell no_cell)
    (pairwise-at grown_cell cells more e g.cell no_cell (gate-sound cells ss sound g m).known)

-- "the same entries in the same order"
pub same_entries : (cells more : List Cell) → grown cells more ≡ true → SameEntries cells more
unfolding grown pairwise cell_named pins_at
same_entries [] [] e = record { count = refl; names = λ n. refl; pins = λ k. refl }
same_entries [] (d ∷ more) e = clash false e refl
same_entries (c ∷ cells) [] e = clash false e refl
same_entries (c ∷ cells) (d ∷ more) e =
    let t : grown_cell c d ≡ true = and_left (grown_cell c d) (pairwise grown_cell cells more) e in
    let r : SameEntries cells more = same_entries cells more (and_right (grown_cell c d) (pairwise grown_cell cells more) e) in
    record {
      count = ap suc r.count;
      names = λ n. rw (grown-name c d t, r.names n);
      pins = one c d (grown-pins c d t) cells more r.pins;
    }
  where
    one : (c d : Cell) → d.pins ≡ c.pins → (cells more : List Cell) → ((k : ℕ) → pins_at more k ≡ pins_at cells k) → (k : ℕ) → pins_at (d ∷ more) k ≡ pins_at (c ∷ cells) k
    one c d e cells more h zero = e
    one c d e cells more h (suc k) = h k

-- ---- the same library

row_itself : (r : Row) → same_row r r ≡ true
unfolding same_row
row_itself r = rw (eq-eqb r.depth r.depth refl, eq-eqb r.columns r.columns refl)

keeps-itself : (g : Group) → keeps g g ≡ true
unfolding keeps pick
keeps-itself [] = refl
keeps-itself (r ∷ g) = rw (row_itself r) (keeps-itself g)

pairwise-itself : {A : Type 0} (p : A → A → Bool) → ((x : A) → p x x ≡ true) → (xs : List A) → pairwise p xs xs ≡ true
unfolding pairwise
pairwise-itself p h [] = refl
pairwise-itself p h (x ∷ xs) = rw (h x) (pairwise-itself p h xs)

cell-itself : (c : Cell) → grown_cell c c ≡ true
unfolding grown_cell same_entry
cell-itself c =
    rw (
      same_bytes_refl c.name,
      eq-eqb c.pins c.pins refl,
      heading c.heading,
      pairwise-itself keeps keeps-itself c.cc,
      pairwise-itself keeps keeps-itself c.sc,
      pairwise-itself keeps keeps-itself c.co,
      pairwise-itself keeps keeps-itself c.so,
    )
    (wire (one_wire c))
  where
    heading : (h : Heading) → same_heading h h ≡ true
    heading plain = unfold same_heading in refl
    heading deep = unfold same_heading in refl

    wire : (b : Bool) → (not b || b) ≡ true
    wire true = refl
    wire false = refl

pub grown-itself : (cells : List Cell) → grown cells cells ≡ true
unfolding grown
grown-itself cells = pairwise-itself grown_cell cell-itself cells
