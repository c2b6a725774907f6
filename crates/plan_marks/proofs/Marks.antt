-- A visit with its mark: what is noted of it is what the definitions remember.
use Rattle.common_laws.proofs.Base.{List, [], ◌∷◌, Option, none, some, ◌≡◌, refl, sym, ap, ◌∙◌, ℕ, suc, ◌+◌, ◌*◌, ◌≤◌, ◌<◌, ℕ_discrete, arith, lt-ltb, length, get_or, set}
use Rattle.common_laws.proofs.Base.{length-set, sets, get_or-set_same, get_or-set_other}
use Rattle.sizes.specs.Sizes as Size
use Rattle.sizes.specs.Places.{setting_place, mark_place}
use Rattle.reading.specs.Choice.{pick}
use Rattle.cost.specs.Cost.{lesser, counted}
use Rattle.plans.specs.System.{Visit}
use Rattle.plans.specs.Sweep.{at, least, lower}
use Rattle.plans.specs.Trace.{first_place, Mark, Trace, mark_at, mark_of, trace_visit}
use Rattle.plans.proofs.Laws.{least-bound}
use Rattle.netlist_table.specs.Gates.{gate_lines}
use Rattle.plan_marks.specs.Marks.{row_place, gate_row, last_pin, written_row, asking_row, Noted, NotedAs, AllNoted, Stands}
use Rattle.plan_marks.proofs.Remembered.{Same, idle-visit}

-- ---- four numbers of a table

module _ (xs : List ℕ) (i a b c d : ℕ) where
  abbrev four : List ℕ
  four = sets xs i (a ∷ b ∷ c ∷ d ∷ [])

  four-other : (j : ℕ) → (j ≡ i → ⊥) → (j ≡ i + 1 → ⊥) → (j ≡ i + 2 → ⊥) → (j ≡ i + 3 → ⊥) → get_or four j 0 ≡ get_or xs j 0
  four-other j p q r s =
      get_or-set_other (set (set (set xs i a) (suc i) b) (suc (suc i)) c) (suc (suc (suc i))) j d 0 (λ e. s (omega arith))
      ∙ get_or-set_other (set (set xs i a) (suc i) b) (suc (suc i)) j c 0 (λ e. r (omega arith))
      ∙ get_or-set_other (set xs i a) (suc i) j b 0 (λ e. q (omega arith))
      ∙ get_or-set_other xs i j a 0 p

  module _ (room : i + 4 ≤ length xs) where
    four_first : get_or four i 0 ≡ a
    four_first =
        get_or-set_other (set (set (set xs i a) (suc i) b) (suc (suc i)) c) (suc (suc (suc i))) i d 0 (λ e. omega arith)
        ∙ get_or-set_other (set (set xs i a) (suc i) b) (suc (suc i)) i c 0 (λ e. omega arith)
        ∙ get_or-set_other (set xs i a) (suc i) i b 0 (λ e. omega arith)
        ∙ get_or-set_same xs i a 0 (omega arith)

    four-second : get_or four (i + 1) 0 ≡ b
    four-second =
        let n : i + 1 ≡ suc i = omega arith in
        rw n
        (get_or-set_other (set (set (set xs i a) (suc i) b) (suc (suc i)) c) (suc (suc (suc i))) (suc i) d 0 (λ e. omega arith)
        ∙ get_or-set_other (set (set xs i a) (suc i) b) (suc (suc i)) (suc i) c 0 (λ e. omega arith)
        ∙ get_or-set_same (set xs i a) (suc i) b 0 (omega (arith, length-set xs i a)))

    four-third : get_or four (i + 2) 0 ≡ c
    four-third =
        let n : i + 2 ≡ suc (suc i) = omega arith in
        rw n
        (get_or-set_other (set (set (set xs i a) (suc i) b) (suc (suc i)) c) (suc (suc (suc i))) (suc (suc i)) d 0 (λ e. omega arith)
        ∙ get_or-set_same (set (set xs i a) (suc i) b) (suc (suc i)) c 0 (omega (arith, length-set xs i a, length-set (set xs i a) (suc i) b)))

    four-fourth : get_or four (i + 3) 0 ≡ d
    four-fourth =
        let n : i + 3 ≡ suc (suc (suc i)) = omega arith in
        rw n
        (get_or-set_same (set (set (set xs i a) (suc i) b) (suc (suc i)) c) (suc (suc (suc i))) d 0
        (omega (arith, length-set xs i a, length-set (set xs i a) (suc i) b, length-set (set (set xs i a) (suc i) b) (suc (suc i)) c)))

-- ---- marks

mark-same : (ms : List (Option Mark)) (n : ℕ) (m : Mark) → n < length ms → mark_at (set ms n (some m)) n ≡ some m
unfolding mark_at
mark-same ms n m h = get_or-set_same ms n (some m) none h

mark-other : (ms : List (Option Mark)) (n j : ℕ) (m : Mark) → (j ≡ n → ⊥) → mark_at (set ms n (some m)) j ≡ mark_at ms j
unfolding mark_at
mark-other ms n j m h = get_or-set_other ms n j (some m) none h

-- ---- a visit

module _ (kind : ℕ) (library netlist : List ℕ) where
  -- What is noted elsewhere stays.
  kept : (o : Option Mark) (l v : ℕ) (xs ys : List ℕ) → ((j : ℕ) → j < 4 → get_or ys (mark_place l v + j) 0 ≡ get_or xs (mark_place l v + j) 0)
      → NotedAs kind library netlist o l v xs → NotedAs kind library netlist o l v ys
  unfolding NotedAs
  kept none l v xs ys same n =
      let z : mark_place l v ≡ mark_place l v + 0 = omega arith in
      record { visit = rw z (same 0 (omega arith) ∙ rw z at n.visit); columns = same 2 (omega arith) ∙ n.columns }
  kept (some m) l v xs ys same n =
      let z : mark_place l v ≡ mark_place l v + 0 = omega arith in
      record {
        gate = n.gate;
        inside = n.inside;
        drives = n.drives;
        visit = rw z (same 0 (omega arith) ∙ rw z at n.visit);
        row = same 1 (omega arith) ∙ n.row;
        columns = same 2 (omega arith) ∙ n.columns;
        last = same 3 (omega arith) ∙ n.last;
      }

  -- What remembers the same stands in the same tables.
  pub stands_same : {u t : Trace} {numbers table : List ℕ} → Same u t → Stands kind library netlist t numbers table → Stands kind library netlist u numbers table
  stands_same i s =
      record {
        numbers_are = s.numbers_are ∙ sym i.numbers;
        long = ap length i.marks ∙ s.long;
        noted = rw i.marks s.noted;
      }

  module _ (t : Trace) (numbers table : List ℕ) (s : Stands kind library netlist t numbers table) (v : Visit) where
    pub stands-still : at numbers v.node ≤ least numbers v.ways → Stands kind library netlist (trace_visit lower t v) numbers table
    stands-still h = stands_same (idle-visit t v (rw (← s.numbers_are) h)) s

    module _ (g l e : ℕ) (node : v.node ≡ setting_place kind l e) (inside : g < get_or netlist 0 0) (drives : get_or (gate_lines netlist g) 0 0 ≡ l)
        (kinds : kind ≤ 1) (least-line : 1 ≤ l) (most-line : l ≤ Size.lines) (value : e ≤ 1) (size : length table ≡ Size.marks)
        (number row : ℕ) (least_is_lem : number ≡ least numbers v.ways) (row_is_lem : row ≡ gate_row kind library netlist g e (first_place numbers v.ways))
        (falls : least numbers v.ways < at numbers v.node) where
      abbrev at_row : ℕ
      at_row = row_place kind netlist g e row

      abbrev noting : List ℕ
      noting = sets table (mark_place l e) (suc t.time ∷ written_row library netlist g at_row ∷ asking_row library netlist g at_row ∷ last_pin library netlist g ∷ [])

      abbrev new : Mark
      new = mark_of t.numbers t.time v

      abbrev marked : List (Option Mark)
      marked = set t.marks v.node (some new)

      place_is : gate_row kind library netlist g e new.place ≡ row
      unfolding mark_of
      place_is = sym (row_is_lem ∙ ap (λ (xs : List ℕ). gate_row kind library netlist g e (first_place xs v.ways)) s.numbers_are)

      time_is : new.time ≡ t.time
      unfolding mark_of
      time_is = refl

      room : mark_place l e + 4 ≤ length table
      room = omega arith

      noted_here : Noted kind library netlist l e new noting
      noted_here =
          record {
            gate = g;
            inside = inside;
            drives = drives;
            visit = rw time_is (four_first table (mark_place l e) _ _ _ _ room);
            row = rw place_is (four-second table (mark_place l e) _ _ _ _ room);
            columns = rw place_is (four-third table (mark_place l e) _ _ _ _ room);
            last = four-fourth table (mark_place l e) _ _ _ _ room;
          }

      noted-there : AllNoted kind library netlist marked noting
      noted-there k w a b c = split (ℕ_discrete (setting_place kind k w) v.node)
        where
          split : Dec (setting_place kind k w ≡ v.node) → NotedAs kind library netlist (mark_at marked (setting_place kind k w)) k w noting
          split (yes q) =
              let q' : setting_place kind k w ≡ setting_place kind l e = q ∙ node in
              let same_line : k ≡ l = omega arith in
              let same-value : w ≡ e = omega arith in
              let here : mark_at marked (setting_place kind k w) ≡ some new =
              ap (mark_at marked) q ∙ mark-same t.marks v.node new (omega (arith, s.long)) in
              rw (here, same_line, same-value) (unfold NotedAs in noted_here)
          split (no q) =
              let there : mark_at marked (setting_place kind k w) ≡ mark_at t.marks (setting_place kind k w) =
              mark-other t.marks v.node (setting_place kind k w) new q in
              let apart : k * 2 + w ≡ l * 2 + e → ⊥ = λ r. q (omega arith) in
              rw there
              (kept (mark_at t.marks (setting_place kind k w)) k w table noting
              (λ j f. four-other table (mark_place l e) _ _ _ _ (mark_place k w + j) (λ r. apart (omega arith)) (λ r. apart (omega arith)) (λ r. apart (omega arith)) (λ r. apart (omega arith)))
              (s.noted k w a b c))

      lowered : set numbers v.node number ≡ lower t.numbers v
      unfolding lower lesser counted
      lowered =
          rw (← s.numbers_are)
          (ap (set numbers v.node) (least_is_lem ∙ omega (arith, falls, least-bound numbers v.ways)))

      pub stands-lowered : Stands kind library netlist (trace_visit lower t v) (set numbers v.node number) noting
      unfolding trace_visit pick
      stands-lowered =
          rw (lt-ltb (least t.numbers v.ways) (at t.numbers v.node) (rw s.numbers_are at falls))
          (record { numbers_are = lowered; long = length-set t.marks v.node (some new) ∙ s.long; noted = noted-there })
