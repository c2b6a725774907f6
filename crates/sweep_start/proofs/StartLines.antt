-- The start, line by line.
use Rattle.common_laws.proofs.Base.{Bool, List, [], ◌∷◌, ◌++◌, append_assoc, append-nil, ◌≡◌, refl, sym, ap, ◌∙◌, ℕ, zero, suc, ◌+◌, ◌*◌, ◌-◌, ◌≤◌, ◌<◌, arith, length, get_or, drop}
use Rattle.common_laws.proofs.Base.{set, replicate, length-append, length-drop, length-replicate, replicate-append-replicate, sets, sets-eq, take_at, drop_at, drop-drop}
use lib.Seq.{drop-append-add}
use Rattle.sizes.specs.Sizes as Size
use Rattle.sizes.specs.Places.{driver_place, output_place}
use Rattle.table.proofs.UsedPart.{used-most, used-behind}
use Rattle.reading.specs.Choice.{pick}
use Rattle.cost.specs.Cost.{never}
use Rattle.sweep_start.specs.Start.{start_number, line_start, lines_start, last_marked}

-- Six stores, one behind the other.
pub six_stores : (xs : List ℕ) (place a b c d e f : ℕ)
    → set (set (set (set (set (set xs place a) (place + 1) b) (place + 2) c) (place + 3) d) (place + 4) e) (place + 5) f ≡ sets xs place (a ∷ b ∷ c ∷ d ∷ e ∷ f ∷ [])
six_stores xs place a b c d e f = simp native.Mathlib.Numerals.towards_suc

-- What is left of numbers that are all never.
nevers-left : (a b n : ℕ) → n ≡ a + b → drop a (replicate n never) ≡ replicate b never
nevers-left a b n e =
    ap (λ (m : ℕ). drop a (replicate m never)) e ∙ ap (drop a) (sym (replicate-append-replicate a b never))
    ∙ drop_at (replicate a never) (replicate b never) a (length-replicate a never)

module _ (high : Bool) (netlist : List ℕ) where
  lines_next : (count first : ℕ) → lines_start high netlist (suc count) first ≡ lines_start high netlist count first ++ line_start high netlist (first + count)
  unfolding lines_start
  lines_next zero first = let e : first + 0 ≡ first = omega arith in rw e (append-nil (line_start high netlist first))
  lines_next (suc count) first =
      let e : first + suc count ≡ suc first + count = omega arith in
      rw e (ap (λ (l : List ℕ). line_start high netlist first ++ l) (lines_next count (suc first))
      ∙ sym (append_assoc (line_start high netlist first) (lines_start high netlist count (suc first)) (line_start high netlist (suc first + count))))

  pub laid-length : (count first : ℕ) → length (lines_start high netlist count first) ≡ count * Size.costs
  unfolding lines_start line_start
  laid-length zero first = refl
  laid-length (suc count) first =
      length-append (line_start high netlist first) (lines_start high netlist count (suc first)) ∙ omega (arith, laid-length count (suc first))

  -- The numbers where the first i lines have theirs.
  abbrev pub Laid : List ℕ → ℕ → List ℕ → Type 0
  Laid xs i ys = ys ≡ lines_start high netlist i 1 ++ drop (i * Size.costs) xs

  pub laid_none : (xs : List ℕ) → Laid xs 0 xs
  unfolding lines_start
  laid_none xs = refl

  pub laid_next : (xs ys zs : List ℕ) (i : ℕ) → i * Size.costs + Size.costs ≤ length xs → Laid xs i ys → zs ≡ sets ys (i * Size.costs) (line_start high netlist (1 + i)) → Laid xs (i + 1) zs
  unfolding line_start
  laid_next xs ys zs i h l s =
      let p = lines_start high netlist i 1 in
      let q = drop (i * Size.costs) xs in
      let n : length p ≡ i * Size.costs = laid-length i 1 in
      let m : i + 1 ≡ suc i = omega arith in
      let k : length q ≡ length xs - i * Size.costs = length-drop (i * Size.costs) xs in
      let b : i * Size.costs + Size.costs ≤ length (p ++ q) = rw (length-append p q) (omega arith) in
      let r : i * Size.costs + Size.costs ≡ (i + 1) * Size.costs = omega arith in
      let d : drop (i * Size.costs + Size.costs) (p ++ q) ≡ drop ((i + 1) * Size.costs) xs =
      ap (λ (j : ℕ). drop (j + Size.costs) (p ++ q)) (sym n) ∙ drop-append-add p q Size.costs ∙ drop-drop Size.costs (i * Size.costs) xs ∙ ap (λ (j : ℕ). drop j xs) r in
      s ∙ ap (λ (y : List ℕ). sets y (i * Size.costs) (line_start high netlist (1 + i))) l
      ∙ sets-eq (line_start high netlist (1 + i)) (p ++ q) (i * Size.costs) b
      ∙ rw (take_at p q (i * Size.costs) n, d, m, lines_next i 1)

  -- ---- past the last line that is marked

  -- A line that is neither driven nor an output starts at never.
  unmarked-start : (l : ℕ) → get_or netlist (driver_place l) 0 ≡ 0 → get_or netlist (output_place l) 0 ≡ 0 → line_start high netlist l ≡ replicate Size.costs never
  unfolding line_start start_number pick
  unmarked-start l d o = rw (d, o)

  past-marked : (l : ℕ) → last_marked netlist < l → l ≤ Size.lines → line_start high netlist l ≡ replicate Size.costs never
  past-marked l low up =
      let d : driver_place l ≡ driver_place 1 + (l - 1) = omega arith in
      let o : output_place l ≡ output_place 1 + (l - 1) = omega arith in
      unmarked-start l
      (rw d (used-behind netlist (driver_place 1) Size.lines (l - 1) (omega arith) (omega arith)))
      (rw o (used-behind netlist (output_place 1) Size.lines (l - 1) (omega arith) (omega arith)))

  pub marked-few : last_marked netlist ≤ Size.lines
  marked-few = omega (arith, used-most netlist (driver_place 1) Size.lines, used-most netlist (output_place 1) Size.lines)

  nevers : (k first : ℕ) → ((l : ℕ) → first ≤ l → l < first + k → line_start high netlist l ≡ replicate Size.costs never)
      → lines_start high netlist k first ≡ replicate (k * Size.costs) never
  unfolding lines_start
  nevers zero first h = refl
  nevers (suc k) first h =
      let e : suc k * Size.costs ≡ Size.costs + k * Size.costs = omega arith in
      rw (e, h first (omega arith) (omega arith), nevers k (suc first) (λ l low up. h l (omega arith) (omega arith)))
      (replicate-append-replicate Size.costs (k * Size.costs) never)

  lines_split : (i k first : ℕ) → lines_start high netlist (i + k) first ≡ lines_start high netlist i first ++ lines_start high netlist k (first + i)
  unfolding lines_start
  lines_split zero k first = let n : 0 + k ≡ k = omega arith in let m : first + 0 ≡ first = omega arith in rw (n, m)
  lines_split (suc i) k first =
      let n : suc i + k ≡ suc (i + k) = omega arith in
      let m : first + suc i ≡ suc first + i = omega arith in
      rw (n, m, lines_split i k (suc first))
      (sym (append_assoc (line_start high netlist first) (lines_start high netlist i (suc first)) (lines_start high netlist k (suc first + i))))

  pub laid-all : (ys : List ℕ) (i : ℕ) → last_marked netlist ≤ i → i ≤ Size.lines → Laid (replicate Size.numbers never) i ys → ys ≡ lines_start high netlist Size.lines 1
  laid-all ys i h few l =
      let k = Size.lines - i in
      let all : i + k ≡ Size.lines = omega arith in
      l ∙ ap (λ (q : List ℕ). lines_start high netlist i 1 ++ q)
      (nevers-left (i * Size.costs) (k * Size.costs) Size.numbers (omega arith) ∙ sym (nevers k (1 + i) (λ m low up. past-marked m (omega arith) (omega arith))))
      ∙ sym (lines_split i k 1) ∙ ap (λ (n : ℕ). lines_start high netlist n 1) all
