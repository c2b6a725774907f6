-- The table of ranks, from the highest line down.
use Rattle.common_laws.proofs.Base.{List, [], ◌∷◌, ◌++◌, append_assoc, ◌≡◌, refl, sym, ◌∙◌, ap, ℕ, zero, suc, ◌+◌, ◌*◌, ◌-◌, ◌≤◌, ◌<◌, arith, length, get_or, take, drop, set}
use Rattle.common_laws.proofs.Base.{length-append, List-get_or-append, sets, sets-eq, take-take, drop_at, length-take-le, get_or-append-add, get_or-drop}
use lib.Seq.{take-append-le}
use Rattle.sizes.specs.Sizes as Size
use Rattle.reading.specs.Choice.{pick}
use Rattle.reading.proofs.Laws.{by_test}
use Rattle.library_table.specs.Cells.{Cell}
use Rattle.netlist_table.specs.Netlist.{Statement}
use Rattle.calculation.specs.Advice.{allowed, rank_words, no_rank, line_rank, line_ranks}

-- Four stores, one behind the other.
four-stores : (xs : List ℕ) (place a b c d : ℕ) → set (set (set (set xs place a) (place + 1) b) (place + 2) c) (place + 3) d ≡ sets xs place (a ∷ b ∷ c ∷ d ∷ [])
four-stores xs place a b c d = simp native.Mathlib.Numerals.towards_suc

pub rank-stored : (xs : List ℕ) (l a b c d : ℕ) {place : ℕ} → place ≡ l
    → let at = (place - 1) * Size.rank_words in
    set (set (set (set xs at a) (at + 1) b) (at + 2) c) (at + 3) d
    ≡ sets xs ((l - 1) * Size.rank_words) (rank_words (record { nevers = a; overs = b; largest = c; total = d }))
unfolding rank_words
rank-stored xs l a b c d is = rw is (four-stores xs ((l - 1) * Size.rank_words) a b c d)

-- Each line has four.
pub four : (cells : List Cell) (ss : List Statement) (forbidden : List ℕ) (l : ℕ) → length (line_rank cells ss forbidden l) ≡ Size.rank_words
unfolding line_rank rank_words no_rank pick
four cells ss forbidden l = by_test (allowed ss forbidden l) (λ t. rw t) (λ t. rw t)

module _ (f : ℕ → List ℕ) (four : (l : ℕ) → length (f l) ≡ Size.rank_words) where
  -- Those of the lines above one.
  abbrev pub ranks_above : ℕ → List ℕ
  ranks_above l = line_ranks f (Size.lines - l) (suc l)

  ranks-next : (l : ℕ) → 1 ≤ l → l ≤ Size.lines → ranks_above (l - 1) ≡ f l ++ ranks_above l
  unfolding line_ranks
  ranks-next l low high =
      let e : Size.lines - (l - 1) ≡ suc (Size.lines - l) = omega arith in
      let g : suc (l - 1) ≡ l = omega arith in
      rw (e, g)

  -- The table where the lines above one have theirs.
  abbrev pub RanksLaid : List ℕ → ℕ → List ℕ → Type 0
  RanksLaid xs l ys = ys ≡ take (l * Size.rank_words) xs ++ (ranks_above l ++ drop Size.ranks xs)

  pub ranks-none : (xs : List ℕ) → RanksLaid xs Size.lines xs
  unfolding line_ranks
  ranks-none xs = sym (lib.ListN.take-append-drop Size.ranks xs)

  module _ (xs ys zs : List ℕ) (room : Size.ranks ≤ length xs) (l : ℕ) (low : 1 ≤ l) (high : l ≤ Size.lines) where
    pub ranks-laid : RanksLaid xs l ys → zs ≡ sets ys ((l - 1) * Size.rank_words) (f l) → RanksLaid xs (l - 1) zs
    ranks-laid laid stored =
        let place = (l - 1) * Size.rank_words in
        let front = take (l * Size.rank_words) xs in
        let rest = ranks_above l ++ drop Size.ranks xs in
        let m : length front ≡ l * Size.rank_words = length-take-le (l * Size.rank_words) xs (omega arith) in
        let n : place + length (f l) ≡ l * Size.rank_words = omega (arith, four l) in
        let b : place + length (f l) ≤ length (front ++ rest) = rw (length-append front rest) (omega arith) in
        stored
        ∙ ap (λ (y : List ℕ). sets y place (f l)) laid
        ∙ sets-eq (f l) (front ++ rest) place b
        ∙ rw (n, take-append-le place front rest (omega arith), take-take place (l * Size.rank_words) xs (omega arith), drop_at front rest (l * Size.rank_words) m, ranks-next l low high)
        (append_assoc (take place xs) (f l) rest
        ∙ ap (λ (y : List ℕ). take place xs ++ y) (sym (append_assoc (f l) (ranks_above l) (drop Size.ranks xs))))

  -- ---- what stands where

  lines-length : (n first : ℕ) → length (line_ranks f n first) ≡ n * Size.rank_words
  unfolding line_ranks
  lines-length zero first = refl
  lines-length (suc n) first = length-append (f first) (line_ranks f n (suc first)) ∙ omega (arith, four first, lines-length n (suc first))

  lines_at : (n first d j : ℕ) → d < n → j < Size.rank_words → get_or (line_ranks f n first) (d * Size.rank_words + j) 0 ≡ get_or (f (first + d)) j 0
  unfolding line_ranks
  lines_at zero first d j h i = absurd (omega arith)
  lines_at (suc n) first zero j h i =
      let z : zero * Size.rank_words + j ≡ j = omega arith in
      let l : first ≡ first + zero = omega arith in
      rw z (List-get_or-append (f first) (line_ranks f n (suc first)) 0 j (omega (arith, four first)) ∙ ap (λ (m : ℕ). get_or (f m) j 0) l)
  lines_at (suc n) first (suc d) j h i =
      let next : suc d * Size.rank_words + j ≡ length (f first) + (d * Size.rank_words + j) = omega (arith, four first) in
      let l : suc first + d ≡ first + suc d = omega arith in
      ap (λ (m : ℕ). get_or (f first ++ line_ranks f n (suc first)) m 0) next
      ∙ get_or-append-add (f first) (line_ranks f n (suc first)) (d * Size.rank_words + j) 0
      ∙ lines_at n (suc first) d j (omega arith) i
      ∙ ap (λ (m : ℕ). get_or (f m) j 0) l

  pub ranks-length : length (line_ranks f Size.lines 1) ≡ Size.ranks
  ranks-length = lines-length Size.lines 1

  -- The numbers of a line, whatever stands behind the table.
  pub rank-at : (past : List ℕ) (l j : ℕ) → 1 ≤ l → l ≤ Size.lines → j < Size.rank_words
      → get_or (line_ranks f Size.lines 1 ++ past) ((l - 1) * Size.rank_words + j) 0 ≡ get_or (f l) j 0
  rank-at past l j low high i =
      let e : 1 + (l - 1) ≡ l = omega arith in
      List-get_or-append (line_ranks f Size.lines 1) past 0 ((l - 1) * Size.rank_words + j) (omega (arith, ranks-length))
      ∙ lines_at Size.lines 1 (l - 1) j (omega arith) i
      ∙ ap (λ (m : ℕ). get_or (f m) j 0) e

  -- "Entries past a table's published size keep their values on acceptance."
  pub rank-past : (before : List ℕ) (i : ℕ) → Size.ranks ≤ i → get_or (line_ranks f Size.lines 1 ++ drop Size.ranks before) i 0 ≡ get_or before i 0
  rank-past before i h =
      let n : length (line_ranks f Size.lines 1) ≡ Size.ranks = ranks-length in
      let e : i ≡ length (line_ranks f Size.lines 1) + (i - Size.ranks) = omega arith in
      let g : Size.ranks + (i - Size.ranks) ≡ i = omega arith in
      ap (λ (j : ℕ). get_or (line_ranks f Size.lines 1 ++ drop Size.ranks before) j 0) e
      ∙ get_or-append-add (line_ranks f Size.lines 1) (drop Size.ranks before) (i - Size.ranks) 0
      ∙ get_or-drop Size.ranks before (i - Size.ranks) 0
      ∙ ap (λ (j : ℕ). get_or before j 0) g
