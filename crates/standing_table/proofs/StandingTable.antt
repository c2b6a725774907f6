-- What stands where in a standing table, and what its stores leave.
use Rattle.common_laws.proofs.Base.{List, [], ◌∷◌, ◌++◌, map, append_assoc, ◌≡◌, refl, sym, ap, ap₂, ◌∙◌, ℕ, suc, min, ◌+◌, ◌-◌, ◌≤◌, ◌<◌, arith, length, get_or, set, take, drop}
use Rattle.common_laws.proofs.Base.{replicate, length-append, length-take, length-drop, List-get_or-append, take_at, take-suc-set, drop_at, drop-drop, length-take-le, get_or-drop}
use lib.Seq.{take-add, drop-set-add, drop-set-lt}
use Rattle.sizes.specs.Sizes as Size
use Rattle.sizes.specs.Places.{observing_place}
use Rattle.table.specs.Blocks.{fitted, cleared}
use Rattle.table.proofs.Places.{length-fitted, fitted_short}
use Rattle.cost.specs.Cost.{never}
use Rattle.library_table.specs.Cells.{Cell}
use Rattle.netlist_table.specs.Netlist.{Statement}
use Rattle.netlist_table.proofs.Places.{length-line_words, getD_line_words}
use Rattle.calculation.specs.declared.Counts.{Counts}
use Rattle.calculation.specs.Nodes.{Kind, kind_number}
use Rattle.calculation.specs.Calculation.{Analysed}
use Rattle.calculation.specs.Runs.{observed_anew}
use Rattle.calculation.proofs.Laws.{kind-small}
use Rattle.sweep_runs.specs.declared.Sweeps.{Sweeps}
use Rattle.sweep_reruns.specs.Kept.{as_cost, held, ObservedAnew}
use Rattle.calculation.specs.Stored.{whole}
use Rattle.standing_table.specs.StandingTable.{StoresPad}
use Rattle.standing_table.specs.StandingTable.{answer_place}
use Rattle.standing_table.specs.StandingTable.{standing_words, pads_held, counts_held, analysis_held, observed_place, observed_words}

-- ---- a table that holds pads and an analysis

module _ (pads : List ℕ) (a : Analysed) (past : List ℕ) where
  abbrev table : List ℕ
  table = standing_words pads a ++ past

  pub standing-length : length a.numbers ≡ Size.numbers → length (standing_words pads a) ≡ Size.standing
  unfolding standing_words
  standing-length size = omega (arith, length-append (fitted 0 Size.pads pads) a.numbers, length-fitted 0 Size.pads pads)

  behind-counts : drop Size.pads_at table ≡ fitted 0 Size.pads pads ++ (a.numbers ++ past)
  unfolding standing_words
  behind-counts = append_assoc (fitted 0 Size.pads pads) a.numbers past

  pub numbers-part : drop Size.standing_numbers table ≡ a.numbers ++ past
  numbers-part =
      sym (drop-drop Size.pads Size.pads_at table)
      ∙ ap (drop Size.pads) behind-counts
      ∙ drop_at (fitted 0 Size.pads pads) (a.numbers ++ past) Size.pads (length-fitted 0 Size.pads pads)

  pub pads-part : length pads ≤ Size.pads → pads_held table ≡ pads
  unfolding pads_held standing_words
  pads-part few =
      ap (take (length pads)) (append_assoc (fitted 0 Size.pads pads) a.numbers past ∙ front)
      ∙ take_at pads _ (length pads) refl
    where
      front : fitted 0 Size.pads pads ++ (a.numbers ++ past) ≡ pads ++ (replicate (Size.pads - length pads) 0 ++ (a.numbers ++ past))
      front =
          ap (λ (z : List ℕ). z ++ (a.numbers ++ past)) (fitted_short 0 Size.pads pads few)
          ∙ append_assoc pads (replicate (Size.pads - length pads) 0) (a.numbers ++ past)

  pub counts-part : counts_held table ≡ a.counts
  unfolding counts_held standing_words
  counts-part = refl

  pub number_at : length a.numbers ≡ Size.numbers → (i : ℕ) → i < Size.numbers → get_or table (Size.standing_numbers + i) 0 ≡ get_or a.numbers i 0
  number_at size i h =
      sym (get_or-drop Size.standing_numbers table i 0)
      ∙ ap (λ (z : List ℕ). get_or z i 0) numbers-part
      ∙ List-get_or-append a.numbers past 0 i (rw size h)

-- Costs are what they are.
costs-same : (xs : List ℕ) → ((n : ℕ) → get_or xs n 0 ≤ never) → map as_cost xs ≡ xs
costs-same [] h = refl
costs-same (x ∷ xs) h =
    let e : as_cost x ≡ x = omega (arith, h 0) in
    rw (e, costs-same xs (λ n. h (suc n)))

pub held_same : (xs past : List ℕ) → length xs ≡ Size.numbers → ((n : ℕ) → get_or xs n 0 ≤ never) → held (xs ++ past) ≡ xs
unfolding held
held_same xs past size h = ap (map as_cost) (take_at xs past Size.numbers size) ∙ costs-same xs h

-- ---- stores

four : (a b c d : List ℕ) → (a ++ b) ++ (c ++ d) ≡ (a ++ (b ++ c)) ++ d
four a b c d = simp append_assoc

-- Five numbers in front.
five : (t rest : List ℕ) (a b c d e : ℕ) → 5 ≤ length t
    → set (set (set (set (set (take 5 t ++ rest) 0 a) 1 b) 2 c) 3 d) 4 e ≡ a ∷ (b ∷ (c ∷ (d ∷ (e ∷ rest))))
five [] rest a b c d e h = absurd (omega arith)
five (v ∷ []) rest a b c d e h = absurd (omega arith)
five (v ∷ (w ∷ [])) rest a b c d e h = absurd (omega arith)
five (v ∷ (w ∷ (x ∷ []))) rest a b c d e h = absurd (omega arith)
five (v ∷ (w ∷ (x ∷ (y ∷ [])))) rest a b c d e h = absurd (omega arith)
five (v ∷ (w ∷ (x ∷ (y ∷ (z ∷ t))))) rest a b c d e h = refl

module _ (t : List ℕ) (pads : ℕ) (few : pads ≤ Size.pads) (long : Size.standing ≤ length t) where
  abbrev stood : List ℕ
  stood = take pads (drop Size.pads_at t)

  stood-length : length stood ≡ pads
  stood-length = simp (length-take, length-drop) (omega arith)

  abbrev front : List ℕ
  front = take Size.pads_at t ++ fitted 0 Size.pads stood

  front_length : length front ≡ Size.standing_numbers
  front_length =
      omega (arith, length-append (take Size.pads_at t) (fitted 0 Size.pads stood), length-fitted 0 Size.pads stood, length-take-le Size.pads_at t (omega arith))

  cleared-part : cleared (Size.pads - pads) (drop (Size.pads_at + pads) t) ≡ replicate (Size.pads - pads) 0 ++ drop Size.standing_numbers t
  unfolding cleared
  cleared-part =
      let m : min (Size.pads - pads) (length (drop (Size.pads_at + pads) t)) ≡ Size.pads - pads = omega (arith, length-drop (Size.pads_at + pads) t) in
      let n : Size.pads_at + pads + (Size.pads - pads) ≡ Size.standing_numbers = omega arith in
      rw m (ap (λ (z : List ℕ). replicate (Size.pads - pads) 0 ++ z) (drop-drop (Size.pads - pads) (Size.pads_at + pads) t ∙ ap (λ (k : ℕ). drop k t) n))

  stood-fitted : fitted 0 Size.pads stood ≡ stood ++ replicate (Size.pads - pads) 0
  stood-fitted =
      fitted_short 0 Size.pads stood (omega (arith, stood-length)) ∙ ap (λ (k : ℕ). stood ++ replicate (Size.pads - k) 0) stood-length

  -- The pads behind the first cleared.
  pub pads-cleared : take (Size.pads_at + pads) t ++ cleared (Size.pads - pads) (drop (Size.pads_at + pads) t) ≡ front ++ drop Size.standing_numbers t
  pads-cleared =
      ap₂ (λ (x y : List ℕ). x ++ y) (take-add Size.pads_at pads t) cleared-part
      ∙ four (take Size.pads_at t) stood (replicate (Size.pads - pads) 0) (drop Size.standing_numbers t)
      ∙ ap (λ (z : List ℕ). (take Size.pads_at t ++ z) ++ drop Size.standing_numbers t) (sym stood-fitted)

  pub stored : (numbers t₁ t₂ t₃ : List ℕ) (counts : Counts)
      → t₁ ≡ take (Size.pads_at + pads) t ++ cleared (Size.pads - pads) (drop (Size.pads_at + pads) t)
      → t₂ ≡ take Size.standing_numbers t₁ ++ (numbers ++ drop Size.numbers (drop Size.standing_numbers t₁))
      → t₃ ≡ set (set (set (set (set t₂ 0 pads) 1 counts.cc) 2 counts.sc) 3 counts.co) 4 counts.so
      → t₃ ≡ standing_words stood (whole counts numbers) ++ drop Size.standing t
  unfolding standing_words
  stored numbers t₁ t₂ t₃ counts e₁ e₂ e₃ =
      e₃
      ∙ ap (λ (x : List ℕ). set (set (set (set (set x 0 pads) 1 counts.cc) 2 counts.sc) 3 counts.co) 4 counts.so) whole₂
      ∙ five t rest pads counts.cc counts.sc counts.co counts.so (omega arith)
      ∙ rw stood-length (ap (λ (x : List ℕ). pads ∷ (counts.cc ∷ (counts.sc ∷ (counts.co ∷ (counts.so ∷ x))))) (sym (append_assoc (fitted 0 Size.pads stood) numbers (drop Size.standing t))))
    where
      rest : List ℕ
      rest = fitted 0 Size.pads stood ++ (numbers ++ drop Size.standing t)

      whole₁ : t₁ ≡ front ++ drop Size.standing_numbers t
      whole₁ = e₁ ∙ pads-cleared

      whole₂ : t₂ ≡ take Size.pads_at t ++ rest
      whole₂ =
          e₂
          ∙ ap (λ (x : List ℕ). take Size.standing_numbers x ++ (numbers ++ drop Size.numbers (drop Size.standing_numbers x))) whole₁
          ∙ ap₂ (λ (x y : List ℕ). x ++ (numbers ++ drop Size.numbers y))
          (take_at front (drop Size.standing_numbers t) Size.standing_numbers front_length)
          (drop_at front (drop Size.standing_numbers t) Size.standing_numbers front_length)
          ∙ ap (λ (y : List ℕ). front ++ (numbers ++ y)) (drop-drop Size.numbers Size.standing_numbers t)
          ∙ append_assoc (take Size.pads_at t) (fitted 0 Size.pads stood) (numbers ++ drop Size.standing t)

-- One pad more behind the others, with the numbers and counts that were found.
module _ (before : List ℕ) (pads l : ℕ) (few : pads < Size.pads) (long : Size.standing ≤ length before) where
  pub stores : (cells : List Cell) (ss : List Statement) (numbers t after : List ℕ) (seen : Sweeps) (counts : Counts)
      → ObservedAnew cells ss (drop Size.standing_numbers before) numbers seen
      → counts ≡ record { cc = get_or before Size.runs_at 0; sc = get_or before (Size.runs_at + 1) 0; co = seen.combinational; so = seen.sequential }
      → t ≡ set before (Size.pads_at + pads) l
      → after ≡ standing_words (take (pads + 1) (drop Size.pads_at t)) (whole counts numbers) ++ drop Size.standing t
      → StoresPad cells ss pads l before after
  unfolding observed_anew analysis_held counts_held
  stores cells ss numbers t after seen counts o c e left =
      let room : pads < length (drop Size.pads_at before) = omega (arith, length-drop Size.pads_at before) in
      let n : pads + 1 ≡ suc pads = omega arith in
      let front : take (pads + 1) (drop Size.pads_at t) ≡ take pads (drop Size.pads_at before) ++ (l ∷ []) =
      ap (λ (z : List ℕ). take (pads + 1) (drop Size.pads_at z)) e
      ∙ ap (take (pads + 1)) (drop-set-add Size.pads_at before pads l)
      ∙ ap (λ (k : ℕ). take k (set (drop Size.pads_at before) pads l)) n
      ∙ take-suc-set (drop Size.pads_at before) pads l room in
      let behind : drop Size.standing t ≡ drop Size.standing before =
      ap (drop Size.standing) e ∙ drop-set-lt Size.standing before (Size.pads_at + pads) l (omega arith) in
      left
      ∙ ap₂ (λ (x y : List ℕ). standing_words x (whole counts numbers) ++ y) front behind
      ∙ ap (λ (x : Counts). standing_words (take pads (drop Size.pads_at before) ++ (l ∷ [])) (whole x numbers) ++ drop Size.standing before) c
      ∙ ap (λ (x : Analysed). standing_words (take pads (drop Size.pads_at before) ++ (l ∷ [])) x ++ drop Size.standing before) (sym (o.runs (counts_held before)))

-- ---- an answer

pub observed-length : (xs : List ℕ) → length (observed_words xs) ≡ Size.observed
unfolding observed_words
observed-length xs = length-line_words (λ i. get_or xs (observed_place i) 0) Size.observed 0

pub observed-word : (xs : List ℕ) (i : ℕ) → i < Size.observed → get_or (observed_words xs) i 0 ≡ get_or xs (observed_place i) 0
unfolding observed_words
observed-word xs i h =
    let e : 0 + i ≡ i = omega arith in
    getD_line_words (λ j. get_or xs (observed_place j) 0) Size.observed 0 i h ∙ ap (λ (n : ℕ). get_or xs (observed_place n) 0) e

-- The CO or SO of a line.
pub observed-at : (xs past : List ℕ) (k : Kind) (l : ℕ) → 1 ≤ l → l ≤ Size.lines
    → get_or (observed_words xs ++ past) (answer_place k l) 0 ≡ get_or xs (observing_place (kind_number k) l) 0
observed-at xs past k l low high =
    let small : kind_number k ≤ 1 = kind-small k in
    let inside : answer_place k l < Size.observed = omega arith in
    let same : observed_place (answer_place k l) ≡ observing_place (kind_number k) l = omega arith in
    List-get_or-append (observed_words xs) past 0 (answer_place k l) (rw (observed-length xs) inside)
    ∙ observed-word xs (answer_place k l) inside
    ∙ ap (λ (n : ℕ). get_or xs n 0) same
