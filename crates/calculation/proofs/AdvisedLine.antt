-- The adviser's answer is what document 02, K13, asks for.
use Rattle.common_laws.proofs.Base.{Bool, true, false, not, List, [], ◌∷◌, map, List-as-Memᴰ, List-Memᴰ-head, List-Memᴰ-tail, List-Memᴰ-not-nil, ◌≡◌, refl, sym, ◌∙◌, ap, fun_ext, ℕ}
use Rattle.common_laws.proofs.Base.{zero, suc, ◌+◌, ◌≤◌, ◌<◌, ℕ_discrete, le_trans, le_of_eq, arith, leb-true, leb-false, not-true, leb}
use Rattle.sizes.specs.Sizes as Size
use Rattle.reading.specs.Refusal.{Read, read}
use Rattle.reading.specs.Choice.{pick}
use Rattle.reading.proofs.Laws.{by_test, and_left, and_right}
use Rattle.plans.proofs.Laws.{at_getD}
use Rattle.library_table.specs.Cells.{Cell}
use Rattle.netlist_table.specs.Netlist.{Statement, member, mentioned, is_output, lines_where}
use Rattle.netlist_table.specs.Sound.{InRange}
use Rattle.netlist_table.proofs.HeldLines.{where-same}
use Rattle.netlist_table.proofs.Laws.{mentioned-in-range}
use Rattle.calculation.specs.declared.Advice.{Advice}
use Rattle.std.specs.Prelude.{Option, Some, None}
use Rattle.calculation.specs.Nodes.{combinational, observe, node}
use Rattle.calculation.specs.Acceptance.{BothSound}
use Rattle.calculation.specs.Prices.{prices_of}
use Rattle.calculation.specs.Calculation.{analysed}
use Rattle.calculation.specs.Advice.{allowed, allowed_lines, with_pad, observed_with, leaves, largest, pad, before, best, advice, rank_words, rank_of, no_rank, line_rank, line_ranks, ranks, LeavesExact, LargestLeft, Says, AdviceSays, ForbidSame, SameAdvice, SameRanks, Best}
use Rattle.calculation.proofs.Places.{node-inside}
use Rattle.calculation.proofs.Prices.{own-figures}
use Rattle.calculation.proofs.Bounds.{numbers-length}
use Rattle.calculation.proofs.Exactness.{exact}
use Rattle.calculation.proofs.Pads.{both-sound}

-- ---- lines that are so, ascending

module _ (p : ℕ → Bool) where
  abbrev lines : ℕ → ℕ → List ℕ
  lines n first = lines_where p n first

  -- What holds of the lines behind the first, and of the first where it is listed, holds of each.
  where_split : (n first m : ℕ) {A : Type 0} → List-as-Memᴰ m (lines (suc n) first) → (m ≡ first → p first ≡ true → A) → (List-as-Memᴰ m (lines n (suc first)) → A) → A
  unfolding lines_where pick
  where_split n first m {A} i here later = side (p first) refl i
    where
      side : (b : Bool) → p first ≡ b → List-as-Memᴰ m (pick b (first ∷ lines n (suc first)) (lines n (suc first))) → A
      side true t (List-Memᴰ-head e) = here e t
      side true t (List-Memᴰ-tail j) = later j
      side false t j = later j

  -- Each is so, and in range; and all that are so are listed.
  pub where-listed : (n first m : ℕ) → List-as-Memᴰ m (lines n first) → (p m ≡ true) × (first ≤ m) × (m < first + n)
  unfolding lines_where
  where-listed zero first m i = absurd (List-Memᴰ-not-nil i)
  where-listed (suc n) first m i =
      where_split n first m i (λ e t. (rw e t, omega arith, omega arith))
      (λ j. let h = where-listed n (suc first) m j in (h.0, omega (arith, h.1), omega (arith, h.2)))

  pub where_lists : (n first m : ℕ) → p m ≡ true → first ≤ m → m < first + n → List-as-Memᴰ m (lines n first)
  unfolding lines_where pick
  where_lists zero first m t low high = absurd (omega arith)
  where_lists (suc n) first m t low high = place (λ b. where_lists n (suc first) m t b (omega arith)) (ℕ_discrete m first)
    where
      place : (suc first ≤ m → List-as-Memᴰ m (lines n (suc first))) → Dec (m ≡ first) → List-as-Memᴰ m (lines (suc n) first)
      place later (yes e) = let u : p first ≡ true = rw e at t in rw u (List-Memᴰ-head e)
      place later (no e) =
          let j = later (omega arith) in
          by_test (p first) (λ u. rw u (List-Memᴰ-tail j)) (λ u. rw u j)

  abbrev Ascending : List ℕ → Type 0
  Ascending [] = Unit {0}
  Ascending (l ∷ ls) = ((m : ℕ) → List-as-Memᴰ m ls → l ≤ m) × Ascending ls

  where_ascends : (n first : ℕ) → Ascending (lines n first)
  unfolding lines_where pick
  where_ascends zero first = tt
  where_ascends (suc n) first = side (p first) (where_ascends n (suc first))
    where
      side : (b : Bool) → Ascending (lines n (suc first)) → Ascending (pick b (first ∷ lines n (suc first)) (lines n (suc first)))
      side true r = ((λ m i. omega (arith, (where-listed n (suc first) m i).1)), r)
      side false r = r

-- ---- the largest

module _ (f : ℕ → ℕ) where
  largest-most : (ls : List ℕ) (m : ℕ) → List-as-Memᴰ m ls → f m ≤ largest (map f ls)
  unfolding largest
  largest-most [] m i = elim i [ ]
  largest-most (l ∷ ls) m (List-Memᴰ-head e) = rw e (omega arith)
  largest-most (l ∷ ls) m (List-Memᴰ-tail i) = omega (arith, largest-most ls m i)

  largest-attained : (l : ℕ) (ls : List ℕ) → (m : ℕ) × List-as-Memᴰ m (l ∷ ls) × (f m ≡ largest (map f (l ∷ ls)))
  unfolding largest
  largest-attained l [] = (l, List-Memᴰ-head refl, omega arith)
  largest-attained l (k ∷ ks) = side (largest-attained k ks) (leb (largest (map f (k ∷ ks))) (f l)) refl
    where
      side : (m : ℕ) × List-as-Memᴰ m (k ∷ ks) × (f m ≡ largest (map f (k ∷ ks))) → (b : Bool) → leb (largest (map f (k ∷ ks))) (f l) ≡ b
          → (m : ℕ) × List-as-Memᴰ m (l ∷ k ∷ ks) × (f m ≡ largest (map f (l ∷ k ∷ ks)))
      side s true t = (l, List-Memᴰ-head refl, omega (arith, leb-true (largest (map f (k ∷ ks))) (f l) t))
      side s false t = (s.0, List-Memᴰ-tail s.1, omega (arith, s.2, leb-false (largest (map f (k ∷ ks))) (f l) t))

-- ---- the best

-- Of some lines, each with what it leaves.
record First (f : ℕ → ℕ) (ls : List ℕ) (l x : ℕ) : Type 0 where
  pub listed : List-as-Memᴰ l ls
  pub carries : x ≡ f l
  pub least : (m : ℕ) → List-as-Memᴰ m ls → x ≤ f m
  pub lowest : (m : ℕ) → List-as-Memᴰ m ls → f m ≡ x → l ≤ m

pub none-pad : (l x : ℕ) → ◌≡◌ {A = Read (Option Advice)} (read None) (read (pad l x)) → ⊥
none-pad l x e = let z : ◌≡◌ {A = ℕ} 0 1 = cc in omega arith

abbrev FirstSaid : (ℕ → ℕ) → List ℕ → Option Advice → Type 0
FirstSaid f ls None = ls ≡ []
FirstSaid f ls (Some a) = First f ls a.line a.largest

more_lem : (f : ℕ → ℕ) (l : ℕ) (ls : List ℕ) → ((m : ℕ) → List-as-Memᴰ m ls → l ≤ m) → (k y : ℕ) → First f ls k y
    → FirstSaid f (l ∷ ls) (pick (leb (f l) y) (pad l (f l)) (pad k y))
unfolding pick
more_lem f l ls up k y h = by_test (leb (f l) y) (λ t. rw t (first (leb-true (f l) y t))) (λ t. rw t (later (leb-false (f l) y t)))
  where
    first : f l ≤ y → First f (l ∷ ls) l (f l)
    first b = record { listed = List-Memᴰ-head refl; carries = refl; least = least; lowest = λ m i q. low m i }
      where
        least : (m : ℕ) → List-as-Memᴰ m (l ∷ ls) → f l ≤ f m
        least m (List-Memᴰ-head q) = le_of_eq (ap f (sym q))
        least m (List-Memᴰ-tail i) = le_trans b (h.least m i)

        low : (m : ℕ) → List-as-Memᴰ m (l ∷ ls) → l ≤ m
        low m (List-Memᴰ-head q) = le_of_eq (sym q)
        low m (List-Memᴰ-tail i) = up m i

    later : y < f l → First f (l ∷ ls) k y
    later b = record { listed = List-Memᴰ-tail h.listed; carries = h.carries; least = least; lowest = low }
      where
        least : (m : ℕ) → List-as-Memᴰ m (l ∷ ls) → y ≤ f m
        least m (List-Memᴰ-head q) = rw q (omega arith)
        least m (List-Memᴰ-tail i) = h.least m i

        low : (m : ℕ) → List-as-Memᴰ m (l ∷ ls) → f m ≡ y → k ≤ m
        low m (List-Memᴰ-head q) e = let z : f l ≡ y = ap f (sym q) ∙ e in absurd (omega arith)
        low m (List-Memᴰ-tail i) e = h.lowest m i e

one_more_lem : (f : ℕ → ℕ) (l : ℕ) (ls : List ℕ) → ((m : ℕ) → List-as-Memᴰ m ls → l ≤ m) → (a : Option Advice) → FirstSaid f ls a → FirstSaid f (l ∷ ls) (before l (f l) a)
unfolding before pick
one_more_lem f l ls up None e =
    record {
      listed = List-Memᴰ-head refl;
      carries = refl;
      least = λ m i. alone m i;
      lowest = λ m i q. low m i;
    }
  where
    low : (m : ℕ) → List-as-Memᴰ m (l ∷ ls) → l ≤ m
    low m (List-Memᴰ-head q) = le_of_eq (sym q)
    low m (List-Memᴰ-tail i) = up m i

    alone : (m : ℕ) → List-as-Memᴰ m (l ∷ ls) → f l ≤ f m
    alone m (List-Memᴰ-head q) = le_of_eq (ap f (sym q))
    alone m (List-Memᴰ-tail i) = absurd (List-Memᴰ-not-nil (rw e at i))
one_more_lem f l ls up (Some a) h = more_lem f l ls up a.line a.largest h

best_first : (f : ℕ → ℕ) (p : ℕ → Bool) (ls : List ℕ) → Ascending p ls → FirstSaid f ls (best f ls)
unfolding best
best_first f p [] up = refl
best_first f p (l ∷ ls) up = one_more_lem f l ls up.0 (best f ls) (best_first f p ls up.1)

-- ---- at a netlist

module _ (cells : List Cell) (ss : List Statement) (sound : BothSound cells ss) where
  said-listed : (m : ℕ) → mentioned m ss ≡ true → List-as-Memᴰ m (lines_where (λ k. mentioned k ss) Size.lines 1)
  unfolding InRange
  said-listed m t =
      let r : InRange m = mentioned-in-range cells ss sound.netlist m t in
      where_lists (λ k. mentioned k ss) Size.lines 1 m t r.0 (omega (arith, r.1))

  left-most : (l m : ℕ) → mentioned m ss ≡ true → observed_with cells ss l m ≤ largest (leaves cells ss l)
  unfolding leaves
  left-most l m t = largest-most (observed_with cells ss l) (lines_where (λ k. mentioned k ss) Size.lines 1) m (said-listed m t)

  -- There is a largest CO where some line is mentioned, and it is the only one.
  pub largest-left : (l k : ℕ) → mentioned k ss ≡ true → LargestLeft cells ss l (largest (leaves cells ss l))
  largest-left l k t = record { line = some.0; is_mentioned = some.1; same = some.2; most = left-most l }
    where
      from : (ls : List ℕ) → ((m : ℕ) → List-as-Memᴰ m ls → mentioned m ss ≡ true) → List-as-Memᴰ k ls
          → (m : ℕ) × (mentioned m ss ≡ true) × (observed_with cells ss l m ≡ largest (map (observed_with cells ss l) ls))
      from [] all i = absurd (List-Memᴰ-not-nil i)
      from (j ∷ js) all i = let a = largest-attained (observed_with cells ss l) j js in (a.0, all a.0 a.1, a.2)

      some : (m : ℕ) × (mentioned m ss ≡ true) × (observed_with cells ss l m ≡ largest (leaves cells ss l))
      some =
          unfold leaves in
          from (lines_where (λ m. mentioned m ss) Size.lines 1) (λ m i. (where-listed (λ j. mentioned j ss) Size.lines 1 m i).0) (said-listed k t)

  left-once : (l x : ℕ) → LargestLeft cells ss l x → largest (leaves cells ss l) ≡ x
  left-once l x h =
      let other = largest-left l h.line h.is_mentioned in
      omega (arith, h.same, left-most l h.line h.is_mentioned, other.same, h.most other.line other.is_mentioned)

  -- ---- which lines are allowed

  module _ (forbidden : List ℕ) where
    pub allowed-said : (l : ℕ) → allowed ss forbidden l ≡ true → mentioned l ss ≡ true
    unfolding allowed
    allowed-said l t = and_left (mentioned l ss) _ t

    pub allowed-free : (l : ℕ) → allowed ss forbidden l ≡ true → is_output l ss ≡ false
    unfolding allowed
    allowed-free l t = not-true (is_output l ss) (and_right (not (member l forbidden)) _ (and_right (mentioned l ss) _ t))

    allowed-listed : (l : ℕ) → allowed ss forbidden l ≡ true → List-as-Memᴰ l (allowed_lines ss forbidden)
    unfolding InRange allowed_lines
    allowed-listed l t =
        let r : InRange l = mentioned-in-range cells ss sound.netlist l (allowed-said l t) in
        where_lists (allowed ss forbidden) Size.lines 1 l t r.0 (omega (arith, r.1))

    listed-allowed : (l : ℕ) → List-as-Memᴰ l (allowed_lines ss forbidden) → allowed ss forbidden l ≡ true
    unfolding allowed_lines
    listed-allowed l i = (where-listed (allowed ss forbidden) Size.lines 1 l i).0

    -- Demand 3 of what an allowed line leaves.
    pub leaves-exact : (l : ℕ) → allowed ss forbidden l ≡ true → LeavesExact cells ss l
    unfolding observed_with
    leaves-exact l t m said =
        let both : BothSound cells (with_pad ss l) = both-sound cells ss l sound (allowed-said l t) (allowed-free l t) in
        let range : InRange m = mentioned-in-range cells ss sound.netlist m said in
        let price = prices_of (with_pad ss l) in
        rw (at_getD (analysed cells (with_pad ss l)).numbers (node combinational (observe m)) 0
        (rw (numbers-length cells (with_pad ss l) both price (own-figures both)) (node-inside combinational (observe m) range)))
        (exact cells (with_pad ss l) both price (own-figures both) combinational (observe m) range)

    named : (l x : ℕ) → First (λ l. largest (leaves cells ss l)) (allowed_lines ss forbidden) l x → Best cells ss forbidden l x
    named l x h =
        let t : allowed ss forbidden l ≡ true = listed-allowed l h.listed in
        record {
          is_allowed = t;
          carries = rw h.carries (largest-left l l (allowed-said l t));
          exact = leaves-exact l t;
          least = λ m y a left. rw (left-once m y left) at (h.least m (allowed-listed m a));
          lowest = λ m a left. h.lowest m (allowed-listed m a) (left-once m x left);
        }

    says : (a : Option Advice) → FirstSaid (λ l. largest (leaves cells ss l)) (allowed_lines ss forbidden) a → Says cells ss forbidden a
    says None e = λ m.
        by_test (allowed ss forbidden m) (λ t. absurd (List-Memᴰ-not-nil (rw e at (allowed-listed m t)))) (λ t. t)
    says (Some a) h = named a.line a.largest h

pub advice_says : AdviceSays
unfolding advice allowed_lines
advice_says cells ss sound forbidden =
    says cells ss sound forbidden (advice cells ss forbidden)
    (best_first (λ l. largest (leaves cells ss l)) (allowed ss forbidden) (lines_where (allowed ss forbidden) Size.lines 1)
    (where_ascends (allowed ss forbidden) Size.lines 1))

-- ---- lists that forbid the same lines

same-allowed : (ss : List Statement) (xs ys : List ℕ) → ForbidSame ss xs ys → (l : ℕ) → allowed ss xs l ≡ allowed ss ys l
unfolding allowed
same-allowed ss xs ys h l = by_test (mentioned l ss) (λ t. rw (t, h l t)) (λ t. rw t)

pub same-advice : SameAdvice
unfolding advice allowed_lines
same-advice cells ss xs ys h =
    ap (best (λ l. largest (leaves cells ss l)))
    (where-same (allowed ss xs) (allowed ss ys) Size.lines 1 (λ l low high. same-allowed ss xs ys h l))

pub same-ranks : SameRanks
unfolding ranks
same-ranks cells ss xs ys h = ap (λ (f : ℕ → List ℕ). line_ranks f Size.lines 1) (fun_ext same)
  where
    same : (l : ℕ) → line_rank cells ss xs l ≡ line_rank cells ss ys l
    same l = unfold line_rank in ap (λ (b : Bool). pick b (rank_words (rank_of (leaves cells ss l))) no_rank) (same-allowed ss xs ys h l)
