-- Marks: which lines are marked when one more is, and of those that a test tells.
use Rattle.common_laws.proofs.Base.{Bool, true, false, List, [], ◌∷◌, List-as-Memᴰ, List-Memᴰ-head, List-Memᴰ-tail, ◌⊎◌, inl, inr, ⊎_elim, ◌≡◌, refl, sym, ◌∙◌, ℕ, zero, suc, ◌+◌, ◌≤◌}
use Rattle.common_laws.proofs.Base.{◌<◌, ℕ_discrete, dec_lt, arith, length, set, replicate, length-set, get_or-set_same, get_or-set_other, set_out}
use Rattle.reading.specs.Choice.{pick}
use Rattle.reading.proofs.Laws.{and_left, and_right}
use Rattle.netlist_table.specs.Netlist.{lines_where}
use Rattle.chip_loops.specs.Marks.{marked, all_marked, mark_each}

-- ---- one more

module _ (marks : List Bool) (l : ℕ) where
  pub set-marked : l < length marks → marked (set marks l true) l ≡ true
  unfolding marked
  set-marked h = rw (get_or-set_same marks l true false h)

  pub set_other : (k : ℕ) → (k ≡ l → ⊥) → marked (set marks l true) k ≡ marked marks k
  unfolding marked
  set_other k n = rw (get_or-set_other marks l k true false n)

  pub set_keeps : (k : ℕ) → marked marks k ≡ true → marked (set marks l true) k ≡ true
  set_keeps k t = go (ℕ_discrete k l)
    where
      go : Dec (k ≡ l) → marked (set marks l true) k ≡ true
      go (no n) = rw (set_other k n) t
      go (yes e) = inside (dec_lt l (length marks))
        where
          inside : Dec (l < length marks) → marked (set marks l true) k ≡ true
          inside (yes h) = rw e (set-marked h)
          inside (no n) = rw (set_out marks l true (omega arith)) t

  pub set_cases : (k : ℕ) → marked (set marks l true) k ≡ true → (k ≡ l) ⊎ (marked marks k ≡ true)
  set_cases k t = go (ℕ_discrete k l)
    where
      go : Dec (k ≡ l) → (k ≡ l) ⊎ (marked marks k ≡ true)
      go (yes e) = inl e
      go (no n) = inr (sym (set_other k n) ∙ t)

pub none-marked : (n l : ℕ) → marked (replicate n false) l ≡ false
unfolding marked
none-marked zero l = refl
none-marked (suc n) zero = refl
none-marked (suc n) (suc l) = none-marked n l

-- ---- all of a list

module _ (marks : List Bool) where
  pub all_listed : (ls : List ℕ) → all_marked marks ls ≡ true → (l : ℕ) → List-as-Memᴰ l ls → marked marks l ≡ true
  unfolding all_marked
  all_listed (k ∷ ls) t l (List-Memᴰ-head e) = rw e (and_left (marked marks k) (all_marked marks ls) t)
  all_listed (k ∷ ls) t l (List-Memᴰ-tail m) = all_listed ls (and_right (marked marks k) (all_marked marks ls) t) l m
  all_listed [] t l m = elim m [ ]

  pub listed-all : (ls : List ℕ) → ((l : ℕ) → List-as-Memᴰ l ls → marked marks l ≡ true) → all_marked marks ls ≡ true
  unfolding all_marked
  listed-all [] h = refl
  listed-all (k ∷ ls) h = rw (h k (List-Memᴰ-head refl), listed-all ls (λ l m. h l (List-Memᴰ-tail m)))

-- ---- the lines for which a test holds

module _ (p : ℕ → Bool) where
  pub where-listed : (n first l : ℕ) → p l ≡ true → first ≤ l → l < first + n → List-as-Memᴰ l (lines_where p n first)
  unfolding lines_where pick
  where-listed zero first l t low high = absurd (omega arith)
  where-listed (suc n) first l t low high = go (ℕ_discrete l first) (λ h. where-listed n (suc first) l t h (omega arith))
    where
      later : (b : Bool) → List-as-Memᴰ l (lines_where p n (suc first))
          → List-as-Memᴰ l (pick b (first ∷ lines_where p n (suc first)) (lines_where p n (suc first)))
      later true m = List-Memᴰ-tail m
      later false m = m

      go : Dec (l ≡ first) → (suc first ≤ l → List-as-Memᴰ l (lines_where p n (suc first)))
          → List-as-Memᴰ l (pick (p first) (first ∷ lines_where p n (suc first)) (lines_where p n (suc first)))
      go (yes e) rest = rw (← e, t) (List-Memᴰ-head refl)
      go (no d) rest = later (p first) (rest (omega arith))

  pub listed-where : (n first l : ℕ) → List-as-Memᴰ l (lines_where p n first) → p l ≡ true
  unfolding lines_where pick
  listed-where (suc n) first l m = go (p first) refl m (listed-where n (suc first) l)
    where
      go : (b : Bool) → p first ≡ b → List-as-Memᴰ l (pick b (first ∷ lines_where p n (suc first)) (lines_where p n (suc first)))
          → (List-as-Memᴰ l (lines_where p n (suc first)) → p l ≡ true) → p l ≡ true
      go true t (List-Memᴰ-head e) rest = rw e t
      go true t (List-Memᴰ-tail i) rest = rest i
      go false t i rest = rest i
  listed-where zero first l m = elim m [ ]

-- ---- marking a list

pub each_keeps : (marks : List Bool) (ls : List ℕ) (k : ℕ) → marked marks k ≡ true → marked (mark_each marks ls) k ≡ true
unfolding mark_each
each_keeps marks [] k t = t
each_keeps marks (l ∷ ls) k t = each_keeps (set marks l true) ls k (set_keeps marks l k t)

pub each-marked : (marks : List Bool) (ls : List ℕ) (l : ℕ) → List-as-Memᴰ l ls → l < length marks → marked (mark_each marks ls) l ≡ true
unfolding mark_each
each-marked marks (k ∷ ls) l (List-Memᴰ-head e) h =
    each_keeps (set marks k true) ls l (rw e (set-marked marks k (rw (← e) h)))
each-marked marks (k ∷ ls) l (List-Memᴰ-tail m) h = each-marked (set marks k true) ls l m (simp length-set h)
each-marked marks [] l m h = elim m [ ]

pub each-size : (marks : List Bool) (ls : List ℕ) → length (mark_each marks ls) ≡ length marks
unfolding mark_each
each-size marks [] = refl
each-size marks (l ∷ ls) = each-size (set marks l true) ls ∙ simp length-set

-- What is marked was marked, or stands in the list.
pub each_cases : (P : ℕ → Type 0) (marks : List Bool) (ls : List ℕ) → ((k : ℕ) → marked marks k ≡ true → P k) → ((k : ℕ) → List-as-Memᴰ k ls → P k)
    → (k : ℕ) → marked (mark_each marks ls) k ≡ true → P k
unfolding mark_each
each_cases P marks [] a b k t = a k t
each_cases P marks (l ∷ ls) a b k t =
    each_cases P (set marks l true) ls
    (λ j u. ⊎_elim (λ e. rw e (b l (List-Memᴰ-head refl))) (λ v. a j v) (set_cases marks l j u))
    (λ j m. b j (List-Memᴰ-tail m))
    k
    t
