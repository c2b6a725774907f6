-- A list of nodes without one of them.
use Rattle.common_laws.proofs.Base.{Bool, true, false, List, [], ◌∷◌, List-as-Memᴰ, List-Memᴰ-head, List-Memᴰ-tail, ◌≡◌, refl, sym, ◌∙◌, ℕ, suc, ◌≤◌, ◌<◌, le_refl, arith, eqb-true}
use Rattle.common_laws.proofs.Base.{eqb-false, eq-eqb, eqb, length}

unfoldable pub drop? : Bool → ℕ → List ℕ → List ℕ
drop? true m ms = ms
drop? false m ms = m ∷ ms

unfoldable pub without : ℕ → List ℕ → List ℕ
without n [] = []
without n (m ∷ ms) = drop? (eqb m n) m (without n ms)

-- Every node of `us` is one of `ts`.
abbrev pub Among : List ℕ → List ℕ → Type 0
Among us ts = (m : ℕ) → List-as-Memᴰ m us → List-as-Memᴰ m ts

pub without_in : (n m : ℕ) (us : List ℕ) → List-as-Memᴰ m us → (m ≡ n → ⊥) → List-as-Memᴰ m (without n us)
unfolding without drop?
without_in n m [] i h = elim i [ ]
without_in n m (u ∷ us) (List-Memᴰ-head e) h = test (eqb u n) refl
  where
    test : (b : Bool) → eqb u n ≡ b → List-as-Memᴰ m (drop? b u (without n us))
    test true f = absurd (h (e ∙ eqb-true u n f))
    test false f = List-Memᴰ-head e
without_in n m (u ∷ us) (List-Memᴰ-tail i) h = test (eqb u n) (without_in n m us i h)
  where
    test : (b : Bool) → List-as-Memᴰ m (without n us) → List-as-Memᴰ m (drop? b u (without n us))
    test true r = r
    test false r = List-Memᴰ-tail r

cons-out : (n m u : ℕ) (us ts : List ℕ) (b : Bool) → eqb u n ≡ b → (List-as-Memᴰ m ts → List-as-Memᴰ m us × (m ≡ n → ⊥)) → List-as-Memᴰ m (drop? b u ts) → List-as-Memᴰ m (u ∷ us) × (m ≡ n → ⊥)
unfolding drop?
cons-out n m u us ts true f r i = let t : List-as-Memᴰ m us × (m ≡ n → ⊥) = r i in (List-Memᴰ-tail t.0, t.1)
cons-out n m u us ts false f r (List-Memᴰ-head e) = (List-Memᴰ-head e, λ g. eqb-false u n f (sym e ∙ g))
cons-out n m u us ts false f r (List-Memᴰ-tail i) = let t : List-as-Memᴰ m us × (m ≡ n → ⊥) = r i in (List-Memᴰ-tail t.0, t.1)

pub without-out : (n m : ℕ) (us : List ℕ) → List-as-Memᴰ m (without n us) → List-as-Memᴰ m us × (m ≡ n → ⊥)
unfolding without
without-out n m [] i = elim i [ ]
without-out n m (u ∷ us) i = cons-out n m u us (without n us) (eqb u n) refl (without-out n m us) i

pub without_mono : (n : ℕ) (us ts : List ℕ) → Among us ts → Among (without n us) (without n ts)
without_mono n us ts h m i =
    let t : List-as-Memᴰ m us × (m ≡ n → ⊥) = without-out n m us i in
    without_in n m ts (h m t.0) t.1

pub without-among : (n : ℕ) (us : List ℕ) → Among (without n us) us
without-among n us m i = (without-out n m us i).0

pub without-swap : (n o : ℕ) (us : List ℕ) → Among (without n (without o us)) (without o (without n us))
without-swap n o us m i =
    let t : List-as-Memᴰ m (without o us) × (m ≡ n → ⊥) = without-out n m (without o us) i in
    let s : List-as-Memᴰ m us × (m ≡ o → ⊥) = without-out o m us t.0 in
    without_in o m (without n us) (without_in n m us s.0 t.1) s.1

without-length : (n : ℕ) (us : List ℕ) → length (without n us) ≤ length us
unfolding without drop?
without-length n [] = le_refl 0
without-length n (u ∷ us) = test (eqb u n) (without-length n us)
  where
    test : (b : Bool) → length (without n us) ≤ length us → length (drop? b u (without n us)) ≤ suc (length us)
    test true h = omega arith
    test false h = omega arith

pub without_shorter : (n : ℕ) (us : List ℕ) → List-as-Memᴰ n us → length (without n us) < length us
unfolding without drop?
without_shorter n [] i = elim i [ ]
without_shorter n (u ∷ us) (List-Memᴰ-head e) = rw (eq-eqb u n (sym e)) (omega (arith, without-length n us))
without_shorter n (u ∷ us) (List-Memᴰ-tail i) = test (eqb u n) (without_shorter n us i)
  where
    test : (b : Bool) → length (without n us) < length us → length (drop? b u (without n us)) < suc (length us)
    test true h = omega arith
    test false h = omega arith
