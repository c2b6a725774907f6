-- Numbers that stand, kept as costs: the values alone, or all.
use Rattle.common_laws.proofs.Base.{true, false, List, [], ◌∷◌, map, ◌≡◌, refl, sym, ◌∙◌, ap, ℕ, zero, suc, ◌+◌, ◌%◌, ◌≤◌, ◌<◌, ℕ_discrete, dec_lt, le_refl, arith, lt-ltb}
use Rattle.common_laws.proofs.Base.{le-ltb, length, get_or, set, take, length-set, length-map, List-get_or-eq-default, ext_get_or, get_or-set_same, get_or-set_other, get_or-take}
use Rattle.common_laws.proofs.Base.{length-take-le}
use Rattle.sizes.specs.Sizes as Size
use Rattle.reading.specs.Choice.{pick}
use Rattle.reading.proofs.Laws.{by_test}
use Rattle.cost.specs.Cost.{never}
use Rattle.plans.specs.Sweep.{at, Bounded}
use Rattle.plans.proofs.Laws.{at_getD}
use Rattle.netlist_table.specs.Netlist.{Statement}
use Rattle.calculation.specs.Prices.{Figures, prices_of}
use Rattle.calculation.specs.Calculation.{start}
use Rattle.calculation.specs.Runs.{of_setting, relaid}
use Rattle.calculation.proofs.Laws.{start-length, start-bounded}
use Rattle.calculation.proofs.Outputs.{mixed-length, mixed-at}
use Rattle.sweep_reruns.specs.Kept.{as_cost, held, is_below, kept_at, Kept}

-- ---- numbers kept

-- One place, by the test of its index among the six.
module _ (end i : ℕ) (xs : List ℕ) where
  pub keep_stored : (v w : ℕ) → i % Size.costs < end → v ≡ w → set xs i v ≡ pick (is_below end i) (set xs i w) xs
  unfolding is_below pick
  keep_stored v w t e = rw (lt-ltb (i % Size.costs) end t, e)

  pub keep_passed : (w : ℕ) → end ≤ i % Size.costs → xs ≡ pick (is_below end i) (set xs i w) xs
  unfolding is_below pick
  keep_passed w t = rw (le-ltb (i % Size.costs) end t)

pub kept-none : (end : ℕ) (standing before : List ℕ) → Kept end standing before 0 before
kept-none end standing before = record { long = refl; done = λ n h. absurd (omega arith); rest = λ n h. refl }

pub kept_next : (end : ℕ) (standing before xs ys : List ℕ) (i : ℕ) → i < length before → Kept end standing before i xs
    → ys ≡ pick (is_below end i) (set xs i (as_cost (get_or standing i 0))) xs → Kept end standing before (suc i) ys
kept_next end standing before xs ys i h k e =
    by_test (is_below end i) (λ t. rw (e ∙ stored t) (stores t)) (λ t. rw (e ∙ passed t) (passes t))
  where
    value : ℕ
    value = as_cost (get_or standing i 0)

    stored : is_below end i ≡ true → pick (is_below end i) (set xs i value) xs ≡ set xs i value
    stored t = unfold pick in rw t

    passed : is_below end i ≡ false → pick (is_below end i) (set xs i value) xs ≡ xs
    passed t = unfold pick in rw t

    stores : is_below end i ≡ true → Kept end standing before (suc i) (set xs i value)
    stores t =
        record {
          long = length-set xs i value ∙ k.long;
          done = λ n b. place n b (ℕ_discrete n i);
          rest = λ n b. get_or-set_other xs i n value 0 (λ q. omega arith) ∙ k.rest n (omega arith);
        }
      where
        place : (n : ℕ) → n < suc i → Dec (n ≡ i) → get_or (set xs i value) n 0 ≡ kept_at end standing before n
        place n b (yes q) = unfold kept_at pick in rw (q, t, get_or-set_same xs i value 0 (rw k.long h))
        place n b (no q) = get_or-set_other xs i n value 0 q ∙ k.done n (omega arith)

    passes : is_below end i ≡ false → Kept end standing before (suc i) xs
    passes t = record { long = k.long; done = λ n b. place n b (ℕ_discrete n i); rest = λ n b. k.rest n (omega arith) }
      where
        place : (n : ℕ) → n < suc i → Dec (n ≡ i) → get_or xs n 0 ≡ kept_at end standing before n
        place n b (yes q) = unfold kept_at pick in rw (q, t) (k.rest i (le_refl i))
        place n b (no q) = k.done n (omega arith)

-- ---- and what that comes to

getD_costs : (xs : List ℕ) (n : ℕ) → get_or (map as_cost xs) n 0 ≡ as_cost (get_or xs n 0)
getD_costs [] n = omega arith
getD_costs (x ∷ xs) zero = refl
getD_costs (x ∷ xs) (suc n) = getD_costs xs n

pub held-length : (standing : List ℕ) → Size.numbers ≤ length standing → length (held standing) ≡ Size.numbers
unfolding held
held-length standing h = length-map (take Size.numbers standing) as_cost ∙ length-take-le Size.numbers standing h

held_at : (standing : List ℕ) (n : ℕ) → n < Size.numbers → get_or (held standing) n 0 ≡ as_cost (get_or standing n 0)
unfolding held
held_at standing n h = getD_costs (take Size.numbers standing) n ∙ ap as_cost (get_or-take Size.numbers standing n 0 h)

module _ (ss : List Statement) (standing : List ℕ) (room : Size.numbers ≤ length standing) where
  pub relaid-length : length (relaid (prices_of ss) ss (held standing)) ≡ Size.numbers
  unfolding relaid
  relaid-length =
      mixed-length of_setting 0 (held standing) (start ss) (held-length standing room ∙ sym (start-length (prices_of ss) ss)) ∙ held-length standing room

  relaid-at : (n : ℕ) → n < Size.numbers → get_or (relaid (prices_of ss) ss (held standing)) n 0 ≡ kept_at Size.observed_at standing (start ss) n
  unfolding kept_at is_below of_setting
  relaid-at n h =
      let long : length (held standing) ≡ Size.numbers = held-length standing room in
      let z : 0 + n ≡ n = omega arith in
      sym (at_getD (relaid (prices_of ss) ss (held standing)) n 0 (rw relaid-length h))
      ∙ mixes
      ∙ rw (z, at_getD (held standing) n 0 (rw long h), at_getD (start ss) n 0 (rw (start-length (prices_of ss) ss) h), held_at standing n h)
    where
      mixes : at (relaid (prices_of ss) ss (held standing)) n ≡ pick (of_setting (0 + n)) (at (held standing) n) (at (start ss) n)
      mixes = unfold relaid in mixed-at of_setting 0 (held standing) (start ss) (held-length standing room ∙ sym (start-length (prices_of ss) ss)) n

  pub kept-all : (after : List ℕ) → Kept Size.observed_at standing (start ss) Size.numbers after → after ≡ relaid (prices_of ss) ss (held standing)
  kept-all after k =
      let long : length after ≡ Size.numbers = k.long ∙ start-length (prices_of ss) ss in
      ext_get_or 0 after (relaid (prices_of ss) ss (held standing)) (long ∙ sym relaid-length)
      (λ n h. k.done n (rw long at h) ∙ sym (relaid-at n (rw long at h)))

  pub relaid-bounded : Figures (prices_of ss) ss → Bounded (relaid (prices_of ss) ss (held standing))
  relaid-bounded figures n = place (dec_lt n Size.numbers)
    where
      place : Dec (n < Size.numbers) → at (relaid (prices_of ss) ss (held standing)) n ≤ never
      place (yes h) =
          rw (at_getD (relaid (prices_of ss) ss (held standing)) n 0 (rw relaid-length h), relaid-at n h)
          (unfold kept_at pick in
          by_test (is_below Size.observed_at n)
          (λ t. rw t (omega arith))
          (λ t. rw (t, ← at_getD (start ss) n 0 (rw (start-length (prices_of ss) ss) h)) (start-bounded (prices_of ss) ss figures n)))
      place (no h) = unfold at in rw (List-get_or-eq-default (relaid (prices_of ss) ss (held standing)) never {n = n} (omega (arith, relaid-length))) (le_refl never)

module _ (standing : List ℕ) (room : Size.numbers ≤ length standing) where
  -- Each place is one of the six of its line.
  each-kept : (before : List ℕ) (n : ℕ) → kept_at Size.costs standing before n ≡ as_cost (get_or standing n 0)
  unfolding kept_at is_below pick
  each-kept before n = rw (lt-ltb (n % Size.costs) Size.costs (omega arith))

  pub all-kept : (before after : List ℕ) → length before ≡ Size.numbers → Kept Size.costs standing before Size.numbers after → after ≡ held standing
  all-kept before after size k =
      let long : length after ≡ Size.numbers = k.long ∙ size in
      ext_get_or 0 after (held standing) (long ∙ sym (held-length standing room))
      (λ n h. k.done n (rw long at h) ∙ each-kept before n ∙ sym (held_at standing n (rw long at h)))

  pub held-bounded : Bounded (held standing)
  held-bounded n = place (dec_lt n Size.numbers)
    where
      place : Dec (n < Size.numbers) → at (held standing) n ≤ never
      place (yes h) = rw (at_getD (held standing) n 0 (rw (held-length standing room) h), held_at standing n h) (omega arith)
      place (no h) = unfold at in rw (List-get_or-eq-default (held standing) never {n = n} (omega (arith, held-length standing room))) (le_refl never)
