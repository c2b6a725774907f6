-- What holds of each element of a list, of some element, and of those that are kept.
use Rattle.common_laws.proofs.Base.{Bool, true, false, ◌&&◌, List, [], ◌∷◌, ◌++◌, map, List-as-Memᴰ, List-Memᴰ-head, List-Memᴰ-tail, List-Memᴰ-not-nil, ◌≡◌, refl, sym, ap, ◌∙◌, ◌+◌}
use Rattle.common_laws.proofs.Base.{◌≤◌, arith, length}
use Rattle.reading.specs.Choice.{pick}
use Rattle.reading.specs.Each.{Each}
use Rattle.reading.proofs.Laws.{by_test, clash, and_left, and_right}
use Rattle.library_table.specs.Library.{any_of}
use Rattle.truth_tables.specs.Tables.{all_of, keep}

module _ {A : Type 0} where
  -- ---- of each

  pub all-member : (p : A → Bool) {x : A} {xs : List A} → List-as-Memᴰ x xs → all_of p xs ≡ true → p x ≡ true
  unfolding all_of
  all-member p {x} {xs = y ∷ xs} (List-Memᴰ-head e) h = ap p e ∙ and_left (p y) (all_of p xs) h
  all-member p {x} {xs = y ∷ xs} (List-Memᴰ-tail m) h = all-member p m (and_right (p y) (all_of p xs) h)
  all-member p {x = x} {xs = []} m h = elim m [ ]

  pub all_by : (p : A → Bool) (xs : List A) → ((x : A) → List-as-Memᴰ x xs → p x ≡ true) → all_of p xs ≡ true
  unfolding all_of
  all_by p [] f = refl
  all_by p (x ∷ xs) f = rw (f x (List-Memᴰ-head refl)) (all_by p xs (λ y m. f y (List-Memᴰ-tail m)))

  pub all_append : (p : A → Bool) (xs ys : List A) → all_of p (xs ++ ys) ≡ (all_of p xs && all_of p ys)
  unfolding all_of
  all_append p [] ys = refl
  all_append p (x ∷ xs) ys = by_test (p x) (λ e. rw e (all_append p xs ys)) (λ e. rw e refl)

  pub all_both : (p q : A → Bool) (xs : List A) → all_of (λ x. p x && q x) xs ≡ (all_of p xs && all_of q xs)
  unfolding all_of
  all_both p q [] = refl
  all_both p q (x ∷ xs) = rw (all_both p q xs) (go (p x) (q x) (all_of p xs) (all_of q xs))
    where
      go : (a b c d : Bool) → ((a && b) && (c && d)) ≡ ((a && c) && (b && d))
      go true true c d = refl
      go true false true d = refl
      go true false false d = refl
      go false b c d = refl

  pub all_same : (p q : A → Bool) → ((x : A) → p x ≡ q x) → (xs : List A) → all_of p xs ≡ all_of q xs
  unfolding all_of
  all_same p q f [] = refl
  all_same p q f (x ∷ xs) = rw (f x, all_same p q f xs) refl

  -- Where it does not hold of each, there is one of which it does not.
  pub all-fails : {C : Type 0} (p : A → Bool) (xs : List A) → all_of p xs ≡ false → ((x : A) → List-as-Memᴰ x xs → p x ≡ false → C) → C
  unfolding all_of
  all-fails p [] h on = clash true refl h
  all-fails p (x ∷ xs) h on =
      by_test (p x)
      (λ e. all-fails p xs (rw e at h) (λ y m. on y (List-Memᴰ-tail m)))
      (λ e. on x (List-Memᴰ-head refl) e)

  -- ---- of some

  pub any_found : {C : Type 0} (p : A → Bool) (xs : List A) → any_of p xs ≡ true → ((x : A) → List-as-Memᴰ x xs → p x ≡ true → C) → C
  unfolding any_of
  any_found p [] h on = clash false h refl
  any_found p (x ∷ xs) h on =
      by_test (p x)
      (λ e. on x (List-Memᴰ-head refl) e)
      (λ e. any_found p xs (rw e at h) (λ y m. on y (List-Memᴰ-tail m)))

  -- ---- those kept

  pub keep_member : (p : A → Bool) {x : A} {xs : List A} → List-as-Memᴰ x xs → p x ≡ true → List-as-Memᴰ x (keep p xs)
  unfolding keep pick
  keep_member p {x} {xs = y ∷ xs} (List-Memᴰ-head e) h = rw (sym (ap p e) ∙ h) (List-Memᴰ-head e)
  keep_member p {x} {xs = y ∷ xs} (List-Memᴰ-tail m) h =
      by_test (p y) (λ k. rw k (List-Memᴰ-tail (keep_member p m h))) (λ k. rw k (keep_member p m h))
  keep_member p {x = x} {xs = []} m h = elim m [ ]

  pub kept : (p : A → Bool) {x : A} (xs : List A) → List-as-Memᴰ x (keep p xs) → (p x ≡ true) × List-as-Memᴰ x xs
  unfolding keep pick
  kept p {x} [] m = absurd (List-Memᴰ-not-nil m)
  kept p {x} (y ∷ xs) m = by_test (p y) (λ k. here k (kept p xs) (rw k at m)) (λ k. let r = kept p xs (rw k at m) in (r.0, List-Memᴰ-tail r.1))
    where
      here : p y ≡ true → (List-as-Memᴰ x (keep p xs) → (p x ≡ true) × List-as-Memᴰ x xs) → List-as-Memᴰ x (y ∷ keep p xs) → (p x ≡ true) × List-as-Memᴰ x (y ∷ xs)
      here k more (List-Memᴰ-head e) = (ap p e ∙ k, List-Memᴰ-head e)
      here k more (List-Memᴰ-tail n) = let r = more n in (r.0, List-Memᴰ-tail r.1)

  pub keep_append : (p : A → Bool) (xs ys : List A) → keep p (xs ++ ys) ≡ keep p xs ++ keep p ys
  unfolding keep pick
  keep_append p [] ys = refl
  keep_append p (x ∷ xs) ys =
      by_test (p x) (λ e. rw (e, keep_append p xs ys) refl) (λ e. rw (e, keep_append p xs ys) refl)

  pub keep_same : (p q : A → Bool) → ((x : A) → p x ≡ q x) → (xs : List A) → keep p xs ≡ keep q xs
  unfolding keep
  keep_same p q f [] = refl
  keep_same p q f (x ∷ xs) = rw (f x, keep_same p q f xs) refl

  -- What is harder to meet keeps fewer.
  pub keep_fewer : (p q : A → Bool) → ((x : A) → p x ≡ true → q x ≡ true) → (xs : List A) → length (keep p xs) ≤ length (keep q xs)
  unfolding keep pick
  keep_fewer p q f [] = omega arith
  keep_fewer p q f (x ∷ xs) =
      by_test (p x)
      (λ e. rw (e, f x e) (omega (arith, keep_fewer p q f xs)))
      (λ e. by_test (q x)
      (λ k. rw (e, k) (omega (arith, keep_fewer p q f xs)))
      (λ k. rw (e, k) (keep_fewer p q f xs)))

module _ {A B : Type 0} where
  pub map-member : (f : A → B) {x : A} {xs : List A} → List-as-Memᴰ x xs → List-as-Memᴰ (f x) (map f xs)
  map-member f {x} {xs = y ∷ xs} (List-Memᴰ-head e) = List-Memᴰ-head (ap f e)
  map-member f {x} {xs = y ∷ xs} (List-Memᴰ-tail m) = List-Memᴰ-tail (map-member f m)
  map-member f {x = x} {xs = []} m = elim m [ ]

  pub all_map : (p : B → Bool) (f : A → B) (xs : List A) → all_of p (map f xs) ≡ all_of (λ x. p (f x)) xs
  unfolding all_of
  all_map p f [] = refl
  all_map p f (x ∷ xs) = rw (all_map p f xs) refl

  pub keep_map : (p : B → Bool) (f : A → B) (xs : List A) → keep p (map f xs) ≡ map f (keep (λ x. p (f x)) xs)
  unfolding keep pick
  keep_map p f [] = refl
  keep_map p f (x ∷ xs) = by_test (p (f x)) (λ e. rw (e, keep_map p f xs) refl) (λ e. rw (e, keep_map p f xs) refl)

  pub map-append : (f : A → B) (xs ys : List A) → map f (xs ++ ys) ≡ map f xs ++ map f ys
  map-append f [] ys = refl
  map-append f (x ∷ xs) ys = rw (map-append f xs ys) refl

  pub map_same : (f g : A → B) → ((x : A) → f x ≡ g x) → (xs : List A) → map f xs ≡ map g xs
  map_same f g e [] = refl
  map_same f g e (x ∷ xs) = rw (e x, map_same f g e xs) refl

  pub map_each : (P : A → Type 0) (f g : A → B) → ((x : A) → P x → f x ≡ g x) → (xs : List A) → Each P xs → map f xs ≡ map g xs
  unfolding Each
  map_each P f g h [] e = refl
  map_each P f g h (x ∷ xs) e = rw (h x e.0, map_each P f g h xs e.1) refl

pub map-map : {A B C : Type 0} (f : B → C) (g : A → B) (xs : List A) → map f (map g xs) ≡ map (λ x. f (g x)) xs
map-map f g [] = refl
map-map f g (x ∷ xs) = rw (map-map f g xs) refl

-- What holds of each holds of those kept.
pub each-kept : {A : Type 0} (P : A → Type 0) (p : A → Bool) (xs : List A) → Each P xs → Each P (keep p xs)
unfolding Each keep pick
each-kept P p [] e = tt
each-kept P p (x ∷ xs) e = by_test (p x) (λ k. rw k (e.0, each-kept P p xs e.1)) (λ k. rw k (each-kept P p xs e.1))
