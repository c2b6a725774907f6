-- Whether some element of a list passes a test.
use Rattle.common_laws.proofs.Base.{Bool, true, ◌||◌, or-true, or_assoc, List, [], ◌∷◌, ◌++◌, List-as-Memᴰ, List-Memᴰ-head, List-Memᴰ-tail, ◌≡◌, refl, sym, ap, ◌∙◌}
use Rattle.library_table.specs.Library.{any_of}

module _ {A : Type 0} (p : A → Bool) where
  pub any_append : (xs ys : List A) → any_of p (xs ++ ys) ≡ (any_of p xs || any_of p ys)
  unfolding any_of
  any_append [] ys = refl
  any_append (x ∷ xs) ys = ap (λ (t : Bool). p x || t) (any_append xs ys) ∙ sym (or_assoc (p x) (any_of p xs) (any_of p ys))

  pub any-member : {x : A} {xs : List A} → List-as-Memᴰ x xs → p x ≡ true → any_of p xs ≡ true
  unfolding any_of
  any-member {x} {xs = y ∷ xs} (List-Memᴰ-head e) h = rw (sym (ap p e) ∙ h) refl
  any-member {x} {xs = y ∷ xs} (List-Memᴰ-tail m) h = rw (any-member m h) (or-true (p y))
  any-member {x} {xs = []} m h = elim m [ ]
