-- Laws of lists.
use mathlib.Core.List.{List, [], ◌∷◌, ◌++◌, map, flat_map, append_assoc}
use mathlib.Core.Path.{◌≡◌, refl, sym, ap, ◌∙◌}
use Prim.Native.Nat.{ℕ, zero, suc, ◌+◌, ◌≤◌, ◌<◌}
use native.Mathlib.Nat.{add-zero, add-suc, suc-add}
use native.Mathlib.Omega.{arith}
use lib.ListN.{length, get_or, set}
use lib.Seq.{sets, set_out}

pub flatMap_append : {A B : Type 0} (f : A → List B) (xs ys : List A) → flat_map f (xs ++ ys) ≡ flat_map f xs ++ flat_map f ys
unfolding flat_map
flatMap_append f [] ys = refl
flatMap_append f (x ∷ xs) ys = rw (flatMap_append f xs ys) (sym (append_assoc (f x) (flat_map f xs) (flat_map f ys)))

-- Within the list, whatever stands past its end.
pub get_d_map : {A B : Type 0} (f : A → B) (xs : List A) (i : ℕ) (a : A) (b : B) → i < length xs → get_or (map f xs) i b ≡ f (get_or xs i a)
get_d_map f [] i a b h = absurd (omega arith)
get_d_map f (x ∷ xs) zero a b h = refl
get_d_map f (x ∷ xs) (suc i) a b h = get_d_map f xs i a b (omega arith)

-- Stores from the list's end on change nothing.
pub sets-past : (vs l : List ℕ) (i : ℕ) → length l ≤ i → sets l i vs ≡ l
sets-past [] l i h = refl
sets-past (a ∷ vs) l i h = rw (set_out l i a h) (sets-past vs l (suc i) (omega arith))

pub sets-append : (vs ws l : List ℕ) (i : ℕ) → sets l i (vs ++ ws) ≡ sets (sets l i vs) (i + length vs) ws
sets-append [] ws l i = rw (add-zero i) refl
sets-append (a ∷ vs) ws l i =
    sets-append vs ws (set l i a) (suc i)
    ∙ ap (λ (k : ℕ). sets (sets (set l i a) (suc i) vs) k ws) (suc-add i (length vs) ∙ sym (add-suc i (length vs)))
