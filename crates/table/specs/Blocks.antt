-- Tables of numbers put together from parts of a fixed length, as the layouts of the library and the netlist table have them.
-- The laws that say what stands at a place are in `proofs/Places.antt`.
use Rattle.std.specs.Prelude.{Bool, true, ◌&&◌, List, [], ◌∷◌, ◌++◌, ℕ, zero, suc, ◌+◌, min, eqb, length, get_or, drop, replicate}

-- Just so many elements: those of the list, filled up with `d` where there are fewer.
unfoldable pub fitted : {A : Type 0} → A → ℕ → List A → List A
fitted d zero xs = []
fitted d (suc n) [] = d ∷ fitted d n []
fitted d (suc n) (x ∷ xs) = x ∷ fitted d n xs

-- A part for each element, one behind the other.
unfoldable pub blocks : {A : Type 0} → (A → List ℕ) → List A → List ℕ
blocks f [] = []
blocks f (x ∷ xs) = f x ++ blocks f xs

-- The first n numbers 0, or all of them where there are fewer.
unfoldable pub cleared : ℕ → List ℕ → List ℕ
cleared n xs = replicate (min n (length xs)) 0 ++ drop (min n (length xs)) xs

-- Whether n numbers from a place on are all 0; a place past the end counts as 0.
unfoldable pub zeros : List ℕ → ℕ → ℕ → Bool
zeros xs at zero = true
zeros xs at (suc n) = zeros xs at n && eqb (get_or xs (at + n) 0) 0

-- The second number where the first is 0, else the third.
unfoldable pub if_zero : ℕ → ℕ → ℕ → ℕ
if_zero zero a b = a
if_zero (suc x) a b = b

-- How many of the n numbers from a place on there are up to the last that is not 0.
unfoldable pub used : List ℕ → ℕ → ℕ → ℕ
used xs from zero = 0
used xs from (suc n) = if_zero (get_or xs (from + n) 0) (used xs from n) (suc n)
