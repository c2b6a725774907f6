-- Truth tables, implicants and prime implicants. Document 02, K6: "Rows from the truth table".
use Rattle.std.specs.Prelude.{Bool, true, false, not, ◌&&◌, ◌||◌, List, [], ◌∷◌, ◌++◌, map, ℕ, zero, suc, ◌+◌, ◌*◌, ◌-◌, ◌^◌, ◌<◌, length, get_or}
use Rattle.std.proofs.Math.Option.{Option, none, some}
use Rattle.reading.specs.Choice.{pick, choice_open}
use Rattle.reading.specs.Each.{Each}

-- ---- settings

-- A setting of the pins: the value of each, pin 1 first; true is 1.
abbrev pub Setting : Type 0
Setting = List Bool

-- The settings of n pins, "from all pins 0 upwards, pin 1 heaviest".
unfoldable pub settings : ℕ → List Setting
settings zero = [] ∷ []
settings (suc n) = map (λ s. false ∷ s) (settings n) ++ map (λ s. true ∷ s) (settings n)

unfoldable pub digit : Bool → ℕ
digit false = 0
digit true = 1

-- Where a setting stands among them.
unfoldable pub place : Setting → ℕ
place [] = 0
place (v ∷ s) = digit v * 2 ^ length s + place s

-- "BITS the 2^n output values from all pins 0 upwards, pin 1 heaviest"
unfoldable pub output : List Bool → Setting → Bool
output bits s = get_or bits (place s) false

unfoldable pub same : Bool → Bool → Bool
same true v = v
same false v = not v

-- ---- terms: what a row names of the pins

-- For each pin, pin 1 first, the value that is named, or none where the pin is not named.
abbrev pub Term : Type 0
Term = List (Option Bool)

unfoldable pub fits : Option Bool → Bool → Bool
fits none v = true
fits (some w) v = same w v

-- A setting meets a term where each named pin has the value named.
unfoldable pub meets : Term → Setting → Bool
meets [] [] = true
meets [] (v ∷ s) = false
meets (l ∷ t) [] = false
meets (l ∷ t) (v ∷ s) = fits l v && meets t s

-- The terms with one named pin less.
unfoldable pub dropped : Term → List Term
dropped [] = []
dropped (none ∷ t) = map (λ q. none ∷ q) (dropped t)
dropped (some v ∷ t) = (none ∷ t) ∷ map (λ q. some v ∷ q) (dropped t)

-- The terms of n pins, "by descending octal value": pin 1 is the heaviest, and of a pin "at 0" is heavier than "at 1"
-- (proofs/Order.antt), and none is missing (`term_listed` of proofs/Cover.antt).
unfoldable pub terms : ℕ → List Term
terms zero = [] ∷ []
terms (suc n) =
    map (λ t. some false ∷ t) (terms n) ++ (map (λ t. some true ∷ t) (terms n) ++ map (λ t. none ∷ t) (terms n))

-- ---- prime implicants

-- What a setting may be asked for, as that the output is e.
abbrev pub Condition : Type 0
Condition = Setting → Bool

unfoldable pub all_of : {A : Type 0} → (A → Bool) → List A → Bool
all_of p [] = true
all_of p (x ∷ xs) = p x && all_of p xs

unfoldable pub keep : {A : Type 0} → (A → Bool) → List A → List A
keep p [] = []
keep p (x ∷ xs) = pick (p x) (x ∷ keep p xs) (keep p xs)

-- An implicant: each setting of the n pins that meets the term is one of the condition.
unfoldable pub implicant : ℕ → Condition → Term → Bool
implicant n C t = all_of (λ s. not (meets t s) || C s) (settings n)

-- A prime implicant: an implicant of which no pin can be dropped.
unfoldable pub prime : ℕ → Condition → Term → Bool
prime n C t = implicant n C t && all_of (λ q. not (implicant n C q)) (dropped t)

unfoldable pub primes : ℕ → Condition → List Term
primes n C = keep (prime n C) (terms n)

-- ---- the groups of a truth table

-- "Group e holds the prime implicants for value e."
unfoldable pub gives : List Bool → Bool → Condition
gives bits e s = same (output bits s) e

-- A pin's value, or what a term says of it, put in behind those of the first k pins.
unfoldable pub put_in : {A : Type 0} → ℕ → A → List A → List A
put_in zero a xs = a ∷ xs
put_in (suc k) a [] = a ∷ []
put_in (suc k) a (x ∷ xs) = x ∷ put_in k a xs

-- "the output changes when p does", of a setting of the other pins; p stands behind k pins.
unfoldable pub changes : List Bool → ℕ → Condition
changes bits k s = not (same (output bits (put_in k false s)) (output bits (put_in k true s)))

-- "Pin p's group holds the prime implicants, over the other pins, of "the output changes when p does"."
unfoldable pub observing : ℕ → List Bool → ℕ → List Term
observing n bits k = map (λ t. put_in k none t) (primes (n - 1) (changes bits k))

-- ---- the order

-- "by descending octal value": each number is above all that stand behind it.
unfoldable pub Descends : List ℕ → Type 0
Descends [] = Unit {0}
Descends (x ∷ xs) = Each (λ y. y < x) xs × Descends xs

-- Opens the page's definitions, where a figure computes with them.
unfoldable pub tables_open : ℕ
unfolding choice_open settings digit place output same fits meets dropped terms all_of keep implicant prime primes gives put_in
    changes observing
tables_open = 0
