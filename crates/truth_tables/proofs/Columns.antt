-- Which columns the row of a term names: a pin at a value exactly where the term has that value for the pin.
use Rattle.common_laws.proofs.Base.{Bool, true, false, [], ◌∷◌, Option, none, some, ◌≡◌, refl, sym, subst, ap, ◌∙◌, ℕ, zero, suc, ◌+◌, ◌*◌, ◌-◌, ◌/◌, ◌%◌, ◌^◌, ◌≤◌, ◌<◌}
use Rattle.common_laws.proofs.Base.{not-suc-le-zero, le_of_suc-le-suc, div-one, one-add, arith, shr-shr, eqb, length, get_or, eqb-true}
use lib.Arith.{digits_div}
use lib.Bits.{block_half, block_odd}
use Rattle.common_laws.proofs.Numbers.{two-four}
use Rattle.reading.proofs.Laws.{clash, and_left, and_right}
use Rattle.library_table.specs.Cells.{bit}
use Rattle.truth_tables.specs.Tables.{Term, Setting, digit, same, fits, meets}
use Rattle.truth_tables.specs.Entries.{literal_columns, term_columns}
use Rattle.truth_tables.proofs.Order.{term_below}

-- ---- bits of a number in two parts

odd : ℕ → Bool
odd x = eqb (x % 2) 1

bit-suc : (n j : ℕ) → bit n (suc j) ≡ bit (n / 2) j
unfolding bit odd
bit-suc n j = ap (λ (e : ℕ). odd (n / 2 ^ e)) (sym (one-add j)) ∙ ap odd (sym (shr-shr n 1 j))

pub low_bit : (a m y k : ℕ) → k < m → bit (a * 2 ^ m + y) k ≡ bit y k
low_bit a zero y k h = absurd (not-suc-le-zero h)
low_bit a (suc m) y zero h =
    unfold bit in ap (λ (x : ℕ). eqb (x % 2) 1) (div-one (a * 2 ^ suc m + y)) ∙ ap (λ (x : ℕ). eqb x 1) (block_odd a m y)
    ∙ ap (λ (x : ℕ). eqb (x % 2) 1) (sym (div-one y))
low_bit a (suc m) y (suc k) h =
    bit-suc (a * 2 ^ suc m + y) k ∙ ap (λ (x : ℕ). bit x k) (block_half a m y) ∙ low_bit a m (y / 2) k (le_of_suc-le-suc h) ∙ sym (bit-suc y k)

pub high_bit : (a m y b : ℕ) → y < 2 ^ m → bit (a * 2 ^ m + y) (m + b) ≡ bit a b
unfolding bit odd
high_bit a m y b h = ap odd (sym (shr-shr (a * 2 ^ m + y) m b)) ∙ ap (λ (x : ℕ). odd (x / 2 ^ b)) (digits_div a h)

-- ---- the columns of a term

-- The term has value v, as a number, for a pin.
unfoldable pub says : Option Bool → ℕ → Bool
says none v = false
says (some w) v = eqb (digit w) v

literal-bit : (l : Option Bool) (v : ℕ) → v ≤ 1 → bit (literal_columns l) (1 - v) ≡ says l v
unfolding bit literal_columns says digit
literal-bit none zero h = refl
literal-bit none (suc zero) h = refl
literal-bit (some false) zero h = refl
literal-bit (some false) (suc zero) h = refl
literal-bit (some true) zero h = refl
literal-bit (some true) (suc zero) h = refl
literal-bit l (suc (suc v)) h = absurd (omega arith)

term_parts : (l : Option Bool) (t : Term) → term_columns (l ∷ t) ≡ literal_columns l * 2 ^ (2 * length t) + term_columns t
unfolding term_columns
term_parts l t = ap (λ (x : ℕ). literal_columns l * x + term_columns t) (sym (two-four (length t)))

-- Pin j + 1 at v.
pub term_bit : (t : Term) (j v : ℕ) → j < length t → v ≤ 1 → bit (term_columns t) (2 * (length t - suc j) + (1 - v)) ≡ says (get_or t j none) v
term_bit [] j v h b = absurd (not-suc-le-zero h)
term_bit (l ∷ t) zero v h b =
    let here : 2 * (suc (length t) - 1) + (1 - v) ≡ 2 * length t + (1 - v) = omega arith in
    ap (bit (term_columns (l ∷ t))) here
    ∙ ap (λ (x : ℕ). bit x (2 * length t + (1 - v))) (term_parts l t)
    ∙ high_bit (literal_columns l) (2 * length t) (term_columns t) (1 - v) (subst (λ (x : ℕ). term_columns t < x) (sym (two-four (length t))) (term_below t))
    ∙ literal-bit l v b
term_bit (l ∷ t) (suc j) v h b =
    let here : 2 * (suc (length t) - suc (suc j)) + (1 - v) ≡ 2 * (length t - suc j) + (1 - v) = omega arith in
    ap (bit (term_columns (l ∷ t))) here
    ∙ ap (λ (x : ℕ). bit x (2 * (length t - suc j) + (1 - v))) (term_parts l t)
    ∙ low_bit (literal_columns l) (2 * length t) (term_columns t) (2 * (length t - suc j) + (1 - v)) (omega arith)
    ∙ term_bit t j v (le_of_suc-le-suc h) b

-- ---- meeting a term

said : (l : Option Bool) (w : Bool) (v : ℕ) → fits l w ≡ true → says l v ≡ true → digit w ≡ v
unfolding fits same says digit
said none w v f h = clash false h refl
said (some false) false v f h = eqb-true 0 v h
said (some false) true v f h = clash false f refl
said (some true) false v f h = clash false f refl
said (some true) true v f h = eqb-true 1 v h

fitting : (l : Option Bool) (w : Bool) → ((v : ℕ) → v ≤ 1 → says l v ≡ true → digit w ≡ v) → fits l w ≡ true
unfolding fits same says digit
fitting none w h = refl
fitting (some false) false h = refl
fitting (some false) true h = absurd (let e = h 0 (omega arith) refl in omega (arith, e))
fitting (some true) false h = absurd (let e = h 1 (omega arith) refl in omega (arith, e))
fitting (some true) true h = refl

pub meets-said : (t : Term) (s : Setting) → meets t s ≡ true → (j v : ℕ) → j < length t → says (get_or t j none) v ≡ true → digit (get_or s j false) ≡ v
unfolding meets
meets-said [] s m j v h e = absurd (not-suc-le-zero h)
meets-said (l ∷ t) [] m j v h e = clash false m refl
meets-said (l ∷ t) (w ∷ s) m zero v h e = said l w v (and_left (fits l w) (meets t s) m) e
meets-said (l ∷ t) (w ∷ s) m (suc j) v h e = meets-said t s (and_right (fits l w) (meets t s) m) j v (le_of_suc-le-suc h) e

pub said-meets : (t : Term) (s : Setting) → length s ≡ length t
    → ((j v : ℕ) → j < length t → v ≤ 1 → says (get_or t j none) v ≡ true → digit (get_or s j false) ≡ v) → meets t s ≡ true
unfolding meets
said-meets [] [] q h = refl
said-meets [] (w ∷ s) q h = absurd (omega arith)
said-meets (l ∷ t) [] q h = absurd (omega arith)
said-meets (l ∷ t) (w ∷ s) q h =
    rw (fitting l w (λ v b e. h zero v (omega arith) b e))
    (said-meets t s (omega arith) (λ j v k b e. h (suc j) v (omega arith) b e))
