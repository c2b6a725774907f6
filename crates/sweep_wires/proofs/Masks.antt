-- A number by its bits.
use Rattle.common_laws.proofs.Base.{Bool, true, false, ◌≡◌, sym, ap, ◌∙◌, ℕ, zero, suc, ◌+◌, ◌*◌, ◌-◌, ◌/◌, ◌%◌, ◌^◌, ◌<◌, pow-suc, div-one, arith, eqb, shr-shr}
use lib.Pow.{field, mod-mod-pow}
use Rattle.reading.specs.Choice.{pick}
use Rattle.reading.proofs.Laws.{one-most}
use Rattle.library_table.specs.Cells.{bit}

-- So many bits, from bit `first` on.
unfoldable pub masked : (ℕ → Bool) → ℕ → ℕ → ℕ
masked p zero first = 0
masked p (suc count) first = pick (p first) 1 0 + 2 * masked p count (suc first)

module _ (p : ℕ → Bool) where
  pub masked-few : (count first : ℕ) → masked p count first < 2 ^ count
  unfolding masked
  masked-few zero first = omega arith
  masked-few (suc count) first = omega (arith, masked-few count (suc first), one-most (p first), pow-suc 2 count)

  pub masked-bit : (count first j : ℕ) → j < count → bit (masked p count first) j ≡ p (first + j)
  unfolding masked bit pick
  masked-bit zero first j h = absurd (omega arith)
  masked-bit (suc count) first zero h =
      let e : first + 0 ≡ first = omega arith in
      rw (e, div-one) (lowest (p first) (masked p count (suc first)))
    where
      lowest : (b : Bool) (m : ℕ) → eqb ((pick b 1 0 + 2 * m) % 2) 1 ≡ b
      lowest true m = let e : (1 + 2 * m) % 2 ≡ 1 = omega arith in rw e
      lowest false m = let e : (0 + 2 * m) % 2 ≡ 0 = omega arith in rw e
  masked-bit (suc count) first (suc j) h =
      let x = pick (p first) 1 0 + 2 * masked p count (suc first) in
      let s : suc j ≡ 1 + j = omega arith in
      let d : x / 2 ≡ masked p count (suc first) = omega (arith, one-most (p first)) in
      let e : x / 2 ^ suc j ≡ masked p count (suc first) / 2 ^ j = rw s (sym (shr-shr x 1 j)) ∙ ap (λ (y : ℕ). y / 2 ^ j) d in
      let f : first + suc j ≡ suc first + j = omega arith in
      rw (e, f) (masked-bit count (suc first) j (omega arith))

-- The bits below a bit are those of what is left there.
pub bit_below : (x i j : ℕ) → i < j → bit (x % 2 ^ j) i ≡ bit x i
unfolding bit
bit_below x i j h =
    let a : j ≡ j - i + i = omega arith in
    let b : j - i ≡ j - i - 1 + 1 = omega arith in
    let e : x % 2 ^ j / 2 ^ i % 2 ≡ x / 2 ^ i % 2 =
    ap (λ (k : ℕ). x % 2 ^ k / 2 ^ i % 2) a
    ∙ ap (λ (y : ℕ). y % 2) (field x (j - i) i)
    ∙ ap (λ (k : ℕ). x / 2 ^ i % 2 ^ k % 2) b
    ∙ mod-mod-pow (x / 2 ^ i) (j - i - 1) 1 in
    ap (λ (y : ℕ). eqb y 1) e
