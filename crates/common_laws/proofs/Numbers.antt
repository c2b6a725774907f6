-- Laws of numbers: powers and quotients.
use mathlib.Core.Path.{◌≡◌, refl}
use Prim.Native.Nat.{ℕ, zero, suc, ◌*◌, ◌/◌, ◌^◌, ◌<◌}
use native.Mathlib.Nat.{pow-suc, div-lt_iff_lt-mul}
use native.Mathlib.Omega.{arith}

pub two-four : (n : ℕ) → 2 ^ (2 * n) ≡ 4 ^ n
two-four zero = refl
two-four (suc n) =
    let more : 2 * suc n ≡ suc (suc (2 * n)) = omega arith in
    rw (more, pow-suc 2 (suc (2 * n)), pow-suc 2 (2 * n), pow-suc 4 n, two-four n) (omega arith)

-- Without its last digit, a number of so many digits has one less.
pub quotient_below : (base k n : ℕ) → 0 < base → n < base ^ suc k → n / base < base ^ k
quotient_below base k n h q = (div-lt_iff_lt-mul {k = base} {x = n} {y = base ^ k} h).1 (rw (pow-suc base k) at q)
