-- Copying one number after the other.
use Rattle.common_laws.proofs.Base.{List, [], ◌∷◌, ◌++◌, append_assoc, ◌≡◌, sym, ℕ, suc, ◌+◌, ◌<◌, arith, length, get_or, take, drop, set, set_at, take-suc, drop-cons}
use Rattle.common_laws.proofs.Base.{length-take-le}

pub copy_next : (xs ys : List ℕ) (i : ℕ) → i < length xs → i < length ys → set (take i xs ++ drop i ys) i (get_or xs i 0) ≡ take (i + 1) xs ++ drop (i + 1) ys
copy_next xs ys i h k =
    let e : i + 1 ≡ suc i = omega arith in
    let n : length (take i xs) ≡ i = length-take-le i xs (omega arith) in
    rw (drop-cons ys i 0 k, set_at (take i xs) (get_or ys i 0) (drop (suc i) ys) (get_or xs i 0) i n, e, take-suc xs i 0 h)
    (sym (append_assoc (take i xs) (get_or xs i 0 ∷ []) (drop (suc i) ys)))
