-- A call's own tables are zero before they are read into.
use Rattle.common_laws.proofs.Base.{List, ◌≡◌, sym, subst, ℕ, replicate, length-replicate}
use Rattle.table.specs.Blocks.{cleared}
use Rattle.table.proofs.Places.{cleared-all}
use Rattle.analysis_texts.specs.declared.Tables.{Tables}
use Rattle.analysis_texts.specs.declared.Tables.TheVariants.{Own}
use Rattle.analysis_texts.specs.Tables.{ZeroIfOwn}

zeros-cleared : (n : ℕ) → replicate n 0 ≡ cleared n (replicate n 0)
zeros-cleared n = sym (rw (length-replicate {A = ℕ} n 0) at (cleared-all (replicate n 0)))

-- To clear such a table changes nothing.
pub own-cleared : {tables : Tables} (n : ℕ) (xs : List ℕ) → tables ≡ Own → ZeroIfOwn tables n xs → xs ≡ cleared n xs
own-cleared n xs e z =
    let zero : xs ≡ replicate n 0 = subst (λ (t : Tables). ZeroIfOwn t n xs) e z in
    rw zero (zeros-cleared n)
