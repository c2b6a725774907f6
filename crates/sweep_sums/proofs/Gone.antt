-- The columns gone to are the bits that are set, lowest first. That they are the columns which a row of a cell names:
-- `gone_named_lem` of sweep_groups/proofs/Gone.antt.
use Rattle.common_laws.proofs.Base.{List, [], ◌∷◌, ◌≡◌, sym, ap, ◌∙◌, ℕ, zero, suc, ◌-◌, ◌^◌, ◌≤◌, ◌<◌, ℕ_discrete, zero-add, arith, ne_eqb, bit_and, and_le_l, count_trailing_zeros, ones}
use Rattle.reading.specs.Choice.{pick}
use Rattle.sweep_sums.specs.Columns.{column_places, named_columns}
use Rattle.sweep_sums.specs.Gone.{gone_from, columns_gone}
use Rattle.sweep_sums.proofs.Columns.{no_places, lowest_first, rest-fewer, ones_most}

gone-set : (more columns : ℕ) → columns < 2 ^ 32 → ones columns ≤ more
    → gone_from more columns ≡ column_places (λ j. j) 32 0 columns
unfolding gone_from pick
gone-set zero columns h few = go (ℕ_discrete columns 0)
  where
    go : Dec (columns ≡ 0) → [] ≡ column_places (λ j. j) 32 0 columns
    go (yes e) = rw e (sym (no_places (λ j. j) 32 0))
    go (no e) = absurd (omega (arith, rest-fewer 32 columns (omega arith) h))
gone-set (suc more) columns h few =
    go (ℕ_discrete columns 0) (gone-set more (bit_and columns (columns - 1)) (omega (arith, and_le_l columns (columns - 1))))
  where
    rest : List ℕ
    rest = column_places (λ j. j) 32 0 (bit_and columns (columns - 1))

    go : Dec (columns ≡ 0) → (ones (bit_and columns (columns - 1)) ≤ more → gone_from more (bit_and columns (columns - 1)) ≡ rest)
        → gone_from (suc more) columns ≡ column_places (λ j. j) 32 0 columns
    go (yes e) ih = rw e (sym (no_places (λ j. j) 32 0))
    go (no e) ih =
        rw (ne_eqb columns 0 e)
        (ap (λ (l : List ℕ). count_trailing_zeros 32 columns ∷ l) (ih (omega (arith, rest-fewer 32 columns (omega arith) h)))
        ∙ sym (lowest_first (λ j. j) 32 0 columns (omega arith) h ∙ ap (λ (j : ℕ). j ∷ rest) (zero-add (count_trailing_zeros 32 columns))))

pub gone-places : (columns : ℕ) → columns < 2 ^ 32 → columns_gone columns ≡ column_places (λ j. j) 32 0 columns
unfolding columns_gone
gone-places columns h = gone-set 32 columns h (ones_most 32 columns h)

pub gone-columns : (columns : ℕ) → columns < 2 ^ 32 → columns_gone columns ≡ named_columns columns
unfolding named_columns
gone-columns = gone-places

-- One column after the other.
pub gone-none : columns_gone 0 ≡ []
gone-none = gone-places 0 (omega arith) ∙ no_places (λ j. j) 32 0

pub gone-next : (columns : ℕ) → 0 < columns → columns < 2 ^ 32 → columns_gone columns ≡ count_trailing_zeros 32 columns ∷ columns_gone (bit_and columns (columns - 1))
gone-next columns some h =
    gone-places columns h ∙ lowest_first (λ j. j) 32 0 columns some h
    ∙ rw (zero-add (count_trailing_zeros 32 columns), gone-places (bit_and columns (columns - 1)) (omega (arith, and_le_l columns (columns - 1))))
