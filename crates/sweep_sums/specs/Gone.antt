-- The columns that a row sum goes to. Document 02, K4: "go from one named column straight to the next by counting trailing
-- zeros."
use Rattle.std.specs.Prelude.{List, [], ◌∷◌, ℕ, zero, suc, ◌-◌, eqb}
use Rattle.std.specs.Int.Bits.{bit_and}
use Rattle.std.specs.Int.Count.{count_trailing_zeros}
use Rattle.reading.specs.Choice.{pick}

-- At most so many columns, from the lowest named one on: the column whose number the trailing zeros tell, then those of the row
-- without it.
unfoldable pub gone_from : ℕ → ℕ → List ℕ
gone_from zero columns = []
gone_from (suc more) columns = pick (eqb columns 0) [] (count_trailing_zeros 32 columns ∷ gone_from more (bit_and columns (columns - 1)))

-- The columns gone to, each by its bit. A row has at most 32. "For every row the columns gone to are exactly the named ones,
-- each once, lowest first": `gone_named_lem` of sweep_groups/proofs/Gone.antt.
unfoldable pub columns_gone : ℕ → List ℕ
columns_gone columns = gone_from 32 columns
