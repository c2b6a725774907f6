-- The rows of the group are asked for one that the setting meets.
use Rattle.common_laws.proofs.Base.{ℕ, refl, ◌∙◌, ◌+◌, ◌*◌, arith, get_or, rules}
use Rattle.std.proofs.Common.{tests}
use Rattle.std.proofs.lemmas.Iterator.{YieldsList-from_range}
use Rattle.std.proofs.lemmas.Iterator.Search.{any_from_yields_List}
use Rattle.truth_cells.specs.Words.{met_by, met_at}
use Rattle.truth_cells.proofs.Steps.{met-any}
use Rattle.truth_cells.proofs.bits.is_one.Goals as goal

pub returns : goal.returns
unfolding met_at
returns c =
    let a = c.args in
    let n = c.rows_at.result in
    any_from_yields_List (λ (row : ℕ). met_by a.pins (get_or a.library.now (a.at + 2 + 2 * row) 0) a.place) _ _ c.any.result c.any.ensures.ran (YieldsList-from_range 0 n n refl (omega arith)) (λ x b q k. search (rules, tests))
    ∙ met-any a.library.now a.at a.pins a.place 0 n
    ∙ rw c.rows_at.ensures.0 refl
