-- `has_line` goes over the groups, to one that is another.
use Rattle.common_laws.proofs.Base.{map, ◌≡◌, ℕ, ◌+◌, ◌-◌, ◌<◌}
use Rattle.library_table.specs.Cells.{Group}
use Rattle.truth_rows.specs.declared.Asked.{Asked}
use Rattle.truth_rows.specs.Asked.{AsksFor}
use Rattle.truth_rows.specs.Masks.{up_from}
use Rattle.truth_cells.specs.Words.{groups_are}
use Rattle.truth_cells.proofs.groups.has_line.Given as goal

abbrev pub invariant-loop-k : goal.invariant-loop-k
invariant-loop-k g l =
    (gs : ℕ → Group) → ((k : ℕ) (a : Asked) → k < l.count → goal.F-post g l.group k a → AsksFor a (gs k))
    → groups_are l.library l.cell l.first (map gs (up_from 0 l.count)) ≡ groups_are l.library l.cell (l.first + l.k) (map gs (up_from l.k (l.count - l.k)))
