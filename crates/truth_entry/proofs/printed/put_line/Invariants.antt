-- The groups passed stand in the buffer, behind the word.
use Rattle.common_laws.proofs.Base.{map, ℕ, ◌<◌}
use Rattle.writer.specs.Put.{Puts}
use Rattle.library_table.specs.Cells.{Group}
use Rattle.truth_tables.specs.Entries.{groups_bytes}
use Rattle.truth_rows.specs.declared.Asked.{Asked}
use Rattle.truth_rows.specs.Masks.{up_from}
use Rattle.truth_rows.specs.Asked.{AsksFor}
use Rattle.truth_entry.proofs.printed.put_line.Given as goal

abbrev pub invariant-loop-k : goal.invariant-loop-k
invariant-loop-k g l =
    (gs : ℕ → Group) → ((k : ℕ) (a : Asked) → k < l.count → goal.F-post g l.group k a → AsksFor a (gs k))
    → Puts (groups_bytes (map gs (up_from 0 l.k))) l.initial.entry l.entry
