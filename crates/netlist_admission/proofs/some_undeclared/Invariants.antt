-- One line more is asked with each turn; those past the highest that is mentioned are none.
use Rattle.common_laws.proofs.Base.{◌||◌, ◌≡◌}
use Rattle.netlist_table.specs.Admission.{words_undeclared, some_undeclared}
use Rattle.netlist_table.proofs.OpenLines.{some_from}
use Rattle.netlist_admission.proofs.some_undeclared.Given as goal

abbrev pub invariant-loop-l : goal.invariant-loop-l
invariant-loop-l l = some_undeclared l.table ≡ (l.found || some_from (words_undeclared l.table) l.l)
