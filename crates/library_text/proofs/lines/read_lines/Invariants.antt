-- There is a reading so far, from which the rest of the text decides.
use Rattle.std.proofs.Common.{◌+◌, ◌-◌, ◌≤◌, length, drop}
use Rattle.sizes.specs.Sizes as Size
use Rattle.library_text.proofs.Walks.{Walked}
use Rattle.library_text.proofs.lines.read_lines.Given as goal

abbrev pub invariant-loop-at : goal.invariant-loop-at
invariant-loop-at l = record {
  within : l.at ≤ length l.text;
  few : l.number ≤ l.at + 1;
  walked : Walked l.text (drop Size.library l.initial.table) l.at l.number l.s l.table;
}

abbrev pub decreases-loop-at : goal.decreases-loop-at
decreases-loop-at l = length l.text - l.at
