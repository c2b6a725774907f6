-- From what is passed and stored, the fields still to come lead to what is promised.
use Rattle.std.proofs.Common.{◌≡◌, ◌+◌, ◌-◌, length}
use Rattle.text.specs.Lines.{fields_from}
use Rattle.library_text.specs.Groups.{Small}
use Rattle.library_text.specs.Passes.{none_passed, passed, stored}
use Rattle.library_text.proofs.rows.pass_fields.Given as goal

abbrev pub invariant-loop-at : goal.invariant-loop-at
invariant-loop-at l = record {
  small : Small l.a l.p l.at;
  judges : passed l.a l.p (fields_from l.line l.at) ≡ passed l.a none_passed (fields_from l.line l.fn.from);
  stores : stored l.a l.p (fields_from l.line l.at) l.table ≡ stored l.a none_passed (fields_from l.line l.fn.from) l.initial.table;
}

abbrev pub decreases-loop-at : goal.decreases-loop-at
decreases-loop-at l = length l.line + 1 - l.at
