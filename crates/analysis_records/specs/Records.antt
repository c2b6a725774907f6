-- The netlist as a list of records. Document 01, "Callers": "kind (0 input, 1 output, 2 gate), cell index (from 0 in library
-- order), line, eight pins, 0 after the last." Document 02, K5: "In record lists, kind 3 is open."
use Rattle.std.specs.Prelude.{Bool, true, ◌&&◌, List, [], ◌∷◌, ℕ, eqb}
use Rattle.std.proofs.Math.Option.{Option, none, some}
use Rattle.reading.specs.Choice.{pick}
use Rattle.reading.specs.Refusal.{Read, ◌>>=◌}
use Rattle.library_table.specs.Cells.{Cell}
use Rattle.netlist_table.specs.declared.Rules.TheVariants.{New}
use Rattle.netlist_table.specs.Netlist.{Mark, input, output, opened, Statement, mark, gate, admitted, declared}
use Rattle.analysis_records.specs.declared.record.Record.{Record}

unfoldable pub all_zero : List ℕ → Bool
all_zero [] = true
all_zero (p ∷ ps) = eqb p 0 && all_zero ps

-- The pins before the first 0.
unfoldable pub pins_before : List ℕ → List ℕ
pins_before [] = []
pins_before (p ∷ ps) = pick (eqb p 0) [] (p ∷ pins_before ps)

-- No pin stands after a 0.
unfoldable pub ends_in_zeros : List ℕ → Bool
ends_in_zeros [] = true
ends_in_zeros (p ∷ ps) = pick (eqb p 0) (all_zero ps) (ends_in_zeros ps)

-- "10 being an unknown kind, an unused field not 0, or a pin after a 0": none is bad form. An input, an output or an open line
-- uses its line alone.
unfoldable pub mark_form : Mark → Record → Option Statement
mark_form m r = pick (eqb r.cell 0 && all_zero r.pins) (some (mark m r.line)) none

unfoldable pub gate_form : Record → Option Statement
gate_form r =
    pick (ends_in_zeros r.pins)
    (some (gate (record { cell = r.cell; line = r.line; pins = pins_before r.pins }))) none

unfoldable pub record_form : Record → Option Statement
record_form r =
    pick (eqb r.kind 0) (mark_form input r)
    (pick (eqb r.kind 1) (mark_form output r)
    (pick (eqb r.kind 2) (gate_form r)
    (pick (eqb r.kind 3) (mark_form opened r) none)))

unfoldable pub record_forms : List Record → List (Option Statement)
record_forms [] = []
record_forms (r ∷ rs) = record_form r ∷ record_forms rs

-- "Records follow the same checks" as a text's lines; "A refusal's line is then the record's place, from 1."
unfoldable pub record_statements : List Record → List Cell → Read (List Statement)
record_statements rs cells = admitted 1 cells [] (record_forms rs)

-- Behind them 20, at line 0: lists follow the new rules alone.
unfoldable pub from_records : List Record → List Cell → Read (List Statement)
from_records rs cells = record_statements rs cells >>= declared New
