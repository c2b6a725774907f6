-- The causes of the code, each by its number, and what a check tells that answers a cause.
use Rattle.std.specs.Prelude.{ℕ, Result, Ok, Err}
use Rattle.reading.specs.Numbers as No
use Rattle.reading.specs.declared.Cause.{Cause}
use Rattle.reading.specs.declared.Cause.TheVariants.{TableShort, TextLong, LibraryForm, NameUsed, PinsBad, GroupsBad, BitAbove, RowIdle, CellsMany, NetlistForm, LineBad, CellUnknown, PinsDiffer, DrivenBefore, MarkedBefore, ReportLong, NoFigure, PlanLong, Undeclared, NotInput, RangeBad, Unpaddable, TicketStale}
use Rattle.reading.specs.declared.Refusal.{Refusal}

abbrev pub cause_number : Cause → ℕ
cause_number TableShort = No.table_short
cause_number TextLong = No.text_long
cause_number LibraryForm = No.library_form
cause_number NameUsed = No.name_used
cause_number PinsBad = No.pins_bad
cause_number GroupsBad = No.groups_bad
cause_number BitAbove = No.bit_above
cause_number RowIdle = No.row_idle
cause_number CellsMany = No.cells_many
cause_number NetlistForm = No.netlist_form
cause_number LineBad = No.line_bad
cause_number CellUnknown = No.cell_unknown
cause_number PinsDiffer = No.pins_differ
cause_number DrivenBefore = No.driven_before
cause_number MarkedBefore = No.marked_before
cause_number ReportLong = No.report_long
cause_number NoFigure = No.no_figure
cause_number PlanLong = No.plan_long
cause_number Undeclared = No.undeclared
cause_number NotInput = No.not_input
cause_number RangeBad = No.range_bad
cause_number Unpaddable = No.unpaddable
cause_number TicketStale = No.ticket_stale

abbrev pub refusal_at : Cause → ℕ → Refusal
refusal_at cause line = record { number = cause_number cause; line = line }

-- The number by which a line is refused, 0 where it is not.
unfoldable pub refusal_number : {A : Type 0} → Result A Cause → ℕ
refusal_number (Ok a) = 0
refusal_number (Err cause) = cause_number cause
