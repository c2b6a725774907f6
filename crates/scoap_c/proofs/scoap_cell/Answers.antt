-- `scoap_cell` tells the answer of the generator by one number.
use Rattle.answer_codes.proofs.Cells.{cell-line, cell-coded}
use Rattle.scoap_c.proofs.scoap_cell.Goals as goal

pub code-requires : goal.code-requires
code-requires c = cell-line _ _ _ _ c.put_entry-written.ensures.writes

pub returns : goal.returns
returns c = let p = c.put_entry-written.ensures in cell-coded _ _ _ _ p.writes p.long _ c.code.ensures
