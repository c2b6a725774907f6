-- `read_netlist` reads the lines behind the entry.
use Rattle.common_laws.proofs.Base.{sym}
use Rattle.std.proofs.lemmas.Result.{err_from_is_err_and}
use Rattle.reading.specs.Answer.{answer_read}
use Rattle.netlist_text.proofs.EntryChecks.{entered, shut, behind}
use Rattle.netlist_text.proofs.read_netlist.Goals as goal

pub returns-in_err-entry : goal.returns-in_err-entry
returns-in_err-entry c =
    let p = err_from_is_err_and c.from_residual.result c.from_residual.ensures.1 in
    rw (p.1, p.2) (shut c.args.rules c.args.text.now c.args.library.now c.args.table.now _ c.in_err-entry.ensures)

pub fill-requires : goal.fill-requires
unfolding answer_read
fill-requires c = let fits = entered _ _ _ (sym c.in_ok-entry.ensures) in (fits.0, fits.1)

pub returns : goal.returns
unfolding answer_read
returns c =
    behind c.args.rules c.args.text.now c.args.library.now c.args.table.now (sym c.in_ok-entry.ensures) c.fill.result _ _ c.told.ensures c.fill.ensures
