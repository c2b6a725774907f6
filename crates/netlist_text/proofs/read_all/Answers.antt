-- `read_all` reads the lines of a text, and what comes behind them.
use Rattle.std.proofs.lemmas.Result.{err_from_is_err_and}
use Rattle.netlist_text.proofs.Declared.{all-refused, all_read}
use Rattle.netlist_text.proofs.read_all.Goals as goal

pub returns-in_err-read_lines : goal.returns-in_err-read_lines
returns-in_err-read_lines c cells lib =
    let p = err_from_is_err_and c.from_residual.result c.from_residual.ensures.1 in
    rw (p.1, p.2) (all-refused c.args.rules cells c.args.text.now c.args.table.now _ _ (c.in_err-read_lines.ensures cells lib))

pub returns : goal.returns
returns c cells lib =
    all_read c.args.rules cells c.args.text.now c.args.table.now _ (c.in_ok-read_lines.ensures cells lib) c.declare.result (c.declare.ensures cells)
