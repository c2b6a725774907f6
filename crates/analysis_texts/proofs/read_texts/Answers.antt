-- `read_texts`: the entry and the library, then the netlist text.
use Rattle.std.proofs.lemmas.Result.{err_from_is_err_and}
use Rattle.common_laws.proofs.Base.{sym, ◌∙◌}
use Rattle.library_table.specs.Library.{library}
use Rattle.demands.specs.Outcome.{given_by}
use Rattle.demands.proofs.EntryChecks.{entered}
use Rattle.analysis_texts.specs.Progress.{NetlistFits}
use Rattle.analysis_texts.proofs.NetlistRead.{netlist-read}
use Rattle.analysis_texts.proofs.Reached.{unrefused-entry, reached_stopped, reached}
use Rattle.analysis_texts.proofs.read_texts.Goals as goal

pub returns-in_err-begin : goal.returns-in_err-begin
unfolding given_by
returns-in_err-begin c =
    let p = err_from_is_err_and c.from_residual.result c.from_residual.ensures.1 in
    rw (p.1, p.2)
    (reached_stopped (given_by c.args.rules c.args.lib.now c.args.net.now) c.args.library.now c.args.netlist.now _ _ c.begin.result
    c.begin.ensures.answers c.begin.ensures.leaves _ c.in_err-begin.was)

pub read_netlist-requires : goal.read_netlist-requires
unfolding NetlistFits
read_netlist-requires c =
    let e = entered _ _ _ _ _ (unrefused-entry _ (library c.args.lib.now) (sym c.begin.ensures.answers ∙ c.in_ok-begin.was)) in
    ((e.net-short, e.netlist-long), c.requires.1)

pub returns : goal.returns
unfolding given_by
returns c =
    reached (given_by c.args.rules c.args.lib.now c.args.net.now) c.args.library.now c.args.netlist.now _ _ c.begin.result
    c.begin.ensures.answers c.begin.ensures.leaves c.in_ok-begin.was _ c.read_netlist.result
    (netlist-read c.args.rules c.args.lib.now c.args.net.now c.args.library.now c.args.netlist.now _ _ c.read_netlist.result c.read_netlist.ensures)
