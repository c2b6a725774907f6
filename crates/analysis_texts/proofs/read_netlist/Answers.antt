-- `read_netlist` reads the netlist text into a table that is cleared.
use Rattle.std.proofs.lemmas.Result.{err_from_is_err_and}
use Rattle.common_laws.proofs.Base.{sym, ap, subst, ◌∙◌, drop}
use Rattle.sizes.specs.Sizes as Size
use Rattle.netlist_text.specs.Reader.{NoStatements}
use Rattle.netlist_text.proofs.Walk.{cleared-past, cleared-none}
use Rattle.analysis_texts.specs.Progress.{NetlistFits}
use Rattle.analysis_texts.proofs.NetlistRead.{text-refused, text-accepted}
use Rattle.analysis_texts.proofs.read_netlist.Goals as goal

pub read_all-requires : goal.read_all-requires
unfolding NetlistFits
read_all-requires c =
    let fits = c.requires.0 in
    (fits.0, subst NoStatements (sym c.clear_lent.ensures) (cleared-none c.args.netlist.now fits.1))

pub returns-in_err-read_all : goal.returns-in_err-read_all
unfolding NetlistFits
returns-in_err-read_all c =
    let p = err_from_is_err_and c.from_residual.result c.from_residual.ensures.1 in
    rw (p.1, p.2)
    (text-refused c.args.rules c.args.net.now c.args.library.now c.args.netlist.now _
    (ap (drop Size.netlist) c.clear_lent.ensures ∙ cleared-past c.args.netlist.now c.requires.0.1) c.read_all.result _ c.read_all.ensures _
    c.in_err-read_all.was)

pub returns : goal.returns
unfolding NetlistFits
returns c =
    text-accepted c.args.rules c.args.net.now c.args.library.now c.args.netlist.now _
    (ap (drop Size.netlist) c.clear_lent.ensures ∙ cleared-past c.args.netlist.now c.requires.0.1) c.read_all.result _ c.read_all.ensures
    c.in_ok-read_all.was
