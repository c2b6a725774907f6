-- `read_again`: the netlist, and the pads.
use Rattle.std.proofs.lemmas.Result.{err_from_is_err_and}
use Rattle.common_laws.proofs.Base.{sym, subst, rules}
use Rattle.reading.specs.Answer.{answer_read}
use Rattle.netlist_text.specs.Reader.{NoStatements}
use Rattle.netlist_text.proofs.Walk.{cleared-none}
use Rattle.standing_change.proofs.Again.{again_stopped, again_marked}
use Rattle.standing_change.proofs.runs.read_again.Goals as goal

pub read_all-requires : goal.read_all-requires
read_all-requires c =
    (c.requires.brief, subst NoStatements (sym c.clear.ensures) (cleared-none c.args.netlist.now c.requires.wide))

pub returns-in_err-read_all : goal.returns-in_err-read_all
returns-in_err-read_all c cells h =
    let p = err_from_is_err_and c.from_residual.result c.from_residual.ensures.1 in
    rw (p.1, p.2)
    (rw c.in_err-read_all.was at (again_stopped c.args.net.now c.args.library.now _ c.args.standing.now c.read_all.result _
    c.read_all.ensures _ c.in_err-read_all.was cells h))

pub returns : goal.returns
returns c cells h =
    again_marked c.args.net.now c.args.library.now _ c.args.standing.now c.read_all.result _
    c.read_all.ensures c.in_ok-read_all.was (answer_read c.mark_pads.result) _ c.mark_pads.ensures cells h

pub mark_pads-requires : goal.mark_pads-requires
mark_pads-requires c =
    c.requires.long
