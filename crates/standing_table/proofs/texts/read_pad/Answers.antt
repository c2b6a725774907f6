-- `read_pad`: what stands, and one pad more.
use Rattle.std.proofs.lemmas.Result.{err_from_is_err_and}
use Rattle.common_laws.proofs.Base.{subst, rules}
use Rattle.reading.specs.Answer.{answer_read}
use Rattle.demands.specs.Outcome.{given_texts}
use Rattle.standing_table.specs.Parts.{HeldRead}
use Rattle.standing_table.proofs.TextsLaws.{pad-kept, pad-judged, accepted_is}
use Rattle.standing_table.proofs.texts.read_pad.Goals as goal

pub returns-in_err-read_held : goal.returns-in_err-read_held
returns-in_err-read_held c =
    let p = err_from_is_err_and c.from_residual.result c.from_residual.ensures.1 in
    rw (p.1, p.2)
    (rw c.in_err-read_held.was at (pad-kept (given_texts c.args.lib.now c.args.net.now) c.args.standing.now c.args.line c.args.stale _ _ c.read_held.result _ c.in_err-read_held.was c.read_held.ensures))

pub returns : goal.returns
returns c =
    pad-judged (given_texts c.args.lib.now c.args.net.now) c.args.standing.now c.args.line c.args.stale _ _ _
    (subst (HeldRead (given_texts c.args.lib.now c.args.net.now) c.args.standing.now _ _) (accepted_is c.read_held.result c.in_ok-read_held.was) c.read_held.ensures)
    c.place-marked.result c.place-marked.ensures (answer_read c.judge.result) c.judge.ensures

pub read_held-requires : goal.read_held-requires
read_held-requires c =
    c.requires
