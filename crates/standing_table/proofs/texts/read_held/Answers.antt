-- `read_held`: both texts, and the pads.
use Rattle.std.proofs.lemmas.Result.{err_from_is_err_and}
use Rattle.common_laws.proofs.Base.{subst, rules}
use Rattle.reading.specs.Answer.{answer_read}
use Rattle.demands.specs.Outcome.{given_texts}
use Rattle.standing_table.specs.Parts.{TextsRead}
use Rattle.standing_table.proofs.TextsLaws.{held_kept, held-judged, accepted_is}
use Rattle.standing_table.proofs.texts.read_held.Goals as goal

pub returns-in_err-read_both : goal.returns-in_err-read_both
returns-in_err-read_both c =
    let p = err_from_is_err_and c.from_residual.result c.from_residual.ensures.1 in
    rw (p.1, p.2)
    (rw c.in_err-read_both.was at (held_kept (given_texts c.args.lib.now c.args.net.now) c.args.standing.now _ _ c.read_both.result _ c.in_err-read_both.was c.read_both.ensures))

pub returns : goal.returns
returns c =
    held-judged (given_texts c.args.lib.now c.args.net.now) c.args.standing.now _ _ _
    (subst (TextsRead (given_texts c.args.lib.now c.args.net.now) _ _) (accepted_is c.read_both.result c.in_ok-read_both.was) c.read_both.ensures)
    (answer_read c.mark_pads.result) c.mark_pads.ensures

pub read_both-requires : goal.read_both-requires
read_both-requires c =
    c.requires.0

pub mark_pads-requires : goal.mark_pads-requires
mark_pads-requires c =
    c.requires.1
