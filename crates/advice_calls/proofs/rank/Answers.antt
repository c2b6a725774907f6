-- `rank` reads both texts, and lays the ranks into the table.
use Rattle.common_laws.proofs.Base.{refl}
use Rattle.std.proofs.lemmas.Result.{err_from_is_err_and}
use Rattle.sizes.specs.Sizes as Size
use Rattle.reading.specs.Answer.{answer_read}
use Rattle.demands.specs.Outcome.{given_texts}
use Rattle.demands.proofs.Given.{texts-checked}
use Rattle.advice_calls.proofs.Promise.{some-held, room-kept, ranks-refused, ranks-made}
use Rattle.advice_calls.proofs.rank.Goals as goal

pub read_into-requires : goal.read_into-requires
read_into-requires c = record { cells = refl; statements = refl }

pub rank_on-requires : goal.rank_on-requires
rank_on-requires c =
    let a = c.args in (
      some-held Size.ranks (given_texts a.lib.now a.net.now) (texts-checked a.lib.now a.net.now) a.table.now c.read_into.result c.read_into.ensures c.in_ok-read_into.was,
      room-kept Size.ranks (given_texts a.lib.now a.net.now) (texts-checked a.lib.now a.net.now) a.table.now c.read_into.result c.read_into.ensures c.in_ok-read_into.was,
    )

pub returns-in_err-read_into : goal.returns-in_err-read_into
unfolding answer_read
returns-in_err-read_into c =
    let a = c.args in
    let p = err_from_is_err_and c.from_residual.result c.from_residual.ensures.1 in
    rw (p.1, p.2)
    (ranks-refused (given_texts a.lib.now a.net.now) (texts-checked a.lib.now a.net.now) a.forbidden.now a.table.now c.read_into.result c.read_into.ensures _ c.in_err-read_into.was)

pub returns : goal.returns
unfolding answer_read
returns c =
    let a = c.args in
    ranks-made (given_texts a.lib.now a.net.now) (texts-checked a.lib.now a.net.now) a.forbidden.now a.table.now c.read_into.result c.read_into.ensures
    c.in_ok-read_into.was c.rank_on.result _ c.rank_on.ensures
