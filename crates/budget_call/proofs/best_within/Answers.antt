-- `best_within`: the entry and both texts, then the run.
use Rattle.common_laws.proofs.Base.{refl, rules}
use Rattle.reading.specs.Answer.{answer_read}
use Rattle.budget_call.proofs.Promise.{call-short, call-stopped, fill_fits, call-made}
use Rattle.budget_call.proofs.best_within.Goals as goal

pub returns-then-best-lt-BEST : goal.returns-then-best-lt-BEST
unfolding answer_read
returns-then-best-lt-BEST c =
    let a = c.args in
    rw c.at.ensures (call-short a.lib.now a.net.now a.budget a.best.now c.if-best-lt-BEST.true)

pub read_texts-progress-requires : goal.read_texts-progress-requires
read_texts-progress-requires c = (refl, refl)

pub fill-requires : goal.fill-requires
fill-requires c =
    let a = c.args in
    fill_fits a.lib.now a.net.now a.budget a.best.now c.if-best-lt-BEST.false _ _ c.read_texts-progress.result c.read_texts-progress.ensures (search rules)

pub returns-in-Err : goal.returns-in-Err
unfolding answer_read
returns-in-Err c =
    let a = c.args in
    call-stopped a.lib.now a.net.now a.budget a.best.now c.if-best-lt-BEST.false _ _ c.read_texts-progress.result c.read_texts-progress.ensures _ (search rules)
    _ c.stopped.ensures.1 _ c.stopped.ensures.0

pub returns-in-Ok : goal.returns-in-Ok
unfolding answer_read
returns-in-Ok c =
    let a = c.args in
    call-made a.lib.now a.net.now a.budget a.best.now c.if-best-lt-BEST.false _ _ c.read_texts-progress.result c.read_texts-progress.ensures (search rules)
    _ c.fill.result c.fill.ensures
