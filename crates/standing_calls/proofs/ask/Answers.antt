-- `ask`: what is lent read with the pad, CO and SO run again, and handed over.
use Rattle.std.proofs.lemmas.Result.{err_from_is_err_and}
use Rattle.common_laws.proofs.Base.{false, refl, sym, subst, ℕ}
use Rattle.reading.specs.Refusal.{read}
use Rattle.reading.specs.Answer.{answer_read}
use Rattle.demands.specs.Outcome.{given_texts}
use Rattle.demands.proofs.Given.{texts-checked}
use Rattle.standing_table.specs.Parts.{PadRead}
use Rattle.standing_calls.specs.Promise.{AskPromised}
use Rattle.standing_calls.proofs.Calls.{is_long, table_first, answer_next, neither_short, ready, ask-short, ask-stopped, ask-answered}
use Rattle.standing_table.proofs.TextsLaws.{accepted_is, refused_is}
use Rattle.standing_calls.proofs.ask.Goals as goal
use Rattle.standing_calls.proofs.ask.Goals.{then-standing-lt-STANDING-via-then-standing-lt-STANDING}
use Rattle.standing_calls.proofs.ask.Goals.{then-standing-lt-STANDING-via-else-standing-lt-STANDING+then-answer-lt-OBSERVED}

pub returns-then-standing-lt-STANDING : goal.returns-then-standing-lt-STANDING
unfolding answer_read
returns-then-standing-lt-STANDING c =
    let table = c.args.standing.now in
    let answer = c.args.answer.now in
    rw c.at.ensures
    (ask-short (given_texts c.args.lib.now c.args.net.now) (texts-checked _ _) table c.args.line answer
    (elim c.then-standing-lt-STANDING.branch [
      | then-standing-lt-STANDING-via-then-standing-lt-STANDING w ↦ table_first table answer w.if-standing-lt-STANDING.true
      | then-standing-lt-STANDING-via-else-standing-lt-STANDING+then-answer-lt-OBSERVED w ↦
          answer_next table answer w.if-standing-lt-STANDING.false w.if-answer-lt-OBSERVED.true
    ]))

pub returns-in_err-read_pad : goal.returns-in_err-read_pad
unfolding answer_read
returns-in_err-read_pad c =
    let p = err_from_is_err_and c.from_residual.result c.from_residual.ensures.1 in
    let x = c.in_err-read_pad.field-0.0 in
    rw (p.1, p.2)
    (ask-stopped (given_texts c.args.lib.now c.args.net.now) (texts-checked _ _) c.args.standing.now c.args.line c.args.answer.now (neither_short c.args.standing.now c.args.answer.now c.if-standing-lt-STANDING.false c.if-answer-lt-OBSERVED.false)
    c.read_pad.new.library c.read_pad.new.netlist x.number x.line
    (subst (PadRead (given_texts c.args.lib.now c.args.net.now) c.args.standing.now c.args.line false c.read_pad.new.library c.read_pad.new.netlist)
    (refused_is c.read_pad.result x c.in_err-read_pad.was) c.read_pad.ensures))

pub returns : goal.returns
unfolding answer_read
returns c =
    subst (λ (n : ℕ). AskPromised (given_texts c.args.lib.now c.args.net.now) c.args.standing.now c.args.line c.args.answer.now c.hand_observed.new.answer (read n))
    (sym c.word.ensures)
    (ask-answered (given_texts c.args.lib.now c.args.net.now) (texts-checked _ _) c.args.standing.now c.args.line c.args.answer.now (neither_short c.args.standing.now c.args.answer.now c.if-standing-lt-STANDING.false c.if-answer-lt-OBSERVED.false)
    c.read_pad.new.library c.read_pad.new.netlist (is_long c.args.standing.now c.if-standing-lt-STANDING.false)
    (subst (PadRead (given_texts c.args.lib.now c.args.net.now) c.args.standing.now c.args.line false c.read_pad.new.library c.read_pad.new.netlist) (accepted_is c.read_pad.result c.in_ok-read_pad.was) c.read_pad.ensures) c.observe-observed.new.numbers c.hand_observed.new.answer c.observe-observed.result c.observe-observed.ensures c.hand_observed.ensures)

pub read_pad-requires : goal.read_pad-requires
read_pad-requires c =
    (record { cells = refl; statements = refl }, c.if-standing-lt-STANDING.false)

pub observe-observed-requires : goal.observe-observed-requires
observe-observed-requires c =
    ready (given_texts c.args.lib.now c.args.net.now) (texts-checked _ _) c.args.standing.now (is_long c.args.standing.now c.if-standing-lt-STANDING.false) c.args.line false _ _ (subst (PadRead (given_texts c.args.lib.now c.args.net.now) c.args.standing.now c.args.line false c.read_pad.new.library c.read_pad.new.netlist) (accepted_is c.read_pad.result c.in_ok-read_pad.was) c.read_pad.ensures)

pub hand_observed-requires : goal.hand_observed-requires
hand_observed-requires c = c.if-answer-lt-OBSERVED.false
