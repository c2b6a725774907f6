-- `walk`: a record that is passed to `step` is one more that is done.
use Rattle.common_laws.proofs.Base.{◌≡◌, refl, subst, take_all}
use Rattle.std.proofs.lemmas.Result.{err_from_is_err_and}
use Rattle.std.specs.Prelude.{Result, Ok, Err, List}
use Rattle.reading.specs.declared.Refusal.{Refusal}
use Rattle.analysis_texts.specs.declared.Stop.{Stop}
use Rattle.analysis_texts.specs.declared.Stop.TheVariants.{Later}
use Rattle.analysis_texts.specs.Progress.{refusal_of, Progress}
use Rattle.analysis_records.specs.declared.record.Record.{Record}
use Rattle.analysis_records.specs.Steps.{later}
use Rattle.analysis_records.specs.Walk.{Walked}
use Rattle.analysis_records.proofs.Laws.{walked_start, goes_on, stops_there}
use Rattle.analysis_records.proofs.walk.Goals as goal

-- What a step said, by its answer.
went_on : (said : Result (Unit {0}) Refusal) {r : Progress} {u : Unit {0}} → r ≡ later said → r ≡ Ok u → said ≡ Ok tt
went_on (Ok u) e f = refl
went_on (Err x) e f = cc

refused_then : (said : Result (Unit {0}) Refusal) {r : Progress} {x : Stop} → r ≡ later said → r ≡ Err x → said ≡ Err (refusal_of x)
refused_then (Ok u) e f = cc
refused_then (Err y) {x = x} e f = let same : x ≡ Later y = cc in rw same refl

pub loop-i-init : goal.loop-i-init
loop-i-init c = walked_start c.args.library.now c.args.table.now

pub loop-i-preserved : goal.loop-i-preserved
loop-i-preserved c =
    goes_on c.args.library.now c.args.table.now c.args.records.now _ c.loop-i.i c.loop-i-test.true c.loop-i.table c.step.new.table
    c.loop-i.invariant (went_on _ (c.step.ensures.checks tt refl).1 c.in_ok-step.was) (c.step.ensures.checks tt refl).2

pub returns-in_err-step : goal.returns-in_err-step
returns-in_err-step c =
    let p = err_from_is_err_and c.from_residual.result c.from_residual.ensures.1 in
    rw (p.1, p.2)
    (stops_there c.args.library.now c.args.table.now c.args.records.now _ c.loop-i.i c.loop-i-test.true c.loop-i.table c.step.new.table
    c.loop-i.invariant _ (refused_then _ (c.step.ensures.checks tt refl).1 c.in_err-step.was) (c.step.ensures.checks tt refl).2)

pub returns : goal.returns
returns c =
    subst (λ (ys : List Record). Walked c.args.library.now c.args.table.now ys (Ok tt) c.loop-i.table)
    (take_all c.loop-i.i c.args.records.now c.loop-i-test.false) c.loop-i.invariant
