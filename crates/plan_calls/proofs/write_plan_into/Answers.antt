-- `write_plan_into`: the entry and both texts, then the plan.
use Rattle.common_laws.proofs.Base.{rules}
use Rattle.demands.specs.Answer.{lent_of}
use Rattle.demands.specs.Outcome.{given_texts}
use Rattle.demands.proofs.Given.{texts-checked}
use Rattle.reading.specs.Answer.{answer_read}
use Rattle.analysis_texts.proofs.Reached.{texts-reached, texts-ready}
use Rattle.plan_calls.proofs.Promise.{call-stopped, call-made}
use Rattle.plan_calls.proofs.write_plan_into.Goals as goal

pub calculate_plan-requires : goal.calculate_plan-requires
calculate_plan-requires c =
    texts-ready c.args.lib.now c.args.net.now (lent_of c.args.library.now c.args.netlist.now c.args.numbers.now c.args.text.now) _ _ c.read_texts-progress.result c.read_texts-progress.ensures c.in-Ok.is

pub returns-in-Err : goal.returns-in-Err
unfolding answer_read
returns-in-Err c =
    call-stopped (given_texts c.args.lib.now c.args.net.now) (lent_of c.args.library.now c.args.netlist.now c.args.numbers.now c.args.text.now) c.args.line c.args.value c.args.kind (texts-checked _ _) _ _ c.read_texts-progress.result
    (texts-reached c.args.lib.now c.args.net.now (lent_of c.args.library.now c.args.netlist.now c.args.numbers.now c.args.text.now) _ _ c.read_texts-progress.result c.read_texts-progress.ensures) _ (search rules)
    c.read_texts-progress.auto.library c.read_texts-progress.auto.netlist _ c.stopped_all.ensures.1 _ c.stopped_all.ensures.0

pub returns-in-Ok : goal.returns-in-Ok
returns-in-Ok c =
    call-made (given_texts c.args.lib.now c.args.net.now) (lent_of c.args.library.now c.args.netlist.now c.args.numbers.now c.args.text.now) c.args.line c.args.value c.args.kind (texts-checked _ _) _ _ c.read_texts-progress.result
    (texts-reached c.args.lib.now c.args.net.now (lent_of c.args.library.now c.args.netlist.now c.args.numbers.now c.args.text.now) _ _ c.read_texts-progress.result c.read_texts-progress.ensures) (search rules)
    _ _ _ c.calculate_plan.ensures
