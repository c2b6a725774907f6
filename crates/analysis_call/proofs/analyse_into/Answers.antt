-- `analyse_into`: the entry and both texts, then the end.
use Rattle.demands.specs.Answer.{lent_of}
use Rattle.demands.specs.Outcome.{given_texts}
use Rattle.demands.proofs.Given.{texts-checked}
use Rattle.analysis_texts.proofs.Reached.{texts-reached, texts-ready}
use Rattle.analysis_call.proofs.Promise.{promised}
use Rattle.analysis_call.proofs.analyse_into.Goals as goal

pub finish-requires : goal.finish-requires
finish-requires c =
    texts-ready c.args.lib.now c.args.net.now (lent_of c.args.library.now c.args.netlist.now c.args.numbers.now c.args.report.now) _ _ c.read_texts-progress.result c.read_texts-progress.ensures

pub returns : goal.returns
returns c =
    promised (given_texts c.args.lib.now c.args.net.now) (lent_of c.args.library.now c.args.netlist.now c.args.numbers.now c.args.report.now) (texts-checked _ _) _ _ c.read_texts-progress.auto.library c.read_texts-progress.auto.netlist c.read_texts-progress.result
    (texts-reached c.args.lib.now c.args.net.now (lent_of c.args.library.now c.args.netlist.now c.args.numbers.now c.args.report.now) _ _ c.read_texts-progress.result c.read_texts-progress.ensures) _ _ c.finish.ensures
