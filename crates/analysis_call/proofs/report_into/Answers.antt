-- `report_into`: the entry and both texts, then the end.
use Rattle.demands.specs.Answer.{lent_of}
use Rattle.demands.specs.Outcome.{given_texts}
use Rattle.demands.proofs.Given.{texts-checked}
use Rattle.analysis_texts.proofs.Reached.{texts-reached, texts-ready}
use Rattle.analysis_call.proofs.Promise.{told-promised}
use Rattle.analysis_call.proofs.report_into.Goals as goal

pub tell-requires : goal.tell-requires
tell-requires c =
    texts-ready c.args.lib.now c.args.net.now (lent_of c.args.library.now c.args.netlist.now c.args.found.now c.args.report.now) _ _ c.read_texts-progress.result c.read_texts-progress.ensures

pub returns : goal.returns
returns c =
    let p = told-promised (given_texts c.args.lib.now c.args.net.now) (lent_of c.args.library.now c.args.netlist.now c.args.found.now c.args.report.now) (texts-checked _ _) _ _ _ _ _ c.read_texts-progress.result
    (texts-reached c.args.lib.now c.args.net.now (lent_of c.args.library.now c.args.netlist.now c.args.found.now c.args.report.now) _ _ c.read_texts-progress.result c.read_texts-progress.ensures) c.tell.ensures in
    record { answers = p.0; leaves = p.1 }
