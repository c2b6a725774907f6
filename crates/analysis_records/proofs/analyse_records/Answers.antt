-- `analyse_records`: what is read, and the end, make the promise.
use Rattle.analysis_records.proofs.Call.{ready-then, promised-then}
use Rattle.analysis_records.proofs.analyse_records.Goals as goal

pub finish-requires : goal.finish-requires
finish-requires c =
    ready-then c.args.lib.now c.args.records.now c.args.library.now c.args.netlist.now c.args.numbers.now c.args.report.now _ _
    c.read_records-progress.result c.read_records-progress.ensures

pub returns : goal.returns
returns c =
    promised-then c.args.lib.now c.args.records.now c.args.library.now c.args.netlist.now c.args.numbers.now c.args.report.now _ _
    c.read_records-progress.result c.read_records-progress.ensures c.read_records-progress.auto.library c.read_records-progress.auto.netlist _ _
    c.finish.ensures
