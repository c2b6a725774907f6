-- `clear_all` sets all that was lent to zero.
use Rattle.common_laws.proofs.Base.{◌∙◌}
use Rattle.table.proofs.Places.{cleared-all}
use Rattle.demands.specs.Outcome.{zeroed}
use Rattle.analysis_texts.proofs.entry.clear_all.Goals as goal

pub returns : goal.returns
unfolding zeroed
returns c =
    let library = c.clear.ensures ∙ cleared-all c.args.library.now in
    let netlist = c.clear-2.ensures ∙ cleared-all c.args.netlist.now in
    let numbers = c.clear-3.ensures ∙ cleared-all c.args.numbers.now in
    λ i. record { library = library i; netlist = netlist i; numbers = numbers i; report = c.clear_bytes.ensures i }
