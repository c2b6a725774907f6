-- `refresh_gate` takes both values.
use Rattle.budget_run.proofs.Offers.{output-stands, refreshed}
use Rattle.budget_run.proofs.refresh_gate.Goals as goal

pub returns : goal.returns
returns c =
    refreshed (output-stands {library = c.args.circuit.now.library.now} (c.requires.tables_fit.gates c.args.gate c.requires.inside))
    c.refresh_value.ensures c.refresh_value-2.ensures
