-- `is_tied` reads what was told of the gate.
use Rattle.sweep_links.proofs.Lines.{told_back}
use Rattle.sweep_links.proofs.is_tied.Goals as goal

pub returns : goal.returns
returns c library netlist gates t h = told_back t h
