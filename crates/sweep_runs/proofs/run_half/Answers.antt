-- Each run begins where the one before it ended, and ends.
use Rattle.sweep_runs.proofs.FourRuns.{half-first, half_next, half-ran}
use Rattle.sweep_runs.proofs.run_half.Goals as goal

pub run_all-combinational-requires : goal.run_all-combinational-requires
run_all-combinational-requires c = let p = c.requires in half-first p.holds p.size p.costs c.args.role

pub run_all-sequential-requires : goal.run_all-sequential-requires
run_all-sequential-requires c = let p = c.requires in half_next p.holds p.size p.costs c.args.role c.run_all-combinational.ensures

pub returns : goal.returns
returns c cells ss h = half-ran h c.args.role c.run_all-combinational.ensures c.run_all-sequential.ensures
