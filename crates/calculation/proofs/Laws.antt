-- The laws of an analysis that others cite: what `analysed` promises of accepted cells and statements.
pub use Rattle.calculation.proofs.Sweeps.{
  alters-lower,
  unaltered,
  changes-append,
  unchanged,
  changes-lower,
  going_first,
  going_on,
  going_ends,
  going_within,
  settled-run,
}
pub use Rattle.calculation.proofs.Places.{Placed, kind-small, node-inside, node_injective, first_number, start-length, start-bounded, start-at}
pub use Rattle.calculation.proofs.Prices.{low-within, high-within, end-figures, own-figures}
pub use Rattle.calculation.proofs.Visits.{getD_listed, Has}
pub use Rattle.calculation.proofs.Acceptance.{gate-cell, pin-count, gate-pin, role_group_lem, role_row, depth-figure}
pub use Rattle.calculation.proofs.Bounds.{within, settled, few-sweeps, settled-once, numbers-length, numbers-bounded}
pub use Rattle.calculation.proofs.Exactness.{exact, unmentioned, entry-bounded}
pub use Rattle.calculation.proofs.Between.{kinds-apart, analysis-at, between, between-each}
pub use Rattle.calculation.proofs.Budget.{within-budget}
-- ---- runs from numbers that stand: the halves from whatever costs; `last_runs_lem`, rows added and outputs added, which requests
-- K11 and K14 are to cite
pub use Rattle.calculation.proofs.AnyNumbers.{setting-within, observing-within, last_runs_lem}
pub use Rattle.calculation.proofs.Rows.{ways-added, on-settled, on-few, on-numbers, goes-on-lower}
pub use Rattle.calculation.proofs.Outputs.{analysed_runs, outputs-analysed, outputs-lower}
-- ---- one pad more, and where its effect spreads, as specs/Effects.antt states them
pub use Rattle.calculation.proofs.Effects.{pad-lesser, never_falls, falls_just}
pub use Rattle.calculation.proofs.Spread.{falls_spread}
