-- `hand_observed` leaves one number more with each turn.
use Rattle.common_laws.proofs.Base.{◌++◌, ◌≡◌, take, drop}
use Rattle.standing_table.specs.StandingTable.{observed_words}
use Rattle.standing_table.proofs.hand_observed.Given as goal

abbrev pub invariant-loop-i : goal.invariant-loop-i
invariant-loop-i l = l.answer ≡ take l.i (observed_words l.numbers) ++ drop l.i l.fn.answer
