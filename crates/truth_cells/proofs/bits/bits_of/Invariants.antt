-- `bits_of` has one value more of the truth table with each turn.
use Rattle.common_laws.proofs.Base.{map, ◌≡◌, length, take}
use Rattle.truth_rows.specs.Masks.{up_from}
use Rattle.truth_cells.specs.Words.{met_at, bit_byte}
use Rattle.truth_cells.proofs.bits.bits_of.Given as goal

abbrev pub invariant-loop-j : goal.invariant-loop-j
invariant-loop-j l = record {
  long : length l.bits ≡ 16;
  done : take l.j l.bits ≡ map bit_byte (map (met_at l.library l.at l.pins) (up_from 0 l.j));
}
