-- Cells that have a truth table. Document 02, K8: "cells that K6 generates, constants among them".
use Rattle.std.specs.Prelude.{Bool, List, ◌≡◌, ◌≤◌, ◌^◌, length}
use Rattle.library_table.specs.Cells.{Cell}
use Rattle.truth_tables.specs.Entries.{setting_groups, observing_groups}

-- A cell whose groups are those that the generator makes of the truth table with these bits, whatever its name. One without
-- pins is a constant.
pub record Generated (c : Cell) (bits : List Bool) : Type 0 where
  -- "n from 0 to 4, BITS the 2^n output values"
  pub few : c.pins ≤ 4
  pub size : length bits ≡ 2 ^ c.pins
  pub cc : c.cc ≡ setting_groups 1 c.pins bits
  pub co : c.co ≡ observing_groups 1 c.pins bits
  pub sc : c.sc ≡ setting_groups 0 c.pins bits
  pub so : c.so ≡ observing_groups 0 c.pins bits
