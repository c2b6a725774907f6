-- What the calculation's theorems ask of cells and statements: what the two readers say of all that they accept.
use Rattle.std.specs.Prelude.{List}
use Rattle.library_table.specs.Cells.{Cell}
use Rattle.library_table.specs.Sound as C
use Rattle.netlist_table.specs.Netlist.{Statement}
use Rattle.netlist_table.specs.Sound as N

pub record BothSound (cells : List Cell) (ss : List Statement) : Type 0 where
  pub library : C.Sound cells
  pub netlist : N.Sound cells ss
