-- Whose the library and the netlist table of a call are.
use Rattle.std.specs.Prelude.{List, ◌≡◌, ℕ, replicate}
use Rattle.sizes.specs.Sizes as Size
use Rattle.analysis_texts.specs.declared.Tables.{Tables}
use Rattle.analysis_texts.specs.declared.Tables.TheVariants.{Own, Lent}

-- A table of a call's own is zero, and of its published size; of a lent one nothing is known.
abbrev pub ZeroIfOwn : Tables → ℕ → List ℕ → Type 0
ZeroIfOwn Own size table = table ≡ replicate size 0
ZeroIfOwn Lent size table = Unit {0}

-- Both tables of a call's own, as it makes them.
pub record Zero (library netlist : List ℕ) : Type 0 where
  pub cells : library ≡ replicate Size.library 0
  pub statements : netlist ≡ replicate Size.netlist 0
