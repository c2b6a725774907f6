-- What the answers of the code stand for.
use Rattle.std.specs.Prelude.{List, ℕ}
use Rattle.demands.specs.Outcome.{Lent}

abbrev pub lent_of : List ℕ → List ℕ → List ℕ → List ℕ → Lent
lent_of library netlist numbers report = record { library = library; netlist = netlist; numbers = numbers; report = report }
