-- What a call has that lends itself tables of its own.
use Rattle.std.specs.Prelude.{List, ℕ, replicate}
use Rattle.sizes.specs.Sizes as Size
use Rattle.demands.specs.Outcome.{Lent}

-- "Table sizes published are those of the tables that `scoap` itself lends."
unfoldable pub own_tables : List ℕ → Lent
own_tables report =
    record {
      library = replicate Size.library 0;
      netlist = replicate Size.netlist 0;
      numbers = replicate Size.numbers 0;
      report = report;
    }
