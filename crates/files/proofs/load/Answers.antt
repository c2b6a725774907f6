-- `load`: the buffer is longer than a text may be.
use Rattle.std.proofs.Common.{rules}
use Rattle.files.proofs.Output.{seen}
use Rattle.files.proofs.load.Goals as goal

pub returns : goal.returns
returns g c = seen _ _ (search rules) c.fill.ensures
