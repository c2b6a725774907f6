-- `numbers_of` lends what stands behind the pads.
use Rattle.sizes.specs.Sizes as Size
use Rattle.standing_table.proofs.Slices.{part_is}
use Rattle.standing_table.proofs.numbers_of.Goals as goal

pub returns : goal.returns
returns c = part_is c.args.standing.now Size.standing_numbers
