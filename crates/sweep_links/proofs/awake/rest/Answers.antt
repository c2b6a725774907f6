-- `rest` clears the turn's bit.
use Rattle.common_laws.proofs.Base.{refl, ◌%◌, arith}
use Rattle.sizes.specs.Sizes as Size
use Rattle.sweep_links.proofs.Bits.{one_shifted}
use Rattle.sweep_links.proofs.Turns.{xor_rests}
use Rattle.sweep_links.proofs.awake.rest.Goals as goal

pub returns : goal.returns
returns c =
    let a = c.args in
    xor_rests a.awake.now a.turn _ _ refl (one_shifted (a.turn % Size.word_bits) (omega arith)) (omega arith)
