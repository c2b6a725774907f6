-- Every bit is set.
use Rattle.common_laws.proofs.Base.{refl, ℕ, ◌/◌, ◌%◌, arith, get_or-replicate}
use Rattle.sizes.specs.Sizes as Size
use Rattle.sweep_links.specs.Turns.{bit_at}
use Rattle.sweep_links.proofs.Bits.{ones_bit}
use Rattle.sweep_links.proofs.awake.all_awake.Goals as goal

pub returns : goal.returns
unfolding bit_at
returns c = record {
  awake = λ t h.
      rw (get_or-replicate {A = ℕ} Size.awake_words (t / Size.word_bits) 18446744073709551615 0 (omega arith))
      (ones_bit Size.word_bits (t % Size.word_bits) (omega arith));
  size = refl;
}
