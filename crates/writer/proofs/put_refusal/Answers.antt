-- `put_refusal` stores the word, the number and the line, one behind the other.
use Rattle.text.specs.Bytes.{bytes}
use Rattle.writer.specs.Refused.{refusal_bytes}
use Rattle.writer.proofs.Steps.{puts_then}
use Rattle.writer.proofs.put_refusal.Goals as goal

pub returns : goal.returns
unfolding refusal_bytes bytes
returns c =
    puts_then c.put_bytes.ensures
    (puts_then c.put_digits.ensures (puts_then c.put_byte.ensures (puts_then c.put_digits-2.ensures c.put_byte-2.ensures)))
