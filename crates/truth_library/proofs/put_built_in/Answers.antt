-- `put_built_in` puts the text's bytes, and closes the buffer.
use Rattle.common_laws.proofs.Base.{rules}
use Rattle.text.specs.Bytes.{bytes, text}
use Rattle.writer.proofs.Steps.{puts_lender}
use Rattle.truth_library.proofs.BuiltIn.{promised}
use Rattle.truth_library.proofs.put_built_in.Goals as goal

pub returns : goal.returns
unfolding bytes text
returns c =
    let p = promised (puts_lender c.put_bytes.ensures c.new-text.ensures.front c.new-text.ensures.same (search rules)) (rw c.number.ensures at c.close.ensures) in
    record { writes = p.0; long = p.1.0; shorter = p.1.1 }
