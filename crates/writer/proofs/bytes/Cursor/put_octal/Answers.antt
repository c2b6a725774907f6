-- 21 digits above the last hold a number of 64 bits.
use Rattle.common_laws.proofs.Base.{refl, arith}
use Rattle.writer.specs.Octal.{octal_bytes}
use Rattle.writer.proofs.bytes.Cursor.put_octal.Goals as goal

pub returns : goal.returns
unfolding octal_bytes
returns c = record { lent = refl; put = c.put_in_base-self.ensures 21 (omega arith) }
