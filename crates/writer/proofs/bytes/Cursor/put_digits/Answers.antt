-- 19 digits above the last hold a number of 64 bits.
use Rattle.common_laws.proofs.Base.{refl, arith}
use Rattle.writer.specs.Decimal.{decimal_bytes}
use Rattle.writer.proofs.bytes.Cursor.put_digits.Goals as goal

pub returns : goal.returns
unfolding decimal_bytes
returns c = record { lent = refl; put = c.put_in_base-self.ensures 19 (omega arith) }
