-- The line of a refusal is one that the number tells.
use Rattle.common_laws.proofs.Base.{ap}
use Rattle.reading.specs.Answer.{answer_read}
use Rattle.writer.proofs.code.Goals as goal

pub refusal_code-requires : goal.refusal_code-requires
unfolding answer_read
refusal_code-requires c = c.requires c.in-Err.r.number c.in-Err.r.line (ap answer_read c.in-Err.is)
