-- `advised_code` tells an advice by its line, a refusal by its one number.
use Rattle.answer_codes.specs.Advice.{advice_line}
use Rattle.answer_codes.proofs.Number.{mapped}
use Rattle.answer_codes.proofs.advised_code.Goals as goal

pub code-requires : goal.code-requires
code-requires c = rw (mapped advice_line _ _ c.map.ensures.cases) c.requires

pub returns : goal.returns
returns c = rw (mapped advice_line _ _ c.map.ensures.cases) at c.code.ensures
