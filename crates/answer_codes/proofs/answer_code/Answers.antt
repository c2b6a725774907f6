-- `answer_code` tells a report's length by itself, a refusal by its one number.
use Rattle.demands.specs.declared.Summary.{Summary}
use Rattle.answer_codes.proofs.Number.{mapped}
use Rattle.answer_codes.proofs.answer_code.Goals as goal

pub code-requires : goal.code-requires
code-requires c = rw (mapped (λ (s : Summary). s.length) _ _ c.map.ensures.cases) c.requires

pub returns : goal.returns
returns c = rw (mapped (λ (s : Summary). s.length) _ _ c.map.ensures.cases) at c.code.ensures
