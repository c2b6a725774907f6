-- `change_code` tells which of the two happened by 1 or 0, a refusal by its one number.
use Rattle.common_laws.proofs.Base.{◌∙◌}
use Rattle.answer_codes.specs.Change.{course_number}
use Rattle.answer_codes.proofs.Number.{mapped}
use Rattle.answer_codes.proofs.Change.{course-told}
use Rattle.answer_codes.proofs.change_code.Goals as goal

pub code-requires : goal.code-requires
code-requires c = rw (mapped course_number _ _ c.map.ensures.cases ∙ course-told c.args.changed) c.requires

pub returns : goal.returns
returns c = rw (mapped course_number _ _ c.map.ensures.cases ∙ course-told c.args.changed) at c.code.ensures
