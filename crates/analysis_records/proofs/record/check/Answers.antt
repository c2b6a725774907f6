-- `check` admits what the record is taken apart into.
use Rattle.common_laws.proofs.Base.{◌∙◌, rules}
use Rattle.reading.proofs.Causes.{mapped}
use Rattle.analysis_records.proofs.RecordLaws.{answer_at, stepped}
use Rattle.analysis_records.proofs.record.check.Goals as goal

pub returns : goal.returns
returns c =
    stepped c.args.library.now c.args.place c.args.rec c.args.table.now c.take_apart.result _ _ _ c.take_apart.ensures
    (mapped c.admit.result _ c.args.place c.map_err.ensures.cases (λ cause refusal says. search rules) ∙ answer_at c.admit.result c.args.place)
    c.admit.ensures
