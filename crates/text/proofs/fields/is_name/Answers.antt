-- The length is good, and so is each byte.
use Rattle.std.proofs.Common.{rules, tests}
use Rattle.std.proofs.lemmas.Iterator.{YieldsList-from_slice}
use Rattle.std.proofs.lemmas.Iterator.Search.{all_from_yields_List}
use Rattle.common_laws.proofs.Base.{sym, ◌∙◌, arith}
use Rattle.text.specs.Numeral.{name_byte}
use Rattle.text.proofs.FieldSteps.{all_name-list, name_form-empty, name_form-long, name_form-bytes}
use Rattle.text.proofs.fields.is_name.Goals as goal
use Rattle.text.proofs.fields.is_name.Goals.{then-f-lt1-via-then-f-lt1, then-f-lt1-via-else-f-lt1+then-f-gt-NAME_BYTES}

pub returns-then-f-lt1 : goal.returns-then-f-lt1
returns-then-f-lt1 c =
    elim c.then-f-lt1.branch [
      | then-f-lt1-via-then-f-lt1 w ↦ sym (name_form-empty _ w.if-f-lt1.true)
      | then-f-lt1-via-else-f-lt1+then-f-gt-NAME_BYTES w ↦ sym (name_form-long _ w.if-f-gt-NAME_BYTES.true)
    ]

pub returns : goal.returns
returns c =
    let f = c.args.f.now in
    all_from_yields_List name_byte _ _ _ c.all.ensures.ran (YieldsList-from_slice f cc) (λ x b q k. search (rules, tests))
    ∙ all_name-list f
    ∙ sym (name_form-bytes f (omega arith) (omega arith))
