-- The number of `scoap_best`, from the answer of `best_within`.
use Rattle.common_laws.proofs.Base.{List, ◌≡◌, sym, ◌∙◌, ℕ, arith}
use Rattle.sizes.specs.Sizes as Size
use Rattle.reading.specs.Numbers as No
use Rattle.reading.specs.Refusal.{read}
use Rattle.reading.proofs.Bounds.{Within, any_number}
use Rattle.reading.specs.Answer.{answer_read}
use Rattle.writer.specs.Buffer.{code_of, LineBelow}
use Rattle.demands.proofs.Call.{was_read_lem, answered-within}
use Rattle.std.specs.Prelude.{Result, Ok, Err}
use Rattle.reading.specs.declared.Refusal.{Refusal}
use Rattle.budget_call.specs.Promise.{best_call, BestPromised}
use Rattle.answer_codes.specs.Number.{last_line}
use Rattle.answer_codes.specs.Best.{BestSeen, BestCoded}
use Rattle.answer_codes.proofs.Call.{call-coded}
use Rattle.answer_codes.proofs.Number.{tells, told-read, told-number, line-below}

module _ (lib net : List ℕ) (budget : ℕ) (before after : List ℕ) (r : Result ℕ Refusal) (p : BestPromised lib net budget before after (answer_read r)) where
  within : Within any_number last_line (answer_read r)
  within = rw p.kept.answers (answered-within Size.best lib net before _ _)

  pub best-line : LineBelow (answer_read r)
  best-line = line-below (answer_read r) within

  same-steps : (steps other : ℕ) → answer_read r ≡ read steps → answer_read r ≡ read other → other ≡ steps
  same-steps steps other e f = cc (sym e ∙ f)

  seen-steps : (steps : ℕ) → answer_read r ≡ read steps → BestSeen lib net budget before after steps
  seen-steps steps e =
      let q = was_read_lem (best_call lib net budget before) steps (sym p.kept.answers ∙ e) in
      let found = p.accepted q.0 q.1 in
      let within = rw (same-steps steps found.steps e found.says) at found.within in
      record { pair = q.0; reads = q.1; within = within; few = within.few }

  pub best-coded : (said : ℕ) → said ≡ code_of (answer_read r) → BestCoded lib net budget before after said
  best-coded said is =
      let t = tells (answer_read r) within (λ n e. omega (arith, (seen-steps n e).few)) said is in
      record {
        coded = call-coded (best_call lib net budget before) (λ o. o) (λ o number line e. e) after (answer_read r) p.kept said t;
        promised = rw (← p.kept.answers) p;
        seen = λ h. seen-steps said (told-read t h);
        report_long = λ h. p.no_report _ (told-number t No.report_long (omega arith) h);
      }
