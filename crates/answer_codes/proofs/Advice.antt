-- The numbers of the calls for C of the pad adviser, from the answers of the calls in Rattle.
use Rattle.common_laws.proofs.Base.{List, ◌↔◌, ◌≡◌, refl, sym, ap, subst, ◌∙◌, ℕ, ◌≤◌, arith, leb-true}
use Rattle.sizes.specs.Sizes as Size
use Rattle.reading.specs.Refusal.{Read, refused, read, ◌>>=◌}
use Rattle.reading.proofs.Bounds.{Within, any_number}
use Rattle.reading.proofs.Laws.{refused-read}
use Rattle.reading.specs.Answer.{answer_read}
use Rattle.writer.specs.Buffer.{code_of, LineBelow}
use Rattle.calculation.specs.declared.Advice.{Advice}
use Rattle.calculation.specs.Advice.{pad}
use Rattle.calculation.proofs.AdvisedLine.{none-pad}
use Rattle.demands.specs.Outcome.{given_texts}
use Rattle.demands.proofs.Call.{answered-within}
use Rattle.std.specs.Prelude.{Option, Some, None, Result, Ok, Err}
use Rattle.reading.specs.declared.Refusal.{Refusal}
use Rattle.advice_calls.specs.Calls.{advice_size, advice_call, rank_call}
use Rattle.advice_calls.specs.Promise.{AdvicePromised, RankPromised}
use Rattle.answer_codes.specs.Number.{last_line, told_by}
use Rattle.answer_codes.specs.Advice.{advice_line, line_read, AdviceCoded, RankCoded}
use Rattle.answer_codes.proofs.Call.{call-coded}
use Rattle.answer_codes.proofs.Number.{told-within, told-read, by_refused, tells, tells_by, line-below}

-- ---- the advice

module _ (lib net forbidden before after : List ℕ) (r : Result (Option Advice) Refusal) (p : AdvicePromised (given_texts lib net) forbidden before after (answer_read r)) where
  within : Within any_number last_line (answer_read r)
  within = rw p.promises.kept.answers (answered-within advice_size lib net before _ _)

  pub advice-line : LineBelow (line_read (answer_read r))
  advice-line = line-below _ (told-within advice_line (answer_read r) within)

  small : (a : Option Advice) → answer_read r ≡ read a → advice_line a ≤ Size.lines
  unfolding advice_line
  small None e = omega arith
  small (Some a) e = (p.line a.line a.largest e).1

  -- Which of the three a number tells.
  record Names (said : ℕ) : Type 0 where
    pub named : ((1 ≤ said) × (said ≤ Size.lines)) ↔ ((x : ℕ) × (answer_read r ≡ read (pad said x)))
    pub none : (said ≡ 0) ↔ (answer_read r ≡ read None)

  names : (said : ℕ) (o : Read (Option Advice)) → answer_read r ≡ o → said ≡ code_of (line_read o) → Names said
  unfolding told_by advice_line code_of ◌>>=◌
  names said (refused n k) e is =
      let some : 1 ≤ n = leb-true 1 n (subst (Within any_number last_line) e within).0 in
      record {
        named = (λ z. absurd (omega (arith, some, is, z.1)), λ z. refused-read (sym e ∙ z.1));
        none = (λ z. absurd (omega (arith, some, is)), λ z. refused-read (sym e ∙ z));
      }
  names said (read None) e is =
      record {
        named = (λ z. absurd (omega (arith, is, z.0)), λ z. absurd (none-pad said z.0 (sym e ∙ z.1)));
        none = (λ z. e, λ z. is);
      }
  names said (read (Some a)) e is =
      let h = p.line a.line a.largest e in
      record {
        named = (λ z. (a.largest, e ∙ ap (λ (n : ℕ). read (pad n a.largest)) (sym is)), λ z. rw is h);
        none = (λ z. absurd (omega (arith, h.0, is)), λ z. absurd (none-pad a.line a.largest (sym z ∙ e)));
      }

  pub advice-coded : (said : ℕ) → said ≡ code_of (line_read (answer_read r)) → AdviceCoded lib net forbidden before after said
  advice-coded said is =
      let n = names said (answer_read r) refl is in
      let k = p.promises.kept in
      record {
        coded = call-coded (advice_call (given_texts lib net) forbidden before) line_read (by_refused advice_line) after (answer_read r) k said
            (tells_by advice_line (answer_read r) within (λ a e. omega (arith, small a e)) said is);
        promised = rw (← k.answers) p;
        named = rw (← k.answers) n.named;
        none = rw (← k.answers) n.none;
      }

-- ---- the ranks

module _ (lib net forbidden before after : List ℕ) (r : Result ℕ Refusal) (p : RankPromised (given_texts lib net) forbidden before after (answer_read r)) where
  rank-within : Within any_number last_line (answer_read r)
  rank-within = rw p.promises.kept.answers (answered-within Size.ranks lib net before _ _)

  pub rank-line : LineBelow (answer_read r)
  rank-line = line-below (answer_read r) rank-within

  pub rank-coded : (said : ℕ) → said ≡ code_of (answer_read r) → RankCoded lib net forbidden before after said
  rank-coded said is =
      let t = tells (answer_read r) rank-within (λ n e. omega (arith, p.few n e)) said is in
      let k = p.promises.kept in
      record {
        coded = call-coded (rank_call (given_texts lib net) forbidden before) (λ o. o) (λ o number line e. e) after (answer_read r) k said t;
        promised = rw (← k.answers) p;
        counted = rw (← k.answers) (λ h. told-read t (omega arith), p.few said);
      }
