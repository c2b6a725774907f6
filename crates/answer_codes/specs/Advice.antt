-- What the calls for C of the pad adviser answer and leave. Document 02, K13.
use Rattle.std.specs.Prelude.{List, ◌↔◌, ◌≡◌, ℕ, ◌≤◌, Option, Some, None}
use Rattle.sizes.specs.Sizes as Size
use Rattle.reading.specs.Refusal.{Read, read}
use Rattle.calculation.specs.declared.Advice.{Advice}
use Rattle.calculation.specs.Advice.{pad}
use Rattle.demands.specs.Call.{answered}
use Rattle.demands.specs.Outcome.{given_texts}
use Rattle.advice_calls.specs.Calls.{advice_call, rank_call}
use Rattle.advice_calls.specs.Promise.{AdvicePromised, RankPromised}
use Rattle.answer_codes.specs.Call.{CallCoded}
use Rattle.answer_codes.specs.Number.{told_by}

-- The line that is named, or 0 where none is allowed.
unfoldable pub advice_line : Option Advice → ℕ
advice_line None = 0
advice_line (Some a) = a.line

abbrev pub line_read : Read (Option Advice) → Read ℕ
line_read o = told_by advice_line o

-- What every call keeps; that it is the call in Rattle, with its whole promise; and which of the three the number tells: 1 to
-- 1,000 a line, 0 that none is allowed, any other a refusal.
pub record AdviceCoded (lib net forbidden before after : List ℕ) (said : ℕ) : Type 0 where
  pub coded : CallCoded (advice_call (given_texts lib net) forbidden before) line_read after said
  pub promised : AdvicePromised (given_texts lib net) forbidden before after (answered (advice_call (given_texts lib net) forbidden before))
  pub named : ((1 ≤ said) × (said ≤ Size.lines)) ↔ ((x : ℕ) × (answered (advice_call (given_texts lib net) forbidden before) ≡ read (pad said x)))
  pub none : (said ≡ 0) ↔ (answered (advice_call (given_texts lib net) forbidden before) ≡ read None)

-- The same of the ranks: up to 1,000 the number tells how many lines are allowed.
pub record RankCoded (lib net forbidden before after : List ℕ) (said : ℕ) : Type 0 where
  pub coded : CallCoded (rank_call (given_texts lib net) forbidden before) (λ o. o) after said
  pub promised : RankPromised (given_texts lib net) forbidden before after (answered (rank_call (given_texts lib net) forbidden before))
  pub counted : (said ≤ Size.lines) ↔ (answered (rank_call (given_texts lib net) forbidden before) ≡ read said)
