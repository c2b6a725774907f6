-- What the call for C that writes a plan answers and leaves. Document 02, K3.
use Rattle.std.specs.Prelude.{List, ◌⊎◌, ◌≡◌, ℕ, ◌/◌, ◌≤◌, ◌<◌, length}
use Rattle.reading.specs.Numbers as No
use Rattle.reading.specs.Refusal.{Read, read}
use Rattle.cost.specs.Cost.{most}
use Rattle.writer.specs.Buffer.{code_lines, length_read, left_by}
use Rattle.calculation.specs.Calculation.{analysed}
use Rattle.plan_text.specs.PlanText.{cheapest_text}
use Rattle.demands.specs.Outcome.{Lent, Pair, read_pair, given_texts}
use Rattle.demands.specs.Own.{own_tables}
use Rattle.plan_calls.specs.Concluded.{asked_number, kind_of}
use Rattle.plan_calls.specs.Promise.{plan_outcome, PlanSeen, PlanPromised}
use Rattle.answer_codes.specs.Number.{Tells, most_told, text_told}

-- What the call comes to: what `write_plan` does on tables of its own, and "19 when the text exceeds its buffer" also of a text
-- of 1,000,000 bytes or more, whose length would be taken for a refusal.
unfoldable pub plan_told : (lib net before : List ℕ) (l v kind : ℕ) → Read (List ℕ)
plan_told lib net before l v kind = text_told No.plan_long (plan_outcome (given_texts lib net) (own_tables before) l v kind)

-- Its number and the whole text buffer afterwards, by equation; that it is `write_plan` on tables of its own, with the whole
-- promise of that call; what a caller sees who has but the number and the buffer; and which refusals never come.
pub record PlanCoded (lib net before after : List ℕ) (l v kind said : ℕ) : Type 0 where
  pub answers : Tells (length_read (plan_told lib net before l v kind)) said
  pub leaves : after ≡ left_by (plan_told lib net before l v kind) before
  pub tables : Lent
  pub promised : PlanPromised (given_texts lib net) (own_tables before) tables l v kind
      (length_read (plan_outcome (given_texts lib net) (own_tables before) l v kind))
  pub buffer : (said / code_lines ≡ No.plan_long → ⊥) → after ≡ tables.report
  -- By the number alone: the text of a plan, than which none costs less,
  pub seen : said < code_lines → PlanSeen (given_texts lib net) l v kind after said
  -- 18: the number is over or never, or there is none,
  pub no_figure : (pair : Pair) → read_pair (given_texts lib net) ≡ read pair → said / code_lines ≡ No.no_figure
      → most < asked_number (analysed pair.cells pair.statements).numbers l v kind
  -- and 19: there is a plan, and its text is longer than the buffer or than the number tells.
  pub too_long : (pair : Pair) → read_pair (given_texts lib net) ≡ read pair → said / code_lines ≡ No.plan_long
      → (asked_number (analysed pair.cells pair.statements).numbers l v kind ≤ most)
      × ((length before < length (cheapest_text (kind_of kind) pair.cells pair.statements l v))
      ⊎ (most_told < length (cheapest_text (kind_of kind) pair.cells pair.statements l v)))
  -- "1 a lent table below its published size": its own tables are not.
  pub table_short : said / code_lines ≡ No.table_short → ⊥
  -- "(17 isn't made here)"
  pub report_long : said / code_lines ≡ No.report_long → ⊥
