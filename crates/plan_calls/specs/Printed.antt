-- What the program `scoap_plan` prints of two texts, a line, a value and a kind. Document 02, K3.
use Rattle.std.specs.Prelude.{List, ◌≡◌, ℕ}
use Rattle.sizes.specs.Sizes as Size
use Rattle.reading.specs.Numbers as No
use Rattle.reading.specs.Refusal.{Read, refused, read}
use Rattle.writer.specs.Buffer.{shown, ShownBy, Prints}
use Rattle.demands.specs.Own.{own_tables}
use Rattle.demands.specs.Outcome.{Lent, given_texts}
use Rattle.plan_calls.specs.Promise.{plan_outcome, plan_left, PlanSeen, PlanPromised}

-- Of a call on tables of its own, and a text buffer that holds `before`.
unfoldable pub plan_printed : List ℕ → List ℕ → ℕ → ℕ → ℕ → List ℕ → List ℕ
plan_printed lib net l v kind before = shown (plan_outcome (given_texts lib net) (own_tables before) l v kind)

-- What `put_plan` promises: what is printed, and the whole buffer afterwards, by equation; and it is the text, or the refusal,
-- of `write_plan` on tables of its own, with the whole promise of that call: the plan, its cost, its rows and the three
-- demands.
pub record PlanPrinted (lib net : List ℕ) (l v kind : ℕ) (before after : List ℕ) (said : ℕ) : Type 0 where
  pub bytes : Prints Size.report_bytes (plan_printed lib net l v kind before) (plan_left (given_texts lib net) (own_tables before) l v kind).report after said
  pub tables : Lent
  pub answer : Read ℕ
  pub promised : PlanPromised (given_texts lib net) (own_tables before) tables l v kind answer
  pub shows : ShownBy answer tables.report after said
  -- The bytes of a text are those of the plan.
  pub seen : (n : ℕ) → answer ≡ read n → PlanSeen (given_texts lib net) l v kind after said
  -- "1 a lent table below its published size": its own tables are not.
  pub table_short : (line : ℕ) → answer ≡ refused No.table_short line → ⊥
