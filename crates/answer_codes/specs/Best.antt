-- What the call for C that hands out the best numbers within a budget answers and leaves. Document 02, K12.
use Rattle.std.specs.Prelude.{List, ◌≡◌, ℕ, ◌/◌, ◌≤◌, ◌<◌}
use Rattle.sizes.specs.Sizes as Size
use Rattle.reading.specs.Numbers as No
use Rattle.reading.specs.Refusal.{read}
use Rattle.writer.specs.Buffer.{code_lines}
use Rattle.calculation.specs.Budget.{WithinBudget}
use Rattle.demands.specs.Call.{comes, answered}
use Rattle.demands.specs.Outcome.{Pair}
use Rattle.budget_call.specs.Promise.{best_call, BestPromised}
use Rattle.answer_codes.specs.Call.{CallCoded}

-- What a caller has who sees the number and the buffer alone: K12's sentences of what was read.
pub record BestSeen (lib net : List ℕ) (budget : ℕ) (before after : List ℕ) (said : ℕ) : Type 0 where
  pub pair : Pair
  pub reads : comes (best_call lib net budget before) ≡ read pair
  pub within : WithinBudget pair.cells pair.statements budget said after
  pub few : said ≤ Size.leaves

-- What every call keeps; that it is `best_within`, with the whole promise of that call; and what a caller sees who has but the
-- number and the buffer.
pub record BestCoded (lib net : List ℕ) (budget : ℕ) (before after : List ℕ) (said : ℕ) : Type 0 where
  pub coded : CallCoded (best_call lib net budget before) (λ o. o) after said
  pub promised : BestPromised lib net budget before after (answered (best_call lib net budget before))
  -- By the number alone: the steps,
  pub seen : said < code_lines → BestSeen lib net budget before after said
  -- "17 report longer than its buffer": there is no report.
  pub report_long : said / code_lines ≡ No.report_long → ⊥
