-- What the adviser's two calls answer, and what they leave in the answer that they are lent. Document 02, K13.
use Rattle.std.specs.Prelude.{List, ◌++◌, ℕ, length, set, drop, Option, Some, None}
use Rattle.sizes.specs.Sizes as Size
use Rattle.reading.specs.Refusal.{Read, refused, read}
use Rattle.calculation.specs.declared.Advice.{Advice}
use Rattle.calculation.specs.Advice.{allowed_lines, advice, ranks}
use Rattle.demands.specs.Call.{Call, answer_call}
use Rattle.demands.specs.Outcome.{Given, Pair}
use Rattle.std.specs.Prelude.{Result, Ok, Err}
use Rattle.reading.specs.declared.Refusal.{Refusal}

-- ---- the advice

-- The published size of its answer.
abbrev pub advice_size : ℕ
advice_size = 1

-- "The answer carries that largest CO", in its first entry; where no line is allowed there is none, and it stays as it was.
unfoldable pub advice_into : Option Advice → List ℕ → List ℕ
advice_into None before = before
advice_into (Some a) before = set before 0 a.largest

abbrev pub advice_call : Given → List ℕ → List ℕ → Call Pair (Option Advice) (List ℕ)
advice_call g forbidden before =
    answer_call advice_size g before (λ p. advice p.cells p.statements forbidden)
    (λ p. advice_into (advice p.cells p.statements forbidden) before)

-- ---- the ranks

-- How many lines are allowed, and four numbers of each line. "Entries past a table's published size keep their values on
-- acceptance."
abbrev pub rank_call : Given → List ℕ → List ℕ → Call Pair ℕ (List ℕ)
rank_call g forbidden before =
    answer_call Size.ranks g before (λ p. length (allowed_lines p.statements forbidden))
    (λ p. ranks p.cells p.statements forbidden ++ drop Size.ranks before)
