-- What the call that hands out the best numbers within a budget answers and leaves. Document 02, K12.
use Rattle.std.specs.Prelude.{List, ◌++◌, ◌≡◌, ℕ, drop}
use Rattle.sizes.specs.Sizes as Size
use Rattle.reading.specs.Refusal.{Read, refused, read}
use Rattle.library_table.specs.Cells.{Cell}
use Rattle.netlist_table.specs.Netlist.{Statement}
use Rattle.calculation.specs.Budget.{best_within, best_words, WithinBudget}
use Rattle.demands.specs.Call.{Call, Promises, answer_call}
use Rattle.demands.specs.Outcome.{Pair, given_texts}
use Rattle.std.specs.Prelude.{Result, Ok, Err}
use Rattle.reading.specs.declared.Refusal.{Refusal}

-- "The answer carries the number of steps". "Entries past a table's published size keep their values on acceptance." Nothing is
-- swept, and nothing reported.
abbrev pub best_call : (lib net : List ℕ) → ℕ → List ℕ → Call Pair ℕ (List ℕ)
best_call lib net budget before =
    answer_call Size.best (given_texts lib net) before (λ p. (best_within p.cells p.statements budget).steps)
    (λ p. best_words p.cells p.statements budget ++ drop Size.best before)

-- Of an accepted library and netlist: the number of steps, and K12's sentences over the buffer.
pub record BestFound (cells : List Cell) (ss : List Statement) (budget : ℕ) (after : List ℕ) (said : Read ℕ) : Type 0 where
  pub steps : ℕ
  pub says : said ≡ read steps
  pub within : WithinBudget cells ss budget steps after

-- What the call promises: what every call keeps; and of an accepted library and netlist, K12's sentences.
abbrev pub BestPromised : (lib net : List ℕ) → ℕ → (before after : List ℕ) → Read ℕ → Type 0
BestPromised lib net budget before after said =
    Promises (best_call lib net budget before) (λ p after said. BestFound p.cells p.statements budget after said) after said
