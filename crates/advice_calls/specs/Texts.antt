-- What reading both texts comes to, for a call that lends an answer.
use Rattle.std.specs.Prelude.{List, ℕ}
use Rattle.reading.specs.Refusal.{Read}
use Rattle.calculation.specs.Stored.{Holds}
use Rattle.demands.specs.Call.{Call, Promises, answer_call}
use Rattle.demands.specs.Outcome.{Given, Pair}

-- Both texts, with an answer of which so many entries are asked: nothing of it is written yet.
abbrev pub texts_call : ℕ → Given → List ℕ → Call Pair (Unit {0}) (List ℕ)
texts_call size g before = answer_call size g before (λ p. tt) (λ p. before)

-- What was read stands in the tables.
abbrev pub TextsRead : ℕ → Given → (before library' netlist' after : List ℕ) → Read (Unit {0}) → Type 0
TextsRead size g before library' netlist' after said =
    Promises (texts_call size g before) (λ p after said. Holds library' netlist' p.cells p.statements) after said
