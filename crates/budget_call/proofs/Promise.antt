-- From the parts of the call to its promise.
use Rattle.common_laws.proofs.Base.{List, ◌++◌, ◌≡◌, refl, ℕ, ◌≤◌, ◌<◌, length, drop, replicate}
use Rattle.sizes.specs.Sizes as Size
use Rattle.reading.specs.Numbers as No
use Rattle.reading.specs.Refusal.{Read, refused, read}
use Rattle.reading.specs.declared.Refusal.{Refusal}
use Rattle.library_table.specs.Cells.{Cell}
use Rattle.netlist_table.specs.Netlist.{Statement}
use Rattle.calculation.specs.Budget.{best_within, best_words}
use Rattle.calculation.specs.Stored.{Holds}
use Rattle.calculation.proofs.Laws.{within-budget}
use Rattle.demands.specs.Outcome.{Pair, entry_by, given_texts}
use Rattle.analysis_texts.specs.declared.Stop.{Stop}
use Rattle.analysis_texts.specs.Progress.{Progress, refusal_of, left_at, Reached}
use Rattle.analysis_texts.specs.Tables.{Zero}
use Rattle.analysis_texts.proofs.Calls.{short-call, stopped-call, held-call, made-call}
use Rattle.budget_call.specs.Parts.{FillFits, Filled}
use Rattle.budget_call.specs.Promise.{BestFound, BestPromised}
use Rattle.std.specs.Prelude.{Result, Ok, Err}

module _ (lib net : List ℕ) (budget : ℕ) (before : List ℕ) where
  abbrev steps : Pair → ℕ
  steps p = (best_within p.cells p.statements budget).steps

  abbrev words : Pair → List ℕ
  words p = best_words p.cells p.statements budget ++ drop Size.best before

  abbrev Own : Pair → List ℕ → Read ℕ → Type 0
  Own p after said = BestFound p.cells p.statements budget after said

  pub call-short : length before < Size.best → BestPromised lib net budget before before (refused No.table_short 0)
  call-short = short-call Size.best lib net before steps words Own

  -- ---- from where reading left the call

  module _ (room : Size.best ≤ length before) (library' netlist' : List ℕ) (s : Progress)
      (h : Reached (given_texts lib net)
      (entry_by (length lib) (length net) (length {A = ℕ} (replicate Size.library 0)) (length {A = ℕ} (replicate Size.netlist 0)) Size.numbers)
      (replicate Size.library 0) (replicate Size.netlist 0) library' netlist' s) where
    zero : Zero (replicate Size.library 0) (replicate Size.netlist 0)
    zero = record { cells = refl; statements = refl }

    pub call-stopped : (stop : Stop) → s ≡ Err stop → (after : List ℕ) → after ≡ left_at stop before (replicate (length before) 0)
        → (r : Refusal) → r ≡ refusal_of stop → BestPromised lib net budget before after (refused r.number r.line)
    call-stopped = stopped-call Size.best lib net before steps words room zero library' netlist' s h Own

    pub fill_fits : s ≡ (Ok tt) → FillFits library' netlist' before
    fill_fits e =
        let b = held-call Size.best lib net before steps words room zero library' netlist' s h e in
        record { cells = b.pair.cells; statements = b.pair.statements; holds = b.holds; room = room }

    pub call-made : s ≡ (Ok tt) → (after : List ℕ) (x : ℕ)
        → ((cells : List Cell) (ss : List Statement) → Holds library' netlist' cells ss → Filled cells ss budget before after x)
        → BestPromised lib net budget before after (read x)
    call-made e after x f =
        made-call Size.best lib net before steps words room zero library' netlist' s h Own e after x
        (λ p holds.
        let made = f p.cells p.statements holds in (
          made.steps_are,
          made.words_stand,
          record {
            steps = x;
            says = refl;
            within = rw (made.steps_are, made.words_stand) (within-budget p.cells p.statements holds.sound budget (drop Size.best before));
          },
        ))
