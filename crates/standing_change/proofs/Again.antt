-- The netlist read again, and its pads marked.
use Rattle.common_laws.proofs.Base.{List, ◌≡◌, refl, sym, subst, ℕ, drop}
use Rattle.sizes.specs.Sizes as Size
use Rattle.reading.specs.Refusal.{Read, read}
use Rattle.reading.specs.Answer.{answer_read}
use Rattle.reading.specs.declared.Refusal.{Refusal}
use Rattle.std.specs.Prelude.{Result, Ok, Err}
use Rattle.reading.proofs.Laws.{done_read_lem, done_refused}
use Rattle.library_table.specs.Cells.{Cell}
use Rattle.library_table.specs.Layout.{CellsTold}
use Rattle.library_table.proofs.Laws.{sound-fits}
use Rattle.library_table.proofs.Names.{holds-told}
use Rattle.netlist_table.specs.declared.Rules.TheVariants.{New}
use Rattle.netlist_table.specs.Netlist.{Statement, netlist}
use Rattle.netlist_table.proofs.Laws.{netlist-sound}
use Rattle.netlist_text.specs.Reader.{Fills}
use Rattle.calculation.specs.Stored.{Holds}
use Rattle.library_growth.specs.Held.{HoldsCells}
use Rattle.standing_table.specs.Parts.{PadsJudged}
use Rattle.standing_change.specs.RunParts.{Again, ReadAgain}

module _ (net library before table : List ℕ) (v : Result (Unit {0}) Refusal) (after : List ℕ)
    (ensures : (cells : List Cell) → CellsTold library cells → Fills (netlist New cells net) before v after) where
  lines-read : (cells : List Cell) → HoldsCells library cells → Fills (netlist New cells net) before v after
  lines-read cells h = ensures cells (holds-told library cells (record { past = h.past; words = h.stand; fits = sound-fits cells h.sound }))

  pub again_stopped : (r : Refusal) → v ≡ Err r → (cells : List Cell) → HoldsCells library cells → ReadAgain net library cells table after (answer_read v)
  unfolding answer_read
  again_stopped r e cells h =
      let n = done_refused (netlist New cells net) r.number r.line (rw e at (lines-read cells h).answers) in
      rw (n, e) refl

  pub again_marked : v ≡ (Ok tt) → (said : Read (Unit {0})) (marked : List ℕ)
      → ((cells : List Cell) (ss : List Statement) → Holds library after cells ss → PadsJudged library cells ss table marked said)
      → (cells : List Cell) → HoldsCells library cells → ReadAgain net library cells table marked said
  again_marked e said marked judged cells h =
      done_read_lem (netlist New cells net) (unfold answer_read in rw e at (lines-read cells h).answers)
      (λ ss n. subst (λ (x : Read (List Statement)). Again x library cells table marked said) (sym n) (judged cells ss (holds ss n)))
    where
      holds : (ss : List Statement) → netlist New cells net ≡ read ss → Holds library after cells ss
      holds ss n =
          record {
            behind = h.past;
            past = drop Size.netlist before;
            cells_stand = h.stand;
            statements_stand = (lines-read cells h).filled ss n;
            sound = record { library = h.sound; netlist = netlist-sound cells New net ss n };
          }
