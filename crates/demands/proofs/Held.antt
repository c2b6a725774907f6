-- What an accepted call leaves in its tables: an accepted analysis of the cells and statements that were read.
use Rattle.common_laws.proofs.Base.{List, ◌++◌, ◌≡◌, refl, sym, ap, ◌∙◌, ℕ, length, drop}
use Rattle.sizes.specs.Sizes as Size
use Rattle.reading.specs.Refusal.{Read, refused, read}
use Rattle.reading.proofs.Laws.{refused-read, then-read}
use Rattle.library_table.specs.Cells.{Cell}
use Rattle.library_table.specs.Layout.{library_words}
use Rattle.netlist_table.specs.Netlist.{Statement}
use Rattle.netlist_table.specs.Layout.{netlist_words}
use Rattle.calculation.specs.Calculation.{analysed}
use Rattle.calculation.specs.Stored.{HoldsAnalysis}
use Rattle.demands.specs.declared.Summary.{Summary}
use Rattle.demands.specs.Outcome.{Given, Lent, Accepted, entry, outcome, reading, answer, left, left_from, left_later, filled}
use Rattle.demands.specs.Demands.{PairRead, Promised}
use Rattle.demands.proofs.Acceptance.{Accepts, accepts}
use Rattle.demands.proofs.Given.{Checked}
use Rattle.demands.proofs.Room.{pair-sound}

answer-read : (o : Read Accepted) (s : Summary) → answer o ≡ read s → (a : Accepted) × (o ≡ read a)
unfolding answer
answer-read (refused n l) s e = refused-read e
answer-read (read a) s e = (a, refl)

module _ (g : Given) (checked : Checked g) (before after : Lent) (said : Read Summary) (p : Promised g before after said)
    (pair : PairRead g) (s : Summary) (e : said ≡ read s) where
  came : (a : Accepted) × (outcome g before ≡ read a)
  came = answer-read (outcome g before) s (sym p.answers ∙ e)

  left_is : after ≡ filled came.0 before
  unfolding outcome left left_from left_later
  left_is =
      p.leaves
      ∙ then-read (entry g before) (reading g (length before.report)) came.0 (λ u a r. rw (a, r) refl) came.1

  as_read : Accepts g (length before.report) came.0
  as_read = accepts g before came.0 came.1

  same_cells : came.0.cells ≡ pair.cells
  same_cells = let r : read came.0.cells ≡ read pair.cells = sym as_read.cells ∙ pair.cells_read in cc

  same-statements : came.0.statements ≡ pair.statements
  same-statements =
      let r : read came.0.statements ≡ read pair.statements =
      sym as_read.statements ∙ ap g.statements same_cells ∙ pair.statements_read in
      cc

  same_numbers : came.0.analysis.numbers ≡ (analysed pair.cells pair.statements).numbers
  same_numbers =
      ap (λ (a : Accepted). a.analysis.numbers) (sym as_read.made) ∙ (λ i. (analysed (same_cells i) (same-statements i)).numbers)

  pub accepted-held : HoldsAnalysis after.library after.netlist after.numbers pair.cells pair.statements
  unfolding filled
  accepted-held =
      record {
        holds =
            record {
              behind = drop Size.library before.library;
              past = drop Size.netlist before.netlist;
              cells_stand = ap (λ (x : Lent). x.library) left_is ∙ ap (λ (x : List Cell). library_words x ++ drop Size.library before.library) same_cells;
              statements_stand = ap (λ (x : Lent). x.netlist) left_is ∙ ap (λ (x : List Statement). netlist_words x ++ drop Size.netlist before.netlist) same-statements;
              sound = pair-sound g checked pair;
            };
        rest = drop Size.numbers before.numbers;
        stand = ap (λ (x : Lent). x.numbers) left_is ∙ ap (λ (x : List ℕ). x ++ drop Size.numbers before.numbers) same_numbers;
      }
