-- What asks and commits leave of a standing analysis is a standing analysis, and no number is higher. Document 02, K11.
use Rattle.common_laws.proofs.Base.{false, ◌||◌, List, [], ◌∷◌, ◌++◌, map, flat_map, append-nil, ◌≡◌, refl, ◌∙◌, ap, ℕ, ◌≤◌, le_refl, le_trans, arith, length, length-append}
use Rattle.common_laws.proofs.Lists.{flatMap_append}
use Rattle.sizes.specs.Sizes as Size
use Rattle.reading.specs.Choice.{pick}
use Rattle.reading.specs.Refusal.{Read, read}
use Rattle.reading.proofs.Laws.{by_test, or_left}
use Rattle.plans.specs.Sweep.{at}
use Rattle.library_table.specs.Cells.{Cell}
use Rattle.netlist_table.specs.Netlist.{Statement, mark, output, lines_marked, marked_lines, gates_of}
use Rattle.netlist_table.specs.Sound as N
use Rattle.netlist_table.proofs.Counts.{outputs-few}
use Rattle.netlist_table.proofs.Pad.{pad-gates}
use Rattle.calculation.specs.Acceptance.{BothSound}
use Rattle.calculation.specs.Prices.{Pricing, prices_of}
use Rattle.calculation.specs.Calculation.{Analysed, analysed}
use Rattle.calculation.specs.Runs.{last_runs, observed_anew}
use Rattle.calculation.specs.Settled.{FewSweeps}
use Rattle.calculation.specs.Pads.{padded, State, statements_of, fresh, unpaddable, stale, placeable, placed, Operation, ask, commit, step, steps}
use Rattle.calculation.specs.StandingAnalysis.{Standing, OnePadMore, PadPlaced, NoneRaised}
use Rattle.calculation.proofs.Prices.{own-figures}
use Rattle.calculation.proofs.Bounds.{few-sweeps}
use Rattle.calculation.proofs.Pads.{anew, both-sound, lowers, padded-more, placeable-more, said, free}

-- ---- the pads are the last outputs

marks-outputs : (ls : List ℕ) → marked_lines output (map (mark output) ls) ≡ ls
unfolding marked_lines lines_marked pick flat_map
marks-outputs [] = refl
marks-outputs (l ∷ ls) = ap (λ (t : List ℕ). l ∷ t) (marks-outputs ls)

pub padded-outputs : (ss : List Statement) (ls : List ℕ) → marked_lines output (padded ss ls) ≡ marked_lines output ss ++ ls
unfolding padded marked_lines
padded-outputs ss ls =
    flatMap_append (lines_marked output) ss (map (mark output) ls)
    ∙ ap (λ (t : List ℕ). marked_lines output ss ++ t) (marks-outputs ls)

-- No more pads than lines.
pub pads-few : (cells : List Cell) (ss : List Statement) (ls : List ℕ) → N.Sound cells (padded ss ls) → length ls ≤ Size.lines
pads-few cells ss ls so =
    omega (arith, outputs-few (padded ss ls) so.lines so.marked, ap length (padded-outputs ss ls), length-append (marked_lines output ss) ls)

-- ---- one pad more, on numbers that stand

module _ (price : Pricing) (cells : List Cell) (ss : List Statement) where
  -- CO and SO go by the numbers alone,
  anew-numbers : (a b : Analysed) → a.numbers ≡ b.numbers → ((observed_anew price cells ss a).numbers ≡ (observed_anew price cells ss b).numbers) × (((observed_anew price cells ss a).counts.co ≡ (observed_anew price cells ss b).counts.co) × ((observed_anew price cells ss a).counts.so ≡ (observed_anew price cells ss b).counts.so))
  unfolding observed_anew last_runs
  anew-numbers a b e = rw e (refl, (refl, refl))

  -- and the counts of CC and SC stay.
  anew-kept : (a : Analysed) → ((observed_anew price cells ss a).counts.cc ≡ a.counts.cc) × ((observed_anew price cells ss a).counts.sc ≡ a.counts.sc)
  unfolding observed_anew last_runs
  anew-kept a = (refl, refl)

module _ (given : List Cell → Read (List Statement)) where
  pub fresh-standing : (cells : List Cell) (ss : List Statement) → BothSound cells ss → given cells ≡ read ss → Standing given (fresh cells ss)
  unfolding fresh padded
  fresh-standing cells ss both e =
      record {
        was_read = e;
        pads = unfold placeable in refl;
        sound = rw append-nil both;
        numbers = rw append-nil;
        few = rw append-nil (few-sweeps cells ss both (prices_of ss) (own-figures both));
      }

  module _ (s : State) (h : Standing given s) where
    abbrev ss : List Statement
    ss = statements_of s

    module _ (l : ℕ) (good : unpaddable s l ≡ false) where
      abbrev ts : List Statement
      ts = ss ++ (mark output l ∷ [])

      new : BothSound s.cells ts
      new = both-sound s.cells ss l h.sound (said s l good) (free s l good)

      abbrev after : Analysed
      after = observed_anew (prices_of ts) s.cells ts s.analysis

      -- The numbers, and the counts of CO and SO, are those of the new analysis; those of CC and SC stay.
      same_numbers : after.numbers ≡ (analysed s.cells ts).numbers
      same_numbers =
          (anew-numbers (prices_of ts) s.cells ts s.analysis (analysed s.cells ss) h.numbers).0
          ∙ ap (λ (a : Analysed). a.numbers) (anew s.cells ss l h.sound (said s l good) (free s l good))

      same-co : after.counts.co ≡ (analysed s.cells ts).counts.co
      same-co =
          (anew-numbers (prices_of ts) s.cells ts s.analysis (analysed s.cells ss) h.numbers).1.0
          ∙ ap (λ (a : Analysed). a.counts.co) (anew s.cells ss l h.sound (said s l good) (free s l good))

      same-so : after.counts.so ≡ (analysed s.cells ts).counts.so
      same-so =
          (anew-numbers (prices_of ts) s.cells ts s.analysis (analysed s.cells ss) h.numbers).1.1
          ∙ ap (λ (a : Analysed). a.counts.so) (anew s.cells ss l h.sound (said s l good) (free s l good))

      few-still : FewSweeps (length (gates_of ts)) after.counts
      few-still =
          let f : FewSweeps (length (gates_of ts)) (analysed s.cells ts).counts = few-sweeps s.cells ts new (prices_of ts) (own-figures new) in
          let k = anew-kept (prices_of ts) s.cells ts s.analysis in
          record {
            cc = rw (k.0, pad-gates ss l) h.few.cc;
            sc = rw (k.1, pad-gates ss l) h.few.sc;
            co = rw same-co f.co;
            so = rw same-so f.so;
          }

      pub placed-standing : Standing given (placed s l)
      unfolding placed
      placed-standing =
          record {
            was_read = h.was_read;
            pads = placeable-more s.statements s.pads l h.pads (unfold unpaddable in good);
            sound = rw (padded-more s.statements s.pads l) new;
            numbers = rw (padded-more s.statements s.pads l) same_numbers;
            few = rw (padded-more s.statements s.pads l) few-still;
          }

      more-pads : OnePadMore s l
      unfolding placed
      more-pads =
          let k = anew-kept (prices_of ts) s.cells ts s.analysis in
          let e = padded-more s.statements s.pads l in
          record {
            numbers = rw e same_numbers;
            co = rw e same-co;
            so = rw e same-so;
            cc = rw e k.0;
            sc = rw e k.1;
            lower = λ n. rw (e, same_numbers, h.numbers) (lowers s.cells ss l h.sound (said s l good) (free s l good) n);
          }

    pub step-standing : (o : Operation) → Standing given (step s o)
    unfolding step pick
    step-standing (ask l) = h
    step-standing (commit l n) =
        by_test (unpaddable s l || stale s n) (λ t. rw t h) (λ t. rw t (placed-standing l (or_left (unpaddable s l) (stale s n) t)))

  pub one-pad-more : PadPlaced given
  one-pad-more s h l good = more-pads s h l good

  step-lowers : (s : State) → Standing given s → (o : Operation) (n : ℕ) → at (step s o).analysis.numbers n ≤ at s.analysis.numbers n
  unfolding step pick
  step-lowers s h (ask l) n = le_refl (at s.analysis.numbers n)
  step-lowers s h (commit l k) n =
      by_test (unpaddable s l || stale s k)
      (λ t. rw t (le_refl (at s.analysis.numbers n)))
      (λ t. rw t ((more-pads s h l (or_left (unpaddable s l) (stale s k) t)).lower n))

  pub none_raised_lem : NoneRaised given
  unfolding steps
  none_raised_lem s h [] n = le_refl (at s.analysis.numbers n)
  none_raised_lem s h (o ∷ os) n = le_trans (none_raised_lem (step s o) (step-standing s h o) os n) (step-lowers s h o n)
