-- The end of a call, from what `conclude` and `clear_all` do.
use Rattle.std.specs.Prelude.{Result, Ok, Err, is_err}
use Rattle.common_laws.proofs.Base.{true, false, List, ◌++◌, ◌≡◌, refl, sym, ◌∙◌, ℕ, length, drop, replicate}
use Rattle.reading.specs.Numbers as No
use Rattle.reading.specs.Refusal.{Read, refused, read}
use Rattle.reading.specs.declared.Refusal.{Refusal}
use Rattle.reading.proofs.Laws.{refused-read}
use Rattle.reading.specs.Answer.{answer_read}
use Rattle.library_table.specs.Cells.{Cell}
use Rattle.netlist_table.specs.Netlist.{Statement}
use Rattle.writer.specs.Buffer.{left_by}
use Rattle.writer.proofs.Buffer.{text-fits}
use Rattle.calculation.specs.Stored.{Holds}
use Rattle.analysis_texts.specs.Progress.{Progress, refusal_of, left_at}
use Rattle.analysis_texts.specs.declared.Stop.{Stop}
use Rattle.analysis_texts.specs.declared.Stop.TheVariants.{AtEntry, Later}
use Rattle.demands.specs.declared.Summary.{Summary}
use Rattle.demands.specs.Answer.{lent_of}
use Rattle.demands.specs.Outcome.{Lent, Accepted, conclude, answer, reports, zeroed}
use Rattle.analysis_call.specs.Finished.{Concluded, made, Made, Told, Finished}
use Rattle.demands.proofs.Acceptance.{concludes}

-- ---- a call whose tables are its own

module _ (s : Progress) (library netlist numbers report : List ℕ) where
  pub told-entry : (r : Refusal) → s ≡ Err (AtEntry r) → (numbers' : List ℕ)
      → Told s library netlist numbers report numbers' report (answer_read (Err r))
  unfolding Told answer_read
  told-entry r e numbers' = rw e (refl, refl)

  pub told_later : (r : Refusal) → s ≡ Err (Later r) → (numbers' report' : List ℕ) → report' ≡ replicate (length report) 0
      → Told s library netlist numbers report numbers' report' (answer_read (Err r))
  unfolding Told answer_read
  told_later r e numbers' report' z = rw e (refl, z)

  pub told-made : {u : Unit {0}} → s ≡ Ok u → (numbers' report' : List ℕ) (said : Read Summary)
      → ((cells : List Cell) (ss : List Statement) → Holds library netlist cells ss → Concluded cells ss numbers report numbers' report' said)
      → Told s library netlist numbers report numbers' report' said
  unfolding Told
  told-made e numbers' report' said c = rw e c

-- ---- a call that is lent its tables

module _ (s : Progress) (m : Lent) where
  finished_entry : (r : Refusal) → s ≡ Err (AtEntry r) → Finished s m m (answer_read (Err r))
  unfolding Finished answer_read
  finished_entry r e = rw e (refl, refl)

  finished_later : (r : Refusal) → s ≡ Err (Later r) → (after : Lent) → after ≡ zeroed m → Finished s m after (answer_read (Err r))
  unfolding Finished answer_read
  finished_later r e after z = rw e (refl, z)

  pub finished_stopped : (stop : Stop) → s ≡ Err stop → (after : Lent) → after ≡ left_at stop m (zeroed m)
      → (r : Refusal) → r ≡ refusal_of stop → Finished s m after (answer_read (Err r))
  unfolding left_at
  finished_stopped (AtEntry x) e after left r told = rw (left, told) (finished_entry x e)
  finished_stopped (Later x) e after left r told = rw told (finished_later x e after left)

module _ (m : Lent) (na ra : List ℕ) where
  made_from : (cells : List Cell) (ss : List Statement) (x : Summary) → Concluded cells ss m.numbers m.report na ra (read x)
      → (o : Read Accepted) → conclude cells ss (length m.report) ≡ o → Made o m (lent_of m.library m.netlist na ra) (read x)
  unfolding answer made left_by
  made_from cells ss x c (refused number line) q = refused-read (sym (rw q at c.answers))
  made_from cells ss x c (read b) q =
      let same = concludes cells ss (length m.report) b q in
      let within = text-fits No.report_long (length m.report) (reports cells ss) same.1 in
      let report : ra ≡ reports cells ss ++ drop (length (reports cells ss)) m.report = rw within at c.report in
      record {
        answers = rw q at c.answers;
        leaves = rw (← same.0) (λ i. lent_of m.library m.netlist (c.numbers i) (report i));
      }

  cleared_from : (o : Read Accepted) (number line : ℕ) (after : Lent) → refused number line ≡ answer o → after ≡ zeroed m
      → Made o m after (refused number line)
  unfolding answer made
  cleared_from (refused n l) number line after q z = record { answers = q; leaves = z }
  cleared_from (read b) number line after q z = refused-read q

  -- What `conclude` says of its answer.
  abbrev pub Says : Result Summary Refusal → Type 0
  Says a = (cells : List Cell) (ss : List Statement) → Holds m.library m.netlist cells ss → Concluded cells ss m.numbers m.report na ra (answer_read a)

  -- An answer that is accepted.
  pub finished_made : (s : Progress) → {u : Unit {0}} → s ≡ Ok u → (a : Result Summary Refusal) → is_err a ≡ false → Says a
      → Finished s m (lent_of m.library m.netlist na ra) (answer_read a)
  unfolding Finished answer_read
  finished_made s o (Ok x) e says = rw o (λ cells ss h. made_from cells ss x (says cells ss h) _ refl)
  finished_made s o (Err x) e says = absurd cc

  -- One that is refused, behind which all is cleared.
  pub finished_long : (s : Progress) → {u : Unit {0}} → s ≡ Ok u → (a : Result Summary Refusal) → is_err a ≡ true → Says a
      → (after : Lent) → after ≡ zeroed (lent_of m.library m.netlist na ra) → length na ≡ length m.numbers → length ra ≡ length m.report
      → Finished s m after (answer_read a)
  unfolding Finished answer_read zeroed
  finished_long s o (Err x) e says after z en er =
      rw o (λ cells ss h.
      cleared_from _ x.number x.line after (says cells ss h).answers
      (z ∙ (λ i. lent_of (replicate (length m.library) 0) (replicate (length m.netlist) 0) (replicate (en i) 0) (replicate (er i) 0))))
  finished_long s o (Ok x) e says after z en er = absurd cc
