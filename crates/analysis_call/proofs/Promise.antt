-- From where reading left a call, and its end, to its promise.
use Rattle.std.specs.Prelude.{Ok, Err}
use Rattle.common_laws.proofs.Base.{List, ◌++◌, ◌≡◌, refl, ◌∙◌, ℕ, ltb, length, drop}
use Rattle.sizes.specs.Sizes as Size
use Rattle.reading.specs.Choice.{pick}
use Rattle.reading.specs.Numbers as No
use Rattle.reading.specs.Refusal.{Read, refused, read, ◌>>=◌, ◌>>◌, weigh}
use Rattle.reading.proofs.Laws.{by_test}
use Rattle.writer.specs.Buffer.{text_within, left_by}
use Rattle.library_table.specs.Cells.{Cell}
use Rattle.netlist_table.specs.Netlist.{Statement}
use Rattle.demands.specs.declared.Summary.{Summary}
use Rattle.demands.specs.Answer.{lent_of}
use Rattle.demands.specs.Demands.{Promised}
use Rattle.demands.specs.Outcome.{Given, Lent, Accepted, entry, outcome, reading, conclude, answer, reports, left, left_from, left_later, filled, zeroed}
use Rattle.demands.proofs.Acceptance.{concluded, concludes}
use Rattle.demands.proofs.Given.{Checked}
use Rattle.demands.proofs.Promise.{keeps}
use Rattle.analysis_texts.specs.declared.Stop.TheVariants.{AtEntry, Later}
use Rattle.analysis_texts.specs.Progress.{Progress, PairStands, Reached}
use Rattle.analysis_texts.proofs.Reached.{stands_hold, zeroed-same}
use Rattle.analysis_call.specs.Finished.{made, Told, Finished}

module _ (g : Given) (m : Lent) (checked : Checked g) (library' netlist' : List ℕ)
    (same-library : length library' ≡ length m.library) (same-netlist : length netlist' ≡ length m.netlist) where
  left-made : (b : PairStands g m.library m.netlist library' netlist') (o : Read Accepted)
      → conclude b.pair.cells b.pair.statements (length m.report) ≡ o
      → made o (lent_of library' netlist' m.numbers m.report) ≡ left_later o m
  unfolding made left_later filled
  left-made b (refused number line) e = zeroed-same m library' netlist' same-library same-netlist
  left-made b (read a) e =
      let same = concludes b.pair.cells b.pair.statements (length m.report) a e in
      let x = concluded b.pair.cells b.pair.statements in
      rw (← same.0)
      (λ i. lent_of (b.cells_stand i) (b.statements_stand i) (x.analysis.numbers ++ drop Size.numbers m.numbers) (x.report ++ drop (length x.report) m.report))

  pub promised : (s : Progress) → Reached g (entry g m) m.library m.netlist library' netlist' s → (after : Lent) (said : Read Summary)
      → Finished s (lent_of library' netlist' m.numbers m.report) after said → Promised g m after said
  unfolding Reached Finished outcome answer left left_from left_later reading ◌>>◌ ◌>>=◌
  promised (Err (AtEntry r)) h after said f =
      keeps g checked m after said (rw h.0 f.0) (rw h.0 (f.1 ∙ (λ i. lent_of (h.1 i) (h.2 i) m.numbers m.report)))
  promised (Err (Later r)) h after said f =
      keeps g checked m after said (rw (h.0, h.1) f.0) (rw (h.0, h.1) (f.1 ∙ zeroed-same m library' netlist' same-library same-netlist))
  promised (Ok u) h after said f =
      let b = h.1 in
      let cells = b.pair.cells in
      let ss = b.pair.statements in
      let done = f cells ss (stands_hold g m.library m.netlist checked library' netlist' b) in
      keeps g checked m after said (rw (h.0, b.reads) done.answers) (rw (h.0, b.reads) (done.leaves ∙ left-made b _ refl))

-- A call whose tables are its own: its answer, and the report buffer afterwards.
module _ (g : Given) (m : Lent) (checked : Checked g) (library' netlist' numbers' report' : List ℕ) (said : Read Summary) where
  concluded-report : (cells : List Cell) (ss : List Statement) (o : Read Accepted) → conclude cells ss (length m.report) ≡ o
      → left_by (text_within No.report_long (length m.report) (reports cells ss)) m.report ≡ (left_later o m).report
  unfolding conclude weigh ◌>>◌ text_within left_by left_later filled zeroed pick
  concluded-report cells ss o e =
      by_test (ltb (length m.report) (length (reports cells ss)))
      (λ t. rw (← e, t))
      (λ t. rw (← e, t))

  pub told-promised : (s : Progress) → Reached g (entry g m) m.library m.netlist library' netlist' s
      → Told s library' netlist' m.numbers m.report numbers' report' said
      → (said ≡ answer (outcome g m)) × (report' ≡ (left g m).report)
  unfolding Reached Told outcome answer left left_from left_later zeroed reading ◌>>◌ ◌>>=◌
  told-promised (Err (AtEntry r)) h t = rw h.0 t
  told-promised (Err (Later r)) h t = rw (h.0, h.1) t
  told-promised (Ok u) h t =
      let b = h.1 in
      let cells = b.pair.cells in
      let ss = b.pair.statements in
      let done = t cells ss (stands_hold g m.library m.netlist checked library' netlist' b) in
      rw (h.0, b.reads) (done.answers, done.report ∙ concluded-report cells ss _ refl)
