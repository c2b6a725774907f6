-- What `begin` does: the entry, and the library text behind it.
use Rattle.std.specs.Prelude.{Result, Ok, Err, MatchResult, IsErrAnd}
use Rattle.std.proofs.lemmas.Result.{err_from_is_err_and}
use Rattle.common_laws.proofs.Base.{List, ◌++◌, ◌≡◌, sym, ap, subst, ◌∙◌, ℕ, length, drop}
use Rattle.sizes.specs.Sizes as Size
use Rattle.reading.specs.Refusal.{Read, refused, read}
use Rattle.reading.specs.Answer.{answer_read, done_read}
use Rattle.reading.specs.declared.Refusal.{Refusal}
use Rattle.reading.proofs.Laws.{done_read_lem, done_refused}
use Rattle.library_table.specs.Cells.{Cell}
use Rattle.library_table.specs.Library.{library}
use Rattle.library_table.specs.Layout.{library_words}
use Rattle.demands.specs.Outcome.{entry_by}
use Rattle.analysis_texts.specs.declared.Stop.{Stop}
use Rattle.analysis_texts.specs.declared.Stop.TheVariants.{AtEntry, Later}
use Rattle.analysis_texts.specs.Progress.{Progress, progress_of, progress_from, LibraryStands, Begun}

module _ (text : List ℕ) (net : ℕ) (before : List ℕ) (netlist numbers : ℕ) where
  abbrev Entry : Read (Unit {0})
  Entry = entry_by (length text) net (length before) netlist numbers

  -- What the entry answers, as `map_err` hands it on.
  abbrev Mapped : Result (Unit {0}) Refusal → Progress → Type 0
  Mapped v m = MatchResult v (λ u. m ≡ Ok u) (λ r. IsErrAnd m (λ s. s ≡ AtEntry r))

  pub begun-entry : (v : Result (Unit {0}) Refusal) (m : Progress) → answer_read v ≡ Entry → Mapped v m
      → (stop : Stop) → m ≡ Err stop → Begun text net before netlist numbers (Err stop) before
  unfolding answer_read progress_from LibraryStands
  begun-entry (Ok u) m enters maps stop e = absurd cc
  begun-entry (Err r) m enters maps stop e =
      let p = err_from_is_err_and m maps in
      let s : Err (AtEntry r) ≡ Err stop = ap Err (sym p.2) ∙ sym p.1 ∙ e in
      subst (λ (s : Progress). Begun text net before netlist numbers s before) s (record { answers = rw (← enters); leaves = rw (← enters) })

  pub passes : (v : Result (Unit {0}) Refusal) (m : Progress) → answer_read v ≡ Entry → Mapped v m
      → {u : Unit {0}} → m ≡ Ok u → Entry ≡ read tt
  unfolding answer_read
  passes (Ok u) m enters maps e = sym enters
  passes (Err r) m enters maps e =
      let p = err_from_is_err_and m maps in
      let q : m ≡ Err p.0 = p.1 in
      absurd cc

  module _ (passed : Entry ≡ read tt) (w : Result (Unit {0}) Refusal) (after : List ℕ) (reads : answer_read w ≡ done_read (library text))
      (filled : (cells : List Cell) → library text ≡ read cells → after ≡ library_words cells ++ drop Size.library before) where
    pub begun_later : (r : Refusal) → w ≡ Err r → Begun text net before netlist numbers (Err (Later r)) after
    unfolding answer_read progress_from progress_of LibraryStands
    begun_later r q =
        let e : library text ≡ refused r.number r.line = done_refused (library text) r.number r.line (rw q at reads) in
        record { answers = rw (passed, e); leaves = rw (passed, e) tt }

    pub begun-read : {u : Unit {0}} → w ≡ Ok u → Begun text net before netlist numbers (Ok tt) after
    unfolding answer_read progress_from progress_of LibraryStands
    begun-read q =
        done_read_lem (library text) (rw q at reads)
        (λ cells e. record { answers = rw (passed, e); leaves = rw (passed, e) (filled cells e) })
