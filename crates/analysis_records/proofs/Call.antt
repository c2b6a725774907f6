-- The call over records: what the walk and what comes behind it leave of the reading, and the promise.
use Rattle.std.specs.Prelude.{Result, Ok, Err}
use Rattle.common_laws.proofs.Base.{Bool, or-false, ◌&&◌, List, [], ◌∷◌, ◌++◌, ◌≡◌, refl, sym, ap, subst, ◌∙◌, ℕ, ◌+◌, ◌≤◌, arith, ltb, length, drop}
use Rattle.sizes.specs.Sizes as Size
use Rattle.table.specs.Blocks.{cleared}
use Rattle.reading.specs.Choice.{pick}
use Rattle.reading.specs.Numbers as No
use Rattle.reading.specs.Refusal.{Read, read, weigh}
use Rattle.reading.specs.declared.Refusal.{Refusal}
use Rattle.reading.proofs.Bounds.{Within, text_number, within_bind, within-then, within-weigh}
use Rattle.reading.proofs.Laws.{bind_read}
use Rattle.library_table.specs.Cells.{Cell}
use Rattle.library_table.specs.Library.{library}
use Rattle.library_table.specs.Layout.{library_words}
use Rattle.library_table.specs.Sound.{Sound}
use Rattle.library_table.proofs.Laws.{sound-fits}
use Rattle.netlist_table.specs.declared.Rules.TheVariants.{New}
use Rattle.netlist_table.specs.Layout.{netlist_words}
use Rattle.netlist_table.specs.Netlist.{Statement, declaring, undeclared_lines, some_line, declared}
use Rattle.netlist_table.proofs.Bounds.{admitted-within}
use Rattle.netlist_table.proofs.OpenLines.{declared-read}
use Rattle.netlist_table.proofs.Laws.{admitted-sound}
use Rattle.netlist_table.proofs.Soundness.{sound_none}
use Rattle.calculation.specs.Stored.{Ready}
use Rattle.report_text.specs.Report.{longest_report}
use Rattle.demands.specs.declared.Summary.{Summary}
use Rattle.demands.specs.Answer.{lent_of}
use Rattle.demands.specs.Demands.{PairRead, longest}
use Rattle.demands.specs.Outcome.{Given, Lent, entry, entry_by, table_short, text_long, reports}
use Rattle.demands.proofs.Given.{Checked}
use Rattle.demands.proofs.Room.{reports-short, pair-sound}
use Rattle.demands.proofs.EntryChecks.{entered}
use Rattle.analysis_texts.specs.declared.Stop.TheVariants.{Later}
use Rattle.analysis_texts.specs.Progress.{Progress, progress_of, Begun, Reached}
use Rattle.analysis_texts.proofs.Reached.{NetlistRead, unrefused-entry, ready}
use Rattle.analysis_call.specs.Finished.{Finished}
use Rattle.analysis_call.proofs.Promise.{promised}
use Rattle.analysis_records.specs.declared.record.Record.{Record}
use Rattle.analysis_records.specs.Records.{record_forms, record_statements, from_records}
use Rattle.analysis_records.specs.Walk.{declared_by, Walked}
use Rattle.analysis_records.specs.Outcome.{given_records, RecordsPromised}
use Rattle.analysis_records.specs.Steps.{later}
use Rattle.analysis_records.proofs.Laws.{records_unranged, walked_end, refused_end, declared-end}
use Rattle.netlist_table.proofs.Admission.{cleared-empty}

module _ (text : List ℕ) (recs : List Record) where
  abbrev pub given : Given
  given = given_records text recs

  -- What is read of records is sound, and no refusal has a number of the entry or the report.
  within : (cells : List Cell) → Within text_number (1 + length (record_forms recs)) (from_records recs cells)
  unfolding from_records record_statements declared
  within cells =
      let n = 1 + length (record_forms recs) in
      within_bind text_number n (record_statements recs cells) (declared New)
      (admitted-within n 1 cells [] (record_forms recs) (omega arith))
      (λ ss.
      let asked : List (ℕ × Bool) = (No.undeclared, declaring New && some_line (undeclared_lines ss)) ∷ [] in
      within-then text_number n (weigh 0 asked) (read ss) (within-weigh text_number n 0 asked (omega arith) refl) tt)

  pub checked : Checked given
  unfolding given_records from_records record_statements
  checked =
      record {
        sound =
            λ cells ss e.
            bind_read (record_statements recs cells) (declared New) ss
            (λ rs read_all held.
            admitted-sound cells 1 [] (record_forms recs) ss (sound_none cells) (read_all ∙ ap read (declared-read New rs ss held)))
            e;
        numbered = λ cells number line e. (subst (Within text_number _) e (within cells)).0;
      }

  one-report : (pair : PairRead given) → length (reports pair.cells pair.statements) ≤ longest_report
  unfolding given_records longest pick
  one-report pair =
      rw (records_unranged recs pair.cells pair.statements pair.statements_read)
      at (reports-short pair.cells pair.statements (pair-sound given checked pair))

  -- The entry is weighed by lengths: there is no second text.
  records_entry : (lib ts num rep : List ℕ) → entry_by (length text) 0 (length lib) (length ts) (length num) ≡ entry given (lent_of lib ts num rep)
  unfolding entry_by entry table_short given_records text_long
  records_entry lib ts num rep =
      ap (λ (t : Bool). weigh 0 ((No.table_short, table_short (lent_of lib ts num rep)) ∷ (No.text_long, t) ∷ [])) (or-false (ltb Size.text_bytes (length text)))

  -- ---- behind the entry and the library

  module _ (lib ts : List ℕ) (n : ℕ) (s : Progress) (lib' : List ℕ) (b : Begun text 0 lib (length ts) n s lib')
      {u : Unit {0}} (o : s ≡ Ok u) (ts' : List ℕ) (clears : ts' ≡ cleared Size.netlist ts)
      (w : Result (Unit {0}) Refusal) (us : List ℕ) (walked : Walked lib' ts' recs w us) where
    -- What the walk comes to, from a table that is cleared.
    ended : (cells : List Cell) → Sound cells → lib' ≡ library_words cells ++ drop Size.library lib
        → (later w ≡ progress_of (record_statements recs cells))
        × ((ss : List Statement) → record_statements recs cells ≡ read ss → us ≡ netlist_words ss ++ drop Size.netlist ts)
    ended cells sound stands =
        let lengths = entered _ _ _ _ _ (unrefused-entry _ (library text) (sym b.answers ∙ o)) in
        walked_end lib' ts' recs us cells (drop Size.netlist ts) w walked
        (record { past = drop Size.library lib; words = stands; fits = sound-fits cells sound })
        (clears ∙ cleared-empty ts lengths.netlist-long)

    pub refused-records : (x : Refusal) → w ≡ Err x → NetlistRead given lib ts lib' us (Err (Later x))
    unfolding given_records
    refused-records x e =
        record {
          reads = λ cells sound stands.
              let h = ended cells sound stands in
              refused_end recs cells (drop Size.netlist ts) us x (rw e at h.0);
        }

    pub declared-records : {v : Unit {0}} → w ≡ Ok v → NetlistRead given lib ts lib' us (later (declared_by us))
    unfolding given_records
    declared-records e =
        record {
          reads = λ cells sound stands.
              let h = ended cells sound stands in
              declared-end recs cells (drop Size.netlist ts) us (rw e at h.0) h.1;
        }

  -- ---- the end of the call

  module _ (lib ts num rep lib' ts' : List ℕ) (s : Progress)
      (r : Reached given (entry_by (length text) 0 (length lib) (length ts) (length num)) lib ts lib' ts' s) where
    pub ready-then : s ≡ Ok tt → Ready lib' ts' num
    ready-then = ready given lib ts checked lib' ts' _ num s r (λ e. (entered _ _ _ _ _ e).numbers-long)

    pub promised-then : length lib' ≡ length lib → length ts' ≡ length ts → (after : Lent) (said : Read Summary)
        → Finished s (lent_of lib' ts' num rep) after said → RecordsPromised text recs (lent_of lib ts num rep) after said
    promised-then el et after said f =
        record {
          promised =
              promised given (lent_of lib ts num rep) checked lib' ts' el et s
              (subst (λ (e : Read (Unit {0})). Reached given e lib ts lib' ts' s) (records_entry lib ts num rep) r) after said f;
          one_report = one-report;
        }
