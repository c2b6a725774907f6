-- What the proofs of this crate and of its callers cite of the definitions.
use Rattle.std.specs.Prelude.{Result, Ok, Err}
use Rattle.std.proofs.lemmas.List.{take-append-drop}
use Rattle.common_laws.proofs.Base.{true, false, List, [], ◌∷◌, ◌++◌, append-nil, append_assoc, flat_map, none, ◌≡◌, refl, sym, ap, subst, ◌∙◌, ℕ, suc, ◌+◌, ◌<◌, add-one, arith, eqb, length, get_or, take, drop, take-suc, length-take-le}
use Rattle.common_laws.proofs.Base.{length-append, eqb-true, eqb-false}
use Rattle.reading.specs.Choice.{pick}
use Rattle.reading.specs.declared.Refusal.{Refusal}
use Rattle.reading.specs.Refusal.{Read, refused, read, ◌>>=◌, ◌>>◌, weigh}
use Rattle.reading.specs.Each.{Each}
use Rattle.reading.proofs.Laws.{by_test, bind_read, refused-read}
use Rattle.library_table.specs.Cells.{Cell}
use Rattle.library_table.specs.Layout.{LibraryHolds}
use Rattle.netlist_table.specs.declared.Rules.TheVariants.{New}
use Rattle.netlist_table.specs.Netlist.{Mark, input, output, opened, Statement, mark, ranges_in, ranges_of, some_range, admitted}
use Rattle.netlist_table.specs.Netlist.{undeclared_lines, some_line, declared}
use Rattle.netlist_table.specs.Layout.{netlist_words, NetlistHolds}
use Rattle.netlist_table.specs.Admission.{refusal_of, extended, words_after, some_undeclared}
use Rattle.netlist_table.proofs.Admission.{admitted-more, admitted-refused}
use Rattle.netlist_table.specs.Sound.{Sound}
use Rattle.netlist_table.proofs.Laws.{admitted-sound}
use Rattle.netlist_table.proofs.OpenLines.{declared-read, some_same}
use Rattle.netlist_table.proofs.Soundness.{sound_none, sound-next}
use Rattle.netlist_table.proofs.Unranged.{Unranged, none-unranged, some-unranged, pick_unranged, admitted-unranged, no_range}
use Rattle.analysis_texts.specs.declared.Stop.TheVariants.{Later}
use Rattle.analysis_texts.specs.Progress.{Progress, progress_of}
use Rattle.analysis_records.specs.declared.record.Record.{Record}
use Rattle.analysis_records.specs.Records.{mark_form, gate_form, record_form, record_forms, record_statements, from_records}
use Rattle.analysis_records.specs.Steps.{answer_after, RecordChecked, Checked, later}
use Rattle.analysis_records.specs.Walk.{declared_by, Admitted, WalkReached, Walked}

-- ---- no record is a range

mark-unranged : (m : Mark) (rec : Record) → Unranged (mark_form m rec)
unfolding mark_form ranges_in
mark-unranged m rec = pick_unranged _ _ none (some-unranged (mark m rec.line) refl) none-unranged

gate-unranged : (rec : Record) → Unranged (gate_form rec)
unfolding gate_form ranges_in
gate-unranged rec = pick_unranged _ _ none (some-unranged _ refl) none-unranged

record-unranged : (rec : Record) → Unranged (record_form rec)
unfolding record_form
record-unranged rec =
    pick_unranged (eqb rec.kind 0) _ _ (mark-unranged input rec)
    (pick_unranged (eqb rec.kind 1) _ _ (mark-unranged output rec)
    (pick_unranged (eqb rec.kind 2) _ _ (gate-unranged rec)
    (pick_unranged (eqb rec.kind 3) _ none (mark-unranged opened rec) none-unranged)))

all-unranged : (recs : List Record) → Each Unranged (record_forms recs)
unfolding Each record_forms
all-unranged [] = tt
all-unranged (rec ∷ recs) = (record-unranged rec, all-unranged recs)

pub records_unranged : (recs : List Record) (cells : List Cell) (ss : List Statement) → from_records recs cells ≡ read ss → some_range ss ≡ false
unfolding from_records record_statements
records_unranged recs cells ss e =
    bind_read (record_statements recs cells) (declared New) ss
    (λ rs read_all held.
    no_range ss
    (admitted-unranged 1 cells [] (record_forms recs) ss (all-unranged recs) (unfold ranges_of flat_map in refl)
    (read_all ∙ ap read (declared-read New rs ss held))))
    e

-- ---- the walk

-- Nothing is done yet.
pub walked_start : (lib ts : List ℕ) → Walked lib ts [] (Ok tt) ts
unfolding WalkReached record_statements
walked_start lib ts = record {
  reaches = λ cells held start. record { statements = []; rest = λ more. refl; sound = sound_none cells; held = start.words };
}

module _ (cells : List Cell) (tail : List ℕ) (done : List Record) (rec : Record) where
  after_one_lem : (more : List Record) → record_statements ((done ++ (rec ∷ [])) ++ more) cells ≡ record_statements (done ++ (rec ∷ more)) cells
  after_one_lem more = ap (λ (rs : List Record). record_statements rs cells) (append_assoc done (rec ∷ []) more)

  next : suc (length done + 1) ≡ length (done ++ (rec ∷ [])) + 1
  next = rw (length-append done (rec ∷ [])) (omega arith)

  -- A record is checked after those that were admitted.
  reached-more : (r : Result (Unit {0}) Refusal) (us : List ℕ) {ts : List ℕ} (a : Admitted cells tail done ts)
      → RecordChecked cells a.statements tail (length done + 1) rec r us → WalkReached cells tail (done ++ (rec ∷ [])) r us
  unfolding RecordChecked answer_after words_after pick WalkReached record_forms
  reached-more r us a h =
      let number = refusal_of cells a.statements (record_form rec) in
      by_test (eqb number 0)
      (λ t.
      let same : r ≡ Ok tt = rw t at h.0 in
      rw same (record {
        statements = extended a.statements (record_form rec);
        rest = λ more.
            after_one_lem more
            ∙ a.rest (rec ∷ more)
            ∙ admitted-more (length done + 1) cells a.statements (record_form rec) (record_forms more) (eqb-true number 0 t)
            ∙ ap (λ (k : ℕ). admitted k cells (extended a.statements (record_form rec)) (record_forms more)) next;
        sound = sound-next cells a.statements (record_form rec) a.sound (eqb-true number 0 t);
        held = rw t at h.1;
      }))
      (λ t.
      let same : r ≡ Err (record { number = number; line = length done + 1 }) = rw t at h.0 in
      rw same
      (λ more.
      after_one_lem more
      ∙ a.rest (rec ∷ more)
      ∙ admitted-refused (length done + 1) cells a.statements (record_form rec) (record_forms more) (eqb-false number 0 t)))

-- One step more.
walked_more : (lib ts₀ : List ℕ) (done : List Record) (rec : Record) (r : Result (Unit {0}) Refusal) (ts us : List ℕ)
    → Checked lib (length done + 1) rec ts r us → Walked lib ts₀ done (Ok tt) ts → Walked lib ts₀ (done ++ (rec ∷ [])) r us
unfolding WalkReached
walked_more lib ts₀ done rec r ts us h w =
    record {
      reaches = λ cells held start.
          let a = w.reaches cells held start in
          reached-more cells start.past done rec r us a
          (h.checks cells held a.statements a.sound (record { past = start.past; words = a.held }));
    }

-- A record that is refused ends the walk over the whole list.
walked_refused : (lib ts₀ : List ℕ) (done more : List Record) (x : Refusal) (us : List ℕ)
    → Walked lib ts₀ done (Err x) us → Walked lib ts₀ (done ++ more) (Err x) us
unfolding WalkReached
walked_refused lib ts₀ done more x us w =
    record {
      reaches = λ cells held start rest.
          ap (λ (rs : List Record). record_statements rs cells) (append_assoc done more rest) ∙ w.reaches cells held start (more ++ rest);
    }

-- By the place of the record that was read.
module _ (lib ts₀ : List ℕ) (recs : List Record) (none : Record) (i : ℕ) (l : i < length recs) (ts us : List ℕ)
    (w : Walked lib ts₀ (take i recs) (Ok tt) ts) where
  walked_at : (r : Result (Unit {0}) Refusal) → Checked lib (i + 1) (get_or recs i none) ts r us → Walked lib ts₀ (take (i + 1) recs) r us
  walked_at r e =
      subst (λ (ys : List Record). Walked lib ts₀ ys r us) (sym (ap (λ (k : ℕ). take k recs) (add-one i) ∙ take-suc recs i none l))
      (walked_more lib ts₀ (take i recs) (get_or recs i none) r ts us
      (subst (λ (k : ℕ). Checked lib (k + 1) (get_or recs i none) ts r us) (sym (length-take-le i recs (omega arith))) e) w)

  pub goes_on : {r : Result (Unit {0}) Refusal} {u : Unit {0}} → r ≡ Ok u → Checked lib (i + 1) (get_or recs i none) ts r us
      → Walked lib ts₀ (take (i + 1) recs) (Ok tt) us
  goes_on q e = rw q at (walked_at _ e)

  pub stops_there : {r : Result (Unit {0}) Refusal} (x : Refusal) → r ≡ Err x → Checked lib (i + 1) (get_or recs i none) ts r us
      → Walked lib ts₀ recs (Err x) us
  stops_there x q e =
      subst (λ (ys : List Record). Walked lib ts₀ ys (Err x) us) (take-append-drop (i + 1) recs)
      (walked_refused lib ts₀ (take (i + 1) recs) (drop (i + 1) recs) x us (rw q at (walked_at _ e)))

-- What the walk of the whole list answers and leaves.
module _ (lib ts₀ : List ℕ) (recs : List Record) (us : List ℕ) (cells : List Cell) (tail : List ℕ) where
  ends : (r : Result (Unit {0}) Refusal) → WalkReached cells tail recs r us
      → (later r ≡ progress_of (record_statements recs cells)) × ((ss : List Statement) → record_statements recs cells ≡ read ss → us ≡ netlist_words ss ++ tail)
  unfolding WalkReached progress_of admitted record_forms
  ends (Ok u) a =
      let e : record_statements recs cells ≡ read a.statements = ap (λ (rs : List Record). record_statements rs cells) (sym (append-nil recs)) ∙ a.rest [] in
      (rw e, λ ss f. let same : a.statements ≡ ss = cc in rw (← same) a.held)
  ends (Err r) a =
      let e : record_statements recs cells ≡ refused r.number r.line = ap (λ (rs : List Record). record_statements rs cells) (sym (append-nil recs)) ∙ a [] in
      (rw e, λ ss f. refused-read (sym e ∙ f))

  pub walked_end : (r : Result (Unit {0}) Refusal) → Walked lib ts₀ recs r us → LibraryHolds lib cells → ts₀ ≡ netlist_words [] ++ tail
      → (later r ≡ progress_of (record_statements recs cells)) × ((ss : List Statement) → record_statements recs cells ≡ read ss → us ≡ netlist_words ss ++ tail)
  walked_end r w held start = ends r (w.reaches cells held (record { past = tail; words = start }))

-- ---- behind the last record

pub records_sound : (recs : List Record) (cells : List Cell) (ss : List Statement) → record_statements recs cells ≡ read ss → Sound cells ss
unfolding record_statements
records_sound recs cells ss e = admitted-sound cells 1 [] (record_forms recs) ss (sound_none cells) e

-- What the table says where no record is refused.
declared-later : {cells : List Cell} {us : List ℕ} {ss : List Statement} → NetlistHolds us ss → Sound cells ss
    → later (declared_by us) ≡ progress_of (declared New ss)
unfolding declared weigh pick ◌>>◌ progress_of declared_by
declared-later {cells} {us} {ss} h so =
    by_test (some_undeclared us)
    (λ t. let e : some_line (undeclared_lines ss) ≡ true = sym (some_same h so) ∙ t in rw (t, e))
    (λ t. let e : some_line (undeclared_lines ss) ≡ false = sym (some_same h so) ∙ t in rw (t, e))

module _ (recs : List Record) (cells : List Cell) (tail us : List ℕ) where
  -- What a list comes to, and what stands in the table then.
  abbrev pub Comes : Progress → Type 0
  Comes s =
      (s ≡ progress_of (from_records recs cells)) × ((ss : List Statement) → from_records recs cells ≡ read ss → us ≡ netlist_words ss ++ tail)

  refuses : (x : Refusal) (o : Read (List Statement)) → record_statements recs cells ≡ o → Err (Later x) ≡ progress_of o → Comes (Err (Later x))
  unfolding from_records ◌>>=◌ progress_of
  refuses x (refused number line) e s = rw e (s, λ ss f. refused-read f)
  refuses x (read ss) e s = absurd cc

  -- A list with a record that is refused.
  pub refused_end : (x : Refusal) → Err (Later x) ≡ progress_of (record_statements recs cells) → Comes (Err (Later x))
  refused_end x s = refuses x (record_statements recs cells) refl s

  declares : ((ss : List Statement) → record_statements recs cells ≡ read ss → us ≡ netlist_words ss ++ tail)
      → (o : Read (List Statement)) → record_statements recs cells ≡ o → Ok tt ≡ progress_of o → Comes (later (declared_by us))
  unfolding from_records ◌>>=◌ progress_of
  declares held (refused number line) e s = absurd cc
  declares held (read ss) e s =
      let h : NetlistHolds us ss = record { past = tail; words = held ss e } in
      rw e (declared-later h (records_sound recs cells ss e), λ rs f. rw (← declared-read New ss rs f) h.words)

  -- A list that was walked to its end, with 20 behind it.
  pub declared-end : Ok tt ≡ progress_of (record_statements recs cells)
      → ((ss : List Statement) → record_statements recs cells ≡ read ss → us ≡ netlist_words ss ++ tail) → Comes (later (declared_by us))
  declared-end s held = declares held (record_statements recs cells) refl s
