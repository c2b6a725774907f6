-- The copy as it is put into a buffer, and what the reading by the old rules comes to.
use Rattle.common_laws.proofs.Base.{Bool, true, false, ◌||◌, List, [], ◌∷◌, ◌++◌, append-nil, append_assoc, ◌≡◌, refl, sym, ap, fun_ext, ◌∙◌, ℕ, zero, suc, ◌+◌, ◌*◌, ◌-◌, ◌≤◌, ◌<◌}
use Rattle.common_laws.proofs.Base.{arith, le-ltb, length, drop, length-append, replicate}
use Rattle.sizes.specs.Sizes as Size
use Rattle.reading.specs.Choice.{pick}
use Rattle.reading.specs.Numbers as No
use Rattle.reading.specs.Refusal.{Read, refused, read, ◌>>=◌, ◌>>◌, weigh}
use Rattle.reading.specs.declared.Refusal.{Refusal}
use Rattle.reading.proofs.Laws.{by_test}
use Rattle.text.specs.Bytes.{bytes}
use Rattle.writer.specs.Put.{Put}
use Rattle.writer.specs.Refused.{refusal_bytes}
use Rattle.writer.specs.Buffer.{text_within, shown}
use Rattle.writer.proofs.Decimal.{decimal-below}
use Rattle.writer.proofs.Buffer.{refusal-short, put-prints}
use Rattle.library_table.specs.Cells.{Cell}
use Rattle.library_table.specs.Library.{library}
use Rattle.netlist_table.specs.declared.Rules.TheVariants.{Old}
use Rattle.netlist_table.specs.Netlist.{Statement, mentioned, undeclared, lines_where, undeclared_lines, netlist}
use Rattle.netlist_table.specs.Layout.{NetlistHolds}
use Rattle.netlist_table.specs.Admission.{words_undeclared}
use Rattle.netlist_table.specs.Sound.{Sound}
use Rattle.netlist_table.proofs.HeldLines.{where-same}
use Rattle.netlist_table.proofs.Laws.{netlist-sound}
use Rattle.netlist_table.proofs.OpenLines.{words-undeclared}
use Rattle.calculation.specs.Calculation.{Analysed, analysed}
use Rattle.report_text.specs.Report.{report_bytes}
use Rattle.report_text.proofs.Laws.{report-fits}
use Rattle.demands.specs.Outcome as O
use Rattle.netlist_open.specs.Copy.{open_line, open_lines, copy_of, declared_too}
use Rattle.netlist_open.specs.Kept.{Kept}
use Rattle.netlist_open.proofs.Copy.{copy_keeps}
use Rattle.analysis_texts.specs.Progress.{Progress}
use Rattle.analysis_texts.specs.declared.Stop.{Stop}
use Rattle.analysis_texts.specs.declared.Stop.TheVariants.{AtEntry, Later}
use Rattle.analysis_texts.specs.Progress.{Reached, refusal_of}
use Rattle.demands.specs.Outcome.{entry_by, given_by, read_pair, text_long, report_of}
use Rattle.demands.proofs.Acceptance.{read_as}
use Rattle.demands.proofs.EntryChecks.{entered, own-entry_by}
use Rattle.demands.specs.Printed.{reported, printed}
use Rattle.netlist_open.specs.Copied.{copy_bytes, copied, copy_printed, Accepted, Copied}
use Rattle.std.specs.Prelude.{Ok, Err}

-- ---- the lines, one more

module _ (p : ℕ → Bool) where
  where-more : (n first : ℕ) → lines_where p (suc n) first ≡ lines_where p n first ++ pick (p (first + n)) ((first + n) ∷ []) []
  unfolding lines_where pick
  where-more zero first = let e : first + 0 ≡ first = omega arith in rw e
  where-more (suc n) first =
      let e : first + suc n ≡ suc first + n = omega arith in
      let rest = where-more n (suc first) in
      by_test (p first) (λ t. rw (t, e) (ap (λ (ls : List ℕ). first ∷ ls) rest)) (λ t. rw (t, e) rest)

  lines-append : (xs ys : List ℕ) → open_lines (xs ++ ys) ≡ open_lines xs ++ open_lines ys
  unfolding open_lines
  lines-append [] ys = refl
  lines-append (x ∷ xs) ys = rw (lines-append xs ys) (sym (append_assoc (open_line x) (open_lines xs) (open_lines ys)))

  one_line_lem : (b : Bool) (l : ℕ) → open_lines (pick b (l ∷ []) []) ≡ pick b (open_line l) []
  unfolding open_lines pick
  one_line_lem true l = append-nil (open_line l)
  one_line_lem false l = refl

  pub opens-more : (n : ℕ) → open_lines (lines_where p (suc n) 1) ≡ open_lines (lines_where p n 1) ++ pick (p (1 + n)) (open_line (1 + n)) []
  opens-more n =
      ap open_lines (where-more n 1)
      ∙ lines-append (lines_where p n 1) (pick (p (1 + n)) ((1 + n) ∷ []) [])
      ∙ ap (λ (xs : List ℕ). open_lines (lines_where p n 1) ++ xs) (one_line_lem (p (1 + n)) (1 + n))

  -- ---- their length

  open_length : (l : ℕ) → l < Size.numbers_end → length (open_line l) ≤ 6 + Size.number_digits
  unfolding open_line bytes
  open_length l h = simp length-append (omega (arith, decimal-below (Size.number_digits - 1) l h))

  opens-length : (n first : ℕ) → first + n ≤ Size.numbers_end → length (open_lines (lines_where p n first)) ≤ n * (6 + Size.number_digits)
  unfolding lines_where open_lines pick
  opens-length zero first h = omega arith
  opens-length (suc n) first h =
      let rest = opens-length n (suc first) (omega arith) in
      by_test (p first)
      (λ t. rw t (rw (length-append (open_line first) (open_lines (lines_where p n (suc first)))) (omega (arith, rest, open_length first (omega arith)))))
      (λ t. rw t (omega (arith, rest)))

copy_length : (net : List ℕ) (ss : List Statement) → length net ≤ Size.text_bytes → length (copy_of net ss) ≤ copy_bytes
unfolding copy_of undeclared_lines
copy_length net ss h =
    rw (length-append net (open_lines (lines_where (undeclared ss) Size.lines 1)))
    (omega (arith, opens-length (undeclared ss) Size.lines 1 (omega arith)))

-- The lines that the table says are those of the statements that it holds.
pub table_copy : {cells : List Cell} {table : List ℕ} {ss : List Statement} → NetlistHolds table ss → Sound cells ss → (net : List ℕ)
    → net ++ open_lines (lines_where (words_undeclared table) Size.lines 1) ≡ copy_of net ss
unfolding copy_of undeclared_lines
table_copy {cells} {table} {ss} h so net =
    ap (λ (ls : List ℕ). net ++ open_lines ls)
    (where-same (words_undeclared table) (undeclared ss) Size.lines 1 (λ l low high. words-undeclared h so l low (omega arith)))

-- ---- what an accepted netlist comes to

module _ (lib net : List ℕ) where
  module _ (cells : List Cell) (ss : List Statement) (short-lib : length lib ≤ Size.text_bytes) (short-net : length net ≤ Size.text_bytes)
      (cells-read : library lib ≡ read cells) (ss-read : netlist Old cells net ≡ read ss) where
    pub copied-read : copied lib net ≡ read (copy_of net ss)
    unfolding copied read_pair given_by text_long weigh pick ◌>>=◌ ◌>>◌
    copied-read = rw (le-ltb Size.text_bytes (length lib) short-lib, le-ltb Size.text_bytes (length net) short-net, cells-read, ss-read)

    kept : Kept cells net ss
    kept = copy_keeps cells net ss ss-read

    same-report : report_of (declared_too ss) (analysed cells (declared_too ss)) ≡ report_of ss (analysed cells ss)
    unfolding report_of
    same-report =
        let a = analysed cells ss in
        ap (λ (x : Analysed). report_bytes (λ l. mentioned l (declared_too ss)) x.numbers x.counts) kept.numbers
        ∙ ap (λ (f : ℕ → Bool). report_bytes f a.numbers a.counts) (fun_ext kept.mentions)

    one-report : O.reports cells (declared_too ss) ≡ report_of ss (analysed cells ss)
    unfolding O.reports O.second pick
    one-report = rw kept.unranged (append-nil (report_of (declared_too ss) (analysed cells (declared_too ss))) ∙ same-report)

    short-report : length (report_of ss (analysed cells ss)) ≤ Size.report_bytes
    unfolding report_of
    short-report = let a = analysed cells ss in report-fits (λ l. mentioned l ss) a.numbers a.counts

    reports : length (copy_of net ss) ≤ Size.text_bytes → printed lib (copy_of net ss) ≡ report_of ss (analysed cells ss)
    unfolding printed reported read_pair given_by shown text_long text_within weigh pick ◌>>=◌ ◌>>◌
    reports short =
        rw (
          le-ltb Size.text_bytes (length lib) short-lib,
          le-ltb Size.text_bytes (length (copy_of net ss)) short,
          cells-read,
          kept.accepts,
          one-report,
          le-ltb Size.report_bytes (length (report_of ss (analysed cells ss))) short-report,
        )

    accepted : Accepted lib net cells ss
    unfolding copy_printed shown
    accepted = record { copies = ap shown copied-read; keeps = kept; reports = reports }

  -- ---- the copy or the refusal in the buffer

  module _ (before : List ℕ) (room : copy_bytes ≡ length before) (after : List ℕ) (said : ℕ) where
    put_all : (bs : List ℕ) → copy_printed lib net ≡ bs → length bs ≤ copy_bytes → Put 0 bs before after said → Copied lib net before after said
    put_all bs e h p = record { bytes = rw e (put-prints p (omega arith) room); accepted = accepted }

    pub put_refused : (r : Refusal) → copied lib net ≡ refused r.number r.line
        → Put 0 (refusal_bytes r.number r.line) before after said → Copied lib net before after said
    unfolding copy_printed shown
    put_refused r e p = put_all (refusal_bytes r.number r.line) (rw e) (omega (arith, refusal-short r.number r.line)) p

  -- ---- where the reading by the old rules stands

  pub record BothOld (table : List ℕ) : Type 0 where
    pub cells : List Cell
    pub statements : List Statement
    pub lib_short : length lib ≤ Size.text_bytes
    pub net_short : length net ≤ Size.text_bytes
    pub cells_read : library lib ≡ read cells
    pub statements_read : netlist Old cells net ≡ read statements
    pub holds : NetlistHolds table statements

  pub put-accepted : (before : List ℕ) → copy_bytes ≡ length before → (after : List ℕ) (said : ℕ) (table : List ℕ) → BothOld table
      → Put 0 (net ++ open_lines (lines_where (words_undeclared table) Size.lines 1)) before after said → Copied lib net before after said
  unfolding copy_printed shown
  put-accepted before room after said table b p =
      put_all before room after said (copy_of net b.statements)
      (ap shown (copied-read b.cells b.statements b.lib_short b.net_short b.cells_read b.statements_read))
      (copy_length net b.statements b.net_short)
      (rw (← table_copy b.holds (netlist-sound b.cells Old net b.statements b.statements_read) net) p)

  -- The entry, on tables of their own.
  abbrev first : Read (Unit {0})
  first = entry_by (length lib) (length net) (length {A = ℕ} (replicate Size.library 0)) (length {A = ℕ} (replicate Size.netlist 0)) Size.numbers

  first_is_lem : first ≡ weigh 0 ((No.text_long, text_long lib || text_long net) ∷ [])
  first_is_lem = own-entry_by lib net

  module _ (lib' table : List ℕ) (said : Progress)
      (h : Reached (given_by Old lib net) first (replicate Size.library 0) (replicate Size.netlist 0) lib' table said) where
    pub stopped : (stop : Stop) → said ≡ Err stop → (r : Refusal) → r ≡ refusal_of stop → copied lib net ≡ refused r.number r.line
    unfolding Reached copied ◌>>◌ ◌>>=◌
    stopped (AtEntry r) e t f = let q = rw e at h in rw (f, ← first_is_lem, q.0)
    stopped (Later r) e t f = let q = rw e at h in rw (f, ← first_is_lem, q.0, q.1)

    pub both-old : said ≡ Ok tt → BothOld table
    unfolding Reached given_by
    both-old e =
        let q = rw e at h in
        let b = q.1 in
        let k = entered _ _ _ _ _ q.0 in
        let r = read_as (given_by Old lib net) b.pair b.reads in
        record {
          cells = b.pair.cells;
          statements = b.pair.statements;
          lib_short = k.lib-short;
          net_short = k.net-short;
          cells_read = r.cells;
          statements_read = r.statements;
          holds = record { past = drop Size.netlist (replicate Size.netlist 0); words = b.statements_stand };
        }
