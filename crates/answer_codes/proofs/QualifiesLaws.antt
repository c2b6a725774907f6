-- The number of `scoap_qualifies`, from where reading the two texts left it.
use Rattle.common_laws.proofs.Base.{true≢false, ◌&&◌, List, [], ◌++◌, append-nil, ◌≡◌, refl, sym, ap, subst, ◌∙◌, ℕ, ◌≤◌, ◌<◌, arith, length, drop, replicate, length-replicate}
use Rattle.common_laws.proofs.Base.{drop-length}
use Rattle.sizes.specs.Sizes as Size
use Rattle.reading.specs.Numbers as No
use Rattle.reading.specs.Refusal.{Read, refused, read, ◌>>◌}
use Rattle.reading.specs.Choice.{pick}
use Rattle.reading.specs.declared.Refusal.{Refusal}
use Rattle.reading.proofs.Bounds.{Within, any_number}
use Rattle.reading.proofs.Laws.{by_test, refused-read, then-refused}
use Rattle.writer.specs.Buffer.{code_lines, refusal_code, code_of, LineBelow}
use Rattle.library_table.specs.Layout.{library_words}
use Rattle.netlist_table.specs.Layout.{netlist_words}
use Rattle.demands.specs.Outcome as O
use Rattle.demands.specs.Own.{own_tables}
use Rattle.demands.proofs.Bounds.{pair-within, behind-entry}
use Rattle.demands.proofs.Given.{texts-checked}
use Rattle.demands.proofs.EntryChecks.{own-fit}
use Rattle.demands.proofs.EntryChecks as Entry
use Rattle.demands.proofs.Room.{entry-number, entry-short, pair-number}
use Rattle.analysis_texts.specs.declared.Stop.{Stop}
use Rattle.analysis_texts.specs.declared.Stop.TheVariants.{AtEntry, Later}
use Rattle.analysis_texts.specs.Progress.{Progress, refusal_of, Reached}
use Rattle.analysis_texts.proofs.Reached.{stands_hold}
use Rattle.chip_loops.specs.Marks.{without_loops, read_once}
use Rattle.netlist_table.specs.Gates.{gates_held}
use Rattle.chip_call.specs.Qualified.{all_generated, qualifying, Says}
use Rattle.chip_call.proofs.Laws.{qualifying_says}
use Rattle.answer_codes.specs.Number.{last_line}
use Rattle.answer_codes.specs.Qualifies.{qualifies_read, qualifies_number, QualifiesCoded}
use Rattle.answer_codes.proofs.Number.{code_accepted, code_refused, code_line, told-within, tells_by, by_accepted, by_refused, line-below, told-read, told-number}
use Rattle.std.specs.Prelude.{Result, Ok, Err}

-- Nothing stands past the published size of a table of its own.
no_rest : (n : ℕ) (xs : List ℕ) → xs ++ drop n (replicate n 0) ≡ xs
no_rest n xs =
    let zeros : List ℕ = replicate n 0 in
    let size : length zeros ≡ n = length-replicate n 0 in
    let none : drop n zeros ≡ [] = rw size at (drop-length zeros) in
    rw none (append-nil xs)

two-most : (library netlist : List ℕ) → qualifying library netlist ≤ 2
unfolding qualifying pick
two-most library netlist =
    by_test (without_loops netlist && all_generated library (gates_held netlist))
    (λ t. by_test (read_once netlist) (λ u. rw (t, u) (omega arith)) (λ u. rw (t, u) (omega arith)))
    (λ t. rw t (omega arith))

module _ (lib net : List ℕ) where
  abbrev given : O.Given
  given = O.given_texts lib net

  came-within : Within any_number last_line (qualifies_read lib net)
  unfolding qualifies_read
  came-within = behind-entry lib net (own_tables []) (O.read_pair given) (pair-within lib net (own_tables []))

  -- What is said of what was read.
  abbrev said_of : O.Pair → ℕ
  said_of p = qualifying (library_words p.cells) (netlist_words p.statements)

  abbrev came : Read O.Pair
  came = qualifies_read lib net

  came-line : LineBelow (qualifies_number came)
  came-line = line-below _ (told-within said_of came came-within)

  module _ (number line : ℕ) (e : came ≡ refused number line) where
    -- A refusal is one of the entry, or of what is read.
    refused-where : {B : Type 0} → (O.entry given (own_tables []) ≡ refused number line → B) → (O.read_pair given ≡ refused number line → B) → B
    unfolding qualifies_read
    refused-where at-entry later = then-refused (O.entry given (own_tables [])) _ number line at-entry (λ u p q. later q) e

  not_short : (line : ℕ) → came ≡ refused No.table_short line → ⊥
  not_short line e =
      refused-where No.table_short line e
      (λ q. true≢false (sym (entry-short given (texts-checked lib net) (own_tables []) line q) ∙ own-fit []))
      (λ q. true≢false (sym (pair-number given (texts-checked lib net) No.table_short line q)))

  not-long : (line : ℕ) → came ≡ refused No.report_long line → ⊥
  not-long line e =
      refused-where No.report_long line e
      (λ q. true≢false (sym (entry-number given (texts-checked lib net) (own_tables []) No.report_long line q)))
      (λ q. true≢false (sym (pair-number given (texts-checked lib net) No.report_long line q)))

  coded : (n : ℕ) → n ≡ code_of (qualifies_number came) → ((p : O.Pair) → came ≡ read p → Says p.cells p.statements n) → QualifiesCoded lib net n
  coded n is says =
      let t = tells_by said_of came came-within (λ p e. omega (arith, two-most (library_words p.cells) (netlist_words p.statements))) n is in
      record {
        answers = t;
        says = says;
        accepted = (
          λ h. let a = by_accepted said_of came n (told-read t (omega arith)) in (a.0, a.1),
          λ h. (says h.0 h.1).most,
        );
        table_short = λ h. not_short _ (by_refused said_of came No.table_short _ (told-number t No.table_short (omega arith) h));
        report_long = λ h. not-long _ (by_refused said_of came No.report_long _ (told-number t No.report_long (omega arith) h));
      }

  -- ---- from where reading left the call

  own-entry : O.entry_by (length lib) (length net) (length {A = ℕ} (replicate Size.library 0)) (length {A = ℕ} (replicate Size.netlist 0)) Size.numbers
      ≡ O.entry given (own_tables [])
  own-entry = Entry.own-entry_by lib net ∙ sym (Entry.own-entry _ lib net [])

  module _ (library' netlist' : List ℕ) (s : Progress)
      (h : Reached given
      (O.entry_by (length lib) (length net) (length {A = ℕ} (replicate Size.library 0)) (length {A = ℕ} (replicate Size.netlist 0)) Size.numbers)
      (replicate Size.library 0) (replicate Size.netlist 0) library' netlist' s) where
    at-entry : (r : Refusal) → s ≡ Err (AtEntry r) → qualifies_read lib net ≡ refused r.number r.line
    unfolding Reached qualifies_read ◌>>◌
    at-entry r e = let q = rw e at h in rw (← own-entry, q.0) refl

    later : (r : Refusal) → s ≡ Err (Later r) → qualifies_read lib net ≡ refused r.number r.line
    unfolding Reached qualifies_read ◌>>◌
    later r e = let q = rw e at h in rw (← own-entry, q.0) q.1

    pub entry-line : (r : Refusal) → s ≡ Err (AtEntry r) → r.line < code_lines
    entry-line r e = code_line said_of came r (at-entry r e) came-line

    pub later_line : (r : Refusal) → s ≡ Err (Later r) → r.line < code_lines
    later_line r e = code_line said_of came r (later r e) came-line

    coded-refused : (r : Refusal) → came ≡ refused r.number r.line → (n : ℕ) → n ≡ refusal_code r.number r.line → QualifiesCoded lib net n
    coded-refused r e n is = coded n (code_refused said_of came r e n is) (λ p q. refused-read (sym e ∙ q))

    pub qualifies-entry : (r : Refusal) → s ≡ Err (AtEntry r) → (n : ℕ) → n ≡ refusal_code r.number r.line → QualifiesCoded lib net n
    qualifies-entry r e = coded-refused r (at-entry r e)

    pub qualifies_later : (r : Refusal) → s ≡ Err (Later r) → (n : ℕ) → n ≡ refusal_code r.number r.line → QualifiesCoded lib net n
    qualifies_later r e = coded-refused r (later r e)

    pub stopped_line : (stop : Stop) → s ≡ Err stop → (refusal_of stop).line < code_lines
    stopped_line (AtEntry r) e = entry-line r e
    stopped_line (Later r) e = later_line r e

    pub qualifies-stopped : (stop : Stop) → s ≡ Err stop → (n : ℕ) → n ≡ refusal_code (refusal_of stop).number (refusal_of stop).line → QualifiesCoded lib net n
    qualifies-stopped (AtEntry r) e n is = qualifies-entry r e n is
    qualifies-stopped (Later r) e n is = qualifies_later r e n is

    pub qualifies-accepted : s ≡ (Ok tt) → (n : ℕ) → n ≡ qualifying library' netlist' → QualifiesCoded lib net n
    unfolding Reached qualifies_read ◌>>◌
    qualifies-accepted e n is =
        let q = rw e at h in
        let b = q.1 in
        let cells : library' ≡ library_words b.pair.cells = b.cells_stand ∙ no_rest Size.library _ in
        let statements : netlist' ≡ netlist_words b.pair.statements = b.statements_stand ∙ no_rest Size.netlist _ in
        let reads : came ≡ read b.pair =
        ap (λ (u : Read (Unit {0})). u >> O.read_pair given) (sym own-entry ∙ q.0) ∙ b.reads in
        let says : Says b.pair.cells b.pair.statements n =
        rw is (qualifying_says (stands_hold given (replicate Size.library 0) (replicate Size.netlist 0) (texts-checked lib net) library' netlist' b)) in
        coded n (is ∙ (λ i. qualifying (cells i) (statements i)) ∙ code_accepted said_of came b.pair reads)
        (λ p r.
        let same : b.pair ≡ p = cc (sym reads ∙ r) in
        subst (λ (y : O.Pair). Says y.cells y.statements n) same says)
