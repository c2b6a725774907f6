-- What a call keeps, from where it is refused or accepted.
use Rattle.common_laws.proofs.Base.{true, false, true≢false, List, [], ◌∷◌, ◌≡◌, refl, sym, ap, subst, ◌∙◌, ℕ, ◌≤◌, ◌<◌, arith, lt-ltb, le-ltb, ltb-false, ltb, length, replicate}
use Rattle.sizes.specs.Sizes as Size
use Rattle.reading.specs.Choice.{pick}
use Rattle.reading.specs.Numbers as No
use Rattle.reading.specs.Refusal.{Read, refused, read, ◌>>=◌, ◌>>◌, weigh}
use Rattle.reading.proofs.Bounds.{Within, any_number, within-weigh, within_bind, text-not-entry}
use Rattle.reading.proofs.Laws.{clash, refused-read, bind_refused, then-read, then-refused, weigh-one, or_left, or_right}
use Rattle.calculation.specs.Acceptance.{BothSound}
use Rattle.demands.specs.Outcome.{Given, Pair, given_by, given_texts, text_long, read_pair}
use Rattle.demands.specs.Own.{own_tables}
use Rattle.demands.specs.Call.{Call, comes, answered, left_later, left_from, left, Kept, Promises, answer_entry, answer_call}
use Rattle.demands.proofs.Acceptance.{read_as}
use Rattle.demands.proofs.Bounds.{last_line, pair-within}
use Rattle.demands.proofs.Given.{Checked}
use Rattle.demands.proofs.Room.{pair-sound, pair-number}

-- The entry refuses by its own numbers, what is read by others.
pub record Numbered {A B M : Type 0} (c : Call A B M) : Type 0 where
  pub of_entry : (number line : ℕ) → c.entry ≡ refused number line → No.of_entry number ≡ true
  pub of_texts : (number line : ℕ) → c.reads ≡ refused number line → No.of_entry number ≡ false

module _ {A B M : Type 0} (c : Call A B M) where
  -- ---- where a call stands

  pub at-entry : (number line : ℕ) → c.entry ≡ refused number line → (answered c ≡ refused number line) × (left c ≡ c.lent)
  unfolding answered comes left left_from ◌>>◌ ◌>>=◌
  at-entry number line e = (rw e refl, rw e refl)

  pub at-texts : c.entry ≡ read tt → (number line : ℕ) → c.reads ≡ refused number line
      → (answered c ≡ refused number line) × (left c ≡ c.later)
  unfolding answered comes left left_from left_later ◌>>◌ ◌>>=◌
  at-texts e number line r = (rw (e, r) refl, rw (e, r) refl)

  pub at-end : (a : A) → comes c ≡ read a → (answered c ≡ read (c.answer a)) × (left c ≡ c.writes a)
  unfolding answered comes left left_from left_later ◌>>=◌
  at-end a h =
      then-read c.entry c.reads a (λ u e r. (rw h refl, rw (e, r) refl)) h

  -- What was read, behind an entry that refuses nothing.
  pub came : (a : A) → comes c ≡ read a → (c.entry ≡ read tt) × (c.reads ≡ read a)
  unfolding comes
  came a h = then-read c.entry c.reads a (λ u e r. (e, r)) h

  pub come-to : (a : A) → c.entry ≡ read tt → c.reads ≡ read a → comes c ≡ read a
  unfolding comes ◌>>◌
  come-to a e r = rw (e, r) refl

  -- A refusal is the entry's, or of what is read; and what is answered was read.
  pub refused-where : {C : Type 0} (number line : ℕ) → answered c ≡ refused number line → (c.entry ≡ refused number line → C)
      → (c.entry ≡ read tt → c.reads ≡ refused number line → C) → C
  unfolding answered comes
  refused-where number line e first later =
      bind_refused (comes c) _ number line
      (λ q. then-refused c.entry c.reads number line first (λ u p r. later p r) q)
      (λ a p q. refused-read (sym q)) e

  pub was_read_lem : (x : B) → answered c ≡ read x → (a : A) × (comes c ≡ read a)
  unfolding answered
  was_read_lem x e = from (comes c) refl e
    where
      from : (o : Read A) → comes c ≡ o → (o >>= λ a. read (c.answer a)) ≡ read x → (a : A) × (comes c ≡ read a)
      from (refused number line) p q = unfold ◌>>=◌ in refused-read q
      from (read a) p q = (a, p)

  -- ---- what it keeps

  pub keeps : Numbered c → (after : M) (said : Read B) → said ≡ answered c → after ≡ left c → Kept c after said
  keeps n after said answers leaves =
      record {
        answers = answers;
        leaves = leaves;
        untouched = λ number line e own. refused-where number line (sym answers ∙ e)
            (λ p. leaves ∙ (at-entry number line p).1)
            (λ p q. clash (No.of_entry number) own (n.of_texts number line q));
        cleared = λ number line e later. refused-where number line (sym answers ∙ e)
            (λ p. clash (No.of_entry number) (n.of_entry number line p) later)
            (λ p q. leaves ∙ (at-texts p number line q).1);
      }

-- ---- a call over a library and a netlist that is lent one answer

module _ (size : ℕ) (g : Given) (before : List ℕ) where
  pub entry-short : length before < size → answer_entry size g before ≡ refused No.table_short 0
  unfolding answer_entry weigh pick
  entry-short h = rw (lt-ltb (length before) size h) refl

  -- An answer of its size leaves the check of the texts.
  pub entry-texts : size ≤ length before → answer_entry size g before ≡ weigh 0 ((No.text_long, g.long) ∷ [])
  unfolding answer_entry weigh pick
  entry-texts h = rw (le-ltb (length before) size h) refl

  pub entry-room : answer_entry size g before ≡ read tt → (size ≤ length before) × (g.long ≡ false)
  unfolding answer_entry
  entry-room e =
      let w = weigh-one No.table_short 0 (ltb (length before) size) _ tt e in
      (ltb-false (length before) size w.0, (weigh-one No.text_long 0 g.long [] tt w.1).0)

module _ {B : Type 0} (size : ℕ) (g : Given) (checked : Checked g) (before : List ℕ) (answer : Pair → B) (writes : Pair → List ℕ) where
  abbrev call : Call Pair B (List ℕ)
  call = answer_call size g before answer writes

  numbered : Numbered call
  unfolding answer_call answer_entry
  numbered =
      record {
        of_entry = λ number line e. (subst (Within No.of_entry 0) e (within-weigh No.of_entry 0 0 _ (omega arith) refl)).0;
        of_texts = λ number line e. text-not-entry number (pair-number g checked number line e);
      }

  no_report_lem : (line : ℕ) → answered call ≡ refused No.report_long line → ⊥
  unfolding answer_call
  no_report_lem line e =
      refused-where call No.report_long line e
      (λ p. true≢false (sym (numbered.of_entry No.report_long line p)))
      (λ p q. true≢false (sym (pair-number g checked No.report_long line q)))

  module _ (Own : Pair → List ℕ → Read B → Type 0) where
    pub promises : (after : List ℕ) (said : Read B) → said ≡ answered call → after ≡ left call
        → ((p : Pair) → comes call ≡ read p → Own p after said) → Promises call Own after said
    promises after said answers leaves own =
        record {
          kept = keeps call numbered after said answers leaves;
          no_report = λ line e. no_report_lem line (sym answers ∙ e);
          accepted = own;
        }

    -- Refused at the entry; refused by what is read; accepted.
    pub promises-entry : (number line : ℕ) → answer_entry size g before ≡ refused number line → Promises call Own before (refused number line)
    unfolding answer_call comes ◌>>◌
    promises-entry number line e =
        let s = at-entry call number line e in
        promises before (refused number line) (sym s.0) (sym s.1) (λ p q. refused-read (rw e at q))

    pub promises-texts : answer_entry size g before ≡ read tt → (number line : ℕ) → read_pair g ≡ refused number line
        → (after : List ℕ) → after ≡ replicate (length before) 0 → Promises call Own after (refused number line)
    unfolding answer_call comes ◌>>◌
    promises-texts e number line r after z =
        let s = at-texts call e number line r in
        promises after (refused number line) (sym s.0) (z ∙ sym s.1) (λ p q. refused-read (rw (e, r) at q))

    pub promises-made : (p : Pair) → comes call ≡ read p → (after : List ℕ) (x : B) → x ≡ answer p → after ≡ writes p
        → Own p after (read x) → Promises call Own after (read x)
    unfolding answer_call
    promises-made p h after x is wrote own =
        let s = at-end call p h in
        promises after (read x) (ap read is ∙ sym s.0) (wrote ∙ sym s.1)
        (λ q r. let same : p ≡ q = cc (sym h ∙ r) in subst (λ (y : Pair). Own y after (read x)) same own)

    -- A call that goes on from another of the same entry and texts is refused where that is.
    pub promises-on : {C : Type 0} (answer' : Pair → C) (writes' : Pair → List ℕ) (after : List ℕ) (number line : ℕ)
        → Kept (answer_call size g before answer' writes') after (refused number line) → Promises call Own after (refused number line)
    unfolding answer_call
    promises-on answer' writes' after number line k =
        let d = answer_call size g before answer' writes' in
        refused-where d number line (sym k.answers)
        (λ e. subst (λ (m : List ℕ). Promises call Own m (refused number line)) (sym (k.leaves ∙ (at-entry d number line e).1)) (promises-entry number line e))
        (λ e r. promises-texts e number line r after (k.leaves ∙ (at-texts d e number line r).1))

  -- What was read, of which the call goes on.
  pub pair_read : (p : Pair) → comes call ≡ read p → (size ≤ length before) × (g.long ≡ false) × (read_pair g ≡ read p) × BothSound p.cells p.statements
  unfolding answer_call
  pair_read p h =
      let c = came call p h in
      let r = read_as g p c.1 in
      let room = entry-room size g before c.0 in
      (room.0, room.1, c.1, pair-sound g checked (record { cells = p.cells; statements = p.statements; cells_read = r.cells; statements_read = r.statements }))

-- Of two texts: every refusal has a number and a line that can be told.
pub answered-within : {B : Type 0} (size : ℕ) (lib net before : List ℕ) (answer : Pair → B) (writes : Pair → List ℕ)
    → Within any_number last_line (answered (answer_call size (given_texts lib net) before answer writes))
unfolding answer_call answered comes
answered-within size lib net before answer writes =
    within_bind any_number last_line _ _ (from (answer_entry size g before) refl) (λ p. tt)
  where
    g : Given
    g = given_texts lib net

    from : (e : Read (Unit {0})) → answer_entry size g before ≡ e → Within any_number last_line (e >> read_pair g)
    from (refused number line) e = unfold ◌>>◌ answer_entry in subst (Within any_number last_line) e (within-weigh any_number last_line 0 _ (omega arith) refl)
    from (read u) e =
        unfold ◌>>◌ given_by text_long in
        let long = (entry-room size g before e).1 in
        pair-within lib net (own_tables [])
        (ltb-false Size.text_bytes (length lib) (or_left (ltb Size.text_bytes (length lib)) (ltb Size.text_bytes (length net)) long))
        (ltb-false Size.text_bytes (length net) (or_right (ltb Size.text_bytes (length lib)) (ltb Size.text_bytes (length net)) long))
