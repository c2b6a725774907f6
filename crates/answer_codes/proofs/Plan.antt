-- The number of a plan's call for C, from the answer of `write_plan`.
use Rattle.common_laws.proofs.Base.{false, true≢false, List, ◌⊎◌, inl, inr, ◌≡◌, refl, sym, ap, subst, ◌∙◌, ℕ, ◌/◌, ◌≤◌, ◌<◌, arith, leb, length, replicate, le-leb, lt-leb}
use Rattle.common_laws.proofs.Base.{leb-true, leb-false}
use Rattle.reading.specs.Choice.{pick}
use Rattle.reading.specs.Numbers as No
use Rattle.reading.specs.Refusal.{Read, refused, read, ◌>>=◌, weigh}
use Rattle.reading.specs.declared.Refusal.{Refusal}
use Rattle.reading.proofs.Bounds.{Within, any_number, within_bind, within-then, within-weigh}
use Rattle.reading.proofs.Laws.{by_test, clash, refused-read, then-read, bind_refused, then-refused}
use Rattle.reading.specs.Answer.{answer_read}
use Rattle.std.specs.Prelude.{Result, Ok, Err}
use Rattle.writer.specs.Buffer.{text_within, length_read, left_by, code_lines, code_of, LineBelow, Refuses}
use Rattle.writer.proofs.Buffer.{text-fits, text-long, length-within}
use Rattle.cost.specs.Cost.{most}
use Rattle.calculation.specs.Calculation.{analysed}
use Rattle.plan_text.specs.PlanText.{cheapest_text}
use Rattle.demands.specs.Outcome.{Lent, Pair, entry, read_pair, given_texts}
use Rattle.demands.specs.Own.{own_tables}
use Rattle.demands.proofs.Bounds.{pair-within, behind-entry}
use Rattle.demands.proofs.Given.{texts-checked}
use Rattle.demands.proofs.EntryChecks.{own-fit}
use Rattle.demands.proofs.Room.{entry-number}
use Rattle.plan_calls.specs.Concluded.{asked_number, kind_of, plan_read}
use Rattle.plan_calls.specs.Promise.{plan_outcome, PlanSeen, PlanPromised}
use Rattle.plan_calls.proofs.Promise.{length-refused}
use Rattle.plan_calls.proofs.Printed.{text-left}
use Rattle.answer_codes.specs.Number.{last_line, Tells, most_told, text_told, is_told, Limits}
use Rattle.answer_codes.specs.Plan.{plan_told, PlanCoded}
use Rattle.answer_codes.proofs.Number.{tells, line-below, told-read, told-number}

-- ---- a text whose length the number does not tell

module _ (number : ℕ) where
  module _ (w : Result ℕ Refusal) (text : List ℕ) where
    pub limits_short : (n : ℕ) → w ≡ Ok n → n ≤ most_told → Limits number (answer_read w) text text (answer_read (Ok n))
    unfolding answer_read is_told pick
    limits_short n e h = rw e (record { answers = rw (le-leb n most_told h) refl; leaves = rw (le-leb n most_told h) refl })

    pub limits_refused : (r : Refusal) → w ≡ Err r → Limits number (answer_read w) text text (answer_read (Err r))
    unfolding answer_read is_told pick
    limits_refused r e = rw e (record { answers = refl; leaves = refl })

    pub limits_long : (n : ℕ) → w ≡ Ok n → most_told < n → (after : List ℕ) (said : Result ℕ Refusal) → Refuses number 0 text after said
        → Limits number (answer_read w) text after (answer_read said)
    unfolding answer_read is_told pick
    limits_long n e h after said r =
        rw e (record { answers = rw (lt-leb n most_told h) r.answers; leaves = rw (lt-leb n most_told h) r.leaves })

  told-fits : (text : List ℕ) → length text ≤ most_told → text_told number (read text) ≡ read text
  unfolding text_told ◌>>=◌
  told-fits text h = text-fits number most_told text h

  told-long : (text : List ℕ) → most_told < length text → text_told number (read text) ≡ refused number 0
  unfolding text_told ◌>>=◌
  told-long text h = text-long number most_told text h

  -- From a call that wrote what `o` is to what is told of it.
  module _ (behind : No.of_entry number ≡ false) (before mid after : List ℕ) (same : length mid ≡ length before) (w said : Read ℕ) (l : Limits number w mid after said) where
    limited : (o : Read (List ℕ)) → w ≡ length_read o → mid ≡ left_by o before → (said ≡ length_read (text_told number o)) × (after ≡ left_by (text_told number o) before)
    unfolding length_read is_told pick
    limited (refused k line) e m =
        unfold text_told ◌>>=◌ in (rw e at l.answers, rw e at l.leaves ∙ m)
    limited (read text) e m =
        by_test (leb (length text) most_told)
        (λ t.
        rw (told-fits text (leb-true (length text) most_told t))
        (rw (e, t) at l.answers, rw (e, t) at l.leaves ∙ m))
        (λ t.
        rw (told-long text (leb-false (length text) most_told t))
        (rw (e, t) at l.answers, unfold left_by in rw behind (rw (e, t) at l.leaves ∙ ap (λ (n : ℕ). replicate n 0) same)))

  -- What is told was written, and is short.
  told-written : (o : Read (List ℕ)) (text : List ℕ) → text_told number o ≡ read text → (o ≡ read text) × (length text ≤ most_told)
  told-written (refused k line) text e = unfold text_told ◌>>=◌ in refused-read e
  told-written (read t) text e =
      by_test (leb (length t) most_told)
      (λ h.
      let short = leb-true (length t) most_told h in
      let q = sym (told-fits t short) ∙ e in
      let same : t ≡ text = cc in
      (q, rw (← same) short))
      (λ h. refused-read (sym (told-long t (leb-false (length t) most_told h)) ∙ e))

-- ---- what the call comes to

length-read : (o : Read (List ℕ)) (n : ℕ) → length_read o ≡ read n → (text : List ℕ) × (o ≡ read text) × (n ≡ length text)
unfolding length_read
length-read (refused k line) n e = refused-read e
length-read (read text) n e = (text, refl, cc)

module _ (lib net before : List ℕ) (l v kind : ℕ) where
  abbrev came : Read (List ℕ)
  came = plan_outcome (given_texts lib net) (own_tables before) l v kind

  came-within : Within any_number last_line came
  unfolding plan_outcome plan_read text_within
  came-within =
      behind-entry lib net (own_tables before) _
      (λ p q. within_bind any_number last_line (read_pair (given_texts lib net)) _ (pair-within lib net (own_tables before) p q)
      (λ x. within-then any_number last_line (weigh 0 _) _ (within-weigh any_number last_line 0 _ (omega arith) refl)
      (within-then any_number last_line (weigh 0 _) _ (within-weigh any_number last_line 0 _ (omega arith) refl) tt)))

  told-within : Within any_number last_line (length_read (plan_told lib net before l v kind))
  unfolding plan_told text_told text_within
  told-within =
      length-within any_number last_line _
      (within_bind any_number last_line came _ came-within
      (λ text. within-then any_number last_line (weigh 0 _) _ (within-weigh any_number last_line 0 _ (omega arith) refl) tt))

  told-small : (n : ℕ) → length_read (plan_told lib net before l v kind) ≡ read n → n < code_lines
  unfolding plan_told
  told-small n e =
      let t = length-read _ n e in
      omega (arith, t.2, (told-written No.plan_long came t.0 t.1).1)

  -- Behind the entry is a text that is written, and a refusal by a number that is not the entry's.
  read_entered : (text : List ℕ) → came ≡ read text → entry (given_texts lib net) (own_tables before) ≡ read tt
  unfolding plan_outcome
  read_entered text e =
      then-read {C = entry (given_texts lib net) (own_tables before) ≡ read tt} (entry (given_texts lib net) (own_tables before)) _ text (λ u h q. h) e

  refused_entered : (number line : ℕ) → No.of_entry number ≡ false → came ≡ refused number line
      → entry (given_texts lib net) (own_tables before) ≡ read tt
  unfolding plan_outcome
  refused_entered number line behind e =
      then-refused {C = entry (given_texts lib net) (own_tables before) ≡ read tt} (entry (given_texts lib net) (own_tables before)) _ number line
      (λ s. clash (No.of_entry number) (entry-number (given_texts lib net) (texts-checked lib net) (own_tables before) number line s) behind)
      (λ u s t. s) e

-- ---- the number

module _ (lib net before : List ℕ) (tables : Lent) (l v kind : ℕ) (w : Result ℕ Refusal) (p : PlanPromised (given_texts lib net) (own_tables before) tables l v kind (answer_read w))
    (same : length tables.report ≡ length before) (after : List ℕ) (r : Result ℕ Refusal) (limits : Limits No.plan_long (answer_read w) tables.report after (answer_read r)) where
  abbrev came-to : Read (List ℕ)
  came-to = plan_outcome (given_texts lib net) (own_tables before) l v kind

  left : tables.report ≡ left_by came-to before
  unfolding own_tables
  left =
      ap (λ (m : Lent). m.report) p.leaves
      ∙ text-left (given_texts lib net) (texts-checked lib net) (own_tables before) l v kind

  said-refused : (k line : ℕ) → came-to ≡ refused k line → answer_read w ≡ refused k line
  unfolding length_read
  said-refused k line e = p.answers ∙ ap length_read e

  said_read : (text : List ℕ) → came-to ≡ read text → answer_read w ≡ read (length text)
  unfolding length_read
  said_read text e = p.answers ∙ ap length_read e

  told : (answer_read r ≡ length_read (plan_told lib net before l v kind)) × (after ≡ left_by (plan_told lib net before l v kind) before)
  unfolding plan_told
  told = limited No.plan_long refl before tables.report after same (answer_read w) (answer_read r) limits came-to p.answers left

  pub plan-line : LineBelow (answer_read r)
  plan-line = rw told.0 (line-below _ (told-within lib net before l v kind))

  -- Where 19 is not told, what is told is what `write_plan` wrote.
  kept : (o : Read (List ℕ)) → came-to ≡ o → (text_told No.plan_long came-to ≡ refused No.plan_long 0 → ⊥) → text_told No.plan_long came-to ≡ came-to
  kept (refused k line) e h = rw e (unfold text_told ◌>>=◌ in refl)
  kept (read text) e h =
      by_test (leb (length text) most_told)
      (λ t. rw e (told-fits No.plan_long text (leb-true (length text) most_told t)))
      (λ t. absurd (h (rw e (told-long No.plan_long text (leb-false (length text) most_told t)))))

  module _ (said : ℕ) (is : said ≡ code_of (answer_read r)) where
    number : Tells (length_read (plan_told lib net before l v kind)) said
    number =
        tells (length_read (plan_told lib net before l v kind)) (told-within lib net before l v kind) (told-small lib net before l v kind) said
        (is ∙ ap code_of told.0)

    seen : said < code_lines → PlanSeen (given_texts lib net) l v kind after said
    unfolding plan_told
    seen h =
        let t = length-read _ said (told-read number h) in
        let wrote = (told-written No.plan_long came-to t.0 t.1).0 in
        let stands : tables.report ≡ after = left ∙ ap (λ (o : Read (List ℕ)). left_by o before) (wrote ∙ sym t.1) ∙ sym told.1 in
        subst (λ (b : List ℕ). PlanSeen (given_texts lib net) l v kind b said) stands
        (p.seen said (said_read t.0 wrote ∙ ap read (sym t.2)))

    too_long_lem : (pair : Pair) → read_pair (given_texts lib net) ≡ read pair → said / code_lines ≡ No.plan_long
        → (asked_number (analysed pair.cells pair.statements).numbers l v kind ≤ most)
        × ((length before < length (cheapest_text (kind_of kind) pair.cells pair.statements l v))
        ⊎ (most_told < length (cheapest_text (kind_of kind) pair.cells pair.statements l v)))
    unfolding plan_told text_told own_tables
    too_long_lem pair reads h =
        bind_refused came-to (text_within No.plan_long most_told) No.plan_long _
        (λ q.
        let c = (p.accepted pair (refused_entered lib net before l v kind No.plan_long _ refl q) reads).too_long _ (said-refused _ _ q) in
        (c.0, inl c.1))
        (λ text q s.
        let n = (p.accepted pair (read_entered lib net before l v kind text q) reads).written (length text) (said_read text q) in
        let long : most_told < length text =
        by_test (leb (length text) most_told)
        (λ t. refused-read (sym s ∙ text-fits No.plan_long most_told text (leb-true (length text) most_told t)))
        (λ t. leb-false (length text) most_told t) in
        (n.0, inr (omega (arith, n.1))))
        (length-refused _ No.plan_long _ (sym (told-number number No.plan_long (omega arith) h)))

    -- A refusal other than 19 is one of `write_plan`.
    not-long : (k line : ℕ) → text_told No.plan_long came-to ≡ refused k line → (k ≡ No.plan_long → ⊥) → came-to ≡ refused k line
    not-long k line e h =
        sym (kept came-to refl (λ q. let s : k ≡ No.plan_long = cc (sym e ∙ q) in h s)) ∙ e

    refusal-of : (k : ℕ) → 1 ≤ k → (k ≡ No.plan_long → ⊥) → said / code_lines ≡ k → (line : ℕ) × (came-to ≡ refused k line)
    unfolding plan_told
    refusal-of k some other h =
        let e = length-refused _ k _ (sym (told-number number k some h)) in
        (_, not-long k _ e other)

    pub plan-coded : PlanCoded lib net before after l v kind said
    unfolding plan_told
    plan-coded =
        record {
          answers = number;
          leaves = told.1;
          tables = tables;
          promised = rw (← p.answers) p;
          buffer = λ h.
              told.1
              ∙ ap (λ (o : Read (List ℕ)). left_by o before)
              (kept came-to refl (λ q. h ((number.refusal No.plan_long 0).0 (unfold length_read in ap length_read q)).number_is))
              ∙ sym left;
          seen = seen;
          too_long = too_long_lem;
          no_figure = λ pair reads h.
              let e = refusal-of No.no_figure (omega arith) (λ q. omega arith) h in
              (p.accepted pair (refused_entered lib net before l v kind No.no_figure e.0 refl e.1) reads).no_number e.0 (said-refused _ _ e.1);
          table_short = λ h.
              let e = refusal-of No.table_short (omega arith) (λ q. omega arith) h in
              true≢false (sym (p.table_short e.0 (said-refused _ _ e.1)) ∙ own-fit before);
          report_long = λ h. let e = refusal-of No.report_long (omega arith) (λ q. omega arith) h in p.no_report e.0 (said-refused _ _ e.1);
        }
