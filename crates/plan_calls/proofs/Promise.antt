-- From the parts of the call to its promise.
use Rattle.std.specs.Prelude.{Ok, Err}
use Rattle.common_laws.proofs.Base.{true, false, true≢false, List, ◌≡◌, refl, sym, ap, subst, ◌∙◌, ℕ, arith, eqb-true, eqb, length, drop, replicate}
use Rattle.sizes.specs.Sizes as Size
use Rattle.reading.specs.Choice.{pick}
use Rattle.reading.specs.Numbers as No
use Rattle.reading.specs.Refusal.{Read, refused, read, ◌>>=◌, ◌>>◌, weigh}
use Rattle.reading.specs.declared.Refusal.{Refusal}
use Rattle.reading.proofs.Bounds.{Within, text-not-entry, within-then, within-weigh}
use Rattle.reading.proofs.Laws.{by_test, clash, refused-read, bind_read, then-read, bind_refused, then-refused}
use Rattle.library_table.specs.Cells.{Cell}
use Rattle.netlist_table.specs.Netlist.{Statement}
use Rattle.writer.specs.Buffer.{text_within, length_read, left_by}
use Rattle.calculation.specs.Stored.{Holds}
use Rattle.demands.specs.Answer.{lent_of}
use Rattle.demands.specs.Demands.{NumbersStand}
use Rattle.demands.specs.Outcome.{Given, Lent, Pair, entry, read_pair, table_short, zeroed}
use Rattle.demands.proofs.Acceptance.{read_as}
use Rattle.demands.proofs.Given.{Checked}
use Rattle.demands.proofs.Room.{entry-number, entry-short, pair-number, pair-sound}
use Rattle.demands.proofs.Numbers.{numbers-stand}
use Rattle.analysis_texts.specs.declared.Stop.{Stop}
use Rattle.analysis_texts.specs.declared.Stop.TheVariants.{AtEntry, Later}
use Rattle.analysis_texts.specs.Progress.{Progress, refusal_of, left_at, Reached}
use Rattle.analysis_texts.proofs.Reached.{stands_hold, zeroed-same}
use Rattle.plan_calls.specs.Concluded.{plan_read, PlanConcluded, PlanMade}
use Rattle.plan_calls.specs.Promise.{own_number, plan_outcome, tables_filled, plan_filled, plan_later, plan_from, plan_left, PlanSeen, PlanRefusals, PlanPromised}

pub plan-number : (cells : List Cell) (ss : List Statement) (l v kind space number line : ℕ) → plan_read cells ss l v kind space ≡ refused number line
    → own_number number ≡ true
unfolding plan_read text_within
plan-number cells ss l v kind space number line e =
    (subst (Within own_number 0) e
    (within-then own_number 0 (weigh 0 _) _ (within-weigh own_number 0 0 _ (omega arith) refl)
    (within-then own_number 0 (weigh 0 _) _ (within-weigh own_number 0 0 _ (omega arith) refl) tt))).0

-- Neither is one of the entry.
own-not-entry : (number : ℕ) → own_number number ≡ true → No.of_entry number ≡ false
own-not-entry number h =
    by_test (eqb number No.no_figure)
    (λ t. ap No.of_entry (eqb-true number No.no_figure t))
    (λ t.
    by_test (eqb number No.plan_long)
    (λ u. ap No.of_entry (eqb-true number No.plan_long u))
    (λ u. clash (own_number number) h (rw (t, u) refl)))

pub length-refused : (o : Read (List ℕ)) (number line : ℕ) → refused number line ≡ length_read o → o ≡ refused number line
unfolding length_read
length-refused (refused n k) number line e = cc
length-refused (read text) number line e = refused-read e

length-read : (o : Read (List ℕ)) (n : ℕ) → read n ≡ length_read o → (text : List ℕ) × (o ≡ read text)
unfolding length_read
length-read (refused number line) n e = refused-read (sym e)
length-read (read text) n e = (text, refl)

module _ (g : Given) (m : Lent) (l v kind : ℕ) where
  -- A refusal is one of the entry, of what is read, or of the plan.
  pub plan-refused-where : {B : Type 0} (number line : ℕ) → plan_outcome g m l v kind ≡ refused number line → (entry g m ≡ refused number line → B)
      → (read_pair g ≡ refused number line → B)
      → ((p : Pair) → plan_read p.cells p.statements l v kind (length m.report) ≡ refused number line → B) → B
  unfolding plan_outcome
  plan-refused-where number line e at_entry_lem later last =
      then-refused (entry g m) _ number line at_entry_lem
      (λ u p q. bind_refused (read_pair g) _ number line later (λ x r t. last x t) q) e

  module _ (checked : Checked g) where
    -- Nobody reports here.
    never-long : (line : ℕ) → plan_outcome g m l v kind ≡ refused No.report_long line → ⊥
    never-long line e =
        plan-refused-where No.report_long line e
        (λ p. true≢false (sym (entry-number g checked m No.report_long line p)))
        (λ p. true≢false (sym (pair-number g checked No.report_long line p)))
        (λ x p. true≢false (sym (plan-number x.cells x.statements l v kind (length m.report) No.report_long line p)))

    -- 1 comes of the tables that are lent.
    short_only : (line : ℕ) → plan_outcome g m l v kind ≡ refused No.table_short line → table_short m ≡ true
    short_only line e =
        plan-refused-where No.table_short line e (entry-short g checked m line)
        (λ p. absurd (true≢false (sym (pair-number g checked No.table_short line p))))
        (λ x p. absurd (true≢false (sym (plan-number x.cells x.statements l v kind (length m.report) No.table_short line p))))

    -- What a refusal leaves, by where it is made.
    left-where : {B : Type 0} (number line : ℕ) → plan_outcome g m l v kind ≡ refused number line
        → (entry g m ≡ refused number line → plan_left g m l v kind ≡ m → B)
        → (read_pair g ≡ refused number line → plan_left g m l v kind ≡ zeroed m → B)
        → ((p : Pair) → read_pair g ≡ read p → own_number number ≡ true → plan_left g m l v kind ≡ tables_filled p m (replicate (length m.report) 0) → B)
        → B
    unfolding plan_outcome plan_left plan_from plan_later plan_filled left_by pick
    left-where number line e at_entry_lem later last =
        then-refused (entry g m) _ number line (λ q. at_entry_lem q (rw q refl))
        (λ u p q.
        bind_refused (read_pair g) _ number line (λ r. later r (rw (p, r) refl))
        (λ x r t.
        let own = plan-number x.cells x.statements l v kind (length m.report) number line t in
        last x r own (rw (p, r, t, own-not-entry number own) refl)) q) e

    module _ (after : Lent) (said : Read ℕ) (a : said ≡ length_read (plan_outcome g m l v kind)) (b : after ≡ plan_left g m l v kind) where
      came : {number line : ℕ} → said ≡ refused number line → plan_outcome g m l v kind ≡ refused number line
      came {number} {line} q = length-refused (plan_outcome g m l v kind) number line (sym q ∙ a)

      refusals : PlanRefusals g m after said
      unfolding plan_outcome length_read plan_left plan_from plan_later tables_filled zeroed ◌>>◌ ◌>>=◌
      refusals =
          record {
            at_entry = λ number line e. (rw e at a, rw e at b);
            of_texts = λ e number line r. (rw (e, r) at a, rw (e, r) at b);
            of_plan = λ e p r number line q.
                left-where number line (came q) (λ s z. refused-read (sym s ∙ e)) (λ s z. refused-read (sym s ∙ r))
                (λ x s own z.
                let same : x ≡ p = cc (sym s ∙ r) in
                (own, b ∙ z ∙ ap (λ (y : Pair). tables_filled y m (replicate (length m.report) 0)) same));
            untouched = λ number line q h.
                left-where number line (came q) (λ s z. b ∙ z)
                (λ s z. clash (No.of_entry number) h (text-not-entry number (pair-number g checked number line s)))
                (λ x s own z. clash (No.of_entry number) h (own-not-entry number own));
            cleared = λ number line q h.
                left-where number line (came q) (λ s z. clash (No.of_entry number) (entry-number g checked m number line s) h)
                (λ s z. ap (λ (y : Lent). y.report) (b ∙ z)) (λ x s own z. ap (λ (y : Lent). y.report) (b ∙ z));
          }

      stands : (p : Pair) → entry g m ≡ read tt → read_pair g ≡ read p → NumbersStand p.cells p.statements after.numbers
      unfolding plan_left plan_from plan_later plan_filled tables_filled
      stands p e r =
          let h = read_as g p r in
          numbers-stand
          (pair-sound g checked (record { cells = p.cells; statements = p.statements; cells_read = h.cells; statements_read = h.statements }))
          after.numbers (drop Size.numbers m.numbers) (ap (λ (y : Lent). y.numbers) (rw (e, r) at b))

      -- A text is written of an accepted library and netlist alone.
      seen : ((p : Pair) → entry g m ≡ read tt → read_pair g ≡ read p → PlanConcluded p.cells p.statements l v kind m.report after.report said)
          → (n : ℕ) → said ≡ read n → PlanSeen g l v kind after.report n
      unfolding plan_outcome
      seen c n q =
          let t = length-read (plan_outcome g m l v kind) n (sym q ∙ a) in
          then-read (entry g m) _ t.0
          (λ u e rest.
          bind_read (read_pair g) _ t.0
          (λ p r last.
          let d = c p e r in
          let w = d.written n q in
          let best = d.plan w.0 in
          record {
            pair = p;
            was_read = r;
            cheapest = best;
            size = w.1 ∙ ap length best.text;
            bytes = w.2 ∙ best.text;
          }) rest) t.1

    keeps : (after : Lent) (said : Read ℕ) → said ≡ length_read (plan_outcome g m l v kind) → after ≡ plan_left g m l v kind
        → ((p : Pair) → entry g m ≡ read tt → read_pair g ≡ read p → PlanConcluded p.cells p.statements l v kind m.report after.report said)
        → PlanPromised g m after l v kind said
    keeps after said a b c =
        record {
          answers = a;
          leaves = b;
          no_report = λ line q. never-long line (came after said a b q);
          table_short = λ line q. short_only line (came after said a b q);
          refusals = refusals after said a b;
          seen = seen after said a b c;
          stands = stands after said a b;
          accepted = c;
        }

    -- ---- from where reading left the call

    module _ (library' netlist' : List ℕ) (s : Progress) (h : Reached g (entry g m) m.library m.netlist library' netlist' s) where
      call-entry : (r : Refusal) → s ≡ Err (AtEntry r)
          → PlanPromised g m (lent_of library' netlist' m.numbers m.report) l v kind (refused r.number r.line)
      unfolding Reached plan_outcome length_read plan_left plan_from ◌>>◌
      call-entry r e =
          let q = rw e at h in
          keeps _ (refused r.number r.line) (rw q.0 refl) (rw q.0 (λ i. lent_of (q.1 i) (q.2 i) m.numbers m.report))
          (λ p a b. refused-read (sym q.0 ∙ a))

      call_later : (r : Refusal) → s ≡ Err (Later r) → length library' ≡ length m.library → length netlist' ≡ length m.netlist
          → (after : Lent) → after ≡ zeroed (lent_of library' netlist' m.numbers m.report)
          → PlanPromised g m after l v kind (refused r.number r.line)
      unfolding Reached plan_outcome length_read plan_left plan_from plan_later ◌>>◌ ◌>>=◌
      call_later r e same-library same-netlist after z =
          let q = rw e at h in
          keeps after (refused r.number r.line) (rw (q.0, q.1) refl) (rw (q.0, q.1) (z ∙ zeroed-same m library' netlist' same-library same-netlist))
          (λ p a b. refused-read (sym q.1 ∙ b))

      pub call-stopped : (stop : Stop) → s ≡ Err stop → length library' ≡ length m.library → length netlist' ≡ length m.netlist
          → (after : Lent) → after ≡ left_at stop (lent_of library' netlist' m.numbers m.report) (zeroed (lent_of library' netlist' m.numbers m.report))
          → (x : Refusal) → x ≡ refusal_of stop → PlanPromised g m after l v kind (refused x.number x.line)
      unfolding left_at
      call-stopped (AtEntry r) e same-library same-netlist after left x told = rw (left, told) (call-entry r e)
      call-stopped (Later r) e same-library same-netlist after left x told = rw told (call_later r e same-library same-netlist after left)

      pub call-made : s ≡ Ok tt → (numbers' text' : List ℕ) (told : Read ℕ)
          → ((cells : List Cell) (ss : List Statement) → Holds library' netlist' cells ss
          → PlanMade cells ss l v kind m.numbers m.report numbers' text' told)
          → PlanPromised g m (lent_of library' netlist' numbers' text') l v kind told
      unfolding Reached plan_outcome length_read plan_left plan_from plan_later plan_filled tables_filled ◌>>◌ ◌>>=◌
      call-made e numbers' text' told f =
          let q = rw e at h in
          let b = q.1 in
          let made = f b.pair.cells b.pair.statements (stands_hold g m.library m.netlist checked library' netlist' b) in
          keeps _ told (rw (q.0, b.reads) made.concluded.answers)
          (rw (q.0, b.reads) (λ i. lent_of (b.cells_stand i) (b.statements_stand i) (made.numbers_stand i) (made.concluded.leaves i)))
          (λ p a r.
          let same : b.pair ≡ p = cc (sym b.reads ∙ r) in
          subst (λ (x : Pair). PlanConcluded x.cells x.statements l v kind m.report text' told) same made.concluded)
