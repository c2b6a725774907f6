-- What is printed of two texts, from the promise of `write_plan` on tables of its own and a buffer of 65,536 bytes.
use Rattle.std.specs.Prelude.{Result}
use Rattle.common_laws.proofs.Base.{true≢false, List, ◌≡◌, refl, sym, ap, ◌∙◌, ℕ, arith, length}
use Rattle.sizes.specs.Sizes as Size
use Rattle.reading.specs.Choice.{pick}
use Rattle.reading.specs.Refusal.{Read, refused, read, ◌>>=◌, ◌>>◌}
use Rattle.reading.proofs.Bounds.{text-not-entry}
use Rattle.reading.specs.Answer.{answer_read}
use Rattle.reading.specs.declared.Refusal.{Refusal}
use Rattle.writer.specs.Buffer.{left_by, ShownBy, Writes}
use Rattle.writer.proofs.Buffer.{writes-prints}
use Rattle.demands.specs.Outcome.{Given, Lent, Pair, entry, read_pair, zeroed, given_texts}
use Rattle.demands.specs.Own.{own_tables}
use Rattle.demands.proofs.Given.{Checked, texts-checked}
use Rattle.demands.proofs.EntryChecks.{own-fit}
use Rattle.demands.proofs.Room.{entry-number, pair-number}
use Rattle.plan_calls.specs.Promise.{plan_outcome, tables_filled, plan_filled, plan_later, plan_from, plan_left, PlanPromised}
use Rattle.plan_calls.specs.Printed.{plan_printed, PlanPrinted}

-- What is left in the text buffer, by what the call comes to alone.
pub text-left : (g : Given) → Checked g → (m : Lent) (l v kind : ℕ) → (plan_left g m l v kind).report ≡ left_by (plan_outcome g m l v kind) m.report
unfolding plan_left plan_from plan_later plan_filled tables_filled plan_outcome left_by zeroed pick ◌>>◌ ◌>>=◌
text-left g checked m l v kind = from_entry (entry g m) refl
  where
    from_pair : entry g m ≡ read tt → (o : Read Pair) → read_pair g ≡ o → (plan_left g m l v kind).report ≡ left_by (plan_outcome g m l v kind) m.report
    from_pair e (refused number line) q =
        rw (e, q, text-not-entry number (pair-number g checked number line q)) refl
    from_pair e (read p) q = rw (e, q) refl

    from_entry : (o : Read (Unit {0})) → entry g m ≡ o → (plan_left g m l v kind).report ≡ left_by (plan_outcome g m l v kind) m.report
    from_entry (refused number line) e = rw (e, entry-number g checked m number line e) refl
    from_entry (read u) e = from_pair e (read_pair g) refl

module _ (lib net before : List ℕ) (l v kind : ℕ) (mid : Lent) (w : Result ℕ Refusal)
    (p : PlanPromised (given_texts lib net) (own_tables before) mid l v kind (answer_read w)) where
  writes : Writes (plan_outcome (given_texts lib net) (own_tables before) l v kind) before mid.report w
  unfolding own_tables
  writes =
      record {
        answers = p.answers;
        leaves = ap (λ (m : Lent). m.report) p.leaves
            ∙ text-left (given_texts lib net) (texts-checked lib net) (own_tables before) l v kind;
      }

  pub plan-printed : Size.report_bytes ≡ length mid.report → (after : List ℕ) (said : ℕ) → ShownBy (answer_read w) mid.report after said
      → PlanPrinted lib net l v kind before after said
  unfolding plan_printed own_tables ShownBy
  plan-printed long after said s =
      record {
        bytes =
            rw (text-left (given_texts lib net) (texts-checked lib net) (own_tables before) l v kind) (writes-prints (omega arith) long writes s);
        tables = mid;
        answer = answer_read w;
        promised = p;
        shows = s;
        seen = λ n q. let t = rw q at s in rw (t.0, t.1) (p.seen n q);
        table_short = λ line q. true≢false (sym (p.table_short line q) ∙ own-fit before);
      }
