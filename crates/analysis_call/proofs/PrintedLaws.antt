-- What is printed of two texts, from the answer of the analysis on tables of the published sizes and a buffer of 65,536 bytes:
-- 1 cannot arise there, and 17 goes by that buffer.
use Rattle.std.specs.Prelude.{Result, Ok, Err}
use Rattle.common_laws.proofs.Base.{◌||◌, List, [], ◌∷◌, ◌++◌, ◌≡◌, refl, sym, ap, ◌∙◌, ℕ, arith, ltb, length, drop, take-append_seam}
use Rattle.sizes.specs.Sizes as Size
use Rattle.reading.specs.Numbers as No
use Rattle.reading.specs.Refusal.{Read, refused, read, ◌>>=◌, ◌>>◌, weigh}
use Rattle.reading.specs.declared.Refusal.{Refusal}
use Rattle.reading.proofs.Laws.{refused-read, then-read}
use Rattle.library_table.specs.Cells.{Cell}
use Rattle.netlist_table.specs.Netlist.{Statement}
use Rattle.writer.specs.Put.{Put}
use Rattle.writer.specs.Refused.{refusal_bytes}
use Rattle.writer.specs.Buffer.{text_within, length_read, shown, ShownBy}
use Rattle.writer.proofs.Buffer.{answer-prints}
use Rattle.demands.specs.declared.Summary.{Summary}
use Rattle.reading.specs.Answer.{answer_read}
use Rattle.demands.specs.Demands.{Promised}
use Rattle.demands.specs.Outcome as O
use Rattle.demands.proofs.EntryChecks.{own-entry}
use Rattle.demands.specs.Outcome.{Given, Lent, given_by, given_texts}
use Rattle.demands.specs.Own.{own_tables}
use Rattle.demands.specs.Printed.{reported, printed}
use Rattle.analysis_call.specs.Printed.{shown_of, Printed}

-- ---- what the analysis comes to

reports_of : Read O.Accepted → Read (List ℕ)
reports_of (refused number line) = refused number line
reports_of (read a) = read a.report

reports-then : (r : Read (Unit {0})) (o : Read O.Accepted) (t : Read (List ℕ)) → reports_of o ≡ t → reports_of (r >> o) ≡ (r >> t)
unfolding reports_of ◌>>◌
reports-then (refused number line) o t e = refl
reports-then (read u) o t e = e

reports_bind : {A : Type 0} (r : Read A) (f : A → Read O.Accepted) (g : A → Read (List ℕ)) → ((a : A) → reports_of (f a) ≡ g a)
    → reports_of (r >>= f) ≡ (r >>= g)
unfolding reports_of ◌>>=◌
reports_bind (refused number line) f g same = refl
reports_bind (read a) f g same = same a

-- The report's length, of an analysis that is accepted.
pub report_length : Read Summary → Read ℕ
report_length o = o >>= λ s. read s.length

lengths_by : (o : Read O.Accepted) → report_length (O.answer o) ≡ length_read (reports_of o)
unfolding O.answer O.summary reports_of length_read report_length ◌>>=◌
lengths_by (refused number line) = refl
lengths_by (read a) = refl

-- 17 goes by the buffer.
concluded-reported : (cells : List Cell) (ss : List Statement) (space : ℕ)
    → reports_of (O.conclude cells ss space) ≡ text_within No.report_long space (O.reports cells ss)
unfolding O.conclude text_within
concluded-reported cells ss space =
    reports-then (weigh 0 ((No.report_long, ltb space (length (O.reports cells ss))) ∷ [])) _ (read (O.reports cells ss)) (unfold reports_of in refl)

module _ (lib net before : List ℕ) where
  abbrev given : Given
  given = given_texts lib net

  abbrev lent : Lent
  lent = own_tables before

  tables_long : O.entry given lent ≡ weigh 0 ((No.text_long, O.text_long lib || O.text_long net) ∷ [])
  tables_long = own-entry _ lib net before

  outcome-reported : Size.report_bytes ≡ length before → reports_of (O.outcome given lent) ≡ reported lib net
  unfolding O.outcome O.reading own_tables reported
  outcome-reported room =
      rw tables_long
      (reports-then (weigh 0 ((No.text_long, O.text_long lib || O.text_long net) ∷ [])) _ _
      (reports_bind (O.read_pair given) _ _
      (λ p. rw (← room) (concluded-reported p.cells p.statements Size.report_bytes))))

  filled_by : (a : O.Accepted) → O.outcome given lent ≡ read a → (O.left given lent).report ≡ a.report ++ drop (length a.report) before
  unfolding O.outcome O.left O.left_from O.left_later O.filled own_tables
  filled_by a e = then-read (O.entry given lent) _ a (λ u p q. rw (p, q)) e

  -- ---- what the analysis answers and leaves is what is printed

  module _ (room : Size.report_bytes ≡ length before) (after : Lent) (same : length after.report ≡ length before) (said : Read Summary)
      (p : Promised given lent after said) where
    left_by_lem : after.report ≡ (O.left given lent).report
    left_by_lem = ap (λ (m : Lent). m.report) p.leaves

    came : reports_of (O.outcome given lent) ≡ reported lib net
    came = outcome-reported room

    lengths : report_length said ≡ length_read (reported lib net)
    lengths = rw p.answers (lengths_by (O.outcome given lent) ∙ ap length_read came)

    front_by : (o : Read O.Accepted) → O.outcome given lent ≡ o → (text : List ℕ) → reports_of o ≡ read text → (rest : List ℕ) × (after.report ≡ text ++ rest)
    unfolding reports_of
    front_by (refused number line) q text e = refused-read e
    front_by (read a) q text e =
        let is : a.report ≡ text = cc in
        (drop (length a.report) before, left_by_lem ∙ filled_by a q ∙ ap (λ (t : List ℕ). t ++ drop (length a.report) before) is)

    shows_by : (o : Read O.Accepted) → O.outcome given lent ≡ o → shown (reports_of o) ≡ shown_of (O.answer o) after.report
    unfolding reports_of O.answer O.summary shown shown_of
    shows_by (refused number line) q = refl
    shows_by (read a) q = rw (left_by_lem ∙ filled_by a q) (sym (take-append_seam a.report (drop (length a.report) before)))

    pub analysis-printed : (last : List ℕ) (n : ℕ) → ShownBy (report_length said) after.report last n → Printed lib net before last n
    unfolding printed
    analysis-printed last n s =
        record {
          bytes =
              rw (← left_by_lem)
              (answer-prints (reported lib net) (omega arith) (room ∙ sym same)
              (λ text e. front_by (O.outcome given lent) refl text (came ∙ e))
              (rw lengths at s));
          tables = after;
          answer = said;
          promised = p;
          shows =
              ap shown (sym came) ∙ shows_by (O.outcome given lent) refl
              ∙ ap (λ (a : Read Summary). shown_of a after.report) (sym p.answers);
        }

-- ---- the same by the answer of the code

pub accepted-shown : (r : Result Summary Refusal) (s : Summary) (report : List ℕ) → r ≡ Ok s → ShownBy (report_length (answer_read r)) report report s.length
unfolding answer_read report_length ShownBy ◌>>=◌
accepted-shown r s report e = rw e (refl, refl)

pub refused-shown : (r : Result Summary Refusal) (x : Refusal) (report last : List ℕ) (next : ℕ) → r ≡ Err x → Put 0 (refusal_bytes x.number x.line) report last next
    → ShownBy (report_length (answer_read r)) report last next
unfolding answer_read report_length ShownBy ◌>>=◌
refused-shown r x report last next e put = rw e put
