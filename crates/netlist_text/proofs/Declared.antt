-- What comes behind the lines of a text: refusal 20; and what the reader as a call of its own leaves.
use Rattle.common_laws.proofs.Base.{true, false, true≢false, sym, ◌&&◌, List, ◌++◌, ◌≡◌, ap, ◌∙◌, ℕ, length, drop, replicate}
use Rattle.sizes.specs.Sizes as Size
use Rattle.reading.specs.Choice.{pick}
use Rattle.reading.specs.Numbers as No
use Rattle.reading.specs.Refusal.{Read, refused, read, ◌>>=◌, ◌>>◌, weigh}
use Rattle.reading.specs.Answer.{answer_read, done_read}
use Rattle.std.specs.Prelude.{Result, Ok, Err, MatchResult}
use Rattle.reading.specs.declared.Refusal.{Refusal}
use Rattle.reading.proofs.Laws.{refused-read, done_read_lem, done_refused}
use Rattle.library_table.specs.Cells.{Cell}
use Rattle.netlist_table.specs.declared.Rules.{Rules}
use Rattle.netlist_table.specs.Netlist.{Statement, declaring, text_statements, undeclared_lines, some_line, declared, netlist}
use Rattle.netlist_table.specs.Layout.{netlist_words, NetlistHolds, netlist_after}
use Rattle.netlist_table.specs.Admission.{some_undeclared}
use Rattle.netlist_table.specs.Sound.{Sound}
use Rattle.netlist_table.proofs.Laws.{text-sound}
use Rattle.netlist_table.proofs.OpenLines.{some_same, declared-read}
use Rattle.netlist_text.specs.Reader.{Fills, ReadsAs}

module _ {cells : List Cell} (rules : Rules) (table : List ℕ) (ss : List Statement) (so : Sound cells ss) (h : NetlistHolds table ss) where
  pub declares-refused : (declaring rules && some_undeclared table) ≡ true → refused No.undeclared 0 ≡ done_read (declared rules ss)
  unfolding declared weigh pick ◌>>◌ done_read
  declares-refused t =
      let e : (declaring rules && some_line (undeclared_lines ss)) ≡ true = rw (← some_same h so) t in
      rw e

  pub declares-read : (declaring rules && some_undeclared table) ≡ false → read tt ≡ done_read (declared rules ss)
  unfolding declared weigh pick ◌>>◌ done_read
  declares-read t =
      let e : (declaring rules && some_line (undeclared_lines ss)) ≡ false = rw (← some_same h so) t in
      rw e

-- ---- the lines of a text, and what comes behind them

module _ (rules : Rules) (cells : List Cell) (text before after : List ℕ) where
  pub all-refused : (r : Refusal) → Fills (text_statements rules cells text) before (Err r) after
      → Fills (netlist rules cells text) before (Err r) after
  unfolding netlist ◌>>=◌ answer_read done_read
  all-refused r lines =
      let stop = done_refused (text_statements rules cells text) r.number r.line lines.answers in
      record { answers = rw stop; filled = λ ss e. refused-read (rw stop at e) }

  -- Behind an accepted text the table stays as it is.
  pub all_read : Fills (text_statements rules cells text) before (Ok tt) after → (w : Result (Unit {0}) Refusal)
      → ((ss : List Statement) → Sound cells ss → NetlistHolds after ss → answer_read w ≡ done_read (declared rules ss))
      → Fills (netlist rules cells text) before w after
  unfolding netlist ◌>>=◌
  all_read lines w declares =
      done_read_lem (text_statements rules cells text) (unfold answer_read in lines.answers)
      (λ ss e.
      let words = lines.filled ss e in
      let said = declares ss (text-sound cells rules text ss e) (record { past = drop Size.netlist before; words = words }) in
      record {
        answers = rw e said;
        filled =
            λ ts z.
            words ∙ ap (λ (l : List Statement). netlist_words l ++ drop Size.netlist before) (declared-read rules ss ts (rw e at z));
      })

-- ---- the call of its own, into a table that was cleared before

pub whole_matched : (o : Read (List Statement)) (before mid filled : List ℕ) (v : Result (Unit {0}) Refusal) (after : List ℕ) → Fills o mid v filled
    → drop Size.netlist mid ≡ drop Size.netlist before → MatchResult v (λ _. after ≡ filled) (λ _. after ≡ replicate (length before) 0)
    → ReadsAs o before v after
unfolding netlist_after
whole_matched o before mid filled (Ok u) after fills past m =
    done_read_lem o (unfold answer_read in fills.answers)
    (λ ss e. record { answers = fills.answers; leaves = m ∙ fills.filled ss e ∙ rw (e, past) })
whole_matched o before mid filled (Err r) after fills past m =
    let stop = done_refused o r.number r.line (unfold answer_read in fills.answers) in
    record { answers = fills.answers; leaves = m ∙ rw stop }
