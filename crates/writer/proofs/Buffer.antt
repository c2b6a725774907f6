-- The laws of a text in a buffer, or a refusal: from the cursor behind the text to the answer, from the answer to what is
-- printed, and from a refusal to its one number and back.
use Rattle.common_laws.proofs.Base.{Bool, false, List, ◌++◌, ◌≡◌, refl, sym, ap, ◌∙◌, ℕ, ◌≤◌, ◌<◌, arith, leb, ltb, length, drop, replicate, length-append, take-append_seam}
use Rattle.common_laws.proofs.Base.{length-sets, le-ltb, lt-ltb, leb-true, leb-false}
use lib.Seq.{drop-append_seam}
use Rattle.reading.specs.Choice.{pick}
use Rattle.reading.specs.Numbers as No
use Rattle.reading.specs.Refusal.{Read, refused, read, ◌>>◌, weigh}
use Rattle.reading.proofs.Bounds.{Within, any_number}
use Rattle.reading.proofs.Laws.{by_test, refused-read}
use Rattle.reading.specs.Answer.{answer_read}
use Rattle.text.specs.Bytes.{bytes}
use Rattle.std.specs.Prelude.{Result}
use Rattle.reading.specs.declared.Refusal.{Refusal}
use Rattle.writer.specs.Put.{Put}
use Rattle.writer.specs.Refused.{refusal_bytes}
use Rattle.writer.specs.Buffer.{text_within, length_read, left_by, Writes, Refuses, Closes, code_lines, refusal_code, Decoded, LineBelow, shown, ShownBy, Prints}
use Rattle.writer.proofs.Decimal.{decimal-length}
use Rattle.writer.proofs.Steps.{put_front}

-- ---- the end of a text

-- A refusal behind the entry is written.
pub refuses-writes : (number line : ℕ) (before after : List ℕ) (said : Result ℕ Refusal) → No.of_entry number ≡ false → Refuses number line before after said
    → Writes (refused number line) before after said
unfolding length_read left_by pick
refuses-writes number line before after said e r = record { answers = r.answers; leaves = rw e r.leaves }

module _ (number space : ℕ) (text : List ℕ) where
  pub text-fits : length text ≤ space → text_within number space text ≡ read text
  unfolding text_within weigh pick ◌>>◌
  text-fits h = rw (le-ltb space (length text) h) refl

  pub text-long : space < length text → text_within number space text ≡ refused number 0
  unfolding text_within weigh pick ◌>>◌
  text-long h = rw (lt-ltb space (length text) h) refl

-- A text put into the front, and the buffer closed.
pub put-closed : (number : ℕ) → No.of_entry number ≡ false → {end : ℕ} {text before mid after : List ℕ} {said : Result ℕ Refusal}
    → Put 0 text before mid end → Closes number end mid after said → Writes (text_within number (length before) text) before after said
unfolding length_read left_by pick
put-closed number e {end} {text} {before} {mid} {after} {said} p c =
    by_test (leb end (length mid))
    (λ t.
    let all : end ≡ length text = omega (arith, leb-true end (length mid) t, p.moved, same) in
    let fits : length text ≤ length before = omega (arith, leb-true end (length mid) t, same) in
    rw (text-fits number (length before) text fits)
    (record { answers = rw (t, all) at c.answers; leaves = rw t at c.leaves ∙ put_front p fits }))
    (λ t.
    let long : length before < length text = omega (arith, leb-false end (length mid) t, p.moved, same) in
    rw (text-long number (length before) text long)
    (record {
      answers = rw t at c.answers;
      leaves = rw e (rw t at c.leaves ∙ ap (λ (n : ℕ). replicate n 0) same);
    }))
  where
    same : length mid ≡ length before
    same = ap length p.stored ∙ length-sets before 0 text

-- ---- what is printed

-- "refused,", two numbers of at most twenty digits, a comma and the line's end.
pub refusal-short : (number line : ℕ) → length (refusal_bytes number line) ≤ 50
unfolding refusal_bytes bytes
refusal-short number line = simp length-append (omega (arith, (decimal-length number).1, (decimal-length line).1))

-- Bytes put into the front.
pub put-prints : {space said : ℕ} {bs before after : List ℕ} → Put 0 bs before after said → length bs ≤ length before → space ≡ length before
    → Prints space bs before after said
put-prints {space} {said} {bs} {before} {after} p h long =
    let end : said ≡ length bs = omega (arith, p.moved) in
    let stands : after ≡ bs ++ drop (length bs) before = put_front p h in
    record {
      answers = end;
      leaves = stands;
      prints = rw (stands, end) (take-append_seam bs (drop (length bs) before));
      within = omega arith;
      long = long ∙ sym (ap length p.stored ∙ length-sets before 0 bs);
    }

-- Bytes that stand in the front.
pub front-prints : {space said : ℕ} {bs before after : List ℕ} (rest : List ℕ) → before ≡ bs ++ rest → said ≡ length bs → after ≡ before
    → space ≡ length before → Prints space bs before after said
front-prints {space} {said} {bs} {before} {after} rest stands end same long =
    record {
      answers = end;
      leaves = same ∙ stands ∙ ap (λ (l : List ℕ). bs ++ l) (sym (drop-append_seam bs rest)) ∙ ap (λ (l : List ℕ). bs ++ drop (length bs) l) (sym stands);
      prints = rw (same, stands, end) (take-append_seam bs rest);
      within = omega (arith, ap length stands, length-append bs rest);
      long = long ∙ ap length (sym same);
    }

-- What a call answers of `o`, made ready: where it is a text, the call left it in the buffer's front.
pub answer-prints : {space said : ℕ} {mid after : List ℕ} (o : Read (List ℕ)) → 50 ≤ space → space ≡ length mid
    → ((text : List ℕ) → o ≡ read text → (rest : List ℕ) × (mid ≡ text ++ rest))
    → ShownBy (length_read o) mid after said → Prints space (shown o) mid after said
unfolding length_read shown ShownBy
answer-prints (refused number line) h long front p = put-prints p (omega (arith, refusal-short number line)) long
answer-prints (read text) h long front p = let f = front text refl in front-prints f.0 f.1 p.0 p.1 long

-- The same of a call that writes what `o` is.
pub writes-prints : {space said : ℕ} {o : Read (List ℕ)} {before mid after : List ℕ} {w : Result ℕ Refusal} → 50 ≤ space → space ≡ length mid
    → Writes o before mid w → ShownBy (answer_read w) mid after said → Prints space (shown o) (left_by o before) after said
unfolding left_by
writes-prints {o = o} {before = before} h long c s =
    rw (← c.leaves)
    (answer-prints o h long (λ text e. (drop (length text) before, c.leaves ∙ ap (λ (x : Read (List ℕ)). left_by x before) e))
    (rw c.answers at s))

-- ---- one number for C

pub decoded : (number line : ℕ) → 1 ≤ number → line < code_lines → Decoded (refusal_code number line) number line
decoded number line h k = record { above = omega arith; number_is = omega arith; line_is = omega arith }

-- A line that is small enough is told.
module _ (n : ℕ) (h : n < code_lines) where
  pub told_line : (o : Read ℕ) → Within any_number n o → LineBelow o
  told_line (refused k l) b number line e = let same : l ≡ line = cc in omega (arith, b.1)
  told_line (read m) b number line e = refused-read (sym e)

pub length-within : (may : ℕ → Bool) (n : ℕ) (o : Read (List ℕ)) → Within may n o → Within may n (length_read o)
unfolding length_read
length-within may n (refused number line) h = h
length-within may n (read text) h = tt

pub text-line : (number space : ℕ) (text : List ℕ) → LineBelow (length_read (text_within number space text))
unfolding text_within weigh pick ◌>>◌ length_read
text-line number space text k line e =
    by_test (ltb space (length text))
    (λ t. let same : 0 ≡ line = cc (rw t at e) in omega arith)
    (λ t. refused-read (sym (rw t at e)))
