-- What all calls over texts share: the entry, what is read behind it, what is answered of that, and what is left in what was
-- lent. Document 01, "Where a text stops" and "Callers". A call is a record, and what is its own.
use Rattle.std.specs.Prelude.{true, false, List, [], ◌∷◌, ◌≡◌, ℕ, ltb, length, replicate}
use Rattle.reading.specs.Numbers as No
use Rattle.reading.specs.Refusal.{Read, refused, read, ◌>>=◌, ◌>>◌, weigh}
use Rattle.demands.specs.Outcome.{Given, Pair, read_pair}

-- `A` is what is read, `B` what is answered, `M` what is lent.
pub record Call (A B M : Type 0) : Type 0 where
  -- The checks of the entry, at line 0, then what is read.
  pub entry : Read (Unit {0})
  pub reads : Read A
  pub answer : A → B
  -- What is lent, as it was; what a refusal behind the entry leaves of it; and what an accepted call does.
  pub lent : M
  pub later : M
  pub writes : A → M

-- What a call comes to: a refusal, or what was read.
unfoldable pub comes : {A B M : Type 0} → Call A B M → Read A
comes c = c.entry >> c.reads

unfoldable pub answered : {A B M : Type 0} → Call A B M → Read B
answered c = comes c >>= λ a. read (c.answer a)

-- "Entry refusals leave lent memory untouched; later ones leave every table and the report buffer zero."
unfoldable pub left_later : {A B M : Type 0} → Call A B M → Read A → M
left_later c (refused number line) = c.later
left_later c (read a) = c.writes a

unfoldable pub left_from : {A B M : Type 0} → Call A B M → Read (Unit {0}) → M
left_from c (refused number line) = c.lent
left_from c (read u) = left_later c c.reads

unfoldable pub left : {A B M : Type 0} → Call A B M → M
left c = left_from c c.entry

-- What every call keeps: by equation its answer, the refusal and its line, and all that was lent afterwards; and of a refusal,
-- by its number alone, what it leaves.
pub record Kept {A B M : Type 0} (c : Call A B M) (after : M) (said : Read B) : Type 0 where
  pub answers : said ≡ answered c
  pub leaves : after ≡ left c
  pub untouched : (number line : ℕ) → said ≡ refused number line → No.of_entry number ≡ true → after ≡ c.lent
  pub cleared : (number line : ℕ) → said ≡ refused number line → No.of_entry number ≡ false → after ≡ c.later

-- What a call promises that makes no report: what every call keeps; and what is its own of an accepted library and netlist.
pub record Promises {A B M : Type 0} (c : Call A B M) (Own : A → M → Read B → Type 0) (after : M) (said : Read B) : Type 0 where
  pub kept : Kept c after said
  -- "17 report longer than its buffer"
  pub no_report : (line : ℕ) → said ≡ refused No.report_long line → ⊥
  pub accepted : (a : A) → comes c ≡ read a → Own a after said

-- ---- a call over a library and a netlist that is lent one answer

-- "1 a lent table below its published size; 2 a text above 65,535 bytes": the answer is the one table that is lent.
unfoldable pub answer_entry : ℕ → Given → List ℕ → Read (Unit {0})
answer_entry size g before = weigh 0 ((No.table_short, ltb (length before) size) ∷ (No.text_long, g.long) ∷ [])

-- By the published size of the answer, what is given to read, and the answer as it is lent; and by what is answered, and what
-- written, of an accepted library and netlist. Every refusal of the texts leaves the answer zero.
unfoldable pub answer_call : {B : Type 0} → ℕ → Given → List ℕ → (Pair → B) → (Pair → List ℕ) → Call Pair B (List ℕ)
answer_call size g before answer writes =
    record {
      entry = answer_entry size g before;
      reads = read_pair g;
      answer = answer;
      lent = before;
      later = replicate (length before) 0;
      writes = writes;
    }
