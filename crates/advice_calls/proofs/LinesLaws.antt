-- The lines from the highest down, and which of them may be padded.
use Rattle.common_laws.proofs.Base.{Bool, true, false, not, ◌&&◌, ◌||◌, or-false, List, [], ◌∷◌, ◌≡◌, refl, sym, ◌∙◌, ap, ℕ, zero, suc, add-one, ◌+◌, ◌-◌, ◌≤◌, ◌<◌, ℕ_discrete, arith, eq-eqb, ne_eqb, eqb}
use Rattle.common_laws.proofs.Base.{length, get_or, take, set, replicate, length-replicate, length-set, get_or-replicate, take-suc, get_or-set_same, get_or-set_other}
use Rattle.std.proofs.Common.{Option, Some, None}
use Rattle.sizes.specs.Sizes as Size
use Rattle.sizes.specs.Places.{output_place}
use Rattle.reading.specs.Choice.{pick}
use Rattle.reading.proofs.Laws.{by_test}
use Rattle.library_table.specs.Cells.{Cell}
use Rattle.netlist_table.specs.Netlist.{Statement, member, mentioned, is_output, lines_where}
use Rattle.netlist_table.specs.Layout.{output_word}
use Rattle.netlist_table.specs.Lines.{mention_at}
use Rattle.netlist_table.specs.Sound.{InRange}
use Rattle.netlist_table.proofs.Causes.{flag-zero, member-append}
use Rattle.netlist_table.proofs.HeldLines.{mention_held}
use Rattle.netlist_table.proofs.Places.{output-word}
use Rattle.calculation.specs.declared.Advice.{Advice}
use Rattle.calculation.specs.Advice.{allowed, allowed_lines, before, best}
use Rattle.calculation.specs.Stored.{Holds}
use Rattle.advice_calls.specs.Parts.{Barred, Bars, may_pad}

-- ---- a line's range

module _ {l : ℕ} where
  pub line-range : 1 ≤ l → l ≤ Size.lines → InRange l
  unfolding InRange
  line-range low high = (low, high)

  pub line-least : InRange l → 1 ≤ l
  unfolding InRange
  line-least r = r.0

  pub line-most : InRange l → l ≤ Size.lines
  unfolding InRange
  line-most r = r.1

-- ---- the lines above one that are so, ascending

abbrev pub above : (ℕ → Bool) → ℕ → List ℕ
above p l = lines_where p (Size.lines - l) (suc l)

module _ (p : ℕ → Bool) where
  pub above-none : above p Size.lines ≡ []
  unfolding lines_where
  above-none = refl

  pub above-next : (l : ℕ) → 1 ≤ l → l ≤ Size.lines → above p (l - 1) ≡ pick (p l) (l ∷ above p l) (above p l)
  unfolding lines_where
  above-next l low high =
      let e : Size.lines - (l - 1) ≡ suc (Size.lines - l) = omega arith in
      let f : suc (l - 1) ≡ l = omega arith in
      rw (e, f)

  where-few : (n first : ℕ) → length (lines_where p n first) ≤ n
  unfolding lines_where pick
  where-few zero first = omega arith
  where-few (suc n) first =
      let rest = where-few n (suc first) in
      by_test (p first) (λ t. rw t (omega (arith, rest))) (λ t. rw t (omega (arith, rest)))

  pub above-few : (l : ℕ) → length (above p l) ≤ Size.lines - l
  above-few l = where-few (Size.lines - l) (suc l)

  -- The best of them, with one more.
  pub best-next : (f : ℕ → ℕ) (l : ℕ) → 1 ≤ l → l ≤ Size.lines → (found r : Option Advice) → found ≡ best f (above p l)
      → r ≡ pick (p l) (before l (f l) found) found → r ≡ best f (above p (l - 1))
  unfolding best pick
  best-next f l low high found r e s =
      s
      ∙ by_test (p l)
      (λ t. rw (t, e, above-next l low high, t))
      (λ t. rw (t, e, above-next l low high, t))

  pub best-begins : (f : ℕ → ℕ) → None ≡ best f (above p Size.lines)
  unfolding best
  best-begins f = rw above-none

  -- How many there are, with one more.
  pub count-begins : 0 ≡ length (above p Size.lines)
  count-begins = rw above-none

  pub count_next : (l : ℕ) → 1 ≤ l → l ≤ Size.lines → (count r : ℕ) → count ≡ length (above p l)
      → r ≡ pick (p l) (suc count) count → r ≡ length (above p (l - 1))
  unfolding pick
  count_next l low high count r e s =
      s
      ∙ by_test (p l)
      (λ t. rw (t, e, above-next l low high, t))
      (λ t. rw (t, e, above-next l low high, t))

pub allowed-few : (ss : List Statement) (forbidden : List ℕ) → length (allowed_lines ss forbidden) ≤ Size.lines
unfolding allowed_lines
allowed-few ss forbidden = where-few (allowed ss forbidden) Size.lines 1

-- ---- the lines that a list names

pub barred-none : Barred [] (replicate Size.line_places false)
unfolding member
barred-none =
    record {
      size = length-replicate Size.line_places false;
      says = λ l h. get_or-replicate Size.line_places l false false (omega arith);
    }

or-turned : (x y : Bool) → (x || y) ≡ (y || x)
or-turned x true = by_test x (λ t. rw t) (λ t. rw t)
or-turned x false = by_test x (λ t. rw t) (λ t. rw t)

-- One entry more of a list.
pub barred-next : (forbidden : List ℕ) (i : ℕ) → i < length forbidden → (before after : List Bool) → Barred (take i forbidden) before
    → Bars (get_or forbidden i 0) before after → Barred (take (i + 1) forbidden) after
barred-next forbidden i inside before after b s =
    record {
      size = s.size ∙ b.size;
      says = λ l h. s.says l h ∙ ap (λ (x : Bool). eqb (get_or forbidden i 0) l || x) (b.says l h) ∙ sym (named l);
    }
  where
    alone : (l : ℕ) → member l (get_or forbidden i 0 ∷ []) ≡ eqb (get_or forbidden i 0) l
    alone l = unfold member in or-false (eqb (get_or forbidden i 0) l)

    named : (l : ℕ) → member l (take (i + 1) forbidden) ≡ (eqb (get_or forbidden i 0) l || member l (take i forbidden))
    named l =
        rw (add-one i, take-suc forbidden i 0 inside)
        (member-append l (take i forbidden) (get_or forbidden i 0 ∷ [])
        ∙ ap (λ (x : Bool). member l (take i forbidden) || x) (alone l)
        ∙ or-turned (member l (take i forbidden)) (eqb (get_or forbidden i 0) l))

-- ---- which lines may be padded

module _ {library netlist : List ℕ} {cells : List Cell} {ss : List Statement} (h : Holds library netlist cells ss) where
  output-free : (l : ℕ) → InRange l → eqb (get_or netlist (output_place l) 0) 0 ≡ not (is_output l ss)
  unfolding output_word InRange
  output-free l r =
      rw h.statements_stand (ap (λ (n : ℕ). eqb n 0) (output-word ss h.past l r.0 r.1) ∙ flag-zero (is_output l ss))

  said-held : (l : ℕ) → InRange l → mention_at netlist l ≡ mentioned l ss
  unfolding InRange
  said-held l r = rw h.statements_stand (mention_held ss h.past l r.0 r.1)

  pub may-allowed : (forbidden : List ℕ) (barred : List Bool) → Barred forbidden barred → (l : ℕ) → InRange l → may_pad netlist barred l ≡ allowed ss forbidden l
  unfolding allowed
  may-allowed forbidden barred b l r =
      let most : l ≤ Size.lines = unfold InRange in r.1 in
      rw (said-held l r, b.says l most, output-free l r)
