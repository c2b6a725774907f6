-- A pad, and its line as the only output: what falls with the pad, and what falls at no prices within the ranges. No code cites
-- this page yet: request E3 is to (D198).
use Rattle.common_laws.proofs.Base.{Bool, true, false, ◌||◌, or-true, List, [], ◌∷◌, ◌++◌, flat_map, inl, inr, ⊎_elim, ◌≡◌, refl, sym, ◌∙◌, ap, ℕ, ◌≤◌}
use Rattle.common_laws.proofs.Base.{min, le_refl, le_antisymm, le_of_eq, arith, eqb, ltb, lt-ltb, le-ltb, ltb-true, ltb-false}
use Rattle.reading.specs.Choice.{pick}
use Rattle.reading.specs.Each.{Each}
use Rattle.reading.proofs.Laws.{by_test, clash, each_map, or_left, or_right, or_cases}
use Rattle.plans.proofs.Laws.{stands-none-less}
use Rattle.library_table.specs.Cells.{Cell}
use Rattle.netlist_table.specs.Netlist.{Statement, mark, gate, priced, input, output, opened, member, lines_of, lines_marked, lines_claimed, lines_ranged, gates_in, ranges_in, gates_of, ranges_of, mentioned, mentioned_lines, is_marked, is_input, is_output, marked_lines, claimed_lines, ranged_lines, some_range, some_line, low_price, high_price, has_range}
use Rattle.netlist_table.specs.Sound.{InRange, LinesInRange, RangeSound, Apart}
use Rattle.netlist_table.proofs.Causes.{member-append}
use Rattle.netlist_table.proofs.Pad.{pad-gates, pad-inputs, pad-outputs}
use Rattle.calculation.specs.Nodes.{Kind, combinational, sequential, observe}
use Rattle.calculation.specs.Prices.{Pricing, Figures, WithinRanges, input_cost}
use Rattle.calculation.specs.Acceptance.{BothSound}
use Rattle.calculation.specs.Added.{OutputsParted}
use Rattle.calculation.specs.LinePlans.{cost_at}
use Rattle.calculation.specs.Pads.{takes_none}
use Rattle.calculation.specs.Advice.{with_pad}
use Rattle.calculation.specs.Effects.{unmarked, alone, seen_at, may_fall, falls_at, PadLesser, Untouched, NeverFalls, FallsJust}
use Rattle.calculation.proofs.Prices.{within-ends, within-figures, low-within, high-within}
use Rattle.calculation.proofs.Exactness.{exact}
use Rattle.calculation.proofs.Between.{number_rises}
use Rattle.calculation.proofs.Pads.{both-sound, pad-added, taken-said, taken_free}
use Rattle.calculation.proofs.Parted.{parted-number}

-- ---- a netlist without its marks of outputs

flat : {A : Type 0} (f : Statement → List A) → ((l : ℕ) → f (mark output l) ≡ []) → (ss : List Statement) → flat_map f (unmarked ss) ≡ flat_map f ss
unfolding unmarked flat_map
flat f h [] = refl
flat f h (mark input l ∷ ss) = rw (flat f h ss)
flat f h (mark output l ∷ ss) = rw (h l) (flat f h ss)
flat f h (mark opened l ∷ ss) = rw (flat f h ss)
flat f h (gate g ∷ ss) = rw (flat f h ss)
flat f h (priced r ∷ ss) = rw (flat f h ss)

module _ (ss : List Statement) where
  un_gates : gates_of (unmarked ss) ≡ gates_of ss
  unfolding gates_of gates_in
  un_gates = flat gates_in (λ l. refl) ss

  un_marked : marked_lines input (unmarked ss) ≡ marked_lines input ss
  unfolding marked_lines lines_marked pick
  un_marked = flat (lines_marked input) (λ l. refl) ss

  un_inputs : (l : ℕ) → is_input l (unmarked ss) ≡ is_input l ss
  unfolding is_marked
  un_inputs l = ap (member l) un_marked

  un_claimed : claimed_lines (unmarked ss) ≡ claimed_lines ss
  unfolding claimed_lines lines_claimed
  un_claimed = flat lines_claimed (λ l. refl) ss

  un_ranged : ranged_lines (unmarked ss) ≡ ranged_lines ss
  unfolding ranged_lines lines_ranged
  un_ranged = flat lines_ranged (λ l. refl) ss

  un_ranges : ranges_of (unmarked ss) ≡ ranges_of ss
  unfolding ranges_of ranges_in
  un_ranges = flat ranges_in (λ l. refl) ss

un_outputs : (ss : List Statement) → marked_lines output (unmarked ss) ≡ []
unfolding unmarked marked_lines lines_marked pick flat_map
un_outputs [] = refl
un_outputs (mark input l ∷ ss) = un_outputs ss
un_outputs (mark output l ∷ ss) = un_outputs ss
un_outputs (mark opened l ∷ ss) = un_outputs ss
un_outputs (gate g ∷ ss) = un_outputs ss
un_outputs (priced r ∷ ss) = un_outputs ss

un_each : (P : Statement → Type 0) (ss : List Statement) → Each P ss → Each P (unmarked ss)
unfolding unmarked Each
un_each P [] h = tt
un_each P (mark input l ∷ ss) h = (h.0, un_each P ss h.1)
un_each P (mark output l ∷ ss) h = un_each P ss h.1
un_each P (mark opened l ∷ ss) h = (h.0, un_each P ss h.1)
un_each P (gate g ∷ ss) h = (h.0, un_each P ss h.1)
un_each P (priced r ∷ ss) h = (h.0, un_each P ss h.1)

un_sound : (cells : List Cell) (ss : List Statement) → BothSound cells ss → BothSound cells (unmarked ss)
un_sound cells ss sound =
    let n = sound.netlist in
    record {
      library = sound.library;
      netlist = record {
        lines = un_each LinesInRange ss n.lines;
        gates = rw (un_gates ss) n.gates;
        few = rw (un_gates ss) n.few;
        claimed = rw (un_claimed ss) n.claimed;
        marked = rw (un_outputs ss) (unfold Apart in tt);
        ranged = rw (un_ranged ss) n.ranged;
        ranges =
            rw (un_ranges ss)
            (each_map (RangeSound ss) (RangeSound (unmarked ss))
            (λ r h. record { input = un_inputs ss r.line ∙ h.input; least = h.least; order = h.order; most = h.most }) (ranges_of ss) n.ranges);
      };
    }

or-other : (a b : Bool) → a ≡ false → (a || b) ≡ true → b ≡ true
or-other a b h e = rw h at e

-- A line that is no output is none of the later statements; and it is mentioned first or later.
later : (l : ℕ) (s : Statement) (ss : List Statement) → member l (lines_marked output s ++ flat_map (lines_marked output) ss) ≡ false → member l (flat_map (lines_marked output) ss) ≡ false
later l s ss h = or_right (member l (lines_marked output s)) (member l (flat_map (lines_marked output) ss)) (sym (member-append l (lines_marked output s) (flat_map (lines_marked output) ss)) ∙ h)

first : (l : ℕ) (s : Statement) (ss : List Statement) → (member l (flat_map lines_of ss) ≡ true → member l (flat_map lines_of (unmarked ss)) ≡ true)
    → member l (lines_of s ++ flat_map lines_of ss) ≡ true → member l (lines_of s ++ flat_map lines_of (unmarked ss)) ≡ true
first l s ss rec h =
    rw (member-append l (lines_of s) (flat_map lines_of (unmarked ss)))
    (by_test (member l (lines_of s)) (λ t. rw t)
    (λ t. rw t (rec (or-other (member l (lines_of s)) (member l (flat_map lines_of ss)) t (sym (member-append l (lines_of s) (flat_map lines_of ss)) ∙ h)))))

-- A line that is no output is mentioned by another statement.
un_mentioned : (l : ℕ) (ss : List Statement) → is_output l ss ≡ false → mentioned l ss ≡ true → mentioned l (unmarked ss) ≡ true
unfolding is_marked mentioned mentioned_lines marked_lines unmarked flat_map
un_mentioned l [] free said = said
un_mentioned l (mark input k ∷ ss) free said = first l (mark input k) ss (un_mentioned l ss (later l (mark input k) ss free)) said
un_mentioned l (mark output k ∷ ss) free said =
    un_mentioned l ss (later l (mark output k) ss free)
    (or-other (eqb k l) (member l (flat_map lines_of ss)) (unfold lines_marked pick member in or_left (eqb k l) (member l (flat_map (lines_marked output) ss)) free)
    (unfold lines_of member in said))
un_mentioned l (mark opened k ∷ ss) free said = first l (mark opened k) ss (un_mentioned l ss (later l (mark opened k) ss free)) said
un_mentioned l (gate g ∷ ss) free said = first l (gate g) ss (un_mentioned l ss (later l (gate g) ss free)) said
un_mentioned l (priced r ∷ ss) free said = first l (priced r) ss (un_mentioned l ss (later l (priced r) ss free)) said

-- ---- the pad

module _ (cells : List Cell) (ss : List Statement) (sound : BothSound cells ss) (l : ℕ) (good : takes_none ss l ≡ false) where
  said : mentioned l ss ≡ true
  said = taken-said ss l good

  free : is_output l ss ≡ false
  free = taken_free ss l good

  none-marked : (k : ℕ) → is_output k (unmarked ss) ≡ false
  unfolding is_marked member
  none-marked k = rw (un_outputs ss)

  with-sound : BothSound cells (with_pad ss l)
  with-sound = both-sound cells ss l sound said free

  alone-sound : BothSound cells (alone ss l)
  alone-sound = both-sound cells (unmarked ss) l (un_sound cells ss sound) (un_mentioned l ss free said) (none-marked l)

  parts : OutputsParted ss (alone ss l) (with_pad ss l)
  parts =
      record {
        left = pad-added cells ss l sound said free;
        right =
            record {
              gates = pad-gates ss l ∙ sym (un_gates ss) ∙ sym (pad-gates (unmarked ss) l);
              inputs = λ k. pad-inputs ss l k ∙ sym (un_inputs ss k) ∙ sym (pad-inputs (unmarked ss) l k);
              outputs = λ k e. pad-outputs ss l k ∙ rw (alone-output k e) (or-true (is_output k ss));
            };
        either = λ k e.
            ⊎_elim inl (λ t. inr (pad-outputs (unmarked ss) l k ∙ rw t (or-true (is_output k (unmarked ss)))))
            (or_cases (is_output k ss) (eqb l k) (sym (pad-outputs ss l k) ∙ e));
      }
    where
      alone-output : (k : ℕ) → is_output k (alone ss l) ≡ true → eqb l k ≡ true
      alone-output k e = or-other (is_output k (unmarked ss)) (eqb l k) (none-marked k) (sym (pad-outputs (unmarked ss) l k) ∙ e)

  with-figures : (price : Pricing) → Figures price ss → Figures price (with_pad ss l)
  with-figures price f k e = f k (sym (pad-inputs ss l k) ∙ e)

  alone-inputs : (k : ℕ) → is_input k (alone ss l) ≡ is_input k ss
  alone-inputs k = pad-inputs (unmarked ss) l k ∙ un_inputs ss k

  alone-figures : (price : Pricing) → Figures price ss → Figures price (alone ss l)
  alone-figures price f k e = f k (sym (alone-inputs k) ∙ e)

  lesser-of : (price : Pricing) → Figures price ss → (k : Kind) (m : ℕ) → InRange m
      → seen_at price cells (with_pad ss l) k m ≡ min (seen_at price cells ss k m) (seen_at price cells (alone ss l) k m)
  lesser-of price f k m range =
      parted-number cells ss (alone ss l) (with_pad ss l) sound alone-sound with-sound parts price (with-figures price f) k m range

  -- ---- at prices within the ranges

  module _ (m : ℕ) (range : InRange m) where
    low-figures : Figures (low_price ss) ss
    low-figures = within-figures sound (low_price ss) (low-within sound)

    high-figures : Figures (high_price ss) ss
    high-figures = within-figures sound (high_price ss) (high-within sound)

    -- "SC and SO ignore ranges."
    same-so : (rs : List Statement) → BothSound cells rs → (p q : Pricing) → Figures p rs → Figures q rs → seen_at p cells rs sequential m ≡ seen_at q cells rs sequential m
    unfolding input_cost
    same-so rs so p q f g =
        le_antisymm (number_rises cells rs so (observe m) range sequential p q f g (λ k e. le_refl 0))
        (number_rises cells rs so (observe m) range sequential q p g f (λ k e. le_refl 0))

    -- The two tests.
    abbrev so_falls : Bool
    so_falls = ltb (seen_at (low_price ss) cells (with_pad ss l) sequential m) (seen_at (low_price ss) cells ss sequential m)

    abbrev co_may : Bool
    co_may = ltb (seen_at (low_price ss) cells (alone ss l) combinational m) (seen_at (high_price ss) cells ss combinational m)

    module _ (price : Pricing) (w : WithinRanges ss price) where
      here : Figures price ss
      here = within-figures sound price w

      -- Without the pad no higher than at HIGH; with its line as the only output no lower than at LOW.
      upto_high : seen_at price cells ss combinational m ≤ seen_at (high_price ss) cells ss combinational m
      unfolding input_cost
      upto_high = number_rises cells ss sound (observe m) range combinational price (high_price ss) here high-figures (λ k e. (within-ends sound price w k e).1)

      from_low : seen_at (low_price ss) cells (alone ss l) combinational m ≤ seen_at price cells (alone ss l) combinational m
      unfolding input_cost
      from_low =
          number_rises cells (alone ss l) alone-sound (observe m) range combinational (low_price ss) price
          (alone-figures (low_price ss) low-figures) (alone-figures price here) (λ k e. (within-ends sound price w k (sym (alone-inputs k) ∙ e)).0)

      module _ (un : may_fall cells ss l m ≡ false) where
        same_number : (k : Kind) → seen_at price cells (with_pad ss l) k m ≡ seen_at price cells ss k m
        unfolding may_fall
        same_number combinational =
            let h = ltb-false (seen_at (low_price ss) cells (alone ss l) combinational m) (seen_at (high_price ss) cells ss combinational m) (or_right so_falls co_may un) in
            lesser-of price here combinational m range ∙ omega (arith, h, upto_high, from_low)
        same_number sequential =
            let h = ltb-false (seen_at (low_price ss) cells (with_pad ss l) sequential m) (seen_at (low_price ss) cells ss sequential m) (or_left so_falls co_may un) in
            same-so (with_pad ss l) with-sound price (low_price ss) (with-figures price here) (with-figures (low_price ss) low-figures)
            ∙ omega (arith, h, lesser-of (low_price ss) low-figures sequential m range)
            ∙ same-so ss sound (low_price ss) price low-figures here

        pub not_touched : Untouched cells ss l m price
        not_touched =
            record {
              same = same_number;
              none_less = λ k d.
                  stands-none-less (λ q. cost_at price q) (λ q. cost_at price q) (seen_at price cells ss k m)
                  (rw (same_number k) at (exact cells (with_pad ss l) with-sound price (with-figures price here) k (observe m) range))
                  (exact cells ss sound price here k (observe m) range) d;
            }

    -- ---- with no ranges

    none-member : (k : ℕ) (xs : List ℕ) → some_line xs ≡ false → member k xs ≡ false
    unfolding some_line member
    none-member k [] h = refl
    none-member k (x ∷ xs) h = clash true refl h

    less-test : (a b : ℕ) → ltb b a ≡ ltb (min a b) a
    less-test a b =
        by_test (ltb b a) (λ t. t ∙ sym (lt-ltb (min a b) a (omega (arith, ltb-true b a t)))) (λ t. t ∙ sym (le-ltb (min a b) a (omega (arith, ltb-false b a t))))

    module _ (none : some_range ss ≡ false) where
      unranged : (k : ℕ) → has_range k ss ≡ false
      unfolding some_range has_range
      unranged k = none-member k (ranged_lines ss) none

      one-price : (k : ℕ) → is_input k ss ≡ true → high_price ss k ≡ low_price ss k
      one-price k e = (high-within sound).others k e (unranged k) ∙ sym ((low-within sound).others k e (unranged k))

      same_ends : seen_at (high_price ss) cells ss combinational m ≡ seen_at (low_price ss) cells ss combinational m
      unfolding input_cost
      same_ends =
          le_antisymm (number_rises cells ss sound (observe m) range combinational (high_price ss) (low_price ss) high-figures low-figures (λ k e. le_of_eq (one-price k e)))
          (number_rises cells ss sound (observe m) range combinational (low_price ss) (high_price ss) low-figures high-figures (λ k e. le_of_eq (sym (one-price k e))))

      pub exactly_falls : may_fall cells ss l m ≡ falls_at (low_price ss) cells ss l m
      unfolding may_fall falls_at
      exactly_falls =
          rw (same_ends, lesser-of (low_price ss) low-figures combinational m range)
          (ap (λ (b : Bool). ltb (seen_at (low_price ss) cells (with_pad ss l) sequential m) (seen_at (low_price ss) cells ss sequential m) || b)
          (less-test (seen_at (low_price ss) cells ss combinational m) (seen_at (low_price ss) cells (alone ss l) combinational m)))

pub pad-lesser : PadLesser
pad-lesser cells ss sound l good price f k m range = lesser-of cells ss sound l good price f k m range

pub never_falls : NeverFalls
never_falls cells ss sound l good m range un price w = not_touched cells ss sound l good m range price w un

pub falls_just : FallsJust
falls_just cells ss sound l good m range none = exactly_falls cells ss sound l good m range none
