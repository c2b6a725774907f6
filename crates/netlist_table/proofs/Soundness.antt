-- The facts of statements that were admitted are kept by one statement more.
use Rattle.common_laws.proofs.Base.{Bool, true, false, ◌||◌, List, [], ◌∷◌, ◌++◌, flat_map, inl, inr, Option, none, some, ◌≡◌, refl, sym, ℕ, ◌+◌, ◌≤◌, ◌<◌, arith, eqb, length}
use Rattle.common_laws.proofs.Base.{length-append, ne_eqb, eqb-true, eqb-false, leb-false, not-false}
use Rattle.sizes.specs.Sizes as Size
use Rattle.reading.specs.Choice.{pick}
use Rattle.reading.specs.Each.{Each}
use Rattle.reading.proofs.Laws.{by_test, or_left, or_right, each_append}
use Rattle.library_table.specs.Cells.{Cell}
use Rattle.netlist_table.specs.Lowest.{lowest}
use Rattle.netlist_table.specs.Netlist.{
  Gate,
  Mark,
  input,
  output,
  opened,
  Statement,
  Range,
  mark,
  gate,
  priced,
  kind_of,
  member,
  lines_of,
  lines_marked,
  lines_claimed,
  gates_in,
  lines_ranged,
  ranges_in,
  ranged_lines,
  ranges_of,
  is_marked,
  is_input,
  has_range,
  bounds_bad,
  not_input,
  range_bad,
  marked_lines,
  claimed_lines,
  gates_of,
  line_bad,
  any_line_bad,
  unknown_cell,
  pins_at,
  count_differs,
  any_member,
  driven_before,
  marked_before,
  causes,
}
use Rattle.netlist_table.specs.Admission.{refusal_of, extended}
use Rattle.netlist_table.specs.Ceiling.{GateCeiling}
use Rattle.netlist_table.specs.Sound.{InRange, LinesInRange, GateSound, RangeSound, Apart, Sound}
use Rattle.netlist_table.proofs.LowestCause.{lowest-none}
use Rattle.netlist_table.proofs.Causes.{line_bad-range, member-append, one_more_lem, member-more, causes-counted, bounds-fit}
use Rattle.netlist_table.proofs.Counts.{gates-few}

-- ---- lists of lines

none_of : (x : ℕ) (xs ys : List ℕ) → any_member ys (x ∷ xs) ≡ false → (member x ys ≡ false) × (any_member ys xs ≡ false)
unfolding any_member member
none_of x xs [] h = (refl, refl)
none_of x xs (y ∷ ys) h =
    let rest = none_of x xs ys (or_right (eqb x y || member y xs) (any_member ys (x ∷ xs)) h) in
    let here = or_left (eqb x y || member y xs) (any_member ys (x ∷ xs)) h in
    let other : eqb y x ≡ false = ne_eqb y x (λ e. eqb-false x y (or_left (eqb x y) (member y xs) here) (sym e)) in
    (rw (other, rest.0), rw (or_right (eqb x y) (member y xs) here, rest.1))

apart-append : (xs ys : List ℕ) → Apart xs → Apart ys → any_member ys xs ≡ false → Apart (xs ++ ys)
unfolding Apart
apart-append [] ys a b h = b
apart-append (x ∷ xs) ys a b h =
    let none = none_of x xs ys h in
    (rw (member-append x xs ys, a.0, none.0), apart-append xs ys a.1 b none.1)

in-range : (ls : List ℕ) → any_line_bad ls ≡ false → Each InRange ls
unfolding any_line_bad Each InRange
in-range [] h = tt
in-range (l ∷ ls) h =
    (line_bad-range l (or_left (line_bad l) (any_line_bad ls) h), in-range ls (or_right (line_bad l) (any_line_bad ls) h))

-- ---- the facts of one statement that is admitted

record Clean (cells : List Cell) (ss : List Statement) (s : Statement) : Type 0 where
  good : any_line_bad (lines_of s) ≡ false
  known : unknown_cell cells s ≡ false
  count : count_differs cells s ≡ false
  undriven : driven_before ss s ≡ false
  unmarked : marked_before ss s ≡ false
  input : not_input ss s ≡ false
  within : range_bad ss s ≡ false

clean : (cells : List Cell) (ss : List Statement) (s : Statement) → lowest (causes cells ss s) ≡ 0 → Clean cells ss s
unfolding causes Each
clean cells ss s h =
    let none = lowest-none (causes cells ss s) (causes-counted cells ss s) h in
    record {
      good = none.0;
      known = none.1.0;
      count = none.1.1.0;
      undriven = none.1.1.1.0;
      unmarked = none.1.1.1.1.0;
      input = none.1.1.1.1.1.0;
      within = none.1.1.1.1.1.1.0;
    }

-- A statement drives, and marks, at most one line.
lone_claimed : (s : Statement) → Apart (lines_claimed s)
unfolding lines_claimed Apart member
lone_claimed (mark input l) = (refl, tt)
lone_claimed (mark output l) = tt
lone_claimed (mark opened l) = (refl, tt)
lone_claimed (gate g) = (refl, tt)
lone_claimed (priced r) = tt

lone_marked : (m : Mark) (s : Statement) → Apart (lines_marked m s)
unfolding lines_marked
lone_marked m (mark k l) = go (eqb (kind_of m) (kind_of k))
  where
    go : (b : Bool) → Apart (pick b (l ∷ []) [])
    go true = unfold pick Apart member in (refl, tt)
    go false = unfold pick Apart in tt
lone_marked m (gate g) = unfold Apart in tt
lone_marked m (priced r) = unfold Apart in tt

-- It gives at most one line a range, and none that has one.
lone_ranged : (s : Statement) → Apart (lines_ranged s)
unfolding lines_ranged Apart member
lone_ranged (mark m l) = tt
lone_ranged (gate g) = tt
lone_ranged (priced r) = (refl, tt)

once-ranged : (ss : List Statement) (s : Statement) → range_bad ss s ≡ false → any_member (lines_ranged s) (ranged_lines ss) ≡ false
unfolding lines_ranged range_bad has_range any_member
once-ranged ss (mark m l) h = refl
once-ranged ss (gate g) h = refl
once-ranged ss (priced r) h = rw (or_right (bounds_bad r.low r.high) (member r.line (ranged_lines ss)) h)

-- An input stays one behind more statements, and so a range stays sound.
input_stays : (ss : List Statement) (s : Statement) (l : ℕ) → is_input l ss ≡ true → is_input l (ss ++ (s ∷ [])) ≡ true
unfolding is_marked marked_lines
input_stays ss s l h = rw (member-more l (lines_marked input) ss s, h)

ranges_stay : (ss : List Statement) (s : Statement) (rs : List Range) → Each (RangeSound ss) rs → Each (RangeSound (ss ++ (s ∷ []))) rs
unfolding Each
ranges_stay ss s [] h = tt
ranges_stay ss s (r ∷ rs) h = (
  record { input = input_stays ss s r.line h.0.input; least = h.0.least; order = h.0.order; most = h.0.most },
  ranges_stay ss s rs h.1,
)

module _ (cells : List Cell) where
  more-gates : (ss : List Statement) (s : Statement) → Clean cells ss s → Each (GateSound cells) (gates_in s)
  unfolding gates_in Each lines_of unknown_cell count_differs
  more-gates ss (mark m l) c = tt
  more-gates ss (priced r) c = tt
  more-gates ss (gate g) c =
      let ranges : Each InRange (g.line ∷ g.pins) = in-range (g.line ∷ g.pins) c.good in (
        record {
          known = leb-false (length cells) g.cell c.known;
          count = eqb-true (length g.pins) (pins_at cells g.cell) (not-false _ c.count);
          line = ranges.0;
          pins = ranges.1;
        },
        tt,
      )

  more-ranges : (ss : List Statement) (s : Statement) → Clean cells ss s → Each (RangeSound (ss ++ (s ∷ []))) (ranges_in s)
  unfolding ranges_in Each not_input range_bad
  more-ranges ss (mark m l) c = tt
  more-ranges ss (gate g) c = tt
  more-ranges ss (priced r) c =
      let fits = bounds-fit r.low r.high (or_left (bounds_bad r.low r.high) (has_range r.line ss) c.within) in
      let input : is_input r.line (ss ++ (priced r ∷ [])) ≡ true = input_stays ss (priced r) r.line (not-false _ c.input) in
      (record { input = input; least = fits.0; order = fits.1; most = fits.2 }, tt)

  pub sound_none : Sound cells []
  unfolding gates_of ranges_of claimed_lines marked_lines ranged_lines flat_map Each Apart
  sound_none = record { lines = tt; gates = tt; few = omega arith; claimed = tt; marked = tt; ranged = tt; ranges = tt }

  -- One statement more, on good lines, of which it drives none that is driven before.
  module _ (ss : List Statement) (s : Statement) (so : Sound cells ss) where
    more-range : any_line_bad (lines_of s) ≡ false → Each LinesInRange (ss ++ (s ∷ []))
    unfolding Each LinesInRange
    more-range good = each_append LinesInRange ss (s ∷ []) so.lines (in-range (lines_of s) good, tt)

    more-apart : driven_before ss s ≡ false → Apart (claimed_lines (ss ++ (s ∷ [])))
    unfolding claimed_lines driven_before
    more-apart free =
        rw (one_more_lem lines_claimed ss s)
        (apart-append (claimed_lines ss) (lines_claimed s) so.claimed (lone_claimed s) free)

  -- A gate on good lines that drives none driven before finds less than 1,000 gates: there is a place for it.
  pub gate-space : (ss : List Statement) (g : Gate) → Sound cells ss → any_line_bad (lines_of (gate g)) ≡ false
      → driven_before ss (gate g) ≡ false → length (gates_of ss) < Size.gates
  unfolding gates_of gates_in
  gate-space ss g so good free =
      let s = gate g in
      let few = gates-few (ss ++ (s ∷ [])) (more-range ss s so good) (more-apart ss s so free) in
      let count : length (gates_of (ss ++ (s ∷ []))) ≡ length (gates_of ss) + 1 =
      rw (one_more_lem gates_in ss s) (length-append (gates_of ss) (g ∷ []))
      in
      omega (arith, few, count)

  -- One statement more that is admitted keeps the facts.
  sound_more : (ss : List Statement) (s : Statement) → Sound cells ss → lowest (causes cells ss s) ≡ 0
      → Sound cells (ss ++ (s ∷ []))
  unfolding gates_of ranges_of marked_lines ranged_lines marked_before
  sound_more ss s so h =
      let c = clean cells ss s h in
      let range = more-range ss s so c.good in
      let apart = more-apart ss s so c.undriven in
      record {
        lines = range;
        gates =
            rw (one_more_lem gates_in ss s)
            (each_append (GateSound cells) (gates_of ss) (gates_in s) so.gates (more-gates ss s c));
        few = gates-few (ss ++ (s ∷ [])) range apart;
        claimed = apart;
        marked =
            rw (one_more_lem (lines_marked output) ss s)
            (apart-append (marked_lines output ss) (lines_marked output s) so.marked (lone_marked output s) c.unmarked);
        ranged =
            rw (one_more_lem lines_ranged ss s)
            (apart-append (ranged_lines ss) (lines_ranged s) so.ranged (lone_ranged s) (once-ranged ss s c.within));
        ranges =
            rw (one_more_lem ranges_in ss s)
            (each_append (RangeSound (ss ++ (s ∷ []))) (ranges_of ss) (ranges_in s) (ranges_stay ss s (ranges_of ss) so.ranges) (more-ranges ss s c));
      }

  pub sound-next : (ss : List Statement) (w : Option Statement) → Sound cells ss → refusal_of cells ss w ≡ 0
      → Sound cells (extended ss w)
  unfolding refusal_of extended
  sound-next ss none so h = absurd (omega arith)
  sound-next ss (some s) so h = sound_more ss s so h

-- So a 1,001st gate has a bad line, which is 11, or drives one that is driven before, which is 14.
pub gate_ceiling_lem : GateCeiling
gate_ceiling_lem cells ss g so many =
    by_test (any_line_bad (lines_of (gate g)))
    (λ bad. inl bad)
    (λ good. by_test (driven_before ss (gate g))
    (λ twice. inr twice)
    (λ free. absurd (omega (arith, many, gate-space cells ss g so good free))))
