-- What a pad leaves: the costs of the mentioned lines, one after the other, and the trial that comes to them.
use Rattle.common_laws.proofs.Base.{Bool, true, false, List, [], ◌∷◌, ◌++◌, map, append-nil, ◌≡◌, refl, sym, ◌∙◌, ap, ap₂, ℕ, zero, suc, ◌+◌, ◌*◌, ◌-◌, ◌≤◌, ◌<◌, max, le_of_eq}
use Rattle.common_laws.proofs.Base.{add-one, arith, le-leb, lt-leb, eq-eqb, ne_eqb, leb, length, get_or, drop, length-map, length-set, drop_of_length-le}
use Rattle.sizes.specs.Sizes as Size
use Rattle.sizes.specs.Places.{observing_place}
use Rattle.reading.specs.Choice.{pick}
use Rattle.reading.proofs.Laws.{by_test}
use Rattle.cost.specs.Cost.{most, over, never, is_never, is_over, ◌⊕◌}
use Rattle.plans.specs.Sweep.{at, lower, Bounded}
use Rattle.plans.proofs.Laws.{at_getD, lower-stores, settles-length}
use Rattle.library_table.specs.Cells.{Cell}
use Rattle.netlist_table.specs.Netlist.{Statement, mentioned, is_output, lines_where}
use Rattle.netlist_table.specs.Lines.{mention_at, mentions_held}
use Rattle.netlist_table.specs.Sound.{InRange}
use Rattle.netlist_table.proofs.HeldLines.{mentions-held}
use Rattle.calculation.specs.Nodes.{combinational, observe, node}
use Rattle.calculation.specs.Prices.{prices_of}
use Rattle.calculation.specs.Calculation.{analysed}
use Rattle.calculation.specs.Stored.{Holds, Calculated}
use Rattle.calculation.specs.declared.Counts.{Counts}
use Rattle.calculation.specs.Advice.{observed_with, leaves, largest, count_where, figures, total}
use Rattle.calculation.proofs.Laws.{node-inside, own-figures, numbers-length, numbers-bounded}
use Rattle.calculation.proofs.Trials.{co-rests, tried-observed}
use Rattle.sweep_reruns.specs.Trial.{TryFits, PadTried}
use Rattle.advice_calls.specs.declared.lines.Left.{Left}
use Rattle.advice_calls.specs.Parts.{cost_at, left_of, left_with, Stands}
use Rattle.advice_calls.proofs.LinesLaws.{above, above-none, above-next, above-few}

-- ---- one cost more

left-cons : (x : ℕ) (xs : List ℕ) → left_of (x ∷ xs) ≡ left_with x (left_of xs)
unfolding left_of left_with largest count_where figures total pick
left-cons x xs = by_test (leb x most) (λ t. rw t) (λ t. rw t)

-- By the test that tells a figure, over and never apart.
module _ (x : ℕ) (a : Left) where
  pub figure-more : (largest figure total : ℕ) → x ≤ most → largest ≡ max x a.largest → figure ≡ max x a.figure → total ≡ (x ⊕ a.total)
      → record { largest = largest; nevers = a.nevers; overs = a.overs; figure = figure; total = total } ≡ left_with x a
  unfolding left_with is_never is_over pick
  figure-more largest figure total h e f g =
      rw (le-leb x most h, lt-leb never x (omega arith), ne_eqb x over (λ q. omega arith), e, f, g)

  pub over-more : (largest : ℕ) → x ≡ over → largest ≡ max x a.largest
      → record { largest = largest; nevers = a.nevers; overs = a.overs + 1; figure = a.figure; total = a.total } ≡ left_with x a
  unfolding left_with is_never is_over pick
  over-more largest h e = rw (lt-leb x most (omega arith), lt-leb never x (omega arith), eq-eqb x over h, e, add-one a.overs)

  pub never-more : (largest : ℕ) → most < x → (x ≡ over → ⊥) → largest ≡ max x a.largest
      → record { largest = largest; nevers = a.nevers + 1; overs = a.overs; figure = a.figure; total = a.total } ≡ left_with x a
  unfolding left_with is_never is_over pick
  never-more largest h other e = rw (lt-leb x most h, le-leb never x (omega arith), ne_eqb x over other, e, add-one a.nevers)

-- ---- of the mentioned lines, from the highest down

count-few : (p : ℕ → Bool) (xs : List ℕ) → count_where p xs ≤ length xs
unfolding count_where pick
count-few p [] = omega arith
count-few p (x ∷ xs) =
    let rest = count-few p xs in
    by_test (p x) (λ t. rw t (omega (arith, rest))) (λ t. rw t (omega (arith, rest)))

module _ (p : ℕ → Bool) (f : ℕ → ℕ) (l : ℕ) (left : Left) (e : left ≡ left_of (map f (above p l))) where
  pub nevers-few : left.nevers ≤ Size.lines - l
  unfolding left_of
  nevers-few = rw e (omega (arith, count-few is_never (map f (above p l)), length-map (above p l) f, above-few p l))

  pub overs-few : left.overs ≤ Size.lines - l
  unfolding left_of
  overs-few = rw e (omega (arith, count-few is_over (map f (above p l)), length-map (above p l) f, above-few p l))

  pub left-next : 1 ≤ l → l ≤ Size.lines → (r : Left) → r ≡ pick (p l) (left_with (f l) left) left → r ≡ left_of (map f (above p (l - 1)))
  unfolding pick
  left-next low high r s =
      s
      ∙ by_test (p l)
      (λ t. rw (t, e, above-next p l low high, t) (sym (left-cons (f l) (map f (above p l)))))
      (λ t. rw (t, e, above-next p l low high, t))

module _ (p : ℕ → Bool) (f : ℕ → ℕ) where
  pub left-begins : (left : Left) → left.largest ≡ 0 → left.nevers ≡ 0 → left.overs ≡ 0 → left.figure ≡ 0 → left.total ≡ 0 → left ≡ left_of (map f (above p Size.lines))
  unfolding left_of largest count_where figures total
  left-begins left a b c d e =
      let zero : left ≡ record { largest = 0; nevers = 0; overs = 0; figure = 0; total = 0 } = λ i. record { largest = a i; nevers = b i; overs = c i; figure = d i; total = e i } in
      rw (above-none p) zero

pub left-ends : (netlist : List ℕ) (f : ℕ → ℕ) (l : ℕ) (left : Left) → l ≡ 0 → left ≡ left_of (map f (above (mention_at netlist) l))
    → left ≡ left_of (map f (mentions_held netlist))
unfolding mentions_held
left-ends netlist f l left is e = rw is at e

-- The cost of one line, as the code reads it.
module _ (netlist numbers : List ℕ) (left : Left) (l : ℕ) {said : Bool} (told : said ≡ mention_at netlist l) where
  pub line-added : said ≡ true → {place : ℕ} → place ≡ l → (r : Left) → r ≡ left_with (get_or numbers ((place - 1) * Size.costs + Size.observed_at) 0) left
      → r ≡ pick (mention_at netlist l) (left_with (cost_at numbers l) left) left
  unfolding pick
  line-added t {place} is r e =
      let same : (place - 1) * Size.costs + Size.observed_at ≡ observing_place 0 l = rw is (omega arith) in
      e ∙ rw (← told, t, same)

  pub line-passed : said ≡ false → left ≡ pick (mention_at netlist l) (left_with (cost_at numbers l) left) left
  unfolding pick
  line-passed t = rw (← told, t)

-- ---- the trial

-- What is asked of lines in range alone.
map-where : (p : ℕ → Bool) (f g : ℕ → ℕ) (n first : ℕ) → ((l : ℕ) → first ≤ l → l < first + n → f l ≡ g l) → map f (lines_where p n first) ≡ map g (lines_where p n first)
unfolding lines_where pick
map-where p f g zero first same = refl
map-where p f g (suc n) first same =
    let rest = map-where p f g n (suc first) (λ l low high. same l (omega arith) (omega arith)) in
    by_test (p first) (λ t. rw t (ap₂ (λ (x : ℕ) (xs : List ℕ). x ∷ xs) (same first (omega arith) (omega arith)) rest)) (λ t. rw t rest)

-- The numbers laid into an array of their size.
pub laid_whole : (numbers before after : List ℕ) → length before ≡ Size.numbers → after ≡ numbers ++ drop Size.numbers before → after ≡ numbers
laid_whole numbers before after size e = e ∙ rw (drop_of_length-le before (le_of_eq size)) (append-nil numbers)

module _ {library netlist numbers : List ℕ} {cells : List Cell} {ss : List Statement} (s : Stands library netlist numbers cells ss) where
  analysed-long : length (analysed cells ss).numbers ≡ Size.numbers
  analysed-long = numbers-length cells ss s.holds.sound (prices_of ss) (own-figures s.holds.sound)

  pub stands-long : length numbers ≡ Size.numbers
  stands-long = ap length s.stand ∙ analysed-long

  pub stands-bounded : Bounded numbers
  stands-bounded = rw s.stand (numbers-bounded cells ss s.holds.sound (prices_of ss) (own-figures s.holds.sound))

  module _ (l : ℕ) (range : InRange l) {tried : List ℕ} (laid : tried ≡ numbers) where
    pub try_fits : TryFits library netlist tried l
    try_fits =
        record {
          half =
              record {
                cells = cells;
                statements = ss;
                holds = s.holds;
                size = ap length laid ∙ stands-long;
                costs = rw laid stands-bounded;
              };
          rests = rw (laid, s.stand) (co-rests cells ss s.holds.sound);
          range = range;
        }

    module _ {zs : List ℕ} {count : ℕ} (t : PadTried cells ss l tried count zs) where
      ran : PadTried cells ss l (analysed cells ss).numbers count zs
      ran = rw (laid, s.stand) at t

      pub tried-long : length zs ≡ Size.numbers
      tried-long = settles-length lower lower-stores ran ∙ length-set (analysed cells ss).numbers (node combinational (observe l)) 0 ∙ analysed-long

      module _ (said : mentioned l ss ≡ true) (free : is_output l ss ≡ false) where
        pub cost-left : (m : ℕ) → InRange m → cost_at zs m ≡ observed_with cells ss l m
        cost-left m r =
            let place : observing_place 0 m ≡ node combinational (observe m) = unfold node in omega arith in
            rw place
            (sym (at_getD zs (node combinational (observe m)) 0 (rw tried-long (node-inside combinational (observe m) r)))
            ∙ tried-observed cells ss l s.holds.sound said free count zs ran m r)

        pub left-leaves : (r : Left) → r ≡ left_of (map (cost_at zs) (mentions_held netlist)) → r ≡ left_of (leaves cells ss l)
        unfolding leaves InRange
        left-leaves r e =
            e
            ∙ ap (λ (ls : List ℕ). left_of (map (cost_at zs) ls)) held
            ∙ ap left_of (map-where (λ m. mentioned m ss) (cost_at zs) (observed_with cells ss l) Size.lines 1 (λ m low high. cost-left m (low, omega arith)))
          where
            held : mentions_held netlist ≡ lines_where (λ m. mentioned m ss) Size.lines 1
            held = rw s.holds.statements_stand (mentions-held ss s.holds.past)

-- ---- behind the analysis

pub analysis-stands : {library netlist : List ℕ} {cells : List Cell} {ss : List Statement} → Holds library netlist cells ss
    → (before : List ℕ) → length before ≡ Size.numbers → (after : List ℕ) {counts : Counts} → Calculated (prices_of ss) cells ss before after counts
    → Stands library netlist after cells ss
analysis-stands {cells = cells} {ss = ss} h before size after c =
    record {
      holds = h;
      stand = c.numbers ∙ rw (drop_of_length-le before (le_of_eq size)) (append-nil (analysed cells ss).numbers);
    }
