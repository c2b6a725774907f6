-- The prices of the netlist's ranges: both ends, and every pricing within.
use Rattle.common_laws.proofs.Base.{Bool, true, false, or-true, List, [], ◌∷◌, List-as-Memᴰ, List-Memᴰ-head, List-Memᴰ-tail, ◌≡◌, refl, sym, ap, ℕ, ◌≤◌, le_refl, le_trans, arith, eqb}
use Rattle.common_laws.proofs.Base.{eq-eqb, ne_eqb, eqb-true}
use Rattle.sizes.specs.Sizes as Size
use Rattle.reading.specs.Choice.{pick}
use Rattle.reading.specs.Each.{Each}
use Rattle.reading.proofs.Laws.{by_test, clash, each_member, or_right}
use Rattle.library_table.specs.Cells.{Cell}
use Rattle.netlist_table.specs.Netlist.{Range, Statement, member, is_input, has_range, ranges_of, of_range, low_price, high_price}
use Rattle.netlist_table.specs.Sound.{RangeSound, Apart}
use Rattle.netlist_table.proofs.Causes.{range_lines, ranged-lines}
use Rattle.calculation.specs.Prices.{Pricing, Figures, prices_at, prices_of, WithinRanges}
use Rattle.calculation.specs.Acceptance.{BothSound}

-- ---- one end of the range of a line

none_of : (f : Range → ℕ) (x : ℕ) (rs : List Range) (l : ℕ) → member l (range_lines rs) ≡ false → of_range f x rs l ≡ x
unfolding of_range range_lines member pick
none_of f x [] l h = refl
none_of f x (r ∷ rs) l h =
    by_test (eqb r.line l)
    (λ t. clash true refl (rw t at h))
    (λ t. rw t (none_of f x rs l (or_right (eqb r.line l) (member l (range_lines rs)) h)))

listed-line : (r : Range) (rs : List Range) → List-as-Memᴰ r rs → member r.line (range_lines rs) ≡ true
unfolding range_lines member
listed-line r [] i = elim i [ ]
listed-line r (q ∷ rs) (List-Memᴰ-head e) = rw (eq-eqb q.line r.line (ap (λ (x : Range). x.line) (sym e)))
listed-line r (q ∷ rs) (List-Memᴰ-tail m) = rw (listed-line r rs m) (or-true (eqb q.line r.line))

-- A line has one range at most.
own_of : (f : Range → ℕ) (x : ℕ) (rs : List Range) → Apart (range_lines rs) → (r : Range) → List-as-Memᴰ r rs → of_range f x rs r.line ≡ f r
unfolding of_range range_lines Apart pick
own_of f x [] a r i = elim i [ ]
own_of f x (q ∷ rs) a r (List-Memᴰ-head e) = rw (eq-eqb q.line r.line (ap (λ (y : Range). y.line) (sym e))) (ap f (sym e))
own_of f x (q ∷ rs) a r (List-Memᴰ-tail m) =
    let other : q.line ≡ r.line → ⊥ = λ e. clash (member q.line (range_lines rs)) (rw e (listed-line r rs m)) a.0 in
    rw (ne_eqb q.line r.line other) (own_of f x rs a.1 r m)

price-most : (ss : List Statement) (rs : List Range) → Each (RangeSound ss) rs → (l : ℕ) → of_range (λ r. r.high) 1 rs l ≤ Size.most_price
unfolding of_range Each pick
price-most ss [] h l = omega arith
price-most ss (r ∷ rs) h l = by_test (eqb r.line l) (λ t. rw t h.0.most) (λ t. rw t (price-most ss rs h.1 l))

-- ---- prices within the ranges

within_of : (price : Pricing) (rs : List Range) → ((r : Range) → List-as-Memᴰ r rs → (r.low ≤ price r.line) × (price r.line ≤ r.high))
    → (l : ℕ) → (member l (range_lines rs) ≡ false → price l ≡ 1)
    → (of_range (λ r. r.low) 1 rs l ≤ price l) × (price l ≤ of_range (λ r. r.high) 1 rs l)
unfolding of_range range_lines member pick
within_of price [] h l o = (omega (arith, o refl), omega (arith, o refl))
within_of price (r ∷ rs) h l o =
    by_test (eqb r.line l)
    (λ t. let own : (r.low ≤ price l) × (price l ≤ r.high) = rw (eqb-true r.line l t) at (h r (List-Memᴰ-head refl)) in rw t own)
    (λ t. rw t (within_of price rs (λ q m. h q (List-Memᴰ-tail m)) l (λ e. o (rw (t, e)))))

module _ {cells : List Cell} {ss : List Statement} (sound : BothSound cells ss) where
  apart : Apart (range_lines (ranges_of ss))
  apart = rw (ranged-lines ss) at sound.netlist.ranged

  -- Prices within the ranges are no lower than LOW and no higher than HIGH.
  pub within-ends : (price : Pricing) → WithinRanges ss price → (l : ℕ) → is_input l ss ≡ true → (low_price ss l ≤ price l) × (price l ≤ high_price ss l)
  unfolding low_price high_price has_range
  within-ends price w l e = within_of price (ranges_of ss) w.ranged l (λ h. w.others l e (rw (ranged-lines ss) h))

  -- Both ends are within.
  unranged : (f : Range → ℕ) (l : ℕ) → has_range l ss ≡ false → of_range f 1 (ranges_of ss) l ≡ 1
  unfolding has_range
  unranged f l h = none_of f 1 (ranges_of ss) l (rw (ranged-lines ss) at h)

  bounds : (r : Range) → List-as-Memᴰ r (ranges_of ss) → r.low ≤ r.high
  bounds r m = (each_member (RangeSound ss) m sound.netlist.ranges).order

  pub low-within : WithinRanges ss (low_price ss)
  unfolding low_price
  low-within =
      record {
        ranged = λ r m. rw (own_of (λ q. q.low) 1 (ranges_of ss) apart r m) (le_refl r.low, bounds r m);
        others = λ l e h. unranged (λ q. q.low) l h;
      }

  pub high-within : WithinRanges ss (high_price ss)
  unfolding high_price
  high-within =
      record {
        ranged = λ r m. rw (own_of (λ q. q.high) 1 (ranges_of ss) apart r m) (bounds r m, le_refl r.high);
        others = λ l e h. unranged (λ q. q.high) l h;
      }

  -- They are figures.
  pub within-figures : (price : Pricing) → WithinRanges ss price → Figures price ss
  unfolding high_price
  within-figures price w l e =
      let t : price l ≤ Size.most_price =
      le_trans (unfold high_price in (within-ends price w l e).1) (price-most ss (ranges_of ss) sound.netlist.ranges l)
      in
      omega (arith, t)

  pub end-figures : (high : Bool) → Figures (prices_at high ss) ss
  end-figures false = within-figures (low_price ss) low-within
  end-figures true = within-figures (high_price ss) high-within

  pub own-figures : Figures (prices_of ss) ss
  own-figures = end-figures false
