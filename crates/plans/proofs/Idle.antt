-- Visits that change nothing: when they do so, and when they stay so.
use Rattle.common_laws.proofs.Base.{List, [], ◌∷◌, ◌++◌, append-nil, append_assoc, List-as-Memᴰ, List-Memᴰ-head, List-Memᴰ-tail, List-Memᴰ-not-nil, List-Memᴰ-append-cases}
use Rattle.common_laws.proofs.Base.{Memᴰ-append-left, Memᴰ-append-right, ◌⊎◌, inl, inr, ◌≢◌, ◌≡◌, refl, sym, ◌∙◌, ap, ℕ, zero, suc, ◌≤◌, ◌<◌, ℕ_discrete, dec_le, dec_lt, le_trans}
use Rattle.common_laws.proofs.Base.{le_of_eq, le_antisymm, arith, length}
use Rattle.cost.specs.Cost.{never, capped, lesser}
use Rattle.cost.proofs.Laws.{sum_left, sum-right}
use Rattle.plans.specs.System.{Way, Visit}
use Rattle.plans.specs.Sweep.{at, sums, way, least, Rule, lower, sweep, Lowering}
use Rattle.plans.specs.Idle.{Idles, Unmoved, in_turn, Skipped, IdlesRest, AsleepSkipped, SkippedSweep, MadeWatched, AsleepSettles}
use Rattle.plans.proofs.Numbers.{Under, under_refl, under_trans}
use Rattle.plans.proofs.Lowered.{lesser-left, lesser-right, lesser-bound, lesser-most, lower_under, lower-here, lower-past, lower-still, sweep_under}
use Rattle.plans.proofs.Kept.{sweep-append}
use Rattle.plans.proofs.BothRules.{visit-lowers, sweep-lowers}

-- ---- idle visits are left out

pub idles_rest : IdlesRest
unfolding sweep
idles_rest rule [] xs h = refl
idles_rest rule (v ∷ vs) xs h =
    ap (sweep rule vs) (h v (List-Memᴰ-head refl)) ∙ idles_rest rule vs xs (λ u m. h u (List-Memᴰ-tail m))

module _ {rule : Rule} {block : ℕ → List Visit} where
  skip-none : (turn : ℕ) (xs : List ℕ) → Skipped rule block turn turn xs
  skip-none turn xs = record { between = []; split = sym (append-nil (in_turn block turn)); idle = λ v m. absurd (List-Memᴰ-not-nil m) }

  skip-one : {turn next : ℕ} {xs : List ℕ} → Skipped rule block turn next xs → Idles rule xs (block next) → Skipped rule block turn (suc next) xs
  unfolding in_turn
  skip-one {turn} {next} {xs} s i =
      record {
        between = s.between ++ block next;
        split = rw s.split (append_assoc (in_turn block turn) s.between (block next));
        idle = λ v m. side v (List-Memᴰ-append-cases s.between m);
      }
    where
      side : (v : Visit) → List-as-Memᴰ v s.between ⊎ List-as-Memᴰ v (block next) → rule xs v ≡ xs
      side v (inl m) = s.idle v m
      side v (inr m) = i v m

  skip : (turn next : ℕ) (xs : List ℕ) → turn ≤ next → ((h : ℕ) → turn ≤ h → h < next → Idles rule xs (block h)) → Skipped rule block turn next xs
  skip turn zero xs l idle = let e : turn ≡ 0 = omega arith in rw e (skip-none 0 xs)
  skip turn (suc next) xs l idle = place (dec_le turn next) (λ k. skip turn next xs k (λ h a b. idle h a (omega arith)))
    where
      place : Dec (turn ≤ next) → (turn ≤ next → Skipped rule block turn next xs) → Skipped rule block turn (suc next) xs
      place (yes k) before = skip-one (before k) (idle next k (omega arith))
      place (no k) before = let e : turn ≡ suc next = omega arith in rw e (skip-none (suc next) xs)

  pub skipped-sweep : {turn next : ℕ} {ys : List ℕ} → SkippedSweep rule block turn next ys
  skipped-sweep {turn} {next} {ys} s xs e =
      rw (s.split, sweep-append rule (in_turn block turn) s.between xs, ← e)
      (sym (idles_rest rule s.between ys s.idle))

module _ {rule : Rule} {block : ℕ → List Visit} {count : ℕ} {asleep : ℕ → Type 0} {ys : List ℕ} where
  pub asleep-skipped : AsleepSkipped rule block count asleep ys
  asleep-skipped w turn next l k all =
      skip turn next ys l (λ h a b. w.idle h (omega arith) (all h a b))

  pub asleep-settles : AsleepSettles rule block count asleep ys
  unfolding in_turn sweep
  asleep-settles w all xs changes reached changed =
      record {
        changes = changes;
        counted = refl;
        reached = reached;
        rests = sym (skipped-sweep (asleep-skipped w 0 count (omega arith) (omega arith) (λ h a b. all h b)) ys refl);
        changed = changed;
      }

pub turn-listed : (block : ℕ → List Visit) (count turn : ℕ) → turn < count → (v : Visit) → List-as-Memᴰ v (block turn) → List-as-Memᴰ v (in_turn block count)
unfolding in_turn
turn-listed block zero turn h v m = absurd (omega arith)
turn-listed block (suc count) turn h v m = place (ℕ_discrete turn count) (λ k. turn-listed block count turn k v m)
  where
    place : Dec (turn ≡ count) → (turn < count → List-as-Memᴰ v (in_turn block count)) → List-as-Memᴰ v (in_turn block count ++ block count)
    place (yes e) before = Memᴰ-append-right (in_turn block count) (rw e at m)
    place (no e) before = Memᴰ-append-left (block count) (before (omega arith))

-- ---- a visit that keeps the lesser stays idle

module _ (xs ys : List ℕ) (n : ℕ) (b : at ys n ≤ never) where
  -- Where no number but that of `n` differs, a sum is what it was, or is at least that number, which is a term of it.
  sums_kept : (ns : List ℕ) → ((m : ℕ) → List-as-Memᴰ m ns → m ≢ n → at ys m ≡ at xs m) → (at ys n ≤ sums ys ns) ⊎ (sums ys ns ≡ sums xs ns)
  unfolding sums
  sums_kept [] h = inr refl
  sums_kept (m ∷ ns) h = step (ℕ_discrete m n) (sums_kept ns (λ k i. h k (List-Memᴰ-tail i)))
    where
      step : Dec (m ≡ n) → (at ys n ≤ sums ys ns) ⊎ (sums ys ns ≡ sums xs ns) → (at ys n ≤ sums ys (m ∷ ns)) ⊎ (sums ys (m ∷ ns) ≡ sums xs (m ∷ ns))
      step (yes e) r = inl (rw e (omega (arith, sum_left (at ys n) (sums ys ns))))
      step (no e) (inl l) = inl (omega (arith, sum-right (at ys m) (sums ys ns)))
      step (no e) (inr f) = inr (rw (h m (List-Memᴰ-head refl) e, f))

  way-kept : (w : Way) → ((m : ℕ) → List-as-Memᴰ m w.needs → m ≢ n → at ys m ≡ at xs m) → at ys n ≤ way xs w → at ys n ≤ way ys w
  unfolding way
  way-kept w h l = side (sums_kept w.needs h)
    where
      side : (at ys n ≤ sums ys w.needs) ⊎ (sums ys w.needs ≡ sums xs w.needs) → at ys n ≤ way ys w
      side (inl k) = omega (arith, sum-right (capped w.depth) (sums ys w.needs))
      side (inr e) = rw e l

  least_kept : (ws : List Way) → ((w : Way) → List-as-Memᴰ w ws → (m : ℕ) → List-as-Memᴰ m w.needs → m ≢ n → at ys m ≡ at xs m) → at ys n ≤ least xs ws → at ys n ≤ least ys ws
  unfolding least
  least_kept [] h l = l
  least_kept (w ∷ ws) h l =
      lesser-most (way ys w) (least ys ws) (at ys n) b
      (way-kept w (h w (List-Memᴰ-head refl)) (le_trans l (lesser-left (way xs w) (least xs ws))))
      (least_kept ws (λ u i. h u (List-Memᴰ-tail i)) (le_trans l (lesser-right (way xs w) (least xs ws))))

-- A visit whose number is at most what its least sum was is idle where nothing else that it needs differs.
still-idle : (xs ys : List ℕ) (v : Visit) → Unmoved xs ys v → at ys v.node ≤ never → at ys v.node ≤ least xs v.ways → lower ys v ≡ ys
still-idle xs ys v h b l =
    lower-still ys v b
    (least_kept xs ys v.node b v.ways (λ w i m j. h m (record { way = w; listed = i; among = j })) l)

-- An idle visit stays idle.
pub idle_stays : (xs ys : List ℕ) (v : Visit) → Under ys xs → Unmoved xs ys v → lower xs v ≡ xs → lower ys v ≡ ys
idle_stays xs ys v u h e = place (dec_lt v.node (length xs))
  where
    place : Dec (v.node < length xs) → lower ys v ≡ ys
    place (yes b) =
        let f : at xs v.node ≡ lesser (at xs v.node) (least xs v.ways) = ap (λ (zs : List ℕ). at zs v.node) (sym e) ∙ lower-here xs v b in
        still-idle xs ys v h
        (omega (arith, u.below v.node, lesser-bound (at xs v.node) (least xs v.ways)))
        (omega (arith, u.below v.node, lesser-right (at xs v.node) (least xs v.ways)))
    place (no b) = lower-past ys v (omega (arith, u.long))

-- Visits just made are idle.
made-idle : (us : List Visit) (xs zs : List ℕ) → Under zs xs → ((v : Visit) → List-as-Memᴰ v us → Unmoved xs (sweep lower us zs) v) → Idles lower (sweep lower us zs) us
unfolding sweep
made-idle [] xs zs below h v i = elim i [ ]
made-idle (u ∷ us) xs zs below h v (List-Memᴰ-head e) = rw e (place (dec_lt u.node (length zs)))
  where
    ys : List ℕ
    ys = sweep lower us (lower zs u)

    made : Under ys (lower zs u)
    made = sweep_under us (lower zs u)

    -- Between two numbers that are the same there is no other.
    between : Unmoved zs ys u
    between n d c =
        le_antisymm ((under_trans made (lower_under zs u)).below n)
        (le_trans (below.below n) (le_of_eq (sym (h u (List-Memᴰ-head refl) n d c))))

    place : Dec (u.node < length zs) → lower ys u ≡ ys
    place (yes b) =
        let f : at ys u.node ≤ lesser (at zs u.node) (least zs u.ways) = le_trans (made.below u.node) (le_of_eq (lower-here zs u b)) in
        still-idle zs ys u between (omega (arith, lesser-bound (at zs u.node) (least zs u.ways)))
        (le_trans f (lesser-right (at zs u.node) (least zs u.ways)))
    place (no b) = lower-past ys u (omega (arith, made.long, (lower_under zs u).long))
made-idle (u ∷ us) xs zs below h v (List-Memᴰ-tail m) =
    made-idle us xs (lower zs u) (under_trans (lower_under zs u) below) (λ w i. h w (List-Memᴰ-tail i)) v m

-- ---- a turn's visits are made

pub made-watched : {rule : Rule} {block : ℕ → List Visit} {count turn : ℕ} {before after : ℕ → Type 0} {xs ys : List ℕ} → MadeWatched rule block count turn before xs after ys
made-watched {rule} {block} {count} {turn} {before} {after} {xs} {ys} watched woken here low e = (record { idle = idle }, now)
  where
    all : List Visit
    all = in_turn block count

    agree : (sweep rule (block turn) xs ≡ sweep lower (block turn) xs) × Lowering rule all (sweep lower (block turn) xs)
    agree = sweep-lowers low (block turn) (turn-listed block count turn here)

    made : ys ≡ sweep lower (block turn) xs
    made = e ∙ agree.0

    now : Lowering rule all ys
    now = rw made agree.1

    under : Under ys xs
    under = rw made (sweep_under (block turn) xs)

    idle : (h : ℕ) → h < count → after h → Idles rule ys (block h)
    idle h l a v m = visit-lowers now v i ∙ place (ℕ_discrete h turn)
      where
        i : List-as-Memᴰ v all
        i = turn-listed block count h l v m

        place : Dec (h ≡ turn) → lower ys v ≡ ys
        place (yes q) =
            rw made
            (made-idle (block turn) xs xs (under_refl xs)
            (λ u j. rw made at (woken.unmoved h l a u (rw (← q) at j))) v (rw q at m))
        place (no q) =
            idle_stays xs ys v under (woken.unmoved h l a v m)
            (sym (visit-lowers low v i) ∙ watched.idle h l (woken.slept h l a q) v m)
