-- A sweep's flag: it is false exactly where the sweep leaves the numbers as they were. So a loop that sweeps until the flag is
-- false settles, and comes to the numbers and the count of `run`.
use Rattle.common_laws.proofs.Base.{true, false, not, ◌||◌, true≢false, or_assoc, List, [], ◌∷◌, ◌++◌, List-Memᴰ-head, List-Memᴰ-tail, ◌↔◌, ◌≡◌, refl, sym, ◌∙◌, ap, ℕ, zero, suc}
use Rattle.common_laws.proofs.Base.{◌≤◌, ◌<◌, dec_lt, le_antisymm, le_trans, le_of_eq, arith, eqb-true, eq-eqb, not-false, eqb, length, set, set_out, set-get_or}
use Rattle.reading.proofs.Laws.{or_left, or_right}
use Rattle.cost.specs.Cost.{never, lesser}
use Rattle.plans.specs.System.{Visit}
use Rattle.plans.specs.Sweep.{at, least, Rule, lower, sweep, sweeps, Rests, Settles, run, Once, Visited}
use Rattle.plans.specs.Statements.{SettlesWithin}
use Rattle.plans.proofs.Laws.{
  at_set_same,
  Stores,
  lower-stores,
  numbers_fall,
  settles-once,
}
use Rattle.calculation.specs.Changes.{alters, changes, Going}

-- ---- the flag of one visit

-- Where the node has a place, the flag compares what is stored with what stood there.
pub alters-lower : (v : Visit) (xs : List ℕ) → v.node < length xs → alters lower v xs ≡ not (eqb (lesser (at xs v.node) (least xs v.ways)) (at xs v.node))
unfolding alters lower
alters-lower v xs h = rw (at_set_same xs v.node (lesser (at xs v.node) (least xs v.ways)) h)

pub same-alters : (rule : Rule) (v : Visit) (xs : List ℕ) → at (rule xs v) v.node ≡ at xs v.node → alters rule v xs ≡ false
unfolding alters
same-alters rule v xs e = rw (eq-eqb (at (rule xs v) v.node) (at xs v.node) e)

-- A visit whose flag is false leaves the numbers as they were.
pub unaltered : (rule : Rule) → Stores rule → (v : Visit) (xs : List ℕ) → alters rule v xs ≡ false → rule xs v ≡ xs
unfolding alters
unaltered rule stores v xs e = place (dec_lt v.node (length xs))
  where
    t : (a : ℕ) × (a ≤ never) × (rule xs v ≡ set xs v.node a)
    t = stores xs v

    same : at (rule xs v) v.node ≡ at xs v.node
    same = eqb-true (at (rule xs v) v.node) (at xs v.node) (not-false (eqb (at (rule xs v) v.node) (at xs v.node)) e)

    place : Dec (v.node < length xs) → rule xs v ≡ xs
    place (yes h) =
        let a : t.0 ≡ at xs v.node = sym (at_set_same xs v.node t.0 h) ∙ ap (λ (zs : List ℕ). at zs v.node) (sym t.2) ∙ same in
        t.2 ∙ ap (set xs v.node) a ∙ unfold at in set-get_or xs v.node never
    place (no h) = t.2 ∙ set_out xs v.node t.0 (omega arith)

-- ---- the flag of a sweep

-- Visits one after the other: the flag of a sweep as its loop gathers it.
pub changes-append : (rule : Rule) (us vs : List Visit) (xs : List ℕ) → changes rule (us ++ vs) xs ≡ (changes rule us xs || changes rule vs (sweep rule us xs))
unfolding changes sweep
changes-append rule [] vs xs = refl
changes-append rule (u ∷ us) vs xs = rw (changes-append rule us vs (rule xs u)) (sym (or_assoc (alters rule u xs) (changes rule us (rule xs u)) (changes rule vs (sweep rule us (rule xs u)))))

-- A sweep whose flag is false leaves the numbers as they were, by whatever rule.
pub unchanged : (rule : Rule) → Stores rule → (vs : List Visit) (xs : List ℕ) → changes rule vs xs ≡ false → Rests rule vs xs
unfolding changes sweep
unchanged rule stores [] xs e = refl
unchanged rule stores (v ∷ vs) xs e =
    unchanged rule stores vs (rule xs v) (or_right (alters rule v xs) (changes rule vs (rule xs v)) e)
    ∙ unaltered rule stores v xs (or_left (alters rule v xs) (changes rule vs (rule xs v)) e)

-- The flag of a sweep that leaves the numbers as they were is false.
pub rests-lower : (vs : List Visit) (xs : List ℕ) → Rests lower vs xs → changes lower vs xs ≡ false
unfolding changes sweep
rests-lower [] xs e = refl
rests-lower (v ∷ vs) xs e =
    let down : at (lower xs v) v.node ≤ at xs v.node = numbers_fall (v ∷ []) xs v.node in
    let up : at xs v.node ≤ at (lower xs v) v.node =
    le_trans (le_of_eq (ap (λ (zs : List ℕ). at zs v.node) (sym e))) (numbers_fall vs (lower xs v) v.node) in
    let f : alters lower v xs ≡ false = same-alters lower v xs (le_antisymm down up) in
    let r : Rests lower vs xs = rw (unaltered lower lower-stores v xs f) at e in
    rw (f, unaltered lower lower-stores v xs f) (rests-lower vs xs r)

pub changes-lower : (vs : List Visit) (xs : List ℕ) → (changes lower vs xs ≡ false) ↔ Rests lower vs xs
changes-lower vs xs = (unchanged lower lower-stores vs xs, rests-lower vs xs)

-- No node is visited twice in a sweep.
abbrev pub Apiece : List Visit → Type 0
Apiece [] = Unit {0}
Apiece (v ∷ vs) = (Visited vs v.node → ⊥) × Apiece vs

-- The condition of `plans` from this one.
pub apiece_once : (vs : List Visit) → Apiece vs → Once vs
apiece_once [] a u v i _ q = elim i [ ]
apiece_once (w ∷ vs) a u v (List-Memᴰ-head e) (List-Memᴰ-head f) q = rw (e, f)
apiece_once (w ∷ vs) a u v (List-Memᴰ-head e) (List-Memᴰ-tail m) q =
    absurd (a.0 (record { visit = v; listed = m; same = sym q ∙ ap (λ (t : Visit). t.node) e }))
apiece_once (w ∷ vs) a u v (List-Memᴰ-tail m) (List-Memᴰ-head f) q =
    absurd (a.0 (record { visit = u; listed = m; same = q ∙ ap (λ (t : Visit). t.node) f }))
apiece_once (w ∷ vs) a u v (List-Memᴰ-tail m) (List-Memᴰ-tail i) q = apiece_once vs a.1 u v m i q

-- ---- the loop of a run

sweeps-next : (rule : Rule) (vs : List Visit) (k : ℕ) (xs : List ℕ) → sweeps rule vs (suc k) xs ≡ sweep rule vs (sweeps rule vs k xs)
unfolding sweeps
sweeps-next rule vs zero xs = refl
sweeps-next rule vs (suc k) xs = sweeps-next rule vs k (sweep rule vs xs)

pub going_first : (rule : Rule) (vs : List Visit) (xs : List ℕ) → Going rule vs xs 0 xs
unfolding sweeps
going_first rule vs xs = record { reached = refl; changed = λ i h. absurd (omega arith) }

module _ (rule : Rule) (vs : List Visit) (flag : (ys : List ℕ) → (changes rule vs ys ≡ false) ↔ Rests rule vs ys) where
  -- The flag is true: on to the next sweep.
  pub going_on : {xs ys : List ℕ} {k : ℕ} → Going rule vs xs k ys → changes rule vs ys ≡ true → Going rule vs xs (suc k) (sweep rule vs ys)
  going_on {xs} {ys} {k} g e =
      record { reached = sweeps-next rule vs k xs ∙ ap (sweep rule vs) g.reached; changed = λ i h. last i h (dec_lt i k) }
    where
      last : (i : ℕ) → i < suc k → Dec (i < k) → Rests rule vs (sweeps rule vs i xs) → ⊥
      last i h (yes l) r = g.changed i l r
      last i h (no l) r =
          let q : i ≡ k = omega arith in
          true≢false (sym e ∙ (flag ys).1 (rw g.reached at (rw q at r)))

  -- The flag is false: the sweeps have settled, and the last one is counted.
  pub going_ends : {xs ys : List ℕ} {k : ℕ} → Going rule vs xs k ys → changes rule vs ys ≡ false → Settles rule vs xs (suc k) (sweep rule vs ys)
  going_ends {xs} {ys} {k} g e =
      let r : Rests rule vs ys = (flag ys).0 e in
      rw r (record { changes = k; counted = refl; reached = g.reached; rests = r; changed = g.changed })

-- ---- the loop ends

-- By fuel: where the run settles within a bound, fewer sweeps than the bound change something.
pub going_within : {rule : Rule} {vs : List Visit} {xs ys : List ℕ} {k : ℕ} (fuel bound : ℕ) → SettlesWithin rule vs xs fuel bound → Going rule vs xs k ys → k < bound
going_within {rule} {vs} {xs} {ys} {k} fuel bound s g = place (dec_lt s.0.changes k)
  where
    place : Dec (s.0.changes < k) → k < bound
    place (yes h) = absurd (g.changed s.0.changes h (rw s.0.reached s.0.rests))
    place (no h) = omega (arith, s.0.counted, s.1)

-- ---- and comes to what `run` comes to

pub settled-run : {rule : Rule} {vs : List Visit} {xs ys : List ℕ} {k : ℕ} (fuel bound : ℕ) → SettlesWithin rule vs xs fuel bound → Settles rule vs xs k ys → run rule vs fuel xs ≡ record { numbers = ys; count = k }
settled-run {rule} {vs} {xs} {ys} {k} fuel bound s t =
    let e : ((run rule vs fuel xs).count ≡ k) × ((run rule vs fuel xs).numbers ≡ ys) =
    settles-once rule vs xs (run rule vs fuel xs).numbers ys (run rule vs fuel xs).count k s.0 t in
    λ i. record { numbers = e.1 i; count = e.0 i }
