-- Turns that are passed over: why a sweep from one awake turn to the next is the whole sweep.
use Rattle.common_laws.proofs.Base.{Bool, false, or-false, List, [], ◌∷◌, ◌++◌, List-Memᴰ-head, List-Memᴰ-tail, ◌≡◌, refl, sym, ap, ◌∙◌, ℕ, ◌-◌, ◌≤◌, ◌<◌, arith, get_or}
use Rattle.sizes.specs.Sizes as Size
use Rattle.plans.specs.System.{Visit}
use Rattle.plans.specs.Sweep.{at, lower, sweep, Lowering.keeps}
use Rattle.plans.specs.Idle.{Idles, in_turn, Skipped}
use Rattle.plans.proofs.Laws.{made-watched, asleep-skipped, skipped-sweep}
use Rattle.calculation.specs.Changes.{changes}
use Rattle.calculation.proofs.Sweeps.{same-alters, changes-append}
use Rattle.sweep_links.specs.Turns.{AllAwake, Rested, NextAwake}
use Rattle.sweep_turns.specs.Order.{turn_visits}
use Rattle.sweep_turns.specs.Renewed.{Swept}
use Rattle.sweep_turns.specs.Wakes.{ChangesWoken}
use Rattle.sweep_runs.specs.Order.{first_gates}
use Rattle.sweep_runs.specs.Asleep.{Resting}

-- Visits that are idle at the numbers change nothing.
idle-flag : (vs : List Visit) (xs : List ℕ) → Idles lower xs vs → changes lower vs xs ≡ false
unfolding changes
idle-flag [] xs h = refl
idle-flag (v ∷ vs) xs h =
    let e : lower xs v ≡ xs = h v (List-Memᴰ-head refl) in
    rw (same-alters lower v xs (ap (λ (zs : List ℕ). at zs v.node) e), e) (idle-flag vs xs (λ u m. h u (List-Memᴰ-tail m)))

skipped-flag : {us vs between : List Visit} {xs ys : List ℕ} {changed : Bool} → vs ≡ us ++ between → Idles lower ys between
    → Swept us xs ys changed → changed ≡ changes lower vs xs
skipped-flag {us} {vs} {between} {xs} {ys} split idle w =
    let none : changes lower between (sweep lower us xs) ≡ false = rw (← w.numbers) (idle-flag between ys idle) in
    w.flag ∙ sym (rw (split, changes-append lower us between xs, none) (or-false (changes lower us xs)))

pub skipped-swept : {visits : ℕ → List Visit} {from to : ℕ} {xs ys : List ℕ} {changed : Bool} → Skipped lower visits from to ys
    → Swept (in_turn visits from) xs ys changed → Swept (in_turn visits to) xs ys changed
skipped-swept {xs = xs} k w = record { numbers = skipped-sweep k xs w.numbers; flag = skipped-flag k.split k.idle w }

module _ (role kind : ℕ) (library netlist : List ℕ) where
  abbrev gates : ℕ
  gates = get_or netlist 0 0

  -- ---- after a turn

  pub rests-on : {awake rested after xs ys : List ℕ} {changed : Bool} (turn : ℕ) → turn < gates
      → Resting role kind library netlist awake xs
      → Rested turn awake rested
      → ChangesWoken role kind library netlist rested xs after ys
      → Swept (turn_visits role kind library netlist turn) xs ys changed
      → Resting role kind library netlist after ys
  rests-on {awake} {rested} {after} {xs} {ys} turn b s r c w =
      let t =
      made-watched s.watched
      (record {
        slept = λ h p a e. sym (r.others h e) ∙ c.slept h p a;
        unmoved = λ h p a v m n d e. c.unmoved h p a v m n d;
      })
      b (keeps refl) w.numbers in
      record { size = c.size ∙ r.size ∙ s.size; watched = t.0 }

  -- ---- from one awake turn to the next

  -- The turns that a sweep has come to, which are not more than there are gates.
  abbrev pub come : ℕ → ℕ
  come turn = gates - (gates - turn)

  pub skipped : {awake ys : List ℕ} {from next end : ℕ} → from ≤ gates
      → Resting role kind library netlist awake ys
      → NextAwake awake from end next
      → Skipped lower (turn_visits role kind library netlist) from (come next) ys
  skipped {awake} {ys} {from} {next} {end} b s n =
      asleep-skipped s.watched from (come next) (omega (arith, n.least)) (omega arith) (λ h p q. n.asleep h p (omega arith))

  pub skips : {awake xs ys : List ℕ} {changed : Bool} {from next end : ℕ} → from ≤ gates
      → Resting role kind library netlist awake ys
      → NextAwake awake from end next
      → Swept (first_gates role kind library netlist from) xs ys changed
      → Swept (first_gates role kind library netlist (come next)) xs ys changed
  skips b s n w = skipped-swept (skipped b s n) w

  -- ---- with all turns awake

  pub all_rest : {awake xs : List ℕ} → gates ≤ Size.gates → AllAwake awake → Resting role kind library netlist awake xs
  all_rest few a =
      record {
        size = a.size;
        watched = record { idle = λ t h s. absurd (omega (arith, s, a.awake t (omega arith))) };
      }
