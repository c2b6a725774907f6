-- A pad on trial: the turns that a run from the numbers that stand begins with. Document 02, K13.
use Rattle.common_laws.proofs.Base.{List, List-as-Memᴰ, ◌≡◌, sym, ◌∙◌, subst, ℕ, ◌+◌, ◌*◌, ◌-◌, ◌≤◌, ◌<◌, ℕ_discrete, arith, length, get_or, set, length-set}
use Rattle.sizes.specs.Sizes as Size
use Rattle.sizes.specs.Places.{observing_place}
use Rattle.reading.specs.Choice.{pick}
use Rattle.plans.specs.System.{Visit}
use Rattle.cost.specs.Cost.{never}
use Rattle.plans.specs.Sweep.{at, lower, Rests, Settles, Bounded}
use Rattle.plans.specs.Idle.{Needs}
use Rattle.plans.proofs.Laws.{at_set_same, at_set_other, pad-idle, turn-listed}
use Rattle.library_table.specs.Cells.{Cell}
use Rattle.netlist_table.specs.Netlist.{Statement, gates_of}
use Rattle.netlist_table.specs.Gates.{gate_line}
use Rattle.netlist_table.specs.Sound.{InRange}
use Rattle.calculation.specs.Nodes.{Kind, combinational, kind_number, observe, node}
use Rattle.calculation.specs.Ways.{observing_visits}
use Rattle.calculation.specs.Stored.{Holds}
use Rattle.calculation.proofs.Laws.{node-inside}
use Rattle.sweep_links.specs.Lines.{Driven, Links}
use Rattle.sweep_links.specs.Turns.{bit_at}
use Rattle.sweep_links.specs.AwakeLines.{DriverWoken}
use Rattle.sweep_groups.specs.Tables.{by_role}
use Rattle.sweep_turns.specs.Order.{turn_visits, gate_visits}
use Rattle.sweep_runs.specs.Order.{sweep_visits}
use Rattle.sweep_runs.specs.Asleep.{Resting}
use Rattle.sweep_runs.specs.Fits.{RunFits, FreshFits}
use Rattle.sweep_runs.proofs.FourRuns.{observes, observe-fits}
use Rattle.sweep_runs.proofs.Lines.{drives-line}
use Rattle.sweep_reruns.specs.Trial.{TryFits, PadTried}

module _ {library netlist : List ℕ} {cells : List Cell} {ss : List Statement} (h : Holds library netlist cells ss) where
  abbrev gates : ℕ
  gates = get_or netlist 0 0

  needs_driver : (k : Kind) (g : ℕ) → g < gates → (l : ℕ) → InRange l → (v : Visit) → List-as-Memᴰ v (gate_visits 1 (kind_number k) library netlist g)
      → Needs v (node k (observe l)) → gate_line netlist g 0 ≡ l
  needs_driver k =
      rw (h.cells_stand, h.statements_stand) (drives-line cells ss h.sound h.behind h.past k)

  module _ {xs : List ℕ} (fits : FreshFits 1 0 library netlist xs) (rests : Rests lower (observing_visits combinational cells (gates_of ss)) xs)
      (l : ℕ) (range : InRange l) {none woken : List ℕ} (size : length none ≡ Size.awake_words) (wakes : DriverWoken netlist gates l none woken) where
    -- With none awake but the gate that drives the line, those asleep are idle once the line is a pad.
    idle : (t : ℕ) → t < gates → bit_at woken t ≡ 0 → (v : Visit) → List-as-Memᴰ v (turn_visits 1 0 library netlist t)
        → lower (set xs (node combinational (observe l)) 0) v ≡ set xs (node combinational (observe l)) 0
    unfolding by_role pick
    idle t b asleep v m =
        pad-idle (sweep_visits 1 0 library netlist) xs (node combinational (observe l)) 0 (omega arith) (rw (observes h combinational) rests) v
        (turn-listed (turn_visits 1 0 library netlist) gates t b v m)
        (λ d.
        let g : ℕ = gates - 1 - t in
        let e : gate_line netlist g 0 ≡ l = needs_driver combinational g (omega arith) l range v m d in
        let w : bit_at woken (gates - 1 - g) ≡ 1 =
        wakes.driver g (omega arith) e (λ i c f. let q : i ≡ g = fits.links_fit.needs.once i g c (omega arith) (f ∙ sym e) in omega arith) in
        let z : gates - 1 - g ≡ t = omega arith in
        let y : bit_at woken t ≡ 1 = subst (λ (n : ℕ). bit_at woken n ≡ 1) z w in
        omega (arith, asleep, y))

    resting : Resting 1 0 library netlist woken (set xs (node combinational (observe l)) 0)
    resting = record { size = wakes.size ∙ size; watched = record { idle = idle } }

-- ---- what `try_pad` asks of the run

module _ {library netlist numbers : List ℕ} {line : ℕ} (f : TryFits library netlist numbers line) where
  abbrev tried : List ℕ
  tried = set numbers (node combinational (observe line)) 0

  inside : node combinational (observe line) < length numbers
  inside = rw f.half.size (node-inside combinational (observe line) f.range)

  costs : Bounded tried
  costs n = place (ℕ_discrete n (node combinational (observe line)))
    where
      place : Dec (n ≡ node combinational (observe line)) → at tried n ≤ never
      place (yes e) = rw (e, at_set_same numbers (node combinational (observe line)) 0 inside) (omega arith)
      place (no e) = rw (at_set_other numbers (node combinational (observe line)) 0 n e) (f.half.costs n)

  fits : {none woken : List ℕ} → length none ≡ Size.awake_words → DriverWoken netlist (get_or netlist 0 0) line none woken
      → RunFits 1 0 library netlist tried woken
  fits size wakes =
      let here = observe-fits f.half.holds combinational {xs = numbers} f.half.size f.half.costs in
      let lowered : FreshFits 1 0 library netlist tried =
      observe-fits f.half.holds combinational (length-set numbers (node combinational (observe line)) 0 ∙ f.half.size) costs in
      record {
        sweep_fits =
            record {
              links_fit = lowered.links_fit;
              size = lowered.size;
              resting = resting f.half.holds here f.rests line f.range size wakes;
            };
        runs = lowered.runs;
      }

-- The pad's number, by its place in the numbers table.
laid-node : (numbers : List ℕ) (line : ℕ) {place : ℕ} → place ≡ observing_place 0 line → set numbers place 0 ≡ set numbers (node combinational (observe line)) 0
unfolding node
laid-node numbers line {place} placed = let e : place ≡ (line - 1) * Size.costs + (4 + 0) = omega (arith, placed) in rw e

-- The same by the line and the count of gates as they were read.
module _ {library netlist numbers : List ℕ} {line : ℕ} (f : TryFits library netlist numbers line) {l : ℕ} (is : l ≡ line) where
  pub line-range : (1 ≤ l) × (l ≤ Size.lines)
  line-range = rw is (unfold InRange in f.range)

  module _ {gates : ℕ} (count : gates ≡ get_or netlist 0 0) where
    pub line-driven : {links : List ℕ} → Links library netlist links → Driven netlist gates links
    line-driven linked = rw count linked.driven

    pub trial-fits : {place : ℕ} → place ≡ observing_place 0 line → {none woken : List ℕ} → length none ≡ Size.awake_words → DriverWoken netlist gates l none woken
        → RunFits 1 0 library netlist (set numbers place 0) woken
    trial-fits placed size wakes = rw (laid-node numbers line placed) (fits f size (rw (is, count) at wakes))

pub trial-ran : {library netlist : List ℕ} {cells : List Cell} {ss : List Statement} → Holds library netlist cells ss → (numbers : List ℕ) (line : ℕ) {after : List ℕ} {place count : ℕ}
    → place ≡ observing_place 0 line → Settles lower (sweep_visits 1 0 library netlist) (set numbers place 0) count after → PadTried cells ss line numbers count after
trial-ran h numbers line placed s = rw (laid-node numbers line placed, observes h combinational) at s
