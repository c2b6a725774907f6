-- Rows added to cells: the numbers that stand are a start of the runs with the new rows, which come to the numbers of a new
-- analysis, within document 01's bounds.
use Rattle.common_laws.proofs.Base.{List, [], ◌∷◌, List-as-Memᴰ, List-Memᴰ-head, List-Memᴰ-tail, Memᴰ-map, Memᴰ-of-map, some, ◌≡◌, refl, sym, ◌∙◌, ap, ℕ, arith, length}
use Rattle.cost.specs.Cost.{capped}
use Rattle.plans.specs.System.{Way, Visit, Offers}
use Rattle.plans.specs.Exact.{first}
use Rattle.plans.specs.Stages.{run_stage, Stages, Stages.ended, Stages.stage, AllWork, AllWithin}
use Rattle.plans.specs.Continued.{WaysAdded, all_by_lower}
use Rattle.plans.proofs.Laws.{first_start, stages-within, stages-once, lowered-stages, standing-above, continued}
use Rattle.library_table.specs.Cells.{Row, Cell}
use Rattle.netlist_table.specs.Netlist.{Gate, Statement, gates_of}
use Rattle.netlist_table.specs.Sound.{DrivenOnce}
use Rattle.netlist_table.proofs.Laws.{driven-once}
use Rattle.calculation.specs.Nodes.{Kind, line_of}
use Rattle.calculation.specs.Ways.{cell_of, Role, setting, observing, purpose_of, group_of, named_by, merges, asks, is_way, usable, way_of, ways_of, visit, setting_visits}
use Rattle.calculation.specs.Acceptance.{BothSound}
use Rattle.calculation.specs.Prices.{Pricing, Figures}
use Rattle.calculation.specs.Calculation.{start_at, stages, Analysed, analysed_at}
use Rattle.calculation.specs.Runs.{runs_from}
use Rattle.calculation.specs.Settled.{in_order, FewSweeps}
use Rattle.calculation.specs.Added.{RowsAdded, AtGates}
use Rattle.calculation.proofs.Places.{node_injective, start-length}
use Rattle.calculation.proofs.Visits.{Sets, Has, sets-has, Visiting, visiting_node, setting_from, usable_from, usable-listed}
use Rattle.calculation.proofs.Acceptance.{purpose_placed}
use Rattle.calculation.proofs.Bounds.{all_from, all_listed, apart, works, works_from, settled, all-inside, sets-never, numbers-length, numbers-bounded}
use Rattle.calculation.specs.Systems.{price_at, system_at}
use Rattle.calculation.proofs.PlansAlike.{start_first}
use Rattle.calculation.proofs.Exactness.{generally-exact}

-- ---- a cell

module _ (c d : Cell) (added : RowsAdded c d) where
  -- So a row is a way at a gate where it was, and the same one.
  pub grown-way : (k : Kind) (g : Gate) (role : Role) (r : Row) → (is_way g d role r ≡ is_way g c role r) × (way_of k g d role r ≡ way_of k g c role r)
  unfolding is_way way_of asks merges named_by
  grown-way k g (setting x) r = rw (added.wire, added.pins) (refl, refl)
  grown-way k g (observing i) r = rw added.pins (refl, refl)

  pub grown-ways : (k : Kind) (g : Gate) (role : Role) (w : Way) → List-as-Memᴰ w (ways_of k g c role (group_of k c role)) → List-as-Memᴰ w (ways_of k g d role (group_of k d role))
  unfolding ways_of
  grown-ways k g role w m =
      let t = Memᴰ-of-map (way_of k g c role) (usable g c role (group_of k c role)) m in
      let u = usable_from g c role (group_of k c role) t.0 t.1 in
      let s = grown-way k g role t.0 in
      rw (sym (s.1 ∙ t.2))
      (Memᴰ-map (way_of k g d role) (usable-listed g d role (group_of k d role) t.0 (added.rows k role t.0 u.0) (s.0 ∙ u.1)))

  grown-has : (role : Role) → Has c role → Has d role
  grown-has (setting x) h = h
  grown-has (observing i) h = (h.0, omega (arith, h.1, added.pins))

-- ---- libraries

-- A line has one driver.
same-gate : (gs : List Gate) → DrivenOnce gs → (g h : Gate) → List-as-Memᴰ g gs → List-as-Memᴰ h gs → g.line ≡ h.line → g ≡ h
same-gate [] once g h i _ q = elim i [ ]
same-gate (x ∷ gs) once g h (List-Memᴰ-head e) (List-Memᴰ-head f) q = e ∙ sym f
same-gate (x ∷ gs) once g h (List-Memᴰ-head e) (List-Memᴰ-tail j) q = absurd (once.0 h j (ap (λ (t : Gate). t.line) (sym e) ∙ q))
same-gate (x ∷ gs) once g h (List-Memᴰ-tail i) (List-Memᴰ-head f) q = absurd (once.0 g i (ap (λ (t : Gate). t.line) (sym f) ∙ sym q))
same-gate (x ∷ gs) once g h (List-Memᴰ-tail i) (List-Memᴰ-tail j) q = same-gate gs once.1 g h i j q

module _ (cells more : List Cell) (ss : List Statement) (old : BothSound cells ss) (new : BothSound more ss) (added : AtGates RowsAdded cells more ss) (price : Pricing) (figures : Figures price ss) where
  abbrev gs : List Gate
  gs = gates_of ss

  visit-ways : (k : Kind) (g : Gate) → List-as-Memᴰ g gs → (role : Role) (w : Way) → List-as-Memᴰ w (visit k cells g role).ways → List-as-Memᴰ w (visit k more g role).ways
  unfolding visit
  visit-ways k g m role w i = grown-ways (cell_of cells g) (cell_of more g) (added g m) k g role w i

  -- Whatever could be done can be done still.
  pub ways-added : WaysAdded (system_at price cells ss) (system_at price more ss)
  unfolding visit
  ways-added = record { prices = λ n. refl; ways = λ n w o. there n w o (all_from cells gs o.visit o.listed) }
    where
      there : (n : ℕ) (w : Way) (o : Offers (system_at price cells ss).visits n w) → (k : Kind) × Visiting Has k cells gs o.visit → Offers (system_at price more ss).visits n w
      there n w o (k, t) =
          record {
            visit = visit k more t.gate t.role;
            listed =
                all_listed more gs k t.gate t.role t.listed
                (grown-has (cell_of cells t.gate) (cell_of more t.gate) (added t.gate t.listed) t.role t.allowed);
            same = sym (visiting_node t) ∙ o.same;
            among = visit-ways k t.gate t.listed t.role w (rw t.same at o.among);
          }

  -- Each way to a value of a gate's output is a row of that gate.
  setting-ways : (k : Kind) (v : Visit) → List-as-Memᴰ v (setting_visits k more gs) → (w : Way) → Offers (system_at price cells ss).visits v.node w → List-as-Memᴰ w v.ways
  unfolding purpose_of
  setting-ways k v m w o = there (setting_from k more gs v m) (all_from cells gs o.visit o.listed)
    where
      there : Visiting Sets k more gs v → (j : Kind) × Visiting Has j cells gs o.visit → List-as-Memᴰ w v.ways
      there t (j, s) =
          let q : (k ≡ j) × (purpose_of t.gate t.role ≡ purpose_of s.gate s.role) =
          node_injective k j (purpose_of t.gate t.role) (purpose_of s.gate s.role)
          (purpose_placed new t.gate t.listed t.role (sets-has (cell_of more t.gate) t.role t.allowed))
          (purpose_placed old s.gate s.listed s.role s.allowed)
          (sym (visiting_node t) ∙ sym o.same ∙ visiting_node s) in
          let r : (s.gate ≡ t.gate) × (s.role ≡ t.role) = alike t.gate s.gate t.role s.role t.listed s.listed t.allowed q.1 in
          rw t.same
          (visit-ways k t.gate t.listed t.role w (rw (s.same, ← q.0, r.0, r.1) at o.among))
        where
          alike : (g h : Gate) (x y : Role) → List-as-Memᴰ g gs → List-as-Memᴰ h gs → Sets (cell_of more g) x → purpose_of g x ≡ purpose_of h y → (h ≡ g) × (y ≡ x)
          alike g h (setting a) (setting b) i j l q =
              (same-gate gs (driven-once cells ss old.netlist) h g j i (ap line_of (sym q)), let z : b ≡ a = cc in ap setting z)
          alike g h (setting a) (observing b) i j l q = let z : ◌≡◌ {A = ℕ} 0 1 = cc in absurd (omega arith)
          alike g h (observing a) y i j l q = absurd l

  -- The numbers that stand, and the runs from them.
  abbrev standing : List ℕ
  standing = (analysed_at price cells ss).numbers

  unpriced : (k : Kind) (v : Visit) → List-as-Memᴰ v (setting_visits k more gs) → (c : ℕ) → price_at price ss v.node ≡ some c → ⊥
  unfolding first capped
  unpriced k v m c q = omega (arith, sym (sets-never more ss new price figures k v m) ∙ start_first price ss figures v.node ∙ ap first q)

  works-on : AllWork (stages more gs) standing
  works-on =
      works_from more ss new standing (numbers-length cells ss old price figures) (numbers-bounded cells ss old price figures)
      (λ k. standing-above (system_at price cells ss) (setting_visits k more gs) standing (generally-exact cells ss old price figures) (unpriced k) (setting-ways k))

  -- The runs come to the numbers of a new analysis.
  pub goes_on : (a : Analysed) → Stages (stages more gs) standing (in_order a.counts) a.numbers → a.numbers ≡ (analysed_at price more ss).numbers
  goes_on a run =
      continued (system_at price cells ss) (system_at price more ss) (stages more gs) standing (start_at price ss) a.numbers (analysed_at price more ss).numbers
      (in_order a.counts) (in_order (analysed_at price more ss).counts) ways-added (generally-exact cells ss old price figures) refl (apart more ss new)
      (numbers-length cells ss old price figures ∙ sym (start-length price ss)) (all-inside more ss new price figures) works-on (works more ss new price figures)
      (first_start (system_at price more ss) (start_at price ss) (start_first price ss figures)) run (settled more ss new price figures)

  -- The runs from the numbers that stand settle, within document 01's bounds.
  within_on : AllWithin (stages more gs) standing
  within_on = stages-within (stages more gs) standing (apart more ss new) works-on

  pub on-settled : Stages (stages more gs) standing (in_order (runs_from more gs standing).counts) (runs_from more gs standing).numbers
  unfolding runs_from run_stage
  on-settled =
      let a = within_on in
      let b = a.1 _ _ a.0.0 in
      let c = b.1 _ _ b.0.0 in
      let d = c.1 _ _ c.0.0 in
      stage a.0.0 (stage b.0.0 (stage c.0.0 (stage d.0.0 (ended refl))))

  pub on-few : FewSweeps (length gs) (runs_from more gs standing).counts
  unfolding runs_from run_stage
  on-few =
      let a = within_on in
      let b = a.1 _ _ a.0.0 in
      let c = b.1 _ _ b.0.0 in
      let d = c.1 _ _ c.0.0 in
      record { cc = a.0.1; sc = b.0.1; co = c.0.1; so = d.0.1 }

  pub on-numbers : (runs_from more gs standing).numbers ≡ (analysed_at price more ss).numbers
  on-numbers = goes_on (runs_from more gs standing) on-settled

  -- The same where the code keeps the lesser throughout.
  pub goes-on-lower : (a : Analysed) → Stages (all_by_lower (stages more gs)) standing (in_order a.counts) a.numbers → (a.numbers ≡ (analysed_at price more ss).numbers) × (in_order a.counts ≡ in_order (runs_from more gs standing).counts)
  goes-on-lower a run =
      let r : Stages (stages more gs) standing (in_order a.counts) a.numbers = lowered-stages (stages more gs) standing a.numbers (in_order a.counts) within_on run in (
        goes_on a r,
        (stages-once (stages more gs) standing a.numbers (runs_from more gs standing).numbers (in_order a.counts) (in_order (runs_from more gs standing).counts) r on-settled).0,
      )
