-- What acceptance gives the visits: the conditions that crate `plans` asks of them, and so the bounds on sweeps.
use Rattle.common_laws.proofs.Base.{false, List, [], ◌∷◌, map, List-as-Memᴰ, List-Memᴰ-head, List-Memᴰ-tail, List-Memᴰ-append-cases, Memᴰ-append-left, Memᴰ-append-right, Memᴰ-map}
use Rattle.common_laws.proofs.Base.{◌⊎◌, inl, inr, ⊎_elim, ◌≡◌, refl, sym, ◌∙◌, ap, ℕ, ◌+◌, ◌*◌, ◌%◌, ◌≤◌, ◌<◌, le_trans, le_of_eq, arith, length, length-map}
use Rattle.sizes.specs.Sizes as Size
use Rattle.reading.specs.Choice.{pick}
use Rattle.cost.specs.Cost.{never}
use Rattle.plans.specs.System.{Way, Visit}
use Rattle.plans.specs.Sweep.{at, Inside, Bounded, Visited, Above, Leads}
use Rattle.plans.specs.Stages.{run_stage, all_visits, Stages.ended, Stages.stage, Needed, Apart, Works, AllWork, AllWithin}
use Rattle.plans.proofs.Laws.{never-above, renewing_works, leading_works, ranked-apart, stages-within, stages-once, stages-left}
use Rattle.library_table.specs.Cells.{Row, Group, Cell, Column, pin, output}
use Rattle.library_table.specs.Cells as C
use Rattle.library_table.specs.Library.{word_groups}
use Rattle.library_table.specs.Sound.{SoundRow}
use Rattle.netlist_table.specs.Netlist.{Gate, Statement, gates_of, is_input}
use Rattle.calculation.specs.Nodes.{Kind, combinational, sequential, kind_number, set, observe, line_of, cost_index, node}
use Rattle.calculation.specs.Prices.{Pricing, Figures}
use Rattle.calculation.specs.Ways.{cell_of, asked, needs, Role, setting, observing, purpose_of, word_of, asks, visit, value_roles, gate_visits, setting_visits, observing_visits}
use Rattle.calculation.specs.Acceptance.{BothSound}
use Rattle.calculation.specs.Calculation.{start_at, setting_stage, observing_stage, stages, Analysed, analysed_at}
use Rattle.calculation.specs.Settled.{in_order, SettledAt, FewSweeps}
use Rattle.calculation.proofs.Sweeps.{Apiece, apiece_once}
use Rattle.calculation.proofs.Places.{Placed, kind-small, node-inside, node_index, node_injective, first_number, start-length, start-at, start-bounded}
use Rattle.calculation.proofs.Visits.{
  Sets,
  Observes,
  Has,
  sets-has,
  observes-has,
  Visiting,
  visiting_node,
  visiting_more,
  setting_from,
  observing_from,
  setting-listed,
  observing-listed,
  setting-length,
  Offer,
  offer,
  offer_needs,
  offer-need,
  MayName,
  asks_named,
  asks-observe,
}
use Rattle.netlist_table.specs.Sound.{DrivenOnce}
use Rattle.netlist_table.proofs.Laws.{driven-once, gate_no_input}
use Rattle.calculation.proofs.Acceptance.{purpose_placed, asked-placed, role_row, row_observes}

-- ---- the order of the runs is that of a line's six numbers: what a run visits stands behind all that an earlier one needs

sets_index : (k : Kind) (g : Gate) (c : Cell) (role : Role) → Sets c role → (2 * kind_number k ≤ cost_index k (purpose_of g role)) × (cost_index k (purpose_of g role) < 2 * kind_number k + 2)
unfolding purpose_of
sets_index k g c (setting e) h = (omega arith, omega arith)
sets_index k g c (observing i) h = absurd h

observes_index : (k : Kind) (g : Gate) (c : Cell) (role : Role) → Observes c role → cost_index k (purpose_of g role) ≡ 4 + kind_number k
unfolding purpose_of
observes_index k g c (setting e) h = absurd h
observes_index k g c (observing i) h = refl

-- A column asks for a value, or observes the output; the latter in an observing row alone.
asked_index : (k : Kind) (g : Gate) (n : ℕ) (role : Role) (c : Column) → MayName n role c → (cost_index k (asked g c) < 2 * kind_number k + 2) ⊎ (c ≡ C.observe)
unfolding asked
asked_index k g n role (pin i v) h = inl (omega (arith, h.2))
asked_index k g n (setting e) (output v) h = absurd h
asked_index k g n (observing i) (output v) h = inl (omega arith)
asked_index k g n role C.observe h = inr refl

setting-asks : (k : Kind) (g : Gate) (d : Cell) (n : ℕ) (role : Role) (c : Column) → Sets d role → MayName n role c → cost_index k (asked g c) < 2 * kind_number k + 2
unfolding asked
setting-asks k g d n (setting e) (pin i v) s h = omega (arith, h.2)
setting-asks k g d n (setting e) (output v) s h = absurd h
setting-asks k g d n (setting e) C.observe s h = absurd h
setting-asks k g d n (observing i) c s h = absurd s

observing-asks : (k : Kind) (g : Gate) (n : ℕ) (role : Role) (c : Column) → MayName n role c → cost_index k (asked g c) < 4 + kind_number k + 1
unfolding asked
observing-asks k g n role (pin i v) h = omega (arith, h.2, kind-small k)
observing-asks k g n (setting e) (output v) h = absurd h
observing-asks k g n (observing i) (output v) h = omega (arith, kind-small k)
observing-asks k g n role C.observe h = omega arith

-- ---- no value is visited twice, since no line is driven twice

sets-line : (g : Gate) (c : Cell) (role : Role) → Sets c role → line_of (purpose_of g role) ≡ g.line
unfolding purpose_of
sets-line g c (setting e) h = refl
sets-line g c (observing i) h = absurd h

module _ (k : Kind) (cells : List Cell) where
  -- Every value of these gates has its number in the table.
  abbrev AllPlaced : List Gate → Type 0
  AllPlaced gs = (g : Gate) → List-as-Memᴰ g gs → (role : Role) → Sets (cell_of cells g) role → Placed (purpose_of g role)

  other-line : (g : Gate) (gs : List Gate) (role : Role) → Sets (cell_of cells g) role → AllPlaced (g ∷ gs) → ((h : Gate) → List-as-Memᴰ h gs → g.line ≡ h.line → ⊥) → Visited (setting_visits k cells gs) (visit k cells g role).node → ⊥
  unfolding visit
  other-line g gs role s placed apart v =
      let t : Visiting Sets k cells gs v.visit = setting_from k cells gs v.visit v.listed in
      let p : purpose_of g role ≡ purpose_of t.gate t.role =
      (node_injective k k (purpose_of g role) (purpose_of t.gate t.role) (placed g (List-Memᴰ-head refl) role s)
      (placed t.gate (List-Memᴰ-tail t.listed) t.role t.allowed) (sym v.same ∙ visiting_node t)).1 in
      apart t.gate t.listed
      (sym (sets-line g (cell_of cells g) role s) ∙ ap line_of p ∙ sets-line t.gate (cell_of cells t.gate) t.role t.allowed)

  other-value : (g : Gate) → Placed (set g.line 0) → Placed (set g.line 1) → (visit k cells g (setting 1)).node ≡ (visit k cells g (setting 0)).node → ⊥
  unfolding visit purpose_of
  other-value g a b e =
      let p : set g.line 1 ≡ set g.line 0 = (node_injective k k (set g.line 1) (set g.line 0) b a e).1 in
      let z : ◌≡◌ {A = ℕ} 1 0 = cc in
      omega arith

  setting_apiece : (gs : List Gate) → AllPlaced gs → DrivenOnce gs → Apiece (setting_visits k cells gs)
  unfolding setting_visits gate_visits value_roles
  setting_apiece [] placed once = tt
  setting_apiece (g ∷ gs) placed once = (
    λ v. first v.visit v.same v.listed,
    (
      other-line g gs (setting 1) (omega arith) placed once.0,
      setting_apiece gs (λ h m. placed h (List-Memᴰ-tail m)) once.1,
    ),
  )
    where
      first : (u : Visit) → u.node ≡ (visit k cells g (setting 0)).node → List-as-Memᴰ u (visit k cells g (setting 1) ∷ setting_visits k cells gs) → ⊥
      first u e (List-Memᴰ-head q) =
          other-value g
          (unfold purpose_of in placed g (List-Memᴰ-head refl) (setting 0) (omega arith))
          (unfold purpose_of in placed g (List-Memᴰ-head refl) (setting 1) (omega arith))
          (sym (ap (λ (t : Visit). t.node) q) ∙ e)
      first u e (List-Memᴰ-tail m) = other-line g gs (setting 0) (omega arith) placed once.0 (record { visit = u; listed = m; same = e })

-- ---- the visits of the four runs

pub all_from : (cells : List Cell) (gs : List Gate) (v : Visit) → List-as-Memᴰ v (all_visits (stages cells gs)) → (k : Kind) × Visiting Has k cells gs v
all_from cells gs v m =
    ⊎_elim (sets combinational)
    (λ a. ⊎_elim (sets sequential)
    (λ b. ⊎_elim (observes combinational)
    (λ c. ⊎_elim (observes sequential) (λ d. absurd (elim d [ ])) (List-Memᴰ-append-cases (observing_visits sequential cells gs) c))
    (List-Memᴰ-append-cases (observing_visits combinational cells gs) b))
    (List-Memᴰ-append-cases (setting_visits sequential cells gs) a))
    (List-Memᴰ-append-cases (setting_visits combinational cells gs) m)
  where
    sets : (k : Kind) → List-as-Memᴰ v (setting_visits k cells gs) → (k : Kind) × Visiting Has k cells gs v
    sets k i = (k, visiting_more sets-has (setting_from k cells gs v i))

    observes : (k : Kind) → List-as-Memᴰ v (observing_visits k cells gs) → (k : Kind) × Visiting Has k cells gs v
    observes k i = (k, visiting_more observes-has (observing_from k cells gs v i))

pub all_listed : (cells : List Cell) (gs : List Gate) (k : Kind) (g : Gate) (role : Role) → List-as-Memᴰ g gs → Has (cell_of cells g) role → List-as-Memᴰ (visit k cells g role) (all_visits (stages cells gs))
all_listed cells gs combinational g (setting e) m h =
    Memᴰ-append-left (all_visits (setting_stage sequential cells gs ∷ observing_stage combinational cells gs ∷ observing_stage sequential cells gs ∷ []))
    (setting-listed combinational cells gs g (setting e) m h)
all_listed cells gs sequential g (setting e) m h =
    Memᴰ-append-right (setting_visits combinational cells gs)
    (Memᴰ-append-left (all_visits (observing_stage combinational cells gs ∷ observing_stage sequential cells gs ∷ []))
    (setting-listed sequential cells gs g (setting e) m h))
all_listed cells gs combinational g (observing i) m h =
    Memᴰ-append-right (setting_visits combinational cells gs)
    (Memᴰ-append-right (setting_visits sequential cells gs)
    (Memᴰ-append-left (all_visits (observing_stage sequential cells gs ∷ [])) (observing-listed combinational cells gs g (observing i) m h)))
all_listed cells gs sequential g (observing i) m h =
    Memᴰ-append-right (setting_visits combinational cells gs)
    (Memᴰ-append-right (setting_visits sequential cells gs)
    (Memᴰ-append-right (observing_visits combinational cells gs)
    (Memᴰ-append-left [] (observing-listed sequential cells gs g (observing i) m h))))

-- ---- an accepted netlist

module _ (cells : List Cell) (ss : List Statement) (sound : BothSound cells ss) where
  abbrev gs : List Gate
  gs = gates_of ss

  pub visiting_placed : {k : Kind} {v : Visit} (t : Visiting Has k cells gs v) → Placed (purpose_of t.gate t.role)
  visiting_placed t = purpose_placed sound t.gate t.listed t.role t.allowed

  pub visiting_inside : {k : Kind} {v : Visit} → Visiting Has k cells gs v → v.node < Size.numbers
  visiting_inside {k} t = rw (visiting_node t) (node-inside k (purpose_of t.gate t.role) (visiting_placed t))

  visiting_index : {k : Kind} {v : Visit} (t : Visiting Has k cells gs v) → v.node % Size.costs ≡ cost_index k (purpose_of t.gate t.role)
  visiting_index {k} t = rw (visiting_node t) (node_index k (purpose_of t.gate t.role) (visiting_placed t))

  -- ---- what the ways need

  need_index : {has : Cell → Role → Type 0} {k : Kind} {n : ℕ} {w : Way} (o : Offer has k cells gs n w) (m : ℕ) → List-as-Memᴰ m w.needs
      → (c : Column) × MayName (cell_of cells o.gate).pins o.role c × (m ≡ node k (asked o.gate c)) × (m % Size.costs ≡ cost_index k (asked o.gate c))
  need_index {k = k} o m i =
      let f = offer-need o m i in
      let a : MayName (cell_of cells o.gate).pins o.role f.0 = asks_named o.gate (cell_of cells o.gate) o.role o.row f.0 f.1 in
      let p : Placed (asked o.gate f.0) = asked-placed sound o.gate o.listed o.role f.0 a in
      (f.0, a, sym f.2, ap (λ (x : ℕ). x % Size.costs) (sym f.2) ∙ node_index k (asked o.gate f.0) p)

  -- ---- the stages are apart

  pub setting-visited : (k : Kind) (n : ℕ) → Visited (setting_visits k cells gs) n → (2 * kind_number k ≤ n % Size.costs) × (n % Size.costs < 2 * kind_number k + 2)
  setting-visited k n v =
      let t : Visiting Sets k cells gs v.visit = setting_from k cells gs v.visit v.listed in
      rw (← v.same, visiting_index (visiting_more sets-has t)) (sets_index k t.gate (cell_of cells t.gate) t.role t.allowed)

  pub setting-needed : (k : Kind) (n : ℕ) → Needed (setting_visits k cells gs) n → n % Size.costs < 2 * kind_number k + 2
  setting-needed k n d =
      let o : Offer Sets k cells gs d.node d.way = offer d.offers (setting_from k cells gs d.offers.visit d.offers.listed) in
      let f = need_index o n d.among in
      rw f.3 (setting-asks k o.gate (cell_of cells o.gate) (cell_of cells o.gate).pins o.role f.0 o.allowed f.1)

  pub observing-visited : (k : Kind) (n : ℕ) → Visited (observing_visits k cells gs) n → n % Size.costs ≡ 4 + kind_number k
  observing-visited k n v =
      let t : Visiting Observes k cells gs v.visit = observing_from k cells gs v.visit v.listed in
      rw (← v.same, visiting_index (visiting_more observes-has t)) (observes_index k t.gate (cell_of cells t.gate) t.role t.allowed)

  pub observing-needed : (k : Kind) (n : ℕ) → Needed (observing_visits k cells gs) n → n % Size.costs < 4 + kind_number k + 1
  observing-needed k n d =
      let o : Offer Observes k cells gs d.node d.way = offer d.offers (observing_from k cells gs d.offers.visit d.offers.listed) in
      let f = need_index o n d.among in
      rw f.3 (observing-asks k o.gate (cell_of cells o.gate).pins o.role f.0 f.1)

  pub apart : Apart (stages cells gs)
  apart =
      ranked-apart (λ n. n % Size.costs) 0 (stages cells gs) (
        2,
        omega arith,
        setting-visited combinational,
        setting-needed combinational,
        (
          4,
          omega arith,
          setting-visited sequential,
          setting-needed sequential,
          (
            5,
            omega arith,
            (λ n v. observed combinational n v),
            observing-needed combinational,
            (
              6,
              omega arith,
              (λ n v. observed sequential n v),
              observing-needed sequential,
              tt,
            ),
          ),
        ),
      )
    where
      observed : (k : Kind) (n : ℕ) → Visited (observing_visits k cells gs) n → (4 + kind_number k ≤ n % Size.costs) × (n % Size.costs < 4 + kind_number k + 1)
      observed k n v = (omega (arith, observing-visited k n v), omega (arith, observing-visited k n v))

  -- ---- CC and SC

  pub gates_apiece : (k : Kind) → Apiece (setting_visits k cells gs)
  gates_apiece k =
      setting_apiece k cells gs (λ g m role s. purpose_placed sound g m role (sets-has (cell_of cells g) role s)) (driven-once cells ss sound.netlist)

  setting-works : (xs : List ℕ) → length xs ≡ Size.numbers → Bounded xs → (k : Kind) → Above (setting_visits k cells gs) xs → Works (setting_stage k cells gs) xs
  setting-works xs long bounded k above =
      let vs : List Visit = setting_visits k cells gs in
      let l : length (map (λ v. v.node) vs) ≡ 2 * length gs = length-map vs (λ v. v.node) ∙ setting-length k cells gs in
      renewing_works vs (map (λ v. v.node) vs) xs (λ n v. rw (← v.same) (Memᴰ-map (λ u. u.node) v.listed)) bounded
      (λ v m. rw long (visiting_inside (visiting_more sets-has (setting_from k cells gs v m)))) (apiece_once vs (gates_apiece k)) above
      (setting_stage k cells gs).bound (omega arith)

  -- ---- CO and SO: every row leads through its gate's output

  asks-output : (k : Kind) (g : Gate) (c : Cell) (role : Role) (all : List Group) (r : Row) → Observes c role → SoundRow (word_of k role) c.pins all r → List-as-Memᴰ C.observe (asks g c role r)
  asks-output k g c (setting e) all r h s = absurd h
  asks-output k g c (observing i) all r h s = asks-observe g c i r (row_observes k i c.pins all r s)

  abbrev outputs : Kind → List ℕ
  outputs k = map (λ (g : Gate). node k (observe g.line)) gs

  module _ (k : Kind) (n : ℕ) (w : Way) (o : Offer Observes k cells gs n w) where
    leads-among : List-as-Memᴰ (node k (observe o.gate.line)) w.needs
    unfolding needs asked
    leads-among =
        let c : Cell = cell_of cells o.gate in
        rw (offer_needs o)
        (Memᴰ-map (λ (d : Column). node k (asked o.gate d))
        (asks-output k o.gate c o.role (word_groups (word_of k o.role) c) o.row o.allowed
        (role_row sound o.gate o.listed k o.role (observes-has c o.role o.allowed) o.row o.among)))

    leads-others : (m : ℕ) → List-as-Memᴰ m w.needs → (m ≡ node k (observe o.gate.line)) ⊎ (Visited (observing_visits k cells gs) m → ⊥)
    unfolding asked
    leads-others m i =
        let f = need_index o m i in
        ⊎_elim (λ h. inr (λ v. omega (arith, f.3, observing-visited k m v, kind-small k)))
        (λ e. inl (f.2 ∙ ap (λ (d : Column). node k (asked o.gate d)) e))
        (asked_index k o.gate (cell_of cells o.gate).pins o.role f.0 f.1)

  observing-leads : (k : Kind) → Leads (observing_visits k cells gs) (outputs k)
  observing-leads k n w offers =
      let o : Offer Observes k cells gs n w = offer offers (observing_from k cells gs offers.visit offers.listed) in (
        node k (observe o.gate.line),
        Memᴰ-map (λ (g : Gate). node k (observe g.line)) o.listed,
        record { among = leads-among k n w o; others = leads-others k n w o },
      )

  pub observing-works : (xs : List ℕ) → length xs ≡ Size.numbers → Bounded xs → (k : Kind) → Works (observing_stage k cells gs) xs
  observing-works xs long bounded k =
      let l : length (outputs k) ≡ length gs = length-map gs (λ g. node k (observe g.line)) in
      leading_works (observing_visits k cells gs) (outputs k) xs (observing-leads k) bounded
      (λ v m. rw long (visiting_inside (visiting_more observes-has (observing_from k cells gs v m))))
      (observing_stage k cells gs).bound (omega arith)

  -- From any numbers whose visited values are at least their sums the four runs end within their bounds.
  pub works_from : (xs : List ℕ) → length xs ≡ Size.numbers → Bounded xs → ((k : Kind) → Above (setting_visits k cells gs) xs) → AllWork (stages cells gs) xs
  works_from xs long bounded above = (
    setting-works xs long bounded combinational (above combinational),
    (
      setting-works xs long bounded sequential (above sequential),
      (observing-works xs long bounded combinational, (observing-works xs long bounded sequential, tt)),
    ),
  )

  -- ---- at whatever prices

  module _ (price : Pricing) (figures : Figures price ss) where
    -- The values of gates' outputs are never at the start: no gate's line is an input.
    pub sets_first : (k : Kind) (g : Gate) (c : Cell) (role : Role) → is_input g.line ss ≡ false → Sets c role → first_number price ss k (purpose_of g role) ≡ never
    unfolding purpose_of pick
    sets_first k g c (setting e) h s = rw h
    sets_first k g c (observing i) h s = absurd s

    -- .. so that each visited one is never.
    pub sets-never : (k : Kind) (v : Visit) → List-as-Memᴰ v (setting_visits k cells gs) → at (start_at price ss) v.node ≡ never
    sets-never k v m =
        let t : Visiting Sets k cells gs v = setting_from k cells gs v m in
        ap (at (start_at price ss)) (visiting_node t)
        ∙ start-at price ss k (purpose_of t.gate t.role) (visiting_placed (visiting_more sets-has t))
        ∙ sets_first k t.gate (cell_of cells t.gate) t.role (gate_no_input cells ss sound.netlist t.gate t.listed) t.allowed

    start-above : (k : Kind) → Above (setting_visits k cells gs) (start_at price ss)
    start-above k = never-above (setting_visits k cells gs) (start_at price ss) (λ v m. le_of_eq (sym (sets-never k v m)))

    -- ---- the four runs

    pub works : AllWork (stages cells gs) (start_at price ss)
    works = works_from (start_at price ss) (start-length price ss) (start-bounded price ss figures) start-above

    pub within : AllWithin (stages cells gs) (start_at price ss)
    within = stages-within (stages cells gs) (start_at price ss) apart works

    -- No run runs dry ..
    pub settled : SettledAt price cells ss (analysed_at price cells ss)
    unfolding analysed_at run_stage
    settled =
        let cc = within in
        let sc = cc.1 _ _ cc.0.0 in
        let co = sc.1 _ _ sc.0.0 in
        let so = co.1 _ _ co.0.0 in
        stage cc.0.0 (stage sc.0.0 (stage co.0.0 (stage so.0.0 (ended refl))))

    pub few-sweeps : FewSweeps (length gs) (analysed_at price cells ss).counts
    unfolding analysed_at run_stage
    few-sweeps =
        let cc = within in
        let sc = cc.1 _ _ cc.0.0 in
        let co = sc.1 _ _ sc.0.0 in
        let so = co.1 _ _ co.0.0 in
        record { cc = cc.0.1; sc = sc.0.1; co = co.0.1; so = so.0.1 }

    -- .. and there is one such analysis.
    pub settled-once : (a : Analysed) → SettledAt price cells ss a → a ≡ analysed_at price cells ss
    settled-once a s =
        let b : Analysed = analysed_at price cells ss in
        let e : (in_order a.counts ≡ in_order b.counts) × (a.numbers ≡ b.numbers) =
        stages-once (stages cells gs) (start_at price ss) a.numbers b.numbers (in_order a.counts) (in_order b.counts) s settled in
        let c : a.counts.cc ≡ b.counts.cc = cc e.0 in
        let d : a.counts.sc ≡ b.counts.sc = cc e.0 in
        let f : a.counts.co ≡ b.counts.co = cc e.0 in
        let g : a.counts.so ≡ b.counts.so = cc e.0 in
        λ i. record { numbers = e.1 i; counts = record { cc = c i; sc = d i; co = f i; so = g i } }

    -- ---- the numbers

    left : (length (analysed_at price cells ss).numbers ≡ length (start_at price ss)) × ((n : ℕ) → at (analysed_at price cells ss).numbers n ≤ at (start_at price ss) n)
    left = stages-left (stages cells gs) (start_at price ss) (analysed_at price cells ss).numbers (in_order (analysed_at price cells ss).counts) apart works settled

    pub numbers-length : length (analysed_at price cells ss).numbers ≡ Size.numbers
    numbers-length = left.0 ∙ start-length price ss

    pub numbers-bounded : Bounded (analysed_at price cells ss).numbers
    numbers-bounded n = le_trans (left.1 n) (start-bounded price ss figures n)

    -- Every visit of the four runs is to a number of the table.
    pub all-inside : Inside (all_visits (stages cells gs)) (start_at price ss)
    all-inside v m = rw (start-length price ss) (visiting_inside (all_from cells gs v m).1)
