-- The sweeps of one kind from the start on: they rest after as many as document 01 allows, and their numbers are those
-- reported.
use Rattle.common_laws.proofs.Base.{List, List-as-Memᴰ, Memᴰ-append-left, Memᴰ-append-right, ◌≡◌, refl, sym, ap, subst, ◌∙◌, ℕ, ◌+◌, ◌*◌, arith, length}
use Rattle.sizes.specs.Sizes as Size
use Rattle.plans.specs.System.{Way, Visit, Offers}
use Rattle.plans.specs.Sweep.{at, Rule, renew, lower, sweeps, Rests, Run, run, Settles, Inside, Visited, Once, Above, Lowering, Lowering.keeps, Lowering.renews}
use Rattle.plans.specs.Stages.{Stages, Stages.ended, Stages.stage, Left, Works}
use Rattle.plans.specs.Continued.{Looks}
use Rattle.plans.specs.Statements.{SettlesWithin}
use Rattle.plans.specs.Trace.{Trace, trace_sweeps, untraced}
use Rattle.plans.proofs.Laws.{traces_agree, traced_numbers, lowers_settle, within-lowers, settled_stays, renew-reads, alike-settles, settles-once, settles-other, settles-length, renew-stores, lower-stores, left_here}
use Rattle.library_table.specs.Cells.{Cell, Column, pin, output}
use Rattle.library_table.specs.Cells as C
use Rattle.netlist_table.specs.Netlist.{Gate, Statement, gates_of}
use Rattle.calculation.specs.Prices.{prices_of}
use Rattle.calculation.specs.Nodes.{Kind, combinational, sequential, Purpose, set, observe, node}
use Rattle.calculation.specs.Ways.{cell_of, pin_line, asked, Role, setting, observing, purpose_of, setting_visits, observing_visits, asks}
use Rattle.calculation.specs.Acceptance.{BothSound}
use Rattle.calculation.specs.Calculation.{start, setting_stage, stages, analysed}
use Rattle.calculation.specs.Settled.{Settled}
use Rattle.calculation.proofs.Laws.{kinds-apart, own-figures}
use Rattle.calculation.proofs.Places.{Placed, node-inside, node_injective, start-length}
use Rattle.calculation.proofs.Visits.{Sets, Observes, MayName, visiting_node, Offer, offer, offer-need, setting_from, observing_from, sets-has, observes-has, asks_named}
use Rattle.calculation.proofs.Acceptance.{purpose_placed, asked-placed}
use Rattle.calculation.proofs.Bounds.{works, settled}
use Rattle.plan_marks.specs.Lowered.{setting_trace}

set-observe : (l v m : ℕ) → set l v ≡ observe m → ⊥
set-observe l v m e = let z : ◌≡◌ {A = ℕ} 0 1 = cc in omega arith

module _ (cells : List Cell) (ss : List Statement) (sound : BothSound cells ss) where
  abbrev gs : List Gate
  gs = gates_of ss

  stage-works : (k : Kind) → Works (setting_stage k cells gs) (start ss)
  stage-works combinational = (works cells ss sound (prices_of ss) (own-figures sound)).0
  stage-works sequential = (works cells ss sound (prices_of ss) (own-figures sound)).1.0

  module _ (k : Kind) where
    abbrev pub visits : List Visit
    visits = setting_visits k cells gs

    abbrev pub most-sweeps : ℕ
    most-sweeps = 2 * length gs + 1

    within : SettlesWithin renew visits (start ss) most-sweeps most-sweeps
    within = (stage-works k).within (start ss) (left_here visits (start ss))

    lowering : Lowering renew visits (start ss)
    lowering = (stage-works k).lowering (start ss) (left_here visits (start ss))

    -- By the second rule the sweeps remember the same.
    pub trace-lower : setting_trace k cells ss ≡ trace_sweeps lower visits most-sweeps (untraced (start ss))
    unfolding setting_trace
    trace-lower = by lowering
      where
        by : Lowering renew visits (start ss) → trace_sweeps renew visits most-sweeps (untraced (start ss)) ≡ trace_sweeps lower visits most-sweeps (untraced (start ss))
        by (keeps e) = ap (λ (rule : Rule). trace_sweeps rule visits most-sweeps (untraced (start ss))) e
        by (renews e once above) = traces_agree visits most-sweeps (start ss) once above

    -- .. and come to rest, after as many as there may be.
    pub settled-lower : SettlesWithin lower visits (start ss) most-sweeps most-sweeps
    settled-lower = within-lowers most-sweeps most-sweeps lowering within

    pub reached : sweeps lower visits most-sweeps (start ss) ≡ (run lower visits most-sweeps (start ss)).numbers
    reached = settled_stays lower visits (start ss) _ _ most-sweeps settled-lower.0 settled-lower.1

    -- They settle by the first rule too.
    settles : Settles renew visits (start ss) (run lower visits most-sweeps (start ss)).count (sweeps lower visits most-sweeps (start ss))
    settles = rw reached (lowers_settle lowering settled-lower.0)

    pub rests : Rests lower visits (sweeps lower visits most-sweeps (start ss))
    rests = rw reached settled-lower.0.rests

    pub trace-numbers : (setting_trace k cells ss).numbers ≡ sweeps lower visits most-sweeps (start ss)
    trace-numbers = ap (λ (t : Trace). t.numbers) trace-lower ∙ traced_numbers lower visits most-sweeps (start ss)

    -- ---- the numbers reported

    -- A node of the kind that sets a line.
    abbrev pub Own : ℕ → Type 0
    Own n = (l : ℕ) × (v : ℕ) × Placed (set l v) × (n ≡ node k (set l v))

    pub visits-inside : Inside visits (start ss)
    visits-inside v m =
        let t = setting_from k cells gs v m in
        rw (start-length (prices_of ss) ss, visiting_node t) (node-inside k (purpose_of t.gate t.role) (purpose_placed sound t.gate t.listed t.role (sets-has (cell_of cells t.gate) t.role t.allowed)))

    own_purpose : (g : Gate) → List-as-Memᴰ g gs → (role : Role) → Sets (cell_of cells g) role → Own (node k (purpose_of g role))
    unfolding purpose_of
    own_purpose g m (setting e) h = (g.line, e, purpose_placed sound g m (setting e) h, refl)
    own_purpose g m (observing i) h = absurd h

    own-asked : (g : Gate) → List-as-Memᴰ g gs → (role : Role) → Sets (cell_of cells g) role → (c : Column) → MayName (cell_of cells g).pins role c → Own (node k (asked g c))
    unfolding asked
    own-asked g m role s (pin i v) h = (pin_line g i, v, asked-placed sound g m role (pin i v) h, refl)
    own-asked g m (setting e) s (output v) h = absurd h
    own-asked g m (observing i) s (output v) h = absurd s
    own-asked g m (setting e) s C.observe h = absurd h
    own-asked g m (observing i) s C.observe h = absurd s

    pub looks : Looks Own visits
    looks =
        record {
          visits = λ v m.
              let t = setting_from k cells gs v m in
              rw (visiting_node t) (own_purpose t.gate t.listed t.role t.allowed);
          needs = λ v m n d.
              let t = setting_from k cells gs v m in
              let o : Offer Sets k cells gs v.node d.way = offer (record { visit = v; listed = m; same = refl; among = d.listed }) t in
              let f = offer-need o n d.among in
              rw (← f.2) (own-asked o.gate o.listed o.role o.allowed f.0 (asks_named o.gate (cell_of cells o.gate) o.role o.row f.0 f.1));
        }

    -- ---- what the other runs leave

    module _ (l v : ℕ) (placed : Placed (set l v)) where
      abbrev here : ℕ
      here = node k (set l v)

      other-kind : (j : Kind) → (j ≡ k → ⊥) → Visited (setting_visits j cells gs) here → ⊥
      other-kind j h x =
          let t = setting_from j cells gs x.visit x.listed in
          h (node_injective j k (purpose_of t.gate t.role) (set l v) (purpose_placed sound t.gate t.listed t.role (sets-has (cell_of cells t.gate) t.role t.allowed)) placed
          (sym (visiting_node t) ∙ x.same)).0

      observed-not : (g : Gate) (role : Role) → Observes (cell_of cells g) role → purpose_of g role ≡ set l v → ⊥
      unfolding purpose_of
      observed-not g (setting e) h q = absurd h
      observed-not g (observing i) h q = set-observe l v (pin_line g i) (sym q)

      not-observed : (j : Kind) → Visited (observing_visits j cells gs) here → ⊥
      not-observed j x =
          let t = observing_from j cells gs x.visit x.listed in
          observed-not t.gate t.role t.allowed
          (node_injective j k (purpose_of t.gate t.role) (set l v) (purpose_placed sound t.gate t.listed t.role (observes-has (cell_of cells t.gate) t.role t.allowed)) placed
          (sym (visiting_node t) ∙ x.same)).1

  -- ---- the numbers reported are those of the sweeps of their kind alone

  module _ (l v : ℕ) (placed : Placed (set l v)) where
    alone : (k : Kind) (zs counts : List ℕ) → Stages (stages cells gs) (start ss) counts zs → at zs (node k (set l v)) ≡ at (sweeps lower (visits k) (most-sweeps k) (start ss)) (node k (set l v))
    alone combinational zs counts (stage {ys = y1} s1 (stage {ys = y2} s2 (stage {ys = y3} s3 (stage {ys = y4} s4 (ended e))))) =
        let n = node combinational (set l v) in
        ap (λ (ws : List ℕ). at ws n) e
        ∙ settles-other lower lower-stores s4 n (not-observed combinational l v placed sequential)
        ∙ settles-other lower lower-stores s3 n (not-observed combinational l v placed combinational)
        ∙ settles-other renew renew-stores s2 n (other-kind combinational l v placed sequential (λ q. kinds-apart (sym q)))
        ∙ ap (λ (ws : List ℕ). at ws n) (settles-once renew (visits combinational) (start ss) y1 _ _ _ s1 (settles combinational)).1
    alone sequential zs counts (stage {ys = y1} s1 (stage {ys = y2} s2 (stage {ys = y3} s3 (stage {ys = y4} s4 (ended e))))) =
        let n = node sequential (set l v) in
        let r =
        alike-settles renew renew-stores renew-reads (Own sequential) (visits sequential) y1 (start ss) y2 _ (looks sequential)
        (record {
          long = settles-length renew renew-stores s1;
          same = λ j o. rw o.3 (settles-other renew renew-stores s1 (node sequential (set o.0 o.1)) (other-kind sequential o.0 o.1 o.2 combinational kinds-apart));
        })
        s2 in
        ap (λ (ws : List ℕ). at ws n) e
        ∙ settles-other lower lower-stores s4 n (not-observed sequential l v placed sequential)
        ∙ settles-other lower lower-stores s3 n (not-observed sequential l v placed combinational)
        ∙ r.2.same n (l, v, placed, refl)
        ∙ ap (λ (ws : List ℕ). at ws n) (settles-once renew (visits sequential) (start ss) r.0 _ _ _ r.1 (settles sequential)).1

    pub reported : (k : Kind) → at (analysed cells ss).numbers (node k (set l v)) ≡ at (setting_trace k cells ss).numbers (node k (set l v))
    reported k =
        alone k (analysed cells ss).numbers _ (settled cells ss sound (prices_of ss) (own-figures sound))
        ∙ ap (λ (ws : List ℕ). at ws (node k (set l v))) (sym (trace-numbers k))
