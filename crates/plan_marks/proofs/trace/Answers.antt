-- `trace` sweeps until nothing changes: what is marked then is all that the definitions remember.
use Rattle.common_laws.proofs.Base.{false, ◌≡◌, refl, ap, ◌∙◌, ℕ, suc, ◌+◌, ◌*◌, ◌-◌, arith, length, get_or, length-replicate}
use Rattle.sizes.specs.Sizes as Size
use Rattle.cost.specs.Kind.{kind_index}
use Rattle.sweep_turns.proofs.VisitsLaws.{swept-length}
use Rattle.sweep_runs.proofs.Asleep.{all_rest}
use Rattle.sweep_runs.proofs.FourRuns.{room, link_fits}
use Rattle.sweep_start.proofs.StartLines.{laid-length}
use Rattle.plan_marks.proofs.Turns.{swept-still, swept-bounded}
use Rattle.plan_marks.proofs.Run.{links-fit, begins, starts-bounded, one_more_lem, few-gates, ends-all, ends-early}
use Rattle.plan_marks.proofs.trace.Goals as goal

pub count-gates-requires : goal.count-gates-requires
count-gates-requires c = omega (arith, room c.requires.holds)

pub link-requires : goal.link-requires
link-requires c = link_fits c.requires.holds refl

pub start-requires : goal.start-requires
start-requires c = (room c.requires.holds, refl)

pub loop-init : goal.loop-init
loop-init c =
    let a = c.args in
    let k = kind_index a.kind in
    let b = begins k a.library.now a.netlist.now _ _ c.start.ensures c.requires.unmarked in (
      omega arith,
      b.1,
      b.0,
      ap length c.start.ensures ∙ laid-length false a.netlist.now Size.lines 1,
      ap length c.requires.unmarked ∙ length-replicate {A = ℕ} Size.marks 0,
      rw c.start.ensures (starts-bounded k a.library.now a.netlist.now c.requires.cells c.requires.statements c.requires.holds),
      all_rest 0 k a.library.now a.netlist.now c.link.ensures.chained.count c.all_awake-awake.ensures,
    )

pub one_sweep-changed-requires : goal.one_sweep-changed-requires
one_sweep-changed-requires c =
    let a = c.args in
    let i = c.loop.invariant in
    let few = few-gates (kind_index a.kind) a.library.now a.netlist.now c.requires.cells c.requires.statements c.requires.holds in
    record {
      fits =
          record {
            links_fit = links-fit c.requires.holds c.loop.numbers i.3 i.5 (kind_index a.kind) c.requires.kind_fits;
            size = i.3;
            bounded = i.5;
            marks_size = i.4;
          };
      timed = omega (arith, i.0, few, c.count-gates.ensures);
      resting = i.6;
    }

pub returns-then-not-changed : goal.returns-then-not-changed
returns-then-not-changed c k cells ss e h =
    let a = c.args in
    let i = c.loop.invariant in
    let t = c.one_sweep-changed.ensures.traced in
    let m = one_more_lem (kind_index a.kind) a.library.now a.netlist.now _ _ _ _ _ _ i.2 i.1 t in
    ends-early (kind_index a.kind) a.library.now a.netlist.now k cells ss e h c.loop.counter (2 * get_or a.netlist.now 0 0 - c.loop.counter)
    (omega (arith, c.count-gates.ensures)) _ _ _ _ (swept-length t.swept ∙ i.3) (swept-still c.if-not-changed.true t.swept) i.2 m.0

pub overflow_add-clock : goal.overflow_add-clock
overflow_add-clock c =
    let a = c.args in
    let few = few-gates (kind_index a.kind) a.library.now a.netlist.now c.requires.cells c.requires.statements c.requires.holds in
    omega (arith, c.loop.invariant.0, few, c.count-gates.ensures)

pub loop-preserved : goal.loop-preserved
loop-preserved c =
    let a = c.args in
    let i = c.loop.invariant in
    let t = c.one_sweep-changed.ensures.traced in
    let few = few-gates (kind_index a.kind) a.library.now a.netlist.now c.requires.cells c.requires.statements c.requires.holds in
    let m = one_more_lem (kind_index a.kind) a.library.now a.netlist.now _ _ _ _ _ _ i.2 i.1 t in
    let n : c.loop.counter + 1 ≡ suc c.loop.counter = omega arith in (
      omega (arith, i.0, few, c.count-gates.ensures),
      rw n (m.1 ∙ omega (arith, c.count-gates.ensures)),
      rw n m.0,
      swept-length t.swept ∙ i.3,
      t.marks_long ∙ i.4,
      swept-bounded t.swept i.5,
      c.one_sweep-changed.ensures.rests,
    )

pub returns : goal.returns
returns c k cells ss e h =
    let a = c.args in
    let n : c.loop.counter ≡ 2 * get_or a.netlist.now 0 0 + 1 = omega (arith, c.count-gates.ensures, c.loop-test.false) in
    ends-all (kind_index a.kind) a.library.now a.netlist.now k cells ss e h _ _ (rw n at c.loop.invariant.2)
