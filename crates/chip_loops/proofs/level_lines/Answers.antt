-- `level_lines` meets its contract.
use Rattle.common_laws.proofs.Base.{◌≡◌, refl, ap, ◌∙◌, ◌+◌, ◌-◌, arith, not}
use Rattle.netlist_table.specs.Gates.{gates_held}
use Rattle.chip_loops.specs.Marks.{passes, most_passes}
use Rattle.chip_loops.proofs.Steps.{passes-end, passes-next}
use Rattle.chip_loops.proofs.level_lines.Goals as goal

pub loop-init : goal.loop-init
loop-init c = refl

pub returns-then-not-pass_over : goal.returns-then-not-pass_over
returns-then-not-pass_over c = passes-end c.pass_over.ensures (most_passes - c.loop.counter) (ap not c.if-not-pass_over.true) ∙ c.loop.invariant

pub loop-preserved : goal.loop-preserved
loop-preserved c =
    let gs = gates_held c.args.netlist.now in
    let fewer : most_passes - (c.loop.counter + 1) ≡ most_passes - c.loop.counter - 1 = omega arith in
    rw fewer (passes-next c.pass_over.ensures (most_passes - c.loop.counter) (omega arith) ∙ c.loop.invariant)

pub returns : goal.returns
unfolding passes
returns c =
    let l = c.loop in
    let gs = gates_held c.args.netlist.now in
    let none : 0 ≡ most_passes - l.counter = omega arith in
    ap (λ n. passes n gs l.marks) none ∙ l.invariant
