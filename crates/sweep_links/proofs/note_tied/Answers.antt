-- `note_tied` notes one gate more.
use Rattle.common_laws.proofs.Base.{Bool, true, false, ◌≡◌, refl, ap, ◌∙◌, ◌+◌, ◌<◌, arith}
use Rattle.std.specs.Int.{from_bool}
use Rattle.sizes.specs.Sizes as Size
use Rattle.reading.specs.Choice.{pick}
use Rattle.sweep_links.proofs.Lines.{tied-more, kept_set}
use Rattle.sweep_links.proofs.note_tied.Goals as goal

told : (b : Bool) → from_bool b ≡ pick b 1 0
unfolding pick
told true = refl
told false = refl

pub loop-gate-preserved : goal.loop-gate-preserved
loop-gate-preserved c =
    let gate = c.loop-gate.gate in
    let inv = c.loop-gate.invariant in
    let few : gate < Size.gates = omega arith in
    let is = rw (c.cell_place-cell.ensures, c.lines_of-lines.ensures) at c.tied.ensures in
    record {
      tied = tied-more inv.tied (omega (arith, inv.kept.size)) c.from.result (c.from.ensures ∙ told _ ∙ ap (λ (b : Bool). pick b 1 0) is);
      kept = kept_set inv.kept (Size.tied_at + gate) c.from.result (omega arith) (omega arith);
    }
