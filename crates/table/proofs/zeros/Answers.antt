-- One number more is asked for with each turn.
use Rattle.std.proofs.lemmas.List.Edits.{get_or-between}
use Rattle.common_laws.proofs.Base.{refl, ◌+◌, ◌<◌, arith}
use Rattle.table.specs.Blocks.{zeros}
use Rattle.table.proofs.UsedPart.{zeros-more}
use Rattle.table.proofs.zeros.Goals as goal

pub loop-x-init : goal.loop-x-init
unfolding zeros
loop-x-init c = refl

pub loop-x-preserved : goal.loop-x-preserved
loop-x-preserved c =
    let l = c.loop-x in
    let within : c.args.at + l.x-index < c.args.at + 8 = omega arith in
    rw (get_or-between c.args.table.now c.args.at (c.args.at + 8) l.x-index 0 within)
    (zeros-more c.args.table.now c.args.at l.x-index l.all l.invariant)
