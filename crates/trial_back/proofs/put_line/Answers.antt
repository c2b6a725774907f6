-- What had changed is put back, and then the line goes on the stack.
use Rattle.common_laws.proofs.Base.{arith}
use Rattle.netlist_table.specs.Sound.{InRange}
use Rattle.trial_back.proofs.Back.{put_one}
use Rattle.trial_back.proofs.put_line.Goals as goal

pub push-requires : goal.push-requires
unfolding InRange
push-requires c = (c.requires.2, (c.requires.0, c.requires.1))

pub returns-then-not-is_same : goal.returns-then-not-is_same
returns-then-not-is_same c =
    let a = c.args in
    rw (c.push.ensures, c.store.ensures, c.place_of-at.ensures)
    (put_one a.standing.now a.tried.now a.stack.now a.line c.requires.0 c.requires.1 (omega arith))
