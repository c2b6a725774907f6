-- The pad's line is put back, and the walk goes on from it.
use Rattle.trial_back.proofs.Back.{put-begins}
use Rattle.trial_back.proofs.put_back.Goals as goal

pub returns : goal.returns
returns c e changed = c.walk_back.ensures e c.args.tried.now c.args.line (put-begins (rw c.empty-stack.ensures at c.put_line.ensures)) changed
