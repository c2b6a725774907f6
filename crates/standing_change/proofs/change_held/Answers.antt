-- `change_held` reads the new library.
use Rattle.std.proofs.lemmas.Result.{err_from_is_err_and}
use Rattle.common_laws.proofs.Base.{refl, replicate, rules}
use Rattle.sizes.specs.Sizes as Size
use Rattle.library_text.proofs.Walks.{zeros-none}
use Rattle.standing_change.specs.Calls.{changed_read}
use Rattle.standing_change.proofs.Call.{new-refused, new-read, new-changed}
use Rattle.standing_change.proofs.change_held.Goals as goal

pub read_lines-requires : goal.read_lines-requires
read_lines-requires c =
    (c.requires.1, zeros-none _ refl)

pub change_to-requires : goal.change_to-requires
change_to-requires c = (
  c.requires.0,
  new-read c.args.new_lib.now c.args.net.now (replicate Size.library 0) _ c.read_lines.result
      c.read_lines.ensures.answered c.read_lines.ensures.filled c.in_ok-read_lines.was
      (λ cells e holds. record { cells = cells; holds = holds }),
)

pub returns-in_err-read_lines : goal.returns-in_err-read_lines
unfolding changed_read
returns-in_err-read_lines c x h =
    let p = err_from_is_err_and c.from_residual.result c.from_residual.ensures.1 in
    let y = c.in_err-read_lines.field-0.0 in
    rw (p.1, p.2)
    (new-refused c.args.new_lib.now c.args.net.now (replicate Size.library 0) _ c.read_lines.result
    c.read_lines.ensures.answered c.read_lines.ensures.filled x c.args.standing.now y c.in_err-read_lines.was)

pub returns : goal.returns
returns c x h =
    new-read c.args.new_lib.now c.args.net.now (replicate Size.library 0) _ c.read_lines.result
    c.read_lines.ensures.answered c.read_lines.ensures.filled c.in_ok-read_lines.was
    (λ cells e holds.
    new-changed c.args.new_lib.now c.args.net.now (replicate Size.library 0) _ c.read_lines.result
    c.read_lines.ensures.answered c.read_lines.ensures.filled x c.args.standing.now _ _ cells e
    (c.change_to.ensures x cells h holds))
