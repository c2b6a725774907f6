-- `change`: the entry, what is lent as a standing analysis, and the change.
use Rattle.std.proofs.lemmas.Result.{err_from_is_err_and}
use Rattle.common_laws.proofs.Base.{refl, subst, rules}
use Rattle.demands.specs.Outcome.{given_texts}
use Rattle.standing_table.specs.Parts.{HeldRead}
use Rattle.standing_table.proofs.TextsLaws.{accepted_is, refused_is}
use Rattle.standing_change.specs.Calls.{changed_read}
use Rattle.standing_change.proofs.Call.{change-short, change-long, held-stopped, some-state, held-changed}
use Rattle.standing_change.proofs.change.Goals as goal

pub returns-then-standing-lt-STANDING : goal.returns-then-standing-lt-STANDING
unfolding changed_read
returns-then-standing-lt-STANDING c =
    rw c.at.ensures (change-short c.args.lib.now c.args.new_lib.now c.args.net.now c.args.standing.now c.if-standing-lt-STANDING.true)

pub returns-then-new_lib-gt-TEXT_BYTES : goal.returns-then-new_lib-gt-TEXT_BYTES
unfolding changed_read
returns-then-new_lib-gt-TEXT_BYTES c =
    rw c.at-then-new_lib-gt-TEXT_BYTES.ensures (change-long c.args.lib.now c.args.new_lib.now c.args.net.now c.args.standing.now c.if-standing-lt-STANDING.false c.if-new_lib-gt-TEXT_BYTES.true)

pub change_held-requires : goal.change_held-requires
change_held-requires c =
    (some-state c.args.lib.now c.args.new_lib.now c.args.net.now c.args.standing.now c.if-standing-lt-STANDING.false c.if-new_lib-gt-TEXT_BYTES.false _ _ (subst (HeldRead (given_texts c.args.lib.now c.args.net.now) c.args.standing.now c.read_held.new.library c.read_held.new.netlist) (accepted_is c.read_held.result c.in_ok-read_held.was) c.read_held.ensures), c.if-new_lib-gt-TEXT_BYTES.false)

pub returns-in_err-read_held : goal.returns-in_err-read_held
unfolding changed_read
returns-in_err-read_held c =
    let p = err_from_is_err_and c.from_residual.result c.from_residual.ensures.1 in
    let y = c.in_err-read_held.field-0.0 in
    rw (p.1, p.2)
    (held-stopped c.args.lib.now c.args.new_lib.now c.args.net.now c.args.standing.now c.if-standing-lt-STANDING.false c.if-new_lib-gt-TEXT_BYTES.false
    c.read_held.new.library c.read_held.new.netlist y.number y.line
    (subst (HeldRead (given_texts c.args.lib.now c.args.net.now) c.args.standing.now c.read_held.new.library c.read_held.new.netlist)
    (refused_is c.read_held.result y c.in_err-read_held.was) c.read_held.ensures))

pub returns : goal.returns
returns c =
    held-changed c.args.lib.now c.args.new_lib.now c.args.net.now c.args.standing.now c.if-standing-lt-STANDING.false c.if-new_lib-gt-TEXT_BYTES.false _ _ (subst (HeldRead (given_texts c.args.lib.now c.args.net.now) c.args.standing.now c.read_held.new.library c.read_held.new.netlist) (accepted_is c.read_held.result c.in_ok-read_held.was) c.read_held.ensures) _ _ c.change_held.ensures

pub read_held-requires : goal.read_held-requires
read_held-requires c =
    (record { cells = refl; statements = refl }, c.if-standing-lt-STANDING.false)
