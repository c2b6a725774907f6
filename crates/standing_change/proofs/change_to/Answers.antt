-- `change_to` goes on where the library has only grown, and else reads the netlist and begins again.
use Rattle.std.proofs.lemmas.Result.{err_from_is_err_and}
use Rattle.common_laws.proofs.Base.{true, false, ◌≡◌, sym, subst, ◌∙◌, rules}
use Rattle.calculation.specs.Growth.{grown}
use Rattle.calculation.specs.Pads.{statements_of}
use Rattle.standing_table.proofs.TextsLaws.{accepted_is, refused_is}
use Rattle.standing_change.specs.Calls.{changed_read}
use Rattle.standing_change.specs.RunParts.{ReadAgain}
use Rattle.standing_change.proofs.Call.{some_cells, on-ready, again_fits, again_ready}
use Rattle.standing_change.proofs.NewNetlist.{on-holds, gone, again_refused, again_read, begun}
use Rattle.standing_change.proofs.change_to.Goals as goal

pub go_on_from-requires : goal.go_on_from-requires
go_on_from-requires c =
    let t : grown c.requires.0.state.cells c.requires.1.cells ≡ true = sym (c.grown_at.ensures c.requires.0.state.cells c.requires.1.cells (some_cells _ _ _ _ c.requires.0.state c.requires.0.is) c.requires.1.holds) ∙ c.if-grown_at.true in
    on-ready _ _ _ _ c.requires.0.state c.requires.0.is _ c.requires.1.cells c.requires.1.holds c.requires.0.long t

pub returns-then-grown_at : goal.returns-then-grown_at
unfolding changed_read
returns-then-grown_at c x cs h k =
    let t : grown x.cells cs ≡ true = sym (c.grown_at.ensures x.cells cs (some_cells _ _ _ _ x h) k) ∙ c.if-grown_at.true in
    gone _ _ _ _ x h _ cs k t _ (c.go_on_from.ensures cs (statements_of x) (on-holds _ _ _ _ x h _ cs k t))

pub read_again-requires : goal.read_again-requires
read_again-requires c =
    again_fits _ _ _ _ c.requires.0

pub begin_again-requires : goal.begin_again-requires
begin_again-requires c =
    again_ready _ _ _ _ c.requires.0.state c.requires.0.is _ c.requires.1.cells c.requires.1.holds _ c.requires.0.long (subst (ReadAgain c.args.net.now c.args.more.now c.requires.1.cells c.args.standing.now c.read_again.new.netlist)
    (accepted_is c.read_again.result c.in_ok-read_again.was) (c.read_again.ensures c.requires.1.cells c.requires.1.holds))

pub returns-in_err-read_again : goal.returns-in_err-read_again
unfolding changed_read
returns-in_err-read_again c x cs h k =
    let p = err_from_is_err_and c.from_residual.result c.from_residual.ensures.1 in
    let y = c.in_err-read_again.field-0.0 in
    rw (p.1, p.2)
    (again_refused _ _ _ _ x h _ cs k c.read_again.new.netlist y.number y.line
    (subst (ReadAgain c.args.net.now c.args.more.now cs c.args.standing.now c.read_again.new.netlist)
    (refused_is c.read_again.result y c.in_err-read_again.was) (c.read_again.ensures cs k)))

pub returns : goal.returns
unfolding changed_read
returns c x cs h k =
    let f : grown x.cells cs ≡ false = sym (c.grown_at.ensures x.cells cs (some_cells _ _ _ _ x h) k) ∙ c.if-grown_at.false in
    again_read _ _ _ _ x h _ cs k c.read_again.new.netlist (subst (ReadAgain c.args.net.now c.args.more.now cs c.args.standing.now c.read_again.new.netlist)
    (accepted_is c.read_again.result c.in_ok-read_again.was) (c.read_again.ensures cs k))
    (λ ss e holds. begun _ _ _ _ x h _ cs k f ss e _ (c.begin_again.ensures cs _ holds))

pub grown_at-requires : goal.grown_at-requires
grown_at-requires c =
    (record { cells = c.requires.0.state.cells; holds = some_cells _ _ _ _ c.requires.0.state c.requires.0.is }, c.requires.1)
