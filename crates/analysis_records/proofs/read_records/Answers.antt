-- `read_records`: the entry and the library, then the records into a table that is cleared, and 20 behind them.
use Rattle.std.proofs.lemmas.Result.{err_from_is_err_and}
use Rattle.common_laws.proofs.Base.{sym, ◌∙◌}
use Rattle.analysis_texts.proofs.Reached.{reached_stopped, reached}
use Rattle.analysis_records.specs.Outcome.{given_records}
use Rattle.analysis_records.proofs.Call.{given, refused-records, declared-records}
use Rattle.analysis_records.proofs.read_records.Goals as goal

pub returns-in_err-begin : goal.returns-in_err-begin
unfolding given_records
returns-in_err-begin c =
    let p = err_from_is_err_and c.from_residual.result c.from_residual.ensures.1 in
    rw (p.1, p.2)
    (reached_stopped (given c.args.lib.now c.args.records.now) c.args.library.now c.args.netlist.now _ _ c.begin.result c.begin.ensures.answers
    c.begin.ensures.leaves _ c.in_err-begin.was)

pub returns-in_err-walk : goal.returns-in_err-walk
unfolding given_records
returns-in_err-walk c =
    let a = c.args in
    let b = c.begin.ensures in
    let p = err_from_is_err_and c.from_residual-in_err-walk.result c.from_residual-in_err-walk.ensures.1 in
    rw (p.1, p.2)
    (reached (given a.lib.now a.records.now) a.library.now a.netlist.now _ _ c.begin.result b.answers b.leaves c.in_ok-begin.was _ _
    (refused-records a.lib.now a.records.now a.library.now a.netlist.now a.numbers c.begin.result _ b c.in_ok-begin.was _ c.clear.ensures
    c.walk.result _ c.walk.ensures _ c.in_err-walk.was))

pub returns-in_err-declare : goal.returns-in_err-declare
unfolding given_records
returns-in_err-declare c =
    let a = c.args in
    let b = c.begin.ensures in
    let p = err_from_is_err_and c.from_residual-in_err-declare.result c.from_residual-in_err-declare.ensures.1 in
    rw (p.1, p.2)
    (reached (given a.lib.now a.records.now) a.library.now a.netlist.now _ _ c.begin.result b.answers b.leaves c.in_ok-begin.was _ _
    (rw (sym c.declare.ensures ∙ c.in_err-declare.was)
    at (declared-records a.lib.now a.records.now a.library.now a.netlist.now a.numbers c.begin.result _ b c.in_ok-begin.was _ c.clear.ensures
    c.walk.result _ c.walk.ensures c.in_ok-walk.was)))

pub returns : goal.returns
unfolding given_records
returns c =
    let a = c.args in
    let b = c.begin.ensures in
    reached (given a.lib.now a.records.now) a.library.now a.netlist.now _ _ c.begin.result b.answers b.leaves c.in_ok-begin.was _ _
    (rw (sym c.declare.ensures ∙ c.in_ok-declare.was)
    at (declared-records a.lib.now a.records.now a.library.now a.netlist.now a.numbers c.begin.result _ b c.in_ok-begin.was _ c.clear.ensures
    c.walk.result _ c.walk.ensures c.in_ok-walk.was))
