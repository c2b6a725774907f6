-- `some_undeclared` asks one line more with each turn; those past the highest that is mentioned are none.
use Rattle.common_laws.proofs.Base.{Bool, ◌||◌, or-false, List, ◌≡◌, sym, ap, ◌∙◌, ℕ, ◌+◌, ◌<◌, arith}
use Rattle.netlist_table.specs.Lines.{highest_mentioned}
use Rattle.netlist_table.specs.Admission.{words_undeclared, some_undeclared}
use Rattle.netlist_table.proofs.HeldLines.{past_highest, highest_few, highest_stands}
use Rattle.netlist_table.proofs.OpenLines.{some_from, some_more, none_from}
use Rattle.netlist_admission.proofs.some_undeclared.Goals as goal
use Rattle.netlist_admission.proofs.some_undeclared.Goals.{After-stands_undeclared-found}

pub stands_undeclared-found-requires : goal.stands_undeclared-found-requires
stands_undeclared-found-requires c = highest_stands c.args.table.now c.loop-l.l (omega arith) (omega arith)

-- What stands after a turn: what is found, and what the lines behind it come to.
turned : (c : After-stands_undeclared-found)
    → let p = words_undeclared c.args.table.now in
    some_undeclared c.args.table.now ≡ ((c.loop-l.found || c.stands_undeclared-found.result) || some_from p (c.loop-l.l + 1))
turned c =
    let p = words_undeclared c.args.table.now in
    c.loop-l.invariant ∙ some_more p c.loop-l.l c.loop-l.found (omega (arith, highest_few c.args.table.now))
    ∙ ap (λ (b : Bool). (c.loop-l.found || b) || some_from p (c.loop-l.l + 1)) (sym c.stands_undeclared-found.ensures)

none-behind : (table : List ℕ) (l : ℕ) (found : Bool) → highest_mentioned table < l → some_undeclared table ≡ (found || some_from (words_undeclared table) l)
    → found ≡ some_undeclared table
none-behind table l found h e =
    let none = none_from (words_undeclared table) l (λ k low high. rw (past_highest table k (omega arith) high)) in
    sym (e ∙ ap (λ (b : Bool). found || b) none ∙ or-false found)

pub loop-l-preserved : goal.loop-l-preserved
loop-l-preserved c = turned (goal.at.loop-l-preserved c).After-stands_undeclared-found

pub returns : goal.returns
returns c = none-behind c.args.table.now c.loop-l.l c.loop-l.found (omega arith) c.loop-l.invariant

pub returns-2 : goal.returns-2
returns-2 c = none-behind c.args.table.now (c.loop-l.l + 1) _ (omega arith) (turned (goal.at.returns-2 c).After-stands_undeclared-found)
