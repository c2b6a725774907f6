-- `begin` weighs the entry, and behind it reads the library text into a table that is cleared.
use Rattle.std.proofs.lemmas.Result.{err_from_is_err_and}
use Rattle.common_laws.proofs.Base.{List, ◌++◌, ◌≡◌, sym, ap, subst, ◌∙◌, ℕ, ◌≤◌, length, drop}
use Rattle.sizes.specs.Sizes as Size
use Rattle.reading.specs.Refusal.{read}
use Rattle.library_table.specs.Cells.{Cell}
use Rattle.library_table.specs.Library.{library}
use Rattle.library_table.specs.Layout.{library_words}
use Rattle.library_text.specs.Walk.{NoCells}
use Rattle.library_text.proofs.Walks.{cleared-past, cleared-none}
use Rattle.demands.specs.Outcome.{entry_by}
use Rattle.demands.proofs.EntryChecks.{entered}
use Rattle.analysis_texts.proofs.EntryChecks.{begun-entry, passes, begun_later, begun-read}
use Rattle.analysis_texts.proofs.begin.Goals as goal
use Rattle.analysis_texts.proofs.begin.Goals.{In_ok-map_err, After-read_lines}

pub returns-in_err-map_err : goal.returns-in_err-map_err
returns-in_err-map_err c =
    let p = err_from_is_err_and c.from_residual.result c.from_residual.ensures.1 in
    rw (p.1, p.2)
    (begun-entry c.args.lib.now c.args.net c.args.library.now c.args.netlist c.args.numbers c.entry.result c.map_err.result c.entry.ensures
    c.map_err.ensures.cases _ c.in_err-map_err.was)

-- The entry is passed there.
passed : (c : In_ok-map_err)
    → entry_by (length c.args.lib.now) c.args.net (length c.args.library.now) c.args.netlist c.args.numbers ≡ read tt
passed c =
    let a = c.args in
    passes a.lib.now a.net a.library.now a.netlist a.numbers c.entry.result c.map_err.result c.entry.ensures c.map_err.ensures.cases
    c.in_ok-map_err.was

pub read_lines-requires : goal.read_lines-requires
read_lines-requires c =
    let e = entered _ _ _ _ _ (passed (goal.at.read_lines-requires c).In_ok-map_err) in
    (e.lib-short, subst NoCells (sym c.clear_lent.ensures) (cleared-none c.args.library.now e.library-long))

-- What is read stands before what stood past the published size.
filled : (c : After-read_lines) → Size.library ≤ length c.args.library.now
    → (cells : List Cell) → library c.args.lib.now ≡ read cells
    → c.read_lines.new.table ≡ library_words cells ++ drop Size.library c.args.library.now
filled c long cells e =
    c.read_lines.ensures.filled cells e
    ∙ ap (λ (l : List ℕ). library_words cells ++ l)
    (ap (drop Size.library) c.clear_lent.ensures ∙ cleared-past c.args.library.now long)

pub returns-in_err-read_lines : goal.returns-in_err-read_lines
returns-in_err-read_lines c =
    let at = goal.at.returns-in_err-read_lines c in
    let a = c.args in
    let p = err_from_is_err_and c.from_residual-in_err-read_lines.result c.from_residual-in_err-read_lines.ensures.1 in
    rw (p.1, p.2)
    (begun_later a.lib.now a.net a.library.now a.netlist a.numbers (passed at.In_ok-map_err) c.read_lines.result _
    c.read_lines.ensures.answered (filled at.After-read_lines (entered _ _ _ _ _ (passed at.In_ok-map_err)).library-long) _ c.in_err-read_lines.was)

pub returns : goal.returns
returns c =
    let at = goal.at.returns c in
    let a = c.args in
    begun-read a.lib.now a.net a.library.now a.netlist a.numbers (passed at.In_ok-map_err) c.read_lines.result _
    c.read_lines.ensures.answered (filled at.After-read_lines (entered _ _ _ _ _ (passed at.In_ok-map_err)).library-long) c.in_ok-read_lines.was
