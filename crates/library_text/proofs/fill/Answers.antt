-- The table before the first line, behind the last, and behind a refusal.
use Rattle.common_laws.proofs.Base.{◌≡◌, sym, ap, subst, ◌∙◌, List, ◌++◌, ℕ, drop, rules}
use Rattle.sizes.specs.Sizes as Size
use Rattle.table.specs.Blocks.{cleared}
use Rattle.reading.specs.Refusal.{read}
use Rattle.reading.specs.Answer.{answer_read, done_read}
use Rattle.library_table.specs.Cells.{Cell}
use Rattle.library_table.specs.Layout.{library_words}
use Rattle.library_table.specs.Library.{library}
use Rattle.library_text.specs.Walk.{NoCells}
use Rattle.library_text.proofs.Laws.{left_matched}
use Rattle.library_text.proofs.Walks.{cleared-past, cleared-none}
use Rattle.library_text.proofs.fill.Goals as goal

pub read_cleared-requires : goal.read_cleared-requires
read_cleared-requires c =
    let none : (xs : List ℕ) → xs ≡ cleared Size.library c.args.table.now → NoCells xs = λ xs e. subst NoCells (sym e) (cleared-none c.args.table.now c.requires.1) in
    search (rules, none)

pub returns-clause-leaves : goal.returns-clause-leaves
returns-clause-leaves c =
    let a = c.args in
    let made = c.read_cleared.ensures in
    let answered : answer_read c.read_cleared.result ≡ done_read (library a.text.now) = search rules in
    let filled : (cells : List Cell) → library a.text.now ≡ read cells → made.1.left.now ≡ library_words cells ++ drop Size.library made.1.shown.now = search rules in
    let kept : drop Size.library made.1.shown.now ≡ drop Size.library a.table.now = ap (drop Size.library) made.1.shows ∙ cleared-past a.table.now c.requires.1 in
    left_matched a.table.now _ c.read_cleared.result _ made.0 answered made.2 (λ cells e. sym made.1.leaves ∙ rw (← kept) (filled cells e))
