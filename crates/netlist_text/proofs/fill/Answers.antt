-- The table before the text is read, behind it, and behind a refusal.
use Rattle.common_laws.proofs.Base.{◌≡◌, sym, ap, subst, ◌∙◌, List, ℕ, drop, rules}
use Rattle.sizes.specs.Sizes as Size
use Rattle.table.specs.Blocks.{cleared}
use Rattle.netlist_table.specs.Netlist.{netlist}
use Rattle.netlist_text.specs.Reader.{NoStatements, Fills}
use Rattle.netlist_text.proofs.Walk.{cleared-past, cleared-none}
use Rattle.netlist_text.proofs.Declared.{whole_matched}
use Rattle.netlist_text.proofs.fill.Goals as goal

pub read_cleared-requires : goal.read_cleared-requires
read_cleared-requires c =
    let none : (xs : List ℕ) → xs ≡ cleared Size.netlist c.args.table.now → NoStatements xs = λ xs e. subst NoStatements (sym e) (cleared-none c.args.table.now c.requires.1) in
    search (rules, none)

pub returns : goal.returns
returns c cells lib =
    let a = c.args in
    let made = c.read_cleared.ensures in
    let fills : Fills (netlist a.rules cells a.text.now) made.1.shown.now c.read_cleared.result made.1.left.now = search rules in
    whole_matched _ a.table.now made.1.shown.now made.0 c.read_cleared.result _
    (subst (Fills (netlist a.rules cells a.text.now) made.1.shown.now c.read_cleared.result) made.1.leaves fills)
    (ap (drop Size.netlist) made.1.shows ∙ cleared-past a.table.now c.requires.1)
    made.2
