-- The pins before it, one after the other.
use Rattle.common_laws.proofs.Base.{refl, arith, ◌∙◌, ◌+◌, eqb, get_or, rules}
use Rattle.std.proofs.Common.{tests}
use Rattle.std.proofs.lemmas.Iterator.{YieldsList-from_range}
use Rattle.std.proofs.lemmas.Iterator.Search.{any_from_yields_List}
use Rattle.sweep_wires.specs.Wires.{read_before}
use Rattle.sweep_wires.proofs.Any.{any_range}
use Rattle.sweep_wires.proofs.read_before.Goals as goal

pub returns : goal.returns
unfolding read_before
returns c =
    any_from_yields_List (λ q. eqb (get_or c.args.lines.now (q + 1) 0) (get_or c.args.lines.now (c.args.p + 1) 0)) _ _ c.any.result c.any.ensures.ran (YieldsList-from_range 0 c.args.p c.args.p refl (omega arith)) (λ x b q k. search (rules, tests))
    ∙ any_range (λ q. eqb (get_or c.args.lines.now (q + 1) 0) (get_or c.args.lines.now (c.args.p + 1) 0)) c.args.p
