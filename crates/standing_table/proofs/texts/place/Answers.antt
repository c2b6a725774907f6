-- `place` refuses a line that takes no pad, and marks another.
use Rattle.common_laws.proofs.Base.{some, sym, ◌∙◌, arith}
use Rattle.reading.proofs.Causes.{ok-number}
use Rattle.library_table.proofs.Names.{holds-told}
use Rattle.netlist_table.specs.Netlist.{mark, output}
use Rattle.netlist_table.specs.Admission.{StandsFor}
use Rattle.netlist_table.specs.Sound.{InRange}
use Rattle.standing_table.proofs.Pads.{library-holds, netlist-holds, tried-outside, tried-unmentioned, tried}
use Rattle.standing_table.proofs.texts.place.Goals as goal

pub returns-then-line-gt-LINES : goal.returns-then-line-gt-LINES
returns-then-line-gt-LINES c cells ss h =
    tried-outside c.args.library.now c.args.netlist.now cells ss h c.args.line (unfold InRange in λ r. omega (arith, r.1, c.if-line-gt-LINES.true))

pub returns-then-line-eq0 : goal.returns-then-line-eq0
returns-then-line-eq0 c cells ss h =
    tried-outside c.args.library.now c.args.netlist.now cells ss h c.args.line (unfold InRange in λ r. omega (arith, r.0, c.if-line-eq0.true))

pub returns-then-not-mentioned : goal.returns-then-not-mentioned
returns-then-not-mentioned c cells ss h =
    tried-unmentioned c.args.library.now c.args.netlist.now cells ss h c.args.line (unfold InRange in (omega (arith, c.if-line-eq0.false), c.if-line-gt-LINES.false)) (sym c.mentioned.ensures ∙ c.if-not-mentioned.true)

pub returns : goal.returns
unfolding StandsFor
returns c cells ss h =
    let lib = c.args.library.now in
    let net = c.args.netlist.now in
    rw (c.is_ok.ensures.value, ← ok-number c.admit.result)
    (tried lib net cells ss h c.args.line (unfold InRange in (omega (arith, c.if-line-eq0.false), c.if-line-gt-LINES.false)) (sym c.mentioned.ensures ∙ c.if-not-mentioned.false) _ _
    (c.admit.ensures cells (some (mark output c.args.line)) (holds-told lib cells (library-holds lib net cells ss h)) (record { kind = c.mark.ensures.0; line = c.mark.ensures.1 }) ss h.sound.netlist
    (netlist-holds lib net cells ss h)))
