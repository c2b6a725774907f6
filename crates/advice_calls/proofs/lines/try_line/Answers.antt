-- `try_line` tries the pad, adds up what it leaves, and has the numbers put back.
use Rattle.advice_calls.proofs.PadCosts.{try_fits, left-leaves}
use Rattle.advice_calls.proofs.Changes.{changed-there, back_fits}
use Rattle.advice_calls.proofs.lines.try_line.Goals as goal

pub try_pad-count-requires : goal.try_pad-count-requires
try_pad-count-requires c = try_fits c.requires.stands c.args.l c.requires.range c.requires.laid

pub lay_back-requires : goal.lay_back-requires
lay_back-requires c =
    let p = c.requires in
    back_fits p.stands c.args.circuit.now.linked c.args.l p.range

pub returns : goal.returns
returns c cells ss s said free =
    let a = c.args in
    let p = c.requires in
    let ran = c.try_pad-count.ensures cells ss s.holds in
    record {
      leave = left-leaves s a.l p.range p.laid ran said free c.left_by-left.result c.left_by-left.ensures;
      back = c.lay_back.ensures (changed-there s a.circuit.now.linked a.l p.range said free p.laid ran);
    }
