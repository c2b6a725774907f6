-- `consider` tries a line that may be padded.
use Rattle.sweep_runs.proofs.FourRuns.{room}
use Rattle.advice_calls.proofs.LinesLaws.{line-most}
use Rattle.advice_calls.proofs.Candidate.{may-said, may_free, considered, passed}
use Rattle.advice_calls.proofs.lines.consider.Goals as goal

pub may_pad-requires : goal.may_pad-requires
may_pad-requires c = let p = c.requires in (line-most p.1, room p.0.stands.holds)

pub returns-then-may_pad : goal.returns-then-may_pad
returns-then-may_pad c =
    let a = c.args in
    let p = c.requires.0 in
    let range = c.requires.1 in
    let told = c.may_pad.ensures in
    let may = c.if-may_pad.true in (
      λ cells ss forbidden s b.
          considered s b a.l range told may c.try_line-left.result
          (c.try_line-left.ensures cells ss s (may-said s b a.l range told may) (may_free s b a.l range told may)).leave a.found c.better.result c.better.ensures,
      (c.try_line-left.ensures p.cells p.statements p.stands (may-said p.stands p.bars a.l range told may) (may_free p.stands p.bars a.l range told may)).back,
    )

pub returns-else-may_pad : goal.returns-else-may_pad
returns-else-may_pad c =
    (λ cells ss forbidden s b. passed s b c.args.l c.requires.1 c.may_pad.ensures c.if-may_pad.false c.args.found, c.requires.0.laid)
