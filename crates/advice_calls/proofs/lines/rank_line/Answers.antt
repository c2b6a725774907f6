-- `rank_line` lays the rank of a line that may be padded, never of any other.
use Rattle.sweep_runs.proofs.FourRuns.{room}
use Rattle.advice_calls.proofs.LinesLaws.{line-least, line-most}
use Rattle.advice_calls.proofs.Candidate.{may-said, may_free, ranked, unranked}
use Rattle.advice_calls.proofs.lines.rank_line.Goals as goal

pub may_pad-requires : goal.may_pad-requires
may_pad-requires c = let p = c.requires in (line-most p.1, room p.0.stands.holds)

pub put_rank-requires : goal.put_rank-requires
put_rank-requires c = let p = c.requires in (line-least p.1, line-most p.1, p.2)

pub put_rank-requires-else-may_pad : goal.put_rank-requires-else-may_pad
put_rank-requires-else-may_pad c = let p = c.requires in (line-least p.1, line-most p.1, p.2)

pub returns-then-may_pad : goal.returns-then-may_pad
returns-then-may_pad c =
    let a = c.args in
    let p = c.requires.0 in
    let range = c.requires.1 in
    let told = c.may_pad.ensures in
    let may = c.if-may_pad.true in (
      λ cells ss forbidden s b.
          ranked s b a.l range told may c.try_line-left.result
          (c.try_line-left.ensures cells ss s (may-said s b a.l range told may) (may_free s b a.l range told may)).leave a.count a.table.now c.put_rank.new.table
          c.put_rank.ensures,
      (c.try_line-left.ensures p.cells p.statements p.stands (may-said p.stands p.bars a.l range told may) (may_free p.stands p.bars a.l range told may)).back,
    )

pub returns-else-may_pad : goal.returns-else-may_pad
returns-else-may_pad c =
    let a = c.args in (
      λ cells ss forbidden s b.
          unranked s b a.l c.requires.1 c.may_pad.ensures c.if-may_pad.false a.count a.table.now c.put_rank-else-may_pad.new.table
          c.put_rank-else-may_pad.ensures,
      c.requires.0.laid,
    )
