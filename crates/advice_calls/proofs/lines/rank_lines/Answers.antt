-- `rank_lines` has the ranks of the lines from one on, with each turn of one line more.
use Rattle.common_laws.proofs.Base.{◌-◌, arith}
use Rattle.calculation.specs.Advice.{allowed, line_rank}
use Rattle.advice_calls.proofs.LinesLaws.{above-few, line-range, count-begins, count_next}
use Rattle.advice_calls.proofs.Ranks.{four, ranks-none, ranks-laid}
use Rattle.advice_calls.proofs.Candidate.{laid-still, ranks-end}
use Rattle.advice_calls.proofs.lines.rank_lines.Goals as goal

pub loop-l-init : goal.loop-l-init
loop-l-init c =
    record {
      laid = c.requires.0.laid;
      ranked =
          λ cells ss forbidden s b. (count-begins (allowed ss forbidden), ranks-none (line_rank cells ss forbidden) (four cells ss forbidden) c.args.table.now);
    }

pub rank_line-count-requires : goal.rank_line-count-requires
rank_line-count-requires c =
    let l = c.loop-l in
    let f = c.requires.0 in (
      laid-still l.invariant.laid f,
      line-range (omega arith) (omega arith),
      omega (arith, l.auto.table, c.requires.1),
      omega (arith, (l.invariant.ranked f.cells f.statements f.forbidden f.stands f.bars).0, above-few (allowed f.statements f.forbidden) (l.l - 1)),
    )

pub loop-l-preserved : goal.loop-l-preserved
loop-l-preserved c =
    let l = c.loop-l in
    record {
      laid = c.rank_line-count.ensures.1;
      ranked =
          λ cells ss forbidden s b.
          let i = l.invariant.ranked cells ss forbidden s b in
          let e = c.rank_line-count.ensures.0 cells ss forbidden s b in (
            count_next (allowed ss forbidden) (l.l - 1) (omega arith) (omega arith) l.count c.rank_line-count.result i.0 e.counts,
            ranks-laid (line_rank cells ss forbidden) (four cells ss forbidden) c.args.table.now l.table c.rank_line-count.new.table c.requires.1 (l.l - 1)
                (omega arith) (omega arith) i.1 e.lays,
          );
    }

pub returns : goal.returns
returns c cells ss forbidden s b =
    let l = c.loop-l in
    let i = l.invariant.ranked cells ss forbidden s b in
    ranks-end cells ss forbidden c.args.table.now l.table (l.l - 1) l.count (omega arith) i.0 i.1
