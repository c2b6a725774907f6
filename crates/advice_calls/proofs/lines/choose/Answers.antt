-- `choose` has the best of the lines above one, with each turn of one line more.
use Rattle.common_laws.proofs.Base.{◌-◌, arith}
use Rattle.calculation.specs.Advice.{allowed, leaves, largest}
use Rattle.advice_calls.proofs.LinesLaws.{line-range, best-begins, best-next}
use Rattle.advice_calls.proofs.Candidate.{laid-still, best-ends}
use Rattle.advice_calls.proofs.lines.choose.Goals as goal

pub loop-l-init : goal.loop-l-init
loop-l-init c =
    record { laid = c.requires.laid; found = λ cells ss forbidden s b. best-begins (allowed ss forbidden) (λ m. largest (leaves cells ss m)) }

pub consider-found-requires : goal.consider-found-requires
consider-found-requires c = (laid-still c.loop-l.invariant.laid c.requires, line-range (omega arith) (omega arith))

pub loop-l-preserved : goal.loop-l-preserved
loop-l-preserved c =
    let l = c.loop-l in
    record {
      laid = c.consider-found.ensures.1;
      found =
          λ cells ss forbidden s b.
          best-next (allowed ss forbidden) (λ m. largest (leaves cells ss m)) (l.l - 1) (omega arith) (omega arith) l.found c.consider-found.result
          (l.invariant.found cells ss forbidden s b) (c.consider-found.ensures.0 cells ss forbidden s b);
    }

pub returns : goal.returns
returns c cells ss forbidden s b =
    let l = c.loop-l in
    best-ends cells ss forbidden (l.l - 1) l.found (omega arith) (l.invariant.found cells ss forbidden s b)
