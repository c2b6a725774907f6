-- `run`: the prices and the offers at the start, then one step after the other.
use Rattle.common_laws.proofs.Base.{◌≡◌, refl, ◌∙◌, ap, arith, length, length-replicate, rules}
use Rattle.sizes.specs.Sizes as Size
use Rattle.cost.specs.Cost.{never}
use Rattle.sweep_runs.proofs.FourRuns.{room, fit, link_fits}
use Rattle.budget_run.proofs.Runs.{after_begin, after_on, ran-all, ran_out, prices-fit}
use Rattle.budget_run.proofs.run.Goals as goal

pub link-requires : goal.link-requires
link-requires c = link_fits c.requires.holds refl

pub start-requires : goal.start-requires
start-requires c = (room c.requires.holds, search rules)

pub offer_prices-requires : goal.offer_prices-requires
offer_prices-requires c = prices-fit c.requires.holds c.start.ensures c.requires.empty

pub refresh_all-requires : goal.refresh_all-requires
refresh_all-requires c =
    record {
      tables_fit = fit c.requires.holds;
      size = ap length c.requires.none ∙ length-replicate Size.numbers never;
    }

pub loop-steps-init : goal.loop-steps-init
loop-steps-init c = record {
  after = λ cells ss h. after_begin h c.requires.none c.start.ensures c.offer_prices.ensures c.refresh_all.ensures;
  last = refl;
}

pub one_step-requires : goal.one_step-requires
one_step-requires c =
    let r = c.requires in
    record {
      tables_fit = fit r.holds;
      cells = r.cells;
      statements = r.statements;
      holds = r.holds;
      matches = (c.loop-steps.invariant.after r.cells r.statements r.holds).matches;
    }

pub returns-in_default-clause-ran : goal.returns-in_default-clause-ran
returns-in_default-clause-ran c cells ss h =
    let d = c.loop-steps.invariant.after cells ss h in
    ran_out (omega arith) d (c.in_default.ensures cells ss h d.matches)

pub loop-steps-preserved : goal.loop-steps-preserved
loop-steps-preserved c = record {
  after = λ cells ss h.
      let d = c.loop-steps.invariant.after cells ss h in
      after_on d (c.in-Some.ensures cells ss h d.matches);
  last = omega arith;
}

pub returns-clause-ran : goal.returns-clause-ran
returns-clause-ran c cells ss h =
    let done : c.loop-steps.steps ≡ c.args.budget = omega arith in
    ran-all (rw done at (c.loop-steps.invariant.after cells ss h))
