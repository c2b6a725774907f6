-- The theorems that specs/Statements.antt, specs/Stages.antt, specs/Idle.antt and specs/Budget.antt state, and the laws of
-- tables and sweeps that other crates cite.
use Rattle.common_laws.proofs.Base.{List, refl, ℕ, suc, ◌+◌, le_refl, le_trans, arith, length}
use Rattle.plans.specs.Sweep.{at, renew, lower, Above, Lowering.keeps, Lowering.renews}
use Rattle.plans.specs.Statements.{
  AttainedStays,
  NoneCheaper,
  RunExact,
  NumbersFall,
  RulesAgree,
  RunsAgree,
  SettlesOnce,
  SettlesWithin,
  VisitedBound,
  RenewBound,
  LeadBound,
}
use Rattle.plans.specs.Budget.{BidOpen}
use Rattle.plans.specs.Stages.{Left, RenewingWorks, LeadingWorks}
use Rattle.plans.proofs.Numbers.{Under}
use Rattle.plans.proofs.Lowered.{sweep_under, rests-least, least-below, least_mono}
use Rattle.plans.proofs.Exactness as Exactness
use Rattle.plans.proofs.Settled as Settling
use Rattle.plans.proofs.BothRules as Replacing
use Rattle.plans.proofs.Bounds.{visited-rest, leads-rest}
use Rattle.plans.proofs.Stages as Staging
use Rattle.plans.proofs.Budget as Budgeting
-- ---- tables, visits and sweeps, for the crates above
pub use Rattle.plans.proofs.Numbers.{at_getD, at_set_same, at_set_other}
pub use Rattle.plans.proofs.Lowered.{least-bound, way_same, lower-still, rests-least, never-above}
pub use Rattle.plans.proofs.Kept.{Stores, lower-stores, renew-stores, rule-length, rule-other, sweep-append, sweep-length, sweep-other, settles-length, settles-other}
-- ---- visits that change nothing, as specs/Idle.antt states it; `idles_rest` and `asleep-settles`, the count, for a reader
pub use Rattle.plans.proofs.Idle.{turn-listed, idles_rest, asleep-skipped, skipped-sweep, made-watched, asleep-settles}
pub use Rattle.plans.proofs.BothRules.{lowers_settle, within-lowers}
-- ---- runs one after the other, as specs/Stages.antt states them
pub use Rattle.plans.proofs.Stages.{settles_under, ranked-apart, stages-within, stages-once, stages-append, stages-left, stages-exact, first_start, left_here}
-- ---- exact numbers of one node, and of two systems
pub use Rattle.plans.proofs.Comparison.{stands-attained, stands-below, stands-least, stands-lesser, stands-none-less, stands_carried, exact-once, attained-more}
-- ---- runs from numbers that stand, as specs/Continued.antt states them: K11, K13 and K14
pub use Rattle.plans.proofs.Numbers.{at_ext}
pub use Rattle.plans.proofs.Continued.{exact-table, standing-start, standing-above, continued, settled_stays, lower-start, between-settles, pad-settles, pad-idle, lowered-stages, lowered_under}
pub use Rattle.plans.proofs.Alike.{lower-reads, renew-reads, rests-alike, alike-settles, alike_traces}
-- ---- numbers within a budget (K12), as specs/Budget.antt states it; `way-fixed`, what an offer is, for a reader
pub use Rattle.plans.proofs.Budget.{way-fixed, fixed-exact, other-between, budget-stops, steps-counted, more-budget, budget-ends, budget-same, idle-same, among-most, first_cheapest, step_first, step-none, bid-kept, offered-one, offered-none, at_none}
-- ---- what request K3 rests on
pub use Rattle.plans.proofs.SettledRow.{first_least, sweep-numbers, traced_numbers, traces_agree, unmarked-stood, settled_row}

-- ---- the theorems that specs/Statements.antt states of one run

pub attained-lower : AttainedStays lower
attained-lower S vs k xs = Exactness.sweeps-attained S lower (Exactness.lower_attains S) vs k xs

pub bid_open : BidOpen
bid_open S xs n = Budgeting.bid_open S xs n

pub none_cheaper : NoneCheaper
none_cheaper S xs inside prices rest n p =
    Exactness.plan-bound S xs
    (record {
      prices = prices;
      ways = λ m w o.
          rw (← o.same)
          (le_trans (rests-least S.visits xs inside rest o.visit o.listed) (least-below xs o.visit.ways w o.among));
    })
    p

pub run-exact : RunExact
run-exact S xs ys k inside start s n =
    let u : Under ys xs = Staging.settles_under s in
    Exactness.exact S n (at ys n) (rw s.reached at (attained-lower S S.visits s.changes xs (λ v m. m) start.attained) n)
    (none_cheaper S ys (λ v m. rw u.long (inside v m)) (λ m c e. le_trans (u.below m) (start.prices m c e)) s.rests n)

pub numbers_fall : NumbersFall
numbers_fall vs xs n = (sweep_under vs xs).below n

pub rules_agree : RulesAgree
rules_agree vs k xs once above = (Replacing.sweeps-same vs once k xs above, Replacing.sweeps-above vs once k xs above)

pub runs_agree : RunsAgree
runs_agree vs fuel xs once above = Replacing.run-same vs once fuel xs above

pub settles-once : SettlesOnce
settles-once rule vs xs ys zs k l s t = Settling.settles-once rule vs s t

pub visited-bound : VisitedBound
visited-bound vs us xs fuel all bounded inside h =
    let r : SettlesWithin lower vs xs fuel (suc (length us)) =
    Settling.run_settled lower vs fuel (length us) xs h (visited-rest vs xs us bounded inside all (length us) (le_refl (length us))) in
    (r.0, omega (arith, r.1))

pub renew-bound : RenewBound
renew-bound vs us xs fuel all bounded inside once above h =
    let r : SettlesWithin lower vs xs fuel (length us + 1) = visited-bound vs us xs fuel all bounded inside h in
    rw (runs_agree vs fuel xs once above) ((Replacing.settles-same vs once above).0 r.0, r.1)

pub lead_bound : LeadBound
lead_bound vs outs xs fuel leads bounded inside h =
    let r : SettlesWithin lower vs xs fuel (suc (length outs)) =
    Settling.run_settled lower vs fuel (length outs) xs h (leads-rest vs xs outs bounded inside leads (length outs) (le_refl (length outs))) in
    (r.0, omega (arith, r.1))

-- ---- how a stage works

pub renewing_works : RenewingWorks
renewing_works vs us xs all bounded inside once above bound h =
    record {
      within = λ ys l.
          let r : SettlesWithin renew vs ys bound (length us + 1) =
          renew-bound vs us ys bound all (λ n. le_trans (l.below n) (bounded n)) (λ v m. rw l.long (inside v m)) once (now ys l) h in
          (r.0, omega (arith, r.1));
      lowering = λ ys l. renews refl once (now ys l);
    }
  where
    -- Numbers that fall elsewhere keep the visited ones above their sums.
    now : (ys : List ℕ) → Left vs xs ys → Above vs ys
    now ys l v m =
        rw (l.kept v.node (record { visit = v; listed = m; same = refl }))
        (le_trans (least_mono ys xs v.ways l.below) (above v m))

pub leading_works : LeadingWorks
leading_works vs outs xs leads bounded inside bound h =
    record {
      within = λ ys l.
          let r : SettlesWithin lower vs ys bound (length outs + 1) =
          lead_bound vs outs ys bound leads (λ n. le_trans (l.below n) (bounded n)) (λ v m. rw l.long (inside v m)) h in
          (r.0, omega (arith, r.1));
      lowering = λ ys l. keeps refl;
    }
