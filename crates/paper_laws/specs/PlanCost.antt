-- A plan written out beside a standing analysis. Document 02, K14: "a plan written out has the reported cost but may be
-- another".
use Rattle.std.specs.Prelude.{List, ◌≡◌, ℕ, ◌+◌, get_or}
use Rattle.sizes.specs.Sizes as Size
use Rattle.reading.specs.Refusal.{Read, read}
use Rattle.calculation.specs.Nodes.{set, node}
use Rattle.calculation.specs.LinePlans.{cost}
use Rattle.calculation.specs.Pads.{State}
use Rattle.demands.specs.Outcome.{Lent, given_texts}
use Rattle.standing_table.specs.StandingTable.{StandsIn}
use Rattle.plan_calls.specs.Concluded.{kind_of}
use Rattle.plan_calls.specs.Promise.{PlanPromised}

-- `plan-stands`: the call that writes a plan is lent the texts under which an analysis stands, and knows nothing of its pads. The
-- plan that it writes costs the number that stands in the table, whatever pads and changes of library led to it.
abbrev pub PlanStands : Type 0
PlanStands =
    (lib net table : List ℕ) (s : State) →
    StandsIn (given_texts lib net) table s →
    (before after : Lent) (l v kind : ℕ) (said : Read ℕ) →
    (p : PlanPromised (given_texts lib net) before after l v kind said) (n : ℕ) (e : said ≡ read n) →
    cost (p.seen n e).cheapest.plan ≡ get_or table (Size.standing_numbers + node (kind_of kind) (set l v)) 0
