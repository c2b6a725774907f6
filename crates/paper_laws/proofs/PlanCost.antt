-- A plan written out beside a standing analysis costs the number that stands.
use Rattle.common_laws.proofs.Base.{true, ◌&&◌, List, ◌≡◌, refl, sym, ap, ◌∙◌, ℕ, ◌≤◌, arith, leb-true, leb, get_or}
use Rattle.sizes.specs.Sizes as Size
use Rattle.reading.specs.Choice.{pick}
use Rattle.reading.specs.Refusal.{Read, refused, read, ◌>>=◌, ◌>>◌}
use Rattle.reading.proofs.Laws.{by_test, and_left, and_right, refused-read}
use Rattle.cost.specs.Cost.{most, never}
use Rattle.writer.specs.Buffer.{length_read}
use Rattle.calculation.specs.Nodes.{set, node}
use Rattle.calculation.specs.Calculation.{analysed}
use Rattle.calculation.specs.LinePlans.{cost}
use Rattle.calculation.specs.Pads.{State}
use Rattle.demands.specs.Demands.{Reported}
use Rattle.demands.specs.Outcome.{Given, Lent, Pair, pair_of, entry, read_pair, given_texts}
use Rattle.demands.proofs.Given.{texts-checked}
use Rattle.standing_table.specs.StandingTable.{StandsIn}
use Rattle.standing_calls.proofs.Meaning.{means}
use Rattle.plan_calls.specs.Concluded.{known, asked_number, kind_of}
use Rattle.plan_calls.specs.Promise.{plan_outcome, PlanPromised}
use Rattle.paper_laws.specs.PlanCost.{PlanStands}

-- A number that is a figure is that of a line, a value and a kind that are known.
known-figure : (numbers : List ℕ) (l v kind : ℕ) → asked_number numbers l v kind ≤ most → known l v kind ≡ true
unfolding asked_number pick
known-figure numbers l v kind h =
    by_test (known l v kind) (λ t. t) (λ t. let z : never ≤ most = rw t at h in absurd (omega arith))

known-reported : (l v kind : ℕ) → known l v kind ≡ true → Reported (set l v)
unfolding known
known-reported l v kind t =
    let line = and_left (leb 1 l && leb l Size.lines) (leb v 1 && leb kind 1) t in
    let value = and_right (leb 1 l && leb l Size.lines) (leb v 1 && leb kind 1) t in
    (leb-true 1 l (and_left (leb 1 l) (leb l Size.lines) line), leb-true l Size.lines (and_right (leb 1 l) (leb l Size.lines) line), leb-true v 1 (and_left (leb v 1) (leb kind 1) value))

-- An accepted call passed its entry.
entered : (g : Given) (before : Lent) (l v kind n : ℕ) → read n ≡ length_read (plan_outcome g before l v kind) → entry g before ≡ read tt
unfolding plan_outcome length_read ◌>>◌
entered g before l v kind n e = by (entry g before) refl
  where
    by : (o : Read (Unit {0})) → entry g before ≡ o → entry g before ≡ read tt
    by (refused m k) q = let z : ◌≡◌ {A = Read ℕ} (read n) (refused m k) = rw q at e in refused-read (sym z)
    by (read u) q = q

module _ (lib net table : List ℕ) (s : State) (h : StandsIn (given_texts lib net) table s) where
  abbrev g : Given
  g = given_texts lib net

  pair-so : read_pair g ≡ read (pair_of s.cells s.statements)
  unfolding read_pair ◌>>=◌
  pair-so = rw (h.cells_read, h.standing.was_read)

  module _ (before after : Lent) (l v kind : ℕ) (said : Read ℕ) (p : PlanPromised g before after l v kind said) (n : ℕ) (e : said ≡ read n) where
    reported : Reported (set l v)
    reported =
        let a = p.accepted (pair_of s.cells s.statements) (entered g before l v kind n (sym e ∙ p.answers)) pair-so in
        known-reported l v kind (known-figure (analysed s.cells s.statements).numbers l v kind (a.written n e).0)

    same-pair : (p.seen n e).pair ≡ pair_of s.cells s.statements
    same-pair = cc (sym (p.seen n e).was_read ∙ pair-so)

    costs : cost (p.seen n e).cheapest.plan ≡ get_or (analysed s.cells s.statements).numbers (node (kind_of kind) (set l v)) 0
    costs =
        (p.seen n e).cheapest.costs
        ∙ ap (λ (q : Pair). get_or (analysed q.cells q.statements).numbers (node (kind_of kind) (set l v)) 0) same-pair

pub plan-stands : PlanStands
plan-stands lib net table s h before after l v kind said p n e =
    costs lib net table s h before after l v kind said p n e
    ∙ sym ((means (given_texts lib net) table s h (texts-checked lib net).sound).values (kind_of kind) l v (reported lib net table s h before after l v kind said p n e))
