-- The end of the call.
use Rattle.common_laws.proofs.Base.{true, ◌&&◌, List, ◌++◌, ◌≡◌, refl, sym, ap, ◌∙◌, ℕ, zero, suc, ◌≤◌, ◌<◌, ℕ_discrete, arith, lt-ltb, le-ltb, le-leb, leb-true, ltb-true}
use Rattle.common_laws.proofs.Base.{ltb-false, leb, ltb, length, get_or, drop, List-get_or-append, take_at}
use Rattle.sizes.specs.Sizes as Size
use Rattle.sizes.specs.Places.{setting_place}
use Rattle.reading.specs.Choice.{pick}
use Rattle.reading.specs.Numbers.{no_figure, plan_long}
use Rattle.reading.specs.Refusal.{Read, refused, read, ◌>>◌, weigh}
use Rattle.reading.proofs.Laws.{by_test, and_left, and_right, refused-read}
use Rattle.reading.specs.Answer.{answer_read}
use Rattle.cost.specs.Cost.{most, over, never}
use Rattle.plans.specs.Exact.{Stands}
use Rattle.std.specs.Prelude.{Result}
use Rattle.reading.specs.declared.Refusal.{Refusal}
use Rattle.writer.specs.Buffer.{text_within, length_read, left_by, Writes, Refuses, Closes}
use Rattle.writer.proofs.Buffer.{text-fits, text-long, refuses-writes, put-closed}
use Rattle.library_table.specs.Cells.{Cell}
use Rattle.netlist_table.specs.Netlist.{Statement}
use Rattle.calculation.specs.Prices.{prices_of}
use Rattle.calculation.specs.Nodes.{kind_number, set, node}
use Rattle.calculation.specs.Calculation.{analysed}
use Rattle.calculation.specs.LinePlans.{Plan, cost}
use Rattle.calculation.specs.Acceptance.{BothSound}
use Rattle.calculation.specs.declared.Counts.{Counts}
use Rattle.calculation.proofs.Laws.{own-figures, exact, entry-bounded, numbers-length}
use Rattle.sweep_groups.proofs.Named.{set-node}
use Rattle.plan_text.specs.PlanText.{cheapest_text}
use Rattle.plan_text.specs.Plan.{Cheapest}
use Rattle.plan_text.specs.Asked.{PlanPut, PutWhere}
use Rattle.calculation.specs.Stored.{Holds, Calculated, HoldsAnalysis}
use Rattle.demands.specs.Demands.{Reported}
use Rattle.demands.proofs.Numbers.{placed_purpose}
use Rattle.plan_calls.specs.Concluded.{known, asked_number, kind_of, plan_read, PlanConcluded}

-- ---- what is asked for

-- A line, a value and a kind that have a number.
pub record InRange (l v kind : ℕ) : Type 0 where
  pub least : 1 ≤ l
  pub most : l ≤ Size.lines
  pub value : v ≤ 1
  pub kinds : kind ≤ 1

pub in-range : (l v kind : ℕ) → known l v kind ≡ true → InRange l v kind
unfolding known
in-range l v kind e =
    let a = and_left (leb 1 l && leb l Size.lines) (leb v 1 && leb kind 1) e in
    let b = and_right (leb 1 l && leb l Size.lines) (leb v 1 && leb kind 1) e in
    record {
      least = leb-true 1 l (and_left (leb 1 l) (leb l Size.lines) a);
      most = leb-true l Size.lines (and_right (leb 1 l) (leb l Size.lines) a);
      value = leb-true v 1 (and_left (leb v 1) (leb kind 1) b);
      kinds = leb-true kind 1 (and_right (leb v 1) (leb kind 1) b);
    }

pub from_range : (l v kind : ℕ) → InRange l v kind → known l v kind ≡ true
unfolding known
from_range l v kind i =
    rw (le-leb 1 l i.least, le-leb l Size.lines i.most, le-leb v 1 i.value, le-leb kind 1 i.kinds) refl

-- A number that is a figure is one of the table.
pub asked-known : (numbers : List ℕ) (l v kind : ℕ) → asked_number numbers l v kind ≤ most
    → InRange l v kind × (asked_number numbers l v kind ≡ get_or numbers (setting_place kind l v) 0)
unfolding asked_number pick
asked-known numbers l v kind h =
    by_test (known l v kind)
    (λ t. (in-range l v kind t, rw t refl))
    (λ t. let z : asked_number numbers l v kind ≡ never = rw t refl in absurd (omega arith))

pub kind_is : (kind : ℕ) → kind ≤ 1 → kind_number (kind_of kind) ≡ kind
unfolding kind_of
kind_is zero h = refl
kind_is (suc zero) h = refl
kind_is (suc (suc kind)) h = absurd (omega arith)

module _ (cells : List Cell) (ss : List Statement) (sound : BothSound cells ss) (rest : List ℕ) where
  -- What stands behind the table's published size is not asked for.
  pub asked-same : (l v kind : ℕ) → asked_number ((analysed cells ss).numbers ++ rest) l v kind ≡ asked_number (analysed cells ss).numbers l v kind
  unfolding asked_number pick
  asked-same l v kind =
      by_test (known l v kind)
      (λ t.
      let i = in-range l v kind t in
      rw t
      (List-get_or-append (analysed cells ss).numbers rest 0 (setting_place kind l v)
      (rw (numbers-length cells ss sound (prices_of ss) (own-figures sound)) (omega (arith, i.least, i.most, i.value, i.kinds)))))
      (λ t. rw t refl)

-- ---- whatever plan there is for what is asked

pub kind-node : (l v kind : ℕ) → kind ≤ 1 → node (kind_of kind) (set l v) ≡ setting_place kind l v
kind-node l v kind h = sym (set-node (kind_of kind) l v) ∙ ap (λ (n : ℕ). setting_place n l v) (kind_is kind h)

-- A cost that stands and is no figure is below no plan's.
stands-above : {P : Type 0} (c : P → ℕ) (x : ℕ) → Stands P c x → x ≤ never → most < x → (p : P) → most < c p
stands-above {P} c x e b h p = test (ℕ_discrete x over)
  where
    test : Dec (x ≡ over) → most < c p
    test (yes q) = (e.is_over.0 q).1 p
    test (no q) = absurd (e.is_never.0 (omega arith) p)

-- So it is with the number that is asked for.
pub all_above : (cells : List Cell) (ss : List Statement) → BothSound cells ss → (l v kind : ℕ)
    → most < asked_number (analysed cells ss).numbers l v kind → Reported (set l v) → kind ≤ 1
    → (q : Plan cells ss (kind_of kind) (set l v)) → most < cost q
unfolding asked_number pick
all_above cells ss sound l v kind h r k =
    let i : InRange l v kind = record { least = r.0; most = r.1; value = r.2; kinds = k } in
    stands-above (λ p. cost p) _ (exact cells ss sound (prices_of ss) (own-figures sound) (kind_of kind) (set l v) (placed_purpose (set l v) r))
    (entry-bounded cells ss sound (prices_of ss) (own-figures sound) (node (kind_of kind) (set l v)))
    (rw (kind-node l v kind k) (rw (from_range l v kind i) at h))

-- ---- answers are told apart

refusals_differ : {B : Type 0} (x y a b : ℕ) → (x ≡ y → ⊥) → ◌≡◌ {A = Read ℕ} (refused x a) (refused y b) → B
refusals_differ x y a b h e = let z : x ≡ y = cc in absurd (h z)

read_same : (n k : ℕ) → ◌≡◌ {A = Read ℕ} (read n) (read k) → n ≡ k
read_same n k e = cc

-- ---- the three ends

module _ (cells : List Cell) (ss : List Statement) (l v kind : ℕ) (before : List ℕ) where
  abbrev text : List ℕ
  text = cheapest_text (kind_of kind) cells ss l v

  abbrev number : ℕ
  number = asked_number (analysed cells ss).numbers l v kind

  over-read : most < number → plan_read cells ss l v kind (length before) ≡ refused no_figure 0
  unfolding plan_read weigh ◌>>◌ pick
  over-read h = rw (lt-ltb most number h) refl

  figure-read : number ≤ most → plan_read cells ss l v kind (length before) ≡ text_within plan_long (length before) text
  unfolding plan_read weigh ◌>>◌ pick
  figure-read h = rw (le-ltb most number h) refl

  long-read : number ≤ most → length before < length text → plan_read cells ss l v kind (length before) ≡ refused plan_long 0
  long-read h q = figure-read h ∙ text-long plan_long (length before) text q

  fits_read : number ≤ most → length text ≤ length before → plan_read cells ss l v kind (length before) ≡ read text
  fits_read h q = figure-read h ∙ text-fits plan_long (length before) text q

  -- One of the three it is.
  tested : {A : Type 0} → (most < number → A) → (number ≤ most → length before < length text → A) → (number ≤ most → length text ≤ length before → A) → A
  tested over long fits =
      by_test (ltb most number) (λ t. over (ltb-true most number t))
      (λ t.
      by_test (ltb (length before) (length text)) (λ u. long (ltb-false most number t) (ltb-true (length before) (length text) u))
      (λ u. fits (ltb-false most number t) (ltb-false (length before) (length text) u)))

  module _ (after : List ℕ) (w : Result ℕ Refusal) where
    ends : BothSound cells ss → Writes (plan_read cells ss l v kind (length before)) before after w
        → (number ≤ most → Cheapest cells ss (kind_of kind) l v) → PlanConcluded cells ss l v kind before after (answer_read w)
    unfolding length_read left_by
    ends sound c plan =
        let over_only : (line : ℕ) → answer_read w ≡ refused no_figure line → most < number =
        λ line q.
        tested (λ h. h)
        (λ h k. refusals_differ no_figure plan_long line 0 (λ z. omega arith) (sym q ∙ c.answers ∙ ap length_read (long-read h k)))
        (λ h k. refused-read (sym q ∙ c.answers ∙ ap length_read (fits_read h k))) in
        record {
          answers = c.answers;
          leaves = c.leaves;
          plan = plan;
          written = λ n q.
              tested (λ h. refused-read (sym (sym q ∙ c.answers ∙ ap length_read (over-read h))))
              (λ h k. refused-read (sym (sym q ∙ c.answers ∙ ap length_read (long-read h k))))
              (λ h k.
              let long = read_same n (length text) (sym q ∙ c.answers ∙ ap length_read (fits_read h k)) in
              (h, long, rw (c.leaves, fits_read h k) (take_at text (drop (length text) before) n (sym long))));
          no_number = over_only;
          no_plan = λ line q. all_above cells ss sound l v kind (over_only line q);
          too_long = λ line q.
              tested (λ h. refusals_differ plan_long no_figure line 0 (λ z. omega arith) (sym q ∙ c.answers ∙ ap length_read (over-read h)))
              (λ h k. (h, k)) (λ h k. refused-read (sym q ∙ c.answers ∙ ap length_read (fits_read h k)));
        }

    pub ends-over : BothSound cells ss → most < number → Refuses no_figure 0 before after w → PlanConcluded cells ss l v kind before after (answer_read w)
    ends-over sound h r =
        ends sound (rw (over-read h) (refuses-writes no_figure 0 before after w refl r)) (λ q. absurd (omega arith))

    pub ends-written : BothSound cells ss → number ≤ most → (middle : List ℕ) (end : ℕ) → PlanPut cells ss (kind_of kind) l v before middle end
        → Closes plan_long end middle after w → PlanConcluded cells ss l v kind before after (answer_read w)
    ends-written sound h middle end put c =
        ends sound (rw (figure-read h) (put-closed plan_long refl put.put c)) (λ z. put.plan)

-- ---- the plan that is put

pub plan-put : (cells : List Cell) (ss : List Statement) (l v kind : ℕ) (library netlist before middle : List ℕ) (end : ℕ) → PutWhere library netlist l v kind before middle end
    → Holds library netlist cells ss → asked_number (analysed cells ss).numbers l v kind ≤ most → PlanPut cells ss (kind_of kind) l v before middle end
plan-put cells ss l v kind library netlist before middle end w holds h =
    let i = asked-known (analysed cells ss).numbers l v kind h in
    w (kind_of kind) cells ss (kind_is kind i.0.kinds) holds (rw (kind-node l v kind i.0.kinds, ← i.1) h)

-- The number that was read is the one of the analysis.
pub number_is_lem : (library netlist numbers : List ℕ) (cells : List Cell) (ss : List Statement) → HoldsAnalysis library netlist numbers cells ss → (l v kind : ℕ)
    → asked_number numbers l v kind ≡ asked_number (analysed cells ss).numbers l v kind
number_is_lem library netlist numbers cells ss h l v kind =
    ap (λ (xs : List ℕ). asked_number xs l v kind) h.stand ∙ asked-same cells ss h.holds.sound h.rest l v kind

-- Behind the calculation the tables hold an accepted analysis.
pub analysis-held : {library netlist before numbers : List ℕ} {cells : List Cell} {ss : List Statement} {counts : Counts}
    → Holds library netlist cells ss → Calculated (prices_of ss) cells ss before numbers counts → HoldsAnalysis library netlist numbers cells ss
analysis-held {before = before} h c = record { holds = h; rest = drop Size.numbers before; stand = c.numbers }
