-- One line more, by whether it may be padded.
use Rattle.common_laws.proofs.Base.{Bool, true, false, List, ◌≡◌, sym, ◌∙◌, ap, ℕ, ◌+◌, ◌*◌, ◌-◌, add-one, length, sets}
use Rattle.std.proofs.Common.{Option}
use Rattle.sizes.specs.Sizes as Size
use Rattle.reading.specs.Choice.{pick}
use Rattle.cost.specs.Cost.{never}
use Rattle.library_table.specs.Cells.{Cell}
use Rattle.netlist_table.specs.Netlist.{Statement, mentioned, is_output}
use Rattle.netlist_table.specs.Sound.{InRange}
use Rattle.calculation.specs.declared.Advice.{Advice}
use Rattle.calculation.specs.Advice.{allowed, allowed_lines, leaves, largest, before, best, advice, rank_of, rank_words, no_rank, line_rank, ranks}
use Rattle.calculation.proofs.AdvisedLine.{allowed-said, allowed-free}
use Rattle.advice_calls.specs.declared.lines.Left.{Left}
use Rattle.advice_calls.specs.Parts.{Barred, may_pad, left_of, Stands, TrialsFit, Considered, LineRanked, AllRanked}
use Rattle.advice_calls.proofs.LinesLaws.{above, may-allowed}
use Rattle.advice_calls.proofs.Ranks.{four, RanksLaid}

module _ {library netlist numbers : List ℕ} {cells : List Cell} {ss : List Statement} (s : Stands library netlist numbers cells ss)
    {forbidden : List ℕ} {barred : List Bool} (b : Barred forbidden barred) where
  module _ (l : ℕ) (range : InRange l) {may : Bool} (told : may ≡ may_pad netlist barred l) where
    is_allowed_lem : may ≡ allowed ss forbidden l
    is_allowed_lem = told ∙ may-allowed s.holds forbidden barred b l range

    module _ (t : may ≡ true) where
      pub may-said : mentioned l ss ≡ true
      may-said = allowed-said cells ss s.holds.sound forbidden l (sym is_allowed_lem ∙ t)

      pub may_free : is_output l ss ≡ false
      may_free = allowed-free cells ss s.holds.sound forbidden l (sym is_allowed_lem ∙ t)

      module _ (left : Left) (e : left ≡ left_of (leaves cells ss l)) where
        pub considered : (found r : Option Advice) → r ≡ before l left.largest found → Considered cells ss forbidden l found r
        unfolding left_of pick
        considered found r h =
            h ∙ ap (λ (x : Left). before l x.largest found) e ∙ rw (← is_allowed_lem, t)

        pub ranked : (count : ℕ) (table after : List ℕ)
            → after ≡ sets table ((l - 1) * Size.rank_words) (rank_words (record { nevers = left.nevers; overs = left.overs; largest = left.figure; total = left.total }))
            → LineRanked cells ss forbidden l count table after (count + 1)
        unfolding left_of rank_of line_rank pick
        ranked count table after h =
            record {
              counts = rw (← is_allowed_lem, t) (add-one count);
              lays = h
                  ∙ ap (λ (x : Left). sets table ((l - 1) * Size.rank_words) (rank_words (record { nevers = x.nevers; overs = x.overs; largest = x.figure; total = x.total }))) e
                  ∙ rw (← is_allowed_lem, t);
            }

    module _ (t : may ≡ false) where
      pub passed : (found : Option Advice) → Considered cells ss forbidden l found found
      unfolding pick
      passed found = rw (← is_allowed_lem, t)

      pub unranked : (count : ℕ) (table after : List ℕ)
          → after ≡ sets table ((l - 1) * Size.rank_words) (rank_words (record { nevers = never; overs = never; largest = never; total = never }))
          → LineRanked cells ss forbidden l count table after count
      unfolding line_rank no_rank rank_words pick
      unranked count table after h = record { counts = rw (← is_allowed_lem, t); lays = h ∙ rw (← is_allowed_lem, t) }

-- Where the array holds the numbers again, the next line may be tried.
pub laid-still : {library netlist numbers before after : List ℕ} {barred : List Bool} → after ≡ numbers → TrialsFit library netlist numbers before barred
    → TrialsFit library netlist numbers after barred
laid-still e f = record { cells = f.cells; statements = f.statements; forbidden = f.forbidden; stands = f.stands; laid = e; bars = f.bars }

-- ---- the loops' ends

pub best-ends : (cells : List Cell) (ss : List Statement) (forbidden : List ℕ) (l : ℕ) (found : Option Advice) → l ≡ 0
    → found ≡ best (λ m. largest (leaves cells ss m)) (above (allowed ss forbidden) l) → found ≡ advice cells ss forbidden
unfolding advice allowed_lines
best-ends cells ss forbidden l found is e = rw is at e

pub ranks-end : (cells : List Cell) (ss : List Statement) (forbidden table after : List ℕ) (l count : ℕ) → l ≡ 0 → count ≡ length (above (allowed ss forbidden) l)
    → RanksLaid (line_rank cells ss forbidden) (four cells ss forbidden) table l after → AllRanked cells ss forbidden table after count
unfolding allowed_lines ranks
ranks-end cells ss forbidden table after l count is e laid = record { counts = rw is at e; lays = rw is at laid }
