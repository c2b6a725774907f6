-- `mark_pads` counts the pads, and marks them.
use Rattle.common_laws.proofs.Base.{Bool, List, ◌≡◌, subst, ℕ, arith, get_or, take, drop}
use Rattle.sizes.specs.Sizes as Size
use Rattle.reading.specs.Answer.{answer_read}
use Rattle.library_table.specs.Cells.{Cell}
use Rattle.netlist_table.specs.Netlist.{Statement}
use Rattle.standing_table.specs.Parts.{PadsTried}
use Rattle.standing_table.proofs.Pads.{judged-many, judged-marked, judged-refused}
use Rattle.standing_table.proofs.texts.mark_pads.Goals as goal

-- The pads, as many as the table counts.
module _ (lib table net' : List ℕ) (cells : List Cell) (ss : List Statement) where
  abbrev Tried : ℕ → Bool → Type 0
  Tried n b = PadsTried lib cells ss (take n (drop Size.pads_at table)) net' b

  counted : (n : ℕ) (a b : Bool) → n ≡ get_or table 0 0 → a ≡ b → Tried n a → Tried (get_or table 0 0) b
  counted n a b e f h = subst (λ (k : ℕ). Tried k b) e (subst (Tried n) f h)

pub returns-then-count-gt-PADS : goal.returns-then-count-gt-PADS
unfolding answer_read
returns-then-count-gt-PADS c cells ss h =
    rw c.at.ensures
    (judged-many c.args.library.now cells ss c.args.standing.now c.args.netlist.now c.requires (omega (arith, c.word-count.ensures, c.if-count-gt-PADS.true)))

pub returns-then-place_pads : goal.returns-then-place_pads
unfolding answer_read
returns-then-place_pads c cells ss h =
    judged-marked c.args.library.now cells ss c.args.standing.now _ c.requires (omega (arith, c.word-count.ensures, c.if-count-gt-PADS.false)) (counted c.args.library.now c.args.standing.now c.place_pads.new.netlist cells ss c.word-count.result _ _ (c.word-count.ensures) c.if-place_pads.true (c.place_pads.ensures cells ss h))

pub returns-else-place_pads : goal.returns-else-place_pads
unfolding answer_read
returns-else-place_pads c cells ss h =
    rw c.at-else-place_pads.ensures
    (judged-refused c.args.library.now cells ss c.args.standing.now _ c.requires (omega (arith, c.word-count.ensures, c.if-count-gt-PADS.false)) (counted c.args.library.now c.args.standing.now c.place_pads.new.netlist cells ss c.word-count.result _ _ (c.word-count.ensures) c.if-place_pads.false (c.place_pads.ensures cells ss h)))

pub place_pads-requires : goal.place_pads-requires
place_pads-requires c =
    (c.if-count-gt-PADS.false, c.requires)
