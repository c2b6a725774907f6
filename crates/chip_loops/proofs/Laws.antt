-- What the two calls say of the statements that were read.
use Rattle.common_laws.proofs.Base.{Bool, true, false, List, [], ◌∷◌, flat_map, ◌↔◌, ⊎_elim, ◌≡◌, refl, ℕ, arith, eqb, length-replicate, eqb-true}
use Rattle.sizes.specs.Sizes as Size
use Rattle.reading.specs.Each.{Each}
use Rattle.reading.proofs.Laws.{by_test, clash}
use Rattle.library_table.specs.Cells.{Cell}
use Rattle.netlist_table.specs.Netlist.{Gate, Statement, gates_of, member}
use Rattle.netlist_table.specs.Layout.{NetlistHolds}
use Rattle.netlist_table.specs.Sound.{InRange, GateSound}
use Rattle.netlist_table.proofs.Causes.{member_cases}
use Rattle.netlist_table.proofs.HeldGates.{gates-held}
use Rattle.calculation.specs.Acceptance.{BothSound}
use Rattle.chip_values.specs.Loops.{Loopless, NoneOpen, lines_read, ReadOnce}
use Rattle.chip_loops.specs.Marks.{no_marks, without_loops, pins_of, read_once}
use Rattle.chip_loops.proofs.Marks.{none-marked}
use Rattle.chip_loops.proofs.Levelled.{levelled-free, free-levelled}
use Rattle.chip_loops.proofs.Held.{inputs-listed, mentions-listed}
use Rattle.chip_loops.proofs.OneReader.{once-apart, apart-once}

member-range : (l : ℕ) (ls : List ℕ) → Each InRange ls → member l ls ≡ true → InRange l
unfolding member Each
member-range l [] h m = clash false m refl
member-range l (k ∷ ls) h m = by_test (eqb k l) (λ t. rw (← eqb-true k l t) h.0) (λ t. member-range l ls h.1 (rw t at m))

pins-range : (cells : List Cell) (gs : List Gate) → Each (GateSound cells) gs → (l : ℕ) → member l (pins_of gs) ≡ true → InRange l
unfolding flat_map Each
pins-range cells [] h l m = clash false (unfold member in m) refl
pins-range cells (g ∷ gs) h l m =
    ⊎_elim
    (λ t. member-range l g.pins h.0.pins t)
    (λ t. pins-range cells gs h.1 l t)
    (member_cases l g.pins (pins_of gs) m)

module _ {table : List ℕ} {cells : List Cell} {ss : List Statement} (sound : BothSound cells ss)
    (holds : NetlistHolds table ss) where
  -- "a netlist without loops or open lines"
  pub without_loops_lem : (without_loops table ≡ true) ↔ (Loopless ss × NoneOpen ss)
  unfolding without_loops
  without_loops_lem =
      let inputs = inputs-listed sound.netlist holds.past in
      let mentions = mentions-listed sound.netlist holds.past in
      rw (holds.words, gates-held sound.netlist holds.past sound.library) (
        levelled-free cells ss sound.netlist _ _ inputs mentions,
        (λ f. free-levelled cells ss sound.netlist _ _ inputs mentions f.0 f.1),
      )

  -- "each line is read by at most one pin"
  pub read-once : (read_once table ≡ true) ↔ ReadOnce ss
  unfolding read_once ReadOnce lines_read InRange
  read-once =
      let range = pins-range cells (gates_of ss) sound.netlist.gates in
      let size = length-replicate {A = Bool} Size.line_places false in
      rw (holds.words, gates-held sound.netlist holds.past sound.library) (
        (λ t. (once-apart no_marks (pins_of (gates_of ss)) (λ l m. rw size (omega (arith, (range l m).1))) t).0),
        (λ a. apart-once no_marks (pins_of (gates_of ss)) a (λ l m. none-marked Size.line_places l)),
      )
