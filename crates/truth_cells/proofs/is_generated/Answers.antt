-- `is_generated` meets its contract.
use Rattle.common_laws.proofs.Base.{List, ◌≡◌, refl, sym, ◌∙◌, ℕ, ◌^◌, ◌≤◌, arith, take, length-take, lt-ltb, le-ltb, le-leb, lt-leb}
use Rattle.truth_rows.specs.Masks.{Bits}
use Rattle.truth_cells.specs.Words.{generated_at, pins_at, table_at, truth_bytes}
use Rattle.truth_cells.proofs.Steps.{truth_bits_lem, bytes_ones}
use Rattle.truth_cells.proofs.is_generated.Goals as goal

pub returns-then-count-cell : goal.returns-then-count-cell
unfolding generated_at
returns-then-count-cell c = rw (← c.count.ensures, le-ltb _ c.count.result c.if-count-cell.true) refl

pub returns-then-n-gt-MOST_PINS : goal.returns-then-n-gt-MOST_PINS
unfolding generated_at pins_at
returns-then-n-gt-MOST_PINS c =
    rw (← c.count.ensures, ← c.pins_of-n.ensures, lt-ltb c.args.cell c.count.result (omega arith), lt-leb c.pins_of-n.result 4 c.if-n-gt-MOST_PINS.true) refl

-- The front of the array is a truth table.
front : (library : List ℕ) (at n settings : ℕ) (bits : List ℕ) → n ≤ 4 → settings ≡ 2 ^ n → take (2 ^ n) bits ≡ truth_bytes library at n
    → Bits n (take settings bits)
front library at n settings bits h s e = rw (s, e) (truth_bits_lem library at n h)

pub slice_bounds-bits-end : goal.slice_bounds-bits-end
slice_bounds-bits-end c =
    let f = front _ _ _ _ _ (omega arith) c.pow.ensures c.bits_of-bits.ensures in
    omega (arith, c.pow.ensures, f.long, length-take c.pow.result c.bits_of-bits.result)

pub slice_bounds-has_groups-end : goal.slice_bounds-has_groups-end
slice_bounds-has_groups-end c =
    c.pow.ensures ∙ sym (front _ _ _ _ _ (omega arith) c.pow.ensures c.bits_of-bits.ensures).long

pub has_groups-requires : goal.has_groups-requires
has_groups-requires c = front _ _ _ _ _ (omega arith) c.pow.ensures c.bits_of-bits.ensures

pub returns : goal.returns
unfolding generated_at pins_at table_at truth_bytes
returns c =
    c.has_groups.ensures
    ∙ rw (
      c.pow.ensures,
      c.bits_of-bits.ensures,
      bytes_ones _,
      c.group_place.ensures.0,
      ← c.count.ensures,
      ← c.pins_of-n.ensures,
      lt-ltb c.args.cell c.count.result (omega arith),
      le-leb c.pins_of-n.result 4 (omega arith),
    )
    refl
