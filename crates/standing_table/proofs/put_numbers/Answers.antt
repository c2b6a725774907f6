-- `put_numbers` lends a part of the table.
use Rattle.common_laws.proofs.Base.{List, ◌++◌, ap, ◌∙◌, ℕ, arith, take, drop, length-drop}
use Rattle.sizes.specs.Sizes as Size
use Rattle.standing_table.proofs.Slices.{part_is, part-put}
use Rattle.standing_table.proofs.put_numbers.Goals as goal

pub returns : goal.returns
returns c =
    let xs = c.args.standing.now in
    part-put xs Size.standing_numbers c.hand_over.new.numbers (omega (arith, c.requires))
    ∙ ap (λ (z : List ℕ). take Size.standing_numbers xs ++ z)
    (c.hand_over.ensures ∙ ap (λ (z : List ℕ). c.args.numbers.now ++ drop Size.numbers z) (part_is xs Size.standing_numbers))

pub slice_bounds-hand_over-count : goal.slice_bounds-hand_over-count
slice_bounds-hand_over-count c =
    omega (arith, c.requires)

pub slice_bounds-hand_over-start : goal.slice_bounds-hand_over-start
slice_bounds-hand_over-start c =
    omega (arith, c.requires)

pub hand_over-requires : goal.hand_over-requires
hand_over-requires c =
    let xs = c.args.standing.now in
    rw (part_is xs Size.standing_numbers) (omega (arith, length-drop Size.standing_numbers xs, c.requires))
