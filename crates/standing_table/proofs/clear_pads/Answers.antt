-- `clear_pads` clears a part of the table.
use Rattle.common_laws.proofs.Base.{List, ◌++◌, ap, ◌∙◌, ℕ, ◌+◌, ◌-◌, arith, take}
use Rattle.sizes.specs.Sizes as Size
use Rattle.table.specs.Blocks.{cleared}
use Rattle.standing_table.proofs.Slices.{part_is, part-put}
use Rattle.standing_table.proofs.clear_pads.Goals as goal

pub returns : goal.returns
returns c =
    let xs = c.args.standing.now in
    let a = Size.pads_at + c.args.pads in
    part-put xs a c.clear.new.table (omega (arith, c.requires.0, c.requires.1))
    ∙ ap (λ (z : List ℕ). take a xs ++ z) (c.clear.ensures ∙ ap (cleared (Size.pads - c.args.pads)) (part_is xs a))

pub slice_bounds-clear-count : goal.slice_bounds-clear-count
slice_bounds-clear-count c =
    omega (arith, c.requires.0, c.requires.1)

pub slice_bounds-clear-start : goal.slice_bounds-clear-start
slice_bounds-clear-start c =
    omega (arith, c.requires.0, c.requires.1)
