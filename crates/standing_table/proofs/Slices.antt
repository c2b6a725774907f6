-- A part of a lent slice that reaches to its end, as the numbers of a standing table do.
use Rattle.common_laws.proofs.Base.{List, [], ◌++◌, append-nil, ◌≡◌, ap, ◌∙◌, ℕ, ◌-◌, ◌≤◌, le_of_eq, arith, length, take, drop, length-drop, drop_of_length-le, take_all}
use borrow.Rule.Slice.PartMut.{put_mid}
use Rattle.sizes.specs.Sizes as Size
use Rattle.calculation.specs.Stored.{Ready}

module _ (xs : List ℕ) (a : ℕ) where
  pub part_is : take (length xs - a) (drop a xs) ≡ drop a xs
  part_is = take_all (length xs - a) (drop a xs) (le_of_eq (length-drop a xs))

  pub part-put : (ys : List ℕ) → a ≤ length xs → put_mid a (length xs - a) xs ys ≡ take a xs ++ ys
  part-put ys h =
      let none : drop (length xs - a) (drop a xs) ≡ [] = drop_of_length-le (drop a xs) (le_of_eq (length-drop a xs)) in
      ap (λ (z : List ℕ). take a xs ++ (ys ++ z)) none ∙ ap (λ (z : List ℕ). take a xs ++ z) (append-nil ys)

-- What is ready for the runs again has the published size.
pub ready-size : {library netlist : List ℕ} (table : List ℕ) → Ready library netlist (drop Size.standing_numbers table) → Size.standing ≤ length table
ready-size table r = omega (arith, r.room, length-drop Size.standing_numbers table)
