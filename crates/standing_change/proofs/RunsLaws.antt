-- The runs from the numbers of a standing table, and those from the beginning, as they are stored.
use Rattle.common_laws.proofs.Base.{List, [], ◌++◌, append-nil, ◌≡◌, refl, sym, ap, ◌∙◌, ℕ, ◌≤◌, le_of_eq, arith, length, get_or, take, drop, replicate, length-take, length-drop}
use Rattle.common_laws.proofs.Base.{length-replicate, drop_of_length-le}
use Rattle.sizes.specs.Sizes as Size
use Rattle.library_table.specs.Cells.{Cell}
use Rattle.netlist_table.specs.Netlist.{Statement}
use Rattle.calculation.specs.declared.Counts.{Counts}
use Rattle.calculation.specs.Acceptance.{BothSound}
use Rattle.calculation.specs.Prices.{prices_of}
use Rattle.calculation.specs.Calculation.{Analysed, analysed}
use Rattle.calculation.specs.Stored.{whole, Calculated}
use Rattle.calculation.proofs.AnyNumbers.{lesser_runs_lem}
use Rattle.sweep_reruns.specs.Kept.{held, GoneOn}
use Rattle.sweep_reruns.proofs.Kept.{held-length, held-bounded}
use Rattle.standing_table.specs.StandingTable.{standing_words, pads_held, analysis_held}
use Rattle.standing_change.specs.RunParts.{Stores, lesser_held}

module _ (table : List ℕ) (long : Size.standing ≤ length table) where
  room : Size.numbers ≤ length (drop Size.standing_numbers table)
  room = omega (arith, long, length-drop Size.standing_numbers table)

  -- The pads of a table are as many as it counts.
  pub count-few : length (pads_held table) ≤ Size.pads → get_or table 0 0 ≤ Size.pads
  unfolding pads_held
  count-few few =
      omega (arith, long, few, length-take (get_or table 0 0) (drop Size.pads_at table), length-drop Size.pads_at table)

  -- An analysis laid behind as many pads as the table counts.
  pub kept-stored : (n : ℕ) (a : Analysed) (after : List ℕ) → n ≡ get_or table 0 0
      → after ≡ standing_words (take n (drop Size.pads_at table)) a ++ drop Size.standing table → Stores a table after
  unfolding pads_held
  kept-stored n a after e left = left ∙ ap (λ (k : ℕ). standing_words (take k (drop Size.pads_at table)) a ++ drop Size.standing table) e

  module _ (cells : List Cell) (ss : List Statement) (numbers : List ℕ) (counts : Counts) (g : GoneOn cells ss (drop Size.standing_numbers table) numbers counts) where
    pub gone_whole : BothSound cells ss → whole counts numbers ≡ lesser_held cells ss table
    unfolding analysis_held
    gone_whole sound =
        sym (lesser_runs_lem cells ss sound (held (drop Size.standing_numbers table)) (held-length (drop Size.standing_numbers table) room)
        (held-bounded (drop Size.standing_numbers table) room) (whole counts numbers) g.runs)

module _ (cells : List Cell) (ss : List Statement) (numbers : List ℕ) (counts : Counts) (c : Calculated (prices_of ss) cells ss (replicate Size.numbers 0) numbers counts) where
  same_numbers : numbers ≡ (analysed cells ss).numbers
  same_numbers =
      c.numbers
      ∙ ap (λ (z : List ℕ). (analysed cells ss).numbers ++ z)
      (drop_of_length-le (replicate {A = ℕ} Size.numbers 0) (le_of_eq (length-replicate {A = ℕ} Size.numbers 0)))
      ∙ append-nil (analysed cells ss).numbers

  pub begun_whole : whole counts numbers ≡ analysed cells ss
  begun_whole =
      let told = c.counts in
      λ i. record { numbers = same_numbers i; counts = told i }
