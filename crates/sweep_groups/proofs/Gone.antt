-- "For every row the columns gone to are exactly the named ones, each once, lowest first."
use Rattle.common_laws.proofs.Base.{map, ◌≡◌, refl, ◌∙◌, ℕ, ◌+◌, ◌*◌, ◌^◌, ◌≤◌, ◌<◌}
use Rattle.sizes.specs.Sizes as Size
use Rattle.library_table.specs.Cells.{bit_of, setting_columns, observing_columns, named}
use Rattle.library_table.specs.Library.{column_count}
use Rattle.calculation.specs.Nodes.{combinational, sequential}
use Rattle.calculation.specs.Ways.{setting, observing, word_of, columns_of, named_by}
use Rattle.sweep_sums.specs.Gone.{columns_gone}
use Rattle.sweep_sums.proofs.Gone.{gone-places}
use Rattle.sweep_groups.specs.Gone.{GoneNamed}
use Rattle.sweep_groups.proofs.Named.{setting_named, observing_named}

module _ (n : ℕ) (few : n ≤ Size.pins) where
  setting-gone : (columns : ℕ) → columns < 2 ^ (2 * n) → columns < 2 ^ 32 → columns_gone columns ≡ map (bit_of n) (named n (setting_columns n) columns)
  unfolding bit_of
  setting-gone columns b w = gone-places columns w ∙ setting_named n (λ j. j) (bit_of n) (λ i v h c. refl) (λ v c. refl) refl columns few b

  observing-gone : (columns : ℕ) → columns < 2 ^ (2 * n + 3) → columns < 2 ^ 32 → columns_gone columns ≡ map (bit_of n) (named n (observing_columns n) columns)
  unfolding bit_of
  observing-gone columns b w = gone-places columns w ∙ observing_named n (λ j. j) (bit_of n) (λ i v h c. refl) (λ v c. refl) refl columns few b

pub gone_named_lem : GoneNamed
unfolding named_by columns_of word_of column_count
gone_named_lem combinational c (setting e) few r b w = setting-gone c.pins few r.columns b w
gone_named_lem sequential c (setting e) few r b w = setting-gone c.pins few r.columns b w
gone_named_lem combinational c (observing i) few r b w = observing-gone c.pins few r.columns b w
gone_named_lem sequential c (observing i) few r b w = observing-gone c.pins few r.columns b w
