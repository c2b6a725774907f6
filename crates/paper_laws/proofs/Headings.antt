-- A heading is told back by its number in a table.
use Rattle.common_laws.proofs.Base.{◌≡◌, refl}
use Rattle.reading.specs.Choice.{pick}
use Rattle.library_table.specs.declared.Heading.{Heading}
use Rattle.library_table.specs.declared.Heading.TheVariants.{Plain as plain, Deep as deep}
use Rattle.library_table.specs.Layout.{heading_number, heading_told}

pub number-heading : (h : Heading) → heading_told (heading_number h) ≡ h
unfolding heading_number heading_told pick
number-heading plain = refl
number-heading deep = refl
