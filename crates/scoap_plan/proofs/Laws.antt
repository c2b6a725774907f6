-- What the words of a command line come to, by their number.
use Rattle.common_laws.proofs.Base.{List, ◌≡◌, refl, ℕ, eq-eqb, ne_eqb}
use Rattle.reading.specs.Choice.{pick}
use Rattle.text.specs.Numeral.{decimal}
use Rattle.scoap_plan.specs.declared.arguments.Arguments.{Arguments}
use Rattle.std.specs.Prelude.{Option, None}
use Rattle.scoap_plan.specs.Arguments.{words, three_decimals, arguments_of}

module _ (count : ℕ) (line value kind : List ℕ) where
  pub words-bad : (count ≡ words → ⊥) → None ≡ arguments_of count line value kind
  unfolding arguments_of pick
  words-bad h = rw (ne_eqb count words h) refl

  pub words-good : {a : Option Arguments} → count ≡ words → a ≡ three_decimals (decimal line) (decimal value) (decimal kind) → a ≡ arguments_of count line value kind
  unfolding arguments_of pick
  words-good h e = rw (eq-eqb count words h) e
