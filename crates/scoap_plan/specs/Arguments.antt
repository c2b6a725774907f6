-- The arguments of the program `scoap_plan`, LINE VALUE KIND, as bytes. No document says what it takes (docs/DECISIONS.md,
-- D116).
use Rattle.std.specs.Prelude.{List, [], ◌∷◌, ◌++◌, ℕ, eqb, Option, Some, None}
use Rattle.std.proofs.Math.Option as Math
use Rattle.std.proofs.Math.Option.{none, some}
use Rattle.reading.specs.Choice.{pick}
use Rattle.text.specs.Bytes.{bytes}
use Rattle.text.specs.Numeral.{decimal}
use Rattle.scoap_plan.specs.declared.arguments.Arguments.{Arguments}

-- Three decimals as document 01 has them: "Decimal fields have 1 to 5 digits, no leading zero (0 itself is well formed)."
unfoldable pub three_decimals : Math.Option ℕ → Math.Option ℕ → Math.Option ℕ → Option Arguments
three_decimals none value kind = None
three_decimals (some l) none kind = None
three_decimals (some l) (some v) none = None
three_decimals (some l) (some v) (some k) = Some (record { line = l; value = v; kind = k })

-- The words are counted with the program's name.
abbrev pub words : ℕ
words = 4

unfoldable pub arguments_of : (count : ℕ) (line value kind : List ℕ) → Option Arguments
arguments_of count line value kind =
    pick (eqb count words) (three_decimals (decimal line) (decimal value) (decimal kind)) None

-- What is printed of others.
unfoldable pub usage : List ℕ
usage = bytes "usage: scoap_plan LINE VALUE KIND" ++ (10 ∷ [])
