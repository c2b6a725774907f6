-- What a refusal leaves of tables and a buffer that are full of sevens, by computation. Document 01: "Entry refusals leave lent
-- memory untouched; later ones leave every table and the report buffer zero."
use Rattle.std.specs.Prelude.{[], ◌∷◌, ◌≡◌, refl, ℕ, ◌-◌, replicate}
use Rattle.sizes.specs.Sizes as Size
use Rattle.text.specs.Bytes.{text}
use Rattle.demands.specs.Outcome.{Given, Lent, given_texts, zeroed, left, left_from, left_later}
use Rattle.report_figures.specs.Figures.{outcome_open}

-- What is lent, each entry the same number.
unfoldable pub all_of : ℕ → Lent
all_of n =
    record {
      library = replicate Size.library n;
      netlist = replicate Size.netlist n;
      numbers = replicate Size.numbers n;
      report = replicate 8 n;
    }

-- A library of bad form, 3: every entry is 0 then.
abbrev bad_library : Given
bad_library = given_texts (text ("Name" ∷ [])) (text [])

pub later_zero : left bad_library (all_of 7) ≡ all_of 0
unfolding outcome_open left left_from left_later zeroed all_of
later_zero = refl

-- A report buffer of 8 bytes, 17: the same.
abbrev no_room : Given
no_room = given_texts (text []) (text [])

pub report-long-zero : left no_room (all_of 7) ≡ all_of 0
unfolding outcome_open left left_from left_later zeroed all_of
report-long-zero = refl

-- A numbers table one entry short, 1: every entry is what it was.
abbrev short : Lent
short =
    record {
      library = replicate Size.library 7;
      netlist = replicate Size.netlist 7;
      numbers = replicate (Size.numbers - 1) 7;
      report = replicate 8 7;
    }

pub entry_kept : left bad_library short ≡ short
unfolding outcome_open left left_from
entry_kept = refl
