-- `pins_in` meets its contract.
use Rattle.common_laws.proofs.Base.{Bool, List, and_assoc, ◌&&◌, ◌≡◌, sym, ap, ◌∙◌, ℕ, arith, rules}
use Rattle.std.proofs.Common.{Err}
use Rattle.reading.specs.declared.Cause.TheVariants.{LibraryForm}
use Rattle.text.specs.Numeral.{name_form, numeral_read}
use Rattle.truth_tables.specs.Tables.{all_of}
use Rattle.truth_rows.specs.Masks.{is_bit}
use Rattle.truth_entry.proofs.Fields.{comes-unformed, comes-bad, comes-many, comes-wrong, comes-made, bits-all}
use Rattle.truth_entry.proofs.pins_in.Goals as goal

-- What the tests of the name and the bits told.
told : (formed n b t : Bool) (name bits : List ℕ) → n ≡ name_form name → b ≡ all_of is_bit bits → (formed && n && b) ≡ t
    → (formed && (name_form name && all_of is_bit bits)) ≡ t
told formed n b t name bits e f g = rw (← e, ← f) (sym (and_assoc formed n b) ∙ g)

pub returns-then-not-good : goal.returns-then-not-good
returns-then-not-good c = comes-unformed _ _ _ _ (told _ _ _ _ _ _ c.is_name.ensures c.all_bits.ensures c.if-not-good.true)

pub returns-in_err-n : goal.returns-in_err-n
unfolding numeral_read
returns-in_err-n c =
    let good = told _ _ _ _ _ _ c.is_name.ensures c.all_bits.ensures c.if-not-good.false in
    let said : c.from_residual.result ≡ Err LibraryForm = search rules in
    rw said (comes-bad _ _ _ _ good (sym c.decimal.ensures ∙ ap numeral_read c.in_err-n.ensures.ok_part))

pub returns-then-n-gt-MOST_PINS : goal.returns-then-n-gt-MOST_PINS
unfolding numeral_read
returns-then-n-gt-MOST_PINS c =
    let good = told _ _ _ _ _ _ c.is_name.ensures c.all_bits.ensures c.if-not-good.false in
    comes-many _ _ _ _ good c.in_ok-n.n (sym c.decimal.ensures ∙ ap numeral_read c.in_ok-n.ensures.ok_part) c.if-n-gt-MOST_PINS.true

pub returns-then-bits-pow : goal.returns-then-bits-pow
unfolding numeral_read
returns-then-bits-pow c =
    let good = told _ _ _ _ _ _ c.is_name.ensures c.all_bits.ensures c.if-not-good.false in
    comes-wrong _ _ _ _ good c.in_ok-n.n (sym c.decimal.ensures ∙ ap numeral_read c.in_ok-n.ensures.ok_part) (omega arith) (λ z. c.if-bits-pow.true (z ∙ sym c.pow.ensures))

pub returns : goal.returns
unfolding numeral_read
returns c =
    let good = told _ _ _ _ _ _ c.is_name.ensures c.all_bits.ensures c.if-not-good.false in
    let long = c.if-bits-pow.false ∙ c.pow.ensures in (
      record { few = omega arith; long = long; digits = bits-all c.args.formed c.args.name.now c.args.digits.now c.args.bits.now good },
      comes-made _ _ _ _ good c.in_ok-n.n (sym c.decimal.ensures ∙ ap numeral_read c.in_ok-n.ensures.ok_part) (omega arith) long,
    )
