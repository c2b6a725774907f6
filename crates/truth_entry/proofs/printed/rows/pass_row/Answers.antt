-- `pass_row` meets its contract.
use Rattle.common_laws.proofs.Base.{refl, sym, ◌∙◌}
use Rattle.reading.specs.Choice.{pick}
use Rattle.writer.proofs.Steps.{puts-none}
use Rattle.truth_rows.specs.Asked.{asked_number}
use Rattle.truth_entry.proofs.printed.rows.pass_row.Goals as goal

pub returns-then-not-is_prime : goal.returns-then-not-is_prime
unfolding pick
returns-then-not-is_prime c =
    let e = sym c.is_prime.ensures ∙ c.if-not-is_prime.true in
    record { put = rw e (puts-none _); any = rw e refl }

pub returns : goal.returns
unfolding pick asked_number
returns c =
    let e = sym c.is_prime.ensures ∙ c.if-not-is_prime.false in
    record { put = rw (e, ← c.number.ensures) c.put_row.ensures; any = rw e refl }
