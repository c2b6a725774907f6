-- `admit` checks a statement of each kind and admits it.
use Rattle.common_laws.proofs.Base.{refl, arith}
use Rattle.reading.specs.Cause.{refusal_number}
use Rattle.netlist_table.specs.Netlist.{input, output, opened}
use Rattle.netlist_admission.proofs.StandsFor.{form-bad, formless, kind-mark, kind-gate, kind-range, range-told, kind_unknown}
use Rattle.netlist_admission.proofs.admit.Goals as goal

pub returns-in_default : goal.returns-in_default
unfolding refusal_number
returns-in_default c cells w lib is ss so h = rw (formless w (rw c.in_default.is at is)) (form-bad cells h)

pub returns-in-0 : goal.returns-in-0
returns-in-0 c cells w lib is ss so h =
    rw (kind-mark c.in-Some.s input w (rw c.in-Some.is at is) c.in-0.is)
    (c.admit_mark.ensures cells input refl refl refl ss so h)

pub returns-in-1 : goal.returns-in-1
returns-in-1 c cells w lib is ss so h =
    rw (kind-mark c.in-Some.s output w (rw c.in-Some.is at is) c.in-1.is)
    (c.admit_mark-in-1.ensures cells output refl refl refl ss so h)

pub returns-in-3 : goal.returns-in-3
returns-in-3 c cells w lib is ss so h =
    rw (kind-mark c.in-Some.s opened w (rw c.in-Some.is at is) c.in-3.is)
    (c.admit_mark-in-3.ensures cells opened refl refl refl ss so h)

pub returns-in-2 : goal.returns-in-2
returns-in-2 c cells w lib is ss so h =
    let found = kind-gate c.in-Some.s w (rw c.in-Some.is at is) c.in-2.is in
    rw found.1 (c.admit_gate.ensures cells found.0 lib found.2 ss so h)

pub returns-in-4 : goal.returns-in-4
returns-in-4 c cells w lib is ss so h =
    let found = kind-range c.in-Some.s w (rw c.in-Some.is at is) c.in-4.is in
    rw (found.1, ← range-told c.in-Some.s found.0 found.2) (c.admit_range.ensures cells ss so h)

pub returns-in_default-kind : goal.returns-in_default-kind
unfolding refusal_number
returns-in_default-kind c cells w lib is ss so h =
    rw (kind_unknown c.in-Some.s w (rw c.in-Some.is at is) (omega arith)) (form-bad cells h)
