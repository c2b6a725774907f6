-- Which statement the numbers stand for, by their kind.
use Rattle.std.specs.Prelude.{Some, None}
use Rattle.common_laws.proofs.Base.{List, Option, none, some, ◌≡◌, refl, sym, ap, ◌∙◌, ℕ, zero, suc, ◌≤◌, ◌<◌, arith, get_or}
use Rattle.table.specs.Blocks.{fitted}
use Rattle.reading.specs.Numbers as No
use Rattle.library_table.specs.Cells.{Cell}
use Rattle.netlist_table.specs.declared.RawStatement.{RawStatement}
use Rattle.netlist_table.specs.Netlist.{Gate, Mark, input, output, opened, Statement, Range, mark, gate, priced, kind_of, gate_kind, range_kind, last_kind}
use Rattle.netlist_table.specs.Layout.{NetlistHolds}
use Rattle.netlist_table.specs.Admission.{IsGate, IsRange, StandsFor, refusal_of, Decided}
use Rattle.netlist_admission.proofs.Outcomes.{refuses}

pub form-bad : (cells : List Cell) {table : List ℕ} {ss : List Statement} (holds : NetlistHolds table ss)
    → Decided cells ss none holds.past No.netlist_form table
unfolding refusal_of
form-bad cells holds = refuses cells holds none No.netlist_form (λ e. omega arith) refl

kind-low : (m : Mark) → kind_of m ≤ last_kind
kind-low input = omega arith
kind-low output = omega arith
kind-low opened = omega arith

kind_no_gate : (m : Mark) → kind_of m ≡ gate_kind → ⊥
kind_no_gate input e = omega arith
kind_no_gate output e = omega arith
kind_no_gate opened e = omega arith

kind_no_range : (m : Mark) → kind_of m ≡ range_kind → ⊥
kind_no_range input e = omega arith
kind_no_range output e = omega arith
kind_no_range opened e = omega arith

-- The range that the numbers tell.
pub range-told : (p : RawStatement) (r : Range) → IsRange r p
    → record { line = p.line; low = get_or p.pins 1 0; high = get_or p.pins 2 0 } ≡ r
unfolding fitted
range-told p r is =
    let low : get_or p.pins 1 0 ≡ r.low = rw is.pins in
    let high : get_or p.pins 2 0 ≡ r.high = rw is.pins in
    λ i. record { line = is.line i; low = low i; high = high i }

-- A mark is known by its kind.
of_kind : ℕ → Mark
of_kind zero = input
of_kind (suc zero) = output
of_kind (suc (suc n)) = opened

of_kind-kind : (m : Mark) → of_kind (kind_of m) ≡ m
unfolding of_kind
of_kind-kind input = refl
of_kind-kind output = refl
of_kind-kind opened = refl

same_kind : (m k : Mark) → kind_of m ≡ kind_of k → m ≡ k
same_kind m k e = sym (of_kind-kind m) ∙ ap of_kind e ∙ of_kind-kind k

pub formless : (w : Option Statement) → StandsFor None w → w ≡ none
unfolding StandsFor
formless none is = refl
formless (some s) is = absurd is

module _ (p : RawStatement) where
  pub kind-mark : (m : Mark) (w : Option Statement) → StandsFor (Some p) w → p.kind ≡ kind_of m → w ≡ some (mark m p.line)
  unfolding StandsFor
  kind-mark m none is k = absurd (omega (arith, kind-low m))
  kind-mark m (some (mark n l)) is k = rw (is.line, same_kind n m (sym is.kind ∙ k))
  kind-mark m (some (gate g)) is k = absurd (kind_no_gate m (sym k ∙ is.kind))
  kind-mark m (some (priced r)) is k = absurd (kind_no_range m (sym k ∙ is.kind))

  pub kind-gate : (w : Option Statement) → StandsFor (Some p) w → p.kind ≡ gate_kind → (g : Gate) × (w ≡ some (gate g)) × IsGate g p
  unfolding StandsFor
  kind-gate none is k = absurd (omega arith)
  kind-gate (some (mark m l)) is k = absurd (kind_no_gate m (sym is.kind ∙ k))
  kind-gate (some (gate g)) is k = (g, refl, is)
  kind-gate (some (priced r)) is k = absurd (omega (arith, is.kind))

  pub kind-range : (w : Option Statement) → StandsFor (Some p) w → p.kind ≡ range_kind → (r : Range) × (w ≡ some (priced r)) × IsRange r p
  unfolding StandsFor
  kind-range none is k = absurd (omega arith)
  kind-range (some (mark m l)) is k = absurd (kind_no_range m (sym is.kind ∙ k))
  kind-range (some (gate g)) is k = absurd (omega (arith, is.kind))
  kind-range (some (priced r)) is k = (r, refl, is)

  pub kind_unknown : (w : Option Statement) → StandsFor (Some p) w → last_kind < p.kind → w ≡ none
  unfolding StandsFor
  kind_unknown none is h = refl
  kind_unknown (some (mark m l)) is h = absurd (omega (arith, kind-low m, is.kind))
  kind_unknown (some (gate g)) is h = absurd (omega (arith, is.kind))
  kind_unknown (some (priced r)) is h = absurd (omega (arith, is.kind))
