-- `take_apart` says a record's statement: a gate by its pins before the first 0, else an input or an output.
use Rattle.common_laws.proofs.Base.{◌≡◌, refl, sym, ap, ◌∙◌, ◌-◌, arith, le-ltb, lt-ltb, ne_eqb, take, drop, length-drop, take_all}
use Rattle.sizes.specs.Sizes as Size
use Rattle.netlist_table.specs.Netlist.{any_line_bad}
use Rattle.analysis_records.specs.Records.{pins_before}
use Rattle.analysis_records.proofs.RecordLaws.{before_front, gate_says, mark_told, mark_none}
use Rattle.analysis_records.proofs.record.take_apart.Goals as goal
use Rattle.analysis_records.proofs.record.take_apart.Goals.{then-kind-ge-KINDS-via-then-kind-ge-KINDS, then-kind-ge-KINDS-via-else-kind-ge-KINDS+then-not-no_cell}
use Rattle.analysis_records.proofs.record.take_apart.Goals.{then-kind-ge-KINDS-via-else-kind-ge-KINDS+else-not-no_cell+then-not-all_zero}

pub returns-then-kind-eq-GATE : goal.returns-then-kind-eq-GATE
returns-then-kind-eq-GATE c =
    let ps = c.args.rec.pins in
    let n = c.pins_before-n.result in
    let before = c.pins_before-n.ensures in
    let rest : take (Size.pins - n) (drop n ps) ≡ drop n ps = take_all (Size.pins - n) (drop n ps) (omega (arith, length-drop n ps, before.2)) in
    let front : take n ps ≡ pins_before ps = rw before.0 (before_front ps) in
    rw (c.then_some.ensures, c.all_zero.ensures, rest)
    (gate_says c.args.rec _ refl n c.if-kind-eq-GATE.true before.2 before.0 refl refl refl refl (c.pins_bad.ensures ∙ ap any_line_bad front))

pub returns-then-kind-ge-KINDS : goal.returns-then-kind-ge-KINDS
returns-then-kind-ge-KINDS c =
    let rec = c.args.rec in
    mark_none rec c.if-kind-eq-GATE.false
    (elim c.then-kind-ge-KINDS.branch [
      | then-kind-ge-KINDS-via-then-kind-ge-KINDS w ↦ rw (le-ltb rec.kind 4 w.if-kind-ge-KINDS.true)
      | then-kind-ge-KINDS-via-else-kind-ge-KINDS+then-not-no_cell w ↦ rw (lt-ltb rec.kind 4 w.if-kind-ge-KINDS.false, ne_eqb rec.cell 0 w.if-not-no_cell.true)
      | then-kind-ge-KINDS-via-else-kind-ge-KINDS+else-not-no_cell+then-not-all_zero w ↦
          rw (lt-ltb rec.kind 4 w.if-kind-ge-KINDS.false, w.if-not-no_cell.false) (sym w.all_zero-else-not-no_cell.ensures ∙ w.if-not-all_zero.true)
    ])

pub returns : goal.returns
returns c =
    let rec = c.args.rec in
    mark_told rec _ c.mark.ensures.0 c.mark.ensures.1 c.if-kind-eq-GATE.false
    (rw (lt-ltb rec.kind 4 c.if-kind-ge-KINDS.false, c.if-not-no_cell.false) (sym c.all_zero-else-not-no_cell.ensures ∙ c.if-not-all_zero.false))
