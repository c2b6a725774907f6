-- What a turn copies, and that nothing of the zeros is left behind the last.
use Rattle.common_laws.proofs.Base.{List, ◌++◌, append-nil, ◌≡◌, sym, ◌∙◌, ap, ℕ, ◌+◌, ◌<◌, arith, length, get_or, set, take, drop, replicate, length-drop, get_or-drop}
use Rattle.sizes.specs.Sizes as Size
use Rattle.sizes.specs.Places.{gate_place}
use Rattle.netlist_table.specs.Gates.{gate_lines}
use Rattle.netlist_table.proofs.Copied.{copy_next}
use Rattle.netlist_table.proofs.gates.unchecked.lines_of.Goals as goal

pub loop-i-preserved : goal.loop-i-preserved
loop-i-preserved c =
    let a = c.args in
    let l = c.loop-i in
    let rest = drop (gate_place a.gate + 1) a.table.now in
    let zeros : List ℕ = replicate Size.gate_lines 0 in
    let place = c.place_of-at in
    let read : get_or a.table.now (place.result + 1 + l.i) 0 ≡ get_or rest l.i 0 =
    ap (λ (n : ℕ). get_or a.table.now (n + 1 + l.i) 0) place.ensures
    ∙ sym (get_or-drop (gate_place a.gate + 1) a.table.now l.i 0) in
    let room : l.i < length rest = rw (length-drop (gate_place a.gate + 1) a.table.now) (omega arith) in
    ap (λ (z : List ℕ). set z l.i (get_or a.table.now (place.result + 1 + l.i) 0)) l.invariant
    ∙ ap (set (take l.i rest ++ drop l.i zeros) l.i) read
    ∙ copy_next rest zeros l.i room (omega arith)

pub returns : goal.returns
unfolding gate_lines
returns c =
    let l = c.loop-i in
    let e : l.i ≡ Size.gate_lines = omega arith in
    rw e at l.invariant ∙ append-nil _
