-- A group more with each turn.
use Rattle.common_laws.proofs.Base.{◌≡◌, ◌+◌, add-one, arith}
use Rattle.writer.proofs.Steps.{puts-none, puts_then}
use Rattle.truth_tables.specs.Entries.{groups_bytes, line_bytes}
use Rattle.truth_rows.specs.Masks.{up_from}
use Rattle.truth_entry.proofs.Groups.{asks-bytes}
use Rattle.truth_entry.proofs.EntryLines.{groups-more}
use Rattle.truth_entry.proofs.printed.put_line.Goals as goal

pub loop-k-init : goal.loop-k-init
unfolding groups_bytes up_from
loop-k-init g c = λ gs h. puts-none _

pub loop-k-preserved : goal.loop-k-preserved
loop-k-preserved g c = λ gs h.
    let k = c.loop-k.k in
    let a = c.group.result in
    let first : 0 + k ≡ k = omega arith in
    let asked = h k a c.loop-k-test.true c.group.ensures in
    rw (add-one k, groups-more gs 0 k, first) (puts_then (c.loop-k.invariant gs h) (rw (asks-bytes a (gs k) asked) at c.put_group.ensures))

pub returns : goal.returns
unfolding line_bytes
returns g c = λ gs h.
    let all : c.args.count ≡ c.loop-k.k = omega arith in
    rw all (puts_then c.put_bytes.ensures (puts_then (c.loop-k.invariant gs h) c.put_byte.ensures))
