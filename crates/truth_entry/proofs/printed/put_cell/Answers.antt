-- `put_cell` prints the six lines.
use Rattle.common_laws.proofs.Base.{map, rules, eqb}
use Rattle.text.specs.Bytes.{bytes}
use Rattle.writer.proofs.Steps.{puts_then, puts_lender}
use Rattle.truth_tables.specs.Entries.{setting_group, setting_groups, observing_group, observing_groups, cell_of, entry_bytes}
use Rattle.truth_rows.specs.Masks.{is_one, up_from}
use Rattle.truth_rows.proofs.Conditions.{pins-groups}
use Rattle.truth_entry.proofs.printed.put_cell.Goals as goal

pub returns : goal.returns
unfolding cell_of entry_bytes bytes setting_groups observing_groups up_from
returns c =
    let n = c.args.pins in
    let bits = map is_one c.args.bits.now in
    let cc = c.put_line.ensures (λ k. setting_group 1 n bits (eqb k 1)) (λ k a h p. search rules) in
    let co = rw (pins-groups 1 n bits 0 n) at (c.put_line-2.ensures (observing_group 1 n bits) (λ k a h p. search rules)) in
    let sc = c.put_line-3.ensures (λ k. setting_group 0 n bits (eqb k 1)) (λ k a h p. search rules) in
    let so = rw (pins-groups 0 n bits 0 n) at (c.put_line-4.ensures (observing_group 0 n bits) (λ k a h p. search rules)) in
    puts_lender
    (puts_then c.put_name.ensures (puts_then cc (puts_then co (puts_then sc (puts_then so c.put_bytes.ensures)))))
    c.new-text.ensures.front c.new-text.ensures.same (search rules)
