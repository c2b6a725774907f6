-- `has_groups` meets its contract.
use Rattle.common_laws.proofs.Base.{map, refl, eqb, rules}
use Rattle.truth_tables.specs.Entries.{setting_group, setting_groups, observing_group, observing_groups}
use Rattle.truth_rows.specs.Masks.{is_one, up_from}
use Rattle.truth_rows.proofs.Conditions.{pins-groups}
use Rattle.truth_cells.specs.Words.{groups_of}
use Rattle.truth_cells.proofs.groups.has_groups.Goals as goal

pub returns : goal.returns
unfolding groups_of setting_groups observing_groups up_from
returns c =
    let n = c.args.pins in
    let bits = map is_one c.args.bits.now in
    let cc = c.has_line.ensures (λ k. setting_group 1 n bits (eqb k 1)) (λ k a h p. search rules) in
    let sc = c.has_line-2.ensures (λ k. setting_group 0 n bits (eqb k 1)) (λ k a h p. search rules) in
    let co = rw (pins-groups 1 n bits 0 n) at (c.has_line-3.ensures (observing_group 1 n bits) (λ k a h p. search rules)) in
    let so = rw (pins-groups 0 n bits 0 n) at (c.has_line-4.ensures (observing_group 0 n bits) (λ k a h p. search rules)) in
    rw (cc, sc, co, so) refl
