-- `passing` meets its contract.
use Rattle.common_laws.proofs.Base.{true, false, refl, sym, ◌∙◌, ◌*◌, ◌-◌, add-zero, sub_self, arith}
use Rattle.truth_tables.specs.Tables.{digit}
use Rattle.truth_rows.specs.Masks.{mask_of, up_from}
use Rattle.truth_rows.proofs.Pins.{mask-short, mask-shorter, mask_more}
use Rattle.truth_rows.proofs.masks.passing.Goals as goal

pub loop-j-init : goal.loop-j-init
unfolding mask_of up_from
loop-j-init g c = record { short = rw (sub_self c.args.count) (omega arith); holds = λ p h. rw (sub_self c.args.count) refl }

pub overflow_mul-mask : goal.overflow_mul-mask
overflow_mul-mask g c = omega (arith, mask-short c.args.count c.loop-j.j c.requires.few)

pub overflow_add-mask : goal.overflow_add-mask
overflow_add-mask g c = omega (arith, mask-short c.args.count c.loop-j.j c.requires.few)

pub loop-j-preserved-then-test : goal.loop-j-preserved-then-test
unfolding digit
loop-j-preserved-then-test g c =
    let l = c.loop-j in
    let n = c.args.count in
    record {
      short = mask-shorter l.mask 1 n l.j (omega arith) (omega arith) (omega arith) l.invariant.short;
      holds = λ p h. mask_more p true l.mask n l.j (h (l.j - 1) true (omega arith) c.if-test.ensures) (omega arith) (omega arith) (l.invariant.holds p h);
    }

pub loop-j-preserved : goal.loop-j-preserved
unfolding digit
loop-j-preserved g c =
    let l = c.loop-j in
    let n = c.args.count in
    record {
      short = omega (arith, mask-shorter l.mask 0 n l.j (omega arith) (omega arith) (omega arith) l.invariant.short);
      holds = λ p h. sym (add-zero (l.mask * 2)) ∙ mask_more p false l.mask n l.j (h (l.j - 1) false (omega arith) c.if-test.ensures) (omega arith) (omega arith) (l.invariant.holds p h);
    }
