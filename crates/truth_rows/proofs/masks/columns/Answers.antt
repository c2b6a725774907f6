-- `columns` meets its contract: a digit's columns, shifted, stand above those of the pins behind it.
use Rattle.common_laws.proofs.Base.{◌≡◌, refl, ℕ, zero, suc, ◌*◌, ◌%◌, ◌^◌, ◌≤◌, ◌<◌, mul-le-mul, pow-le-pow_right, add-one, arith}
use Rattle.truth_tables.specs.Entries.{term_columns}
use Rattle.truth_rows.specs.Masks.{term_of}
use Rattle.truth_rows.proofs.Pins.{columns-more, columns-below, third}
use Rattle.truth_rows.proofs.masks.columns.Goals as goal

-- Of so few pins no bit is shifted out.
shifted : (d i : ℕ) → d < 3 → i < 4 → d * 2 ^ (2 * i) % 2 ^ 32 ≡ d * 4 ^ i
shifted d zero h k = omega arith
shifted d (suc zero) h k = omega arith
shifted d (suc (suc zero)) h k = omega arith
shifted d (suc (suc (suc zero))) h k = omega arith
shifted d (suc (suc (suc (suc i)))) h k = absurd (omega arith)

small : (d i : ℕ) → d < 3 → i < 4 → d * 4 ^ i ≤ 2 * 64
small d i h k =
    let least : d ≤ 2 = omega arith in
    let few : i ≤ 3 = omega arith in
    let four : 0 < 4 = omega arith in
    let most : 4 ^ i ≤ 4 ^ 3 = pow-le-pow_right four few in
    mul-le-mul least most

pub loop-i-init : goal.loop-i-init
unfolding term_columns term_of
loop-i-init c = (refl, omega arith)

pub overflow_add-sum : goal.overflow_add-sum
overflow_add-sum c =
    let l = c.loop-i in
    let d : l.rest % 3 < 3 = omega arith in
    let few : l.i < 4 = omega arith in
    let four : 0 < 4 = omega arith in
    let most : 4 ^ l.i ≤ 4 ^ 4 = let h : l.i ≤ 4 = omega arith in pow-le-pow_right four h in
    rw shifted (omega (arith, small (l.rest % 3) l.i d few, columns-below l.i c.args.row, l.invariant.0))

pub loop-i-preserved : goal.loop-i-preserved
loop-i-preserved c =
    let l = c.loop-i in
    let d : l.rest % 3 < 3 = omega arith in
    let few : l.i < 4 = omega arith in (
      rw (shifted, add-one l.i, columns-more l.i c.args.row, l.invariant.0, l.invariant.1) (omega arith),
      rw (add-one l.i, l.invariant.1) (third c.args.row l.i),
    )
