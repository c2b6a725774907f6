-- `bits_of` meets its contract.
use Rattle.common_laws.proofs.Base.{◌≡◌, refl, ◌∙◌, ◌^◌, ◌<◌, pow-le-pow_right, arith, length, length-set}
use Rattle.truth_rows.specs.Masks.{up_from}
use Rattle.truth_cells.specs.Words.{truth_bits, truth_bytes}
use Rattle.truth_cells.proofs.Steps.{bits-next}
use Rattle.truth_cells.proofs.bits.bits_of.Goals as goal

two : 0 < 2
two = omega arith

-- There is space for each setting.
room : (c : goal.After-byte_of) → c.loop-j.j < 16
room c = omega (arith, c.pow-j-end.ensures, pow-le-pow_right two c.requires.1)

pub loop-j-init : goal.loop-j-init
unfolding up_from
loop-j-init c = record { long = refl; done = refl }

pub bounds-bits-j : goal.bounds-bits-j
bounds-bits-j c = room c

pub loop-j-preserved : goal.loop-j-preserved
loop-j-preserved c =
    let l = c.loop-j in
    let v = l.invariant in
    let inside : l.j < length l.bits = omega (arith, room c, v.long) in
    record {
      long = length-set l.bits l.j c.byte_of.result ∙ v.long;
      done = rw (c.byte_of.ensures, c.is_one.ensures) (bits-next _ _ _ l.j l.bits inside v.done);
    }

pub returns : goal.returns
unfolding truth_bytes truth_bits
returns c =
    let v = c.loop-j.invariant in
    let whole : c.loop-j.j ≡ 2 ^ c.args.pins = omega (arith, c.pow-j-end.ensures) in
    rw whole at v.done
