-- `hand_observed` leaves one number more with each turn.
use Rattle.common_laws.proofs.Base.{List, ◌≡◌, refl, ◌∙◌, ap, sym, ℕ, ◌+◌, ◌*◌, ◌/◌, ◌%◌, ◌≤◌, arith, length, set, get_or, length-set, take_all}
use Rattle.sizes.specs.Sizes as Size
use Rattle.netlist_table.proofs.Copied.{copy_next}
use Rattle.standing_table.specs.StandingTable.{observed_place, observed_words}
use Rattle.standing_table.proofs.StandingTable.{observed-length, observed-word}
use Rattle.standing_table.proofs.hand_observed.Goals as goal

pub loop-i-preserved : goal.loop-i-preserved
loop-i-preserved c =
    let l = c.loop-i in
    let xs = c.args.numbers.now in
    let e : l.i / 2 * 6 + 4 + l.i % 2 ≡ observed_place l.i = omega arith in
    ap (λ (n : ℕ). set l.answer l.i (get_or xs n 0)) e
    ∙ ap (λ (n : ℕ). set l.answer l.i n) (sym (observed-word xs l.i c.loop-i-test.true))
    ∙ ap (λ (z : List ℕ). set z l.i (get_or (observed_words xs) l.i 0)) l.invariant
    ∙ copy_next (observed_words xs) c.args.answer.now l.i (omega (arith, observed-length xs)) (omega arith)

pub returns : goal.returns
returns c =
    let l = c.loop-i in
    let xs = c.args.numbers.now in
    let e : l.i ≡ Size.observed = omega arith in
    let b : length (observed_words xs) ≤ Size.observed = omega (arith, observed-length xs) in
    rw (take_all Size.observed (observed_words xs) b) at (rw e at l.invariant)
