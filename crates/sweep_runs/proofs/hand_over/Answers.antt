-- `hand_over` leaves one number more with each turn.
use Rattle.common_laws.proofs.Base.{◌≡◌, ◌++◌, refl, ◌∙◌, ap, List, ℕ, ◌≤◌, arith, length, set, get_or, take, drop, take_all}
use Rattle.sizes.specs.Sizes as Size
use Rattle.netlist_table.proofs.Copied.{copy_next}
use Rattle.sweep_runs.proofs.hand_over.Goals as goal

pub loop-i-preserved : goal.loop-i-preserved
loop-i-preserved c =
    let l = c.loop-i in
    ap (λ (z : List ℕ). set z l.i (get_or c.args.found.now l.i 0)) l.invariant ∙ copy_next c.args.found.now c.args.numbers.now l.i (omega arith) (omega arith)

-- The length is a variable, so that no list is computed.
all_laid : (n i : ℕ) (found before after : List ℕ) → i ≡ n → length found ≤ n → after ≡ take i found ++ drop i before → after ≡ found ++ drop n before
all_laid n i found before after e b h = h ∙ rw (e, take_all n found b) refl

pub returns : goal.returns
returns c =
    let i : c.loop-i.i ≡ Size.numbers = omega arith in
    all_laid Size.numbers c.loop-i.i c.args.found.now c.args.numbers.now c.loop-i.numbers i (omega arith) c.loop-i.invariant
