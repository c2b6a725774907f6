-- `put` stores a key at its leaf and then goes up, a place at a time.
use Rattle.common_laws.proofs.Base.{◌≡◌, ◌∙◌, sym, ap, ℕ, ◌+◌, ◌*◌, ◌-◌, ◌/◌, ◌%◌, min, arith, get_or, set, length-set, get_or-set_same}
use Rattle.sizes.specs.Sizes as Size
use Rattle.budget_queue.specs.Queue.{key}
use Rattle.budget_queue.proofs.Laws.{above_store, above_step, beside_lower, leaves-step, put_queue, put_done}
use Rattle.budget_queue.proofs.CostQueue.put.Goals as goal

pub loop-at-init : goal.loop-at-init
loop-at-init c =
    let q = c.self.inside.keys in
    let at : ℕ = Size.leaves + c.args.leaf in
    record {
      low = omega arith;
      high = omega (arith, c.requires.0);
      size = length-set q at c.key_of-key.result ∙ c.self.invariant.size;
      above = above_store q at c.key_of-key.result (omega arith) c.self.invariant.inner;
      leaves = λ i h. rw c.self.view_is (ap (λ (k : ℕ). get_or (set c.args.self.now at k) (Size.leaves + i) 0) c.key_of-key.ensures);
      here = get_or-set_same q at c.key_of-key.result 0 (omega (arith, c.requires.0, c.self.invariant.size));
    }

pub loop-at-preserved : goal.loop-at-preserved
loop-at-preserved c =
    let l = c.loop-at in
    let q = l.self-inside.keys in
    let inv = l.invariant in
    let up : ℕ = l.at / 2 in
    let low = c.loop-at-test.true in
    let lower : c.min-key.result ≡ min (get_or q (2 * up) 0) (get_or q (2 * up + 1) 0) =
    c.min-key.ensures ∙ ap (λ (k : ℕ). min k (get_or q (l.at + 1 - l.at % 2 * 2) 0)) (sym inv.here) ∙ beside_lower q l.at low in
    record {
      low = omega arith;
      high = omega (arith, inv.high);
      size = length-set q up c.min-key.result ∙ inv.size;
      above = rw lower (above_step q l.at low inv.high inv.size inv.above);
      leaves = leaves-step q (set c.args.self.now (Size.leaves + c.args.leaf) (key c.args.cost c.args.leaf)) up c.min-key.result (omega (arith, inv.high)) inv.leaves;
      here = get_or-set_same q up c.min-key.result 0 (omega (arith, inv.high, inv.size));
    }

pub invariant_of-self : goal.invariant_of-self
invariant_of-self c =
    let l = c.loop-at in
    let one : l.at ≡ 1 = omega arith in
    put_queue l.self-inside.keys c.args.self.now c.args.leaf c.args.cost (rw c.self.view_is at c.self.invariant) c.requires.0 c.requires.1 l.invariant.size (rw one at l.invariant.above) l.invariant.leaves

pub returns : goal.returns
returns c =
    let l = c.loop-at in
    let one : l.at ≡ 1 = omega arith in
    put_done l.self-inside.keys c.args.self.now c.args.leaf c.args.cost (rw c.self.view_is at c.self.invariant) c.requires.0 c.requires.1 l.invariant.size (rw one at l.invariant.above) l.invariant.leaves
