-- `refresh_value` puts the gate's bid at its leaf.
use Rattle.common_laws.proofs.Base.{List, ◌≡◌, ℕ}
use Rattle.budget_queue.specs.Queue.{Put}
use Rattle.budget_run.proofs.Offers.{output-stands, leaf_inside, offer-bound, fixed-bid, open_bid}
use Rattle.budget_run.proofs.refresh_value.Goals as goal

put_same : {i j c d : ℕ} {q r : List ℕ} → i ≡ j → c ≡ d → Put i c q r → Put j d q r
put_same e f p = rw (← e, ← f) p

pub leaf_of-leaf-requires : goal.leaf_of-leaf-requires
leaf_of-leaf-requires c =
    (output-stands {library = c.args.circuit.now.library.now} (c.requires.0.tables_fit.gates c.args.gate c.requires.0.inside), c.requires.1)

pub leaf_place-place-requires : goal.leaf_place-place-requires
leaf_place-place-requires c =
    rw c.leaf_of-leaf.ensures
    (leaf_inside (output-stands {library = c.args.circuit.now.library.now} (c.requires.0.tables_fit.gates c.args.gate c.requires.0.inside)) c.requires.1)

pub put-requires-else-numbers-place-lt-NEVER : goal.put-requires-else-numbers-place-lt-NEVER
put-requires-else-numbers-place-lt-NEVER c =
    let a = c.args in (
      rw c.leaf_of-leaf.ensures
          (leaf_inside (output-stands {library = a.circuit.now.library.now} (c.requires.0.tables_fit.gates a.gate c.requires.0.inside)) c.requires.1),
      rw c.offer_of-offer.ensures (offer-bound a.circuit.now.library.now a.circuit.now.netlist.now a.numbers.now a.gate a.value),
    )

pub returns-then-numbers-place-lt-NEVER : goal.returns-then-numbers-place-lt-NEVER
returns-then-numbers-place-lt-NEVER c =
    let a = c.args in
    put_same c.leaf_of-leaf.ensures
    (fixed-bid a.circuit.now.library.now a.circuit.now.netlist.now a.numbers.now a.gate a.value c.leaf_of-leaf.result c.leaf_place-place.result
    c.requires.0.size (output-stands {library = a.circuit.now.library.now} (c.requires.0.tables_fit.gates a.gate c.requires.0.inside)) c.requires.1
    c.leaf_of-leaf.ensures c.leaf_place-place.ensures.0 c.if-numbers-place-lt-NEVER.true)
    c.put.ensures

pub returns-else-numbers-place-lt-NEVER : goal.returns-else-numbers-place-lt-NEVER
returns-else-numbers-place-lt-NEVER c =
    let a = c.args in
    put_same c.leaf_of-leaf.ensures
    (open_bid a.circuit.now.library.now a.circuit.now.netlist.now a.numbers.now a.gate a.value c.leaf_of-leaf.result c.leaf_place-place.result
    c.requires.0.size (output-stands {library = a.circuit.now.library.now} (c.requires.0.tables_fit.gates a.gate c.requires.0.inside)) c.requires.1
    c.leaf_of-leaf.ensures c.leaf_place-place.ensures.0 c.if-numbers-place-lt-NEVER.false c.offer_of-offer.result.0 c.offer_of-offer.ensures)
    c.put-else-numbers-place-lt-NEVER.ensures
