-- `link` makes the chains, the drivers and the tied gates, each in its part.
use Rattle.sweep_links.proofs.Lines.{chain_fits, drivers-fit}
use Rattle.sweep_links.proofs.link.Goals as goal

pub chain-requires : goal.chain-requires
chain-requires c = chain_fits c.count-gates.ensures c.requires

pub note_drivers-requires : goal.note_drivers-requires
note_drivers-requires c = drivers-fit c.count-gates.ensures c.requires c.chain.ensures.kept
