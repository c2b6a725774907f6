-- `clear_lent`: a table of the call's own is zero already.
use Rattle.analysis_texts.proofs.Own.{own-cleared}
use Rattle.analysis_texts.proofs.clear_lent.Goals as goal

pub returns-in-Own : goal.returns-in-Own
returns-in-Own c = own-cleared c.args.size c.args.table.now c.in-Own.is c.requires
