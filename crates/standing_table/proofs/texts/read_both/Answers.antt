-- `read_both` tells how far the reading came.
use Rattle.std.proofs.lemmas.Result.{err_from_is_err_and}
use Rattle.demands.proofs.Given.{texts-checked}
use Rattle.standing_table.proofs.TextsLaws.{both-reached, told-stopped, told-read}
use Rattle.standing_table.proofs.texts.read_both.Goals as goal

pub returns-in_err-read_texts : goal.returns-in_err-read_texts
returns-in_err-read_texts c =
    let p = err_from_is_err_and c.from_residual.result c.from_residual.ensures.1 in
    rw (p.1, p.2)
    (told-stopped _ (texts-checked _ _) _ _ _ _ c.read_texts.result (both-reached c.args.lib.now c.args.net.now c.args.library.now c.args.netlist.now c.read_texts.new.library c.read_texts.new.netlist c.read_texts.result c.requires c.read_texts.ensures) _ c.in_err-read_texts.was)

pub returns : goal.returns
returns c =
    told-read _ (texts-checked _ _) _ _ _ _ c.read_texts.result (both-reached c.args.lib.now c.args.net.now c.args.library.now c.args.netlist.now c.read_texts.new.library c.read_texts.new.netlist c.read_texts.result c.requires c.read_texts.ensures) c.in_ok-read_texts.was

pub read_texts-requires : goal.read_texts-requires
read_texts-requires c =
    let z = c.requires in (z.cells, z.statements)
