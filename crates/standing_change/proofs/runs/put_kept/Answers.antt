-- `put_kept` lays the analysis behind as many pads as the table counts.
use Rattle.common_laws.proofs.Base.{◌∙◌, arith}
use Rattle.calculation.specs.Stored.{whole}
use Rattle.standing_change.proofs.RunsLaws.{kept-stored}
use Rattle.standing_change.proofs.runs.put_kept.Goals as goal

pub put_standing-requires : goal.put_standing-requires
put_standing-requires c =
    (omega (arith, c.word.ensures, c.requires.0), c.requires.1)

pub returns : goal.returns
returns c =
    kept-stored c.args.standing.now c.requires.1 c.word.result (whole c.args.counts c.args.numbers.now) _
    (c.word.ensures) c.put_standing.ensures
