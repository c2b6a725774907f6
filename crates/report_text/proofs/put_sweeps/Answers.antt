-- The counts in their order, behind the word.
use Rattle.common_laws.proofs.Base.{append_assoc}
use Rattle.text.specs.Bytes.{bytes}
use Rattle.report_text.specs.Report.{sweeps_bytes}
use Rattle.writer.proofs.Steps.{puts_then}
use Rattle.report_text.proofs.put_sweeps.Goals as goal

pub returns : goal.returns
unfolding sweeps_bytes bytes
returns c =
    simp append_assoc at
    (puts_then c.put_bytes.ensures
    (puts_then c.put_count.ensures
    (puts_then c.put_count-2.ensures (puts_then c.put_count-3.ensures c.put_count-4.ensures))))
