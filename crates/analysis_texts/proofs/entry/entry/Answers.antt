-- `entry` weighs the entry's two causes by the lengths.
use Rattle.common_laws.proofs.Base.{le-ltb, lt-ltb}
use Rattle.reading.specs.Choice.{pick}
use Rattle.reading.specs.Refusal.{weigh}
use Rattle.reading.specs.Answer.{answer_read}
use Rattle.demands.specs.Outcome.{entry_by}
use Rattle.analysis_texts.proofs.entry.entry.Goals as goal
use Rattle.analysis_texts.proofs.entry.entry.Goals.{then-library-lt-LIBRARY-via-then-library-lt-LIBRARY}
use Rattle.analysis_texts.proofs.entry.entry.Goals.{then-library-lt-LIBRARY-via-else-library-lt-LIBRARY+then-netlist-lt-NETLIST}
use Rattle.analysis_texts.proofs.entry.entry.Goals.{then-library-lt-LIBRARY-via-else-library-lt-LIBRARY+else-netlist-lt-NETLIST+then-numbers-lt-NUMBERS}
use Rattle.analysis_texts.proofs.entry.entry.Goals.{then-lib-gt-TEXT_BYTES-via-then-lib-gt-TEXT_BYTES}
use Rattle.analysis_texts.proofs.entry.entry.Goals.{then-lib-gt-TEXT_BYTES-via-else-lib-gt-TEXT_BYTES+then-net-gt-TEXT_BYTES}

pub returns-then-library-lt-LIBRARY : goal.returns-then-library-lt-LIBRARY
unfolding entry_by weigh pick answer_read
returns-then-library-lt-LIBRARY c =
    rw c.at.ensures
    (elim c.then-library-lt-LIBRARY.branch [
      | then-library-lt-LIBRARY-via-then-library-lt-LIBRARY w ↦ rw (lt-ltb _ _ w.if-library-lt-LIBRARY.true)
      | then-library-lt-LIBRARY-via-else-library-lt-LIBRARY+then-netlist-lt-NETLIST w ↦ rw (le-ltb _ _ w.if-library-lt-LIBRARY.false, lt-ltb _ _ w.if-netlist-lt-NETLIST.true)
      | then-library-lt-LIBRARY-via-else-library-lt-LIBRARY+else-netlist-lt-NETLIST+then-numbers-lt-NUMBERS w ↦
          rw (le-ltb _ _ w.if-library-lt-LIBRARY.false, le-ltb _ _ w.if-netlist-lt-NETLIST.false, lt-ltb _ _ w.if-numbers-lt-NUMBERS.true)
    ])

pub returns-then-lib-gt-TEXT_BYTES : goal.returns-then-lib-gt-TEXT_BYTES
unfolding entry_by weigh pick answer_read
returns-then-lib-gt-TEXT_BYTES c =
    rw (c.at-then-lib-gt-TEXT_BYTES.ensures, le-ltb _ _ c.if-library-lt-LIBRARY.false, le-ltb _ _ c.if-netlist-lt-NETLIST.false, le-ltb _ _ c.if-numbers-lt-NUMBERS.false)
    (elim c.then-lib-gt-TEXT_BYTES.branch [
      | then-lib-gt-TEXT_BYTES-via-then-lib-gt-TEXT_BYTES w ↦ rw (lt-ltb _ _ w.if-lib-gt-TEXT_BYTES.true)
      | then-lib-gt-TEXT_BYTES-via-else-lib-gt-TEXT_BYTES+then-net-gt-TEXT_BYTES w ↦ rw (le-ltb _ _ w.if-lib-gt-TEXT_BYTES.false, lt-ltb _ _ w.if-net-gt-TEXT_BYTES.true)
    ])

pub returns : goal.returns
unfolding entry_by weigh pick answer_read
returns c =
    rw (
      le-ltb _ _ c.if-library-lt-LIBRARY.false,
      le-ltb _ _ c.if-netlist-lt-NETLIST.false,
      le-ltb _ _ c.if-numbers-lt-NUMBERS.false,
      le-ltb _ _ c.if-lib-gt-TEXT_BYTES.false,
      le-ltb _ _ c.if-net-gt-TEXT_BYTES.false,
    )
