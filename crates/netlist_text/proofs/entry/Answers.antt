-- `entry` weighs the entry's two causes by the lengths.
use Rattle.common_laws.proofs.Base.{le-ltb, lt-ltb}
use Rattle.reading.specs.Choice.{pick}
use Rattle.reading.specs.Refusal.{weigh}
use Rattle.reading.specs.Answer.{answer_read}
use Rattle.netlist_text.specs.Reader.{netlist_entry}
use Rattle.netlist_text.proofs.entry.Goals as goal
use Rattle.netlist_text.proofs.entry.Goals.{then-library-lt-LIBRARY-via-then-library-lt-LIBRARY, then-library-lt-LIBRARY-via-else-library-lt-LIBRARY+then-table-lt-NETLIST}

pub returns-then-library-lt-LIBRARY : goal.returns-then-library-lt-LIBRARY
unfolding netlist_entry weigh pick answer_read
returns-then-library-lt-LIBRARY c =
    rw c.at.ensures
    (elim c.then-library-lt-LIBRARY.branch [
      | then-library-lt-LIBRARY-via-then-library-lt-LIBRARY w ↦ rw (lt-ltb _ _ w.if-library-lt-LIBRARY.true)
      | then-library-lt-LIBRARY-via-else-library-lt-LIBRARY+then-table-lt-NETLIST w ↦ rw (le-ltb _ _ w.if-library-lt-LIBRARY.false, lt-ltb _ _ w.if-table-lt-NETLIST.true)
    ])

pub returns-then-text-gt-TEXT_BYTES : goal.returns-then-text-gt-TEXT_BYTES
unfolding netlist_entry weigh pick answer_read
returns-then-text-gt-TEXT_BYTES c =
    rw (c.at-then-text-gt-TEXT_BYTES.ensures, le-ltb _ _ c.if-library-lt-LIBRARY.false, le-ltb _ _ c.if-table-lt-NETLIST.false, lt-ltb _ _ c.if-text-gt-TEXT_BYTES.true)

pub returns : goal.returns
unfolding netlist_entry weigh pick answer_read
returns c = rw (le-ltb _ _ c.if-library-lt-LIBRARY.false, le-ltb _ _ c.if-table-lt-NETLIST.false, le-ltb _ _ c.if-text-gt-TEXT_BYTES.false)
