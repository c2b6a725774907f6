-- What the statements given to a call satisfy, whatever they come from: what is read is sound, and no refusal has a number of
-- the entry or the report. A netlist text is such.
use Rattle.common_laws.proofs.Base.{true, List, ◌≡◌, subst, ℕ, ◌+◌, arith, length}
use Rattle.reading.specs.Refusal.{refused, read}
use Rattle.reading.proofs.Bounds.{Within, text_number}
use Rattle.library_table.specs.Cells.{Cell}
use Rattle.netlist_table.specs.declared.Rules.TheVariants.{New}
use Rattle.netlist_table.specs.Netlist.{Statement}
use Rattle.netlist_table.specs.Sound.{Sound}
use Rattle.netlist_table.proofs.Bounds.{netlist-within}
use Rattle.netlist_table.proofs.Laws.{netlist-sound}
use Rattle.demands.specs.Outcome.{Given, given_by, given_texts}

pub record Checked (g : Given) : Type 0 where
  pub sound : (cells : List Cell) (ss : List Statement) → g.statements cells ≡ read ss → Sound cells ss
  pub numbered : (cells : List Cell) (number line : ℕ) → g.statements cells ≡ refused number line → text_number number ≡ true

pub texts-checked : (lib net : List ℕ) → Checked (given_texts lib net)
unfolding given_by
texts-checked lib net =
    record {
      sound = λ cells ss e. netlist-sound cells New net ss e;
      numbered = λ cells number line e. (subst (Within text_number _) e (netlist-within (length net + 1) New cells net (omega arith))).0;
    }
