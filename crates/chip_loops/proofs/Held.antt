-- The inputs and the lines mentioned of a table that holds statements, by membership.
use Rattle.common_laws.proofs.Base.{Bool, true, List, ◌++◌, ◌≡◌, ℕ, arith}
use Rattle.sizes.specs.Sizes as Size
use Rattle.library_table.specs.Cells.{Cell}
use Rattle.netlist_table.specs.Netlist.{Statement, is_input, input, mentioned, lines_where}
use Rattle.netlist_table.specs.Layout.{netlist_words}
use Rattle.netlist_table.specs.Lines.{inputs_held, mentions_held}
use Rattle.netlist_table.specs.Sound.{InRange, Sound}
use Rattle.netlist_table.proofs.HeldLines.{inputs-held, mentions-held}
use Rattle.netlist_table.proofs.Laws.{mentioned-in-range, marked-in-range}
use Rattle.chip_loops.proofs.Marks.{where-listed, listed-where}
use Rattle.chip_loops.proofs.Levelled.{Lists}

-- A test that tells a netlist's lines.
lists_where : (q : ℕ → Bool) → ((l : ℕ) → q l ≡ true → InRange l) → Lists q (lines_where q Size.lines 1)
unfolding InRange
lists_where q range =
    record {
      only = λ l m. listed-where q Size.lines 1 l m;
      each = λ l t. where-listed q Size.lines 1 l t (range l t).0 (omega (arith, (range l t).1));
    }

module _ {cells : List Cell} {ss : List Statement} (sound : Sound cells ss) (past : List ℕ) where
  pub inputs-listed : Lists (λ l. is_input l ss) (inputs_held (netlist_words ss ++ past))
  inputs-listed = rw (inputs-held ss past) (lists_where (λ l. is_input l ss) (marked-in-range cells ss sound input))

  pub mentions-listed : Lists (λ l. mentioned l ss) (mentions_held (netlist_words ss ++ past))
  mentions-listed = rw (mentions-held ss past) (lists_where (λ l. mentioned l ss) (mentioned-in-range cells ss sound))
