-- Statements without ranges: those of forms of which none is a range, as the old rules and record lists have them.
use Rattle.common_laws.proofs.Base.{Bool, true, false, List, [], ◌∷◌, Option, none, some, ◌≡◌, refl, sym, ◌∙◌, ℕ, suc, arith, eqb, eqb-true, eqb-false}
use Rattle.reading.specs.Choice.{pick}
use Rattle.reading.specs.Each.{Each}
use Rattle.reading.specs.Refusal.{read}
use Rattle.reading.proofs.Laws.{by_test, refused-read}
use Rattle.library_table.specs.Cells.{Cell}
use Rattle.netlist_table.specs.Netlist.{Statement, ranges_in, ranges_of, some_line, some_range, admitted}
use Rattle.netlist_table.specs.Admission.{refusal_of, extended}
use Rattle.netlist_table.proofs.Causes.{range_lines, ranged-lines, one_more_lem}
use Rattle.netlist_table.proofs.Admission.{admitted-more, admitted-refused}

-- A form that is no range.
unfoldable pub Unranged : Option Statement → Type 0
Unranged w = (s : Statement) → w ≡ some s → ranges_in s ≡ []

pub none-unranged : Unranged none
unfolding Unranged
none-unranged s e = let n : ◌≡◌ {A = ℕ} 0 1 = cc in absurd (omega arith)

pub some-unranged : (s : Statement) → ranges_in s ≡ [] → Unranged (some s)
unfolding Unranged
some-unranged s h t e = let same : s ≡ t = cc in rw (← same) h

pub pick_unranged : (b : Bool) (x y : Option Statement) → Unranged x → Unranged y → Unranged (pick b x y)
unfolding pick
pick_unranged true x y h k = h
pick_unranged false x y h k = k

-- So statements that are admitted of such forms have none.
pub admitted-unranged : (line : ℕ) (cells : List Cell) (ss : List Statement) (ws : List (Option Statement)) (rs : List Statement)
    → Each Unranged ws → ranges_of ss ≡ [] → admitted line cells ss ws ≡ read rs → ranges_of rs ≡ []
unfolding Each
admitted-unranged line cells ss [] rs u h e = let same : ss ≡ rs = unfold admitted in cc in rw (← same) h
admitted-unranged line cells ss (w ∷ ws) rs u h e =
    by_test (eqb (refusal_of cells ss w) 0)
    (λ t.
    let z = eqb-true (refusal_of cells ss w) 0 t in
    admitted-unranged (suc line) cells (extended ss w) ws rs u.1 (more w u.0) (sym (admitted-more line cells ss w ws z) ∙ e))
    (λ t. refused-read (sym (admitted-refused line cells ss w ws (eqb-false _ 0 t)) ∙ e))
  where
    more : (v : Option Statement) → Unranged v → ranges_of (extended ss v) ≡ []
    more none n = unfold extended in h
    more (some s) n = unfold extended ranges_of Unranged in one_more_lem ranges_in ss s ∙ rw (h, n s refl)

pub no_range : (ss : List Statement) → ranges_of ss ≡ [] → some_range ss ≡ false
unfolding some_range some_line range_lines
no_range ss h = rw (ranged-lines ss, h)
