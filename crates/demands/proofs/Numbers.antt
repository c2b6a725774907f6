-- Demands 2 and 3 of a numbers table that holds the numbers of an accepted analysis.
use Rattle.common_laws.proofs.Base.{List, ◌++◌, ◌≡◌, sym, ap, subst, ◌∙◌, ℕ, ◌<◌, get_or, take, List-get_or-append, take_at}
use Rattle.sizes.specs.Sizes as Size
use Rattle.library_table.specs.Cells.{Cell}
use Rattle.netlist_table.specs.Netlist.{Statement}
use Rattle.netlist_table.specs.Sound.{InRange}
use Rattle.calculation.specs.Prices.{prices_of}
use Rattle.calculation.specs.Nodes.{Purpose, set, observe, node}
use Rattle.calculation.specs.Calculation.{analysed}
use Rattle.calculation.specs.LinePlans.{Exact}
use Rattle.calculation.specs.Acceptance.{BothSound}
use Rattle.calculation.proofs.Laws.{own-figures, exact, settled, settled-once, few-sweeps, numbers-length, node-inside, Placed}
use Rattle.demands.specs.Demands.{Reported, NumbersStand}

pub placed_purpose : (p : Purpose) → Reported p → Placed p
unfolding InRange
placed_purpose (set l v) h = ((h.0, h.1), h.2)
placed_purpose (observe l) h = (h.0, h.1)

module _ {cells : List Cell} {ss : List Statement} (sound : BothSound cells ss) (numbers rest : List ℕ)
    (stand : numbers ≡ (analysed cells ss).numbers ++ rest) where
  pub entry-stands : (i : ℕ) → i < Size.numbers → get_or numbers i 0 ≡ get_or (analysed cells ss).numbers i 0
  entry-stands i h =
      ap (λ (y : List ℕ). get_or y i 0) stand
      ∙ List-get_or-append (analysed cells ss).numbers rest 0 i (rw (numbers-length cells ss sound (prices_of ss) (own-figures sound)) h)

  pub numbers-stand : NumbersStand cells ss numbers
  numbers-stand =
      let price = prices_of ss in
      let figures = own-figures sound in
      record {
        calculated = ap (λ (y : List ℕ). take Size.numbers y) stand ∙ take_at (analysed cells ss).numbers rest Size.numbers (numbers-length cells ss sound price figures);
        settled = settled cells ss sound price figures;
        settled_once = settled-once cells ss sound price figures;
        few_sweeps = few-sweeps cells ss sound price figures;
        exact = λ k p r.
            subst (λ (y : ℕ). Exact cells ss k p y) (sym (entry-stands (node k p) (node-inside k p (placed_purpose p r))))
            (exact cells ss sound price figures k p (placed_purpose p r));
      }
