-- What "never" says of the chip, of each accepted analysis, at whatever prices within the ranges. `NeverMeans` of
-- specs/Never.antt is the statement.
use Rattle.common_laws.proofs.Base.{Bool, true, false, List, List-as-Memᴰ, ◌≡◌, refl, subst, ℕ}
use Rattle.cost.specs.Cost.{never}
use Rattle.library_table.specs.Cells.{Cell}
use Rattle.netlist_table.specs.Netlist.{Gate, Statement, gates_of, mentioned}
use Rattle.netlist_table.specs.Sound.{InRange}
use Rattle.netlist_table.proofs.Laws.{mentioned-in-range}
use Rattle.calculation.specs.Acceptance.{BothSound}
use Rattle.calculation.specs.Nodes.{combinational, set}
use Rattle.calculation.specs.Prices.{Pricing, prices_of}
use Rattle.calculation.specs.Calculation.{analysed_at}
use Rattle.calculation.specs.LinePlans.{Plan, ExactAt}
use Rattle.calculation.specs.Ways.{cell_of}
use Rattle.calculation.proofs.Laws.{exact}
use Rattle.demands.specs.Outcome.{Given, given_texts}
use Rattle.demands.specs.Demands.{Reported}
use Rattle.demands.proofs.Given.{Checked, texts-checked}
use Rattle.demands.proofs.Room.{pair-sound}
use Rattle.truth_tables.specs.Tables.{digit}
use Rattle.truth_tables.proofs.Order.{digit-most}
use Rattle.chip_values.specs.Loops.{NoneOpen}
use Rattle.chip_values.specs.Values.{Setting, Values, Tables, Does}
use Rattle.chip_values.specs.Built.{Qualifies, tables_of}
use Rattle.chip_values.specs.Never.{cc_number, NeverMeans, NeverOf, NeverAtPrices}
use Rattle.chip_values.proofs.Values.{one_value_lem}
use Rattle.chip_values.proofs.CellRows.{Tells}
use Rattle.chip_values.proofs.Rows.{tells}
use Rattle.chip_values.proofs.Planned.{planned}
use Rattle.chip_values.proofs.Reached.{reached}

module _ (cells : List Cell) (ss : List Statement) (sound : BothSound cells ss) (q : Qualifies cells ss) (price : Pricing) (numbers : List ℕ)
    (stands : (l : ℕ) (x : Bool) → Reported (set l (digit x)) → ExactAt price cells ss combinational (set l (digit x)) (cc_number numbers l x)) where
  abbrev tables : Tables
  tables = tables_of q.built.bits

  gates_tell : (g : Gate) → List-as-Memᴰ g (gates_of ss) → Tells (cell_of cells g) (tables g)
  unfolding tables_of
  gates_tell g m = tells (cell_of cells g) (q.built.bits g.cell) (q.built.generated g m)

  exact-here : (l : ℕ) → mentioned l ss ≡ true → (x : Bool) → ExactAt price cells ss combinational (set l (digit x)) (cc_number numbers l x)
  unfolding InRange
  exact-here l m x =
      let r = mentioned-in-range cells ss sound.netlist l m in stands l x (r.0, r.1, digit-most x)

  none-gives : (s : Setting) (v : Values) → Does ss tables s v → (l : ℕ) → mentioned l ss ≡ true → (x : Bool) → v l ≡ x → cc_number numbers l x ≡ never → ⊥
  unfolding NoneOpen
  none-gives s v d l m x e n =
      (exact-here l m x).is_never.0 n
      (subst (λ (y : Bool). Plan cells ss combinational (set l (digit y))) e
      (planned cells ss sound tables q.loopless q.none_open gates_tell s v d l (q.none_open l m)))

  pub never-stands : NeverMeans ss tables numbers
  never-stands =
      let value = one_value_lem ss tables q.loopless q.none_open cells sound.netlist in
      let none : Setting = λ l. false in
      record {
        one_value = value;
        none_gives = λ s v d l m. none-gives s v d l m (v l) refl;
        exactly = λ once l m x. (
          λ n s v d e. none-gives s v d l m x e n,
          λ h. (exact-here l m x).is_never.1
              (λ p. let c = reached cells ss sound tables q.loopless q.none_open gates_tell once l x p none (value none).values (value none).given in
              h c.setting c.values c.does c.met),
        );
      }

-- Of every call whose promise is `Promised`, whatever it is given to read.
pub never-means-of : (g : Given) → Checked g → NeverOf g
unfolding cc_number
never-means-of g checked before after said p pair s e q =
    never-stands pair.cells pair.statements (pair-sound g checked pair) q (prices_of pair.statements) after.numbers
    (λ l x h. p.demand3 pair s e combinational (set l (digit x)) h)

-- .. and of the numbers at all prices within the ranges, those of the second report among them: ranges do not touch it.
pub never-at-prices : (g : Given) → Checked g → NeverAtPrices g
unfolding cc_number
never-at-prices g checked before after said p pair s e q price w =
    never-stands pair.cells pair.statements (pair-sound g checked pair) q price
    (analysed_at price pair.cells pair.statements).numbers
    (λ l x h. ((p.reporting pair s e).prices.between price w (set l (digit x)) h).exact combinational)

-- Of two texts: behind the promise of `analyse`.
pub never-means : (lib net : List ℕ) → NeverOf (given_texts lib net)
never-means lib net = never-means-of (given_texts lib net) (texts-checked lib net)
