-- What an accepted outcome says of what was given.
use Rattle.common_laws.proofs.Base.{List, [], ◌≡◌, refl, subst, ℕ, ◌≤◌, ltb-false, length}
use Rattle.reading.specs.Numbers as No
use Rattle.reading.specs.Refusal.{read, ◌>>=◌, weigh}
use Rattle.reading.proofs.Laws.{bind_read, then-read, weigh-one}
use Rattle.library_table.specs.Cells.{Cell}
use Rattle.library_table.specs.Library.{library}
use Rattle.netlist_table.specs.Netlist.{Statement}
use Rattle.calculation.specs.Calculation.{analysed}
use Rattle.demands.specs.Demands.{PairRead}
use Rattle.demands.specs.Outcome.{Given, Lent, Pair, pair_of, Accepted, entry, outcome, read_pair, reading, conclude, reports}

-- ---- the library and the netlist

-- What was read of each.
pub record ReadAs (g : Given) (p : Pair) : Type 0 where
  pub cells : library g.library ≡ read p.cells
  pub statements : g.statements p.cells ≡ read p.statements

pub read_as : (g : Given) (p : Pair) → read_pair g ≡ read p → ReadAs g p
unfolding read_pair
read_as g p r =
    bind_read (library g.library) _ p
    (λ cells a r₁. bind_read (g.statements cells) _ p
    (λ ss b r₂.
    let same : pair_of cells ss ≡ p = cc in
    subst (ReadAs g) same (record { cells = a; statements = b })) r₁) r

pub pair_is : {g : Given} (pair : PairRead g) → read_pair g ≡ read (pair_of pair.cells pair.statements)
unfolding read_pair ◌>>=◌
pair_is pair = rw (pair.cells_read, pair.statements_read)

-- ---- the analysis

-- What was concluded from cells and statements.
abbrev pub concluded : List Cell → List Statement → Accepted
concluded cells ss =
    record { cells = cells; statements = ss; analysis = analysed cells ss; report = reports cells ss }

pub concludes : (cells : List Cell) (ss : List Statement) (space : ℕ) (a : Accepted) → conclude cells ss space ≡ read a
    → (concluded cells ss ≡ a) × (length (reports cells ss) ≤ space)
unfolding conclude
concludes cells ss space a e =
    then-read (weigh 0 _) (read (concluded cells ss)) a
    (λ u p q. (cc, ltb-false space (length (reports cells ss)) (weigh-one No.report_long 0 _ [] u p).0)) e

pub record Accepts (g : Given) (space : ℕ) (a : Accepted) : Type 0 where
  pub cells : library g.library ≡ read a.cells
  pub statements : g.statements a.cells ≡ read a.statements
  pub made : concluded a.cells a.statements ≡ a
  pub fits : length a.report ≤ space

pub accepts : (g : Given) (m : Lent) (a : Accepted) → outcome g m ≡ read a → Accepts g (length m.report) a
unfolding outcome reading
accepts g m a r =
    then-read (entry g m) _ a
    (λ u e r₁. bind_read (read_pair g) _ a
    (λ p q r₂.
    let h = read_as g p q in
    let same = concludes p.cells p.statements (length m.report) a r₂ in
    subst (Accepts g (length m.report)) same.0 (record { cells = h.cells; statements = h.statements; made = refl; fits = same.1 })) r₁) r
