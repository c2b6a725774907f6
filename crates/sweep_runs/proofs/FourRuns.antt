-- The four runs at the tables of accepted cells and statements.
use Rattle.common_laws.proofs.Base.{Bool, List, [], ◌∷◌, ◌≡◌, refl, ap, ◌∙◌, ℕ, ◌+◌, ◌*◌, ◌≤◌, le_trans, arith, length, get_or, replicate}
use Rattle.sizes.specs.Sizes as Size
use Rattle.plans.specs.System.{Visit}
use Rattle.plans.specs.Sweep.{lower, Settles, Bounded}
use Rattle.plans.specs.Stages.{Stages, Stages.ended, Stages.stage}
use Rattle.plans.specs.Continued.{Under, all_by_lower}
use Rattle.plans.specs.Statements.{SettlesWithin}
use Rattle.plans.proofs.Laws.{settles_under, stages-append, lowered-stages, lowered_under}
use Rattle.library_table.specs.Cells.{Cell}
use Rattle.netlist_table.specs.Netlist.{Statement, gates_of}
use Rattle.netlist_table.specs.Gates.{LinesStand}
use Rattle.netlist_table.proofs.HeldGates.{lines-stand}
use Rattle.netlist_table.proofs.Places.{netlist-room}
use Rattle.calculation.specs.Prices.{prices_at}
use Rattle.calculation.specs.Nodes.{Kind, combinational, sequential, kind_number}
use Rattle.calculation.specs.Ways.{setting_visits, observing_visits}
use Rattle.calculation.specs.Calculation.{analysed_at, start_at, stages}
use Rattle.calculation.specs.Runs.{setting_stages, observing_stages}
use Rattle.calculation.specs.Settled.{in_order}
use Rattle.calculation.specs.declared.Counts.{Counts}
use Rattle.calculation.proofs.Laws.{end-figures, kind-small, start-bounded, within, settled-once, setting-within, observing-within}
use Rattle.sweep_groups.specs.Fits.{TablesFit}
use Rattle.sweep_groups.specs.Roles.{role_index}
use Rattle.sweep_groups.specs.declared.turns.Role.{Role}
use Rattle.sweep_groups.specs.declared.turns.Role.TheVariants.{Setting, Observing}
use Rattle.sweep_groups.proofs.Bridge.{tables_fit_lem}
use Rattle.sweep_links.specs.Lines.{LinkFits}
use Rattle.sweep_start.specs.Start.{lines_start}
use Rattle.sweep_start.proofs.StartLines.{laid-length}
use Rattle.sweep_turns.specs.Wakes.{NeedsByLine}
use Rattle.sweep_runs.specs.Fits.{FreshFits}
use Rattle.sweep_runs.specs.Order.{sweep_visits}
use Rattle.calculation.specs.Stored.{Holds, whole}
use Rattle.sweep_runs.specs.Runs.{Runs}
use Rattle.sweep_runs.specs.declared.Sweeps.{Sweeps}
use Rattle.sweep_runs.specs.Halves.{half_stages, HalfFits, Ran}
use Rattle.sweep_runs.proofs.Bridge.{setting-sweep, observing-sweep, start_is}
use Rattle.sweep_runs.proofs.Lines.{reads_needs, drives_needs}

-- Costs stay costs under numbers that are.
costs_stay : {xs ys : List ℕ} → Under ys xs → Bounded xs → Bounded ys
costs_stay u b n = le_trans (u.below n) (b n)

module _ {library netlist : List ℕ} {cells : List Cell} {ss : List Statement} (h : Holds library netlist cells ss) where
  abbrev gates : ℕ
  gates = length (gates_of ss)

  -- What a run leaves, from what stood there.
  abbrev Left : ℕ → ℕ → List ℕ → ℕ → List ℕ → Type 0
  Left role kind xs count ys = Settles lower (sweep_visits role kind library netlist) xs count ys

  pub fit : TablesFit library netlist
  fit = rw (h.cells_stand, h.statements_stand) (tables_fit_lem cells ss h.sound h.behind h.past)

  pub room : Size.netlist ≤ length netlist
  room = rw h.statements_stand (netlist-room ss h.past)

  starts : (high : Bool) → lines_start high netlist Size.lines 1 ≡ start_at (prices_at high ss) ss
  starts high = rw h.statements_stand (start_is cells ss h.sound h.behind h.past high)

  sets : (k : Kind) → sweep_visits 0 (kind_number k) library netlist ≡ setting_visits k cells (gates_of ss)
  sets k = rw (h.cells_stand, h.statements_stand) (setting-sweep cells ss h.sound h.behind h.past k)

  pub observes : (k : Kind) → sweep_visits 1 (kind_number k) library netlist ≡ observing_visits k cells (gates_of ss)
  observes k = rw (h.cells_stand, h.statements_stand) (observing-sweep cells ss h.sound h.behind h.past k)

  pub stands : LinesStand netlist (get_or netlist 0 0)
  stands = rw h.statements_stand (lines-stand h.sound.netlist h.past)

  pub link_fits : {links : List ℕ} → links ≡ replicate Size.links 0 → LinkFits library netlist links
  link_fits e = record { lines_stand = stands; tables_fit = fit; none = e }

  -- ---- each run ends, from whatever costs stand there

  fresh-fits : (role : ℕ) (k : Kind) {xs : List ℕ} → role ≤ 1 → NeedsByLine role (kind_number k) library netlist → length xs ≡ Size.numbers
      → Runs (sweep_visits role (kind_number k) library netlist) xs → FreshFits role (kind_number k) library netlist xs
  fresh-fits role k r needs n runs =
      record { links_fit = record { role_fits = r; kind_fits = kind-small k; tables_fit = fit; needs = needs }; size = n; runs = runs }

  -- The bound of a run is small, since there are few gates.
  runs_within : {vs : List Visit} {xs : List ℕ} (bound : ℕ) → bound ≤ 2 * gates + 1 → SettlesWithin lower vs xs bound bound → Runs vs xs
  runs_within bound b w = record { fuel = bound; bound = bound; within = w; small = omega (arith, h.sound.netlist.few) }

  pub set-fits : (k : Kind) {xs : List ℕ} → length xs ≡ Size.numbers → Bounded xs → FreshFits 0 (kind_number k) library netlist xs
  set-fits k {xs} n b =
      fresh-fits 0 k (omega arith) (rw (h.cells_stand, h.statements_stand) (reads_needs cells ss h.sound h.behind h.past k)) n
      (rw (sets k) (runs_within (2 * gates + 1) (omega arith) (setting-within cells ss h.sound k xs n b)))

  pub observe-fits : (k : Kind) {xs : List ℕ} → length xs ≡ Size.numbers → Bounded xs → FreshFits 1 (kind_number k) library netlist xs
  observe-fits k {xs} n b =
      fresh-fits 1 k (omega arith) (rw (h.cells_stand, h.statements_stand) (drives_needs cells ss h.sound h.behind h.past k)) n
      (rw (observes k) (runs_within (gates + 1) (omega arith) (observing-within cells ss h.sound k xs n b)))

  -- .. and so does the one after it
  module _ {xs ys : List ℕ} {count : ℕ} (n : length xs ≡ Size.numbers) (b : Bounded xs) where
    pub set_next : Left 0 0 xs count ys → FreshFits 0 1 library netlist ys
    set_next s = set-fits sequential ((settles_under s).long ∙ n) (costs_stay (settles_under s) b)

    pub observe-next : Left 1 0 xs count ys → FreshFits 1 1 library netlist ys
    observe-next s = observe-fits sequential ((settles_under s).long ∙ n) (costs_stay (settles_under s) b)

  -- ---- what the halves leave

  pub set-ran : {xs ys zs : List ℕ} {cc sc : ℕ} → Left 0 0 xs cc ys → Left 0 1 ys sc zs
      → Ran (setting_stages cells (gates_of ss)) xs (record { combinational = cc; sequential = sc }) zs
  set-ran s t = stage (rw (sets combinational) at s) (stage (rw (sets sequential) at t) (ended refl))

  pub observe-ran : {xs ys zs : List ℕ} {co so : ℕ} → Left 1 0 xs co ys → Left 1 1 ys so zs
      → Ran (observing_stages cells (gates_of ss)) xs (record { combinational = co; sequential = so }) zs
  observe-ran s t = stage (rw (observes combinational) at s) (stage (rw (observes sequential) at t) (ended refl))

  -- ---- the same by the role

  module _ {xs : List ℕ} (n : length xs ≡ Size.numbers) (b : Bounded xs) where
    pub half-first : (role : Role) → FreshFits (role_index role) 0 library netlist xs
    half-first Setting = set-fits combinational n b
    half-first Observing = observe-fits combinational n b

    pub half_next : (role : Role) {ys : List ℕ} {count : ℕ} → Left (role_index role) 0 xs count ys → FreshFits (role_index role) 1 library netlist ys
    half_next Setting s = set_next n b s
    half_next Observing s = observe-next n b s

  pub half-ran : (role : Role) {xs ys zs : List ℕ} {first second : ℕ} → Left (role_index role) 0 xs first ys → Left (role_index role) 1 ys second zs
      → Ran (half_stages role cells (gates_of ss)) xs (record { combinational = first; sequential = second }) zs
  half-ran Setting s t = set-ran s t
  half-ran Observing s t = observe-ran s t

  -- ---- .. and the one after the other

  module _ {x0 : List ℕ} (size : length x0 ≡ Size.numbers) (costs : Bounded x0) where
    pub half-fits : HalfFits library netlist x0
    half-fits = record { cells = cells; statements = ss; holds = h; size = size; costs = costs }

    module _ {x2 : List ℕ} {set : Sweeps} (first : Ran (setting_stages cells (gates_of ss)) x0 set x2) where
      under : Under x2 x0
      under = lowered_under (setting_stages cells (gates_of ss)) x0 x2 _ first

      pub next_fits : HalfFits library netlist x2
      next_fits =
          record { cells = cells; statements = ss; holds = h; size = under.long ∙ size; costs = costs_stay under costs }

      pub both-ran : {x4 : List ℕ} {observed : Sweeps} → Ran (observing_stages cells (gates_of ss)) x2 observed x4
          → Stages (all_by_lower (stages cells (gates_of ss))) x0 (set.combinational ∷ set.sequential ∷ observed.combinational ∷ observed.sequential ∷ []) x4
      both-ran {x4} second =
          stages-append (all_by_lower (setting_stages cells (gates_of ss))) (all_by_lower (observing_stages cells (gates_of ss))) x0 x2 x4 _ _ first second

  -- ---- from the start they come to the numbers of the calculation

  module _ (high : Bool) {x0 : List ℕ} (begun : x0 ≡ lines_start high netlist Size.lines 1) where
    at-start : x0 ≡ start_at (prices_at high ss) ss
    at-start = begun ∙ starts high

    pub start-size : length x0 ≡ Size.numbers
    start-size = ap length begun ∙ laid-length high netlist Size.lines 1

    pub start-costs : Bounded x0
    start-costs = rw at-start (start-bounded (prices_at high ss) ss (end-figures h.sound high))

    pub calculated : {x4 : List ℕ} (counts : Counts) → Stages (all_by_lower (stages cells (gates_of ss))) x0 (in_order counts) x4 → whole counts x4 ≡ analysed_at (prices_at high ss) cells ss
    calculated {x4} counts ran =
        let price = prices_at high ss in
        let figures = end-figures h.sound high in
        let all : Stages (stages cells (gates_of ss)) (start_at price ss) (in_order counts) x4 =
        lowered-stages (stages cells (gates_of ss)) (start_at price ss) x4 (in_order counts) (within cells ss h.sound price figures) (rw at-start at ran) in
        settled-once cells ss h.sound price figures (whole counts x4) all
