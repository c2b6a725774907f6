-- A standing analysis in its table: what the calls come to of it, and what its numbers mean.
use Rattle.common_laws.proofs.Base.{false, List, ◌++◌, ◌≡◌, sym, ap, subst, ◌∙◌, ℕ, ◌+◌, ◌≤◌, ◌<◌, arith, le-ltb, length, get_or, drop, length-append}
use Rattle.sizes.specs.Sizes as Size
use Rattle.reading.specs.Choice.{pick}
use Rattle.reading.specs.Refusal.{Read, read, ◌>>=◌, ◌>>◌, weigh}
use Rattle.cost.specs.Cost.{never}
use Rattle.plans.proofs.Laws.{at_getD}
use Rattle.library_table.specs.Cells.{Cell}
use Rattle.library_table.proofs.Laws.{library-sound}
use Rattle.netlist_table.specs.Netlist.{Statement}
use Rattle.netlist_table.specs.Sound as N
use Rattle.calculation.specs.Prices.{prices_of}
use Rattle.calculation.specs.Nodes.{Kind, set, node}
use Rattle.calculation.specs.Acceptance.{BothSound}
use Rattle.calculation.specs.Calculation.{analysed}
use Rattle.calculation.specs.LinePlans.{Exact}
use Rattle.calculation.specs.Pads.{State, statements_of, Operation, checked}
use Rattle.calculation.specs.StandingAnalysis.{Standing}
use Rattle.calculation.proofs.Laws.{own-figures, exact, settled, numbers-length, entry-bounded, node-inside}
use Rattle.calculation.proofs.Pads.{pads-values}
use Rattle.calculation.proofs.StandingAnalysis.{pads-few}
use Rattle.demands.proofs.Numbers.{placed_purpose}
use Rattle.demands.specs.Demands.{Reported}
use Rattle.demands.specs.Outcome.{Given, read_pair}
use Rattle.sweep_reruns.specs.Kept.{held}
use Rattle.standing_table.specs.Held.{entered, foreign, held_by}
use Rattle.standing_calls.specs.Calls.{comes, table_short}
use Rattle.standing_calls.specs.Promise.{Meant}
use Rattle.standing_table.specs.StandingTable.{standing_words, analysis_held, state_held, StandsIn}
use Rattle.standing_table.proofs.StandingTable.{standing-length, numbers-part, pads-part, counts-part, number_at, held_same}

module _ {given : List Cell → Read (List Statement)} (s : State) (h : Standing given s) where
  pub numbers-size : length s.analysis.numbers ≡ Size.numbers
  numbers-size = rw h.numbers (numbers-length s.cells (statements_of s) h.sound (prices_of (statements_of s)) (own-figures h.sound))

  numbers-costs : (n : ℕ) → get_or s.analysis.numbers n 0 ≤ never
  numbers-costs n = rw h.numbers (entry-bounded s.cells (statements_of s) h.sound (prices_of (statements_of s)) (own-figures h.sound) n)

  pub pads-most : length s.pads ≤ Size.pads
  pads-most = pads-few s.cells s.statements s.pads h.sound.netlist

  not-foreign : foreign s ≡ false
  unfolding foreign
  not-foreign = rw (le-ltb Size.pads (length s.pads) pads-most, h.pads)

  module _ (past : List ℕ) where
    abbrev table : List ℕ
    table = standing_words s.pads s.analysis ++ past

    analysis-held : analysis_held table ≡ s.analysis
    unfolding analysis_held
    analysis-held =
        let e : held (drop Size.standing_numbers table) ≡ s.analysis.numbers =
        ap held (numbers-part s.pads s.analysis past) ∙ held_same s.analysis.numbers past numbers-size numbers-costs in
        let c = counts-part s.pads s.analysis past in
        λ i. record { numbers = e i; counts = c i }

    pub state-held : state_held s.cells s.statements table ≡ s
    unfolding state_held
    state-held =
        let p = pads-part s.pads s.analysis past pads-most in
        λ i. record { cells = s.cells; statements = s.statements; pads = p i; analysis = analysis-held i }

inside : {cells : List Cell} {ss : List Statement} → BothSound cells ss → (k : Kind) (l v : ℕ) → Reported (set l v)
    → node k (set l v) < length (analysed cells ss).numbers
inside {cells} {ss} sound k l v r =
    rw (numbers-length cells ss sound (prices_of ss) (own-figures sound)) (node-inside k (set l v) (placed_purpose (set l v) r))

module _ (g : Given) (table : List ℕ) (s : State) (h : StandsIn g table s) where
  abbrev stands : Standing g.statements s
  stands = h.standing

  pub table-long : table_short table ≡ false
  unfolding table_short
  table-long =
      le-ltb (length table) Size.standing
      (rw h.words (omega (arith, length-append (standing_words s.pads s.analysis) h.past, standing-length s.pads s.analysis h.past (numbers-size s stands))))

  pub held-standing : held_by g table ≡ read s
  unfolding held_by read_pair weigh pick ◌>>◌ ◌>>=◌
  held-standing =
      let e : state_held s.cells s.statements table ≡ s = rw h.words (state-held s stands h.past) in
      rw (h.cells_read, stands.was_read, e, not-foreign s stands)

  pub comes-standing : (o : Operation) → comes g false table o ≡ checked s o
  unfolding comes entered weigh pick ◌>>◌ ◌>>=◌
  comes-standing o = rw (held-standing, h.brief)

  -- Of what is given, whatever reads is sound: of a text and of records it is.
  pub means : ((cells : List Cell) (ss : List Statement) → g.statements cells ≡ read ss → N.Sound cells ss) → Meant s table
  means reads =
      let sound = stands.sound in
      let bare : BothSound s.cells s.statements =
      record { library = library-sound g.library s.cells h.cells_read; netlist = reads s.cells s.statements stands.was_read } in
      let figures = own-figures sound in
      let at : (i : ℕ) → i < Size.numbers → get_or table (Size.standing_numbers + i) 0 ≡ get_or (analysed s.cells (statements_of s)).numbers i 0 =
      λ i b. rw h.words (number_at s.pads s.analysis h.past (numbers-size s stands) i b) ∙ ap (λ (z : List ℕ). get_or z i 0) stands.numbers in
      record {
        settled = settled s.cells (statements_of s) sound (prices_of (statements_of s)) figures;
        numbers = at;
        exact =
            λ k p r.
            subst (λ (y : ℕ). Exact s.cells (statements_of s) k p y) (sym (at (node k p) (node-inside k p (placed_purpose p r))))
            (exact s.cells (statements_of s) sound (prices_of (statements_of s)) figures k p (placed_purpose p r));
        few = stands.few;
        values = λ k l v r.
            at (node k (set l v)) (node-inside k (set l v) (placed_purpose (set l v) r))
            ∙ sym (at_getD (analysed s.cells (statements_of s)).numbers (node k (set l v)) 0 (inside sound k l v r))
            ∙ pads-values s.cells s.statements s.pads bare stands.pads k l v r.2
            ∙ at_getD (analysed s.cells s.statements).numbers (node k (set l v)) 0 (inside bare k l v r);
      }
