-- The netlist under the cells of the new library, with the pads that stand: what a change comes to, whatever the numbers are.
use Rattle.common_laws.proofs.Base.{Bool, true, false, List, [], ◌∷◌, ◌++◌, ◌≡◌, refl, sym, ap, ◌∙◌, ℕ, le-ltb, length, drop}
use Rattle.sizes.specs.Sizes as Size
use Rattle.reading.specs.Choice.{pick}
use Rattle.reading.specs.Numbers as No
use Rattle.reading.specs.Refusal.{Read, refused, read, ◌>>=◌, weigh}
use Rattle.reading.proofs.Laws.{refused-read}
use Rattle.library_table.specs.Cells.{Cell}
use Rattle.netlist_table.specs.declared.Rules.TheVariants.{New}
use Rattle.netlist_table.specs.Netlist.{Statement, gates_of}
use Rattle.netlist_table.proofs.Reread.{text_rereadable}
use Rattle.calculation.specs.Calculation.{analysed}
use Rattle.calculation.specs.Runs.{lesser_runs}
use Rattle.calculation.specs.Growth.{grown}
use Rattle.calculation.specs.Pads.{padded, State, statements_of}
use Rattle.calculation.specs.StandingAnalysis.{begun_again}
use Rattle.calculation.specs.Stored.{Holds}
use Rattle.calculation.proofs.NewLibrary.{again_placeable, on_read, on-sound}
use Rattle.library_growth.specs.Held.{HoldsCells}
use Rattle.standing_table.specs.StandingTable.{standing_words, pads_held, state_held}
use Rattle.standing_table.specs.Held.{foreign}
use Rattle.standing_table.specs.Parts.{PadsJudged}
use Rattle.standing_change.specs.RunParts.{Stores, lesser_held, read_under, Again, ReadAgain}
use Rattle.standing_change.specs.Calls.{gone_on, Change, change_of, changed, answer_of, table_after}
use Rattle.standing_change.specs.Parts.{StateHeld, Changes}

-- One refusal, whatever was to be read.
pub stop : {A B : Type 0} {number line : ℕ} (m k : ℕ) → ◌≡◌ {A = Read A} (refused m k) (refused number line) → ◌≡◌ {A = Read B} (refused m k) (refused number line)
stop {number = number} {line = line} m k e =
    let a : m ≡ number = cc in
    let b : k ≡ line = cc in
    rw (a, b)

-- ---- what is answered and left, by what a change comes to

module _ (o : Read Change) (before : List ℕ) where
  pub changes-refused : (number line : ℕ) → o ≡ refused number line → Changes o before before (refused number line)
  unfolding answer_of table_after
  changes-refused number line e = record { answers = rw e; leaves = rw e }

  changes-read : (c : Change) → o ≡ read c → (after : List ℕ) → after ≡ standing_words c.state.pads c.state.analysis ++ drop Size.standing before
      → Changes o before after (read c.went_on)
  unfolding answer_of table_after
  changes-read c e after left = record { answers = rw e; leaves = rw e left }

module _ (net library netlist table : List ℕ) (s : State) (h : StateHeld net library netlist table s) (more : List ℕ) (cells : List Cell) (k : HoldsCells more cells) where
  abbrev o : Read Change
  o = changed s cells (read_under cells net)

  abbrev under : List Cell → Read (List Statement)
  under cs = read_under cs net

  -- The pads may be placed under the new library too.
  at_home : (ss : List Statement) → read_under cells net ≡ read ss → foreign (state_held cells ss table) ≡ false
  unfolding foreign state_held
  at_home ss e =
      rw (
        le-ltb Size.pads (length (pads_held table)) (rw h.pads at h.few),
        rw h.pads at (again_placeable under (text_rereadable New net) s h.reads h.places cells k.sound ss e),
      )

  -- What stands then, where the netlist under the new library reads as these statements.
  left_so : (ss : List Statement) (b : Bool) (state : State) (after : List ℕ) → read_under cells net ≡ read ss → change_of s cells ss ≡ record { went_on = b; state = state }
      → after ≡ standing_words state.pads state.analysis ++ drop Size.standing table → Changes o table after (read b)
  unfolding changed ◌>>=◌
  left_so ss b state after e c left = changes-read o table (record { went_on = b; state = state }) (rw e (ap read c)) after left

  came_refused : (n l : ℕ) → read_under cells net ≡ refused n l → o ≡ refused n l
  unfolding changed ◌>>=◌
  came_refused n l e = rw e

  -- ---- a library that has only grown

  module _ (g : grown s.cells cells ≡ true) where
    pub on-holds : Holds more netlist cells (statements_of s)
    on-holds =
        record {
          behind = k.past;
          past = h.holds.past;
          cells_stand = k.stand;
          statements_stand = h.holds.statements_stand;
          sound = on-sound under (text_rereadable New net) s h.reads h.places cells k.sound g;
        }

    went_on_lem : change_of s cells s.statements ≡ record { went_on = true; state = gone_on s cells }
    unfolding change_of pick
    went_on_lem = rw g

    pub gone : (after : List ℕ) → Stores (lesser_held cells (statements_of s) table) table after → Changes o table after (read true)
    gone after left =
        left_so s.statements true (gone_on s cells) after (on_read under (text_rereadable New net) s h.reads h.places cells k.sound g) went_on_lem
        (left ∙ words)
      where
        words : standing_words (pads_held table) (lesser_held cells (statements_of s) table) ++ drop Size.standing table
            ≡ standing_words (gone_on s cells).pads (gone_on s cells).analysis ++ drop Size.standing table
        words = unfold gone_on in
            (let p = h.pads in
            let a = h.analysis in
            λ i. standing_words (sym p i) (lesser_runs cells (gates_of (statements_of s)) (sym a i).numbers) ++ drop Size.standing table)

  -- ---- any other

  module _ (netlist' : List ℕ) where
    pub again_refused : (number line : ℕ) → ReadAgain net more cells table netlist' (refused number line) → Changes o table table (refused number line)
    again_refused number line r = by (read_under cells net) refl r
      where
        by : (x : Read (List Statement)) → read_under cells net ≡ x → Again x more cells table netlist' (refused number line) → Changes o table table (refused number line)
        by (refused n l) e q = changes-refused o table number line (came_refused n l e ∙ stop n l (sym q))
        by (read ss) e q = refused-read (q.answers ∙ free ss e)
          where
            free : (ss : List Statement) → read_under cells net ≡ read ss → weigh 0 ((No.unpaddable, foreign (state_held cells ss table)) ∷ []) ≡ read tt
            free ss e = unfold weigh pick in rw (at_home ss e)

    pub again_read : {B : Type 0} → ReadAgain net more cells table netlist' (read tt)
        → ((ss : List Statement) → read_under cells net ≡ read ss → Holds more netlist' cells (padded ss (pads_held table)) → B) → B
    again_read {B} r on = by (read_under cells net) refl r
      where
        by : (x : Read (List Statement)) → read_under cells net ≡ x → Again x more cells table netlist' (read tt) → B
        by (refused n l) e q = refused-read (sym q)
        by (read ss) e q = on ss e (unfold state_held in q.holds refl)

  module _ (g : grown s.cells cells ≡ false) where
    begun_again_lem : (ss : List Statement) → change_of s cells ss ≡ record { went_on = false; state = begun_again s cells ss }
    unfolding change_of pick
    begun_again_lem ss = rw g

    pub begun : (ss : List Statement) → read_under cells net ≡ read ss → (after : List ℕ) → Stores (analysed cells (padded ss (pads_held table))) table after → Changes o table after (read false)
    begun ss e after left = left_so ss false (begun_again s cells ss) after e (begun_again_lem ss) (left ∙ words)
      where
        words : standing_words (pads_held table) (analysed cells (padded ss (pads_held table))) ++ drop Size.standing table
            ≡ standing_words (begun_again s cells ss).pads (begun_again s cells ss).analysis ++ drop Size.standing table
        words = unfold begun_again in ap (λ (ls : List ℕ). standing_words ls (analysed cells (padded ss ls)) ++ drop Size.standing table) (sym h.pads)
