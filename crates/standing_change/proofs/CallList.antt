-- Every list of calls: by the promise of each.
use Rattle.common_laws.proofs.Base.{Bool, true, false, List, [], ◌∷◌, map, ◌≡◌, refl, sym, ap, subst, ◌∙◌, ℕ}
use Rattle.reading.specs.Choice.{pick}
use Rattle.reading.specs.Numbers as No
use Rattle.reading.specs.Refusal.{Read, refused, read, ◌>>◌, ◌>>=◌, weigh}
use Rattle.reading.proofs.Laws.{by_test, or_right}
use Rattle.library_table.specs.Cells.{Cell}
use Rattle.library_table.specs.Library.{library}
use Rattle.netlist_table.specs.Netlist.{Statement}
use Rattle.calculation.specs.Growth.{grown}
use Rattle.calculation.specs.Pads.{State, fresh, Operation, step, steps, AsNew}
use Rattle.calculation.specs.Pads as P
use Rattle.calculation.specs.StandingAnalysis.{react, reacts, changed_to}
use Rattle.calculation.proofs.Pads.{all-stand}
use Rattle.demands.specs.Outcome.{given_by, given_texts, text_long}
use Rattle.demands.proofs.Given.{texts-checked}
use Rattle.demands.proofs.Room.{pair-sound}
use Rattle.standing_table.specs.StandingTable.{StandsIn}
use Rattle.standing_calls.proofs.Meaning.{means}
use Rattle.standing_change.specs.Calls.{told}
use Rattle.standing_change.specs.Promise.{ChangePromised}
use Rattle.standing_change.specs.CallList.{Call, ask, commit, change, library_read, event_of, lent_next, Made, Made.none, Made.asked, Made.committed, Made.changed, under, PadCalls, CallsStand, PadsStand}

module _ (net : List ℕ) where
  -- One change.
  module _ (lib table after text : List ℕ) (said : Read Bool) (p : ChangePromised (given_texts lib net) (given_texts text net) table after said)
      (s : State) (h : StandsIn (given_texts lib net) table s) where
    abbrev then : State
    then = react (under net) s (event_of (change text))

    short : text_long net ≡ false
    unfolding given_by
    short = or_right (text_long lib) (text_long net) h.brief

    lent-old : (number line : ℕ) → said ≡ refused number line → lent_next said lib text ≡ lib
    unfolding lent_next
    lent-old number line e = rw e

    lent-new : (on : Bool) → said ≡ read on → lent_next said lib text ≡ text
    unfolding lent_next
    lent-new on e = rw e

    -- It was refused: the state is what it was.
    stays : (number line : ℕ) → told (given_texts text net) s ≡ refused number line → then ≡ s → StandsIn (given_texts (lent_next said lib text) net) after then
    stays number line e same =
        let r : said ≡ refused number line = p.tells s h ∙ e in
        rw (same, lent-old number line r, p.untouched number line r) h

    told-long : text_long text ≡ true → told (given_texts text net) s ≡ refused No.text_long 0
    unfolding told given_by weigh pick ◌>>◌
    told-long t = rw t

    then-long : text_long text ≡ true → then ≡ s
    unfolding event_of library_read weigh pick ◌>>◌ react
    then-long t = rw t

    module _ (t : text_long text ≡ false) where
      by_net : (more : List Cell) → library text ≡ read more → (r : Read (List Statement)) → under net more ≡ r → StandsIn (given_texts (lent_next said lib text) net) after then
      by_net more e (refused n l) u =
          stays n l
          (unfold told given_by weigh pick ◌>>◌ ◌>>=◌ in rw (t, short, e, u))
          (unfold event_of library_read weigh pick ◌>>◌ react changed_to in rw (t, e, u))
      by_net more e (read ss) u =
          let r : said ≡ read (grown s.cells more) = p.tells s h ∙ (unfold told given_by weigh pick ◌>>◌ ◌>>=◌ in rw (t, short, e, u)) in
          let same : then ≡ changed_to s more (read ss) = unfold event_of library_read weigh pick ◌>>◌ react in rw (t, e, u) in
          rw (same, lent-new (grown s.cells more) r)
          ((p.follows s h more (unfold given_by in rw (t, short)) (unfold given_by in e)).stands ss (unfold given_by in u))

      by_library : (r : Read (List Cell)) → library text ≡ r → StandsIn (given_texts (lent_next said lib text) net) after then
      by_library (refused n l) e =
          stays n l
          (unfold told given_by weigh pick ◌>>◌ ◌>>=◌ in rw (t, short, e))
          (unfold event_of library_read weigh pick ◌>>◌ react in rw (t, e))
      by_library (read more) e = by_net more e (under net more) refl

    change-stands : StandsIn (given_texts (lent_next said lib text) net) after then
    change-stands = by_test (text_long text) (λ t. stays No.text_long 0 (told-long t) (then-long t)) (λ t. by_library t (library text) refl)

  made-stands : {cs : List Call} {lib table lib' table' : List ℕ} → Made net cs lib table lib' table' → (s : State) → StandsIn (given_texts lib net) table s
      → StandsIn (given_texts lib' net) table' (reacts (under net) s (map event_of cs))
  unfolding reacts event_of react step
  made-stands none s h = h
  made-stands (asked l before after said p m) s h = made-stands m s h
  made-stands (committed l n said p m) s h = made-stands m (step s (P.commit l n)) (p.stands s h).1
  made-stands (changed text said p m) s h = made-stands m (react (under net) s (event_of (change text))) (change-stands _ _ _ text said p s h)

pub calls-stand : CallsStand
calls-stand lib net before report table report' said p pair a e cs lib' table' m =
    let h = made-stands net m (fresh pair.cells pair.statements) (p.stands pair a e) in
    record { stands = h; means = means (given_texts lib' net) table' _ h (texts-checked lib' net).sound }

-- ---- asks and commits alone

-- They are what `steps` makes of a state.
unfoldable operations : (cs : List Call) → PadCalls cs → List Operation
operations [] h = []
operations (ask l ∷ cs) h = P.ask l ∷ operations cs h
operations (commit l n ∷ cs) h = P.commit l n ∷ operations cs h
operations (change text ∷ cs) h = absurd h

steps-so : (net : List ℕ) (s : State) (cs : List Call) (h : PadCalls cs) → reacts (under net) s (map event_of cs) ≡ steps s (operations cs h)
unfolding reacts react event_of steps operations
steps-so net s [] h = refl
steps-so net s (ask l ∷ cs) h = steps-so net (step s (P.ask l)) cs h
steps-so net s (commit l n ∷ cs) h = steps-so net (step s (P.commit l n)) cs h
steps-so net s (change text ∷ cs) h = absurd h

lent_same : {net : List ℕ} {cs : List Call} {lib table lib' table' : List ℕ} → Made net cs lib table lib' table' → PadCalls cs → lib' ≡ lib
lent_same none h = refl
lent_same (asked l before after said p m) h = lent_same m h
lent_same (committed l n said p m) h = lent_same m h
lent_same (changed text said p m) h = absurd h

pub pads-stand : PadsStand
pads-stand lib net before report table report' said p pair a e cs h lib' table' m = (
  lent_same m h,
  subst AsNew (sym (steps-so net (fresh pair.cells pair.statements) cs h))
      (all-stand pair.cells pair.statements (pair-sound (given_texts lib net) (texts-checked lib net) pair) (operations cs h)),
)
