-- Reading the netlist again, reading the new library, and the call, from what their parts leave.
use Rattle.common_laws.proofs.Base.{Bool, true, false, not, ◌||◌, or-true, List, [], ◌++◌, ◌≡◌, refl, sym, ap, subst, ◌∙◌, ℕ, ◌≤◌, ◌<◌, arith, not-false, ltb-false, le-ltb, lt-ltb}
use Rattle.common_laws.proofs.Base.{ltb, length, get_or, drop, length-append, length-drop}
use Rattle.sizes.specs.Sizes as Size
use Rattle.reading.specs.Choice.{pick}
use Rattle.reading.specs.Numbers as No
use Rattle.reading.specs.Refusal.{Read, refused, read, ◌>>=◌, ◌>>◌, weigh}
use Rattle.reading.specs.Answer.{answer_read, done_read}
use Rattle.reading.specs.declared.Refusal.{Refusal}
use Rattle.std.specs.Prelude.{Result, Ok, Err}
use Rattle.reading.proofs.Laws.{or_left, or_right, weigh-one, refused-read, bind_read, then-read, done_read_lem, done_refused}
use Rattle.library_table.specs.Cells.{Cell}
use Rattle.library_table.specs.Library.{library}
use Rattle.library_table.specs.Layout.{library_words}
use Rattle.library_table.proofs.Laws.{library-sound}
use Rattle.netlist_table.specs.declared.Rules.TheVariants.{New}
use Rattle.netlist_table.specs.Layout.{netlist_words}
use Rattle.netlist_table.proofs.Places.{length-netlist_words}
use Rattle.netlist_table.proofs.Reread.{text_rereadable}
use Rattle.calculation.specs.Growth.{grown}
use Rattle.calculation.specs.Pads.{padded, State, statements_of, placeable}
use Rattle.calculation.specs.Stored.{Holds, Ready}
use Rattle.library_growth.specs.Held.{HoldsCells}
use Rattle.demands.specs.Outcome.{Given, Pair, read_pair, given_by, given_texts, text_long}
use Rattle.demands.proofs.Acceptance.{read_as}
use Rattle.standing_table.specs.StandingTable.{pads_held, state_held}
use Rattle.standing_table.specs.Held.{entered, foreign, held_by}
use Rattle.standing_calls.specs.Calls.{table_short}
use Rattle.standing_table.specs.Parts.{HeldRead}
use Rattle.standing_table.proofs.TextsLaws.{done_both}
use Rattle.standing_change.specs.RunParts.{read_under, AgainFits, ReadAgain}
use Rattle.standing_change.proofs.RunsLaws.{count-few}
use Rattle.standing_change.specs.Calls.{Change, changed, changed_by, comes}
use Rattle.standing_change.specs.Parts.{StateHeld, SomeState, Changes}
use Rattle.standing_change.specs.Promise.{ChangePromised}
use Rattle.standing_change.proofs.Promise.{promised}
use Rattle.standing_change.proofs.NewNetlist.{stop, changes-refused, on-holds, again_read}

-- ---- the netlist again

-- The old cells in their table.
pub some_cells : (net library netlist table : List ℕ) (s : State) → StateHeld net library netlist table s → HoldsCells library s.cells
some_cells net library netlist table s h =
    record { past = h.holds.behind; stand = h.holds.cells_stand; sound = h.holds.sound.library }

-- What the runs ask: the tables hold cells and statements, there is room, and the pads are few.
module _ (net library netlist table : List ℕ) (s : State) (h : StateHeld net library netlist table s) (more : List ℕ) (cells : List Cell) (k : HoldsCells more cells) where
  few-counted : Size.standing ≤ length table → get_or table 0 0 ≤ Size.pads
  few-counted long = count-few table long (rw h.pads at h.few)

  room : Size.standing ≤ length table → Size.numbers ≤ length (drop Size.standing_numbers table)
  room long = omega (arith, long, length-drop Size.standing_numbers table)

  pub on-ready : Size.standing ≤ length table → grown s.cells cells ≡ true → Ready more netlist (drop Size.standing_numbers table) × (get_or table 0 0 ≤ Size.pads)
  on-ready long g = (
    record { cells = cells; statements = statements_of s; holds = on-holds net library netlist table s h more cells k g; room = room long },
    few-counted long,
  )

  pub again_ready : (netlist' : List ℕ) → Size.standing ≤ length table → ReadAgain net more cells table netlist' (read tt)
      → Ready more netlist' (drop Size.standing_numbers table) × (get_or table 0 0 ≤ Size.pads)
  again_ready netlist' long r =
      again_read net library netlist table s h more cells k netlist' r
      (λ ss e holds. (record { cells = cells; statements = padded ss (pads_held table); holds = holds; room = room long }, few-counted long))

pub again_fits : (net library netlist table : List ℕ) → SomeState net library netlist table → AgainFits net netlist table
again_fits net library netlist table s =
    let h = s.is.holds in
    record {
      brief = s.brief;
      wide = omega (arith, ap length h.statements_stand, length-append (netlist_words (statements_of s.state)) h.past, length-netlist_words (statements_of s.state));
      long = s.long;
    }

-- ---- the new library

module _ (new net zeros more' : List ℕ) (v : Result (Unit {0}) Refusal) (answered : answer_read v ≡ done_read (library new))
    (filled : (cells : List Cell) → library new ≡ read cells → more' ≡ library_words cells ++ drop Size.library zeros) where
  pub new-refused : (s : State) (table : List ℕ) (r : Refusal) → v ≡ Err r → Changes (changed_by (given_texts new net) s) table table (refused r.number r.line)
  new-refused s table r e =
      let n = done_refused (library new) r.number r.line (unfold answer_read in rw e at answered) in
      changes-refused _ table r.number r.line (unfold changed_by given_by ◌>>=◌ in rw n)

  pub new-read : {B : Type 0} → v ≡ (Ok tt) → ((cells : List Cell) → library new ≡ read cells → HoldsCells more' cells → B) → B
  new-read e on =
      done_read_lem (library new) (unfold answer_read in rw e at answered)
      (λ cells n. on cells n (record { past = drop Size.library zeros; stand = filled cells n; sound = library-sound new cells n }))

  pub new-changed : (s : State) (table after : List ℕ) (said : Read Bool) (cells : List Cell) → library new ≡ read cells
      → Changes (changed s cells (read_under cells net)) table after said → Changes (changed_by (given_texts new net) s) table after said
  unfolding changed_by given_by ◌>>=◌
  new-changed s table after said cells n c = rw n c

-- ---- the call

or_again : (a b : Bool) → ((a || b) || (false || b)) ≡ (a || b)
or_again true b = refl
or_again false true = refl
or_again false false = refl

module _ (lib new net table : List ℕ) where
  abbrev g : Given
  g = given_texts lib net

  abbrev h : Given
  h = given_texts new net

  promises : (after : List ℕ) (said : Read Bool) → Changes (comes g h table) table after said → ChangePromised g h table after said
  promises after said c = promised g h (unfold given_by in refl) (unfold given_by in text_rereadable New net) table after said c.answers c.leaves

  stops : (number line : ℕ) → comes g h table ≡ refused number line → ChangePromised g h table table (refused number line)
  stops number line e = promises table (refused number line) (changes-refused (comes g h table) table number line e)

  pub change-short : length table < Size.standing → ChangePromised g h table table (refused No.table_short 0)
  change-short l = stops No.table_short 0 (unfold comes table_short weigh pick ◌>>◌ in rw (lt-ltb (length table) Size.standing l))

  module _ (fits : Size.standing ≤ length table) where
    long : table_short table ≡ false
    unfolding table_short
    long = le-ltb (length table) Size.standing fits

    pub change-long : Size.text_bytes < length new → ChangePromised g h table table (refused No.text_long 0)
    change-long l = stops No.text_long 0 came
      where
        came : comes g h table ≡ refused No.text_long 0
        came = unfold comes given_by text_long weigh pick ◌>>◌ in
            rw (long, lt-ltb Size.text_bytes (length new) l, or-true (ltb Size.text_bytes (length lib) || ltb Size.text_bytes (length net)))

    module _ (brief : length new ≤ Size.text_bytes) (library' netlist' : List ℕ) where
      -- What is left of the entry: the texts that are read as a standing analysis.
      comes-held : comes g h table ≡ (entered false g >> (held_by g table >>= λ s. changed_by h s))
      unfolding comes entered given_by weigh pick
      comes-held =
          let short : text_long new ≡ false = unfold text_long in le-ltb Size.text_bytes (length new) brief in
          rw (long, short, or_again (text_long lib) (text_long net))

      pub held-stopped : (number line : ℕ) → HeldRead g table library' netlist' (refused number line) → ChangePromised g h table table (refused number line)
      held-stopped number line r =
          stops number line (comes-held ∙ by (entered false g) (held_by g table) (done_refused (entered false g >> held_by g table) number line r.answers))
        where
          by : (x : Read (Unit {0})) (y : Read State) → (x >> y) ≡ refused number line → (x >> (y >>= λ s. changed_by h s)) ≡ refused number line
          by (refused m k) y z = unfold ◌>>◌ in stop m k z
          by (read u) (refused m k) z = unfold ◌>>◌ ◌>>=◌ in stop m k z
          by (read u) (read s) z = unfold ◌>>◌ in refused-read (sym z)

      held-state : (s : State) → held_by g table ≡ read s → Holds library' netlist' s.cells (statements_of s) → StateHeld net library' netlist' table s
      unfolding held_by
      held-state s e holds =
          bind_read (read_pair g) _ s
          (λ p q r.
          then-read (weigh 0 _) _ s
          (λ u w z.
          let is : state_held p.cells p.statements table ≡ s = cc in
          let f : foreign (state_held p.cells p.statements table) ≡ false = (weigh-one No.unpaddable 0 _ [] u w).0 in
          subst (StateHeld net library' netlist' table) is (of p (read_as g p q).statements f (rw (← is) at holds))) r) e
        where
          of : (p : Pair) → g.statements p.cells ≡ read p.statements → foreign (state_held p.cells p.statements table) ≡ false
              → Holds library' netlist' (state_held p.cells p.statements table).cells (statements_of (state_held p.cells p.statements table))
              → StateHeld net library' netlist' table (state_held p.cells p.statements table)
          of p q f holds = unfold state_held foreign given_by in
              (let many = ltb Size.pads (length (pads_held table)) in
              let placing = placeable p.statements (pads_held table) in
              record {
                reads = q;
                places = not-false placing (or_right many (not placing) f);
                few = ltb-false Size.pads (length (pads_held table)) (or_left many (not placing) f);
                pads = refl;
                analysis = refl;
                holds = holds;
              })

      net-brief : entered false g ≡ read tt → length net ≤ Size.text_bytes
      unfolding entered given_by text_long
      net-brief e =
          ltb-false Size.text_bytes (length net)
          (or_right (ltb Size.text_bytes (length lib)) (ltb Size.text_bytes (length net)) (weigh-one No.text_long 0 _ [] tt (weigh-one No.table_short 0 false _ tt e).1).0)

      module _ (r : HeldRead g table library' netlist' (read tt)) where
        pub some-state : SomeState net library' netlist' table
        some-state =
            done_both (entered false g) (held_by g table) r.answers
            (λ s e q. record { state = s; is = held-state s q (r.holds s refl q); brief = net-brief e; long = fits })

        pub held-changed : (after : List ℕ) (said : Read Bool)
            → ((s : State) → StateHeld net library' netlist' table s → Changes (changed_by h s) table after said) → ChangePromised g h table after said
        held-changed after said on =
            done_both (entered false g) (held_by g table) r.answers
            (λ s e q. promises after said (subst (λ (o : Read Change). Changes o table after said) (sym (comes-held ∙ behind s e q)) (on s (held-state s q (r.holds s refl q)))))
          where
            behind : (s : State) → entered false g ≡ read tt → held_by g table ≡ read s → (entered false g >> (held_by g table >>= λ x. changed_by h x)) ≡ changed_by h s
            behind s e q = unfold ◌>>◌ ◌>>=◌ in rw (e, q)
