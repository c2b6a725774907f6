-- Pads on tables that hold accepted cells and statements.
use Rattle.common_laws.proofs.Base.{true, false, true≢false, List, [], ◌∷◌, ◌++◌, append-nil, some, ◌≡◌, refl, sym, ◌∙◌, ap, ℕ, suc, ◌≤◌, ◌<◌, arith, lt-ltb, le-ltb, not-true}
use Rattle.common_laws.proofs.Base.{not-false, eqb, ltb, length, get_or, take, drop, length-take, length-drop, take-suc, take-take, drop-cons, get_or-take, length-take-le}
use lib.ListN.{take-append-drop}
use Rattle.sizes.specs.Sizes as Size
use Rattle.reading.specs.Choice.{pick}
use Rattle.reading.specs.Numbers as No
use Rattle.reading.specs.Refusal.{refused, read, weigh}
use Rattle.reading.proofs.Laws.{by_test, refused-read}
use Rattle.library_table.specs.Cells.{Cell}
use Rattle.library_table.specs.Layout.{LibraryHolds}
use Rattle.library_table.proofs.Laws.{sound-fits}
use Rattle.netlist_table.specs.Netlist.{Statement, mark, output, mentioned, is_output}
use Rattle.netlist_table.specs.Layout.{netlist_words, NetlistHolds}
use Rattle.netlist_table.specs.Lines.{mention_at}
use Rattle.netlist_table.specs.Sound.{InRange}
use Rattle.netlist_table.specs.Admission.{extended, words_after, Decided}
use Rattle.netlist_table.proofs.Laws.{mentioned-in-range}
use Rattle.netlist_table.proofs.Pad.{pad-admitted, pad-refused, pad-sound}
use Rattle.netlist_table.proofs.HeldLines.{mention_held}
use Rattle.calculation.specs.Pads.{padded, takes_none, placeable}
use Rattle.calculation.proofs.Pads.{padded-more, placeable-append, placeable-more}
use Rattle.calculation.specs.Stored.{Holds}
use Rattle.standing_table.specs.Held.{foreign}
use Rattle.standing_table.specs.Parts.{PadTried, PadsTried, PadsJudged}
use Rattle.standing_table.specs.StandingTable.{pads_held, state_held}

-- ---- one pad

module _ (library netlist : List ℕ) (cells : List Cell) (ss : List Statement) (h : Holds library netlist cells ss) where
  pub library-holds : LibraryHolds library cells
  library-holds = record { past = h.behind; words = h.cells_stand; fits = sound-fits cells h.sound.library }

  abbrev pub netlist-holds : NetlistHolds netlist ss
  netlist-holds = record { past = h.past; words = h.statements_stand }

  module _ (l : ℕ) where
    unmentioned : mentioned l ss ≡ false → PadTried library cells ss l netlist false
    unfolding takes_none
    unmentioned e = record { answers = rw e; holds = λ t. absurd (true≢false (sym t)) }

    -- No line outside 1 to 1,000 is mentioned.
    pub tried-outside : (InRange l → ⊥) → PadTried library cells ss l netlist false
    tried-outside out =
        by_test (mentioned l ss) (λ t. absurd (out (mentioned-in-range cells ss h.sound.netlist l t))) (λ t. unmentioned t)

    module _ (range : InRange l) where
      mention_is : mention_at netlist l ≡ mentioned l ss
      unfolding InRange
      mention_is = rw h.statements_stand (mention_held ss h.past l range.0 range.1)

      pub tried-unmentioned : mention_at netlist l ≡ false → PadTried library cells ss l netlist false
      tried-unmentioned e = unmentioned (sym mention_is ∙ e)

      module _ (said : mentioned l ss ≡ true) (number : ℕ) (after : List ℕ)
          (d : Decided cells ss (some (mark output l)) h.past number after) where
        taken : is_output l ss ≡ true → PadTried library cells ss l after (eqb number 0)
        unfolding takes_none
        taken t =
            let e : number ≡ No.marked_before = d.answers ∙ pad-refused ss l cells range t in
            rw e (record { answers = rw (said, t); holds = λ z. absurd (true≢false (sym z)) })

        free : is_output l ss ≡ false → PadTried library cells ss l after (eqb number 0)
        unfolding takes_none words_after extended pick
        free t =
            let e : number ≡ 0 = d.answers ∙ pad-admitted ss l cells range t in
            let w : after ≡ netlist_words (ss ++ (mark output l ∷ [])) ++ h.past = rw e at d.leaves in
            rw e
            (record {
              answers = rw (said, t);
              holds =
                  λ z.
                  record {
                    behind = h.behind;
                    past = h.past;
                    cells_stand = h.cells_stand;
                    statements_stand = w;
                    sound = record { library = h.sound.library; netlist = pad-sound ss l cells h.sound.netlist said t };
                  };
            })

        tried_by : PadTried library cells ss l after (eqb number 0)
        tried_by = by_test (is_output l ss) (λ t. taken t) (λ t. free t)

      pub tried : mention_at netlist l ≡ true → (number : ℕ) (after : List ℕ)
          → Decided cells ss (some (mark output l)) h.past number after → PadTried library cells ss l after (eqb number 0)
      tried e number after d = tried_by (sym mention_is ∙ e) number after d

-- ---- pads one after the other

module _ (library : List ℕ) (cells : List Cell) (ss : List Statement) where
  pub tried-none : (netlist : List ℕ) → Holds library netlist cells ss → PadsTried library cells ss [] netlist true
  unfolding placeable padded
  tried-none netlist h = record { answers = refl; holds = λ t. rw append-nil h }

  module _ (pads : List ℕ) (i : ℕ) (more : i < length pads) (netlist netlist' : List ℕ)
      (so_far : PadsTried library cells ss (take i pads) netlist true) where
    pub tried-next : PadTried library cells (padded ss (take i pads)) (get_or pads i 0) netlist' true
        → PadsTried library cells ss (take (suc i) pads) netlist' true
    tried-next p =
        rw (take-suc pads i 0)
        (record {
          answers = sym (placeable-more ss (take i pads) (get_or pads i 0) (sym so_far.answers) (not-true _ (sym p.answers)));
          holds = λ t. rw (padded-more ss (take i pads) (get_or pads i 0)) (p.holds t);
        })

    pub tried-stopped : (n : ℕ) → i < n → n ≤ length pads → PadTried library cells (padded ss (take i pads)) (get_or pads i 0) netlist' false
        → PadsTried library cells ss (take n pads) netlist' false
    unfolding placeable
    tried-stopped n below fits p =
        let long : i < length (take n pads) = omega (arith, length-take-le n pads fits) in
        let parts : take n pads ≡ take i pads ++ (get_or pads i 0 ∷ drop (suc i) (take n pads)) =
        sym (take-append-drop i (take n pads))
        ∙ rw (take-take i n pads (omega arith), drop-cons (take n pads) i 0 long, get_or-take n pads i 0 below)
        in
        record {
          answers =
              sym
              (ap (placeable ss) parts
              ∙ placeable-append ss (take i pads) (get_or pads i 0 ∷ drop (suc i) (take n pads))
              ∙ rw (sym so_far.answers, not-false (takes_none (padded ss (take i pads)) (get_or pads i 0)) (sym p.answers)));
          holds = λ t. absurd (true≢false (sym t));
        }

-- ---- the pads of a standing table

module _ (library : List ℕ) (cells : List Cell) (ss : List Statement) (table netlist' : List ℕ) (long : Size.standing ≤ length table) where
  pub judged-many : Size.pads < get_or table 0 0 → PadsJudged library cells ss table netlist' (refused No.unpaddable 0)
  unfolding foreign state_held pads_held weigh pick
  judged-many many =
      let n : Size.pads < length (take (get_or table 0 0) (drop Size.pads_at table)) = simp (length-take, length-drop) (omega arith) in
      record { answers = rw (lt-ltb Size.pads (length (take (get_or table 0 0) (drop Size.pads_at table))) n); holds = λ z. refused-read z }

  module _ (few : get_or table 0 0 ≤ Size.pads) where
    few-held : ltb Size.pads (length (take (get_or table 0 0) (drop Size.pads_at table))) ≡ false
    few-held =
        let n : length (take (get_or table 0 0) (drop Size.pads_at table)) ≤ Size.pads = simp (length-take, length-drop) (omega arith) in
        le-ltb Size.pads (length (take (get_or table 0 0) (drop Size.pads_at table))) n

    pub judged-marked : PadsTried library cells ss (take (get_or table 0 0) (drop Size.pads_at table)) netlist' true
        → PadsJudged library cells ss table netlist' (read tt)
    unfolding foreign state_held pads_held weigh pick
    judged-marked p = record { answers = rw (few-held, ← p.answers); holds = λ z. p.holds refl }

    pub judged-refused : PadsTried library cells ss (take (get_or table 0 0) (drop Size.pads_at table)) netlist' false
        → PadsJudged library cells ss table netlist' (refused No.unpaddable 0)
    unfolding foreign state_held pads_held weigh pick
    judged-refused p = record { answers = rw (few-held, ← p.answers); holds = λ z. refused-read z }
