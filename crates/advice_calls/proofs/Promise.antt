-- From the parts of the two calls to their promises.
use Rattle.common_laws.proofs.Base.{true, false, List, [], ◌∷◌, ◌++◌, ◌≡◌, refl, sym, ◌∙◌, ap, subst, ℕ, ◌+◌, ◌*◌, ◌-◌, ◌≤◌, ◌<◌, arith, length, get_or, set, drop, get_or-set_same}
use Rattle.common_laws.proofs.Base.{get_or-set_other}
use Rattle.sizes.specs.Sizes as Size
use Rattle.reading.specs.Choice.{pick}
use Rattle.reading.specs.Numbers as No
use Rattle.reading.specs.Refusal.{Read, refused, read, ◌>>=◌, ◌>>◌, weigh}
use Rattle.reading.specs.Answer.{answer_read}
use Rattle.reading.specs.declared.Refusal.{Refusal}
use Rattle.std.specs.Prelude.{Result, Ok, Err}
use Rattle.reading.proofs.Laws.{clash, bind_read, then-read}
use Rattle.cost.specs.Cost.{never}
use Rattle.library_table.specs.Cells.{Cell}
use Rattle.netlist_table.specs.Netlist.{Statement}
use Rattle.netlist_table.specs.Sound.{InRange}
use Rattle.netlist_table.proofs.Laws.{mentioned-in-range}
use Rattle.calculation.specs.declared.Advice.{Advice}
use Rattle.std.specs.Prelude.{Option, Some, None}
use Rattle.calculation.specs.Acceptance.{BothSound}
use Rattle.calculation.specs.Stored.{Holds}
use Rattle.calculation.specs.Advice.{pad, allowed, allowed_lines, leaves, advice, Rank, rank_of, rank_words, no_rank, line_rank, ranks, Says, Best}
use Rattle.calculation.proofs.AdvisedLine.{allowed-said, leaves-exact, advice_says, same-advice, same-ranks, none-pad}
use Rattle.demands.specs.Call.{Call, comes, answered, left, Kept, answer_entry, answer_call}
use Rattle.demands.specs.Outcome.{Given, Pair, entry, read_pair, reading, outcome}
use Rattle.demands.specs.Own.{own_tables}
use Rattle.demands.proofs.Call.{at-entry, at-end, come-to, refused-where, was_read_lem, entry-short, entry-texts, promises, promises-on, pair_read}
use Rattle.demands.proofs.EntryChecks.{own-fit}
use Rattle.demands.proofs.Given.{Checked}
use Rattle.advice_calls.specs.Calls.{advice_size, advice_into, advice_call, rank_call}
use Rattle.advice_calls.specs.Parts.{Holding, AllRanked}
use Rattle.advice_calls.specs.Texts.{texts_call, TextsRead}
use Rattle.advice_calls.specs.Promise.{HandedOn, AdviceMeans, AdvicePromised, rank_at, RanksMean, RankPromised}
use Rattle.advice_calls.proofs.LinesLaws.{allowed-few}
use Rattle.advice_calls.proofs.Ranks.{four, rank-at, rank-past}

pad-same : (k y l x : ℕ) → ◌≡◌ {A = Read (Option Advice)} (read (pad k y)) (read (pad l x)) → (k ≡ l) × (y ≡ x)
pad-same k y l x e =
    let r : ◌≡◌ {A = Advice} (record { line = k; largest = y }) (record { line = l; largest = x }) = cc in
    (ap (λ (a : Advice). a.line) r, ap (λ (a : Advice). a.largest) r)

-- ---- refusals, of both calls

module _ {B : Type 0} (size : ℕ) (g : Given) (checked : Checked g) (before : List ℕ) (answer : Pair → B) (writes : Pair → List ℕ) (said : Read B)
    (answers : said ≡ answered (answer_call size g before answer writes)) where
  abbrev call : Call Pair B (List ℕ)
  call = answer_call size g before answer writes

  -- The first library, on tables of its own, weighs the texts alone; and so does an answer of its size.
  own-entry : (report : List ℕ) → size ≤ length before → entry g (own_tables report) ≡ answer_entry size g before
  own-entry report h = first ∙ sym (entry-texts size g before h)
    where
      first : entry g (own_tables report) ≡ weigh 0 ((No.text_long, g.long) ∷ [])
      first = unfold entry weigh pick in rw (own-fit report) refl

  pub handed-on : HandedOn size g call said
  unfolding answer_call outcome reading own_tables ◌>>◌ ◌>>=◌
  handed-on =
      record {
        short = λ h. answers ∙ (at-entry call No.table_short 0 (entry-short size g before h)).0;
        refusals = λ h number line e report.
            refused-where call number line (sym answers ∙ e)
            (λ p. rw (own-entry report h ∙ p) refl)
            (λ p r. rw (own-entry report h ∙ p, r) refl);
        was_read = λ x e. was_read_lem call x (sym answers ∙ e);
        accepts = λ h report a e.
            then-read (entry g (own_tables report)) (reading g (length report)) a
            (λ u p q.
            bind_read (read_pair g) _ a (λ x r t. (answer x, answers ∙ (at-end call x (come-to call x (sym (own-entry report h) ∙ p) r)).0)) q) e;
      }

-- ---- an accepted library and netlist

module _ (g : Given) (checked : Checked g) (forbidden before after : List ℕ) (said : Read (Option Advice))
    (answers : said ≡ answered (advice_call g forbidden before)) (leaving : after ≡ left (advice_call g forbidden before)) where
  abbrev found : Pair → Option Advice
  found p = advice p.cells p.statements forbidden

  abbrev laid : Pair → List ℕ
  laid p = advice_into (found p) before

  module _ (p : Pair) (here : comes (advice_call g forbidden before) ≡ read p) where
    came : (said ≡ read (found p)) × (after ≡ laid p)
    unfolding answer_call
    came = let e = at-end (advice_call g forbidden before) p here in (answers ∙ e.0, leaving ∙ e.1)

    room : 0 < length before
    room = (pair_read advice_size g checked before found laid p here).0

    sound : BothSound p.cells p.statements
    sound = (pair_read advice_size g checked before found laid p here).3

    means : AdviceMeans p forbidden before after said
    unfolding advice_into
    means = by (found p) refl (advice_says p.cells p.statements sound forbidden)
      where
        by : (a : Option Advice) → found p ≡ a → Says p.cells p.statements forbidden a → AdviceMeans p forbidden before after said
        by None e s =
            let told : said ≡ read None = came.0 ∙ ap read e in
            let stays : after ≡ before = came.1 ∙ ap (λ (a : Option Advice). advice_into a before) e in
            record {
              named = λ l x q. absurd (none-pad l x (sym told ∙ q));
              none = (λ q. s, λ q. told);
              none_leaves = λ q. stays;
              rest = λ i h. ap (λ (xs : List ℕ). get_or xs i 0) stays;
              same = λ others f. came.0 ∙ ap read (same-advice p.cells p.statements forbidden others f);
            }
        by (Some a) e s =
            let k = a.line in
            let y = a.largest in
            let told : said ≡ read (Some a) = came.0 ∙ ap read e in
            let stored : after ≡ set before 0 y = came.1 ∙ ap (λ (a : Option Advice). advice_into a before) e in
            record {
              named = λ l x q.
                  let is = pad-same k y l x (sym told ∙ q) in (
                    rw stored (get_or-set_same before 0 y 0 room) ∙ is.1,
                    subst (λ (m : ℕ). Best p.cells p.statements forbidden m x) is.0
                        (subst (λ (n : ℕ). Best p.cells p.statements forbidden k n) is.1 s),
                  );
              none = (λ q. absurd (none-pad k y (sym q ∙ told)), λ q. clash (allowed p.statements forbidden k) s.is_allowed (q k));
              none_leaves = λ q. absurd (none-pad k y (sym q ∙ told));
              rest = λ i h. rw stored (get_or-set_other before 0 i y 0 (λ z. omega arith));
              same = λ others f. came.0 ∙ ap read (same-advice p.cells p.statements forbidden others f);
            }

  on : HandedOn advice_size g (advice_call g forbidden before) said
  on = handed-on advice_size g checked before found laid said answers

  -- The line that is named is one of the 1,000.
  line_named : (l x : ℕ) → said ≡ read (pad l x) → (1 ≤ l) × (l ≤ Size.lines)
  unfolding InRange
  line_named l x e =
      let r = on.was_read (pad l x) e in
      let p = r.0 in
      let both = sound p r.1 in
      mentioned-in-range p.cells p.statements both.netlist l
      (allowed-said p.cells p.statements both forbidden l ((means p r.1).named l x e).1.is_allowed)

  pub advice-kept : AdvicePromised g forbidden before after said
  advice-kept = record { promises = promises advice_size g checked before found laid _ after said answers leaving means; handed_on = on; line = line_named }

-- ---- the ranks

module _ (cells : List Cell) (ss : List Statement) (forbidden : List ℕ) where
  module _ (after before : List ℕ) (lays : after ≡ ranks cells ss forbidden ++ drop Size.ranks before) where
    -- The four numbers of a line.
    row_at : (l : ℕ) → 1 ≤ l → l ≤ Size.lines → (r : Rank) → line_rank cells ss forbidden l ≡ rank_words r → rank_at after l ≡ r
    unfolding ranks rank_words
    row_at l low high r e =
        λ i. record {
          nevers = place 0 (omega arith) ((l - 1) * Size.rank_words) (omega arith) i;
          overs = place 1 (omega arith) ((l - 1) * Size.rank_words + 1) refl i;
          largest = place 2 (omega arith) ((l - 1) * Size.rank_words + 2) refl i;
          total = place 3 (omega arith) ((l - 1) * Size.rank_words + 3) refl i;
        }
      where
        place : (j : ℕ) → j < Size.rank_words → (n : ℕ) → n ≡ (l - 1) * Size.rank_words + j → get_or after n 0 ≡ get_or (rank_words r) j 0
        place j b n is =
            rw (is, lays)
            (rank-at (line_rank cells ss forbidden) (four cells ss forbidden) (drop Size.ranks before) l j low high b ∙ ap (λ (xs : List ℕ). get_or xs j 0) e)

    row_past : (i : ℕ) → Size.ranks ≤ i → get_or after i 0 ≡ get_or before i 0
    unfolding ranks
    row_past i h = rw lays (rank-past (line_rank cells ss forbidden) (four cells ss forbidden) before i h)

module _ (g : Given) (checked : Checked g) (forbidden before after : List ℕ) (said : Read ℕ)
    (answers : said ≡ answered (rank_call g forbidden before)) (leaving : after ≡ left (rank_call g forbidden before)) where
  abbrev counted : Pair → ℕ
  counted p = length (allowed_lines p.statements forbidden)

  abbrev ranked : Pair → List ℕ
  ranked p = ranks p.cells p.statements forbidden ++ drop Size.ranks before

  module _ (p : Pair) (here : comes (rank_call g forbidden before) ≡ read p) where
    abbrev cells : List Cell
    cells = p.cells

    abbrev ss : List Statement
    ss = p.statements

    all-came : (said ≡ read (counted p)) × (after ≡ ranked p)
    unfolding answer_call
    all-came = let e = at-end (rank_call g forbidden before) p here in (answers ∙ e.0, leaving ∙ e.1)

    both : BothSound cells ss
    both = (pair_read Size.ranks g checked before counted ranked p here).3

    ranks_mean : RanksMean p forbidden before after said
    unfolding line_rank no_rank rank_words pick InRange
    ranks_mean =
        record {
          ranked = λ l t.
              let r : InRange l = mentioned-in-range cells ss both.netlist l (allowed-said cells ss both forbidden l t) in (
                row_at cells ss forbidden after before all-came.1 l r.0 r.1 (rank_of (leaves cells ss l)) (rw t),
                leaves-exact cells ss both forbidden l t,
              );
          others = λ l low high t.
              row_at cells ss forbidden after before all-came.1 l low high (record { nevers = never; overs = never; largest = never; total = never }) (rw t);
          rest = λ i h. row_past cells ss forbidden after before all-came.1 i h;
          same = λ others f. sym (same-ranks cells ss forbidden others f);
        }

  all-on : HandedOn Size.ranks g (rank_call g forbidden before) said
  all-on = handed-on Size.ranks g checked before counted ranked said answers

  lines-few : (n : ℕ) → said ≡ read n → n ≤ Size.lines
  lines-few n e =
      let r = all-on.was_read n e in
      let q : counted r.0 ≡ n = cc (sym (all-came r.0 r.1).0 ∙ e) in
      omega (arith, allowed-few r.0.statements forbidden)

  pub ranks-kept : RankPromised g forbidden before after said
  ranks-kept = record { promises = promises Size.ranks g checked before counted ranked _ after said answers leaving ranks_mean; handed_on = all-on; few = lines-few }

-- ---- from what was read and what was made of it

module _ (size : ℕ) (g : Given) (checked : Checked g) (before : List ℕ) {library netlist mid : List ℕ} (v : Result (Unit {0}) Refusal)
    (t : TextsRead size g before library netlist mid (answer_read v)) where
  -- What was read, where the call goes on.
  pub record WasRead : Type 0 where
    pub pair : Pair
    pub comes_to : comes (texts_call size g before) ≡ read pair
    pub same : mid ≡ before
    pub holds : Holds library netlist pair.cells pair.statements

  pub went_on_lem : v ≡ (Ok tt) → WasRead
  unfolding answer_read answer_call
  went_on_lem e =
      let r = was_read_lem (texts_call size g before) tt (sym t.kept.answers ∙ ap answer_read e) in
      record {
        pair = r.0;
        comes_to = r.1;
        same = t.kept.leaves ∙ (at-end (texts_call size g before) r.0 r.1).1;
        holds = t.accepted r.0 r.1;
      }

  pub some-held : v ≡ (Ok tt) → Holding library netlist
  some-held e = let r = went_on_lem e in record { cells = r.pair.cells; statements = r.pair.statements; holds = r.holds }

  pub room-kept : v ≡ (Ok tt) → size ≤ length mid
  room-kept e = let r = went_on_lem e in rw r.same (pair_read size g checked before _ _ r.pair r.comes_to).0

  -- A refusal, whatever would have been made and written.
  refused-on : {B : Type 0} (answer : Pair → B) (writes : Pair → List ℕ) (x : Refusal) → v ≡ Err x
      → (refused x.number x.line ≡ answered (answer_call size g before answer writes)) × (mid ≡ left (answer_call size g before answer writes))
  unfolding answer_read
  refused-on answer writes x e =
      let k = promises-on size g checked before answer writes (λ p after said. Unit {0}) (λ p. tt) (λ p. before) mid x.number x.line
      (subst (λ (o : Read (Unit {0})). Kept (texts_call size g before) mid o) (ap answer_read e) t.kept) in
      (k.kept.answers, k.kept.leaves)

module _ (g : Given) (checked : Checked g) (forbidden before : List ℕ) {library netlist mid : List ℕ} (v : Result (Unit {0}) Refusal) where
  module _ (t : TextsRead advice_size g before library netlist mid (answer_read v)) where
    pub advice-refused : (x : Refusal) → v ≡ Err x → AdvicePromised g forbidden before mid (refused x.number x.line)
    advice-refused x e =
        let r = refused-on advice_size g checked before v t _ _ x e in
        advice-kept g checked forbidden before mid (refused x.number x.line) r.0 r.1

    pub advice-found : v ≡ (Ok tt) → (a : Option Advice) → ((cells : List Cell) (ss : List Statement) → Holds library netlist cells ss → a ≡ advice cells ss forbidden)
        → (after : List ℕ) → after ≡ advice_into a mid → AdvicePromised g forbidden before after (read a)
    unfolding answer_call comes
    advice-found e a is after wrote =
        let r = went_on_lem advice_size g checked before v t e in
        let s = at-end (advice_call g forbidden before) r.pair r.comes_to in
        let same = is r.pair.cells r.pair.statements r.holds in
        advice-kept g checked forbidden before after (read a) (ap read same ∙ sym s.0) (wrote ∙ (λ i. advice_into (same i) (r.same i)) ∙ sym s.1)

  module _ (t : TextsRead Size.ranks g before library netlist mid (answer_read v)) where
    pub ranks-refused : (x : Refusal) → v ≡ Err x → RankPromised g forbidden before mid (refused x.number x.line)
    ranks-refused x e =
        let r = refused-on Size.ranks g checked before v t _ _ x e in
        ranks-kept g checked forbidden before mid (refused x.number x.line) r.0 r.1

    pub ranks-made : v ≡ (Ok tt) → (n : ℕ) (after : List ℕ) → ((cells : List Cell) (ss : List Statement) → Holds library netlist cells ss → AllRanked cells ss forbidden mid after n)
        → RankPromised g forbidden before after (read n)
    unfolding answer_call comes
    ranks-made e n after is =
        let r = went_on_lem Size.ranks g checked before v t e in
        let s = at-end (rank_call g forbidden before) r.pair r.comes_to in
        let all = is r.pair.cells r.pair.statements r.holds in
        ranks-kept g checked forbidden before after (read n) (ap read all.counts ∙ sym s.0)
        (all.lays ∙ ap (λ (xs : List ℕ). ranks r.pair.cells r.pair.statements forbidden ++ drop Size.ranks xs) r.same ∙ sym s.1)
