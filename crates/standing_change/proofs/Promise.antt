-- What a change promises, from what it answers and leaves.
use Rattle.common_laws.proofs.Base.{Bool, true, false, ◌||◌, or-false, List, [], ◌∷◌, ◌++◌, ◌≡◌, refl, sym, ap, subst, ◌∙◌, ℕ, drop}
use Rattle.sizes.specs.Sizes as Size
use Rattle.reading.specs.Choice.{pick}
use Rattle.reading.specs.Numbers as No
use Rattle.reading.specs.Refusal.{Read, refused, read, ◌>>=◌, ◌>>◌, weigh}
use Rattle.reading.proofs.Laws.{by_test, refused-read, same-refusal}
use Rattle.library_table.specs.Cells.{Cell}
use Rattle.library_table.specs.Library.{library}
use Rattle.library_table.proofs.Laws.{library-sound}
use Rattle.netlist_table.specs.Netlist.{Statement}
use Rattle.netlist_table.specs.Reread.{ForCell, Rereadable}
use Rattle.calculation.specs.Growth.{grown}
use Rattle.calculation.specs.Pads.{State}
use Rattle.calculation.specs.StandingAnalysis.{Standing, went_on, begun_again, changed_to, Unmoved}
use Rattle.calculation.proofs.NewLibrary.{on_read, lesser-on, changed-standing, on-goes, same-library}
use Rattle.demands.specs.Outcome.{Given}
use Rattle.standing_table.specs.StandingTable.{standing_words, StandsIn}
use Rattle.standing_table.specs.Held.{held_by}
use Rattle.standing_calls.specs.Calls.{table_short}
use Rattle.standing_calls.proofs.Meaning.{table-long, held-standing, means}
use Rattle.standing_change.specs.Calls.{gone_on, Change, change_of, changed, changed_by, comes, answer_of, table_after, told}
use Rattle.standing_change.specs.Promise.{Follows, ChangePromised}

answer-refused : (o : Read Change) (number line : ℕ) → answer_of o ≡ refused number line → (before : List ℕ) → table_after o before ≡ before
unfolding answer_of table_after
answer-refused (refused n l) number line e before = refl
answer-refused (read c) number line e before = refused-read (sym e)

module _ (g h : Given) (same : h.statements ≡ g.statements) (again : Rereadable h.statements) (before after : List ℕ) (said : Read Bool)
    (answers : said ≡ answer_of (comes g h before)) (leaves : after ≡ table_after (comes g h before) before) where
  module _ (s : State) (stands : StandsIn g before s) where
    -- A standing analysis passes the entry, but for the new library's text, and the reading of what is lent.
    entry-so : weigh 0 ((No.table_short, table_short before) ∷ ((No.text_long, g.long || h.long) ∷ [])) ≡ weigh 0 ((No.text_long, h.long) ∷ [])
    unfolding weigh pick
    entry-so = rw (table-long g before s stands, stands.brief)

    held-so : (held_by g before >>= λ x. changed_by h x) ≡ changed_by h s
    unfolding ◌>>=◌
    held-so = rw (held-standing g before s stands)

    comes-so : comes g h before ≡ (weigh 0 ((No.text_long, h.long) ∷ []) >> changed_by h s)
    unfolding comes
    comes-so = rw (entry-so, held-so)

    tells : said ≡ told h s
    unfolding told
    tells = answers ∙ ap answer_of comes-so ∙ by (weigh 0 ((No.text_long, h.long) ∷ []))
      where
        by_statements : (more : List Cell) (r : Read (List Statement)) → answer_of (changed s more r) ≡ (r >>= λ ss. read (grown s.cells more))
        by_statements more (refused n l) = unfold changed answer_of ◌>>=◌ in refl
        by_statements more (read ss) = unfold changed change_of answer_of ◌>>=◌ in refl

        by_library : (r : Read (List Cell)) → answer_of (r >>= λ more. changed s more (h.statements more)) ≡ (r >>= λ more. h.statements more >>= λ ss. read (grown s.cells more))
        by_library (refused n l) = unfold answer_of ◌>>=◌ in refl
        by_library (read more) = unfold ◌>>=◌ in by_statements more (h.statements more)

        by : (e : Read (Unit {0})) → answer_of (e >> changed_by h s) ≡ (e >> (library h.library >>= λ more. h.statements more >>= λ ss. read (grown s.cells more)))
        by (refused n l) = unfold answer_of ◌>>◌ in refl
        by (read u) = unfold changed_by ◌>>◌ in by_library (library h.library)

    standing : Standing h.statements s
    standing = subst (λ (given : List Cell → Read (List Statement)). Standing given s) (sym same) stands.standing

    module _ (more : List Cell) (brief : h.long ≡ false) (cells_read : library h.library ≡ read more) where
      came : (ss : List Statement) → h.statements more ≡ read ss → comes g h before ≡ read (change_of s more ss)
      came ss e = comes-so ∙ unfold changed_by changed weigh pick ◌>>◌ ◌>>=◌ in rw (brief, cells_read, e)

      -- Where the sweeps go on, by keeping the lesser, they are those of the rule.
      pub gone-on : grown s.cells more ≡ true → gone_on s more ≡ went_on s more
      unfolding gone_on went_on
      gone-on t =
          let e = lesser-on h.statements again s standing more (library-sound h.library more cells_read) t in
          λ i. record { cells = more; statements = s.statements; pads = s.pads; analysis = e i }

      state-so : (ss : List Statement) → (change_of s more ss).state ≡ changed_to s more (read ss)
      unfolding change_of changed_to pick
      state-so ss = by_test (grown s.cells more) (λ t. rw t (gone-on t)) (λ t. rw t)

      left_so : (ss : List Statement) → h.statements more ≡ read ss
          → after ≡ standing_words (changed_to s more (read ss)).pads (changed_to s more (read ss)).analysis ++ drop Size.standing before
      left_so ss e =
          leaves
          ∙ ap (λ (o : Read Change). table_after o before) (came ss e)
          ∙ unfold table_after in ap (λ (x : State). standing_words x.pads x.analysis ++ drop Size.standing before) (state-so ss)

      cells_so : (ss : List Statement) → (changed_to s more (read ss)).cells ≡ more
      unfolding changed_to went_on begun_again pick
      cells_so ss = by_test (grown s.cells more) (λ t. rw t) (λ t. rw t)

      follows : Follows h s more after
      follows =
          record {
            stands =
                λ ss e.
                record {
                  past = drop Size.standing before;
                  words = left_so ss e;
                  brief = brief;
                  cells_read = cells_read ∙ ap read (sym (cells_so ss));
                  standing = changed-standing h.statements again s standing more (library-sound h.library more cells_read) (read ss) e;
                };
            goes =
                λ t. (
                  on_read h.statements again s standing.was_read standing.pads more (library-sound h.library more cells_read) t,
                  on-goes h.statements again s standing more (library-sound h.library more cells_read) t,
                );
          }

    for_cell_lem : (more : List Cell) → h.long ≡ false → library h.library ≡ read more → (number line : ℕ) → said ≡ refused number line → ForCell number
    for_cell_lem more brief cells_read number line r = by (h.statements more) refl
      where
        by : (o : Read (List Statement)) → h.statements more ≡ o → ForCell number
        by (refused n l) e =
            let z : said ≡ refused n l = tells ∙ unfold told weigh pick ◌>>◌ ◌>>=◌ in rw (brief, cells_read, e) in
            let same : n ≡ number = (same-refusal n l number line (sym z ∙ r)).0 in
            rw (← same) (again.refuses s.cells more s.statements standing.was_read n l e)
        by (read ss) e =
            let z : said ≡ read (grown s.cells more) = tells ∙ unfold told weigh pick ◌>>◌ ◌>>=◌ in rw (brief, cells_read, e) in
            refused-read (sym r ∙ z)

    -- The library that stands: the sweeps go on, and come to what is there.
    on-so : Unmoved s → changed_to s s.cells (read s.statements) ≡ went_on s s.cells
    unfolding changed_to pick
    on-so u = rw u.goes

    told-on : h.long ≡ false → library h.library ≡ read s.cells → Unmoved s → told h s ≡ read true
    unfolding told weigh pick ◌>>◌ ◌>>=◌
    told-on brief cells_read u = rw (brief, cells_read, standing.was_read, u.goes)

    unmoved : h.long ≡ false → library h.library ≡ read s.cells → (said ≡ read true) × StandsIn h after (went_on s s.cells) × Unmoved s
    unmoved brief cells_read =
        let u : Unmoved s = same-library h.statements again s standing in (
          tells ∙ told-on brief cells_read u,
          subst (StandsIn h after) (on-so u) ((follows s.cells brief cells_read).stands s.statements standing.was_read),
          u,
        )

  pub promised : ChangePromised g h before after said
  promised =
      record {
        answers = answers;
        leaves = leaves;
        untouched = λ number line e. leaves ∙ answer-refused (comes g h before) number line (sym answers ∙ e) before;
        tells = tells;
        follows = λ s stands more brief read-so. follows s stands more brief read-so;
        for_cell = for_cell_lem;
        unmoved = unmoved;
        means = λ s stands. means h after s stands again.sound;
      }
