-- Where a call stands behind its entry, the library and the netlist, however the netlist was given.
use Rattle.std.specs.Prelude.{Ok, Err}
use Rattle.common_laws.proofs.Base.{List, ◌++◌, ◌≡◌, refl, sym, ap, subst, ◌∙◌, ℕ, ◌≤◌, length, drop, replicate}
use Rattle.sizes.specs.Sizes as Size
use Rattle.reading.specs.Refusal.{Read, refused, read, ◌>>=◌}
use Rattle.library_table.specs.Cells.{Cell}
use Rattle.library_table.specs.Library.{library}
use Rattle.library_table.specs.Layout.{library_words}
use Rattle.library_table.specs.Sound as C
use Rattle.library_table.proofs.Laws.{library-sound}
use Rattle.netlist_table.specs.declared.Rules.TheVariants.{New}
use Rattle.netlist_table.specs.Layout.{netlist_words}
use Rattle.netlist_table.specs.Netlist.{Statement}
use Rattle.calculation.specs.Stored.{Holds, Ready}
use Rattle.demands.specs.Answer.{lent_of}
use Rattle.demands.specs.Outcome.{Given, Lent, given_texts, entry, entry_by, pair_of, read_pair, zeroed}
use Rattle.demands.proofs.Acceptance.{read_as}
use Rattle.demands.proofs.Given.{Checked, texts-checked}
use Rattle.demands.proofs.EntryChecks.{texts-entry, entered}
use Rattle.analysis_texts.specs.declared.Stop.{Stop}
use Rattle.analysis_texts.specs.declared.Stop.TheVariants.{AtEntry, Later}
use Rattle.analysis_texts.specs.Progress.{Progress, progress_of, progress_from, LibraryStands, PairStands, Reached}

-- Nothing is refused behind the entry only.
pub unrefused-entry : {A : Type 0} (e : Read (Unit {0})) (o : Read A) → progress_from e o ≡ Ok tt → e ≡ read tt
unfolding progress_from
unrefused-entry (refused number line) o h = absurd cc
unrefused-entry (read u) o h = refl

module _ (g : Given) (before past : List ℕ) where
  -- ---- the netlist

  -- What reading the netlist comes to, of a text or of records.
  pub record NetlistRead (library' netlist' : List ℕ) (said : Progress) : Type 0 where
    pub reads : (cells : List Cell) → C.Sound cells → library' ≡ library_words cells ++ drop Size.library before
        → (said ≡ progress_of (g.statements cells))
        × ((ss : List Statement) → g.statements cells ≡ read ss → netlist' ≡ netlist_words ss ++ drop Size.netlist past)

  -- ---- where a call stands then

  module _ (entry : Read (Unit {0})) (library' : List ℕ) (begun : Progress) (begins : begun ≡ progress_from entry (library g.library))
      (leaves : LibraryStands entry (library g.library) before library') where
    -- The entry or the library is refused, and the netlist table is as it was.
    stops : (stop : Stop) → begun ≡ Err stop → (e : Read (Unit {0})) → entry ≡ e → (o : Read (List Cell)) → library g.library ≡ o
        → Reached g entry before past library' past (Err stop)
    unfolding Reached progress_from progress_of LibraryStands read_pair ◌>>=◌
    stops stop b (refused number line) e o p =
        let s : Err (AtEntry (record { number = number; line = line })) ≡ Err stop = sym (rw e at begins) ∙ b in
        subst (λ (s : Progress). Reached g entry before past library' past s) s (e, rw e at leaves, refl)
    stops stop b (read u) e (refused number line) p =
        let s : Err (Later (record { number = number; line = line })) ≡ Err stop = sym (rw (e, p) at begins) ∙ b in
        subst (λ (s : Progress). Reached g entry before past library' past s) s (e, rw p)
    stops stop b (read u) e (read cells) p =
        let s : Ok tt ≡ Err stop = sym (rw (e, p) at begins) ∙ b in
        absurd cc

    pub reached_stopped : (stop : Stop) → begun ≡ Err stop → Reached g entry before past library' past (Err stop)
    reached_stopped stop b = stops stop b entry refl (library g.library) refl

    module _ (o : begun ≡ Ok tt) (netlist' : List ℕ) (said : Progress) (n : NetlistRead library' netlist' said) where
      from_statements : entry ≡ read tt → (cells : List Cell) → library g.library ≡ read cells
          → library' ≡ library_words cells ++ drop Size.library before
          → (o : Read (List Statement)) → g.statements cells ≡ o → Reached g entry before past library' netlist' said
      unfolding Reached progress_of read_pair ◌>>=◌
      from_statements e cells p l (refused number line) q =
          let h = n.reads cells (library-sound g.library cells p) l in
          let s : said ≡ Err (Later (record { number = number; line = line })) = h.0 ∙ ap progress_of q in
          rw s (e, rw (p, q))
      from_statements e cells p l (read ss) q =
          let h = n.reads cells (library-sound g.library cells p) l in
          let s : said ≡ Ok tt = h.0 ∙ ap progress_of q in
          rw s (e, record { pair = pair_of cells ss; reads = rw (p, q); cells_stand = l; statements_stand = h.1 ss q })

      goes_on : (e : Read (Unit {0})) → entry ≡ e → (c : Read (List Cell)) → library g.library ≡ c
          → Reached g entry before past library' netlist' said
      unfolding progress_from progress_of LibraryStands
      goes_on (refused number line) e c p =
          let s : Err (AtEntry (record { number = number; line = line })) ≡ Ok tt = sym (rw e at begins) ∙ o in
          absurd cc
      goes_on (read u) e (refused number line) p =
          let s : Err (Later (record { number = number; line = line })) ≡ Ok tt = sym (rw (e, p) at begins) ∙ o in
          absurd cc
      goes_on (read u) e (read cells) p = from_statements e cells p (rw (e, p) at leaves) (g.statements cells) refl

      pub reached : Reached g entry before past library' netlist' said
      reached = goes_on entry refl (library g.library) refl

  -- ---- what the tables hold

  module _ (checked : Checked g) (library' netlist' : List ℕ) where
    pub stands_hold : (b : PairStands g before past library' netlist') → Holds library' netlist' b.pair.cells b.pair.statements
    stands_hold b =
        let r = read_as g b.pair b.reads in
        record {
          behind = drop Size.library before;
          past = drop Size.netlist past;
          cells_stand = b.cells_stand;
          statements_stand = b.statements_stand;
          sound =
              record {
                library = library-sound g.library b.pair.cells r.cells;
                netlist = checked.sound b.pair.cells b.pair.statements r.statements;
              };
        }

    -- Where nothing is refused.
    pub ready : (entry : Read (Unit {0})) (numbers : List ℕ) (s : Progress) → Reached g entry before past library' netlist' s
        → (entry ≡ read tt → Size.numbers ≤ length numbers) → s ≡ Ok tt → Ready library' netlist' numbers
    unfolding Reached
    ready entry numbers (Err stop) h room o = absurd cc
    ready entry numbers (Ok u) h room o =
        record {
          cells = h.1.pair.cells;
          statements = h.1.pair.statements;
          holds = stands_hold h.1;
          room = room h.0;
        }

-- What is cleared has the lengths of what was lent.
pub zeroed-same : (m : Lent) (library' netlist' : List ℕ) → length library' ≡ length m.library → length netlist' ≡ length m.netlist
    → zeroed (lent_of library' netlist' m.numbers m.report) ≡ zeroed m
unfolding zeroed
zeroed-same m library' netlist' a b =
    λ i. lent_of (replicate (a i) 0) (replicate (b i) 0) (replicate (length m.numbers) 0) (replicate (length m.report) 0)

-- ---- two texts by the rules in force, whose entry goes by lengths

module _ (lib net : List ℕ) (m : Lent) (library' netlist' : List ℕ) (s : Progress)
    (h : Reached (given_texts lib net) (entry_by (length lib) (length net) (length m.library) (length m.netlist) (length m.numbers))
    m.library m.netlist library' netlist' s) where
  pub texts-reached : Reached (given_texts lib net) (entry (given_texts lib net) m) m.library m.netlist library' netlist' s
  texts-reached =
      subst (λ (e : Read (Unit {0})). Reached (given_texts lib net) e m.library m.netlist library' netlist' s) (texts-entry New lib net m) h

  pub texts-ready : s ≡ Ok tt → Ready library' netlist' m.numbers
  texts-ready =
      ready (given_texts lib net) m.library m.netlist (texts-checked lib net) library' netlist' _ m.numbers s h
      (λ e. (entered _ _ _ _ _ e).numbers-long)
