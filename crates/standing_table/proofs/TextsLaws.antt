-- Both texts, the pads of a standing table, and one pad more, one after the other.
use Rattle.common_laws.proofs.Base.{Bool, true, false, not, List, [], ◌∷◌, ◌≡◌, refl, sym, ap, subst, ◌∙◌, ℕ, le_of_eq, le-ltb, not-false, ltb, length, replicate, length-replicate}
use Rattle.sizes.specs.Sizes as Size
use Rattle.reading.specs.Choice.{pick}
use Rattle.reading.specs.Numbers as No
use Rattle.reading.specs.Refusal.{Read, refused, read, ◌>>=◌, ◌>>◌, weigh}
use Rattle.reading.specs.Answer.{answer_read, done_read}
use Rattle.reading.specs.declared.Refusal.{Refusal}
use Rattle.std.specs.Prelude.{Result, Ok, Err}
use Rattle.reading.proofs.Laws.{refused-read, weigh-one}
use Rattle.library_table.specs.Cells.{Cell}
use Rattle.netlist_table.specs.Netlist.{Statement}
use Rattle.calculation.specs.Pads.{State, statements_of, unpaddable, takes_none, placed}
use Rattle.calculation.specs.Stored.{Holds}
use Rattle.calculation.proofs.Pads.{padded-more}
use Rattle.demands.specs.Outcome.{Given, Pair, read_pair, given_by, given_texts, text_long, entry_by}
use Rattle.demands.proofs.Given.{Checked}
use Rattle.analysis_texts.specs.declared.Stop.{Stop}
use Rattle.analysis_texts.specs.declared.Stop.TheVariants.{AtEntry, Later}
use Rattle.analysis_texts.specs.Tables.{Zero}
use Rattle.analysis_texts.specs.Progress.{Progress, refusal_of, Reached}
use Rattle.analysis_texts.proofs.Reached.{stands_hold}
use Rattle.standing_table.specs.Held.{entered, foreign, held_by, pad_causes}
use Rattle.standing_table.specs.Parts.{PadTried, PadsJudged, TextsRead, HeldRead, PadRead}
use Rattle.standing_table.specs.StandingTable.{state_held}

-- ---- one step behind another

pub done_both : {A C : Type 0} (e : Read (Unit {0})) (m : Read A) → read tt ≡ done_read (e >> m) → ((a : A) → e ≡ read tt → m ≡ read a → C) → C
unfolding done_read ◌>>◌
done_both (refused number line) m h on = refused-read (sym h)
done_both (read u) (refused number line) h on = refused-read (sym h)
done_both (read u) (read a) h on = on a refl refl

pub done_more : {A B : Type 0} (e : Read (Unit {0})) (m : Read A) (f : A → Read B) (number line : ℕ)
    → refused number line ≡ done_read (e >> m) → refused number line ≡ done_read (e >> (m >>= f))
unfolding done_read ◌>>◌ ◌>>=◌
done_more (refused n l) m f number line h = h
done_more (read u) (refused n l) f number line h = h
done_more (read u) (read a) f number line h = refused-read h

done_same : (r : Read (Unit {0})) → done_read r ≡ r
unfolding done_read
done_same (refused number line) = refl
done_same (read u) = refl

-- ---- both texts

module _ (g : Given) (checks : Checked g) (library netlist library' netlist' : List ℕ) (said : Progress)
    (h : Reached g (entered false g) library netlist library' netlist' said) where
  pub told-entry : (r : Refusal) → said ≡ Err (AtEntry r) → TextsRead g library' netlist' (answer_read (Err r))
  unfolding Reached answer_read done_read ◌>>◌
  told-entry r e =
      let k = rw e at h in
      record { answers = rw k.0; holds = λ p s q. refused-read s }

  pub told_later : (r : Refusal) → said ≡ Err (Later r) → TextsRead g library' netlist' (answer_read (Err r))
  unfolding Reached answer_read done_read ◌>>◌
  told_later r e =
      let k = rw e at h in
      record { answers = rw (k.0, k.1); holds = λ p s q. refused-read s }

  pub told-stopped : (stop : Stop) → said ≡ Err stop → TextsRead g library' netlist' (answer_read (Err (refusal_of stop)))
  told-stopped (AtEntry r) e = told-entry r e
  told-stopped (Later r) e = told_later r e

  pub told-read : said ≡ (Ok tt) → TextsRead g library' netlist' (answer_read (Ok tt))
  unfolding Reached answer_read done_read ◌>>◌
  told-read e =
      let k = rw e at h in
      record {
        answers = rw (k.0, k.1.reads);
        holds =
            λ p s q.
            let same : k.1.pair ≡ p = cc (sym k.1.reads ∙ q) in
            rw (← same) (stands_hold g library netlist checks library' netlist' k.1);
      }

-- ---- two texts, into tables that are zero

zero-fits : (xs : List ℕ) (n : ℕ) → xs ≡ replicate n 0 → ltb (length xs) n ≡ false
zero-fits xs n e = le-ltb (length xs) n (le_of_eq (sym (ap length e ∙ length-replicate {A = ℕ} n 0)))

-- What is left of the entry: the texts.
pub entry-so : (lib net library netlist : List ℕ) → Zero library netlist
    → entry_by (length lib) (length net) (length library) (length netlist) Size.numbers ≡ entered false (given_texts lib net)
unfolding entry_by entered given_by text_long
entry-so lib net library netlist z = rw (zero-fits library Size.library z.cells, zero-fits netlist Size.netlist z.statements)

pub both-reached : (lib net library netlist library' netlist' : List ℕ) (said : Progress) → Zero library netlist
    → Reached (given_texts lib net) (entry_by (length lib) (length net) (length library) (length netlist) Size.numbers) library netlist library' netlist' said
    → Reached (given_texts lib net) (entered false (given_texts lib net)) library netlist library' netlist' said
both-reached lib net library netlist library' netlist' said z h =
    subst (λ (e : Read (Unit {0})). Reached (given_texts lib net) e library netlist library' netlist' said) (entry-so lib net library netlist z) h

-- ---- and the pads of a table

module _ (g : Given) (table library' netlist' : List ℕ) where
  pub held-refused : (number line : ℕ) → TextsRead g library' netlist' (refused number line) → HeldRead g table library' netlist' (refused number line)
  unfolding held_by
  held-refused number line t =
      record { answers = done_more (entered false g) (read_pair g) _ number line t.answers; holds = λ s r z. refused-read r }

  pub held_kept : (v : Result (Unit {0}) Refusal) (r : Refusal) → v ≡ Err r → TextsRead g library' netlist' (answer_read v) → HeldRead g table library' netlist' (answer_read v)
  unfolding answer_read
  held_kept v r e t = rw e (held-refused r.number r.line (rw e at t))

  module _ (netlist'' : List ℕ) (t : TextsRead g library' netlist' (read tt)) (said : Read (Unit {0}))
      (j : (cells : List Cell) (ss : List Statement) → Holds library' netlist' cells ss → PadsJudged library' cells ss table netlist'' said) where
    pub held-judged : HeldRead g table library' netlist'' said
    held-judged = done_both (entered false g) (read_pair g) t.answers on
      where
        on : (p : Pair) → entered false g ≡ read tt → read_pair g ≡ read p → HeldRead g table library' netlist'' said
        on p e q =
            record { answers = k.answers ∙ sym (weighed (foreign s) refl); holds = λ x r z. held x r (foreign s) refl z }
          where
            s : State
            s = state_held p.cells p.statements table

            k : PadsJudged library' p.cells p.statements table netlist'' said
            k = j p.cells p.statements (t.holds p refl q)

            weighed : (b : Bool) → foreign s ≡ b → done_read (entered false g >> held_by g table) ≡ weigh 0 ((No.unpaddable, foreign s) ∷ [])
            weighed true f = unfold held_by done_read weigh pick ◌>>◌ ◌>>=◌ in rw (e, q, f)
            weighed false f = unfold held_by done_read weigh pick ◌>>◌ ◌>>=◌ in rw (e, q, f)

            held : (x : State) → said ≡ read tt → (b : Bool) → foreign s ≡ b → held_by g table ≡ read x → Holds library' netlist'' x.cells (statements_of x)
            held x r true f z = unfold weigh pick in refused-read (sym (rw f at k.answers) ∙ r)
            held x r false f z =
                let same : s ≡ x = unfold held_by weigh pick ◌>>◌ ◌>>=◌ in cc (rw (q, f) at z) in
                rw (← same) (unfold state_held in k.holds r)

-- ---- what a pad is refused for

module _ (taken stale : Bool) where
  pub taken_first : taken ≡ true → refused No.unpaddable 0 ≡ weigh 0 (pad_causes taken stale)
  unfolding weigh pick
  taken_first t = rw t

  pub stale-next : taken ≡ false → stale ≡ true → refused No.ticket_stale 0 ≡ weigh 0 (pad_causes taken stale)
  unfolding weigh pick
  stale-next t u = rw (t, u)

  pub none-refused : taken ≡ false → stale ≡ false → read tt ≡ weigh 0 (pad_causes taken stale)
  unfolding weigh pick
  none-refused t u = rw (t, u)

-- ---- and one pad more

module _ (g : Given) (table : List ℕ) (l : ℕ) (late : Bool) (library' netlist' : List ℕ) where
  pub pad-refused : (number line : ℕ) → HeldRead g table library' netlist' (refused number line) → PadRead g table l late library' netlist' (refused number line)
  pad-refused number line t =
      record { answers = done_more (entered false g) (held_by g table) _ number line t.answers; holds = λ s r z. refused-read r }

  pub pad-kept : (v : Result (Unit {0}) Refusal) (r : Refusal) → v ≡ Err r → HeldRead g table library' netlist' (answer_read v) → PadRead g table l late library' netlist' (answer_read v)
  unfolding answer_read
  pad-kept v r e t = rw e (pad-refused r.number r.line (rw e at t))

  module _ (netlist'' : List ℕ) (t : HeldRead g table library' netlist' (read tt)) (marked : Bool)
      (j : (cells : List Cell) (ss : List Statement) → Holds library' netlist' cells ss → PadTried library' cells ss l netlist'' marked)
      (said : Read (Unit {0})) (w : said ≡ weigh 0 (pad_causes (not marked) late)) where
    pub pad-judged : PadRead g table l late library' netlist'' said
    pad-judged = done_both (entered false g) (held_by g table) t.answers on
      where
        on : (s : State) → entered false g ≡ read tt → held_by g table ≡ read s → PadRead g table l late library' netlist'' said
        on s e q = record { answers = answers; holds = holds }
          where
            k : PadTried library' s.cells (statements_of s) l netlist'' marked
            k = j s.cells (statements_of s) (t.holds s refl q)

            not-not : (a b : Bool) → a ≡ not b → not a ≡ b
            not-not true true h = sym h
            not-not true false h = refl
            not-not false true h = refl
            not-not false false h = sym h

            taken : not marked ≡ unpaddable s l
            taken = unfold unpaddable in not-not marked (takes_none (statements_of s) l) k.answers

            done_weigh : (xs : List (ℕ × Bool)) → done_read (weigh 0 xs) ≡ weigh 0 xs
            done_weigh xs = done_same (weigh 0 xs)

            answers : said ≡ done_read (entered false g >> (held_by g table >>= λ x. weigh 0 (pad_causes (unpaddable x l) late)))
            answers = unfold ◌>>◌ ◌>>=◌ in rw (e, q, ← taken) (w ∙ sym (done_weigh (pad_causes (not marked) late)))

            marks : said ≡ read tt → marked ≡ true
            marks r = not-false marked (weigh-one No.unpaddable 0 (not marked) _ tt (sym w ∙ r)).0

            holds : (x : State) → said ≡ read tt → held_by g table ≡ read x → Holds library' netlist'' x.cells (statements_of (placed x l))
            holds x r z =
                let same : s ≡ x = cc (sym q ∙ z) in
                rw (← same) (unfold placed in rw (padded-more s.statements s.pads l) (k.holds (marks r)))

-- An accepted verdict.
pub accepted_is : (v : Result (Unit {0}) Refusal) → v ≡ (Ok tt) → answer_read v ≡ read tt
unfolding answer_read
accepted_is v e = rw e

pub refused_is : (v : Result (Unit {0}) Refusal) (r : Refusal) → v ≡ Err r → answer_read v ≡ refused r.number r.line
unfolding answer_read
refused_is v r e = rw e
