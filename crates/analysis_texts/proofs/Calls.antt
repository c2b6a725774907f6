-- A call over two texts that is lent one answer, from where reading left it: its promise, refused or accepted.
use Rattle.std.specs.Prelude.{Ok, Err}
use Rattle.common_laws.proofs.Base.{List, ◌≡◌, sym, ◌∙◌, ℕ, ◌≤◌, ◌<◌, length, replicate}
use Rattle.sizes.specs.Sizes as Size
use Rattle.reading.specs.Numbers as No
use Rattle.reading.specs.Refusal.{Read, refused, read}
use Rattle.reading.specs.declared.Refusal.{Refusal}
use Rattle.calculation.specs.Stored.{Holds}
use Rattle.demands.specs.Call.{Call, comes, Promises, answer_entry, answer_call}
use Rattle.demands.specs.Outcome.{Given, Pair, entry_by, given_by, given_texts}
use Rattle.demands.proofs.Call.{entry-short, entry-texts, come-to, promises-entry, promises-texts, promises-made}
use Rattle.demands.proofs.EntryChecks.{own-entry_by}
use Rattle.demands.proofs.Given.{texts-checked}
use Rattle.analysis_texts.specs.declared.Stop.{Stop}
use Rattle.analysis_texts.specs.declared.Stop.TheVariants.{AtEntry, Later}
use Rattle.analysis_texts.specs.Progress.{Progress, refusal_of, left_at, Reached}
use Rattle.analysis_texts.specs.Tables.{Zero}
use Rattle.analysis_texts.proofs.Reached.{stands_hold}

-- What was read, in tables that hold it.
pub record Held {B : Type 0} (c : Call Pair B (List ℕ)) (library netlist : List ℕ) : Type 0 where
  pub pair : Pair
  pub comes_to : comes c ≡ read pair
  pub holds : Holds library netlist pair.cells pair.statements

module _ {B : Type 0} (size : ℕ) (lib net before : List ℕ) (answer : Pair → B) (writes : Pair → List ℕ) where
  abbrev g : Given
  g = given_texts lib net

  abbrev call : Call Pair B (List ℕ)
  call = answer_call size g before answer writes

  -- An answer that is too short.
  pub short-call : (Own : Pair → List ℕ → Read B → Type 0) → length before < size → Promises call Own before (refused No.table_short 0)
  short-call Own h = promises-entry size g (texts-checked lib net) before answer writes Own No.table_short 0 (entry-short size g before h)

  module _ (room : size ≤ length before) {library netlist : List ℕ} (z : Zero library netlist) (library' netlist' : List ℕ) (s : Progress)
      (r : Reached g (entry_by (length lib) (length net) (length library) (length netlist) Size.numbers) library netlist library' netlist' s) where
    -- The entry is that of the texts alone.
    entry-same : entry_by (length lib) (length net) (length library) (length netlist) Size.numbers ≡ answer_entry size g before
    unfolding given_by
    entry-same =
        (λ i. entry_by (length lib) (length net) (length (z.cells i)) (length (z.statements i)) Size.numbers)
        ∙ own-entry_by lib net ∙ sym (entry-texts size g before room)

    pub held-call : s ≡ Ok tt → Held call library' netlist'
    unfolding Reached answer_call
    held-call e =
        let q = rw e at r in
        record {
          pair = q.1.pair;
          comes_to = come-to call q.1.pair (sym entry-same ∙ q.0) q.1.reads;
          holds = stands_hold g library netlist (texts-checked lib net) library' netlist' q.1;
        }

    module _ (Own : Pair → List ℕ → Read B → Type 0) where
      entry-call : (x : Refusal) → s ≡ Err (AtEntry x) → Promises call Own before (refused x.number x.line)
      unfolding Reached
      entry-call x e =
          let q = rw e at r in
          promises-entry size g (texts-checked lib net) before answer writes Own x.number x.line (sym entry-same ∙ q.0)

      later_call : (x : Refusal) → s ≡ Err (Later x) → (after : List ℕ) → after ≡ replicate (length before) 0
          → Promises call Own after (refused x.number x.line)
      unfolding Reached
      later_call x e after zero =
          let q = rw e at r in
          promises-texts size g (texts-checked lib net) before answer writes Own (sym entry-same ∙ q.0) x.number x.line q.1 after zero

      pub stopped-call : (stop : Stop) → s ≡ Err stop → (after : List ℕ) → after ≡ left_at stop before (replicate (length before) 0)
          → (x : Refusal) → x ≡ refusal_of stop → Promises call Own after (refused x.number x.line)
      unfolding left_at
      stopped-call (AtEntry r) e after left x told = rw (left, told) (entry-call r e)
      stopped-call (Later r) e after left x told = rw told (later_call r e after left)

      -- From what was made of the tables.
      pub made-call : s ≡ Ok tt → (after : List ℕ) (x : B)
          → ((p : Pair) → Holds library' netlist' p.cells p.statements → (x ≡ answer p) × (after ≡ writes p) × Own p after (read x))
          → Promises call Own after (read x)
      made-call e after x made =
          let h = held-call e in
          let m = made h.pair h.holds in
          promises-made size g (texts-checked lib net) before answer writes Own h.pair h.comes_to after x m.0 m.1 m.2
