-- Reading the netlist text, from what the reader of crate `netlist_text` says of it.
use Rattle.std.specs.Prelude.{Result, Ok, Err}
use Rattle.common_laws.proofs.Base.{List, ◌++◌, ◌≡◌, ap, ◌∙◌, ℕ, drop}
use Rattle.sizes.specs.Sizes as Size
use Rattle.reading.specs.Answer.{answer_read}
use Rattle.reading.specs.declared.Refusal.{Refusal}
use Rattle.reading.proofs.Laws.{done_read_lem, done_refused}
use Rattle.library_table.specs.Cells.{Cell}
use Rattle.library_table.specs.Layout.{CellsTold, LibraryHolds}
use Rattle.library_table.proofs.Laws.{sound-fits}
use Rattle.library_table.proofs.Names.{holds-told}
use Rattle.netlist_table.specs.declared.Rules.{Rules}
use Rattle.netlist_table.specs.Layout.{netlist_words}
use Rattle.netlist_table.specs.Netlist.{netlist}
use Rattle.netlist_text.specs.Reader.{Fills}
use Rattle.demands.specs.Outcome.{given_by}
use Rattle.analysis_texts.specs.declared.Stop.TheVariants.{Later}
use Rattle.analysis_texts.specs.Progress.{Progress, progress_of, TextRead}
use Rattle.analysis_texts.proofs.Reached.{NetlistRead}

module _ (rules : Rules) (text lib before mid : List ℕ) (past : drop Size.netlist mid ≡ drop Size.netlist before)
    (v : Result (Unit {0}) Refusal) (after : List ℕ)
    (ensures : (cells : List Cell) → CellsTold lib cells → Fills (netlist rules cells text) mid v after) where
  read_as : (cells : List Cell) → LibraryHolds lib cells → Fills (netlist rules cells text) before v after
  read_as cells stands =
      let e = ensures cells (holds-told lib cells stands) in
      record { answers = e.answers; filled = λ ss q. e.filled ss q ∙ ap (λ (l : List ℕ). netlist_words ss ++ l) past }

  pub text-refused : (r : Refusal) → v ≡ Err r → TextRead rules text lib before after (Err (Later r))
  unfolding answer_read progress_of
  text-refused r q =
      record {
        reads =
            λ cells stands.
            let e = read_as cells stands in
            (rw (done_refused (netlist rules cells text) r.number r.line (rw q at e.answers)), e.filled);
      }

  pub text-accepted : {u : Unit {0}} → v ≡ Ok u → TextRead rules text lib before after (Ok tt)
  unfolding answer_read progress_of
  text-accepted q =
      record {
        reads =
            λ cells stands.
            let e = read_as cells stands in
            (done_read_lem (netlist rules cells text) (rw q at e.answers) (λ ss n. rw n), e.filled);
      }

-- It is the netlist of the two texts that is read.
pub netlist-read : (rules : Rules) (lib net library netlist library' netlist' : List ℕ) (said : Progress)
    → TextRead rules net library' netlist netlist' said → NetlistRead (given_by rules lib net) library netlist library' netlist' said
unfolding given_by
netlist-read rules lib net library netlist library' netlist' said t =
    record {
      reads =
          λ cells sound stands.
          t.reads cells (record { past = drop Size.library library; words = stands; fits = sound-fits cells sound });
    }
