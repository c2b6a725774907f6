-- What a refusal can be: none has the number 0, and its line is at most one above the bytes of a text.
use Rattle.common_laws.proofs.Base.{List, ◌≡◌, refl, subst, ◌∙◌, ℕ, ◌+◌, ◌≤◌, arith, leb-true, length}
use Rattle.sizes.specs.Sizes as Size
use Rattle.reading.specs.Refusal.{Read, refused, read, ◌>>◌, weigh}
use Rattle.reading.proofs.Bounds.{Within, any_number, within_bind, within-then, within-weigh, within-any}
use Rattle.reading.proofs.Laws.{refused-read}
use Rattle.library_table.specs.Library.{library}
use Rattle.library_table.proofs.Bounds.{library-within}
use Rattle.netlist_table.specs.declared.Rules.TheVariants.{New}
use Rattle.netlist_table.specs.Netlist.{netlist}
use Rattle.netlist_table.proofs.Bounds.{netlist-within}
use Rattle.demands.specs.Outcome.{Lent, Accepted, conclude, read_pair, reading, entry, outcome, answer, given_by, given_texts}
use Rattle.demands.proofs.EntryChecks.{texts-entry, entered}

-- The line after the last of the longest text.
abbrev pub last_line : ℕ
last_line = Size.text_bytes + 1

module _ (lib net : List ℕ) (m : Lent) where
  at-entry : Within any_number last_line (entry (given_texts lib net) m)
  unfolding entry
  at-entry = within-weigh any_number last_line 0 _ (omega arith) refl

  pub pair-within : length lib ≤ Size.text_bytes → length net ≤ Size.text_bytes → Within any_number last_line (read_pair (given_texts lib net))
  unfolding read_pair given_by
  pair-within p q =
      within_bind any_number last_line (library lib) _ (within-any last_line (library lib) (library-within last_line lib (omega arith)))
      (λ cells. within_bind any_number last_line (netlist New cells net) _ (within-any last_line (netlist New cells net) (netlist-within last_line New cells net (omega arith)))
      (λ ss. tt))

  -- Behind the entry the texts are not too long.
  pub behind-entry : {A : Type 0} (r : Read A) → (length lib ≤ Size.text_bytes → length net ≤ Size.text_bytes → Within any_number last_line r)
      → Within any_number last_line (entry (given_texts lib net) m >> r)
  behind-entry {A} r h = from (entry (given_texts lib net) m) refl
    where
      from : (e : Read (Unit {0})) → entry (given_texts lib net) m ≡ e → Within any_number last_line (e >> r)
      from (refused number line) e = unfold ◌>>◌ in subst (Within any_number last_line) e at-entry
      from (read u) e = unfold ◌>>◌ in let k = entered _ _ _ _ _ (texts-entry New lib net m ∙ e) in h k.lib-short k.net-short

  pub texts-within : Within any_number last_line (outcome (given_texts lib net) m)
  unfolding outcome reading conclude
  texts-within =
      behind-entry (reading (given_texts lib net) (length m.report))
      (λ p q. within_bind any_number last_line (read_pair (given_texts lib net)) _ (pair-within p q)
      (λ x. within-then any_number last_line (weigh 0 _) _ (within-weigh any_number last_line 0 _ (omega arith) refl) tt))

told_by_lem : (o : Read Accepted) → Within any_number last_line o → (number line : ℕ) → refused number line ≡ answer o → (1 ≤ number) × (line ≤ last_line)
unfolding answer
told_by_lem (refused n l) h number line q =
    let a : number ≡ n = cc in
    let b : line ≡ l = cc in
    rw (a, b) (leb-true 1 n h.0, h.1)
told_by_lem (read a) h number line q = refused-read q

pub refusal-told : (lib net : List ℕ) (m : Lent) (number line : ℕ) → refused number line ≡ answer (outcome (given_texts lib net) m)
    → (1 ≤ number) × (line ≤ last_line)
refusal-told lib net m number line e = told_by_lem (outcome (given_texts lib net) m) (texts-within lib net m) number line e
