-- What a refusal can be: none has the number 0, and its line is at most one above the bytes of a text.
use Rattle.common_laws.proofs.Base.{Bool, List, [], ◌∷◌, ◌≡◌, refl, subst, ℕ, ◌≤◌, arith, leb-true, ltb-false, ltb, length}
use Rattle.sizes.specs.Sizes as Size
use Rattle.reading.specs.Numbers as No
use Rattle.reading.specs.Refusal.{Read, refused, read, ◌>>=◌, ◌>>◌, weigh}
use Rattle.reading.proofs.Bounds.{Within, any_number, within_bind, within-then, within-weigh}
use Rattle.reading.proofs.Laws.{or_left, or_right, weigh-one}
use Rattle.calculation.specs.Pads.{State, Operation, ask, commit, causes_of, checked}
use Rattle.demands.specs.Outcome.{given_by, given_texts, text_long, read_pair, answer}
use Rattle.demands.specs.Outcome as O
use Rattle.demands.proofs.Bounds.{last_line, pair-within, refusal-told}
use Rattle.demands.specs.Own.{own_tables}
use Rattle.standing_table.specs.Held.{entered, held_by}
use Rattle.standing_calls.specs.Calls.{comes, ticket_of, placed_of, table_short, standing}

module _ (lib net : List ℕ) where
  brief : (short : Bool) → entered short (given_texts lib net) ≡ read tt → (length lib ≤ Size.text_bytes) × (length net ≤ Size.text_bytes)
  unfolding entered given_by text_long
  brief short e =
      let w = (weigh-one No.text_long 0 _ [] tt (weigh-one No.table_short 0 short _ tt e).1).0 in (
        ltb-false Size.text_bytes (length lib) (or_left (ltb Size.text_bytes (length lib)) (ltb Size.text_bytes (length net)) w),
        ltb-false Size.text_bytes (length net) (or_right (ltb Size.text_bytes (length lib)) (ltb Size.text_bytes (length net)) w),
      )

  pub held-within : (table : List ℕ) → length lib ≤ Size.text_bytes → length net ≤ Size.text_bytes → Within any_number last_line (held_by (given_texts lib net) table)
  unfolding held_by
  held-within table p q =
      within_bind any_number last_line (read_pair (given_texts lib net)) _ (pair-within lib net (own_tables []) p q)
      (λ r. within-then any_number last_line (weigh 0 _) _ (within-weigh any_number last_line 0 _ (omega arith) refl) tt)

  checked-within : (s : State) (o : Operation) → Within any_number last_line (checked s o)
  unfolding checked causes_of
  checked-within s (ask l) = within-then any_number last_line (weigh 0 _) _ (within-weigh any_number last_line 0 _ (omega arith) refl) tt
  checked-within s (commit l n) = within-then any_number last_line (weigh 0 _) _ (within-weigh any_number last_line 0 _ (omega arith) refl) tt

  module _ (short : Bool) (table : List ℕ) (o : Operation) where
    from_entry : (e : Read (Unit {0})) → entered short (given_texts lib net) ≡ e → Within any_number last_line (e >> (held_by (given_texts lib net) table >>= λ s. checked s o))
    unfolding ◌>>◌
    from_entry (refused number line) e = subst (Within any_number last_line) e entry-within
      where
        entry-within : Within any_number last_line (entered short (given_texts lib net))
        entry-within = unfold entered in within-weigh any_number last_line 0 _ (omega arith) refl
    from_entry (read u) e =
        let b = brief short e in
        within_bind any_number last_line (held_by (given_texts lib net) table) _ (held-within table b.0 b.1) (λ s. checked-within s o)

    pub comes-within : Within any_number last_line (comes (given_texts lib net) short table o)
    unfolding comes
    comes-within = from_entry (entered short (given_texts lib net)) refl

pub ticket_within : (o : Read State) → Within any_number last_line o → Within any_number last_line (ticket_of o)
unfolding ticket_of
ticket_within (refused number line) h = h
ticket_within (read s) h = tt

pub placed-within : (o : Read State) (l : ℕ) → Within any_number last_line o → Within any_number last_line (placed_of o l)
unfolding placed_of
placed-within (refused number line) l h = h
placed-within (read s) l h = tt

-- The analysis that is to stand.
pub stand-told : (lib net table report : List ℕ) (number line : ℕ) → refused number line ≡ answer (standing (given_texts lib net) table report) → (1 ≤ number) × (line ≤ last_line)
unfolding standing
stand-told lib net table report number line q = by (weigh 0 ((No.table_short, table_short table) ∷ [])) (within-weigh any_number last_line 0 _ (omega arith) refl) q
  where
    by : (e : Read (Unit {0})) → Within any_number last_line e → refused number line ≡ answer (e >> O.outcome (given_texts lib net) (own_tables report)) → (1 ≤ number) × (line ≤ last_line)
    by (refused n k) h q = unfold answer ◌>>◌ in
        (let a : number ≡ n = cc in
        let b : line ≡ k = cc in
        rw (a, b) (leb-true 1 n h.0, h.1))
    by (read u) h q = refusal-told lib net (own_tables report) number line (unfold ◌>>◌ in q)
