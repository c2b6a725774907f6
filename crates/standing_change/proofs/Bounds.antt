-- What a refusal of a change can be: none has the number 0, and its line is at most one above the bytes of a text.
use Rattle.common_laws.proofs.Base.{Bool, ◌||◌, List, [], ◌∷◌, ◌≡◌, refl, subst, ℕ, ◌+◌, ◌≤◌, arith, ltb-false, ltb, length}
use Rattle.sizes.specs.Sizes as Size
use Rattle.reading.specs.Numbers as No
use Rattle.reading.specs.Refusal.{Read, refused, read, ◌>>=◌, ◌>>◌, weigh}
use Rattle.reading.proofs.Bounds.{Within, any_number, within_bind, within-weigh, within-any}
use Rattle.reading.proofs.Laws.{or_left, or_right, weigh-one}
use Rattle.library_table.specs.Library.{library}
use Rattle.library_table.proofs.Bounds.{library-within}
use Rattle.netlist_table.specs.declared.Rules.TheVariants.{New}
use Rattle.netlist_table.specs.Netlist.{netlist}
use Rattle.netlist_table.proofs.Bounds.{netlist-within}
use Rattle.calculation.specs.Pads.{State}
use Rattle.demands.specs.Outcome.{Given, given_by, given_texts, text_long}
use Rattle.demands.proofs.Bounds.{last_line}
use Rattle.standing_table.specs.Held.{held_by}
use Rattle.standing_calls.specs.Calls.{table_short}
use Rattle.standing_calls.proofs.Bounds.{held-within}
use Rattle.standing_change.specs.Calls.{Change, changed, changed_by, comes, answer_of}

module _ (lib new net table : List ℕ) where
  abbrev g : Given
  g = given_texts lib net

  abbrev h : Given
  h = given_texts new net

  abbrev entry : Read (Unit {0})
  entry = weigh 0 ((No.table_short, table_short table) ∷ ((No.text_long, g.long || h.long) ∷ []))

  entry-within : Within any_number last_line entry
  entry-within = within-weigh any_number last_line 0 _ (omega arith) refl

  changed-within : length new ≤ Size.text_bytes → length net ≤ Size.text_bytes → (s : State) → Within any_number last_line (changed_by h s)
  unfolding changed_by changed given_by
  changed-within p q s =
      within_bind any_number last_line (library new) _ (within-any last_line (library new) (library-within last_line new (omega arith)))
      (λ cells. within_bind any_number last_line (netlist New cells net) _ (within-any last_line (netlist New cells net) (netlist-within last_line New cells net (omega arith)))
      (λ ss. tt))

  -- Behind the entry no text is too long.
  brief : entry ≡ read tt → (length lib ≤ Size.text_bytes) × ((length net ≤ Size.text_bytes) × (length new ≤ Size.text_bytes))
  unfolding given_by text_long
  brief e =
      let a = ltb Size.text_bytes (length lib) in
      let b = ltb Size.text_bytes (length net) in
      let c = ltb Size.text_bytes (length new) in
      let w = (weigh-one No.text_long 0 _ [] tt (weigh-one No.table_short 0 (table_short table) _ tt e).1).0 in
      let old = or_left (a || b) (c || b) w in (
        ltb-false Size.text_bytes (length lib) (or_left a b old),
        (ltb-false Size.text_bytes (length net) (or_right a b old), ltb-false Size.text_bytes (length new) (or_left c b (or_right (a || b) (c || b) w))),
      )

  from_entry : (e : Read (Unit {0})) → entry ≡ e → Within any_number last_line (e >> (held_by g table >>= λ s. changed_by h s))
  unfolding ◌>>◌
  from_entry (refused number line) e = subst (Within any_number last_line) e entry-within
  from_entry (read u) e =
      let b = brief e in
      within_bind any_number last_line (held_by g table) _ (held-within lib net table b.0 b.1.0) (λ s. changed-within b.1.1 b.1.0 s)

  comes-within : Within any_number last_line (comes g h table)
  unfolding comes
  comes-within = from_entry entry refl

  answer-within : (o : Read Change) → Within any_number last_line o → Within any_number last_line (answer_of o)
  unfolding answer_of
  answer-within (refused number line) w = w
  answer-within (read c) w = tt

  pub change-within : Within any_number last_line (answer_of (comes g h table))
  change-within = answer-within (comes g h table) comes-within
