-- A table that holds statements says of their lines. What each law says is in specs/Lines.antt's words.
use Rattle.common_laws.proofs.Base.{Bool, false, not, Bool-not-not, List, ◌++◌, ◌≡◌, refl, ap, ◌∙◌, ℕ, zero, suc, ◌+◌, ◌-◌, ◌≤◌, ◌<◌, arith, eqb, length}
use Rattle.sizes.specs.Places.{mention_place}
use Rattle.sizes.specs.Sizes as Size
use Rattle.table.proofs.UsedPart.{used-most, used-behind, used-stands}
use Rattle.netlist_table.specs.Netlist.{Statement, is_input, mentioned, lines_where}
use Rattle.netlist_table.specs.Layout.{mention_word, netlist_words}
use Rattle.netlist_table.specs.Lines.{input_at, mention_at, highest_mentioned, inputs_held, mentions_held}
use Rattle.netlist_table.proofs.Causes.{flag-zero, driver-input}
use Rattle.netlist_table.proofs.Places.{driver-word, mention_word_lem}

pub where-same : (p q : ℕ → Bool) (n first : ℕ) → ((l : ℕ) → first ≤ l → l < first + n → p l ≡ q l)
    → lines_where p n first ≡ lines_where q n first
unfolding lines_where
where-same p q zero first same = refl
where-same p q (suc n) first same =
    rw (
      same first (omega arith) (omega arith),
      where-same p q n (suc first) (λ l low high. same l (omega arith) (omega arith)),
    )

-- No line past the highest is mentioned; and the lines up to it stand in the table.
module _ (table : List ℕ) where
  pub past_highest : (l : ℕ) → highest_mentioned table < l → l ≤ Size.lines → mention_at table l ≡ false
  past_highest l low high =
      let e : mention_place l ≡ mention_place 1 + (l - 1) = omega arith in
      rw (e, used-behind table (mention_place 1) Size.lines (l - 1) (omega arith) (omega arith))

  pub highest_few : highest_mentioned table ≤ Size.lines
  highest_few = used-most table (mention_place 1) Size.lines

  pub highest_stands : (l : ℕ) → 1 ≤ l → l ≤ highest_mentioned table → mention_place l < length table
  highest_stands l low high = omega (arith, used-stands table (mention_place 1) Size.lines (omega arith))

module _ (ss : List Statement) (past : List ℕ) where
  abbrev table : List ℕ
  table = netlist_words ss ++ past

  input-held : (l : ℕ) → 1 ≤ l → l ≤ Size.lines → input_at table l ≡ is_input l ss
  input-held l low high = ap (λ (n : ℕ). eqb n 1) (driver-word ss past l low high) ∙ driver-input ss l

  pub mention_held : (l : ℕ) → 1 ≤ l → l ≤ Size.lines → mention_at table l ≡ mentioned l ss
  unfolding mention_word
  mention_held l low high =
      ap (λ (n : ℕ). not (eqb n 0)) (mention_word_lem ss past l low high) ∙ ap not (flag-zero (mentioned l ss)) ∙ Bool-not-not (mentioned l ss)

  pub inputs-held : inputs_held table ≡ lines_where (λ l. is_input l ss) Size.lines 1
  unfolding inputs_held
  inputs-held = where-same _ _ Size.lines 1 (λ l low high. input-held l low (omega arith))

  pub mentions-held : mentions_held table ≡ lines_where (λ l. mentioned l ss) Size.lines 1
  unfolding mentions_held
  mentions-held = where-same _ _ Size.lines 1 (λ l low high. mention_held l low (omega arith))
