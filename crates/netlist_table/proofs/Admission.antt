-- Statements admitted one after the other, and the table that holds none.
use Rattle.common_laws.proofs.Base.{List, [], ◌∷◌, ◌++◌, flat_map, Option, none, some, ◌≡◌, refl, ap, ◌∙◌, ℕ, zero, suc, ◌+◌, ◌*◌, ◌≤◌, min, arith, length, drop, replicate}
use Rattle.common_laws.proofs.Base.{replicate-append-replicate, ne_eqb}
use native.Mathlib.Nat.{sub-zero}
use Rattle.sizes.specs.Sizes as Size
use Rattle.table.specs.Blocks.{fitted, blocks, cleared}
use Rattle.table.proofs.Places.{fitted_short}
use Rattle.reading.specs.Choice.{pick}
use Rattle.reading.specs.Refusal.{refused, ◌>>=◌, ◌>>◌, form}
use Rattle.library_table.specs.Cells.{Cell}
use Rattle.netlist_table.specs.Lowest.{lowest, verdict}
use Rattle.netlist_table.specs.Netlist.{Statement, member, mentioned_lines, marked_lines, claimed_lines, gates_of, ranges_of, ranged_lines, of_range, some_line, some_range, mentioned}
use Rattle.netlist_table.specs.Netlist.{is_marked, claimed, causes, admit, admitted}
use Rattle.netlist_table.specs.Layout.{gate_words, driver_word, output_word, mention_word, range_word, ranged_word, line_parts, line_words, netlist_words}
use Rattle.netlist_table.specs.Admission.{refusal_of, extended}
use Rattle.netlist_table.proofs.LowestCause.{weigh-lowest}
use Rattle.netlist_table.proofs.Causes.{causes-counted}

-- ---- one statement of a list

module _ (line : ℕ) (cells : List Cell) (ss : List Statement) where
  admit-lowest : (s : Statement) → admit line cells ss s ≡ verdict line (lowest (causes cells ss s))
  unfolding admit
  admit-lowest s = weigh-lowest line (causes cells ss s) (causes-counted cells ss s)

  -- An admitted statement stands behind those before it.
  pub admitted-more : (w : Option Statement) (ws : List (Option Statement)) → refusal_of cells ss w ≡ 0
      → admitted line cells ss (w ∷ ws) ≡ admitted (suc line) cells (extended ss w) ws
  unfolding admitted form ◌>>=◌ ◌>>◌ refusal_of extended verdict pick
  admitted-more none ws h = absurd (omega arith)
  admitted-more (some s) ws h = rw (admit-lowest s, h)

  -- A refused one ends the list.
  pub admitted-refused : (w : Option Statement) (ws : List (Option Statement)) → (refusal_of cells ss w ≡ 0 → ⊥)
      → admitted line cells ss (w ∷ ws) ≡ refused (refusal_of cells ss w) line
  unfolding admitted form ◌>>=◌ ◌>>◌ refusal_of verdict pick
  admitted-refused none ws h = refl
  admitted-refused (some s) ws h = rw (admit-lowest s, ne_eqb (lowest (causes cells ss s)) 0 h)

-- ---- the cleared table

line_words-zero : (f : ℕ → ℕ) → ((k : ℕ) → f k ≡ 0) → (n first : ℕ) → line_words f n first ≡ replicate n 0
unfolding line_words
line_words-zero f h zero first = refl
line_words-zero f h (suc n) first = rw (h first, line_words-zero f h n (suc first))

no_gates : (n : ℕ) → fitted 0 n (blocks gate_words (gates_of [])) ≡ replicate n 0
unfolding gates_of flat_map blocks
no_gates n = fitted_short 0 n [] (omega arith) ∙ ap (λ (k : ℕ). replicate k 0) (sub-zero n)

-- Four parts of n lines, all the same, 0, a word more, and the gates' d words. The lengths are variables, so that no list is
-- computed.
zeros : (n d : ℕ) (gs : List ℕ) → gs ≡ replicate d 0
    → ◌≡◌ {A = List ℕ}
    (0
    ∷ ((line_words (driver_word []) n 1 ++ (line_words (output_word []) n 1 ++ (line_words (mention_word []) n 1 ++ (line_words (range_word []) n 1 ++ []))))
    ++ (ranged_word [] ∷ gs)))
    (replicate (suc (n + (n + (n + (n + 0))) + suc d)) 0)
unfolding driver_word output_word mention_word range_word ranged_word some_range ranged_lines some_line ranges_of of_range is_marked marked_lines claimed claimed_lines mentioned mentioned_lines flat_map member pick
zeros n d gs e =
    rw (
      e,
      line_words-zero (driver_word []) (λ k. refl) n 1,
      replicate-append-replicate {A = ℕ} n 0 0,
      replicate-append-replicate {A = ℕ} n (n + 0) 0,
      replicate-append-replicate {A = ℕ} n (n + (n + 0)) 0,
      replicate-append-replicate {A = ℕ} n (n + (n + (n + 0))) 0,
      replicate-append-replicate {A = ℕ} (n + (n + (n + (n + 0)))) (suc d) 0,
    )

no_words : netlist_words [] ≡ replicate Size.netlist 0
unfolding netlist_words line_parts blocks gates_of flat_map
no_words = zeros Size.lines (Size.gates * Size.gate_words) _ (no_gates (Size.gates * Size.gate_words))

-- The lengths and the words are variables here too.
cleared_as : (n m : ℕ) (before words : List ℕ) → m ≡ n → words ≡ replicate n 0 → ◌≡◌ {A = List ℕ} (replicate m 0 ++ drop m before) (words ++ drop n before)
cleared_as n m before words e w = rw (e, w)

-- A table whose published size is cleared holds no statement.
pub cleared-empty : (before : List ℕ) → Size.netlist ≤ length before
    → cleared Size.netlist before ≡ netlist_words [] ++ drop Size.netlist before
unfolding cleared
cleared-empty before h = cleared_as Size.netlist (min Size.netlist (length before)) before (netlist_words []) (omega arith) no_words
