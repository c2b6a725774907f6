-- How far the rows of a group are printed, while they are found one by one.
use Rattle.common_laws.proofs.Base.{Bool, true, false, ◌||◌, List, [], ◌++◌, map, append_assoc, append-nil, ◌≡◌, refl, sym, ap, ◌∙◌, ℕ, suc, ◌-◌, ◌^◌, ◌<◌, arith}
use Rattle.reading.specs.Choice.{pick}
use Rattle.reading.proofs.Laws.{by_test}
use Rattle.text.specs.Bytes.{bytes}
use Rattle.writer.specs.Put.{Puts}
use Rattle.writer.specs.declared.bytes.Cursor.{Cursor}
use Rattle.writer.proofs.Steps.{puts-none, puts_then}
use Rattle.truth_tables.specs.Tables.{keep}
use Rattle.truth_rows.specs.Asked.{asked_number}
use Rattle.truth_rows.specs.Masks.{prime_row, down_from, prime_rows}
use Rattle.truth_rows.specs.declared.Asked.{Asked}
use Rattle.truth_entry.specs.Printed.{one_bytes, more_bytes, rows_bytes, Passed}

-- The rows below a number that are still to be printed.
unfoldable pub left_bytes : Asked → Bool → ℕ → List ℕ
left_bytes a any row = more_bytes any (map (asked_number a) (keep (prime_row a.wanted a.pins) (down_from row)))

pub record Progress (a : Asked) (before : Cursor) (row : ℕ) (any : Bool) (after : Cursor) : Type 0 where
  pub done : List ℕ
  pub put : Puts done before after
  pub whole : done ++ left_bytes a any row ≡ rows_bytes a

module _ (a : Asked) (before : Cursor) where
  pub progress-none : (row : ℕ) → row ≡ 3 ^ a.pins → Progress a before row false before
  unfolding left_bytes rows_bytes prime_rows
  progress-none row e = record { done = []; put = puts-none before; whole = rw e refl }

  left_row : (any : Bool) (r : ℕ) → left_bytes a any (suc r)
      ≡ pick (prime_row a.wanted a.pins r) (one_bytes any (asked_number a r)) [] ++ left_bytes a (prime_row a.wanted a.pins r || any) r
  unfolding left_bytes down_from keep pick more_bytes
  left_row any r = by_test (prime_row a.wanted a.pins r) (λ e. rw e refl) (λ e. rw e refl)

  left_one : (any : Bool) (row : ℕ) → 0 < row → left_bytes a any row
      ≡ pick (prime_row a.wanted a.pins (row - 1)) (one_bytes any (asked_number a (row - 1))) []
      ++ left_bytes a (prime_row a.wanted a.pins (row - 1) || any) (row - 1)
  left_one any row h = let e : row ≡ suc (row - 1) = omega arith in ap (left_bytes a any) e ∙ left_row any (row - 1)

  pub progress-more : (row : ℕ) (any next : Bool) (mid after : Cursor) → 0 < row → Progress a before row any mid
      → Passed a (row - 1) any next mid after → Progress a before (row - 1) next after
  progress-more row any next mid after h p q =
      let one = pick (prime_row a.wanted a.pins (row - 1)) (one_bytes any (asked_number a (row - 1))) [] in
      record {
        done = p.done ++ one;
        put = puts_then p.put q.put;
        whole =
            append_assoc p.done one (left_bytes a next (row - 1))
            ∙ ap (λ (l : List ℕ). p.done ++ l) (rw q.any (sym (left_one any row h)))
            ∙ p.whole;
      }

  pub progress-all : (after : Cursor) → Progress a before 0 true after → Puts (rows_bytes a) before after
  unfolding left_bytes down_from keep more_bytes pick
  progress-all after p =
      let all : p.done ≡ rows_bytes a = sym (append-nil p.done) ∙ p.whole in rw (← all) p.put

  pub progress-empty : (mid after : Cursor) → Progress a before 0 false mid → Puts (bytes "Z") mid after → Puts (rows_bytes a) before after
  unfolding left_bytes down_from keep more_bytes pick
  progress-empty mid after p q =
      let all : p.done ++ bytes "Z" ≡ rows_bytes a = p.whole in
      rw (← all) (puts_then p.put q)
