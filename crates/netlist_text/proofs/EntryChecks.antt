-- The entry of the reader: what its two checks say of the lengths, and what the reader answers and leaves then.
use Rattle.common_laws.proofs.Base.{List, [], ◌≡◌, refl, ℕ, ◌≤◌, ltb-false, ltb, length}
use Rattle.sizes.specs.Sizes as Size
use Rattle.reading.specs.Numbers as No
use Rattle.reading.specs.Refusal.{read}
use Rattle.reading.specs.Answer.{answer_read}
use Rattle.reading.specs.declared.Refusal.{Refusal}
use Rattle.std.specs.Prelude.{Result, Err}
use Rattle.reading.proofs.Laws.{or_right, weigh-one}
use Rattle.library_table.specs.Cells.{Cell}
use Rattle.library_table.specs.Layout.{CellsTold, TellsCells}
use Rattle.netlist_table.specs.declared.Rules.{Rules}
use Rattle.netlist_table.specs.Netlist.{netlist}
use Rattle.netlist_text.specs.Reader.{netlist_entry, ReadsAs, ReadsFrom, ReadsNetlist}

module _ (text library table : ℕ) where
  -- What is known behind the entry.
  pub entered : netlist_entry text library table ≡ read tt → (text ≤ Size.text_bytes) × (Size.netlist ≤ table)
  unfolding netlist_entry
  entered e =
      let w = weigh-one No.table_short 0 _ _ tt e in
      let v = weigh-one No.text_long 0 _ [] tt w.1 in
      (ltb-false Size.text_bytes text v.0, ltb-false table Size.netlist (or_right (ltb library Size.library) _ w.0))

-- ---- what the reader answers and leaves

module _ (rules : Rules) (text library before : List ℕ) where
  pub shut : (r : Refusal) → answer_read (Err r) ≡ netlist_entry (length text) (length library) (length before)
      → ReadsNetlist rules text library before (Err r) before
  unfolding ReadsNetlist ReadsFrom answer_read
  shut r enters = rw (← enters) (refl, refl)

  pub behind : netlist_entry (length text) (length library) (length before) ≡ read tt → (w : Result (Unit {0}) Refusal) (after : List ℕ)
      → (part : List ℕ) → TellsCells library part
      → ((cells : List Cell) → CellsTold part cells → ReadsAs (netlist rules cells text) before w after)
      → ReadsNetlist rules text library before w after
  unfolding ReadsNetlist ReadsFrom
  behind unshut w after part tells reads =
      rw unshut (record { any = reads _ tells.any; holds = λ cells h. reads cells (tells.holds cells h) })
