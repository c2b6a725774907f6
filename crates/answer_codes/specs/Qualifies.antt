-- What the call for C answers that tells of which netlists document 02, K8, speaks.
use Rattle.std.specs.Prelude.{List, [], ◌↔◌, ◌≡◌, ℕ, ◌/◌, ◌≤◌}
use Rattle.reading.specs.Numbers as No
use Rattle.reading.specs.Refusal.{Read, read, ◌>>◌}
use Rattle.writer.specs.Buffer.{code_lines}
use Rattle.library_table.specs.Layout.{library_words}
use Rattle.netlist_table.specs.Layout.{netlist_words}
use Rattle.demands.specs.Outcome as O
use Rattle.demands.specs.Own.{own_tables}
use Rattle.chip_call.specs.Qualified.{qualifying, Says}
use Rattle.answer_codes.specs.Number.{told_by, Tells}

-- What the two texts come to, on tables of its own: the entry, then the library and the netlist. Nothing is calculated, and
-- nothing reported.
unfoldable pub qualifies_read : List ℕ → List ℕ → Read O.Pair
qualifies_read lib net = O.entry (O.given_texts lib net) (own_tables []) >> O.read_pair (O.given_texts lib net)

-- What is said of the tables of what was read, or the refusal.
abbrev pub qualifies_number : Read O.Pair → Read ℕ
qualifies_number o = told_by (λ p. qualifying (library_words p.cells) (netlist_words p.statements)) o

-- Its number by equation; what it says of an accepted pair; and which numbers there are.
pub record QualifiesCoded (lib net : List ℕ) (said : ℕ) : Type 0 where
  pub answers : Tells (qualifies_number (qualifies_read lib net)) said
  pub says : (p : O.Pair) → qualifies_read lib net ≡ read p → Says p.cells p.statements said
  -- 0 to 2 for an accepted library and netlist, and for no other.
  pub accepted : (said ≤ 2) ↔ ((p : O.Pair) × (qualifies_read lib net ≡ read p))
  -- "1 a lent table below its published size": its own tables are not.
  pub table_short : said / code_lines ≡ No.table_short → ⊥
  -- "17 report longer than its buffer": there is no report.
  pub report_long : said / code_lines ≡ No.report_long → ⊥
