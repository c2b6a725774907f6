-- What the program `scoap_open` prints. Document 02, K5: "A small program prints a copy of a netlist that the old rules accept,
-- with `open,L` added at its end for each such line, ascending; it reads the files, and reports a refused one, as `scoap`
-- does."
use Rattle.std.specs.Prelude.{◌||◌, List, [], ◌∷◌, ◌≡◌, ℕ, ◌+◌, ◌*◌, ◌≤◌, length}
use Rattle.sizes.specs.Sizes as Size
use Rattle.reading.specs.Numbers as No
use Rattle.reading.specs.Refusal.{Read, read, ◌>>=◌, ◌>>◌, weigh}
use Rattle.writer.specs.Buffer.{shown, Prints}
use Rattle.library_table.specs.Cells.{Cell}
use Rattle.library_table.specs.Library.{library}
use Rattle.netlist_table.specs.declared.Rules.TheVariants.{Old}
use Rattle.netlist_table.specs.Netlist.{Statement, netlist}
use Rattle.calculation.specs.Calculation.{analysed}
use Rattle.demands.specs.Outcome.{text_long, given_by, read_pair, report_of}
use Rattle.demands.specs.Printed.{printed}
use Rattle.netlist_open.specs.Copy.{copy_of}
use Rattle.netlist_open.specs.Kept.{Kept}

-- The bytes of the buffer, `COPY_BYTES`: the longest text, and for each line its digits and six.
abbrev pub copy_bytes : ℕ
copy_bytes = Size.text_bytes + Size.lines * (6 + Size.number_digits)

-- The copy, of whatever length, or the refusal by the old rules, 2 to 15: the texts are read in `scoap`'s order.
unfoldable pub copied : List ℕ → List ℕ → Read (List ℕ)
copied lib net =
    weigh 0 ((No.text_long, text_long lib || text_long net) ∷ [])
    >> (read_pair (given_by Old lib net) >>= λ p. read (copy_of net p.statements))

-- A copy is printed as it is, a refusal as `scoap` prints it.
unfoldable pub copy_printed : List ℕ → List ℕ → List ℕ
copy_printed lib net = shown (copied lib net)

-- Of texts that the old rules accept: the copy, what it keeps, and, where it keeps to document 01's sizes, what `scoap` prints
-- of it: the report of the numbers and counts of the old rules.
pub record Accepted (lib net : List ℕ) (cells : List Cell) (ss : List Statement) : Type 0 where
  pub copies : copy_printed lib net ≡ copy_of net ss
  pub keeps : Kept cells net ss
  pub reports : length (copy_of net ss) ≤ Size.text_bytes → printed lib (copy_of net ss) ≡ report_of ss (analysed cells ss)

-- What `put_copy` promises: what is printed stands in the buffer's front, nothing of it cut off; and what the copy keeps.
pub record Copied (lib net before after : List ℕ) (said : ℕ) : Type 0 where
  pub bytes : Prints copy_bytes (copy_printed lib net) before after said
  pub accepted : (cells : List Cell) (ss : List Statement) → length lib ≤ Size.text_bytes → length net ≤ Size.text_bytes
      → library lib ≡ read cells → netlist Old cells net ≡ read ss → Accepted lib net cells ss
