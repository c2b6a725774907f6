-- The report as a list of bytes. Document 01, "Report".
use Rattle.std.specs.Prelude.{Bool, List, [], ◌∷◌, ◌++◌, ℕ, zero, suc, ◌+◌, ◌*◌, ◌-◌, ◌/◌, leb, eqb, get_or}
use Rattle.sizes.specs.Sizes as Size
use Rattle.sizes.specs.Places.{line_place}
use Rattle.text.specs.Bytes.{bytes, bytes_open}
use Rattle.reading.specs.Choice.{pick}
use Rattle.writer.specs.Decimal.{decimal_bytes, decimal_open}
use Rattle.calculation.specs.declared.Counts.{Counts}
use Rattle.cost.specs.Cost.{over, never}

-- "costs as decimals, `over` or `never`"; a number above never counts as never.
unfoldable pub cost_bytes : ℕ → List ℕ
cost_bytes x = pick (leb never x) (bytes "never") (pick (eqb x over) (bytes "over") (decimal_bytes x))

-- A comma and a cost, so many of them, from a place of the numbers table on.
unfoldable pub costs_from : List ℕ → ℕ → ℕ → List ℕ
costs_from numbers zero place = []
costs_from numbers (suc n) place = (44 ∷ cost_bytes (get_or numbers place 0)) ++ costs_from numbers n (suc place)

-- `4,2,4,0,0,0,0`: the line and its six costs; "Every printed line ends with byte 10."
unfoldable pub line_bytes : List ℕ → ℕ → List ℕ
line_bytes numbers l = decimal_bytes l ++ (costs_from numbers Size.costs (line_place l) ++ (10 ∷ []))

-- "Lines mentioned in the netlist, ascending": so many lines from l on, those that are mentioned.
unfoldable pub lines_bytes : (ℕ → Bool) → List ℕ → ℕ → ℕ → List ℕ
lines_bytes mentioned numbers zero l = []
lines_bytes mentioned numbers (suc n) l = pick (mentioned l) (line_bytes numbers l) [] ++ lines_bytes mentioned numbers n (suc l)

-- "sweeps for CC, SC, CO, SO"
unfoldable pub sweeps_bytes : Counts → List ℕ
sweeps_bytes k =
    bytes "sweeps," ++ (decimal_bytes k.cc
    ++ (44 ∷ (decimal_bytes k.sc ++ (44 ∷ (decimal_bytes k.co ++ (44 ∷ (decimal_bytes k.so ++ (10 ∷ []))))))))

unfoldable pub header : List ℕ
header = bytes "line,cc0,cc1,sc0,sc1,co,so" ++ (10 ∷ [])

unfoldable pub report_bytes : (ℕ → Bool) → List ℕ → Counts → List ℕ
report_bytes mentioned numbers k = header ++ (lines_bytes mentioned numbers Size.lines 1 ++ sweeps_bytes k)

-- "the second after a line `high`" (02, K10)
unfoldable pub high_line : List ℕ
high_line = bytes "high" ++ (10 ∷ [])

-- The digits of all line numbers: as many each as the highest has, but that from 0 on 10 have one, 100 at most two, and so on:
-- of 1,000 to 9,999 lines that is 1,111 less.
abbrev pub line_digits : ℕ
line_digits = Size.number_digits * (Size.lines + 1) - (Size.numbers_end - 1) / 9

-- The digits of the highest count of sweeps: those of the highest line, and one more from the first number on that has more.
abbrev pub most_sweeps : ℕ
most_sweeps = 2 * Size.gates + 1

abbrev pub sweep_digits : ℕ
sweep_digits = Size.number_digits + most_sweeps / Size.numbers_end

-- What stands behind the number of a line: each cost of nine digits at most behind its comma, and the line's end.
abbrev pub behind_number : ℕ
behind_number = Size.costs * 10 + 1

-- The bytes of the header, and those of the sweeps beside the digits of the four counts.
abbrev pub header_bytes : ℕ
header_bytes = 27

abbrev pub sweeps_beside : ℕ
sweeps_beside = 11

-- No report of an analysis is longer (`report-length` of proofs/Laws.antt): of 1,000 lines 63,947 bytes.
abbrev pub longest_report : ℕ
longest_report = header_bytes + line_digits + Size.lines * behind_number + sweeps_beside + 4 * sweep_digits

-- .. nor are two, with the line between them (02, K10).
abbrev pub longest_reports : ℕ
longest_reports = longest_report + (5 + longest_report)

-- Opens the page's definitions, where a figure computes with them.
unfoldable pub report_open : ℕ
unfolding bytes_open decimal_open cost_bytes costs_from line_bytes lines_bytes sweeps_bytes header report_bytes high_line
report_open = 0
