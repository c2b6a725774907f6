-- Library texts by computation: document 01's entries as the cells that they come to, the largest that passes, and a refused
-- text for each number.
use Rattle.common_laws.proofs.Base.{List, [], ◌∷◌, ◌++◌, ◌≡◌, refl, ℕ}
use Prim.Native.String.{String}
use Rattle.text.specs.Bytes.{bytes, text}
use Rattle.reading.specs.Each.{Each}
use Rattle.reading.specs.Refusal.{refused, read}
use Rattle.reading.specs.Answer.{done_read}
use Rattle.library_table.specs.Cells.{Row, Cell}
use Rattle.library_table.specs.declared.Heading.TheVariants.{Plain as plain}
use Rattle.library_table.specs.Library.{library, library_open}
use Rattle.report_figures.specs.Entries.{c1130, c1490, nand2}

unfoldable pub row : ℕ → ℕ → Row
row d x = record { depth = d; columns = x }

-- ---- document 01's three entries

-- The columns are written in octal, half of the row's number.
unfoldable pub cell1130 : Cell
cell1130 =
    record {
      name = bytes "C1130";
      pins = 3;
      heading = plain;
      cc = (row 1 0o20 ∷ row 1 0o4 ∷ row 1 0o1 ∷ []) ∷ (row 1 0o52 ∷ []) ∷ [];
      co = (row 1 0o412 ∷ []) ∷ (row 1 0o442 ∷ []) ∷ (row 1 0o450 ∷ []) ∷ [];
      sc = (row 0 0o20 ∷ row 0 0o4 ∷ row 0 0o1 ∷ []) ∷ (row 0 0o52 ∷ []) ∷ [];
      so = (row 0 0o412 ∷ []) ∷ (row 0 0o442 ∷ []) ∷ (row 0 0o450 ∷ []) ∷ [];
    }

unfoldable pub cell1490 : Cell
cell1490 =
    record {
      name = bytes "C1490";
      pins = 3;
      heading = plain;
      cc = (row 0 0o11 ∷ row 0 0o56 ∷ []) ∷ (row 0 0o36 ∷ []) ∷ [];
      co = (row 0 0o416 ∷ []) ∷ (row 0 0o556 ∷ row 0 0o636 ∷ []) ∷ (row 0 0o511 ∷ []) ∷ [];
      sc = (row 1 0o11 ∷ row 1 0o56 ∷ []) ∷ (row 1 0o36 ∷ []) ∷ [];
      so = (row 1 0o416 ∷ []) ∷ (row 1 0o556 ∷ row 1 0o636 ∷ []) ∷ (row 1 0o511 ∷ []) ∷ [];
    }

unfoldable pub cell_nand2 : Cell
cell_nand2 =
    record {
      name = bytes "NAND2";
      pins = 2;
      heading = plain;
      cc = (row 1 0o5 ∷ []) ∷ (row 1 0o10 ∷ row 1 0o2 ∷ []) ∷ [];
      co = (row 1 0o101 ∷ []) ∷ (row 1 0o104 ∷ []) ∷ [];
      sc = (row 0 0o5 ∷ []) ∷ (row 0 0o10 ∷ row 0 0o2 ∷ []) ∷ [];
      so = (row 0 0o101 ∷ []) ∷ (row 0 0o104 ∷ []) ∷ [];
    }

pub entries : library (text (c1130 ++ (c1490 ++ nand2))) ≡ read (cell1130 ∷ cell1490 ∷ cell_nand2 ∷ [])
unfolding library_open row cell1130 cell1490 cell_nand2
entries = refl

-- "Sizes: 8 pins pass": eight groups whose rows have seven digits. An empty text is a library of no entry.
pub eight-pins : List String
eight-pins =
    "Name,A,8"
    ∷ "CC,2,4"
    ∷ "CO,2000000,2000000,2000000,2000000,2000000,2000000,2000000,2000000"
    ∷ "SC,2,4"
    ∷ "SO,2000000,2000000,2000000,2000000,2000000,2000000,2000000,2000000"
    ∷ "End"
    ∷ []

pub accepted-figures : (done_read (library (text eight-pins)) ≡ read tt) × (library [] ≡ read [])
unfolding library_open done_read eight-pins
accepted-figures = (refl, refl)

-- ---- refused texts

-- The rest of an entry of one pin, from its CC line on.
one-pin : List String
one-pin = "CC,2,4" ∷ "CO,40" ∷ "SC,2,4" ∷ "SO,40" ∷ "End" ∷ []

-- An entry of one pin for each of these bytes, which is its name.
pub entries-of : List ℕ → List ℕ
entries-of [] = []
entries-of (b ∷ bs) = (bytes "Name," ++ (b ∷ bytes ",1")) ++ (10 ∷ (text one-pin ++ entries-of bs))

-- 17 rows joined by M.
seventeen : String
seventeen = "CC,2,M,2,M,2,M,2,M,2,M,2,M,2,M,2,M,2,M,2,M,2,M,2,M,2,M,2,M,2,M,2,M,2,4"

pub record Refused : Type 0 where
  pub given : List ℕ
  pub number : ℕ
  pub line : ℕ

abbrev pub Stops : Refused → Type 0
Stops f = library f.given ≡ refused f.number f.line

unfoldable pub stops : List ℕ → ℕ → ℕ → Refused
stops t number line = record { given = t; number = number; line = line }

-- Each number by a text of its own; then the last line without byte 10, an entry broken off by the end, and lines with two
-- causes, of which the lower number counts wherever it stands in the line.
pub refusals : List Refused
refusals =
    stops (text ("Name,A,1" ∷ "CC,2,4," ∷ [])) 3 2
    ∷ stops (text ("Name,A,1" ∷ one-pin ++ ("Name,A,1" ∷ []))) 4 7
    ∷ stops (text ("Name,A,9" ∷ [])) 5 1
    ∷ stops (text ("Name,A,1" ∷ "CC" ∷ [])) 6 2
    ∷ stops (text ("Name,A,1" ∷ seventeen ∷ [])) 6 2
    ∷ stops (text ("Name,A,1" ∷ "CC,2,10" ∷ [])) 7 2
    ∷ stops (text ("Name,A,1" ∷ "CC,2,0" ∷ [])) 8 2
    ∷ stops (text ("Name,A,1" ∷ "CC,2,4" ∷ "CO,20" ∷ [])) 8 3
    ∷ stops (text ("Name,A,1" ∷ "CC,2,4" ∷ "CO,40" ∷ "SC,2,4" ∷ "SO,40" ∷ []) ++ bytes "End") 3 6
    ∷ stops (text ("Name,A,1" ∷ "CC,2,4" ∷ [])) 3 3
    ∷ stops (text ("Name,A,1" ∷ "CC,0,10" ∷ [])) 7 2
    ∷ stops (text ("Name,A,1" ∷ "CC,2,2,10,08" ∷ [])) 3 2
    ∷ stops (text ("Name,A,1" ∷ one-pin ++ ("Name,A,9" ∷ []))) 4 7
    ∷ stops (text ("" ∷ [])) 3 1
    ∷ []

pub refused-figures : Each Stops refusals
unfolding library_open refusals stops Each one-pin seventeen
refused-figures =
    (refl, (refl, (refl, (refl, (refl, (refl, (refl, (refl, (refl, (refl, (refl, (refl, (refl, (refl, tt))))))))))))))

-- "9 a 33rd entry": A to Z and 0 to 6, at its name line.
pub thirty_third : library (entries-of (bytes "ABCDEFGHIJKLMNOPQRSTUVWXYZ0123456")) ≡ refused 9 193
unfolding library_open one-pin entries-of
thirty_third = refl
