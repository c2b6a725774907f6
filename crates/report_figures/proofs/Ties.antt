-- Cells without pins and groups without rows (02, K1), by computation: what a tie cell's entry comes to, whole reports, and
-- what is refused.
use Rattle.common_laws.proofs.Base.{List, [], ◌∷◌, ◌++◌, ◌≡◌, refl}
use Prim.Native.String.{String}
use Rattle.text.specs.Bytes.{bytes, text}
use Rattle.reading.specs.Each.{Each}
use Rattle.reading.specs.Refusal.{read}
use Rattle.reading.specs.Answer.{done_read}
use Rattle.library_table.specs.declared.Heading.TheVariants.{Plain as plain}
use Rattle.library_table.specs.Library.{library, library_open}
use Rattle.report_figures.specs.Entries.{and2, tie0, tie1}
use Rattle.report_figures.specs.Figures.{Holds, outcome_open, lent, reported}
use Rattle.report_figures.proofs.Libraries.{row, Refused, Stops, stops}

-- Z is a group of no row, in its place, and row 1 one of depth 1 that names nothing.
entry : library (text tie0)
    ≡ read (record { name = bytes "TIE0"; pins = 0; heading = plain; cc = (row 1 0 ∷ []) ∷ [] ∷ []; co = []; sc = (row 0 0 ∷ []) ∷ [] ∷ []; so = [] } ∷ [])
unfolding library_open row
entry = refl

-- Both values tied, no input, and an AND2 that reads them: its output is never 1, and line 2 is never observed, since line 1,
-- which is never 1, stands in its way.
ties : Holds
    (record {
      library = tie0 ++ (tie1 ++ and2);
      netlist = "gate,TIE0,1" ∷ "gate,TIE1,2" ∷ "gate,AND2,3,1,2" ∷ "output,3" ∷ [];
      report =
          "line,cc0,cc1,sc0,sc1,co,so"
          ∷ "1,1,never,0,never,2,0"
          ∷ "2,never,1,never,0,never,never"
          ∷ "3,2,never,0,never,0,0"
          ∷ "sweeps,2,2,2,2"
          ∷ [];
    })
unfolding outcome_open lent reported
ties = refl

-- An entry of one pin with these CC and CO lines.
one : String → String → List String
one cc co = "Name,A,1" ∷ cc ∷ co ∷ "SC,2,4" ∷ "SO,40" ∷ "End" ∷ []

-- No row at all, and rows that name no pin where the other group is Z, with pins too.
accepted :
    (done_read (library (text (one "CC,Z,Z" "CO,Z"))) ≡ read tt) ×
    (done_read (library (text (one "CC,0,M,1,Z" "CO,40"))) ≡ read tt) ×
    (done_read (library (text (one "CC,Z,2,M,0" "CO,40"))) ≡ read tt)
unfolding library_open done_read one
accepted = (refl, refl, refl)

-- Z beside an M; a group too many or too few; 7 and 8 where the other group is Z, and 8 where it is not.
refusals : List Refused
refusals =
    stops (text (one "CC,Z,M,2,4" "CO,40")) 3 2
    ∷ stops (text (one "CC,2,M,Z" "CO,40")) 3 2
    ∷ stops (text (one "CC,Z,ZZ" "CO,40")) 3 2
    ∷ stops (text (one "CC,Z" "CO,40")) 6 2
    ∷ stops (text (one "CC,Z,10" "CO,40")) 7 2
    ∷ stops (text (one "CC,0,M,2,4" "CO,40")) 8 2
    ∷ stops (text ("Name,A,2" ∷ "CC,2,4" ∷ "CO,Z,2" ∷ [])) 8 3
    ∷ stops (text ("Name,A,0" ∷ "CC,0,1" ∷ [])) 8 2
    ∷ stops (text ("Name,A,0" ∷ "CC,0,Z" ∷ "CO,Z" ∷ [])) 6 3
    ∷ stops (text ("Name,A,0" ∷ "CC,0,Z" ∷ "CO," ∷ [])) 3 3
    ∷ []

refused-ties : Each Stops refusals
unfolding library_open refusals stops Each one
refused-ties = (refl, (refl, (refl, (refl, (refl, (refl, (refl, (refl, (refl, (refl, tt))))))))))
