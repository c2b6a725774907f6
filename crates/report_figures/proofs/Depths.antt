-- Entries that begin with Name3 (02, K2), by computation: one entry written both ways, a chain of depth 7, the longest rows,
-- and what is refused.
use Rattle.common_laws.proofs.Base.{List, [], ◌∷◌, ◌++◌, ◌≡◌, refl}
use Prim.Native.String.{String}
use Rattle.text.specs.Bytes.{text}
use Rattle.reading.specs.Each.{Each}
use Rattle.reading.specs.Refusal.{read}
use Rattle.reading.specs.Answer.{done_read}
use Rattle.library_table.specs.Cells.{Cell}
use Rattle.library_table.specs.declared.Heading.TheVariants.{Deep as deep}
use Rattle.library_table.specs.Library.{library, library_open}
use Rattle.report_figures.specs.Entries.{c1130_deep, delay}
use Rattle.report_figures.specs.Figures.{Holds, outcome_open, lent, reported, c1130_figure}
use Rattle.report_figures.proofs.Libraries.{row, cell1130, Refused, Stops, stops}

-- The same cell but for its heading.
as_deep : Cell → Cell
as_deep c =
    record {
      name = c.name;
      pins = c.pins;
      heading = deep;
      cc = c.cc;
      co = c.co;
      sc = c.sc;
      so = c.so;
    }

entry : library (text c1130_deep) ≡ read (as_deep cell1130 ∷ [])
unfolding library_open row cell1130 as_deep
entry = refl

-- And the same numbers.
both_ways : Holds (record { library = c1130_deep; netlist = c1130_figure.netlist; report = c1130_figure.report })
unfolding outcome_open lent reported
both_ways = refl

chain : Holds
    (record {
      library = delay;
      netlist = "input,1" ∷ "gate,DELAY,2,1" ∷ "gate,DELAY,3,2" ∷ "gate,DELAY,4,3" ∷ "output,4" ∷ [];
      report =
          "line,cc0,cc1,sc0,sc1,co,so"
          ∷ "1,1,1,0,0,21,21"
          ∷ "2,8,8,7,7,14,14"
          ∷ "3,15,15,14,14,7,7"
          ∷ "4,22,22,21,21,0,0"
          ∷ "sweeps,2,2,2,2"
          ∷ [];
    })
unfolding outcome_open lent reported
chain = refl

-- "rows up to 8 digits": eight pins need them to observe the output.
eight-digits : List String
eight-digits =
    "Name3,A,8"
    ∷ "CC,1777770,17"
    ∷ "CO,10000000,10000000,10000000,10000000,10000000,10000000,10000000,17777777"
    ∷ "SC,10,20"
    ∷ "SO,10000000,10000000,10000000,10000000,10000000,10000000,10000000,10000000"
    ∷ "End"
    ∷ []

accepted : done_read (library (text eight-digits)) ≡ read tt
unfolding library_open done_read eight-digits
accepted = refl

-- Eight digits under Name, nine under Name3; a name used before in either kind; a bit above the columns, by the entry's own
-- kind; a row that is all depth, and one that does not observe the output, which it does under Name.
refusals : List Refused
refusals =
    stops (text ("Name,A,8" ∷ "CC,10000000,2" ∷ [])) 3 2
    ∷ stops (text ("Name3,A,8" ∷ "CC,100000000,10" ∷ [])) 3 2
    ∷ stops (text ("Name33,A,1" ∷ [])) 3 1
    ∷ stops (text (c1130_deep ++ ("Name,C1130,3" ∷ []))) 4 7
    ∷ stops (text ("Name,A,0" ∷ "CC,Z,Z" ∷ "CO" ∷ "SC,Z,Z" ∷ "SO" ∷ "End" ∷ "Name3,A,1" ∷ [])) 4 7
    ∷ stops (text ("Name3,A,9" ∷ [])) 5 1
    ∷ stops (text ("Name3,A,1" ∷ "CC,10,40" ∷ [])) 7 2
    ∷ stops (text ("Name,A,1" ∷ "CC,2,20" ∷ [])) 7 2
    ∷ stops (text ("Name3,A,1" ∷ "CC,7,10" ∷ [])) 8 2
    ∷ stops (text ("Name3,A,1" ∷ "CC,10,20" ∷ "CO,40" ∷ [])) 8 3
    ∷ []

refused-deep : Each Stops refusals
unfolding library_open refusals stops Each
refused-deep = (refl, (refl, (refl, (refl, (refl, (refl, (refl, (refl, (refl, (refl, tt))))))))))
