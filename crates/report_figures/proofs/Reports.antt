-- Whole calls and reports by computation, beside document 01's own figures: a gate that reads its own output, lines that no
-- netlist mentions, buffers that are just long enough and one byte too short, refusals at entry, and costs and counts of every
-- length.
use Rattle.common_laws.proofs.Base.{List, [], ◌∷◌, ◌++◌, ◌≡◌, refl, ℕ, ◌-◌, eqb, replicate, take, drop}
use Rattle.sizes.specs.Places.{line_place}
use Rattle.sizes.specs.Sizes as Size
use Rattle.cost.specs.Cost.{over, never}
use Rattle.text.specs.Bytes.{text}
use Rattle.reading.specs.Numbers as No
use Rattle.reading.specs.Refusal.{Read, refused, read}
use Rattle.report_text.specs.Report.{report_bytes, report_open}
use Rattle.demands.specs.declared.Summary.{Summary}
use Rattle.demands.specs.Outcome.{Given, Lent, Accepted, outcome, given_texts, summary, answer, left, left_from, left_later, filled, zeroed}
use Rattle.report_figures.specs.Entries.{nand2}
use Rattle.report_figures.specs.Figures.{Figure, Holds, outcome_open, lent, reported, c1130_figure, range_figure, undriven_figure}

-- ---- whole reports

-- "for each the output's 0 before its 1 .. using numbers already renewed in this sweep": where a gate reads its own output,
-- its 0 sees the 1 of the sweep before, which shows in the counts (D24).
own-output : Holds
    (record {
      library = nand2;
      netlist = "input,1" ∷ "gate,NAND2,2,1,2" ∷ "output,2" ∷ [];
      report = "line,cc0,cc1,sc0,sc1,co,so" ∷ "1,1,1,0,0,3,0" ∷ "2,4,2,0,0,0,0" ∷ "sweeps,3,3,2,2" ∷ [];
    })
unfolding outcome_open lent reported
own-output = refl

-- ---- what a call answers and leaves

given : Figure → Given
given f = given_texts (text f.library) (text f.netlist)

numbers_of : Read Accepted → List ℕ
numbers_of (refused number line) = []
numbers_of (read a) = a.analysis.numbers

-- "unmentioned lines hold never"
unmentioned :
    take Size.costs (drop (line_place 4) (numbers_of (outcome (given undriven_figure) (lent (replicate Size.report_bytes 0)))))
    ≡ replicate Size.costs never
unfolding outcome_open lent numbers_of given
unmentioned = refl

-- What a figure's analysis comes to with a buffer of this many bytes, each 5: the answer, and the buffer afterwards.
answered : Figure → ℕ → Read Summary × List ℕ
answered f space =
    let m = lent (replicate space 5) in
    (answer (outcome (given f) m), (left (given f) m).report)

fits : ℕ → Summary
fits n = record { length = n; counts = record { cc = 2; sc = 2; co = 2; so = 2 } }

-- The 98 bytes of the report fill a buffer of that length, and leave what is behind them in a longer one. "17 report longer
-- than its buffer": one that is shorter is left zero (D31).
buffers :
    (answered c1130_figure 98 ≡ (read (fits 98), text c1130_figure.report)) ×
    (answered c1130_figure 100 ≡ (read (fits 98), text c1130_figure.report ++ (5 ∷ 5 ∷ []))) ×
    (answered c1130_figure 97 ≡ (refused No.report_long 0, replicate 97 0))
unfolding outcome_open lent given answered fits answer summary left left_from left_later filled zeroed
buffers = (refl, refl, refl)

-- "refusal 17 counts both reports" (02, K10): two of 98 bytes and the line between them.
both-weighed :
    (answered range_figure 201 ≡ (read (fits 201), text range_figure.report)) ×
    (answered range_figure 200 ≡ (refused No.report_long 0, replicate 200 0))
unfolding outcome_open lent given answered fits answer summary left left_from left_later filled zeroed
both-weighed = (refl, refl)

-- "1 a lent table below its published size; 2 a text above 65,535 bytes"; "Entry refusals leave lent memory
-- untouched" (D33).
short : Lent
short =
    record {
      library = replicate Size.library 7;
      netlist = replicate Size.netlist 7;
      numbers = replicate (Size.numbers - 1) 7;
      report = 7 ∷ [];
    }

long : Given
long = given_texts [] (replicate 65536 10)

entry-refusals :
    (outcome long short ≡ refused 1 0) ×
    (outcome long (lent []) ≡ refused 2 0) ×
    (left long short ≡ short) ×
    (left long (lent []) ≡ lent [])
unfolding outcome_open lent short long left left_from left_later
entry-refusals = (refl, refl, refl, refl)

-- ---- costs and counts

-- Line 2 alone, with the greatest exact cost, over, never and a number above never, and counts of one to ten digits.
one_line_lem :
    report_bytes (eqb 2)
    (0 ∷ 0 ∷ 0 ∷ 0 ∷ 0 ∷ 0 ∷ 999999999 ∷ over ∷ never ∷ 4294967295 ∷ 10 ∷ 0 ∷ [])
    (record { cc = 0; sc = 100; co = 4294967295; so = 9 })
    ≡ text ("line,cc0,cc1,sc0,sc1,co,so" ∷ "2,999999999,over,never,never,10,0" ∷ "sweeps,0,100,4294967295,9" ∷ [])
unfolding report_open
one_line_lem = refl
