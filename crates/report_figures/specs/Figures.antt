-- Document 01's figures that are marked P, as document 02 changes them, and document 02's own: whole texts in, whole report
-- out, by computation over the definitions. They are one theorem over a list, `figures_hold`.
use Rattle.std.specs.Prelude.{List, [], ◌∷◌, ◌++◌, ◌≡◌, refl, ℕ, replicate, take, drop}
use Prim.Native.String.{String}
use Rattle.sizes.specs.Sizes as Size
use Rattle.text.specs.Bytes.{text, bytes_open}
use Rattle.reading.specs.Each.{Each}
use Rattle.reading.specs.Refusal.{Read, refused, read}
use Rattle.library_table.specs.Cells.{Column, pin, observe, row_of, named, setting_columns, observing_columns}
use Rattle.library_table.specs.declared.Heading.TheVariants.{Plain as plain}
use Rattle.library_table.specs.Library.{library_open}
use Rattle.netlist_table.specs.Netlist.{netlist_open}
use Rattle.calculation.specs.Calculation.{calculation_open}
use Rattle.plans.specs.Sweep.{sweep_open}
use Rattle.report_text.specs.Report.{report_open}
use Rattle.demands.specs.Outcome.{Lent, Accepted, entry, outcome, table_short, text_long, report_of, second, reports, conclude, read_pair, reading, given_by, given_texts}
use Rattle.report_figures.specs.Entries.{c1130, c1490, nand2, and2, both2, xor2}

-- Opens all that a whole analysis computes with.
unfoldable pub outcome_open : ℕ
unfolding library_open netlist_open calculation_open report_open bytes_open sweep_open
    outcome entry table_short text_long report_of second reports conclude read_pair reading given_by
outcome_open = 0

-- Tables of the published sizes and a report buffer.
unfoldable pub lent : List ℕ → Lent
lent report =
    record {
      library = replicate Size.library 0;
      netlist = replicate Size.netlist 0;
      numbers = replicate Size.numbers 0;
      report = report;
    }

unfoldable pub reported : Read Accepted → Read (List ℕ)
reported (refused number line) = refused number line
reported (read a) = read a.report

-- A figure: a library, a netlist, and the report, each by its lines.
pub record Figure : Type 0 where
  pub library : List String
  pub netlist : List String
  pub report : List String

-- With a buffer as `scoap` itself lends it.
abbrev pub Holds : Figure → Type 0
Holds f =
    reported (outcome (given_texts (text f.library) (text f.netlist)) (lent (replicate Size.report_bytes 0)))
    ≡ read (text f.report)

-- ---- whole reports

-- "For the C1130 entry and the net text .. it prints all of"
abbrev pub c1130_figure : Figure
c1130_figure =
    record {
      library = c1130;
      netlist = "input,1" ∷ "input,2" ∷ "input,3" ∷ "gate,C1130,4,1,2,3" ∷ "output,4" ∷ [];
      report =
          "line,cc0,cc1,sc0,sc1,co,so"
          ∷ "1,1,1,0,0,3,0"
          ∷ "2,1,1,0,0,3,0"
          ∷ "3,1,1,0,0,3,0"
          ∷ "4,2,4,0,0,0,0"
          ∷ "sweeps,2,2,2,2"
          ∷ [];
    }

-- Document 02, K10: "With such a line present the report is printed twice, all inputs at LOW and all at HIGH, the second after
-- a line `high`." By hand: the output is 0 by input 2 or 3, at 1 and depth 1; it is 1 by all three, at their prices and depth
-- 1; and to observe an input the other two are set, so that the price of 1 stands in CO of 2 and 3 and not in its own.
abbrev pub range_figure : Figure
range_figure =
    record {
      library = c1130;
      netlist = "input,1" ∷ "input,2" ∷ "input,3" ∷ "range,1,2,5" ∷ "gate,C1130,4,1,2,3" ∷ "output,4" ∷ [];
      report =
          "line,cc0,cc1,sc0,sc1,co,so"
          ∷ "1,2,2,0,0,3,0"
          ∷ "2,1,1,0,0,4,0"
          ∷ "3,1,1,0,0,4,0"
          ∷ "4,2,5,0,0,0,0"
          ∷ "sweeps,2,2,2,2"
          ∷ "high"
          ∷ "line,cc0,cc1,sc0,sc1,co,so"
          ∷ "1,5,5,0,0,3,0"
          ∷ "2,1,1,0,0,7,0"
          ∷ "3,1,1,0,0,7,0"
          ∷ "4,2,8,0,0,0,0"
          ∷ "sweeps,2,2,2,2"
          ∷ [];
    }

-- "All pins inputs, Q output: Q 2,4,1,1,0,0; CO and SO of D 3,1, C 6,2, R 6,2."
abbrev pub c1490_figure : Figure
c1490_figure =
    record {
      library = c1490;
      netlist = "input,1" ∷ "input,2" ∷ "input,3" ∷ "gate,C1490,4,1,2,3" ∷ "output,4" ∷ [];
      report =
          "line,cc0,cc1,sc0,sc1,co,so"
          ∷ "1,1,1,0,0,3,1"
          ∷ "2,1,1,0,0,6,2"
          ∷ "3,1,1,0,0,6,2"
          ∷ "4,2,4,1,1,0,0"
          ∷ "sweeps,2,2,2,2"
          ∷ [];
    }

-- "Latch: gates 3 = (1,4), 4 = (2,3), inputs 1, 2, output 3: CC of 3 and 4 both 4,2; CO of 1 to 4: 3,5,0,2; sweeps 3 each."
abbrev pub latch_figure : Figure
latch_figure =
    record {
      library = nand2;
      netlist = "input,1" ∷ "input,2" ∷ "gate,NAND2,3,1,4" ∷ "gate,NAND2,4,2,3" ∷ "output,3" ∷ [];
      report =
          "line,cc0,cc1,sc0,sc1,co,so"
          ∷ "1,1,1,0,0,3,0"
          ∷ "2,1,1,0,0,5,0"
          ∷ "3,4,2,0,0,0,0"
          ∷ "4,4,2,0,0,2,0"
          ∷ "sweeps,3,3,3,3"
          ∷ [];
    }

-- "AND2 (CC 21,M,5,13) with both pins on the line before": gate i of the chain drives line i + 1.
abbrev pub chain : List String
chain =
    "gate,AND2,2,1,1" ∷ "gate,AND2,3,2,2" ∷ "gate,AND2,4,3,3" ∷ "gate,AND2,5,4,4" ∷ "gate,AND2,6,5,5"
    ∷ "gate,AND2,7,6,6" ∷ "gate,AND2,8,7,7" ∷ "gate,AND2,9,8,8" ∷ "gate,AND2,10,9,9" ∷ "gate,AND2,11,10,10"
    ∷ "gate,AND2,12,11,11" ∷ "gate,AND2,13,12,12" ∷ "gate,AND2,14,13,13" ∷ "gate,AND2,15,14,14" ∷ "gate,AND2,16,15,15"
    ∷ "gate,AND2,17,16,16" ∷ "gate,AND2,18,17,17" ∷ "gate,AND2,19,18,18" ∷ "gate,AND2,20,19,19" ∷ "gate,AND2,21,20,20"
    ∷ "gate,AND2,22,21,21" ∷ "gate,AND2,23,22,22" ∷ "gate,AND2,24,23,23" ∷ "gate,AND2,25,24,24" ∷ "gate,AND2,26,25,25"
    ∷ "gate,AND2,27,26,26" ∷ "gate,AND2,28,27,27" ∷ "gate,AND2,29,28,28" ∷ "gate,AND2,30,29,29" ∷ []

-- Document 02, K7: "Document 01's chains of 28 and 29 AND2 gates now give CC1 29 and 30, not 536,870,911 and over."
abbrev pub chain28_figure : Figure
chain28_figure =
    record {
      library = and2;
      netlist = "input,1" ∷ (take 28 chain ++ ("output,29" ∷ []));
      report =
          "line,cc0,cc1,sc0,sc1,co,so" ∷ "1,1,1,0,0,434,0" ∷ "2,2,2,0,0,432,0" ∷ "3,3,3,0,0,429,0" ∷ "4,4,4,0,0,425,0"
          ∷ "5,5,5,0,0,420,0" ∷ "6,6,6,0,0,414,0" ∷ "7,7,7,0,0,407,0" ∷ "8,8,8,0,0,399,0" ∷ "9,9,9,0,0,390,0"
          ∷ "10,10,10,0,0,380,0" ∷ "11,11,11,0,0,369,0" ∷ "12,12,12,0,0,357,0" ∷ "13,13,13,0,0,344,0" ∷ "14,14,14,0,0,330,0"
          ∷ "15,15,15,0,0,315,0" ∷ "16,16,16,0,0,299,0" ∷ "17,17,17,0,0,282,0" ∷ "18,18,18,0,0,264,0" ∷ "19,19,19,0,0,245,0"
          ∷ "20,20,20,0,0,225,0" ∷ "21,21,21,0,0,204,0" ∷ "22,22,22,0,0,182,0" ∷ "23,23,23,0,0,159,0" ∷ "24,24,24,0,0,135,0"
          ∷ "25,25,25,0,0,110,0" ∷ "26,26,26,0,0,84,0" ∷ "27,27,27,0,0,57,0" ∷ "28,28,28,0,0,29,0" ∷ "29,29,29,0,0,0,0"
          ∷ "sweeps,2,2,2,2" ∷ [];
    }

abbrev pub chain29_figure : Figure
chain29_figure =
    record {
      library = and2;
      netlist = "input,1" ∷ (chain ++ ("output,30" ∷ []));
      report =
          "line,cc0,cc1,sc0,sc1,co,so" ∷ "1,1,1,0,0,464,0" ∷ "2,2,2,0,0,462,0" ∷ "3,3,3,0,0,459,0" ∷ "4,4,4,0,0,455,0"
          ∷ "5,5,5,0,0,450,0" ∷ "6,6,6,0,0,444,0" ∷ "7,7,7,0,0,437,0" ∷ "8,8,8,0,0,429,0" ∷ "9,9,9,0,0,420,0"
          ∷ "10,10,10,0,0,410,0" ∷ "11,11,11,0,0,399,0" ∷ "12,12,12,0,0,387,0" ∷ "13,13,13,0,0,374,0" ∷ "14,14,14,0,0,360,0"
          ∷ "15,15,15,0,0,345,0" ∷ "16,16,16,0,0,329,0" ∷ "17,17,17,0,0,312,0" ∷ "18,18,18,0,0,294,0" ∷ "19,19,19,0,0,275,0"
          ∷ "20,20,20,0,0,255,0" ∷ "21,21,21,0,0,234,0" ∷ "22,22,22,0,0,212,0" ∷ "23,23,23,0,0,189,0" ∷ "24,24,24,0,0,165,0"
          ∷ "25,25,25,0,0,140,0" ∷ "26,26,26,0,0,114,0" ∷ "27,27,27,0,0,87,0" ∷ "28,28,28,0,0,59,0" ∷ "29,29,29,0,0,30,0"
          ∷ "30,30,30,0,0,0,0" ∷ "sweeps,2,2,2,2" ∷ [];
    }

-- "Take a cell none of whose rows names both values of one pin": any other cell pays for each pin, as document 01 has it.
abbrev pub both_figure : Figure
both_figure =
    record {
      library = both2;
      netlist = "input,1" ∷ "gate,BOTH2,2,1,1" ∷ "gate,BOTH2,3,2,2" ∷ "output,3" ∷ [];
      report = "line,cc0,cc1,sc0,sc1,co,so" ∷ "1,1,1,0,0,6,0" ∷ "2,2,3,0,0,4,0" ∷ "3,3,7,0,0,0,0" ∷ "sweeps,2,2,2,2" ∷ [];
    }

-- The same chain of such a cell, BOTH2 under the name that the chain uses, keeps document 01's two numbers: line 29 costs
-- 536,870,911 at 1, and line 30, the output of the 29th gate, over.
abbrev pub both_chain_figure : Figure
both_chain_figure =
    record {
      library = "Name,AND2,2" ∷ drop 1 both2;
      netlist = "input,1" ∷ (chain ++ ("output,30" ∷ []));
      report =
          "line,cc0,cc1,sc0,sc1,co,so" ∷ "1,1,1,0,0,over,0" ∷ "2,2,3,0,0,over,0" ∷ "3,3,7,0,0,over,0" ∷ "4,4,15,0,0,over,0"
          ∷ "5,5,31,0,0,over,0" ∷ "6,6,63,0,0,over,0" ∷ "7,7,127,0,0,over,0" ∷ "8,8,255,0,0,over,0" ∷ "9,9,511,0,0,over,0"
          ∷ "10,10,1023,0,0,over,0" ∷ "11,11,2047,0,0,over,0" ∷ "12,12,4095,0,0,over,0" ∷ "13,13,8191,0,0,over,0"
          ∷ "14,14,16383,0,0,over,0" ∷ "15,15,32767,0,0,over,0" ∷ "16,16,65535,0,0,over,0" ∷ "17,17,131071,0,0,over,0"
          ∷ "18,18,262143,0,0,over,0" ∷ "19,19,524287,0,0,over,0" ∷ "20,20,1048575,0,0,over,0" ∷ "21,21,2097151,0,0,over,0"
          ∷ "22,22,4194303,0,0,over,0" ∷ "23,23,8388607,0,0,over,0" ∷ "24,24,16777215,0,0,over,0"
          ∷ "25,25,33554431,0,0,over,0" ∷ "26,26,67108863,0,0,over,0" ∷ "27,27,134217727,0,0,939524096,0"
          ∷ "28,28,268435455,0,0,805306368,0" ∷ "29,29,536870911,0,0,536870912,0" ∷ "30,30,over,0,0,0,0" ∷ "sweeps,2,2,2,2"
          ∷ [];
    }

-- "Such a row that needs 0 and 1 of one line is no way at all.": XOR2 with both pins on one line is never 1.
abbrev pub xor_figure : Figure
xor_figure =
    record {
      library = xor2;
      netlist = "input,1" ∷ "gate,XOR2,2,1,1" ∷ "output,2" ∷ [];
      report = "line,cc0,cc1,sc0,sc1,co,so" ∷ "1,1,1,0,0,2,0" ∷ "2,2,never,0,never,0,0" ∷ "sweeps,2,2,2,2" ∷ [];
    }

-- "CO and SO rows keep document 01's reading.": line 2 is paid once for line 4 at 1, and twice where line 1 is observed.
abbrev pub tied_figure : Figure
tied_figure =
    record {
      library = c1130;
      netlist = "input,1" ∷ "input,2" ∷ "gate,C1130,4,1,2,2" ∷ "output,4" ∷ [];
      report = "line,cc0,cc1,sc0,sc1,co,so" ∷ "1,1,1,0,0,3,0" ∷ "2,1,1,0,0,3,0" ∷ "4,2,3,0,0,0,0" ∷ "sweeps,2,2,2,2" ∷ [];
    }

-- "Plausible errors: .. stopping after three sweeps": a chain listed backwards takes five (D43).
abbrev pub backwards_figure : Figure
backwards_figure =
    record {
      library = and2;
      netlist =
          "gate,AND2,5,4,4" ∷ "gate,AND2,4,3,3" ∷ "gate,AND2,3,2,2" ∷ "gate,AND2,2,1,1" ∷ "output,5" ∷ "input,1" ∷ [];
      report =
          "line,cc0,cc1,sc0,sc1,co,so"
          ∷ "1,1,1,0,0,14,0"
          ∷ "2,2,2,0,0,12,0"
          ∷ "3,3,3,0,0,9,0"
          ∷ "4,4,4,0,0,5,0"
          ∷ "5,5,5,0,0,0,0"
          ∷ "sweeps,5,5,5,5"
          ∷ [];
    }

-- "undriven line: never four times": line 2, beside an input and the output of a gate that reads both. "The undriven case there
-- gains such a line." (document 02, K5)
abbrev pub undriven_figure : Figure
undriven_figure =
    record {
      library = and2;
      netlist = "input,1" ∷ "gate,AND2,3,1,2" ∷ "output,3" ∷ "open,2" ∷ [];
      report =
          "line,cc0,cc1,sc0,sc1,co,so"
          ∷ "1,1,1,0,0,never,never"
          ∷ "2,never,never,never,never,2,0"
          ∷ "3,2,never,0,never,0,0"
          ∷ "sweeps,2,2,2,2"
          ∷ [];
    }

-- "empty netlist: header and `sweeps,1,1,1,1`"
abbrev pub empty_figure : Figure
empty_figure = record { library = []; netlist = []; report = "line,cc0,cc1,sc0,sc1,co,so" ∷ "sweeps,1,1,1,1" ∷ [] }

-- ---- rows decoded

-- A row's octal number in a cell of three pins, the columns that it may name, its depth, and those that it names, lowest first.
pub record Decoded : Type 0 where
  pub row : ℕ
  pub columns : List Column
  pub depth : ℕ
  pub names : List Column

abbrev pub Decodes : Decoded → Type 0
Decodes d = ((row_of plain d.row).depth ≡ d.depth) × (named 3 d.columns (row_of plain d.row).columns ≡ d.names)

-- "its rows 41, 125, 1025 decoded": pin 1 at 1; every pin at 0; pins 2 and 3 at 0, and the output observed. Depth 1 each.
abbrev pub rows : List Decoded
rows =
    record { row = 0o41; columns = setting_columns 3; depth = 1; names = pin 1 1 ∷ [] }
    ∷ record { row = 0o125; columns = setting_columns 3; depth = 1; names = pin 3 0 ∷ pin 2 0 ∷ pin 1 0 ∷ [] }
    ∷ record { row = 0o1025; columns = observing_columns 3; depth = 1; names = pin 3 0 ∷ pin 2 0 ∷ observe ∷ [] }
    ∷ []

-- ---- the theorem

abbrev pub figures : List Figure
figures =
    c1130_figure
    ∷ c1490_figure
    ∷ latch_figure
    ∷ chain28_figure
    ∷ chain29_figure
    ∷ both_figure
    ∷ both_chain_figure
    ∷ xor_figure
    ∷ tied_figure
    ∷ backwards_figure
    ∷ undriven_figure
    ∷ range_figure
    ∷ empty_figure
    ∷ []

pub figures_hold : Each Decodes rows × Each Holds figures
unfolding outcome_open lent reported Each
figures_hold = (
  ((refl, refl), ((refl, refl), ((refl, refl), tt))),
  (refl, (refl, (refl, (refl, (refl, (refl, (refl, (refl, (refl, (refl, (refl, (refl, (refl, tt))))))))))))),
)
