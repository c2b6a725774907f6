-- Figures of document 01 "Netlist" and "Where a text stops", by computation: the NAND2 latch of "Figures to hold" reads to
-- its statements, and a text for each refusal 10 to 15, and 20 to 22, is refused by its number at its line.
use Rattle.common_laws.proofs.Base.{List, [], ◌∷◌, ◌≡◌, refl, ℕ}
use Rattle.text.specs.Bytes.{bytes, text}
use Rattle.reading.specs.Refusal.{Read, refused, read}
use Rattle.library_table.specs.Cells.{Cell}
use Rattle.library_table.specs.declared.Heading.TheVariants.{Plain as plain}
use Rattle.netlist_table.specs.declared.Rules.TheVariants.{Old, New}
use Rattle.netlist_table.specs.Netlist.{Statement, input, output, opened, mark, gate, netlist, netlist_open}

-- A library of one cell, by the name and the pins that a netlist asks for.
abbrev cells : List Cell
cells = record { name = bytes "NAND2"; pins = 2; heading = plain; cc = []; co = []; sc = []; so = [] } ∷ []

unfoldable pub read_all : List (List ℕ) → List (Read (List Statement))
read_all [] = []
read_all (t ∷ ts) = netlist New cells t ∷ read_all ts

pub accepted : read_all
    (text ("input,1" ∷ "input,2" ∷ "gate,NAND2,3,1,4" ∷ "gate,NAND2,4,2,3" ∷ "output,3" ∷ [])
    ∷ text ("output,1000" ∷ "gate,NAND2,7,7,7" ∷ "open,1000" ∷ "open,3" ∷ [])
    ∷ text []
    ∷ [])
    ≡ read
    (mark input 1
    ∷ mark input 2
    ∷ gate (record { cell = 0; line = 3; pins = 1 ∷ 4 ∷ [] })
    ∷ gate (record { cell = 0; line = 4; pins = 2 ∷ 3 ∷ [] })
    ∷ mark output 3
    ∷ [])
    ∷ read
    (mark output 1000 ∷ gate (record { cell = 0; line = 7; pins = 7 ∷ 7 ∷ [] }) ∷ mark opened 1000 ∷ mark opened 3 ∷ [])
    ∷ read []
    ∷ []
unfolding read_all netlist_open
accepted = refl

-- 10: a leading zero, a last line without byte 10, an empty line, a gate without its line.
pub refused_10 : read_all (text ("input,1" ∷ "input,02" ∷ []) ∷ bytes "input,1" ∷ text ("" ∷ []) ∷ text ("gate,NAND2" ∷ []) ∷ [])
    ≡ refused 10 2 ∷ refused 10 1 ∷ refused 10 1 ∷ refused 10 1 ∷ []
unfolding read_all netlist_open
refused_10 = refl

-- 11: line 0, line 1,001, and a pin far to the right, ahead of 12 and 13.
pub refused_11 : read_all
    (text ("input,0" ∷ [])
    ∷ text ("output,1" ∷ "output,1001" ∷ [])
    ∷ text ("gate,AND2,1,2,3,4,5,6,7,8,9,10,1001" ∷ [])
    ∷ [])
    ≡ refused 11 1 ∷ refused 11 2 ∷ refused 11 1 ∷ []
unfolding read_all netlist_open
refused_11 = refl

pub refused_12 : read_all (text ("input,1" ∷ "gate,AND2,2,1,1" ∷ []) ∷ []) ≡ refused 12 2 ∷ []
unfolding read_all netlist_open
refused_12 = refl

-- 13: too few pins, too many, and none, which is good form.
pub refused_13 : read_all (text ("gate,NAND2,3,1" ∷ []) ∷ text ("gate,NAND2,3,1,2,1" ∷ []) ∷ text ("gate,NAND2,3" ∷ []) ∷ [])
    ≡ refused 13 1 ∷ refused 13 1 ∷ refused 13 1 ∷ []
unfolding read_all netlist_open
refused_13 = refl

-- 14: of two lines that clash the later is the bad one.
pub refused_14 : read_all
    (text ("input,1" ∷ "input,1" ∷ [])
    ∷ text ("gate,NAND2,3,1,2" ∷ "output,3" ∷ "input,3" ∷ [])
    ∷ text ("open,1" ∷ "input,1" ∷ [])
    ∷ text ("gate,NAND2,3,1,2" ∷ "open,3" ∷ [])
    ∷ text ("open,1" ∷ "open,1" ∷ [])
    ∷ [])
    ≡ refused 14 2 ∷ refused 14 3 ∷ refused 14 2 ∷ refused 14 2 ∷ refused 14 2 ∷ []
unfolding read_all netlist_open
refused_14 = refl

pub refused_15 : read_all (text ("output,3" ∷ "output,4" ∷ "output,3" ∷ []) ∷ []) ≡ refused 15 3 ∷ []
unfolding read_all netlist_open
refused_15 = refl

-- 20: a line that a pin reads, or an output marks, without a driver; only where every line of the text is good.
pub refused_20 : read_all
    (text ("gate,NAND2,3,1,2" ∷ "input,1" ∷ []) ∷ text ("output,1" ∷ []) ∷ text ("output,1" ∷ "input,0" ∷ []) ∷ [])
    ≡ refused 20 0 ∷ refused 20 0 ∷ refused 11 2 ∷ []
unfolding read_all netlist_open
refused_20 = refl

-- 21: above its input, on a gate's line, on an open one, with bounds that 22 would refuse; 11 comes before it.
pub refused_21 : read_all
    (text ("range,1,1,2" ∷ "input,1" ∷ [])
    ∷ text ("input,1" ∷ "gate,NAND2,3,1,1" ∷ "range,3,1,2" ∷ [])
    ∷ text ("open,1" ∷ "range,1,2,1" ∷ [])
    ∷ text ("range,0,2,1" ∷ [])
    ∷ [])
    ≡ refused 21 1 ∷ refused 21 3 ∷ refused 21 2 ∷ refused 11 1 ∷ []
unfolding read_all netlist_open
refused_21 = refl

-- 22: 0 and 1,000, LOW above HIGH, and a second range, which is good itself. A bound of six digits is bad form.
pub refused_22 : read_all
    (text ("input,1" ∷ "range,1,0,2" ∷ [])
    ∷ text ("input,1" ∷ "range,1,1,1000" ∷ [])
    ∷ text ("input,1" ∷ "range,1,3,2" ∷ [])
    ∷ text ("input,1" ∷ "range,1,1,999" ∷ "range,1,1,999" ∷ [])
    ∷ text ("input,1" ∷ "range,1,1,100000" ∷ [])
    ∷ [])
    ≡ refused 22 2 ∷ refused 22 2 ∷ refused 22 2 ∷ refused 22 3 ∷ refused 10 2 ∷ []
unfolding read_all netlist_open
refused_22 = refl

-- By the old rules `open` and `range` are bad form, and there is no 20.
pub by_old : (netlist Old cells (text ("open,1" ∷ [])) ≡ refused 10 1)
    × (netlist Old cells (text ("input,1" ∷ "range,1,2,3" ∷ [])) ≡ refused 10 2)
    × (netlist Old cells (text ("output,1" ∷ [])) ≡ read (mark output 1 ∷ []))
unfolding netlist_open
by_old = (refl, refl, refl)
