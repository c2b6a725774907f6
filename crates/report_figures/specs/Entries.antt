-- Document 01's library entries, each by its lines, "Cells" and "Figures to hold"; tie cells (02, K1), and entries of three-bit
-- depths (02, K2).
use Rattle.std.specs.Prelude.{List, [], ◌∷◌}
use Prim.Native.String.{String}

abbrev pub c1130 : List String
c1130 = "Name,C1130,3" ∷ "CC,41,M,11,M,3,125" ∷ "CO,1025,1105,1121" ∷ "SC,40,M,10,M,2,124" ∷ "SO,1024,1104,1120" ∷ "End" ∷ []

-- "C1490 (D, C, R): CC 22,M,134,74; CO 1034,1334,M,1474,1222; SC and SO add 1 to each": to each row, its depth (D42).
abbrev pub c1490 : List String
c1490 =
    "Name,C1490,3" ∷ "CC,22,M,134,74" ∷ "CO,1034,1334,M,1474,1222" ∷ "SC,23,M,135,75" ∷ "SO,1035,1335,M,1475,1223" ∷ "End" ∷ []

abbrev pub nand2 : List String
nand2 = "Name,NAND2,2" ∷ "CC,13,21,M,5" ∷ "CO,203,211" ∷ "SC,12,20,M,4" ∷ "SO,202,210" ∷ "End" ∷ []

abbrev pub and2 : List String
and2 = "Name,AND2,2" ∷ "CC,21,M,5,13" ∷ "CO,203,211" ∷ "SC,20,M,4,12" ∷ "SO,202,210" ∷ "End" ∷ []

-- "The home recorder's layout ties unused pins with cells that have no pins." (02, K1)
abbrev pub tie0 : List String
tie0 = "Name,TIE0,0" ∷ "CC,1,Z" ∷ "CO" ∷ "SC,0,Z" ∷ "SO" ∷ "End" ∷ []

abbrev pub tie1 : List String
tie1 = "Name,TIE1,0" ∷ "CC,Z,1" ∷ "CO" ∷ "SC,Z,0" ∷ "SO" ∷ "End" ∷ []

-- C1130 with three-bit depths: "every other column two places higher".
abbrev pub c1130_deep : List String
c1130_deep = "Name3,C1130,3" ∷ "CC,201,M,41,M,11,521" ∷ "CO,4121,4421,4501" ∷ "SC,200,M,40,M,10,520" ∷ "SO,4120,4420,4500" ∷ "End" ∷ []

-- A cell that hands its pin's value on at depth 7.
abbrev pub delay : List String
delay = "Name3,DELAY,1" ∷ "CC,27,17" ∷ "CO,207" ∷ "SC,27,17" ∷ "SO,207" ∷ "End" ∷ []

-- Of document 02, K7: a cell that names both values of a pin in one row, 7, which is never its cheapest; and XOR2, in the order
-- in which K6 prints it.
abbrev pub both2 : List String
both2 = "Name,BOTH2,2" ∷ "CC,21,M,7,M,5,13" ∷ "CO,203,211" ∷ "SC,20,M,4,12" ∷ "SO,202,210" ∷ "End" ∷ []

abbrev pub xor2 : List String
xor2 =
    "Name,XOR2,2" ∷ "CC,25,M,13,23,M,15" ∷ "CO,205,M,203,221,M,211" ∷ "SC,24,M,12,22,M,14" ∷ "SO,204,M,202,220,M,210" ∷ "End" ∷ []
