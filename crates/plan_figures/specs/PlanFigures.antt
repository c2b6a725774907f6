-- Plans written out: whole texts in, whole text out, by computation over the definitions. Document 02, K3.
use Rattle.std.specs.Prelude.{List, [], ◌∷◌, ◌≡◌, refl, ℕ, replicate}
use Prim.Native.String.{String}
use Rattle.text.specs.Bytes.{text}
use Rattle.reading.specs.Refusal.{Read, refused, read}
use Rattle.demands.specs.Outcome.{given_texts}
use Rattle.plan_text.specs.PlanText.{text_open}
use Rattle.writer.specs.Buffer.{text_within}
use Rattle.plan_calls.specs.Concluded.{known, asked_number, kind_of, plan_read}
use Rattle.plan_calls.specs.Promise.{plan_outcome}
use Rattle.report_figures.specs.Entries.{c1130, nand2, and2}
use Rattle.report_figures.specs.Figures.{outcome_open, lent}

-- What a library and a netlist come to for a line, a value and a kind, with a buffer of 100 bytes.
unfoldable pub planned : List String → List String → ℕ → ℕ → ℕ → Read (List ℕ)
planned lib net l v kind = plan_outcome (given_texts (text lib) (text net)) (lent (replicate 100 0)) l v kind

unfoldable pub plans_open : ℕ
unfolding outcome_open text_open text_within known asked_number kind_of plan_read plan_outcome lent planned
plans_open = 0

-- "For the C1130 entry and the net text .."
abbrev c1130_net : List String
c1130_net = "input,1" ∷ "input,2" ∷ "input,3" ∷ "gate,C1130,4,1,2,3" ∷ "output,4" ∷ []

pub c1130-plan : planned c1130 c1130_net 4 1 0 ≡ read (text ("0,4,1,125" ∷ "1,3,0,input" ∷ "1,2,0,input" ∷ "1,1,0,input" ∷ []))
unfolding plans_open
c1130-plan = refl

-- The first among equals: rows 41, 11 and 3 all come to 2.
pub c1130_first : planned c1130 c1130_net 4 0 0 ≡ read (text ("0,4,0,41" ∷ "1,1,1,input" ∷ []))
unfolding plans_open
c1130_first = refl

-- "Latch: gates 3 = (1,4), 4 = (2,3), inputs 1, 2, output 3".
abbrev latch_net : List String
latch_net = "input,1" ∷ "input,2" ∷ "gate,NAND2,3,1,4" ∷ "gate,NAND2,4,2,3" ∷ "output,3" ∷ []

pub latch-plan : planned nand2 latch_net 3 0 0 ≡ read (text ("0,3,0,13" ∷ "1,4,1,21" ∷ "2,2,0,input" ∷ "1,1,1,input" ∷ []))
unfolding plans_open
latch-plan = refl

-- A gate that reads itself: its 1 rests on the 0 of the same turn.
abbrev own_cell : List String
own_cell = "Name,OWN,2" ∷ "CC,11,5" ∷ "CO,201,201" ∷ "SC,10,4" ∷ "SO,200,200" ∷ "End" ∷ []

pub own-plan : planned own_cell ("input,1" ∷ "gate,OWN,2,1,2" ∷ []) 2 1 0 ≡ read (text ("0,2,1,5" ∷ "1,2,0,11" ∷ "2,1,1,input" ∷ []))
unfolding plans_open
own-plan = refl

-- Two pins on one wire (02, K7): "the same value of the same line through several pins is paid and written out once".
abbrev tied_net : List String
tied_net = "input,1" ∷ "gate,AND2,2,1,1" ∷ "gate,AND2,3,2,2" ∷ []

pub tied-plan : planned and2 tied_net 3 1 0 ≡ read (text ("0,3,1,13" ∷ "1,2,1,13" ∷ "2,1,1,input" ∷ []))
unfolding plans_open
tied-plan = refl

-- The last line of a netlist has a number, and so a plan; the line behind it "counts as never".
abbrev last_net : List String
last_net = "input,1000" ∷ "output,1000" ∷ []

pub last-plan : planned c1130 last_net 1000 1 0 ≡ read (text ("0,1000,1,input" ∷ []))
unfolding plans_open
last-plan = refl

pub past-last : planned c1130 last_net 1001 1 0 ≡ refused 18 0
unfolding plans_open
past-last = refl

-- 18 and 19, at line 0.
pub no_plan_lem : planned c1130 c1130_net 9 1 0 ≡ refused 18 0
unfolding plans_open
no_plan_lem = refl

-- C1130's plan for 1 has 46 bytes.
pub long-plan : plan_outcome (given_texts (text c1130) (text c1130_net)) (lent (replicate 45 0)) 4 1 0 ≡ refused 19 0
unfolding plans_open
long-plan = refl
