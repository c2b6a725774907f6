-- Routes written out: whole texts in, whole text out, by computation over the definitions. They are figures of request E1, whose
-- call is to come (D196).
use Rattle.std.specs.Prelude.{List, [], ◌∷◌, ◌≡◌, refl, ℕ}
use Prim.Native.String.{String}
use Rattle.text.specs.Bytes.{text}
use Rattle.reading.specs.Refusal.{Read, read, ◌>>=◌}
use Rattle.demands.specs.Outcome as O
use Rattle.calculation.specs.Pads.{padded}
use Rattle.plan_text.specs.PlanText.{route_text, text_open}
use Rattle.plan_calls.specs.Concluded.{kind_of}
use Rattle.report_figures.specs.Entries.{c1130, nand2, and2}
use Rattle.report_figures.specs.Figures.{outcome_open}

-- The route of a line in a netlist with pads.
unfoldable pub routed : List String → List String → List ℕ → ℕ → ℕ → Read (List ℕ)
routed lib net pads l kind = O.read_pair (O.given_texts (text lib) (text net)) >>= λ p. read (route_text (kind_of kind) p.cells (padded p.statements pads) l)

unfoldable pub routes_open : ℕ
unfolding outcome_open text_open kind_of padded routed
routes_open = 0

abbrev c1130_net : List String
c1130_net = "input,1" ∷ "input,2" ∷ "input,3" ∷ "gate,C1130,4,1,2,3" ∷ "output,4" ∷ []

-- The values first, and the plan that observes the gate's output last.
pub c1130_route : routed c1130 c1130_net [] 1 0 ≡ read (text ("0,1,see,4,1,1025" ∷ "1,3,0,input" ∷ "1,2,0,input" ∷ "1,4,see,output" ∷ []))
unfolding routes_open
c1130_route = refl

-- A pad is written as an output, though a gate reads it.
pub c1130-pad : routed c1130 c1130_net (1 ∷ []) 1 1 ≡ read (text ("0,1,see,output" ∷ []))
unfolding routes_open
c1130-pad = refl

-- The latch: CO of 2 is 5, through both gates; the value of 3 is the plan that K3 writes.
abbrev latch_net : List String
latch_net = "input,1" ∷ "input,2" ∷ "gate,NAND2,3,1,4" ∷ "gate,NAND2,4,2,3" ∷ "output,3" ∷ []

pub latch_route : routed nand2 latch_net [] 2 0
    ≡ read (text ("0,2,see,4,1,203" ∷ "1,3,1,21" ∷ "2,1,0,input" ∷ "1,4,see,3,2,211" ∷ "2,1,1,input" ∷ "2,3,see,output" ∷ []))
unfolding routes_open
latch_route = refl

-- Both pins on one line: both come to 2, and the first lowered it.
pub tied_route : routed and2 ("input,1" ∷ "gate,AND2,2,1,1" ∷ "output,2" ∷ []) [] 1 0 ≡ read (text ("0,1,see,2,1,203" ∷ "1,1,1,input" ∷ "1,2,see,output" ∷ []))
unfolding routes_open
tied_route = refl

-- Two gates read the line at the same cost: "gates in reverse order", so the later one lowered it first.
pub later_gate : routed and2 ("input,1" ∷ "input,2" ∷ "gate,AND2,3,1,2" ∷ "gate,AND2,4,2,1" ∷ "output,3" ∷ "output,4" ∷ []) [] 1 0
    ≡ read (text ("0,1,see,4,2,211" ∷ "1,2,1,input" ∷ "1,4,see,output" ∷ []))
unfolding routes_open
later_gate = refl
