-- What a netlist does: which values its lines have at a setting of its inputs. Document 02, K8: "Each input takes 0 or 1 and
-- each gate's output is its truth table's value."
use Rattle.std.specs.Prelude.{Bool, true, ◌≡◌, ℕ}
use mathlib.Core.List.{List, map, Memᴰ}
use Rattle.netlist_table.specs.Netlist.{Gate, Statement, gates_of, is_input, mentioned}

-- A setting of the inputs, and the values of the lines: a value for each line, of which those of other lines than inputs,
-- and of lines that the netlist does not mention, count for nothing.
abbrev pub Setting : Type 0
Setting = ℕ → Bool

abbrev pub Values : Type 0
Values = ℕ → Bool

-- What each gate makes of the values that its pins read, pin 1 first.
abbrev pub Tables : Type 0
Tables = Gate → List Bool → Bool

-- At the setting s the lines may have the values v.
pub record Does (ss : List Statement) (tables : Tables) (s : Setting) (v : Values) : Type 0 where
  -- "Each input takes 0 or 1"
  pub inputs : (l : ℕ) → is_input l ss ≡ true → v l ≡ s l
  -- "each gate's output is its truth table's value"
  pub gates : (g : Gate) → Memᴰ g (gates_of ss) → v g.line ≡ tables g (map v g.pins)

-- The setting gives each line one value, and no other.
pub record OneValue (ss : List Statement) (tables : Tables) (s : Setting) : Type 0 where
  pub values : Values
  pub given : Does ss tables s values
  pub alone : (v : Values) → Does ss tables s v → (l : ℕ) → mentioned l ss ≡ true → v l ≡ values l
