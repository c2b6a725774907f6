-- Which line feeds which, and netlists "without loops or open lines" in which "each line is read by at most one pin".
-- Document 02, K8.
use Rattle.std.specs.Prelude.{true, ◌≡◌, ℕ}
use mathlib.Core.List.{List, Memᴰ, flat_map}
use Rattle.netlist_table.specs.Netlist.{Gate, Statement, gates_of, is_input, mentioned}
use Rattle.netlist_table.specs.Sound.{Apart}

-- Line k feeds line l: a gate drives l, and a pin of it reads k.
pub record Feeds (ss : List Statement) (k l : ℕ) : Type 0 where
  pub gate : Gate
  pub listed : Memᴰ gate (gates_of ss)
  pub drives : gate.line ≡ l
  pub reads : Memᴰ k gate.pins

-- Line k leads to line l: through one gate or more.
pub data Leads (ss : List Statement) : ℕ → ℕ → Type 0 where
  last : {k l : ℕ} → Feeds ss k l → Leads ss k l
  next : {k m l : ℕ} → Feeds ss k m → Leads ss m l → Leads ss k l

-- "a netlist without loops"
unfoldable pub Loopless : List Statement → Type 0
Loopless ss = (l : ℕ) → Leads ss l l → ⊥

-- What drives a line: an input or a gate.
pub data Driver (ss : List Statement) (l : ℕ) : Type 0 where
  input : is_input l ss ≡ true → Driver ss l
  gate : (g : Gate) → Memᴰ g (gates_of ss) → g.line ≡ l → Driver ss l

-- "without .. open lines": each line that the netlist mentions has a driver.
unfoldable pub NoneOpen : List Statement → Type 0
NoneOpen ss = (l : ℕ) → mentioned l ss ≡ true → Driver ss l

-- The lines that pins read, each as often as a pin reads it.
unfoldable pub lines_read : List Statement → List ℕ
lines_read ss = flat_map (λ (g : Gate). g.pins) (gates_of ss)

-- "each line is read by at most one pin": an output mark is no pin.
unfoldable pub ReadOnce : List Statement → Type 0
ReadOnce ss = Apart (lines_read ss)
