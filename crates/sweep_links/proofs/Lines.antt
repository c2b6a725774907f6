-- The last gate that drives a line, the tied gates, and the parts of the links.
use Rattle.common_laws.proofs.Base.{Bool, true, false, List, ◌≡◌, refl, sym, ap, ◌∙◌, ℕ, ◌+◌, ◌-◌, ◌≤◌, ◌<◌, ℕ_discrete, arith, length, get_or, set, replicate, length-set}
use Rattle.std.specs.Prelude.{nat_eq}
use Rattle.common_laws.proofs.Base.{length-replicate, get_or-replicate, get_or-set_same, get_or-set_other}
use Rattle.sizes.specs.Sizes as Size
use Rattle.reading.specs.Choice.{pick}
use Rattle.sweep_groups.specs.Tables.{gate_tied}
use Rattle.netlist_table.specs.Gates.{gate_line, LinesStand}
use Rattle.sweep_links.specs.Lines.{Highest, Highests, NoPlaces, pin_line, Chained, driven_line, Driven, Tied, LinkFits, Links, PartFits, Kept}

-- ---- the last gate that drives a line

pub driver-noted : {netlist : List ℕ} {gates : ℕ} {links : List ℕ} → Driven netlist gates links → (line g : ℕ) → line ≤ Size.lines → g < gates
    → gate_line netlist g 0 ≡ line → ((h : ℕ) → h < gates → gate_line netlist h 0 ≡ line → h ≤ g) → get_or links (Size.drivers_at + line) 0 ≡ g + 1
driver-noted {netlist} {gates} {links} driven line g few h e last =
    let noted = driven.last line few in
    let at : driven_line netlist (g + 1) ≡ line = ap (λ (k : ℕ). gate_line netlist k 0) (omega arith) ∙ e in
    let least : g + 1 ≤ get_or links (Size.drivers_at + line) 0 = noted.most (g + 1) (omega arith) (omega arith) at in
    omega (arith, last (get_or links (Size.drivers_at + line) 0 - 1) (omega (arith, noted.below)) (noted.same (omega arith)))

-- ---- tied gates

-- One gate more.
pub tied-more : {library netlist : List ℕ} {gate : ℕ} {links : List ℕ} → Tied library netlist gate links → Size.tied_at + gate < length links → (x : ℕ)
    → x ≡ pick (gate_tied library netlist gate) 1 0 → Tied library netlist (gate + 1) (set links (Size.tied_at + gate) x)
tied-more {library} {netlist} {gate} {links} t inside x e = record { each = λ g h. go g h (ℕ_discrete g gate) }
  where
    go : (g : ℕ) → g < gate + 1 → Dec (g ≡ gate) → get_or (set links (Size.tied_at + gate) x) (Size.tied_at + g) 0 ≡ pick (gate_tied library netlist g) 1 0
    go g h (yes q) = rw q (get_or-set_same links (Size.tied_at + gate) x 0 inside ∙ e)
    go g h (no q) = get_or-set_other links (Size.tied_at + gate) (Size.tied_at + g) x 0 (λ f. q (omega arith)) ∙ t.each g (omega arith)

-- What is told of a gate, as it was meant.
back : (b : Bool) → nat_eq (pick b 1 0) 1 ≡ b
unfolding pick
back true = refl
back false = refl

pub told_back : {library netlist : List ℕ} {gates g : ℕ} {links : List ℕ} → Tied library netlist gates links → g < gates
    → nat_eq (get_or links (Size.tied_at + g) 0) 1 ≡ gate_tied library netlist g
told_back {library} {netlist} {gates} {g} t h = rw (t.each g h) (back (gate_tied library netlist g))

-- ---- parts

pub kept-all : (low high : ℕ) (links : List ℕ) → Kept low high links links
kept-all low high links = record { size = refl; below = λ p h. refl; above = λ p h. refl }

pub kept_set : {low high : ℕ} {before after : List ℕ} → Kept low high before after → (i x : ℕ) → low ≤ i → i < high → Kept low high before (set after i x)
kept_set {low} {high} {before} {after} k i x a b =
    record {
      size = length-set after i x ∙ k.size;
      below = λ p h. get_or-set_other after i p x 0 (λ q. omega arith) ∙ k.below p h;
      above = λ p h. get_or-set_other after i p x 0 (λ q. omega arith) ∙ k.above p h;
    }

-- ---- what `link` comes to

-- A place of an array that is all 0. The length is a variable, so that no list is computed.
at_none : (n : ℕ) {links : List ℕ} → links ≡ replicate n 0 → (p : ℕ) → p < n → get_or links p 0 ≡ 0
at_none n e p h = rw e (get_or-replicate n p 0 0 h)

module _ {netlist : List ℕ} {gates : ℕ} (counted : gates ≡ get_or netlist 0 0) where
  pub chain_fits : {library links : List ℕ} → LinkFits library netlist links → PartFits Size.readers_at netlist gates links
  chain_fits f =
      record {
        lines_stand = rw counted f.lines_stand;
        none = λ l h. at_none Size.links f.none (Size.readers_at + l) (omega arith);
        size = ap length f.none ∙ length-replicate {A = ℕ} Size.links 0;
      }

  pub drivers-fit : {library links after : List ℕ} → LinkFits library netlist links → Kept Size.readers_at Size.drivers_at links after → PartFits Size.drivers_at netlist gates after
  drivers-fit f k =
      record {
        lines_stand = rw counted f.lines_stand;
        none = λ l h.
            k.above (Size.drivers_at + l) (omega arith) ∙ at_none Size.links f.none (Size.drivers_at + l) (omega arith);
        size = k.size ∙ ap length f.none ∙ length-replicate {A = ℕ} Size.links 0;
      }
