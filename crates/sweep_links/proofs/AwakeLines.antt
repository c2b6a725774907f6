-- The walk along a chain of the links, from pin to pin.
use Rattle.common_laws.proofs.Base.{List, ◌≡◌, refl, sym, ap, ◌∙◌, ℕ, ◌+◌, ◌*◌, ◌-◌, ◌%◌, ◌≤◌, ◌<◌, ℕ_discrete, lt_of_not-le, arith, length, get_or}
use Rattle.sizes.specs.Sizes as Size
use Rattle.netlist_table.specs.Gates.{gate_line}
use Rattle.sweep_links.specs.Lines.{pin_gate, pin_line, Chained}
use Rattle.sweep_links.specs.Turns.{bit_at, Woken}
use Rattle.sweep_links.specs.AwakeLines.{ReadersWoken}
use Rattle.sweep_links.proofs.Turns.{wakes_only, stays_awake}

-- At a pin that reads the line, or at the end: every pin above it that reads the line has its gate awake.
pub record Walked (netlist : List ℕ) (gates line pin : ℕ) (before after : List ℕ) : Type 0 where
  pub below : pin < gates * Size.pins + 1
  pub same : 0 < pin → pin_line netlist pin ≡ line
  pub readers : (p : ℕ) → pin < p → p < gates * Size.pins + 1 → pin_line netlist p ≡ line → bit_at after (pin_gate p) ≡ 1
  pub slept : (t : ℕ) → bit_at after t ≡ 0 → bit_at before t ≡ 0
  pub size : length after ≡ length before

module _ {netlist : List ℕ} {gates : ℕ} {links : List ℕ} (chained : Chained netlist gates links) (line : ℕ) where
  pub walk-starts : line ≤ Size.lines → (awake : List ℕ) → Walked netlist gates line (get_or links (Size.readers_at + line) 0) awake awake
  walk-starts few awake = record {
    below = (chained.firsts line few).below;
    same = (chained.firsts line few).same;
    readers = λ p above high e. absurd (omega (arith, (chained.firsts line few).most p (omega arith) high e));
    slept = λ t h. h;
    size = refl;
  }

  pub walk-goes : (pin : ℕ) {before awake after : List ℕ} → 0 < pin → Walked netlist gates line pin before awake → Woken (pin_gate pin) awake after
      → Walked netlist gates line (get_or links (Size.next_at + pin) 0) before after
  walk-goes pin {before} {awake} {after} some walked woken =
      let h = chained.nexts pin some (omega (arith, walked.below)) in
      record {
        below = omega (arith, h.below, walked.below);
        same = λ p. h.same p ∙ walked.same some;
        readers = λ p above high e. go p above high e (ℕ_discrete p pin);
        slept = λ t z. walked.slept t (wakes_only woken t z);
        size = woken.size ∙ walked.size;
      }
    where
      go : (p : ℕ) → get_or links (Size.next_at + pin) 0 < p → p < gates * Size.pins + 1 → pin_line netlist p ≡ line → Dec (p ≡ pin) → bit_at after (pin_gate p) ≡ 1
      go p above high e (yes q) = ap (λ (n : ℕ). bit_at after (pin_gate n)) q ∙ woken.becomes
      go p above high e (no q) = stays_awake woken (pin_gate p) (walked.readers p (lt_of_not-le λ l.
          let m : p ≤ get_or links (Size.next_at + pin) 0 =
          (chained.nexts pin some (omega (arith, walked.below))).most p (omega arith) (omega arith) (e ∙ sym (walked.same some)) in
          omega arith) high e)

-- at the end every reader is awake
pub walk_ends : {netlist : List ℕ} {gates line : ℕ} {before after : List ℕ} → Walked netlist gates line 0 before after → ReadersWoken netlist gates line before after
walk_ends {netlist} {gates} {line} {before} {after} walked = record {
  slept = walked.slept;
  readers = λ g i h low high e.
      let pin = g * Size.pins + i in
      let gate : pin_gate pin ≡ g = omega arith in
      let at : gate_line netlist (pin_gate pin) ((pin - 1) % Size.pins + 1) ≡ gate_line netlist g i = ap (λ (k : ℕ). get_or netlist k 0) (omega arith) in
      ap (bit_at after) (sym gate) ∙ walked.readers pin (omega arith) (omega arith) (at ∙ e);
  size = walked.size;
}
