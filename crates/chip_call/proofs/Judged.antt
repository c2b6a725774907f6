-- Cells that are judged, one gate after another.
use Rattle.common_laws.proofs.Base.{Bool, true, false, not, ◌&&◌, List, [], ◌≡◌, refl, sym, ap, ◌∙◌, ℕ, zero, suc, ◌+◌, ◌-◌, ◌≤◌, ◌<◌, ℕ_discrete, get_or, set, replicate}
use Rattle.common_laws.proofs.Base.{get_or-set_other}
use Rattle.reading.specs.Choice.{pick}
use Rattle.reading.proofs.Laws.{by_test, clash}
use Rattle.truth_cells.specs.Words.{generated_at}
use Rattle.netlist_table.specs.Gates.{gate_cell, each_of, gate_at}
use Rattle.netlist_table.proofs.HeldGates.{each_next, each-end}
use Rattle.chip_call.specs.Qualified.{all_generated, Known, Judged}

none_marked : (n c : ℕ) → get_or (replicate n false) c false ≡ false
none_marked zero c = refl
none_marked (suc n) zero = refl
none_marked (suc n) (suc c) = none_marked n c

-- No cell is known before the first gate.
pub known-none : (library : List ℕ) (n : ℕ) → Known library (replicate n false)
unfolding Known
known-none library n c h = clash true refl (sym h ∙ none_marked n c)

module _ (library : List ℕ) (cell : ℕ) (known : List Bool) (k : Known library known) where
  pub judged-known : {w : Bool} → w ≡ get_or known cell false → w ≡ true → Judged library cell known true
  unfolding Known
  judged-known e h = record { answer = sym (k cell (sym e ∙ h)); still = k }

  module _ {r : Bool} (e : r ≡ generated_at library cell) where
    pub judged-other : not r ≡ true → Judged library cell known false
    judged-other n = record { answer = by_test r (λ t. clash (not r) n (rw t)) (λ t. sym t ∙ e); still = k }

    module _ (n : not r ≡ false) where
      is : true ≡ generated_at library cell
      is = by_test r (λ t. sym t ∙ e) (λ t. clash (not r) (rw t) n)

      pub judged-new : {after : List Bool} → after ≡ set known cell true → Judged library cell after true
      unfolding Known
      judged-new a = rw a (record { answer = is; still = λ c h. go c h (ℕ_discrete c cell) })
        where
          go : (c : ℕ) → get_or (set known cell true) c false ≡ true → Dec (c ≡ cell) → generated_at library c ≡ true
          go c h (yes q) = rw q (sym is)
          go c h (no q) = k c (sym (get_or-set_other known cell c true false q) ∙ h)

module _ (library netlist : List ℕ) (n g : ℕ) where
  module _ (h : g < n) {cell : ℕ} (at : cell ≡ gate_cell netlist g) {r : Bool} (e : r ≡ generated_at library cell) where
    pub generated_stop : not r ≡ true → all_generated library (each_of (gate_at netlist) (n - g) g) ≡ false
    unfolding all_generated gate_at
    generated_stop t =
        let is : generated_at library (gate_cell netlist g) ≡ false =
        rw (← at) (by_test r (λ u. clash (not r) t (rw u)) (λ u. sym e ∙ u)) in
        rw (each_next (gate_at netlist) n g h, is)

    pub generated-on : not r ≡ false
        → all_generated library (each_of (gate_at netlist) (n - (g + 1)) (g + 1)) ≡ all_generated library (each_of (gate_at netlist) (n - g) g)
    unfolding all_generated gate_at
    generated-on t =
        let is : generated_at library (gate_cell netlist g) ≡ true =
        rw (← at) (by_test r (λ u. sym e ∙ u) (λ u. clash (not r) (rw u) t)) in
        rw (each_next (gate_at netlist) n g h, is)

  pub generated-end : n ≤ g → all_generated library (each_of (gate_at netlist) (n - g) g) ≡ true
  unfolding all_generated
  generated-end h = rw (each-end (gate_at netlist) n g h)

-- ---- the three answers one behind the other

abbrev Comes : ℕ → (w a r : Bool) → Type 0
Comes n w a r = ◌≡◌ {A = ℕ} n (pick (w && a) (pick r 2 1) 0)

pub comes-looped : (w a r : Bool) → not w ≡ true → Comes 0 w a r
unfolding pick
comes-looped true a r n = clash false n refl
comes-looped false a r n = refl

pub comes_unbuilt : (w a r : Bool) → not w ≡ false → not a ≡ true → Comes 0 w a r
unfolding pick
comes_unbuilt true true r m n = clash false n refl
comes_unbuilt true false r m n = refl
comes_unbuilt false a r m n = clash true refl m

pub comes_first : (w a r : Bool) → not w ≡ false → not a ≡ false → r ≡ false → Comes 1 w a r
unfolding pick
comes_first true true r m n e = rw e refl
comes_first true false r m n e = clash true refl n
comes_first false a r m n e = clash true refl m

pub comes-both : (w a r : Bool) → not w ≡ false → not a ≡ false → r ≡ true → Comes 2 w a r
unfolding pick
comes-both true true r m n e = rw e refl
comes-both true false r m n e = clash true refl n
comes-both false a r m n e = clash true refl m
