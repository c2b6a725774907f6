-- Lines stand once where marks tell so.
use Rattle.common_laws.proofs.Base.{Bool, true, false, List, [], ◌∷◌, ◌≡◌, refl, sym, ◌∙◌, ℕ, ◌<◌, eqb, length, set, length-set, eq-eqb, eqb-true, eqb-false}
use Rattle.reading.proofs.Laws.{by_test, clash}
use Rattle.netlist_table.specs.Netlist.{member}
use Rattle.netlist_table.specs.Sound.{Apart}
use Rattle.chip_loops.specs.Marks.{marked, once_each}
use Rattle.chip_loops.proofs.Marks.{set-marked, set_other}

-- None of the lines has a mark.
abbrev NoneMarked : List Bool → List ℕ → Type 0
NoneMarked marks ls = (l : ℕ) → member l ls ≡ true → marked marks l ≡ false

abbrev Room : List Bool → List ℕ → Type 0
Room marks ls = (l : ℕ) → member l ls ≡ true → l < length marks

module _ (x : ℕ) (ls : List ℕ) where
  here : member x (x ∷ ls) ≡ true
  unfolding member
  here = rw (eq-eqb x x refl)

  there : (l : ℕ) → member l ls ≡ true → member l (x ∷ ls) ≡ true
  unfolding member
  there l m = by_test (eqb x l) (λ t. rw t) (λ t. rw t m)

pub once-apart : (marks : List Bool) (ls : List ℕ) → Room marks ls → once_each marks ls ≡ true → Apart ls × NoneMarked marks ls
unfolding once_each Apart member
once-apart marks [] room t = (tt, λ l m. clash false m refl)
once-apart marks (x ∷ ls) room t =
    let free : marked marks x ≡ false = by_test (marked marks x) (λ u. clash false (rw u at t) refl) (λ u. u) in
    let rest = once-apart (set marks x true) ls (λ l m. simp length-set (room l (there x ls l m))) (rw free at t) in
    let fresh : member x ls ≡ false =
    by_test (member x ls)
    (λ u. clash (marked (set marks x true) x) (set-marked marks x (room x (here x ls))) (rest.1 x u))
    (λ u. u) in (
      (fresh, rest.0),
      λ l m. by_test (eqb x l)
          (λ u. rw (← eqb-true x l u) free)
          (λ u. sym (set_other marks x l (λ e. eqb-false x l u (sym e))) ∙ rest.1 l (rw u at m)),
    )

pub apart-once : (marks : List Bool) (ls : List ℕ) → Apart ls → NoneMarked marks ls → once_each marks ls ≡ true
unfolding once_each Apart
apart-once marks [] a none = refl
apart-once marks (x ∷ ls) a none =
    rw (none x (here x ls))
    (apart-once (set marks x true) ls a.1
    (λ l m. set_other marks x l (λ e. clash (member x ls) (rw (← e) m) a.0) ∙ none l (there x ls l m)))
