-- How many gates and outputs there can be: each gate drives a line of its own, no line is an output twice, and there are 1,000
-- lines.
use Rattle.common_laws.proofs.Base.{true, false, List, [], ◌∷◌, flat_map, ◌≡◌, refl, ap, subst, ℕ, zero, suc, ◌≤◌, arith, eqb, length, eqb-true, eqb-false, eq-eqb}
use Rattle.sizes.specs.Sizes as Size
use Rattle.reading.specs.Choice.{pick}
use Rattle.reading.specs.Each.{Each}
use Rattle.reading.proofs.Laws.{by_test, clash, each_append}
use Rattle.netlist_table.specs.Netlist.{Statement, input, output, opened, mark, gate, priced, member, lines_of, lines_marked, lines_claimed, gates_in, marked_lines, claimed_lines, gates_of}
use Rattle.netlist_table.specs.Sound.{InRange, LinesInRange, Apart}

-- ---- a list without repetition among others

-- The list without the first x in it.
unfoldable without : ℕ → List ℕ → List ℕ
without x [] = []
without x (y ∷ ys) = pick (eqb y x) ys (y ∷ without x ys)

one_less : (x : ℕ) (ys : List ℕ) → member x ys ≡ true → suc (length (without x ys)) ≤ length ys
unfolding member without pick
one_less x [] h = clash false h refl
one_less x (y ∷ ys) h =
    by_test (eqb y x)
    (λ t. rw t (omega arith))
    (λ t. rw t (let r = one_less x ys (rw t at h) in omega (arith, r)))

still-in : (x k : ℕ) (ys : List ℕ) → eqb x k ≡ false → member k ys ≡ true → member k (without x ys) ≡ true
unfolding member without pick
still-in x k [] n h = clash false h refl
still-in x k (y ∷ ys) n h =
    by_test (eqb y x)
    (λ t. rw t (let e : eqb y k ≡ false = rw (eqb-true y x t) n in rw e at h))
    (λ t. rw t
    (by_test (eqb y k)
    (λ u. rw u refl)
    (λ u. rw u (still-in x k ys n (rw u at h)))))

pub apart-fewer : (xs ys : List ℕ) → Apart xs → ((k : ℕ) → member k xs ≡ true → member k ys ≡ true) → length xs ≤ length ys
unfolding Apart member
apart-fewer [] ys a h = omega arith
apart-fewer (x ∷ xs) ys a h =
    let in_ys : member x ys ≡ true = h x (rw (eq-eqb x x refl) refl) in
    let rest = apart-fewer xs (without x ys) a.1
    (λ k m. by_test (eqb x k)
    (λ t. clash (member x xs) (rw (eqb-true x k t) m) a.0)
    (λ t. still-in x k ys t (h k (rw (t) m)))) in
    omega (arith, rest, one_less x ys in_ys)

-- ---- as many different numbers from 1 to n, at most

abbrev UpTo : ℕ → ℕ → Type 0
UpTo n l = (1 ≤ l) × (l ≤ n)

up_to : ℕ → List ℕ
up_to zero = []
up_to (suc n) = suc n ∷ up_to n

length_upTo : (n : ℕ) → length (up_to n) ≡ n
unfolding up_to
length_upTo zero = refl
length_upTo (suc n) = ap suc (length_upTo n)

upTo_member : (n k : ℕ) → UpTo n k → member k (up_to n) ≡ true
unfolding up_to member
upTo_member zero k h = absurd (omega (arith, h.0, h.1))
upTo_member (suc n) k h =
    by_test (eqb (suc n) k)
    (λ t. rw t refl)
    (λ t. rw t (upTo_member n k (h.0, omega (arith, h.1, eqb-false (suc n) k t))))

-- What holds of each holds of a member.
pub each_in : (P : ℕ → Type 0) (xs : List ℕ) (k : ℕ) → member k xs ≡ true → Each P xs → P k
unfolding member Each
each_in P [] k h e = clash false h refl
each_in P (x ∷ xs) k h e =
    by_test (eqb x k) (λ t. subst P (eqb-true x k t) e.0) (λ t. each_in P xs k (rw t at h) e.1)

apart-few : (n : ℕ) (xs : List ℕ) → Apart xs → Each (UpTo n) xs → length xs ≤ n
apart-few n xs a e = rw (length_upTo n) at (apart-fewer xs (up_to n) a (λ k m. upTo_member n k (each_in (UpTo n) xs k m e)))

-- ---- the gates of statements

gates_claim : (ss : List Statement) → length (gates_of ss) ≤ length (claimed_lines ss)
unfolding gates_of gates_in claimed_lines lines_claimed flat_map
gates_claim [] = omega arith
gates_claim (mark input l ∷ ss) = omega (arith, gates_claim ss)
gates_claim (mark output l ∷ ss) = gates_claim ss
gates_claim (mark opened l ∷ ss) = omega (arith, gates_claim ss)
gates_claim (gate g ∷ ss) = omega (arith, gates_claim ss)
gates_claim (priced r ∷ ss) = gates_claim ss

claimed-good : (s : Statement) → LinesInRange s → Each InRange (lines_claimed s)
unfolding LinesInRange lines_of lines_claimed Each
claimed-good (mark input l) h = h
claimed-good (mark output l) h = tt
claimed-good (mark opened l) h = h
claimed-good (gate g) h = (h.0, tt)
claimed-good (priced r) h = tt

claimed-in-range : (ss : List Statement) → Each LinesInRange ss → Each InRange (claimed_lines ss)
unfolding claimed_lines flat_map Each
claimed-in-range [] h = tt
claimed-in-range (s ∷ ss) h =
    each_append InRange (lines_claimed s) (flat_map lines_claimed ss) (claimed-good s h.0) (claimed-in-range ss h.1)

-- Statements with lines in range, none driven twice, have at most 1,000 gates.
pub gates-few : (ss : List Statement) → Each LinesInRange ss → Apart (claimed_lines ss) → length (gates_of ss) ≤ Size.gates
gates-few ss range apart =
    let lines : length (claimed_lines ss) ≤ Size.lines = apart-few Size.lines (claimed_lines ss) apart (unfold InRange in claimed-in-range ss range) in
    omega (arith, gates_claim ss)

-- ---- the outputs of statements

marked-good : (s : Statement) → LinesInRange s → Each InRange (lines_marked output s)
unfolding LinesInRange lines_of lines_marked pick Each
marked-good (mark input l) h = tt
marked-good (mark output l) h = h
marked-good (mark opened l) h = tt
marked-good (gate g) h = tt
marked-good (priced r) h = tt

marked-in-range : (ss : List Statement) → Each LinesInRange ss → Each InRange (marked_lines output ss)
unfolding marked_lines flat_map Each
marked-in-range [] h = tt
marked-in-range (s ∷ ss) h =
    each_append InRange (lines_marked output s) (flat_map (lines_marked output) ss) (marked-good s h.0) (marked-in-range ss h.1)

-- Statements with lines in range, none an output twice, have at most 1,000 outputs.
pub outputs-few : (ss : List Statement) → Each LinesInRange ss → Apart (marked_lines output ss) → length (marked_lines output ss) ≤ Size.lines
outputs-few ss range apart = apart-few Size.lines (marked_lines output ss) apart (unfold InRange in marked-in-range ss range)
