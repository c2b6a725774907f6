-- The lowest of the causes of a line, for any list of causes of which no number is 0.
use Rattle.common_laws.proofs.Base.{Bool, false, List, [], ◌∷◌, ◌++◌, ◌≡◌, refl, ℕ, ◌≤◌, arith, eqb, ne_eqb}
use Rattle.reading.specs.Choice.{pick}
use Rattle.reading.specs.Each.{Each}
use Rattle.reading.specs.Refusal.{weigh}
use Rattle.reading.proofs.Laws.{by_test}
use Rattle.netlist_table.specs.Lowest.{lowest, verdict}

abbrev pub Counted : ℕ × Bool → Type 0
Counted x = 1 ≤ x.0

abbrev pub Absent : ℕ × Bool → Type 0
Absent x = x.1 ≡ false

-- Weighing the causes of a line is what their lowest number says.
pub weigh-lowest : (line : ℕ) (xs : List (ℕ × Bool)) → Each Counted xs → weigh line xs ≡ verdict line (lowest xs)
unfolding weigh lowest verdict pick Each
weigh-lowest line [] h = refl
weigh-lowest line (x ∷ xs) h =
    by_test x.1
    (λ t. rw (t, ne_eqb x.0 0 (λ e. omega (arith, h.0))))
    (λ t. rw t (weigh-lowest line xs h.1))

-- Causes in front of others.
pub lowest-append : (xs ys : List (ℕ × Bool)) → Each Counted xs
    → lowest (xs ++ ys) ≡ pick (eqb (lowest xs) 0) (lowest ys) (lowest xs)
unfolding lowest pick Each
lowest-append [] ys h = refl
lowest-append (x ∷ xs) ys h =
    by_test x.1
    (λ t. rw (t, ne_eqb x.0 0 (λ e. omega (arith, h.0))))
    (λ t. rw t (lowest-append xs ys h.1))

-- Where the lowest number is 0, no cause holds.
pub lowest-none : (xs : List (ℕ × Bool)) → Each Counted xs → lowest xs ≡ 0 → Each Absent xs
unfolding lowest pick Each
lowest-none [] h e = tt
lowest-none (x ∷ xs) h e =
    by_test x.1
    (λ t. let z : x.0 ≡ 0 = rw t at e in absurd (omega (arith, h.0)))
    (λ t. (t, lowest-none xs h.1 (rw t at e)))
