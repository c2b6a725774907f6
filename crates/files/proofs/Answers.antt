-- What a read's answer means, from the tests that the code makes of it.
use Rattle.common_laws.proofs.Base.{Bool, true, false, ◌||◌, List, ◌≡◌, refl, ℕ, ◌+◌, ◌-◌, ◌≤◌, ◌<◌, min, arith, eqb-false, eqb, length}
use Rattle.std.specs.Prelude.{Option, Some, None, Result, Ok, Err}
use Rattle.reading.specs.Choice.{pick}
use Rattle.reading.proofs.Laws.{or_left, or_right}
use Rattle.std.specs.declared.ops.ControlFlow.TheVariants.{Break, Continue}
use Rattle.files.specs.Loads.{Within, next_of}

pub failed : {E : Type 0} (size at : ℕ) (e : E) → Break None ≡ next_of size at (Err e)
unfolding next_of
failed size at e = refl

pub went : {E : Type 0} (size at : ℕ) (got : Result ℕ E) (k n : ℕ) → got ≡ Ok k → n ≡ min k (size - at)
    → pick (eqb (at + n) at || eqb (at + n) size) (Break (Some (at + n))) (Continue (at + n)) ≡ next_of size at got
unfolding next_of
went size at got k n read is = rw (read, is) refl

filled_more : (size at : ℕ) (t : Bool) (end n : ℕ) → (eqb end at || eqb end size) ≡ t → at ≤ end → end ≤ size
    → pick t (Break (Some end)) (Continue end) ≡ Continue n → (at < n) × (n < size)
unfolding pick
filled_more size at true end n h a b e = cc
filled_more size at false end n h a b e =
    let same : end ≡ n = cc in
    let p = eqb-false end at (or_left (eqb end at) (eqb end size) h) in
    let q = eqb-false end size (or_right (eqb end at) (eqb end size) h) in
    (omega arith, omega arith)

pub more : {E : Type 0} (size at : ℕ) → at ≤ size → (got : Result ℕ E) (n : ℕ) → next_of size at got ≡ Continue n → (at < n) × (n < size)
unfolding next_of
more size at within (Ok k) n e = filled_more size at _ (at + min k (size - at)) n refl (omega arith) (omega arith) e
more size at within (Err x) n e = cc

filled_done : (t : Bool) (end : ℕ) (l : Option ℕ) (buffer : List ℕ) → end ≤ length buffer
    → pick t (Break (Some end)) (Continue end) ≡ Break l → Within l buffer
unfolding pick
filled_done true end l buffer h e = let same : Some end ≡ l = cc in rw (← same) h
filled_done false end l buffer h e = cc

pub done : {E : Type 0} (size at : ℕ) → at ≤ size → (got : Result ℕ E) (l : Option ℕ) → next_of size at got ≡ Break l
    → (buffer : List ℕ) → size ≡ length buffer → Within l buffer
unfolding next_of
done size at within (Ok k) l e buffer is = filled_done _ (at + min k (size - at)) l buffer (omega arith) e
done size at within (Err x) l e buffer is = let same : None ≡ l = cc in rw (← same) tt
