-- The columns that a row names: those whose bit is set.
use Rattle.common_laws.proofs.Base.{Bool, true, false, List, [], ◌∷◌, List-as-Memᴰ, List-Memᴰ-head, List-Memᴰ-tail, List-Memᴰ-not-nil, ◌≡◌, refl, sym, subst, ap, ◌∙◌, ℕ, zero, suc}
use Rattle.common_laws.proofs.Base.{◌≤◌, ◌<◌, arith, eqb, eqb-true, eqb-false}
use Rattle.reading.specs.Choice.{pick}
use Rattle.reading.proofs.Laws.{by_test}
use Rattle.library_table.specs.Cells.{Column, pin, bit_of, bit, named, pin_columns}

-- A column that a row names is one of the columns ..
pub named_from : (n : ℕ) (cs : List Column) (x : ℕ) (c : Column) → List-as-Memᴰ c (named n cs x) → List-as-Memᴰ c cs
unfolding named pick
named_from n [] x c m = m
named_from n (d ∷ cs) x c m = side (bit x (bit_of n d)) (named_from n cs x c) m
  where
    side : (b : Bool) → (List-as-Memᴰ c (named n cs x) → List-as-Memᴰ c cs) → List-as-Memᴰ c (pick b (d ∷ named n cs x) (named n cs x)) → List-as-Memᴰ c (d ∷ cs)
    side true r (List-Memᴰ-head e) = List-Memᴰ-head e
    side true r (List-Memᴰ-tail i) = List-Memᴰ-tail (r i)
    side false r i = List-Memᴰ-tail (r i)

-- .. its bit is set ..
pub named_bit : (n : ℕ) (cs : List Column) (x : ℕ) (c : Column) → List-as-Memᴰ c (named n cs x) → bit x (bit_of n c) ≡ true
unfolding named pick
named_bit n [] x c m = absurd (List-Memᴰ-not-nil m)
named_bit n (d ∷ cs) x c m = side (bit x (bit_of n d)) refl (named_bit n cs x c) m
  where
    side : (b : Bool) → bit x (bit_of n d) ≡ b → (List-as-Memᴰ c (named n cs x) → bit x (bit_of n c) ≡ true) → List-as-Memᴰ c (pick b (d ∷ named n cs x) (named n cs x)) → bit x (bit_of n c) ≡ true
    side true h r (List-Memᴰ-head e) = subst (λ (t : Column). bit x (bit_of n t) ≡ true) (sym e) h
    side true h r (List-Memᴰ-tail i) = r i
    side false h r i = r i

-- .. and a column whose bit is set is named.
pub named_listed : (n : ℕ) (cs : List Column) (x : ℕ) (c : Column) → bit x (bit_of n c) ≡ true → List-as-Memᴰ c cs → List-as-Memᴰ c (named n cs x)
unfolding named pick
named_listed n (d ∷ cs) x c h (List-Memᴰ-head e) = rw (ap (λ (t : Column). bit x (bit_of n t)) (sym e) ∙ h) (List-Memᴰ-head e)
named_listed n (d ∷ cs) x c h (List-Memᴰ-tail m) = side (bit x (bit_of n d)) (named_listed n cs x c h m)
  where
    side : (b : Bool) → List-as-Memᴰ c (named n cs x) → List-as-Memᴰ c (pick b (d ∷ named n cs x) (named n cs x))
    side true i = List-Memᴰ-tail i
    side false i = i
named_listed n [] x c h m = elim m [ ]

-- ---- the columns of pins

pub pin-column : (n j v : ℕ) → j < n → v ≤ 1 → List-as-Memᴰ (pin (suc j) v) (pin_columns n)
unfolding pin_columns
pin-column zero j v h b = absurd (omega arith)
pin-column (suc n) j v h b =
    by_test (eqb j n)
    (λ t. here v b (ap suc (eqb-true j n t)))
    (λ t. List-Memᴰ-tail (List-Memᴰ-tail (pin-column n j v (omega (arith, eqb-false j n t)) b)))
  where
    here : (v : ℕ) → v ≤ 1 → suc j ≡ suc n → List-as-Memᴰ (pin (suc j) v) (pin (suc n) 1 ∷ pin (suc n) 0 ∷ pin_columns n)
    here zero b e = List-Memᴰ-tail (List-Memᴰ-head (ap (λ (i : ℕ). pin i 0) e))
    here (suc zero) b e = List-Memᴰ-head (ap (λ (i : ℕ). pin i 1) e)
    here (suc (suc v)) b e = absurd (omega arith)

-- Pin j + 1 at v.
pub record PinAt (n : ℕ) (c : Column) : Type 0 where
  pub j : ℕ
  pub v : ℕ
  pub below : j < n
  pub bit : v ≤ 1
  pub is : c ≡ pin (suc j) v

pub column-pin : (n : ℕ) (c : Column) → List-as-Memᴰ c (pin_columns n) → PinAt n c
unfolding pin_columns
column-pin zero c m = absurd (List-Memᴰ-not-nil m)
column-pin (suc n) c (List-Memᴰ-head e) = record { j = n; v = 1; below = omega arith; bit = omega arith; is = e }
column-pin (suc n) c (List-Memᴰ-tail (List-Memᴰ-head e)) = record { j = n; v = 0; below = omega arith; bit = omega arith; is = e }
column-pin (suc n) c (List-Memᴰ-tail (List-Memᴰ-tail m)) =
    let p = column-pin n c m in
    record { j = p.j; v = p.v; below = omega (arith, p.below); bit = p.bit; is = p.is }
