-- Where each line is read by at most one pin, and there are no loops, no line reaches two pins of a gate.
use Rattle.common_laws.proofs.Base.{true, false, List, [], ◌∷◌, ◌++◌, List-as-Memᴰ, List-Memᴰ-head, List-Memᴰ-tail, flat_map, ◌⊎◌, inl, inr, ◌≡◌, refl, sym, subst, ap, ◌∙◌, ℕ, zero}
use Rattle.common_laws.proofs.Base.{suc, ◌<◌, not-suc-le-zero, le_of_suc-le-suc, length, get_or}
use Rattle.reading.proofs.Laws.{clash, or_left}
use Rattle.netlist_table.specs.Netlist.{Gate, Statement, gates_of, member}
use Rattle.netlist_table.specs.Sound.{Apart}
use Rattle.netlist_table.proofs.Laws.{member-listed, apart-right, apart-both}
use Rattle.netlist_table.proofs.Causes.{member-append, member-left, member_right}
use Rattle.calculation.proofs.Laws.{getD_listed}
use Rattle.chip_values.specs.Loops.{Feeds, Leads, Leads.last, Leads.next, Loopless, lines_read, ReadOnce}
use Rattle.chip_values.proofs.Values.{Reaches, reaches_more}

apart-left : (xs ys : List ℕ) → Apart (xs ++ ys) → Apart xs
unfolding Apart
apart-left [] ys a = tt
apart-left (x ∷ xs) ys a =
    (or_left (member x xs) (member x ys) (sym (member-append x xs ys) ∙ a.0), apart-left xs ys a.1)

-- The pins of all gates.
all_pins : List Gate → List ℕ
all_pins gs = flat_map (λ (g : Gate). g.pins) gs

pin-read : (gs : List Gate) (g : Gate) (k : ℕ) → List-as-Memᴰ g gs → List-as-Memᴰ k g.pins → member k (all_pins gs) ≡ true
unfolding all_pins flat_map
pin-read (x ∷ gs) g k (List-Memᴰ-head e) i =
    member-left k x.pins (all_pins gs) (subst (λ (t : Gate). member k t.pins ≡ true) e (member-listed k g.pins i))
pin-read (x ∷ gs) g k (List-Memᴰ-tail m) i = member_right k x.pins (all_pins gs) (pin-read gs g k m i)
pin-read [] g k m i = elim m [ ]

-- Two gates that read one line are one.
same_reader : (gs : List Gate) → Apart (all_pins gs) → (g h : Gate) (k : ℕ) → List-as-Memᴰ g gs → List-as-Memᴰ h gs
    → List-as-Memᴰ k g.pins → List-as-Memᴰ k h.pins → g ≡ h
unfolding all_pins flat_map
same_reader (x ∷ gs) a g h k (List-Memᴰ-head d) (List-Memᴰ-head e) i j = d ∙ sym e
same_reader (x ∷ gs) a g h k (List-Memᴰ-head d) (List-Memᴰ-tail n) i j =
    apart-both k x.pins (all_pins gs) a (subst (λ (t : Gate). member k t.pins ≡ true) d (member-listed k g.pins i)) (pin-read gs h k n j)
same_reader (x ∷ gs) a g h k (List-Memᴰ-tail m) (List-Memᴰ-head e) i j =
    apart-both k x.pins (all_pins gs) a (subst (λ (t : Gate). member k t.pins ≡ true) e (member-listed k h.pins j)) (pin-read gs g k m i)
same_reader (x ∷ gs) a g h k (List-Memᴰ-tail m) (List-Memᴰ-tail n) i j = same_reader gs (apart-right x.pins (all_pins gs) a) g h k m n i j
same_reader [] a g h k m _ i j = elim m [ ]

-- A gate's pins read different lines.
gate-apart : (gs : List Gate) → Apart (all_pins gs) → (g : Gate) → List-as-Memᴰ g gs → Apart g.pins
unfolding all_pins flat_map
gate-apart (x ∷ gs) a g (List-Memᴰ-head e) = subst (λ (t : Gate). Apart t.pins) (sym e) (apart-left x.pins (all_pins gs) a)
gate-apart (x ∷ gs) a g (List-Memᴰ-tail m) = gate-apart gs (apart-right x.pins (all_pins gs) a) g m
gate-apart [] a g m = elim m [ ]

-- The gate's pins i and j are different lines where i and j are different.
apart-places : (xs : List ℕ) → Apart xs → (i j : ℕ) → i < length xs → j < length xs → get_or xs i 0 ≡ get_or xs j 0 → i ≡ j
unfolding Apart
apart-places [] a i j h k e = absurd (not-suc-le-zero h)
apart-places (x ∷ xs) a zero zero h k e = refl
apart-places (x ∷ xs) a zero (suc j) h k e =
    clash (member x xs) (rw e (member-listed (get_or xs j 0) xs (getD_listed xs j 0 (le_of_suc-le-suc k)))) a.0
apart-places (x ∷ xs) a (suc i) zero h k e =
    clash (member x xs) (rw (← e) (member-listed (get_or xs i 0) xs (getD_listed xs i 0 (le_of_suc-le-suc h)))) a.0
apart-places (x ∷ xs) a (suc i) (suc j) h k e = ap suc (apart-places xs a.1 i j (le_of_suc-le-suc h) (le_of_suc-le-suc k) e)

module _ (ss : List Statement) (free : Loopless ss) (once : ReadOnce ss) where
  -- A line feeds one line at most.
  feeds_once : (k l m : ℕ) → Feeds ss k l → Feeds ss k m → l ≡ m
  unfolding ReadOnce lines_read all_pins
  feeds_once k l m a b =
      let e : a.gate ≡ b.gate = same_reader (gates_of ss) once a.gate b.gate k a.listed b.listed a.reads b.reads in
      sym a.drives ∙ ap (λ (g : Gate). g.line) e ∙ b.drives

  -- Of two lines that a line leads to, one reaches the other.
  onward : {k p q : ℕ} → Leads ss k p → Leads ss k q → Reaches ss p q ⊎ Reaches ss q p
  onward {k} {p} {q} (last a) (last b) = inl (inl (feeds_once k p q a b))
  onward {k} {p} {q} (last a) (next {m = m} b r) = inl (inr (subst (λ (x : ℕ). Leads ss x q) (sym (feeds_once k p m a b)) r))
  onward {k} {p} {q} (next {m = m} a r) (last b) = inr (inr (subst (λ (x : ℕ). Leads ss x p) (feeds_once k m q a b) r))
  onward {k} {p} {q} (next {m = m} a r) (next {m = n} b t) = onward r (subst (λ (x : ℕ). Leads ss x q) (sym (feeds_once k m n a b)) t)

  reach-onward : {k p q : ℕ} → Reaches ss k p → Reaches ss k q → Reaches ss p q ⊎ Reaches ss q p
  reach-onward {q = q} (inl e) r = inl (subst (λ (x : ℕ). Reaches ss x q) e r)
  reach-onward {p = p} (inr r) (inl e) = inr (subst (λ (x : ℕ). Reaches ss x p) e (inr r))
  reach-onward (inr r) (inr t) = onward r t

  -- A line that feeds l leads to no other line that does.
  no_detour : (p q l : ℕ) → Feeds ss p l → Feeds ss q l → Leads ss p q → ⊥
  unfolding Loopless
  no_detour p q l f h (last a) = free l (last (subst (λ (x : ℕ). Feeds ss x l) (sym (feeds_once p l q f a)) h))
  no_detour p q l f h (next {m = m} a r) =
      free l (reaches_more ss l q l (inr (subst (λ (x : ℕ). Leads ss x q) (sym (feeds_once p l m f a)) r)) h)

  -- No line reaches two lines that feed the same gate.
  pub parted : (k p q l : ℕ) → Feeds ss p l → Feeds ss q l → (p ≡ q → ⊥) → Reaches ss k p → Reaches ss k q → ⊥
  parted k p q l f h n a b = go (reach-onward a b)
    where
      go : Reaches ss p q ⊎ Reaches ss q p → ⊥
      go (inl (inl e)) = n e
      go (inl (inr r)) = no_detour p q l f h r
      go (inr (inl e)) = n (sym e)
      go (inr (inr r)) = no_detour q p l h f r

  -- Two pins of a gate read different lines.
  pub pins_differ_lem : (g : Gate) → List-as-Memᴰ g (gates_of ss) → (i j : ℕ) → i < length g.pins → j < length g.pins
      → get_or g.pins i 0 ≡ get_or g.pins j 0 → i ≡ j
  unfolding ReadOnce lines_read all_pins
  pins_differ_lem g m = apart-places g.pins (gate-apart (gates_of ss) once g m)
