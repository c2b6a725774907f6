-- The one fact for all truth tables: a setting is one of a condition exactly when it meets a prime implicant of it.
use Rattle.common_laws.proofs.Base.{Bool, true, false, not, ◌||◌, and-false, List, [], ◌∷◌, map, List-as-Memᴰ, List-Memᴰ-head, Memᴰ-append-left, Memᴰ-append-right, ◌↔◌, Option, none}
use Rattle.common_laws.proofs.Base.{some, ◌≡◌, refl, sym, ap, subst, ◌∙◌, ℕ, zero, suc, ◌-◌, ◌≤◌, arith, length, not-false}
use Rattle.reading.specs.Each.{Each}
use Rattle.reading.proofs.Laws.{by_test, clash, and_left, and_right, each_member}
use Rattle.library_table.specs.Library.{any_of}
use Rattle.library_table.proofs.Any.{any-member}
use Rattle.truth_tables.specs.Tables.{Setting, settings, output, same, Term, fits, meets, dropped, terms, Condition, all_of, implicant, prime, primes, gives, put_in, changes, observing}
use Rattle.truth_tables.proofs.Lists.{all-member, all_by, all-fails, any_found, keep_member, kept, map-member}

-- ---- values

pub same_refl : (v : Bool) → same v v ≡ true
unfolding same
same_refl true = refl
same_refl false = refl

pub same_true : (a b : Bool) → same a b ≡ true → a ≡ b
unfolding same
same_true true true e = refl
same_true true false e = sym e
same_true false true e = e
same_true false false e = refl

-- ---- no setting and no term is missing

pub setting-listed : (s : Setting) → List-as-Memᴰ s (settings (length s))
unfolding settings
setting-listed [] = List-Memᴰ-head refl
setting-listed (false ∷ s) = Memᴰ-append-left _ (map-member (λ q. false ∷ q) (setting-listed s))
setting-listed (true ∷ s) = Memᴰ-append-right (map (λ q. false ∷ q) (settings (length s))) (map-member (λ q. true ∷ q) (setting-listed s))

pub term_listed : (t : Term) → List-as-Memᴰ t (terms (length t))
unfolding terms
term_listed [] = List-Memᴰ-head refl
term_listed (some false ∷ t) = Memᴰ-append-left _ (map-member (λ q. some false ∷ q) (term_listed t))
term_listed (some true ∷ t) =
    Memᴰ-append-right (map (λ q. some false ∷ q) (terms (length t)))
    (Memᴰ-append-left _ (map-member (λ q. some true ∷ q) (term_listed t)))
term_listed (none ∷ t) =
    Memᴰ-append-right (map (λ q. some false ∷ q) (terms (length t)))
    (Memᴰ-append-right (map (λ q. some true ∷ q) (terms (length t))) (map-member (λ q. none ∷ q) (term_listed t)))

-- ---- the term of one setting

minterm : Setting → Term
minterm [] = []
minterm (v ∷ s) = some v ∷ minterm s

minterm-length : (s : Setting) → length (minterm s) ≡ length s
unfolding minterm
minterm-length [] = refl
minterm-length (v ∷ s) = ap suc (minterm-length s)

minterm-met : (s : Setting) → meets (minterm s) s ≡ true
unfolding minterm meets fits
minterm-met [] = refl
minterm-met (v ∷ s) = rw (same_refl v) (minterm-met s)

minterm_only : (s q : Setting) → meets (minterm s) q ≡ true → q ≡ s
unfolding minterm meets fits
minterm_only [] [] h = refl
minterm_only [] (v ∷ q) h = clash false h refl
minterm_only (v ∷ s) [] h = clash false h refl
minterm_only (v ∷ s) (w ∷ q) h =
    let first : v ≡ w = same_true v w (and_left (same v w) (meets (minterm s) q) h) in
    let others : q ≡ s = minterm_only s q (and_right (same v w) (meets (minterm s) q) h) in
    cc

-- ---- dropping a pin

named : Term → ℕ
named [] = 0
named (none ∷ t) = named t
named (some v ∷ t) = suc (named t)

-- Of a term with one pin less: it has as many pins, names one less, and a setting that meets the term meets it.
record Wider (t q : Term) : Type 0 where
  long : length q ≡ length t
  fewer : suc (named q) ≡ named t
  met : (s : Setting) → meets t s ≡ true → meets q s ≡ true

wider_behind : (l : Option Bool) (t q : Term) → Wider t q → Wider (l ∷ t) (l ∷ q)
unfolding named meets
wider_behind l t q w =
    record {
      long = ap suc w.long;
      fewer = count l;
      met = λ s. met s;
    }
  where
    count : (l : Option Bool) → suc (named (l ∷ q)) ≡ named (l ∷ t)
    count none = w.fewer
    count (some v) = ap suc w.fewer

    met : (s : Setting) → meets (l ∷ t) s ≡ true → meets (l ∷ q) s ≡ true
    met [] h = h
    met (v ∷ s) h = rw (and_left (fits l v) (meets t s) h) (w.met s (and_right (fits l v) (meets t s) h))

wider_first : (v : Bool) (t : Term) → Wider (some v ∷ t) (none ∷ t)
unfolding named meets fits
wider_first v t = record { long = refl; fewer = refl; met = met }
  where
    met : (s : Setting) → meets (some v ∷ t) s ≡ true → meets (none ∷ t) s ≡ true
    met [] h = h
    met (w ∷ s) h = and_right (same v w) (meets t s) h

each-behind : (l : Option Bool) (t : Term) (qs : List Term) → Each (Wider t) qs → Each (Wider (l ∷ t)) (map (λ q. l ∷ q) qs)
unfolding Each
each-behind l t [] e = tt
each-behind l t (q ∷ qs) e = (wider_behind l t q e.0, each-behind l t qs e.1)

dropped_wider : (t : Term) → Each (Wider t) (dropped t)
unfolding dropped Each
dropped_wider [] = tt
dropped_wider (none ∷ t) = each-behind none t (dropped t) (dropped_wider t)
dropped_wider (some v ∷ t) = (wider_first v t, each-behind (some v) t (dropped t) (dropped_wider t))

-- ---- implicants

module _ (n : ℕ) (C : Condition) where
  pub implies : (t : Term) (s : Setting) → implicant n C t ≡ true → length s ≡ n → meets t s ≡ true → C s ≡ true
  unfolding implicant
  implies t s h l m =
      let at : (not (meets t s) || C s) ≡ true =
      all-member (λ q. not (meets t q) || C q) (subst (λ (k : ℕ). List-as-Memᴰ s (settings k)) l (setting-listed s)) h in
      rw m at at

  -- An implicant that a setting meets is prime, or one with a pin less is an implicant too.
  narrows : {D : Type 0} (t : Term) → implicant n C t ≡ true → (prime n C t ≡ true → D) → ((q : Term) → Wider t q → implicant n C q ≡ true → D) → D
  unfolding prime
  narrows t i ready further =
      by_test (all_of (λ q. not (implicant n C q)) (dropped t))
      (λ e. ready (rw (i, e) refl))
      (λ e. all-fails (λ q. not (implicant n C q)) (dropped t) e
      (λ q in-it k. further q (each_member (Wider t) in-it (dropped_wider t)) (not-false (implicant n C q) k)))

  prime-met : (t : Term) (s : Setting) → length t ≡ n → meets t s ≡ true → prime n C t ≡ true → any_of (λ q. meets q s) (primes n C) ≡ true
  unfolding primes
  prime-met t s l m e =
      any-member (λ q. meets q s) (keep_member (prime n C) (subst (λ (k : ℕ). List-as-Memᴰ t (terms k)) l (term_listed t)) e) m

  -- Drop pins from an implicant that a setting meets until none can be dropped: a prime implicant that it meets.
  reaches : (most : ℕ) (t : Term) (s : Setting) → named t ≤ most → length t ≡ n → implicant n C t ≡ true → meets t s ≡ true
      → any_of (λ q. meets q s) (primes n C) ≡ true
  reaches zero t s few l i m = narrows t i (prime-met t s l m) (λ q w k. absurd (omega (arith, w.fewer)))
  reaches (suc most) t s few l i m =
      narrows t i (prime-met t s l m) (λ q w k. reaches most q s (omega (arith, w.fewer)) (w.long ∙ l) k (w.met s m))

  minterm-implicant : (s : Setting) → C s ≡ true → implicant n C (minterm s) ≡ true
  unfolding implicant
  minterm-implicant s h = all_by (λ q. not (meets (minterm s) q) || C q) (settings n) (λ q in-it. by_test (meets (minterm s) q)
      (λ e. rw (e, minterm_only s q e, h) refl)
      (λ e. rw e refl))

  -- For every condition: a setting is one of it exactly when it meets one of its prime implicants.
  pub covered : (s : Setting) → length s ≡ n → any_of (λ t. meets t s) (primes n C) ≡ C s
  unfolding primes prime
  covered s l =
      by_test (C s)
      (λ e. reaches (named (minterm s)) (minterm s) s (omega arith) (minterm-length s ∙ l) (minterm-implicant s e) (minterm-met s) ∙ sym e)
      (λ e. by_test (any_of (λ t. meets t s) (primes n C))
      (λ found. any_found (λ t. meets t s) (primes n C) found (λ t in-it m.
      let k = kept (prime n C) (terms n) in-it in
      clash (C s) (implies t s (and_left (implicant n C t) (all_of (λ q. not (implicant n C q)) (dropped t)) k.0) l m) e))
      (λ lost. lost ∙ sym e))

-- "a setting of the pins gives e exactly when it meets a row of group e"
pub setting_fact : (n : ℕ) (bits : List Bool) (e : Bool) (s : Setting) → length s ≡ n
    → (output bits s ≡ e) ↔ (any_of (λ t. meets t s) (primes n (gives bits e)) ≡ true)
unfolding gives
setting_fact n bits e s l = (
  λ g. covered n (gives bits e) s l ∙ rw g (same_refl e),
  λ m. same_true (output bits s) e (sym (covered n (gives bits e) s l) ∙ m),
)

-- ---- observing

no_setting : (k : ℕ) (v : Bool) (s : Setting) → meets [] (put_in k v s) ≡ false
unfolding meets put_in
no_setting zero v s = refl
no_setting (suc k) v [] = refl
no_setting (suc k) v (w ∷ s) = refl

no_term : (k : ℕ) (t : Term) → meets (put_in k none t) [] ≡ false
unfolding meets put_in
no_term zero t = refl
no_term (suc k) [] = refl
no_term (suc k) (l ∷ t) = refl

-- A pin that is not named may have either value.
pub meets_putIn : (k : ℕ) (v : Bool) (t : Term) (s : Setting) → meets (put_in k none t) (put_in k v s) ≡ meets t s
unfolding meets put_in fits
meets_putIn zero v t s = refl
meets_putIn (suc k) v [] [] = refl
meets_putIn (suc k) v [] (w ∷ s) = no_setting k v s
meets_putIn (suc k) v (l ∷ t) [] = rw (no_term k t) (and-false (fits l v))
meets_putIn (suc k) v (l ∷ t) (w ∷ s) = rw (meets_putIn k v t s) refl

any_putIn : (k : ℕ) (v : Bool) (s : Setting) (ts : List Term)
    → any_of (λ t. meets t (put_in k v s)) (map (λ t. put_in k none t) ts) ≡ any_of (λ t. meets t s) ts
unfolding any_of
any_putIn k v s [] = refl
any_putIn k v s (t ∷ ts) = rw (meets_putIn k v t s, any_putIn k v s ts) refl

-- A pin's value shows at the output exactly when the setting of the other pins meets a row of the pin's group, whichever value
-- the pin has.
pub observing_fact : (n : ℕ) (bits : List Bool) (k : ℕ) (s : Setting) (v : Bool) → suc (length s) ≡ n
    → (output bits (put_in k false s) ≡ output bits (put_in k true s) → ⊥)
    ↔ (any_of (λ t. meets t (put_in k v s)) (observing n bits k) ≡ true)
unfolding observing changes
observing_fact n bits k s v l =
    let a = output bits (put_in k false s) in
    let b = output bits (put_in k true s) in
    let met : any_of (λ t. meets t (put_in k v s)) (observing n bits k) ≡ not (same a b) =
    any_putIn k v s (primes (n - 1) (changes bits k)) ∙ covered (n - 1) (changes bits k) s (omega arith) in
    (λ differs. met ∙ apart a b differs, λ m e. clash (not (same a b)) (sym met ∙ m) (rw e (ap not (same_refl b))))
  where
    apart : (a b : Bool) → (a ≡ b → ⊥) → not (same a b) ≡ true
    apart a b d = by_test (same a b) (λ e. absurd (d (same_true a b e))) (λ e. rw e refl)
