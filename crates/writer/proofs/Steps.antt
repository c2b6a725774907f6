-- What the proofs of the functions that write at a cursor share: bytes put behind bytes.
use Rattle.common_laws.proofs.Base.{List, [], ◌∷◌, ◌++◌, ltb, ltb-true, ltb-false, ◌≡◌, refl, sym, ap, ◌∙◌, ℕ, suc, ◌+◌, ◌-◌, ◌≤◌, ◌<◌, min, zero-add, arith, length, set}
use Rattle.common_laws.proofs.Base.{drop, length-append, sets, length-sets, sets-eq}
use Rattle.reading.proofs.Laws.{by_test}
use lib.Seq.{set_comm}
use Rattle.common_laws.proofs.Lists.{sets-past, sets-append}
use Rattle.writer.specs.Put.{Put, Puts}
use Rattle.writer.specs.declared.bytes.Cursor.{Cursor}

-- where a cursor is held back it stands past the end
sets-held : (vs l : List ℕ) (at n : ℕ) → sets l (at + min n (length l + 1 - at)) vs ≡ sets l (at + n) vs
sets-held vs l at n =
    by_test (ltb (at + n) (length l))
    (λ within. let inside : at + n < length l = ltb-true (at + n) (length l) within in ap (λ (k : ℕ). sets l k vs) (omega arith))
    (λ past.
    let out : length l ≤ at + n = ltb-false (at + n) (length l) past in
    sets-past vs l (at + min n (length l + 1 - at)) (omega arith) ∙ sym (sets-past vs l (at + n) out))

-- ---- bytes put before those that stand behind them

set_under : (vs l : List ℕ) (i j a : ℕ) → i < j → set (sets l j vs) i a ≡ sets (set l i a) j vs
set_under [] l i j a h = refl
set_under (b ∷ vs) l i j a h =
    set_under vs (set l j b) i (suc j) a (omega arith) ∙ rw (set_comm l j i b a (λ e. omega arith)) refl

sets_under : (us vs l : List ℕ) (i j : ℕ) → i + length us ≤ j → sets (sets l j vs) i us ≡ sets (sets l i us) j vs
sets_under [] vs l i j h = refl
sets_under (a ∷ us) vs l i j h = rw (set_under vs l i j a (omega arith)) (sets_under us vs (set l i a) (suc i) j (omega arith))

pub sets-before : (us vs l : List ℕ) (i j : ℕ) → j ≡ i + length us → sets (sets l j vs) i us ≡ sets l i (us ++ vs)
sets-before us vs l i j e = sets_under us vs l i j (omega arith) ∙ rw e (sym (sets-append us vs l i))

-- ---- bytes put at a cursor

pub put-none : (at : ℕ) (l : List ℕ) → Put at [] l l at
put-none at l = record { stored = refl; moved = omega arith }

pub put_then : {at next end : ℕ} {vs ws l l₁ l₂ : List ℕ} → Put at vs l l₁ next → Put next ws l₁ l₂ end → Put at (vs ++ ws) l l₂ end
put_then {at} {next} {end} {vs} {ws} {l} {l₁} {l₂} p q =
    let e : length l₁ ≡ length l = ap length p.stored ∙ length-sets l at vs in
    let held : sets l₁ next ws ≡ sets l₁ (at + length vs) ws = rw (p.moved, ← e) (sets-held ws l₁ at (length vs)) in
    record {
      stored =
          q.stored
          ∙ held
          ∙ ap (λ (k : List ℕ). sets k (at + length vs) ws) p.stored
          ∙ sym (sets-append vs ws l at);
      moved = rw (length-append vs ws) (omega (arith, p.moved, q.moved, e));
    }

-- bytes that fit stand in the buffer's front
pub put_front : {next : ℕ} {vs l l₁ : List ℕ} → Put 0 vs l l₁ next → length vs ≤ length l → l₁ ≡ vs ++ drop (length vs) l
put_front {next} {vs} {l} {l₁} p h = p.stored ∙ sets-eq vs l 0 (rw zero-add h) ∙ rw zero-add refl

-- ---- the same of a cursor

pub puts-none : (c : Cursor) → Puts [] c c
puts-none c = record { lent = refl; put = put-none c.at c.buffer.now }

-- For the attribute of a function that may put nothing.
pub ruleset nothing_put = (puts-none)

pub puts_then : {vs ws : List ℕ} {c d e : Cursor} → Puts vs c d → Puts ws d e → Puts (vs ++ ws) c e
puts_then p q = record { lent = q.lent ∙ p.lent; put = put_then p.put q.put }

-- When the lender has its buffer back.
pub puts_lender : {word before after : List ℕ} {at : ℕ} {c d : Cursor} → Puts word c d → c.at ≡ at → c.buffer.now ≡ before → d.buffer.now ≡ after
    → Put at word before after d.at
puts_lender p e f g = rw (e, f, g) at p.put
