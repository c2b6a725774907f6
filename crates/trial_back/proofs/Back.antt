-- A walk that has ended has put all back.
use Rattle.common_laws.proofs.Base.{List, [], ◌∷◌, ◌++◌, ◌⊎◌, inl, inr, ⊎_elim, ◌≡◌, refl, sym, ◌∙◌, ℕ, ◌+◌, ◌-◌, ◌≤◌, ◌<◌, ℕ_discrete, dec_lt, arith, length}
use Rattle.common_laws.proofs.Base.{get_or, set, length-set, length-append, ext_get_or, get_or-set_same, get_or-set_other}
use Rattle.std.proofs.lemmas.List.{get_or_append_left, get_or_push}
use Rattle.sizes.specs.Sizes as Size
use Rattle.netlist_table.specs.Gates.{gate_line, LinesStand}
use Rattle.netlist_table.specs.Sound.{InRange}
use Rattle.trial_back.specs.Back.{co_place, Same, Put, Puts, PinsBack, driver_of, BehindOf, WalkFits, Walk, OnStack, Going, Reached, pad, behind, Changed}

-- ---- the stack

-- A line stays on the stack under another, which is on top.
under : (stack pushed : List ℕ) (line x : ℕ) → pushed ≡ stack ++ line ∷ [] → OnStack stack x → OnStack pushed x
under stack pushed line x e o =
    (o.0, rw (e, length-append) (omega (arith, o.1)), rw e (get_or_append_left stack (line ∷ []) 0 o.0 o.1) ∙ o.2)

on_top : (stack pushed : List ℕ) (line : ℕ) → pushed ≡ stack ++ line ∷ [] → OnStack pushed line
on_top stack pushed line e = (length stack, rw (e, length-append) (omega arith), rw e (get_or_push stack line 0 (length stack) refl))

long_more : (stack pushed : List ℕ) (line : ℕ) → pushed ≡ stack ++ line ∷ [] → length pushed ≡ length stack + 1
long_more stack pushed line e = rw (e, length-append) refl

-- What is on the stack is on top, or under it.
below_top : (stack popped : List ℕ) (line x : ℕ) → stack ≡ popped ++ line ∷ [] → OnStack stack x → OnStack popped x ⊎ (x ≡ line)
below_top stack popped line x e o = place (dec_lt o.0 (length popped))
  where
    place : Dec (o.0 < length popped) → OnStack popped x ⊎ (x ≡ line)
    place (yes h) = inl (o.0, h, sym (get_or_append_left popped (line ∷ []) 0 o.0 h) ∙ (rw e at o.2))
    place (no h) =
        let long = long_more popped stack line e in
        inr (sym o.2 ∙ rw e (get_or_push popped line 0 o.0 (omega (arith, o.1))))

module _ {standing before after stack pushed : List ℕ} {line : ℕ} (put : Put standing line before stack after pushed) where
  place_stays : (n : ℕ) → get_or before n 0 ≡ get_or standing n 0 → get_or after n 0 ≡ get_or standing n 0
  place_stays n e = ⊎_elim (λ a. a ∙ e) (λ a. a) (put.others n)

  -- What is put back stays so.
  stays : (m : ℕ) → Same standing before m → Same standing after m
  stays m s = record { co = place_stays (co_place m) s.co; so = place_stays (co_place m + 1) s.so }

  -- The stack keeps what it has.
  on_stays : (x : ℕ) → OnStack stack x → OnStack pushed x
  on_stays x o = ⊎_elim (λ t. rw t.1 o) (λ t. under stack pushed line x t o) put.either

  pub put_going : {entry : List ℕ} {Behind : ℕ → ℕ → Type 0} {from : ℕ} {Open : ℕ → Type 0} → Going standing entry Behind from Open before stack
      → Going standing entry Behind from Open after pushed
  put_going {entry} {Behind} {from} {Open} g =
      record {
        kept = λ n. ⊎_elim (λ e. ⊎_elim (λ a. inl (e ∙ a)) (λ a. inr (e ∙ a)) (g.kept n)) inr (put.others n);
        first = stays from g.first;
        done = λ x range differs s. here x range differs s (ℕ_discrete x line);
      }
    where
      Done : ℕ → Type 0
      Done x = OnStack pushed x ⊎ (Open x ⊎ ((p : ℕ) → Behind x p → Same standing after p))

      later : (x : ℕ) → OnStack stack x ⊎ (Open x ⊎ ((p : ℕ) → Behind x p → Same standing before p)) → Done x
      later x (inl o) = inl (on_stays x o)
      later x (inr (inl o)) = inr (inl o)
      later x (inr (inr all)) = inr (inr (λ p b. stays p (all p b)))

      here : (x : ℕ) → InRange x → (Same standing entry x → ⊥) → Same standing after x → Dec (x ≡ line) → Done x
      here x range differs s (no e) = later x (g.done x range differs (put.elsewhere x range e s))
      here x range differs s (yes e) =
          ⊎_elim (λ t. later x (g.done x range differs (rw e t.0))) (λ t. inl (rw e (on_top stack pushed line t))) put.either

-- The first line put back, on an empty stack.
pub put-begins : {standing entry after pushed : List ℕ} {line : ℕ} {Behind : ℕ → ℕ → Type 0} → Put standing line entry [] after pushed
    → Going standing entry Behind line (λ x. ⊥) after pushed
put-begins {standing} {entry} {after} {pushed} {line} {Behind} put =
    record {
      kept = put.others;
      first = put.same;
      done = λ x range differs s. here x range differs s (ℕ_discrete x line);
    }
  where
    here : (x : ℕ) → InRange x → (Same standing entry x → ⊥) → Same standing after x → Dec (x ≡ line)
        → OnStack pushed x ⊎ (⊥ ⊎ ((p : ℕ) → Behind x p → Same standing after p))
    here x range differs s (no e) = absurd (differs (put.elsewhere x range e s))
    here x range differs s (yes e) = ⊎_elim (λ t. absurd (differs (rw e t.0))) (λ t. inl (rw e (on_top [] pushed line t))) put.either

module _ {standing entry tried : List ℕ} {line : ℕ} {Behind : ℕ → ℕ → Type 0} where
  -- The line on top is taken off: it is open.
  pub pop_going : {stack popped : List ℕ} {top : ℕ} → stack ≡ popped ++ top ∷ [] → Going standing entry Behind line (λ x. ⊥) tried stack
      → Going standing entry Behind line (λ x. x ≡ top) tried popped
  pop_going {stack} {popped} {top} e g =
      record {
        kept = g.kept;
        first = g.first;
        done = λ x range differs s. opened x (g.done x range differs s);
      }
    where
      opened : (x : ℕ) → OnStack stack x ⊎ (⊥ ⊎ ((p : ℕ) → Behind x p → Same standing tried p))
          → OnStack popped x ⊎ ((x ≡ top) ⊎ ((p : ℕ) → Behind x p → Same standing tried p))
      opened x (inl o) = ⊎_elim inl (λ t. inr (inl t)) (below_top stack popped top x e o)
      opened x (inr (inl z)) = absurd z
      opened x (inr (inr all)) = inr (inr all)

  -- All behind the open line is put back: it is closed.
  pub close_going : {stack : List ℕ} {top : ℕ} → Going standing entry Behind line (λ x. x ≡ top) tried stack → ((p : ℕ) → Behind top p → Same standing tried p)
      → Going standing entry Behind line (λ x. ⊥) tried stack
  close_going {stack} {top} g all =
      record {
        kept = g.kept;
        first = g.first;
        done = λ x range differs s. closed x (g.done x range differs s);
      }
    where
      closed : (x : ℕ) → OnStack stack x ⊎ ((x ≡ top) ⊎ ((p : ℕ) → Behind x p → Same standing tried p))
          → OnStack stack x ⊎ (⊥ ⊎ ((p : ℕ) → Behind x p → Same standing tried p))
      closed x (inl o) = inl o
      closed x (inr (inl e)) = inr (inr (λ p b. all p (rw e at b)))
      closed x (inr (inr t)) = inr (inr t)

-- Nothing on the stack: all that was reached is put back, and the table is the one that stands.
module _ {standing entry tried : List ℕ} {line : ℕ} {Behind : ℕ → ℕ → Type 0} (g : Going standing entry Behind line (λ x. ⊥) tried []) where
  reached-back : {m : ℕ} → Reached standing entry Behind line m → Same standing tried m
  reached-back pad = g.first
  reached-back (behind {x = x} {p = p} range differs reached b) = split (g.done x range differs (reached-back reached))
    where
      split : OnStack [] x ⊎ (⊥ ⊎ ((q : ℕ) → Behind x q → Same standing tried q)) → Same standing tried p
      split (inl o) = absurd (omega (arith, o.1))
      split (inr (inl z)) = absurd z
      split (inr (inr all)) = all p b

  pub all_back : length tried ≡ length standing → Changed standing entry Behind line → tried ≡ standing
  all_back long changed = ext_get_or 0 tried standing long (λ n b. at n (changed n))
    where
      at : (n : ℕ) → (get_or entry n 0 ≡ get_or standing n 0) ⊎ ((m : ℕ) × ((n ≡ co_place m) ⊎ (n ≡ co_place m + 1)) × Reached standing entry Behind line m)
          → get_or tried n 0 ≡ get_or standing n 0
      at n (inl e) = ⊎_elim (λ a. a ∙ e) (λ a. a) (g.kept n)
      at n (inr t) = let s = reached-back t.2 in ⊎_elim (λ e. rw e s.co) (λ e. rw e s.so) t.1

-- ---- one line

module _ (standing before stack : List ℕ) (line : ℕ) where
  abbrev there : ℕ
  there = co_place line

  abbrev stored : List ℕ
  stored = set (set before there (get_or standing there 0)) (there + 1) (get_or standing (there + 1) 0)

  module _ (low : 1 ≤ line) (most : line ≤ Size.lines) (long : length before ≡ Size.numbers) where
    stored-so : get_or stored (there + 1) 0 ≡ get_or standing (there + 1) 0
    stored-so =
        get_or-set_same (set before there (get_or standing there 0)) (there + 1) (get_or standing (there + 1) 0) 0
        (rw (length-set before there (get_or standing there 0)) (omega arith))

    stored-co : get_or stored there 0 ≡ get_or standing there 0
    stored-co =
        get_or-set_other (set before there (get_or standing there 0)) (there + 1) there (get_or standing (there + 1) 0) 0 (λ e. omega (arith, e))
        ∙ get_or-set_same before there (get_or standing there 0) 0 (omega arith)

    stored_other : (n : ℕ) → (n ≡ there → ⊥) → (n ≡ there + 1 → ⊥) → get_or stored n 0 ≡ get_or before n 0
    stored_other n a b =
        get_or-set_other (set before there (get_or standing there 0)) (there + 1) n (get_or standing (there + 1) 0) 0 b
        ∙ get_or-set_other before there n (get_or standing there 0) 0 a

    pub put_one : Put standing line before stack stored (stack ++ line ∷ [])
    put_one =
        record {
          same = record { co = stored-co; so = stored-so };
          others = λ n. split n (ℕ_discrete n there) (ℕ_discrete n (there + 1));
          elsewhere = λ m range e s. apart m (unfold InRange in range) e s;
          either = inr refl;
        }
      where
        split : (n : ℕ) → Dec (n ≡ there) → Dec (n ≡ there + 1) → (get_or stored n 0 ≡ get_or before n 0) ⊎ (get_or stored n 0 ≡ get_or standing n 0)
        split n (yes e) b = inr (rw e stored-co)
        split n (no a) (yes e) = inr (rw e stored-so)
        split n (no a) (no b) = inl (stored_other n a b)

        apart : (m : ℕ) → (1 ≤ m) × (m ≤ Size.lines) → (m ≡ line → ⊥) → Same standing stored m → Same standing before m
        apart m range e s =
            let a : co_place m ≡ there → ⊥ = λ q. e (omega (arith, q, range.0)) in
            let b : co_place m ≡ there + 1 → ⊥ = λ q. e (omega (arith, q, range.0)) in
            let c : co_place m + 1 ≡ there → ⊥ = λ q. e (omega (arith, q, range.0)) in
            let d : co_place m + 1 ≡ there + 1 → ⊥ = λ q. e (omega (arith, q, range.0)) in
            record {
              co = sym (stored_other (co_place m) a b) ∙ s.co;
              so = sym (stored_other (co_place m + 1) c d) ∙ s.so;
            }

  -- A line that had not changed.
  pub put_none : Same standing before line → Put standing line before stack before stack
  put_none same = record { same = same; others = λ n. inl refl; elsewhere = λ m range e s. s; either = inl (same, refl) }

-- ---- the pins of a gate

pub pins-none : (standing netlist : List ℕ) (gate : ℕ) (before stack : List ℕ) → PinsBack standing netlist gate 1 before stack before stack
pins-none standing netlist gate before stack = record { few = omega arith; puts = Puts.none; back = λ i a b h. absurd (omega arith) }

module _ {standing netlist before stack between half : List ℕ} {gate end : ℕ} (p : PinsBack standing netlist gate end before stack between half) where
  -- A pin that reads no line, ..
  pub pins-pass : (1 ≤ gate_line netlist gate end → ⊥) → PinsBack standing netlist gate (end + 1) before stack between half
  pins-pass z =
      record {
        few = omega (arith, p.few);
        puts = p.puts;
        back = λ i a b h. here i a b h (ℕ_discrete i end);
      }
    where
      here : (i : ℕ) → 1 ≤ i → i < end + 1 → 1 ≤ gate_line netlist gate i → Dec (i ≡ end) → Same standing between (gate_line netlist gate i)
      here i a b h (yes e) = absurd (z (rw e at h))
      here i a b h (no e) = p.back i a (omega arith) h

  -- .. and one whose line was put back.
  pub pins-next : {after pushed : List ℕ} {line : ℕ} → line ≡ gate_line netlist gate end → Put standing line between half after pushed
      → PinsBack standing netlist gate (end + 1) before stack after pushed
  pins-next {after} {pushed} {line} e put =
      record {
        few = ⊎_elim (λ t. rw t.1 (omega (arith, p.few))) (λ t. omega (arith, p.few, long_more half pushed line t)) put.either;
        puts = Puts.next p.puts put;
        back = λ i a b h. here i a b h (ℕ_discrete i end);
      }
    where
      here : (i : ℕ) → 1 ≤ i → i < end + 1 → 1 ≤ gate_line netlist gate i → Dec (i ≡ end) → Same standing after (gate_line netlist gate i)
      here i a b h (yes f) = rw (f, ← e) put.same
      here i a b h (no f) = stays put (gate_line netlist gate i) (p.back i a (omega (arith, f)) h)

-- The walk goes on over them.
pub puts_going : {standing before stack after pushed entry : List ℕ} {from : ℕ} {Behind : ℕ → ℕ → Type 0} {Open : ℕ → Type 0}
    → Puts standing before stack after pushed → Going standing entry Behind from Open before stack → Going standing entry Behind from Open after pushed
puts_going Puts.none g = g
puts_going (Puts.next ps put) g = put_going put (puts_going ps g)

-- ---- the walk

module _ (netlist links standing before stack tried : List ℕ) where
  -- A line that no gate drives is taken off, ..
  pub walk-past : (held popped : List ℕ) (line : ℕ) → Walk netlist links standing before stack tried held → held ≡ popped ++ line ∷ []
      → (1 ≤ driver_of links line → ⊥) → Walk netlist links standing before stack tried popped
  walk-past held popped line w e z entry from g = close_going (pop_going e (w entry from g)) (λ p b. absurd (z b.0))

  -- .. and one that a gate drives, whose pins' lines are put back.
  pub walk-on : {after pushed : List ℕ} (held popped : List ℕ) (line gate : ℕ) → Walk netlist links standing before stack tried held
      → held ≡ popped ++ line ∷ [] → gate ≡ driver_of links line - 1 → PinsBack standing netlist gate Size.gate_lines tried popped after pushed
      → Walk netlist links standing before stack after pushed
  walk-on held popped line gate w e d back entry from g =
      close_going (puts_going back.puts (pop_going e (w entry from g)))
      (λ p b. let t = b.1 in rw t.4 (rw d at (back.back t.0 t.1 t.2 (rw d t.3))))

  pub walk_ends : (held : List ℕ) → held ≡ [] → Walk netlist links standing before stack tried held → length tried ≡ length standing
      → (entry : List ℕ) (line : ℕ) → Going standing entry (BehindOf netlist links) line (λ x. ⊥) before stack
      → Changed standing entry (BehindOf netlist links) line → tried ≡ standing
  walk_ends held e w long entry line g changed = all_back (rw e at (w entry line g)) long changed

-- The gate that drives a line is one whose lines stand.
pub driver-stands : {netlist links : List ℕ} (line gate : ℕ) → WalkFits netlist links → line ≤ Size.lines → 1 ≤ driver_of links line
    → gate ≡ driver_of links line - 1 → LinesStand netlist (gate + 1)
driver-stands line gate f b h e =
    let d = f.drivers line b in
    record {
      count = omega (arith, d, f.lines_stand.count);
      room = omega (arith, d, f.lines_stand.room);
      most = λ g i a c. f.lines_stand.most g i (omega (arith, d)) c;
    }
