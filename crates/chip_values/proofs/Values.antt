-- Without loops and open lines each setting of the inputs gives each line one value, which depends only on the inputs that lead
-- to the line.
use Rattle.common_laws.proofs.Base.{Bool, true, false, List, [], ◌∷◌, map, List-as-Memᴰ, List-Memᴰ-head, List-Memᴰ-tail, nil≢cons, cons≢nil, head-eq_of_cons-eq, tail-eq_of_cons-eq}
use Rattle.common_laws.proofs.Base.{◌⊎◌, inl, inr, ◌≡◌, refl, sym, subst, ap, ap₂, ◌∙◌, ℕ}
use Rattle.reading.proofs.Laws.{by_test, clash}
use Rattle.library_table.specs.Cells.{Cell}
use Rattle.netlist_table.specs.Netlist.{Gate, Statement, gates_of, is_input, mentioned}
use Rattle.netlist_table.specs.Netlist as NL
use Rattle.netlist_table.specs.Sound as N
use Rattle.netlist_table.proofs.Laws.{driven-once, gate_no_input, gate-mentioned, marked-mentioned}
use Rattle.chip_values.specs.Loops.{Feeds, Leads, Leads.last, Leads.next, Loopless, Driver, Driver.input, Driver.gate, NoneOpen}
use Rattle.chip_values.specs.Values.{Setting, Values, Tables, Does, OneValue}
use Rattle.chip_values.proofs.Trails.{by_feeding}

-- Line k is line l, or leads to it.
abbrev pub Reaches : List Statement → ℕ → ℕ → Type 0
Reaches ss k l = (k ≡ l) ⊎ Leads ss k l

pub reaches_more : (ss : List Statement) (k m l : ℕ) → Reaches ss k m → Feeds ss m l → Leads ss k l
reaches_more ss k m l (inl e) f = subst (λ (x : ℕ). Leads ss x l) (sym e) (last f)
reaches_more ss k m l (inr p) f = leads-more p f
  where
    leads-more : {k m l : ℕ} → Leads ss k m → Feeds ss m l → Leads ss k l
    leads-more (last a) f = next a (last f)
    leads-more (next a p) f = next a (leads-more p f)

-- ---- one gate for a line

pub same-gate : (gs : List Gate) → N.DrivenOnce gs → (g h : Gate) → List-as-Memᴰ g gs → List-as-Memᴰ h gs → g.line ≡ h.line → g ≡ h
same-gate (x ∷ gs) d g h (List-Memᴰ-head a) (List-Memᴰ-head b) e = a ∙ sym b
same-gate (x ∷ gs) d g h (List-Memᴰ-head a) (List-Memᴰ-tail b) e = absurd (d.0 h b (ap (λ (t : Gate). t.line) (sym a) ∙ e))
same-gate (x ∷ gs) d g h (List-Memᴰ-tail a) (List-Memᴰ-head b) e = absurd (d.0 g a (ap (λ (t : Gate). t.line) (sym b) ∙ sym e))
same-gate (x ∷ gs) d g h (List-Memᴰ-tail a) (List-Memᴰ-tail b) e = same-gate gs d.1 g h a b e
same-gate [] d g h m _ e = elim m [ ]

same_map : {A B : Type 0} (v w : A → B) (xs : List A) → ((x : A) → List-as-Memᴰ x xs → v x ≡ w x) → map v xs ≡ map w xs
same_map v w [] h = refl
same_map v w (x ∷ xs) h = ap₂ ◌∷◌ (h x (List-Memᴰ-head refl)) (same_map v w xs (λ y m. h y (List-Memᴰ-tail m)))

module _ (ss : List Statement) (tables : Tables) (free : Loopless ss) (driven : NoneOpen ss) where
  -- A line that feeds another has a driver.
  pub feeder : (k l : ℕ) → Feeds ss k l → Driver ss k
  unfolding NoneOpen
  feeder k l f = driven k (gate-mentioned f.gate k ss f.listed (List-Memᴰ-tail f.reads))

  -- ---- what a value depends on

  module _ (s t : Setting) (v w : Values) (a : Does ss tables s v) (b : Does ss tables t w) where
    -- The settings agree on the inputs that reach the line.
    abbrev Agree : ℕ → Type 0
    Agree l = (k : ℕ) → Reaches ss k l → is_input k ss ≡ true → s k ≡ t k

    agree-step : (l : ℕ) → ((k : ℕ) → Feeds ss k l → Driver ss k → Agree k → v k ≡ w k) → Driver ss l → Agree l → v l ≡ w l
    agree-step l rec (input e) h = a.inputs l e ∙ h l (inl refl) e ∙ sym (b.inputs l e)
    agree-step l rec (gate g m e) h =
        let fed : (k : ℕ) → List-as-Memᴰ k g.pins → Feeds ss k l = λ k i. record { gate = g; listed = m; drives = e; reads = i } in
        let same = same_map v w g.pins (λ k i. rec k (fed k i) (feeder k l (fed k i))
        (λ x r n. h x (inr (reaches_more ss x k l r (fed k i))) n)) in
        ap v (sym e) ∙ a.gates g m ∙ ap (tables g) same ∙ sym (b.gates g m) ∙ ap w e

    pub agree : (l : ℕ) → Driver ss l → Agree l → v l ≡ w l
    agree = by_feeding ss free (λ (l : ℕ). Driver ss l → Agree l → v l ≡ w l) agree-step

  -- ---- that there are values

  module _ (cells : List Cell) (sound : N.Sound cells ss) (s : Setting) where
    mutual
      -- A line's value by the gates that lead to it.
      data Gives : ℕ → Bool → Type 0 where
        at_input : {l : ℕ} {x : Bool} → is_input l ss ≡ true → x ≡ s l → Gives l x
        at_gate : {l : ℕ} {x : Bool} (g : Gate) → List-as-Memᴰ g (gates_of ss) → g.line ≡ l → (xs : List Bool) → GivesAll g.pins xs
            → x ≡ tables g xs → Gives l x

      data GivesAll : List ℕ → List Bool → Type 0 where
        none : GivesAll [] []
        more : {l : ℕ} {x : Bool} {ls : List ℕ} {xs : List Bool} → Gives l x → GivesAll ls xs → GivesAll (l ∷ ls) (x ∷ xs)

    -- No line is an input and driven by a gate.
    both : {A : Type 0} {l : ℕ} → is_input l ss ≡ true → (g : Gate) → List-as-Memᴰ g (gates_of ss) → g.line ≡ l → A
    both {l = l} e g m q =
        clash (is_input l ss) e (subst (λ (k : ℕ). is_input k ss ≡ false) q (gate_no_input cells ss sound g m))

    mutual
      gives-once : {k l : ℕ} {x y : Bool} → Gives k x → k ≡ l → Gives l y → x ≡ y
      gives-once (at_input e i) o (at_input f j) = i ∙ ap s o ∙ sym j
      gives-once (at_input e i) o (at_gate g m q xs p j) = both e g m (q ∙ sym o)
      gives-once (at_gate g m q xs p j) o (at_input e i) = both e g m (q ∙ o)
      gives-once (at_gate g m q xs p i) o (at_gate h n r ys t j) =
          let e : g ≡ h = same-gate (gates_of ss) (driven-once cells ss sound) g h m n (q ∙ o ∙ sym r) in
          i ∙ ap₂ tables e (gives-all-once p (ap (λ (u : Gate). u.pins) e) t) ∙ sym j

      gives-all-once : {ks ls : List ℕ} {xs ys : List Bool} → GivesAll ks xs → ks ≡ ls → GivesAll ls ys → xs ≡ ys
      gives-all-once none e none = refl
      gives-all-once none e (more b q) = absurd (nil≢cons e)
      gives-all-once (more a p) e none = absurd (cons≢nil e)
      gives-all-once (more a p) e (more b q) =
          ap₂ ◌∷◌ (gives-once a (head-eq_of_cons-eq e) b) (gives-all-once p (tail-eq_of_cons-eq e) q)

    -- Some value.
    Given : ℕ → Type 0
    Given l = (x : Bool) × Gives l x

    given-all : (ls : List ℕ) → ((l : ℕ) → List-as-Memᴰ l ls → Given l) → (xs : List Bool) × GivesAll ls xs
    unfolding Given
    given-all [] h = ([], none)
    given-all (l ∷ ls) h =
        let a = h l (List-Memᴰ-head refl) in
        let b = given-all ls (λ k m. h k (List-Memᴰ-tail m)) in
        (a.0 ∷ b.0, more a.1 b.1)

    given-step : (l : ℕ) → ((k : ℕ) → Feeds ss k l → Driver ss k → Given k) → Driver ss l → Given l
    unfolding Given
    given-step l rec (input e) = (s l, at_input e refl)
    given-step l rec (gate g m e) =
        let fed : (k : ℕ) → List-as-Memᴰ k g.pins → Feeds ss k l = λ k i. record { gate = g; listed = m; drives = e; reads = i } in
        let all = given-all g.pins (λ k i. rec k (fed k i) (feeder k l (fed k i))) in
        (tables g all.0, at_gate g m e all.0 all.1 refl)

    given : (l : ℕ) → Driver ss l → Given l
    given = by_feeding ss free (λ (l : ℕ). Driver ss l → Given l) given-step

    -- A value for each line, given where the netlist mentions the line.
    valued : (l : ℕ) → (x : Bool) × (mentioned l ss ≡ true → Gives l x)
    unfolding Given NoneOpen
    valued l =
        by_test (mentioned l ss)
        (λ m. let a = given l (driven l m) in (a.0, λ h. a.1))
        (λ m. (false, λ h. clash (mentioned l ss) h m))

    the_values : Values
    the_values l = (valued l).0

    all-valued : (ls : List ℕ) → ((l : ℕ) → List-as-Memᴰ l ls → mentioned l ss ≡ true) → GivesAll ls (map the_values ls)
    unfolding the_values
    all-valued [] h = none
    all-valued (l ∷ ls) h = more ((valued l).1 (h l (List-Memᴰ-head refl))) (all-valued ls (λ k m. h k (List-Memᴰ-tail m)))

    does : Does ss tables s the_values
    unfolding the_values
    does =
        record {
          inputs = λ l e. gives-once ((valued l).1 (marked-mentioned NL.input l ss e)) refl (at_input e refl);
          gates = λ g m. gives-once ((valued g.line).1 (gate-mentioned g g.line ss m (List-Memᴰ-head refl))) refl
              (at_gate g m refl (map the_values g.pins) (all-valued g.pins (λ l i. gate-mentioned g l ss m (List-Memᴰ-tail i))) refl);
        }

    pub one_value_lem : OneValue ss tables s
    unfolding NoneOpen
    one_value_lem =
        record {
          values = the_values;
          given = does;
          alone = λ v d l m. agree s s v the_values d does l (driven l m) (λ k r e. refl);
        }
