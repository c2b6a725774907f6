-- What passes over the gates level, without any table: a line that is levelled has a driver and does not lead to itself; and
-- without loops or open lines every line that is mentioned is levelled.
use Rattle.common_laws.proofs.Base.{Bool, true, false, not, List, [], ◌∷◌, List-as-Memᴰ, List-Memᴰ-head, List-Memᴰ-tail, ◌⊎◌, inl, inr, ⊎_elim, ◌≡◌, refl, sym, subst, ◌∙◌, ℕ, zero}
use Rattle.common_laws.proofs.Base.{suc, ◌+◌, ◌≤◌, ◌<◌, dec_lt, arith, eqb, length, set, length-replicate, set_out}
use Rattle.sizes.specs.Sizes as Size
use Rattle.reading.specs.Choice.{pick}
use Rattle.reading.proofs.Laws.{by_test, clash, and_right}
use Rattle.library_table.specs.Cells.{Cell}
use Rattle.netlist_table.specs.Netlist.{Gate, Statement, gates_of, is_input, mentioned}
use Rattle.netlist_table.specs.Sound.{InRange, Sound}
use Rattle.netlist_table.proofs.Laws.{gate-mentioned, gate_no_input, driven-once, mentioned-in-range}
use Rattle.chip_values.specs.Loops.{Feeds, Leads, Leads.last, Leads.next, Loopless, Driver, NoneOpen}
use Rattle.chip_values.proofs.Trails.{by_feeding}
use Rattle.chip_values.proofs.Values.{same-gate}
use Rattle.chip_loops.specs.Marks.{marked, all_marked, mark_each, no_marks, ready, level, pass, passes, most_passes, levelled_lines}
use Rattle.chip_loops.proofs.Marks.{set-marked, set_keeps, set_cases, none-marked, all_listed, listed-all}
use Rattle.chip_loops.proofs.Marks.{each-marked, each-size, each_cases}
use Rattle.chip_loops.proofs.Steps.{level-same, level-size, passes-size, passes-rest}

-- ---- what is levelled stays so

module _ (k : ℕ) where
  pub level-keeps : (marks : List Bool) (g : Gate) → marked marks k ≡ true → marked (level marks g) k ≡ true
  unfolding level pick
  level-keeps marks g t = by_test (ready marks g) (λ r. rw r (set_keeps marks g.line k t)) (λ r. rw r t)

  pass-keeps : (gs : List Gate) (marks : List Bool) → marked marks k ≡ true → marked (pass gs marks) k ≡ true
  unfolding pass
  pass-keeps [] marks t = t
  pass-keeps (g ∷ gs) marks t = pass-keeps gs (level marks g) (level-keeps marks g t)

  passes_keep : (n : ℕ) (gs : List Gate) (marks : List Bool) → marked marks k ≡ true → marked (passes n gs marks) k ≡ true
  unfolding passes
  passes_keep zero gs marks t = t
  passes_keep (suc n) gs marks t = passes_keep n gs (pass gs marks) (pass-keeps gs marks t)

-- ---- a pass levels the line of each gate whose pins are levelled

level-levels : (marks : List Bool) (g : Gate) → all_marked marks g.pins ≡ true → g.line < length marks
    → marked (level marks g) g.line ≡ true
unfolding level ready pick
level-levels marks g t h =
    by_test (marked marks g.line)
    (λ m. rw m m)
    (λ m. rw (m, t) (set-marked marks g.line h))

pub pass-levels : (gs : List Gate) (marks : List Bool) (g : Gate) → List-as-Memᴰ g gs → all_marked marks g.pins ≡ true
    → g.line < length marks → marked (pass gs marks) g.line ≡ true
unfolding pass
pass-levels (h ∷ gs) marks g (List-Memᴰ-head e) t room =
    pass-keeps g.line gs (level marks h) (rw (← e) (level-levels marks g t room))
pass-levels (h ∷ gs) marks g (List-Memᴰ-tail m) t room =
    pass-levels gs (level marks h) g m
    (listed-all (level marks h) g.pins (λ l i. level-keeps l marks h (all_listed marks g.pins t l i)))
    (rw (level-size marks h) room)
pass-levels [] marks g m t room = elim m [ ]

-- ---- passes come to an end: each that levels a line leaves fewer without a mark

unmarked : List Bool → ℕ
unmarked [] = 0
unmarked (m ∷ ms) = pick m (unmarked ms) (suc (unmarked ms))

unmarked-few : (marks : List Bool) → unmarked marks ≤ length marks
unfolding unmarked pick
unmarked-few [] = omega arith
unmarked-few (m ∷ ms) = by_test m (λ t. rw t (omega (arith, unmarked-few ms))) (λ t. rw t (omega (arith, unmarked-few ms)))

unmarked-set : (marks : List Bool) (l : ℕ) → marked marks l ≡ false → l < length marks → unmarked (set marks l true) < unmarked marks
unfolding unmarked marked pick
unmarked-set [] l n h = absurd (omega arith)
unmarked-set (m ∷ ms) zero n h = by_test m (λ t. clash m t n) (λ t. rw t (omega arith))
unmarked-set (m ∷ ms) (suc l) n h =
    let less = unmarked-set ms l n (omega arith) in
    by_test m (λ t. rw t (omega (arith, less))) (λ t. rw t (omega (arith, less)))

-- The same marks, or fewer lines without one.
abbrev Fewer : List Bool → List Bool → Type 0
Fewer before after = (after ≡ before) ⊎ (unmarked after < unmarked before)

fewer-next : (a b c : List Bool) → Fewer a b → Fewer b c → Fewer a c
fewer-next a b c (inl e) f = rw (← e) f
fewer-next a b c (inr h) (inl f) = inr (rw f h)
fewer-next a b c (inr h) (inr i) = inr (omega arith)

level-fewer : (marks : List Bool) (g : Gate) → Fewer marks (level marks g)
unfolding level pick ready
level-fewer marks g =
    by_test (ready marks g) (λ r. set-fewer r (dec_lt g.line (length marks))) (λ r. inl (level-same marks g r))
  where
    set-fewer : ready marks g ≡ true → Dec (g.line < length marks) → Fewer marks (level marks g)
    set-fewer r (yes h) =
        let new : marked marks g.line ≡ false = by_test (marked marks g.line) (λ t. clash false (rw t at r) refl) (λ t. t) in
        inr (rw r (unmarked-set marks g.line new h))
    set-fewer r (no n) = inl (rw r (set_out marks g.line true (omega arith)))

pass-fewer : (gs : List Gate) (marks : List Bool) → Fewer marks (pass gs marks)
unfolding pass
pass-fewer [] marks = inl refl
pass-fewer (g ∷ gs) marks =
    fewer-next marks (level marks g) (pass gs (level marks g)) (level-fewer marks g) (pass-fewer gs (level marks g))

module _ (gs : List Gate) where
  -- After n passes one more changes nothing, or n lines more have a mark.
  abbrev Ended : ℕ → List Bool → Type 0
  Ended n marks = (pass gs (passes n gs marks) ≡ passes n gs marks) ⊎ (unmarked (passes n gs marks) + n ≤ unmarked marks)

  passes-end : (n : ℕ) (marks : List Bool) → Ended n marks
  unfolding passes
  passes-end zero marks = inr (omega arith)
  passes-end (suc n) marks = go (pass-fewer gs marks) (passes-end n (pass gs marks))
    where
      go : Fewer marks (pass gs marks) → Ended n (pass gs marks)
          → (pass gs (passes n gs (pass gs marks)) ≡ passes n gs (pass gs marks))
          ⊎ (unmarked (passes n gs (pass gs marks)) + suc n ≤ unmarked marks)
      go f (inl e) = inl e
      go (inr h) (inr i) = inr (omega arith)
      go (inl e) (inr i) = inl (rw (e, passes-rest gs marks n e) e)

  -- So many passes as there are lines, and one more, come to an end.
  pub ends : (marks : List Bool) → length marks ≡ Size.line_places → pass gs (passes most_passes gs marks) ≡ passes most_passes gs marks
  ends marks size = go (passes-end most_passes marks)
    where
      go : Ended most_passes marks → pass gs (passes most_passes gs marks) ≡ passes most_passes gs marks
      go (inl e) = e
      go (inr h) = absurd (omega (arith, unmarked-few marks))

-- ---- a levelled line

-- An input is levelled, and the line of a gate whose pins read levelled lines.
data Levelled (ss : List Statement) : ℕ → Type 0 where
  input : {l : ℕ} → is_input l ss ≡ true → Levelled ss l
  driven : {l : ℕ} (g : Gate) → List-as-Memᴰ g (gates_of ss) → g.line ≡ l → ((k : ℕ) → List-as-Memᴰ k g.pins → Levelled ss k)
      → Levelled ss l

module _ (ss : List Statement) where
  -- Every line with a mark is.
  abbrev AllLevelled : List Bool → Type 0
  AllLevelled marks = (l : ℕ) → marked marks l ≡ true → Levelled ss l

  level-sound : (marks : List Bool) (g : Gate) → List-as-Memᴰ g (gates_of ss) → AllLevelled marks → AllLevelled (level marks g)
  unfolding level pick ready
  level-sound marks g m all =
      by_test (ready marks g)
      (λ r. rw r
      (λ l t. ⊎_elim
      (λ e. driven g m (sym e) (λ k i. all k (all_listed marks g.pins (pins-ready r) k i)))
      (λ u. all l u)
      (set_cases marks g.line l t)))
      (λ r. rw r all)
    where
      pins-ready : ready marks g ≡ true → all_marked marks g.pins ≡ true
      pins-ready r = and_right (not (marked marks g.line)) (all_marked marks g.pins) r

  pass-sound : (gs : List Gate) (marks : List Bool) → ((g : Gate) → List-as-Memᴰ g gs → List-as-Memᴰ g (gates_of ss)) → AllLevelled marks
      → AllLevelled (pass gs marks)
  unfolding pass
  pass-sound [] marks among all = all
  pass-sound (g ∷ gs) marks among all =
      pass-sound gs (level marks g) (λ h m. among h (List-Memᴰ-tail m))
      (level-sound marks g (among g (List-Memᴰ-head refl)) all)

  passes-sound : (n : ℕ) (marks : List Bool) → AllLevelled marks → AllLevelled (passes n (gates_of ss) marks)
  unfolding passes
  passes-sound zero marks all = all
  passes-sound (suc n) marks all =
      passes-sound n (pass (gates_of ss) marks) (pass-sound (gates_of ss) marks (λ g m. m) all)

  levelled-driver : (l : ℕ) → Levelled ss l → Driver ss l
  levelled-driver l (input e) = Driver.input e
  levelled-driver l (driven g m e pins) = Driver.gate g m e

  -- A line that leads to itself is fed by one that does.
  last_feeds : {k l : ℕ} → Leads ss k l → (m : ℕ) × Feeds ss m l × ((k ≡ m) ⊎ Leads ss k m)
  last_feeds {k} (last f) = (k, f, inl refl)
  last_feeds (next f r) = before f (last_feeds r)
    where
      before : {k m l : ℕ} → Feeds ss k m → (j : ℕ) × Feeds ss j l × ((m ≡ j) ⊎ Leads ss m j)
          → (j : ℕ) × Feeds ss j l × ((k ≡ j) ⊎ Leads ss k j)
      before {k} f (j, h, inl e) = (j, h, inr (subst (λ (x : ℕ). Leads ss k x) e (last f)))
      before f (j, h, inr q) = (j, h, inr (next f q))

  fed_by_loop : (l : ℕ) → Leads ss l l → (m : ℕ) × Feeds ss m l × Leads ss m m
  fed_by_loop l r = go (last_feeds r)
    where
      go : (m : ℕ) × Feeds ss m l × ((l ≡ m) ⊎ Leads ss l m) → (m : ℕ) × Feeds ss m l × Leads ss m m
      go (m, f, inl e) = (m, f, subst (λ (x : ℕ). Leads ss m x) e (last f))
      go (m, f, inr q) = (m, f, next f q)

  module _ (cells : List Cell) (sound : Sound cells ss) where
    no_loop : (l : ℕ) → Levelled ss l → Leads ss l l → ⊥
    no_loop l (input e) r =
        let f = (fed_by_loop l r).1 in
        let other = gate_no_input cells ss sound f.gate f.listed in
        clash (is_input l ss) e (subst (λ (x : ℕ). is_input x ss ≡ false) f.drives other)
    no_loop l (driven g m e pins) r =
        let k = (fed_by_loop l r).0 in
        let f = (fed_by_loop l r).1 in
        let same = same-gate (gates_of ss) (driven-once cells ss sound) f.gate g f.listed m (f.drives ∙ sym e) in
        no_loop k (pins k (subst (λ (x : Gate). List-as-Memᴰ k x.pins) same f.reads)) (fed_by_loop l r).2

-- ---- inputs and lines that are mentioned, as a list has them

-- The lines of a list are those of the netlist for which a test holds.
pub record Lists (test : ℕ → Bool) (ls : List ℕ) : Type 0 where
  pub only : (l : ℕ) → List-as-Memᴰ l ls → test l ≡ true
  pub each : (l : ℕ) → test l ≡ true → List-as-Memᴰ l ls

module _ (cells : List Cell) (ss : List Statement) (sound : Sound cells ss) (inputs mentions : List ℕ)
    (are_inputs : Lists (λ l. is_input l ss) inputs) (are_mentions : Lists (λ l. mentioned l ss) mentions) where
  abbrev at_end : List Bool
  at_end = levelled_lines inputs (gates_of ss)

  first_size : length (mark_each no_marks inputs) ≡ Size.line_places
  first_size = each-size no_marks inputs ∙ length-replicate {A = Bool} Size.line_places false

  end-size : length at_end ≡ Size.line_places
  unfolding levelled_lines
  end-size = passes-size most_passes (gates_of ss) (mark_each no_marks inputs) ∙ first_size

  all-levelled : AllLevelled ss at_end
  unfolding levelled_lines
  all-levelled =
      passes-sound ss most_passes (mark_each no_marks inputs)
      (each_cases (Levelled ss) no_marks inputs
      (λ k t. clash (marked no_marks k) t (none-marked Size.line_places k))
      (λ k m. input (are_inputs.only k m)))

  -- Every line that is mentioned is levelled: there are neither loops nor open lines.
  pub levelled-free : all_marked at_end mentions ≡ true → Loopless ss × NoneOpen ss
  unfolding Loopless NoneOpen
  levelled-free t = (
    (λ l r.
        let f = (fed_by_loop ss l r).1 in
        let m = gate-mentioned f.gate l ss f.listed (List-Memᴰ-head (sym f.drives)) in
        no_loop ss cells sound l (levelled l m) r),
    (λ l m. levelled-driver ss l (levelled l m)),
  )
    where
      levelled : (l : ℕ) → mentioned l ss ≡ true → Levelled ss l
      levelled l m = all-levelled l (all_listed at_end mentions t l (are_mentions.each l m))

  -- And the other way.
  module _ (free : Loopless ss) (none : NoneOpen ss) where
    -- Where a line is mentioned it has a mark.
    abbrev Marks : ℕ → Type 0
    Marks l = mentioned l ss ≡ true → marked at_end l ≡ true

    levelled-step : (l : ℕ) → ((k : ℕ) → Feeds ss k l → Marks k) → Marks l
    unfolding NoneOpen levelled_lines InRange
    levelled-step l fed m = go (none l m)
      where
        go : Driver ss l → marked at_end l ≡ true
        go (Driver.input e) =
            passes_keep l most_passes (gates_of ss) (mark_each no_marks inputs)
            (each-marked no_marks inputs l (are_inputs.each l e)
            (rw (length-replicate {A = Bool} Size.line_places false) (omega (arith, (mentioned-in-range cells ss sound l m).1))))
        go (Driver.gate g i e) =
            let pins : all_marked at_end g.pins ≡ true = listed-all at_end g.pins
            (λ k j. fed k (record { gate = g; listed = i; drives = e; reads = j }) (gate-mentioned g k ss i (List-Memᴰ-tail j))) in
            let room : g.line < length at_end = rw (end-size, e) (omega (arith, (mentioned-in-range cells ss sound l m).1)) in
            let rests = ends (gates_of ss) (mark_each no_marks inputs) first_size in
            subst (λ (x : ℕ). marked at_end x ≡ true) e
            (subst (λ (ms : List Bool). marked ms g.line ≡ true) rests (pass-levels (gates_of ss) at_end g i pins room))

    pub free-levelled : all_marked at_end mentions ≡ true
    free-levelled =
        listed-all at_end mentions (λ l i. by_feeding ss free Marks levelled-step l (are_mentions.only l i))
