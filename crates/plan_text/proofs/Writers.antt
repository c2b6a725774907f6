-- What the two writers put.
use Rattle.common_laws.proofs.Base.{List, [], ◌∷◌, ◌++◌, ◌≡◌, refl, sym, ap, ◌∙◌, ℕ, zero, suc, ◌+◌, ◌-◌, ◌/◌, ◌%◌, ◌^◌, ◌≤◌, ◌<◌, add-one, arith, lt-ltb, le-ltb, ltb-true, bit_and}
use Rattle.common_laws.proofs.Base.{count_trailing_zeros, ltb, length}
use Rattle.common_laws.proofs.Lists.{sets-past}
use Rattle.reading.specs.Choice.{pick}
use Rattle.reading.proofs.Laws.{by_test}
use Rattle.writer.specs.Put.{Puts}
use Rattle.writer.specs.declared.bytes.Cursor.{Cursor}
use Rattle.writer.proofs.Steps.{puts-none, puts_then}
use Rattle.sweep_sums.proofs.Columns.{no_places, lowest_first}
use Rattle.plan_text.specs.PlanText.{node_line, joined}
use Rattle.plan_text.specs.Writers.{visit_at, row_at, last_at, columns_at, goal_at, goals, goal_row, goal_line, levels, line_bytes, row_bytes}

-- ---- a cursor past the buffer's end

pub puts-past : (c : Cursor) (vs : List ℕ) → length c.buffer.now < c.at → Puts vs c c
puts-past c vs h = record { lent = refl; put = record { stored = sym (sets-past vs c.buffer.now c.at (omega arith)); moved = omega arith } }

-- ---- levels enough

joined_same : (f g : ℕ → List ℕ) (ns : List ℕ) → ((n : ℕ) → f n ≡ g n) → joined f ns ≡ joined g ns
unfolding joined
joined_same f g [] h = refl
joined_same f g (n ∷ ns) h = rw (h n, joined_same f g ns h) refl

module _ (marks netlist : List ℕ) where
  -- More levels than visits add nothing.
  levels_enough : (more before depth goal : ℕ) → before ≤ more → levels marks netlist (suc more) before depth goal ≡ levels marks netlist more before depth goal
  unfolding levels pick
  levels_enough zero before depth goal h = rw (le-ltb (visit_at marks goal) before (omega arith)) refl
  levels_enough (suc more) before depth goal h =
      by_test (ltb (visit_at marks goal) before)
      (λ below.
      let v : visit_at marks goal < before = ltb-true _ _ below in
      rw below
      (ap (λ (f : List ℕ). goal_line marks depth goal ++ f)
      (joined_same (levels marks netlist (suc more) (visit_at marks goal) (suc depth)) (levels marks netlist more (visit_at marks goal) (suc depth))
      (goals netlist (last_at marks goal) (columns_at marks goal))
      (λ n. levels_enough more (visit_at marks goal) (suc depth) n (omega arith)))))
      (λ above. rw above refl)

  levels-any : (extra before depth goal : ℕ) → levels marks netlist (before + extra) before depth goal ≡ line_bytes marks netlist before depth goal
  unfolding line_bytes
  levels-any zero before depth goal = let e : before + 0 ≡ before = omega arith in rw e refl
  levels-any (suc extra) before depth goal =
      let e : before + suc extra ≡ suc (before + extra) = omega arith in
      rw e (levels_enough (before + extra) before depth goal (omega arith) ∙ levels-any extra before depth goal)

  -- ---- the equations of the two writers

  pub line-none : (before depth goal : ℕ) → before ≤ visit_at marks goal → line_bytes marks netlist before depth goal ≡ []
  unfolding line_bytes levels pick
  line-none zero depth goal h = refl
  line-none (suc before) depth goal h = rw (le-ltb (visit_at marks goal) (suc before) h) refl

  pub line-some : (before depth goal : ℕ) → visit_at marks goal < before
      → line_bytes marks netlist before depth goal
      ≡ goal_line marks depth goal
      ++ row_bytes marks netlist (visit_at marks goal) (suc depth) (last_at marks goal) (columns_at marks goal)
  unfolding line_bytes levels row_bytes pick
  line-some zero depth goal h = absurd (omega arith)
  line-some (suc before) depth goal h =
      let v = visit_at marks goal in
      rw (lt-ltb v (suc before) h)
      (ap (λ (f : List ℕ). goal_line marks depth goal ++ f)
      (joined_same (levels marks netlist before v (suc depth)) (line_bytes marks netlist v (suc depth)) (goals netlist (last_at marks goal) (columns_at marks goal))
      (λ n.
      let e : before ≡ v + (before - v) = omega arith in
      ap (λ (f : ℕ). levels marks netlist f v (suc depth) n) e ∙ levels-any (before - v) v (suc depth) n)))

  pub row_none : (before depth last columns : ℕ) → columns ≤ 0 → row_bytes marks netlist before depth last columns ≡ []
  unfolding row_bytes goals joined
  row_none before depth last columns h =
      let e : columns ≡ 0 = omega arith in
      rw (e, no_places (goal_at netlist last) 32 0) refl

  pub row_some : (before depth last columns : ℕ) → 0 < columns → columns < 2 ^ 32
      → row_bytes marks netlist before depth last columns
      ≡ line_bytes marks netlist before depth (goal_at netlist last (count_trailing_zeros 32 columns))
      ++ row_bytes marks netlist before depth last (bit_and columns (columns - 1))
  unfolding row_bytes goals joined
  row_some before depth last columns p q =
      let z : 0 + count_trailing_zeros 32 columns ≡ count_trailing_zeros 32 columns = omega arith in
      rw (lowest_first (goal_at netlist last) 32 0 columns p q, z) refl

  -- ---- what the two writers leave

  module _ (before depth goal : ℕ) {out out₁ out₂ : Cursor} where
    pub line-put : (visit row columns last : ℕ) → visit ≡ visit_at marks goal → row ≡ row_at marks goal → columns ≡ columns_at marks goal → last ≡ last_at marks goal → visit < before
        → Puts (node_line depth (goal / 2) (goal % 2) (goal_row visit row)) out out₁
        → Puts (row_bytes marks netlist visit (depth + 1) last columns) out₁ out₂
        → Puts (line_bytes marks netlist before depth goal) out out₂
    unfolding goal_line
    line-put visit row columns last v d c l below p q =
        rw (line-some before depth goal (rw v at below))
        (puts_then (rw (v, d) at p) (rw (v, c, l, add-one depth) at q))

  -- Whatever the rest of a row puts from here, the whole row puts from its start.
  abbrev pub PutsRest : ℕ → ℕ → ℕ → Cursor → ℕ → ℕ → Cursor → Type 0
  PutsRest before depth last out columns rest now =
      (after : Cursor) → Puts (row_bytes marks netlist before depth last rest) now after → Puts (row_bytes marks netlist before depth last columns) out after

  module _ (before depth last columns : ℕ) (out : Cursor) where
    pub rest-more : (rest : ℕ) {now now₁ : Cursor} → 0 < rest → rest < 2 ^ 32 → (goal : ℕ) → goal ≡ goal_at netlist last (count_trailing_zeros 32 rest)
        → Puts (line_bytes marks netlist before depth goal) now now₁ → PutsRest before depth last out columns rest now
        → PutsRest before depth last out columns (bit_and rest (rest - 1)) now₁
    rest-more rest some few goal e p h after q = h after (rw (row_some before depth last rest some few) (puts_then (rw e at p) q))

    pub rest-all : (rest : ℕ) {now : Cursor} → rest ≤ 0 → PutsRest before depth last out columns rest now
        → Puts (row_bytes marks netlist before depth last columns) out now
    rest-all rest {now} none h = h now (rw (row_none before depth last rest none) (puts-none now))
