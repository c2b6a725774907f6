-- What readers of a netlist cite: the facts of every netlist that was read. What stands at a place of the table is in
-- `Places.antt`.
use Rattle.common_laws.proofs.Base.{true, false, or-true, List, [], ◌∷◌, ◌++◌, List-as-Memᴰ, List-Memᴰ-head, List-Memᴰ-tail, List-Memᴰ-not-nil, flat_map, ⊎_elim, Option, ◌≡◌, refl}
use Rattle.common_laws.proofs.Base.{sym, ap, ◌∙◌, ℕ, suc, ◌+◌, eqb, length, get_or, eq-eqb, eqb-true, eqb-false}
use Rattle.text.specs.Lines.{lines}
use Rattle.reading.specs.Choice.{pick}
use Rattle.reading.specs.Each.{Each}
use Rattle.reading.specs.Refusal.{read}
use Rattle.reading.proofs.Laws.{by_test, clash, each_member, refused-read, bind_read}
use Rattle.library_table.specs.Cells.{Cell}
use Rattle.netlist_table.specs.declared.Rules.{Rules}
use Rattle.netlist_table.specs.Netlist.{Gate, Mark, input, Statement, mark, gate, priced, kind_of, member, lines_of, lines_marked, lines_claimed, gates_in, mentioned_lines, marked_lines, claimed_lines, gates_of, mentioned, is_marked, is_input, admitted, line_forms, text_statements, declared, netlist}
use Rattle.netlist_table.specs.Admission.{refusal_of, extended}
use Rattle.netlist_table.specs.Sound.{InRange, LinesInRange, GateSound, Apart, Sound, DrivenOnce}
use Rattle.netlist_table.proofs.Causes.{member-left, member_right, member_cases, member-among, mark_claims, pins_at-cell}
use Rattle.netlist_table.proofs.OpenLines.{declared-read}
use Rattle.netlist_table.proofs.Soundness.{sound_none, sound-next}
use Rattle.netlist_table.proofs.Admission.{admitted-more, admitted-refused}

-- ---- lists of lines

pub apart-right : (xs ys : List ℕ) → Apart (xs ++ ys) → Apart ys
unfolding Apart
apart-right [] ys a = a
apart-right (x ∷ xs) ys a = apart-right xs ys a.1

-- No line stands in both.
pub apart-both : {A : Type 0} (l : ℕ) (xs ys : List ℕ) → Apart (xs ++ ys) → member l xs ≡ true → member l ys ≡ true → A
unfolding Apart member
apart-both l [] ys a p q = clash false p refl
apart-both l (x ∷ xs) ys a p q =
    by_test (eqb x l)
    (λ t. clash (member x (xs ++ ys)) (rw (eqb-true x l t) (member_right l xs ys q)) a.0)
    (λ t. apart-both l xs ys a.1 (rw t at p) q)

each_line : (P : ℕ → Type 0) (l : ℕ) (ls : List ℕ) → Each P ls → member l ls ≡ true → P l
unfolding Each member
each_line P l [] h e = clash false e refl
each_line P l (k ∷ ls) h e =
    by_test (eqb k l)
    (λ t. rw (← eqb-true k l t) h.0)
    (λ t. each_line P l ls h.1 (rw t at e))

pub member-listed : (l : ℕ) (ks : List ℕ) → List-as-Memᴰ l ks → member l ks ≡ true
unfolding member
member-listed l (k ∷ ks) (List-Memᴰ-head e) = rw (eq-eqb k l (sym e))
member-listed l (k ∷ ks) (List-Memᴰ-tail m) = rw (member-listed l ks m) (or-true (eqb k l))
member-listed l [] m = elim m [ ]

module _ (cells : List Cell) where
  -- So the statements of a list that is admitted to its end have them, of texts and of records alike.
  pub admitted-sound : (line : ℕ) (ss : List Statement) (ws : List (Option Statement)) (rs : List Statement) → Sound cells ss
      → admitted line cells ss ws ≡ read rs → Sound cells rs
  unfolding admitted
  admitted-sound line ss [] rs so e = let same : ss ≡ rs = cc in rw (← same) so
  admitted-sound line ss (w ∷ ws) rs so e =
      by_test (eqb (refusal_of cells ss w) 0)
      (λ t.
      let z = eqb-true (refusal_of cells ss w) 0 t in
      admitted-sound (suc line) (extended ss w) ws rs (sound-next cells ss w so z) (sym (admitted-more line cells ss w ws z) ∙ e))
      (λ t. refused-read (sym (admitted-refused line cells ss w ws (eqb-false (refusal_of cells ss w) 0 t)) ∙ e))

  pub text-sound : (rules : Rules) (text : List ℕ) (ss : List Statement) → text_statements rules cells text ≡ read ss → Sound cells ss
  unfolding text_statements
  text-sound rules text ss e = admitted-sound 1 [] (line_forms rules cells (lines text)) ss (sound_none cells) e

  -- The facts of every netlist text that is read.
  pub netlist-sound : (rules : Rules) (text : List ℕ) (ss : List Statement) → netlist rules cells text ≡ read ss → Sound cells ss
  unfolding netlist
  netlist-sound rules text ss e =
      bind_read (text_statements rules cells text) (declared rules) ss
      (λ rs read_all held. text-sound rules text ss (read_all ∙ ap read (declared-read rules rs ss held)))
      e

-- ---- the facts by membership

mark-mentions : (m : Mark) (l : ℕ) (s : Statement) → member l (lines_marked m s) ≡ true → member l (lines_of s) ≡ true
unfolding lines_marked lines_of pick member
mark-mentions m l (mark k j) t = by_test (eqb (kind_of m) (kind_of k)) (λ b. rw b at t) (λ b. clash false (rw b at t) refl)
mark-mentions m l (gate g) t = clash false t refl
mark-mentions m l (priced r) t = clash false t refl

-- A marked line, and each line of a gate, is mentioned.
pub marked-mentioned : (m : Mark) (l : ℕ) (ss : List Statement) → is_marked m l ss ≡ true → mentioned l ss ≡ true
unfolding is_marked marked_lines mentioned mentioned_lines
marked-mentioned m l ss e = member-among l (lines_marked m) lines_of (mark-mentions m l) ss e

module _ (g : Gate) where
  pub gate-mentioned : (l : ℕ) (ss : List Statement) → List-as-Memᴰ g (gates_of ss) → List-as-Memᴰ l (g.line ∷ g.pins)
      → mentioned l ss ≡ true
  unfolding gates_of gates_in mentioned mentioned_lines lines_of flat_map
  gate-mentioned l [] i j = absurd (List-Memᴰ-not-nil i)
  gate-mentioned l (mark m k ∷ ss) i j = member_right l (k ∷ []) (mentioned_lines ss) (gate-mentioned l ss i j)
  gate-mentioned l (priced r ∷ ss) i j = member_right l (r.line ∷ []) (mentioned_lines ss) (gate-mentioned l ss i j)
  gate-mentioned l (gate h ∷ ss) (List-Memᴰ-head e) j =
      member-left l (h.line ∷ h.pins) (mentioned_lines ss) (member-listed l (h.line ∷ h.pins) (rw e at j))
  gate-mentioned l (gate h ∷ ss) (List-Memᴰ-tail i) j =
      member_right l (h.line ∷ h.pins) (mentioned_lines ss) (gate-mentioned l ss i j)

  gate_claims : (ss : List Statement) → List-as-Memᴰ g (gates_of ss) → member g.line (claimed_lines ss) ≡ true
  unfolding gates_of gates_in claimed_lines lines_claimed member flat_map
  gate_claims [] i = absurd (List-Memᴰ-not-nil i)
  gate_claims (mark m k ∷ ss) i =
      member_right g.line (lines_claimed (mark m k)) (claimed_lines ss) (gate_claims ss i)
  gate_claims (priced r ∷ ss) i = gate_claims ss i
  gate_claims (gate h ∷ ss) (List-Memᴰ-head e) = rw (eq-eqb h.line g.line (ap (λ (x : Gate). x.line) (sym e)))
  gate_claims (gate h ∷ ss) (List-Memᴰ-tail i) = rw (gate_claims ss i) (or-true (eqb h.line g.line))

gates-once : (ss : List Statement) → Apart (claimed_lines ss) → DrivenOnce (gates_of ss)
unfolding gates_of gates_in claimed_lines flat_map
gates-once [] a = tt
gates-once (mark m l ∷ ss) a = gates-once ss (apart-right (lines_claimed (mark m l)) (claimed_lines ss) a)
gates-once (priced r ∷ ss) a = gates-once ss (apart-right (lines_claimed (priced r)) (claimed_lines ss) a)
gates-once (gate g ∷ ss) a =
    let alone : (member g.line (claimed_lines ss) ≡ false) × Apart (claimed_lines ss) = unfold lines_claimed Apart in a in
    ((λ h i e. clash (member h.line (claimed_lines ss)) (gate_claims h ss i) (rw e at alone.0)), gates-once ss alone.1)

input-once : (ss : List Statement) → Apart (claimed_lines ss) → (g : Gate) → List-as-Memᴰ g (gates_of ss)
    → is_input g.line ss ≡ true → ⊥
unfolding gates_of gates_in claimed_lines is_marked marked_lines flat_map
input-once [] a g i e = List-Memᴰ-not-nil i
input-once (mark m l ∷ ss) a g i e =
    ⊎_elim
    (λ t.
    apart-both g.line (lines_claimed (mark m l)) (claimed_lines ss) a (mark_claims input refl g.line (mark m l) t) (gate_claims g ss i))
    (λ t. input-once ss (apart-right (lines_claimed (mark m l)) (claimed_lines ss) a) g i t)
    (member_cases g.line (lines_marked input (mark m l)) (marked_lines input ss) e)
input-once (priced r ∷ ss) a g i e =
    input-once ss (apart-right (lines_claimed (priced r)) (claimed_lines ss) a) g i (unfold lines_marked in e)
input-once (gate h ∷ ss) a g (List-Memᴰ-head q) e =
    let alone : (member h.line (claimed_lines ss) ≡ false) × Apart (claimed_lines ss) = unfold lines_claimed Apart in a in
    let drives : member g.line (claimed_lines ss) ≡ true =
    member-among g.line (lines_marked input) lines_claimed (mark_claims input refl g.line) ss (unfold lines_marked in e)
    in
    clash (member h.line (claimed_lines ss)) (rw (ap (λ (x : Gate). x.line) q) at drives) alone.0
input-once (gate h ∷ ss) a g (List-Memᴰ-tail i) e =
    input-once ss (apart-right (lines_claimed (gate h)) (claimed_lines ss) a) g i (unfold lines_marked in e)

mention_good : (l : ℕ) (ss : List Statement) → Each LinesInRange ss → mentioned l ss ≡ true → InRange l
unfolding mentioned mentioned_lines flat_map Each LinesInRange
mention_good l [] h e = clash false (unfold member in e) refl
mention_good l (s ∷ ss) h e =
    ⊎_elim
    (λ t. each_line InRange l (lines_of s) h.0 t)
    (λ t. mention_good l ss h.1 t)
    (member_cases l (lines_of s) (mentioned_lines ss) e)

module _ (cells : List Cell) (ss : List Statement) (so : Sound cells ss) where
  -- Each gate: its cell is known, its lines are in range, it has as many pins as its cell.
  pub gate-sound : (g : Gate) → List-as-Memᴰ g (gates_of ss) → GateSound cells g
  gate-sound g i = each_member (GateSound cells) i so.gates

  pub gate-pins : (g : Gate) → List-as-Memᴰ g (gates_of ss) → (c : Cell) → length g.pins ≡ (get_or cells g.cell c).pins
  gate-pins g i c = let x = gate-sound g i in x.count ∙ pins_at-cell cells g.cell c x.known

  -- No two gates drive one line, and no gate an input.
  pub driven-once : DrivenOnce (gates_of ss)
  driven-once = gates-once ss so.claimed

  pub gate_no_input : (g : Gate) → List-as-Memᴰ g (gates_of ss) → is_input g.line ss ≡ false
  gate_no_input g i = by_test (is_input g.line ss) (λ t. absurd (input-once ss so.claimed g i t)) (λ t. t)

  -- Each line that is mentioned, and so each input and output, is in range.
  pub mentioned-in-range : (l : ℕ) → mentioned l ss ≡ true → InRange l
  mentioned-in-range l e = mention_good l ss so.lines e

  pub marked-in-range : (m : Mark) (l : ℕ) → is_marked m l ss ≡ true → InRange l
  marked-in-range m l e = mentioned-in-range l (marked-mentioned m l ss e)
