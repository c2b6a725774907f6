-- A plan's text read back is the plan's tree: its lines by their depths, then the tree of the depths.
use Rattle.common_laws.proofs.Base.{List, [], ◌∷◌, ◌++◌, map, append_assoc, append-nil, List-as-Memᴰ, List-Memᴰ-head, List-Memᴰ-tail}
use Rattle.common_laws.proofs.Base.{List-Memᴰ-append-cases, ⊎_elim, ◌≡◌, refl, sym, ap, ◌∙◌, ℕ, zero, suc, ◌+◌, ◌%◌, ◌/◌, ◌^◌, ◌≤◌, ◌<◌, arith, eq-eqb, ne_eqb}
use Rattle.common_laws.proofs.Base.{ltb, length, length-append}
use Rattle.reading.specs.Choice.{pick}
use Rattle.reading.specs.Each.{Each}
use Rattle.reading.proofs.Laws.{by_test, each_member}
use Rattle.text.specs.Bytes.{bytes}
use Rattle.text.specs.Lines.{fields, lines, lines_open}
use Rattle.text.proofs.Laws.{split_whole, fields_join, lines_join}
use Rattle.library_table.specs.Cells.{Row, Cell, row_value}
use Rattle.library_table.specs.Library.{Fields}
use Rattle.netlist_table.specs.Netlist.{Gate, Statement}
use Rattle.writer.specs.Digits.{digits}
use Rattle.writer.specs.Decimal.{decimal_bytes}
use Rattle.writer.specs.Octal.{octal_bytes}
use Rattle.writer.proofs.Decimal.{decimal-read}
use Rattle.calculation.specs.Nodes.{Kind, Purpose}
use Rattle.calculation.specs.Ways.{cell_of}
use Rattle.calculation.specs.LinePlans.{Plan, Plan.input, Plan.row, Plan.output, Plan.through, Plans, Plans.done, Plans.also}
use Rattle.plan_text.specs.PlanText.{node_line, see_line, pin_text, input_text, output_text, row_text, plan_text, plans_text}
use Rattle.paper_laws.specs.PlanRead.{Forest, Forest.bare, Forest.grown, tree_of, trees_of, DepthsWritten, AllWritten, at_depth, headed, grow, read_back, PlanReadBack}

abbrev Heads : Type 0
Heads = List (ℕ × Fields)

-- ---- the tree that depths tell

-- The nodes of a forest with their depths, parents before children.
unfoldable flat : ℕ → Forest → Heads
flat depth bare = []
flat depth (grown says below beside) = (depth, says) ∷ (flat (suc depth) below ++ flat depth beside)

-- What is left is no node of this depth, nor deeper.
abbrev Low : ℕ → Heads → Type 0
Low depth [] = Unit {0}
Low depth (x ∷ xs) = x.0 < depth

low-deeper : (depth : ℕ) (xs : Heads) → Low depth xs → Low (suc depth) xs
low-deeper depth [] h = tt
low-deeper depth (x ∷ xs) h = omega (arith, h)

low_beside : (depth : ℕ) (f : Forest) (rest : Heads) → Low depth rest → Low (suc depth) (flat depth f ++ rest)
unfolding flat
low_beside depth bare rest h = low-deeper depth rest h
low_beside depth (grown says below beside) rest h = omega arith

grows : (f : Forest) (more depth : ℕ) (rest : Heads) → Low depth rest → length (flat depth f ++ rest) ≤ more → grow more depth (flat depth f ++ rest) ≡ (f, rest)
unfolding flat grow pick
grows bare zero depth rest low h = refl
grows bare (suc more) depth [] low h = refl
grows bare (suc more) depth (x ∷ rest) low h = rw (ne_eqb x.0 depth (λ e. omega (arith, low, e)))
grows (grown says below beside) zero depth rest low h = absurd (omega (arith, h))
grows (grown says below beside) (suc more) depth rest low h =
    let deep : Heads = flat (suc depth) below in
    let next : Heads = flat depth beside in
    let assoc : (deep ++ next) ++ rest ≡ deep ++ (next ++ rest) = append_assoc deep next rest in
    let size : length ((deep ++ next) ++ rest) ≡ length deep + length (next ++ rest) = ap length assoc ∙ length-append deep (next ++ rest) in
    let first : grow more (suc depth) (deep ++ (next ++ rest)) ≡ (below, next ++ rest) =
    grows below more (suc depth) (next ++ rest) (low_beside depth beside rest low) (omega (arith, h, size, length-append deep (next ++ rest))) in
    let second : grow more depth (next ++ rest) ≡ (beside, rest) = grows beside more depth rest low (omega (arith, h, size)) in
    rw (assoc, eq-eqb depth depth refl, first, second)

-- ---- bytes that are no mark

absent : (mark : ℕ) (xs : List ℕ) → Each (λ (b : ℕ). b ≡ mark → ⊥) xs → List-as-Memᴰ mark xs → ⊥
absent mark xs e m = each_member (λ (b : ℕ). b ≡ mark → ⊥) m e refl

module _ (mark base : ℕ) (low : mark < 48) where
  digit-free : (n : ℕ) → List-as-Memᴰ mark ((48 + n % base) ∷ []) → ⊥
  digit-free n = absent mark ((48 + n % base) ∷ []) (unfold Each in (λ e. omega (arith, e), tt))

  digits-free : (more n : ℕ) → List-as-Memᴰ mark (digits base more n) → ⊥
  unfolding digits pick
  digits-free zero n m = digit-free n m
  digits-free (suc more) n m =
      by_test (ltb n base)
      (λ t. digit-free n (rw t at m))
      (λ t. ⊎_elim (digits-free more (n / base)) (digit-free n) (List-Memᴰ-append-cases (digits base more (n / base)) (rw t at m)))

module _ (mark : ℕ) (low : mark < 48) where
  decimal-free : (n : ℕ) → List-as-Memᴰ mark (decimal_bytes n) → ⊥
  unfolding decimal_bytes
  decimal-free n = digits-free mark 10 low 19 n

  row_free : (c : Cell) (r : Row) → List-as-Memᴰ mark (row_text c r) → ⊥
  unfolding row_text octal_bytes
  row_free c r = digits-free mark 8 low 21 (row_value c.heading r)

  input-free : List-as-Memᴰ mark input_text → ⊥
  unfolding input_text bytes
  input-free = absent mark input_text (unfold Each in (λ e. omega (arith, e), (λ e. omega (arith, e), (λ e. omega (arith, e), (λ e. omega (arith, e), (λ e. omega (arith, e), tt))))))

  output-free : List-as-Memᴰ mark output_text → ⊥
  unfolding output_text bytes
  output-free = absent mark output_text (unfold Each in (λ e. omega (arith, e), (λ e. omega (arith, e), (λ e. omega (arith, e), (λ e. omega (arith, e), (λ e. omega (arith, e), (λ e. omega (arith, e), tt)))))))

  see_free : List-as-Memᴰ mark (bytes "see") → ⊥
  unfolding bytes
  see_free = absent mark (bytes "see") (unfold Each in (λ e. omega (arith, e), (λ e. omega (arith, e), (λ e. omega (arith, e), tt))))

-- ---- a line by its fields

-- Fields with commas between them.
unfoldable joined : List ℕ → Fields → List ℕ
joined f [] = f
joined f (g ∷ gs) = f ++ (44 ∷ joined g gs)

-- No field has a comma or the end of a line in it.
abbrev Clean : List ℕ → Type 0
Clean f = (mark : ℕ) → mark < 48 → List-as-Memᴰ mark f → ⊥

fields_back : (f : List ℕ) (gs : Fields) → Clean f → Each Clean gs → fields (joined f gs) ≡ f ∷ gs
unfolding joined Each
fields_back f [] c e = unfold fields in split_whole 44 f (c 44 (omega arith))
fields_back f (g ∷ gs) c e = fields_join f (joined g gs) (c 44 (omega arith)) ∙ ap (λ (hs : Fields). f ∷ hs) (fields_back g gs e.0 e.1)

joined_free : (f : List ℕ) (gs : Fields) → Clean f → Each Clean gs → List-as-Memᴰ 10 (joined f gs) → ⊥
unfolding joined Each
joined_free f [] c e m = c 10 (omega arith) m
joined_free f (g ∷ gs) c e m =
    ⊎_elim (c 10 (omega arith)) (λ q. comma q (joined_free g gs e.0 e.1)) (List-Memᴰ-append-cases f m)
  where
    comma : List-as-Memᴰ 10 (44 ∷ joined g gs) → (List-as-Memᴰ 10 (joined g gs) → ⊥) → ⊥
    comma (List-Memᴰ-head q) rest = absurd (omega (arith, q))
    comma (List-Memᴰ-tail q) rest = rest q

-- A line in front of a text, by its depth.
line-back : (depth : ℕ) (gs : Fields) (rest : List ℕ) → depth < 10 ^ 20 → Each Clean gs
    → map headed (lines (joined (decimal_bytes depth) gs ++ (10 ∷ rest))) ≡ (depth, gs) ∷ map headed (lines rest)
unfolding headed at_depth
line-back depth gs rest h e =
    let c : Clean (decimal_bytes depth) = λ mark low. decimal-free mark low depth in
    ap (map headed) (lines_join (joined (decimal_bytes depth) gs) rest (joined_free (decimal_bytes depth) gs c e))
    ∙ rw (fields_back (decimal_bytes depth) gs c e, decimal-read depth h)

-- ---- the lines of a plan

module _ (l : ℕ) where
  clean-number : Clean (decimal_bytes l)
  clean-number = λ mark low. decimal-free mark low l

set_line : (depth l v : ℕ) (text rest : List ℕ) → node_line depth l v text ++ rest ≡ joined (decimal_bytes depth) (decimal_bytes l ∷ decimal_bytes v ∷ text ∷ []) ++ (10 ∷ rest)
unfolding node_line joined
set_line depth l v text rest =
    let d = decimal_bytes depth in
    let a = decimal_bytes l in
    let b = decimal_bytes v in
    append_assoc d (44 ∷ (a ++ (44 ∷ (b ++ (44 ∷ (text ++ (10 ∷ []))))))) rest
    ∙ ap (λ (z : List ℕ). d ++ (44 ∷ z))
    (append_assoc a (44 ∷ (b ++ (44 ∷ (text ++ (10 ∷ []))))) rest
    ∙ ap (λ (z : List ℕ). a ++ (44 ∷ z))
    (append_assoc b (44 ∷ (text ++ (10 ∷ []))) rest
    ∙ ap (λ (z : List ℕ). b ++ (44 ∷ z)) (append_assoc text (10 ∷ []) rest)
    ∙ sym (append_assoc b (44 ∷ text) (10 ∷ rest)))
    ∙ sym (append_assoc a (44 ∷ (b ++ (44 ∷ text))) (10 ∷ rest)))
    ∙ sym (append_assoc d (44 ∷ (a ++ (44 ∷ (b ++ (44 ∷ text))))) (10 ∷ rest))

see_line_lem : (depth l : ℕ) (text rest : List ℕ) → see_line depth l text ++ rest ≡ (decimal_bytes depth ++ (44 ∷ (decimal_bytes l ++ (44 ∷ (bytes "see" ++ (44 ∷ text)))))) ++ (10 ∷ rest)
unfolding see_line
see_line_lem depth l text rest =
    let d = decimal_bytes depth in
    let a = decimal_bytes l in
    let b = bytes "see" in
    append_assoc d (44 ∷ (a ++ (44 ∷ (b ++ (44 ∷ (text ++ (10 ∷ []))))))) rest
    ∙ ap (λ (z : List ℕ). d ++ (44 ∷ z))
    (append_assoc a (44 ∷ (b ++ (44 ∷ (text ++ (10 ∷ []))))) rest
    ∙ ap (λ (z : List ℕ). a ++ (44 ∷ z))
    (append_assoc b (44 ∷ (text ++ (10 ∷ []))) rest
    ∙ ap (λ (z : List ℕ). b ++ (44 ∷ z)) (append_assoc text (10 ∷ []) rest)
    ∙ sym (append_assoc b (44 ∷ text) (10 ∷ rest)))
    ∙ sym (append_assoc a (44 ∷ (b ++ (44 ∷ text))) (10 ∷ rest)))
    ∙ sym (append_assoc d (44 ∷ (a ++ (44 ∷ (b ++ (44 ∷ text))))) (10 ∷ rest))

-- One node in front of what stands below and beside it.
node-front : (depth : ℕ) (gs : Fields) (below beside : Forest) (text : List ℕ) (tail : Heads) → depth < 10 ^ 20 → Each Clean gs
    → map headed (lines text) ≡ flat (suc depth) below ++ (flat depth beside ++ tail)
    → map headed (lines (joined (decimal_bytes depth) gs ++ (10 ∷ text))) ≡ flat depth (grown gs below beside) ++ tail
unfolding flat
node-front depth gs below beside text tail h e r =
    line-back depth gs text h e
    ∙ ap (λ (z : Heads). (depth, gs) ∷ z) (r ∙ sym (append_assoc (flat (suc depth) below) (flat depth beside) tail))

module _ {cells : List Cell} {ss : List Statement} {k : Kind} where
  mutual
    unfolding plan_text plans_text tree_of trees_of DepthsWritten AllWritten Each pin_text joined flat

    text-back : {p : Purpose} (depth : ℕ) (q : Plan cells ss k p) → DepthsWritten depth q → (beside : Forest) (rest : List ℕ) (tail : Heads)
        → map headed (lines rest) ≡ flat depth beside ++ tail → map headed (lines (plan_text depth q ++ rest)) ≡ flat depth (tree_of q beside) ++ tail
    text-back depth (input {l = l} {v = v} h e) w beside rest tail r =
        ap (λ (t : List ℕ). map headed (lines t)) (set_line depth l v input_text rest)
        ∙ node-front depth (decimal_bytes l ∷ decimal_bytes v ∷ input_text ∷ []) bare beside rest tail w
        (clean-number l, (clean-number v, (λ mark low. input-free mark low, tt))) r
    text-back depth (row {l = l} {e = e} g m q y i u ps) w beside rest tail r =
        let c : Cell = cell_of cells g in
        ap (λ (t : List ℕ). map headed (lines t))
        (append_assoc (node_line depth l e (row_text c y)) (plans_text (suc depth) ps) rest
        ∙ set_line depth l e (row_text c y) (plans_text (suc depth) ps ++ rest))
        ∙ node-front depth (decimal_bytes l ∷ decimal_bytes e ∷ row_text c y ∷ []) (trees_of ps) beside (plans_text (suc depth) ps ++ rest) tail w.0
        (clean-number l, (clean-number e, (λ mark low. row_free mark low c y, tt))) (texts-back (suc depth) ps w.1 rest (flat depth beside ++ tail) r)
    text-back depth (output {l = l} e) w beside rest tail r =
        ap (λ (t : List ℕ). map headed (lines t)) (see_line_lem depth l output_text rest)
        ∙ node-front depth (decimal_bytes l ∷ bytes "see" ∷ output_text ∷ []) bare beside rest tail w
        (clean-number l, (λ mark low. see_free mark low, (λ mark low. output-free mark low, tt))) r
    text-back depth (through {l = l} g m i a b q y j ps) w beside rest tail r =
        let c : Cell = cell_of cells g in
        let says : List ℕ = decimal_bytes g.line ++ (44 ∷ (decimal_bytes i ++ (44 ∷ row_text c y))) in
        ap (λ (t : List ℕ). map headed (lines t))
        (append_assoc (see_line depth l says) (plans_text (suc depth) ps) rest
        ∙ see_line_lem depth l says (plans_text (suc depth) ps ++ rest))
        ∙ node-front depth (decimal_bytes l ∷ bytes "see" ∷ decimal_bytes g.line ∷ decimal_bytes i ∷ row_text c y ∷ []) (trees_of ps) beside (plans_text (suc depth) ps ++ rest) tail w.0
        (clean-number l, (λ mark low. see_free mark low, (clean-number g.line, (clean-number i, (λ mark low. row_free mark low c y, tt)))))
        (texts-back (suc depth) ps w.1 rest (flat depth beside ++ tail) r)

    texts-back : {g : Gate} {cs : List _} (depth : ℕ) (qs : Plans cells ss k g cs) → AllWritten depth qs → (rest : List ℕ) (tail : Heads)
        → map headed (lines rest) ≡ tail → map headed (lines (plans_text depth qs ++ rest)) ≡ flat depth (trees_of qs) ++ tail
    texts-back depth done w rest tail r = r
    texts-back depth (also p ps) w rest tail r =
        ap (λ (t : List ℕ). map headed (lines t)) (append_assoc (plan_text depth p) (plans_text depth ps) rest)
        ∙ text-back depth p w.0 (trees_of ps) (plans_text depth ps ++ rest) tail (texts-back depth ps w.1 rest tail r)

no_lines : map headed (lines []) ≡ []
unfolding lines_open
no_lines = refl

pub plan-read : PlanReadBack
unfolding read_back
plan-read cells ss k p plan w =
    let all : map headed (lines (plan_text 0 plan)) ≡ flat 0 (tree_of plan bare) ++ [] =
    ap (λ (t : List ℕ). map headed (lines t)) (sym (append-nil (plan_text 0 plan)))
    ∙ text-back 0 plan w bare [] [] (unfold flat in no_lines) in
    ap (λ (z : Heads). (grow (length z) 0 z).0) all
    ∙ ap (λ (z : Forest × Heads). z.0) (grows (tree_of plan bare) (length (flat 0 (tree_of plan bare) ++ [])) 0 [] tt (omega arith))
