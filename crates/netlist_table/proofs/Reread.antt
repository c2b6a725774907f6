-- A netlist read again under another library.
use Rattle.common_laws.proofs.Base.{◌&&◌, List, [], ◌∷◌, ◌++◌, Option, none, some, ◌≡◌, refl, sym, ◌∙◌, ap, ap₂, ℕ, suc, arith}
use Rattle.text.specs.Bytes.{bytes}
use Rattle.text.specs.Lines.{lines, same_bytes}
use Rattle.text.specs.Numeral.{name_form}
use Rattle.reading.specs.Choice.{pick}
use Rattle.reading.specs.Refusal.{read, ◌>>=◌, ◌>>◌, form}
use Rattle.reading.specs.Numbers as No
use Rattle.reading.proofs.Laws.{by_test, bind_read, then-read, form-read}
use Rattle.library_table.specs.Cells.{Cell}
use Rattle.library_table.specs.Library.{Fields, cell_named}
use Rattle.netlist_table.specs.declared.Rules.{Rules}
use Rattle.netlist_table.specs.Netlist.{Statement, mark, gate, priced, input, output, opened, declaring, decimals, lone, mark_of, driven_by, gate_of, range_of, statement_of, lines_of, lines_marked, mentioned_lines, marked_lines, unknown_cell, count_differs, causes, admit, admitted, line_form, line_forms, text_statements, declared, netlist}
use Rattle.netlist_table.specs.Reread.{SameEntries, SameLines, Rereadable}
use Rattle.netlist_table.proofs.OpenLines.{declared-read}
use Rattle.netlist_table.proofs.Laws.{netlist-sound}
use Rattle.netlist_table.proofs.Causes.{one_more_lem}
use Rattle.netlist_table.proofs.OtherCells.{netlist-refuses}

-- ---- the same entries

module _ (cells more : List Cell) (e : SameEntries cells more) where
  causes-same : (ss : List Statement) (s : Statement) → causes more ss s ≡ causes cells ss s
  unfolding causes unknown_cell count_differs
  causes-same ss (mark m l) = refl
  causes-same ss (priced r) = refl
  causes-same ss (gate g) = rw (e.count, e.pins g.cell)

  pub admitted-same : (line : ℕ) (ss : List Statement) (ws : List (Option Statement)) → admitted line more ss ws ≡ admitted line cells ss ws
  unfolding admitted form admit ◌>>=◌ ◌>>◌
  admitted-same line ss [] = refl
  admitted-same line ss (none ∷ ws) = refl
  admitted-same line ss (some s ∷ ws) = rw (causes-same ss s, admitted-same (suc line) (ss ++ (s ∷ [])) ws)

  statement_same : (rules : Rules) (fs : Fields) → statement_of rules more fs ≡ statement_of rules cells fs
  unfolding statement_of gate_of
  statement_same rules [] = refl
  statement_same rules (f ∷ []) = refl
  statement_same rules (f ∷ (name ∷ fs)) = rw (e.names name)

  forms_same : (rules : Rules) (ls : List (Option Fields)) → line_forms rules more ls ≡ line_forms rules cells ls
  unfolding line_forms line_form
  forms_same rules [] = refl
  forms_same rules (none ∷ ls) = rw (forms_same rules ls)
  forms_same rules (some fs ∷ ls) = rw (statement_same rules fs, forms_same rules ls)

  pub netlist-same : (rules : Rules) (text : List ℕ) → netlist rules more text ≡ netlist rules cells text
  unfolding netlist text_statements
  netlist-same rules text = rw (forms_same rules (lines text), admitted-same 1 [] (line_forms rules cells (lines text)))

-- ---- the same lines

-- Statements that stand for one line of a netlist: they say the same of lines.
pub record Alike (s t : Statement) : Type 0 where
  pub mentions : lines_of t ≡ lines_of s
  pub marks : lines_marked output t ≡ lines_marked output s

pub data FormsAlike : List (Option Statement) → List (Option Statement) → Type 0 where
  end : FormsAlike [] []
  more : {v w : Option Statement} {vs ws : List (Option Statement)} → ((s t : Statement) → v ≡ some s → w ≡ some t → Alike s t) → FormsAlike vs ws → FormsAlike (v ∷ vs) (w ∷ ws)

same_more : {ss ts : List Statement} (s t : Statement) → SameLines ss ts → Alike s t → SameLines (ss ++ (s ∷ [])) (ts ++ (t ∷ []))
same_more {ss} {ts} s t h a =
    record {
      mentioned = unfold mentioned_lines in one_more_lem lines_of ts t ∙ ap₂ (λ (x y : List ℕ). x ++ y) (unfold mentioned_lines in h.mentioned) a.mentions ∙ sym (one_more_lem lines_of ss s);
      outputs = unfold marked_lines in one_more_lem (lines_marked output) ts t ∙ ap₂ (λ (x y : List ℕ). x ++ y) (unfold marked_lines in h.outputs) a.marks ∙ sym (one_more_lem (lines_marked output) ss s);
    }

-- Two readings that come to their ends.
pub admitted-lines : (cells more : List Cell) (line : ℕ) (ss ts us vs : List Statement) (xs ys : List (Option Statement)) → FormsAlike xs ys → SameLines ss ts
    → admitted line cells ss xs ≡ read us → admitted line more ts ys ≡ read vs → SameLines us vs
unfolding admitted
admitted-lines cells others line ss ts us vs [] [] end h p q =
    let a : ss ≡ us = cc in
    let b : ts ≡ vs = cc in
    rw (← a, ← b) h
admitted-lines cells others line ss ts us vs (v ∷ xs) (w ∷ ys) (more f r) h p q =
    bind_read (form No.netlist_form line v) _ us
    (λ s es ps.
    then-read (admit line cells ss s) _ us
    (λ x ex px.
    bind_read (form No.netlist_form line w) _ vs
    (λ t et pt.
    then-read (admit line others ts t) _ vs
    (λ y ey py.
    admitted-lines cells others (suc line) (ss ++ (s ∷ [])) (ts ++ (t ∷ [])) us vs xs ys r
    (same_more s t h (f s t (form-read No.netlist_form line v s es) (form-read No.netlist_form line w t et))) px py)
    pt)
    q)
    ps)
    p
admitted-lines cells others line ss ts us vs [] (w ∷ ys) e h p q = elim e [ ]
admitted-lines cells others line ss ts us vs (v ∷ xs) [] e h p q = elim e [ ]

alike-here : (s t : Statement) → s ≡ t → Alike s t
alike-here s t e = record { mentions = ap lines_of (sym e); marks = ap (lines_marked output) (sym e) }

no_form : {A : Type 0} {s : Statement} → ◌≡◌ {A = Option Statement} none (some s) → A
no_form e = let z : ◌≡◌ {A = ℕ} 0 1 = cc in absurd (omega arith)

-- A gate's cell is all that hangs on the library.
gates-alike : (b c : ℕ) (ns : Option (List ℕ)) (s t : Statement) → driven_by b ns ≡ some s → driven_by c ns ≡ some t → Alike s t
unfolding driven_by
gates-alike b c none s t p q = no_form p
gates-alike b c (some []) s t p q = no_form p
gates-alike b c (some (l ∷ ps)) s t p q =
    let x : gate (record { cell = b; line = l; pins = ps }) ≡ s = cc in
    let y : gate (record { cell = c; line = l; pins = ps }) ≡ t = cc in
    rw (← x, ← y) (record { mentions = unfold lines_of in refl; marks = unfold lines_marked in refl })

module _ (cells others : List Cell) where
  statements-alike : (rules : Rules) (fs : Fields) (s t : Statement) → statement_of rules cells fs ≡ some s → statement_of rules others fs ≡ some t → Alike s t
  unfolding statement_of gate_of pick
  statements-alike rules [] s t p q = no_form p
  statements-alike rules (f ∷ fs) s t p q =
      by_test (same_bytes f (bytes "input"))
      (λ a. both (mark_of input (lone fs)) (rw a at p) (rw a at q))
      (λ a. by_test (same_bytes f (bytes "output"))
      (λ b. both (mark_of output (lone fs)) (rw (a, b) at p) (rw (a, b) at q))
      (λ b. by_test (same_bytes f (bytes "gate"))
      (λ c. gates fs (rw (a, b, c) at p) (rw (a, b, c) at q))
      (λ c. both (pick (declaring rules && same_bytes f (bytes "open")) (mark_of opened (lone fs)) (pick (declaring rules && same_bytes f (bytes "range")) (range_of (decimals fs)) none)) (rw (a, b, c) at p) (rw (a, b, c) at q))))
    where
      both : (o : Option Statement) → o ≡ some s → o ≡ some t → Alike s t
      both o x y = let z : s ≡ t = cc in alike-here s t z

      gates : (gs : Fields) → gate_of cells gs ≡ some s → gate_of others gs ≡ some t → Alike s t
      gates [] x y = no_form x
      gates (name ∷ gs) x y =
          by_test (name_form name)
          (λ a. gates-alike (cell_named name cells) (cell_named name others) (decimals gs) s t (rw a at x) (rw a at y))
          (λ a. both none (rw a at x) (rw a at y))

  forms_alike : (rules : Rules) (ls : List (Option Fields)) → FormsAlike (line_forms rules cells ls) (line_forms rules others ls)
  unfolding line_forms line_form
  forms_alike rules [] = end
  forms_alike rules (none ∷ ls) = more (λ s t p q. no_form p) (forms_alike rules ls)
  forms_alike rules (some fs ∷ ls) = more (statements-alike rules fs) (forms_alike rules ls)

  none_said : SameLines [] []
  none_said = record { mentioned = refl; outputs = refl }

  netlist-lines : (rules : Rules) (text : List ℕ) (ss ts : List Statement) → netlist rules cells text ≡ read ss → netlist rules others text ≡ read ts → SameLines ss ts
  unfolding netlist text_statements
  netlist-lines rules text ss ts p q =
      bind_read (text_statements rules cells text) (declared rules) ss
      (λ us eu du.
      bind_read (text_statements rules others text) (declared rules) ts
      (λ vs ev dv.
      rw (← declared-read rules us ss du, ← declared-read rules vs ts dv)
      (admitted-lines cells others 1 [] [] us vs (line_forms rules cells (lines text)) (line_forms rules others (lines text)) (forms_alike rules (lines text)) none_said eu ev))
      q)
      p

-- A netlist text is read again by the names of its cells.
pub text_rereadable : (rules : Rules) (text : List ℕ) → Rereadable (λ cells. netlist rules cells text)
text_rereadable rules text =
    record {
      sound = λ cells ss e. netlist-sound cells rules text ss e;
      same = λ cells others e. netlist-same cells others e rules text;
      lines = λ cells others ss ts p q. netlist-lines cells others rules text ss ts p q;
      refuses = λ cells others ss p. netlist-refuses cells others rules text ss p;
    }
