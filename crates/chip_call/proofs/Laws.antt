-- What the answer says of the cells and statements that were read, and of every accepted analysis.
use Rattle.common_laws.proofs.Base.{Bool, true, false, ◌&&◌, List, [], ◌∷◌, ◌++◌, List-as-Memᴰ, List-Memᴰ-head, List-Memᴰ-tail, append-nil, ◌↔◌, ◌≡◌, refl, sym, ap, subst, ◌∙◌, ℕ}
use Rattle.common_laws.proofs.Base.{◌≤◌, arith}
use Rattle.reading.specs.Choice.{pick}
use Rattle.reading.specs.Each.{Each}
use Rattle.reading.specs.Refusal.{Read, read}
use Rattle.reading.proofs.Laws.{clash, and_left, and_right, each_member}
use Rattle.library_table.specs.Cells.{Cell}
use Rattle.library_table.specs.Layout.{library_words}
use Rattle.netlist_table.specs.Netlist.{Gate, Statement, gates_of}
use Rattle.netlist_table.specs.Sound.{GateSound}
use Rattle.netlist_table.specs.Layout.{NetlistHolds}
use Rattle.netlist_table.specs.Gates.{gates_held}
use Rattle.netlist_table.proofs.HeldGates.{gates-held}
use Rattle.calculation.specs.Acceptance.{BothSound}
use Rattle.calculation.specs.Ways.{no_cell, cell_of}
use Rattle.calculation.specs.Nodes.{combinational, set}
use Rattle.calculation.specs.Prices.{prices_of}
use Rattle.calculation.specs.Calculation.{analysed}
use Rattle.truth_tables.specs.Tables.{digit}
use Rattle.truth_tables.specs.Generated.{Generated}
use Rattle.chip_values.specs.Loops.{Loopless, NoneOpen, ReadOnce}
use Rattle.chip_values.specs.Built.{Built, Qualifies, tables_of}
use Rattle.chip_values.specs.Never.{cc_number, NeverMeans}
use Rattle.chip_values.proofs.Laws.{never-stands}
use Rattle.truth_cells.specs.Words.{generated_at, table_at}
use Rattle.truth_cells.proofs.Laws.{generated-told, generated-tells}
use Rattle.chip_loops.specs.Marks.{without_loops, read_once}
use Rattle.chip_loops.proofs.Laws.{without_loops_lem, read-once}
use Rattle.calculation.specs.Stored.{Holds}
use Rattle.demands.specs.declared.Summary.{Summary}
use Rattle.demands.specs.Outcome.{Given, Lent, given_texts}
use Rattle.demands.specs.Demands.{PairRead, NumbersStand, Promised}
use Rattle.demands.proofs.Given.{Checked, texts-checked}
use Rattle.demands.proofs.Held.{accepted-held}
use Rattle.demands.proofs.Numbers.{numbers-stand}
use Rattle.chip_call.specs.Qualified.{all_generated, qualifying, Says, Qualified}

-- ---- the three answers together

module _ (cells : List Cell) (ss : List Statement) (sound : BothSound cells ss) where
  numbers : NumbersStand cells ss (analysed cells ss).numbers
  numbers = numbers-stand sound (analysed cells ss).numbers [] (sym (append-nil (analysed cells ss).numbers))

  -- K8's theorems, whichever truth tables its cells are generated from.
  means : Qualifies cells ss → (b : Built cells ss) → NeverMeans ss (tables_of b.bits) (analysed cells ss).numbers
  unfolding cc_number
  means q b =
      never-stands cells ss sound (record { loopless = q.loopless; none_open = q.none_open; built = b }) (prices_of ss) (analysed cells ss).numbers
      (λ l x h. numbers.exact combinational (set l (digit x)) h)

  of-answer : (n : ℕ) → n ≤ 2 → (1 ≤ n) ↔ Qualifies cells ss → (n ≡ 2) ↔ (Qualifies cells ss × ReadOnce ss) → Says cells ss n
  of-answer n few first both =
      record {
        most = few;
        first = first;
        both = both;
        never = λ h. means (first.0 h);
        exactly = λ h b. (means (both.0 h).0 b).exactly (both.0 h).1;
        stands = numbers;
      }

  says : (w a r : Bool) → (w ≡ true) ↔ (Loopless ss × NoneOpen ss) → (a ≡ true) ↔ Built cells ss → (r ≡ true) ↔ ReadOnce ss
      → Says cells ss (pick (w && a) (pick r 2 1) 0)
  unfolding pick
  says true true true l b o =
      let q : Qualifies cells ss = record { loopless = (l.0 refl).0; none_open = (l.0 refl).1; built = b.0 refl } in
      of-answer 2 (omega arith) (λ h. q, λ h. omega arith) (λ h. (q, o.0 refl), λ h. refl)
  says true true false l b o =
      let q : Qualifies cells ss = record { loopless = (l.0 refl).0; none_open = (l.0 refl).1; built = b.0 refl } in
      of-answer 1 (omega arith) (λ h. q, λ h. omega arith) (λ h. absurd (omega (arith, h)), λ h. clash false (o.1 h.1) refl)
  says true false r l b o =
      of-answer 0 (omega arith) (λ h. absurd (omega (arith, h)), λ q. clash false (b.1 q.built) refl)
      (λ h. absurd (omega (arith, h)), λ h. clash false (b.1 h.0.built) refl)
  says false a r l b o =
      of-answer 0 (omega arith) (λ h. absurd (omega (arith, h)), λ q. clash false (l.1 (q.loopless, q.none_open)) refl)
      (λ h. absurd (omega (arith, h)), λ h. clash false (l.1 (h.0.loopless, h.0.none_open)) refl)

module _ (cells : List Cell) (ss : List Statement) (sound : BothSound cells ss) (rest : List ℕ) where
  abbrev library : List ℕ
  library = library_words cells ++ rest

  all_told : (gs : List Gate) → Each (GateSound cells) gs → all_generated library gs ≡ true → (g : Gate) → List-as-Memᴰ g gs
      → Generated (cell_of cells g) (table_at library g.cell)
  unfolding all_generated Each cell_of
  all_told (x ∷ gs) h e g (List-Memᴰ-head q) =
      rw q (generated-told no_cell cells rest sound.library x.cell h.0.known (and_left _ (all_generated library gs) e))
  all_told (x ∷ gs) h e g (List-Memᴰ-tail m) = all_told gs h.1 (and_right (generated_at library x.cell) _ e) g m
  all_told [] h e g m = elim m [ ]

  all-tells : (bits : ℕ → List Bool) (gs : List Gate) → Each (GateSound cells) gs
      → ((g : Gate) → List-as-Memᴰ g gs → Generated (cell_of cells g) (bits g.cell)) → all_generated library gs ≡ true
  unfolding all_generated Each cell_of
  all-tells bits [] h f = refl
  all-tells bits (x ∷ gs) h f =
      rw (
        (generated-tells no_cell cells rest sound.library x.cell h.0.known (bits x.cell) (f x (List-Memᴰ-head refl))).1,
        all-tells bits gs h.1 (λ g m. f g (List-Memᴰ-tail m)),
      )
      refl

  built : (all_generated library (gates_of ss) ≡ true) ↔ Built cells ss
  built = (
    λ e. record { bits = table_at library; generated = all_told (gates_of ss) sound.netlist.gates e },
    λ b. all-tells b.bits (gates_of ss) sound.netlist.gates b.generated,
  )

-- Where the tables hold cells and statements that were read.
pub qualifying_says : {library netlist : List ℕ} {cells : List Cell} {ss : List Statement} → Holds library netlist cells ss
    → Says cells ss (qualifying library netlist)
unfolding qualifying
qualifying_says {library} {netlist} {cells} {ss} h =
    let held : NetlistHolds netlist ss = record { past = h.past; words = h.statements_stand } in
    let gates : gates_held netlist ≡ gates_of ss = ap gates_held h.statements_stand ∙ gates-held h.sound.netlist h.past h.sound.library in
    rw (gates, h.cells_stand)
    (says cells ss h.sound (without_loops netlist) (all_generated (library_words cells ++ h.behind) (gates_of ss)) (read_once netlist)
    (without_loops_lem h.sound held) (built cells ss h.sound h.behind) (read-once h.sound held))

-- What the call promises follows from its answer.
pub qualified : (library netlist : List ℕ) (n : ℕ) → n ≡ qualifying library netlist → Qualified library netlist n
qualified library netlist n e = record { answers = e; says = λ cells ss h. rw e (qualifying_says h) }

-- ---- for the reader: what stands behind the promise of every call that analyses

-- Of the tables that it leaves, the answer tells of which theorems of K8 it is.
qualifies-means-of : (g : Given) → Checked g → (before after : Lent) (said : Read Summary) → Promised g before after said
    → (pair : PairRead g) (s : Summary) → said ≡ read s
    → Says pair.cells pair.statements (qualifying after.library after.netlist)
qualifies-means-of g checked before after said p pair s e = qualifying_says (accepted-held g checked before after said p pair s e).holds

-- Of two texts: behind the promise of `analyse`.
pub qualifies-means : (lib net : List ℕ) (before after : Lent) (said : Read Summary) → Promised (given_texts lib net) before after said
    → (pair : PairRead (given_texts lib net)) (s : Summary) → said ≡ read s
    → Says pair.cells pair.statements (qualifying after.library after.netlist)
qualifies-means lib net = qualifies-means-of (given_texts lib net) (texts-checked lib net)
