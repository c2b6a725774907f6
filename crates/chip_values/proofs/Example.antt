-- A figure is no promise that a setting exists once a line is read twice: the second theorem does not hold without its
-- condition.
use Rattle.common_laws.proofs.Base.{Bool, true, false, ◌||◌, List, [], ◌∷◌, map, List-as-Memᴰ, List-Memᴰ-head, List-Memᴰ-tail, List-Memᴰ-not-nil, flat_map, ◌↔◌, ◌≡◌, refl, sym, subst}
use Rattle.common_laws.proofs.Base.{ap, ◌∙◌, ℕ, ◌<◌, arith, eqb, eqb-true}
use Rattle.reading.specs.Each.{Each}
use Rattle.reading.proofs.Laws.{by_test, clash, each_member}
use Rattle.cost.specs.Cost.{never}
use Rattle.netlist_table.specs.Netlist.{Gate, Statement, gates_in, gates_of, lines_of, mentioned, mentioned_lines, member, netlist_open}
use Rattle.calculation.specs.Calculation.{analysed, calculation_open}
use Rattle.calculation.specs.Ways as Ways
use Rattle.plans.specs.Sweep.{sweep_open}
use Rattle.truth_tables.specs.Tables.{output, tables_open}
use Rattle.truth_tables.specs.Entries.{cell_of, entries_open}
use Rattle.chip_values.specs.Loops.{Feeds, Leads, Leads.last, Leads.next, Loopless, Driver, Driver.input, Driver.gate, NoneOpen, ReadOnce, lines_read}
use Rattle.chip_values.specs.Values.{Setting, Values, Does}
use Rattle.truth_tables.specs.Generated.{Generated}
use Rattle.chip_values.specs.Built.{Built, Qualifies, tables_of}
use Rattle.chip_values.specs.Never.{cc_number}
use Rattle.chip_values.specs.Example.{not_bits, and_bits, cells, bits_at, statements}

abbrev inverter : Gate
inverter = record { cell = 0; line = 2; pins = 1 ∷ [] }

abbrev both : Gate
both = record { cell = 1; line = 3; pins = 1 ∷ 2 ∷ [] }

gates-are : gates_of statements ≡ inverter ∷ both ∷ []
unfolding statements gates_of flat_map gates_in
gates-are = refl

-- ---- the numbers say 4

pub figure : cc_number (analysed cells statements).numbers 3 true ≡ 4
unfolding cc_number calculation_open sweep_open entries_open not_bits and_bits cells statements
figure = refl

-- ---- and no setting gives line 3 the value 1

module _ (s : Setting) (v : Values) (d : Does statements (tables_of bits_at) s v) where
  at-not : v 2 ≡ output not_bits (v 1 ∷ [])
  unfolding tables_of bits_at
  at-not = d.gates inverter (rw gates-are (List-Memᴰ-head refl))

  at-and : v 3 ≡ output and_bits (v 1 ∷ v 2 ∷ [])
  unfolding tables_of bits_at
  at-and = d.gates both (rw gates-are (List-Memᴰ-tail (List-Memᴰ-head refl)))

  pub unset : v 3 ≡ true → ⊥
  unset e = by_value (v 1) (sym e ∙ at-and ∙ ap (λ (x : Bool). output and_bits (v 1 ∷ x ∷ [])) at-not)
    where
      by_value : (x : Bool) → true ≡ output and_bits (x ∷ output not_bits (x ∷ []) ∷ []) → ⊥
      by_value true h = unfold tables_open not_bits and_bits in clash false (sym h) refl
      by_value false h = unfold tables_open not_bits and_bits in clash false (sym h) refl

-- ---- so that the second theorem does not hold without its condition

pub condition_needed : ((l : ℕ) → mentioned l statements ≡ true → (x : Bool)
    → (cc_number (analysed cells statements).numbers l x ≡ never) ↔ ((s : Setting) (v : Values) → Does statements (tables_of bits_at) s v → v l ≡ x → ⊥)) → ⊥
condition_needed h = omega (arith, sym figure ∙ (h 3 (unfold netlist_open statements in refl) true).1 unset)

-- ---- though the first one speaks of this netlist

feeds_up : (k l : ℕ) → Feeds statements k l → k < l
feeds_up k l f = go f.gate (subst (λ (gs : List Gate). List-as-Memᴰ f.gate gs) gates-are f.listed) f.drives f.reads
  where
    below : (n : ℕ) (ks : List ℕ) → Each (λ (x : ℕ). x < n) ks → n ≡ l → List-as-Memᴰ k ks → k < l
    below n ks h e i = subst (λ (x : ℕ). k < x) e (each_member (λ (x : ℕ). x < n) i h)

    go : (g : Gate) → List-as-Memᴰ g (inverter ∷ both ∷ []) → g.line ≡ l → List-as-Memᴰ k g.pins → k < l
    go g (List-Memᴰ-head q) e i = below 2 (1 ∷ []) (unfold Each in (omega arith, tt)) (rw q at e) (rw q at i)
    go g (List-Memᴰ-tail (List-Memᴰ-head q)) e i = below 3 (1 ∷ 2 ∷ []) (unfold Each in (omega arith, (omega arith, tt))) (rw q at e) (rw q at i)
    go g (List-Memᴰ-tail (List-Memᴰ-tail m)) e i = elim m [ ]

leads-up : {k l : ℕ} → Leads statements k l → k < l
leads-up {k} {l} (last f) = feeds_up k l f
leads-up {k} {l} (next {m = m} f p) = omega (arith, feeds_up k m f, leads-up p)

loopless : Loopless statements
unfolding Loopless
loopless l p = omega (arith, leads-up p)

none_open_lem : NoneOpen statements
unfolding NoneOpen
none_open_lem l m =
    by_test (eqb 1 l)
    (λ t. input (unfold netlist_open statements in rw t refl))
    (λ a. by_test (eqb 2 l)
    (λ t. gate inverter (rw gates-are (List-Memᴰ-head refl)) (eqb-true 2 l t))
    (λ b. by_test (eqb 3 l)
    (λ t. gate both (rw gates-are (List-Memᴰ-tail (List-Memᴰ-head refl))) (eqb-true 3 l t))
    (λ c. clash (mentioned l statements) m (unfold netlist_open statements in rw (a, b, c) refl))))

made : (g : Gate) → List-as-Memᴰ g (inverter ∷ both ∷ []) → Generated (Ways.cell_of cells g) (bits_at g.cell)
unfolding Ways.cell_of cells bits_at not_bits and_bits cell_of
made g (List-Memᴰ-head q) = rw q (record { few = omega arith; size = refl; cc = refl; co = refl; sc = refl; so = refl })
made g (List-Memᴰ-tail (List-Memᴰ-head q)) = rw q (record { few = omega arith; size = refl; cc = refl; co = refl; sc = refl; so = refl })
made g (List-Memᴰ-tail (List-Memᴰ-tail m)) = elim m [ ]

pub qualifies : Qualifies cells statements
qualifies =
    record {
      loopless = loopless;
      none_open = none_open_lem;
      built =
          record {
            bits = bits_at;
            generated = λ g m. made g (subst (λ (gs : List Gate). List-as-Memᴰ g gs) gates-are m);
          };
    }
