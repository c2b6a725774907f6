-- The statement of a line of text, field by field.
use Rattle.std.specs.Prelude as Code
use Rattle.common_laws.proofs.Base.{true, false, ◌&&◌, ◌||◌, or-false, or_assoc, List, [], ◌∷◌, ◌++◌, append-nil, append_assoc, Option, none, some, ◌≡◌, refl, sym, ap}
use Rattle.common_laws.proofs.Base.{◌∙◌, ℕ, ◌+◌, ◌≤◌, ◌<◌, arith, length, get_or, set, length-append}
use Rattle.sizes.specs.Sizes as Size
use Rattle.table.specs.Blocks.{fitted}
use Rattle.reading.specs.Choice.{pick}
use Rattle.text.specs.Bytes.{bytes}
use Rattle.text.specs.Lines.{part, fields, fields_from, next_after, same_bytes}
use Rattle.text.specs.Numeral.{decimal, name_form, numeral_read}
use Rattle.text.proofs.Laws.{fields_from-start, fields_from-step, fields_from-end}
use Rattle.library_table.specs.Cells.{Cell}
use Rattle.library_table.specs.Library.{cell_named}
use Rattle.netlist_text.specs.declared.statements.Pins.{Pins}
use Rattle.netlist_table.specs.declared.RawStatement.{RawStatement}
use Rattle.netlist_table.specs.declared.Rules.{Rules}
use Rattle.netlist_table.specs.Netlist.{Statement, input, output, opened, gate_kind, range_kind, declaring, mark_of, range_of, with, decimals, lone, driven_by, gate_of, statement_of, line_bad, any_line_bad}
use Rattle.netlist_table.specs.Admission.{StandsFor}
use Rattle.netlist_text.specs.Gathered.{PinsAre, PinsRead}
use Rattle.netlist_table.proofs.Stores.{set-fitted}

-- What has bad form stands for no statement.
pub stands-none : (w : Option Statement) → w ≡ none → StandsFor Code.None w
unfolding StandsFor
stands-none w e = rw e tt

-- ---- numbers

-- What `decimal` answered of a part of the line.
module _ {n : Code.Option ℕ} {f g : List ℕ} (said : numeral_read n ≡ decimal f) (is : f ≡ g) where
  pub number-good : {l : ℕ} → n ≡ Code.Some l → decimal g ≡ some l
  unfolding numeral_read
  number-good e = rw (← is) (sym said ∙ ap numeral_read e)

  pub number-bad : n ≡ Code.None → decimal g ≡ none
  unfolding numeral_read
  number-bad e = rw (← is) (sym said ∙ ap numeral_read e)

-- The cursor behind a part of a text, as the code tells the part.
pub cursor-behind : (text : List ℕ) (at : ℕ) {n : ℕ} {f g : List ℕ} → n ≡ next_after text at f → f ≡ g → n ≡ next_after text at g
cursor-behind text at said is = said ∙ ap (next_after text at) is

-- ---- pins gathered

any_line_bad-more : (ls : List ℕ) (l : ℕ) → any_line_bad (ls ++ (l ∷ [])) ≡ (any_line_bad ls || line_bad l)
unfolding any_line_bad
any_line_bad-more [] l = or-false (line_bad l)
any_line_bad-more (k ∷ ls) l = rw (any_line_bad-more ls l) (sym (or_assoc (line_bad k) (any_line_bad ls) (line_bad l)))

-- One pin more.
pub pins-more : (ls : List ℕ) (l : ℕ) (p r : Pins) → PinsAre ls p → r.pins ≡ set p.pins p.count l
    → r.count ≡ p.count + 1 → r.bad ≡ (p.bad || line_bad l)
    → PinsAre (ls ++ (l ∷ [])) r
pins-more ls l p r h pins count bad =
    record {
      pins = pins ∙ rw (h.pins, h.count) (set-fitted 0 Size.pins ls l);
      count = count ∙ rw h.count (sym (length-append ls (l ∷ [])));
      bad = bad ∙ rw h.bad (sym (any_line_bad-more ls l));
    }

-- Lines in front of those that are still to be read.
unfoldable pub onto : List ℕ → Option (List ℕ) → Option (List ℕ)
onto ls none = none
onto ls (some ms) = some (ls ++ ms)

onto-none : (o : Option (List ℕ)) → o ≡ onto [] o
unfolding onto
onto-none none = refl
onto-none (some ms) = refl

onto-one : (ls : List ℕ) (l : ℕ) (o : Option (List ℕ)) → onto ls (with (some l) o) ≡ onto (ls ++ (l ∷ [])) o
unfolding onto with
onto-one ls l none = refl
onto-one ls l (some ms) = ap some (sym (append_assoc ls (l ∷ []) ms))

-- The pins of the fields from one cursor on, gathered up to another.
pub record Passed (line : List ℕ) (from at : ℕ) (p : Pins) : Type 0 where
  pub lines : List ℕ
  pub holds : PinsAre lines p
  pub rest : decimals (fields_from line from) ≡ onto lines (decimals (fields_from line at))

pub passed_start : (line : List ℕ) (from : ℕ) (p : Pins) → PinsAre [] p → Passed line from from p
passed_start line from p h = record { lines = []; holds = h; rest = onto-none (decimals (fields_from line from)) }

module _ {line : List ℕ} {from at : ℕ} {p : Pins} (so_far : Passed line from at p) where
  pub passed-more : (l : ℕ) (r : Pins) → at ≤ length line → decimal (part 44 line at) ≡ some l
      → ((ls : List ℕ) → PinsAre ls p → PinsAre (ls ++ (l ∷ [])) r) → Passed line from (next_after line at (part 44 line at)) r
  unfolding decimals
  passed-more l r h number holds =
      record {
        lines = so_far.lines ++ (l ∷ []);
        holds = holds so_far.lines so_far.holds;
        rest =
            so_far.rest
            ∙ rw (fields_from-step line at h, number)
            (onto-one so_far.lines l (decimals (fields_from line (next_after line at (part 44 line at)))));
      }

  pub passed-bad : at ≤ length line → decimal (part 44 line at) ≡ none → PinsRead (decimals (fields_from line from)) Code.None
  unfolding decimals with onto PinsRead
  passed-bad h number = rw (so_far.rest, fields_from-step line at h, number) tt

  pub passed-end : length line < at → PinsRead (decimals (fields_from line from)) (Code.Some p)
  unfolding decimals onto PinsRead
  passed-end h = rw (so_far.rest, fields_from-end line at h, append-nil so_far.lines) so_far.holds

-- ---- the one number of a mark

module _ (line : List ℕ) (at : ℕ) where
  pub lone_none : length line < at → lone (fields_from line at) ≡ none
  unfolding lone
  lone_none h = rw (fields_from-end line at h)

  module _ (h : at ≤ length line) (next : ℕ) (after : next ≡ next_after line at (part 44 line at)) where
    pub lone_many : next ≤ length line → lone (fields_from line at) ≡ none
    unfolding lone
    lone_many q = rw (fields_from-step line at h, ← after, fields_from-step line next q)

    pub lone_one : length line < next → lone (fields_from line at) ≡ decimal (part 44 line at)
    unfolding lone
    lone_one q = rw (fields_from-step line at h, ← after, fields_from-end line next q)

-- ---- a gate

module _ (cells : List Cell) (line : List ℕ) (at : ℕ) where
  pub gate-none : length line < at → gate_of cells (fields_from line at) ≡ none
  unfolding gate_of
  gate-none h = rw (fields_from-end line at h)

  module _ (h : at ≤ length line) where
    pub gate-name-bad : name_form (part 44 line at) ≡ false → gate_of cells (fields_from line at) ≡ none
    unfolding gate_of pick
    gate-name-bad name = rw (fields_from-step line at h, name)

    module _ (name : name_form (part 44 line at) ≡ true) (next : ℕ) (after : next ≡ next_after line at (part 44 line at)) where
      pub gate_no_line : length line < next → gate_of cells (fields_from line at) ≡ none
      unfolding gate_of decimals driven_by pick
      gate_no_line q = rw (fields_from-step line at h, name, ← after, fields_from-end line next q)

      module _ (q : next ≤ length line) where
        pub gate-line-bad : decimal (part 44 line next) ≡ none → gate_of cells (fields_from line at) ≡ none
        unfolding gate_of decimals with driven_by pick
        gate-line-bad number = rw (fields_from-step line at h, name, ← after, fields_from-step line next q, number)

        pub gate-lines : (l : ℕ) → decimal (part 44 line next) ≡ some l
            → gate_of cells (fields_from line at)
            ≡ driven_by (cell_named (part 44 line at) cells)
            (with (some l) (decimals (fields_from line (next_after line next (part 44 line next)))))
        unfolding gate_of decimals pick
        gate-lines l number = rw (fields_from-step line at h, name, ← after, fields_from-step line next q, number)

-- A gate's numbers with the pins that were gathered.
pub gathered-gate : (cell l : ℕ) (o : Option (List ℕ)) (ps : Pins) (p : RawStatement) → PinsRead o (Code.Some ps)
    → p.kind ≡ gate_kind → p.cell ≡ cell → p.line ≡ l → p.pins ≡ ps.pins → p.count ≡ ps.count → p.bad ≡ ps.bad
    → StandsFor (Code.Some p) (driven_by cell (with (some l) o))
unfolding PinsRead StandsFor driven_by with
gathered-gate cell l none ps p h kind named line pins count bad = absurd h
gathered-gate cell l (some ls) ps p h kind named line pins count bad =
    record { kind = kind; cell = named; line = line; pins = pins ∙ h.pins; count = count ∙ h.count; bad = bad ∙ h.bad }

pub no_pins : (cell l : ℕ) (o : Option (List ℕ)) → PinsRead o Code.None → StandsFor Code.None (driven_by cell (with (some l) o))
unfolding PinsRead StandsFor driven_by with
no_pins cell l none h = tt
no_pins cell l (some ls) h = absurd h

-- ---- a range

-- Three numbers, gathered as pins are.
pub gathered-range : (o : Option (List ℕ)) (ps : Pins) (p : RawStatement) → PinsRead o (Code.Some ps) → ps.count ≡ 3
    → p.kind ≡ range_kind → p.line ≡ get_or ps.pins 0 0 → p.pins ≡ ps.pins → StandsFor (Code.Some p) (range_of o)
unfolding PinsRead StandsFor range_of fitted
gathered-range none ps p h three kind line pins = absurd h
gathered-range (some []) ps p h three kind line pins = absurd (omega (arith, h.count))
gathered-range (some (l ∷ [])) ps p h three kind line pins = absurd (omega (arith, h.count))
gathered-range (some (l ∷ (a ∷ []))) ps p h three kind line pins = absurd (omega (arith, h.count))
gathered-range (some (l ∷ (a ∷ (b ∷ [])))) ps p h three kind line pins =
    record { kind = kind; line = line ∙ rw h.pins; pins = pins ∙ h.pins }
gathered-range (some (l ∷ (a ∷ (b ∷ (c ∷ ls))))) ps p h three kind line pins = absurd (omega (arith, h.count))

pub no_range : (o : Option (List ℕ)) → PinsRead o Code.None → StandsFor Code.None (range_of o)
unfolding PinsRead StandsFor range_of
no_range none h = tt
no_range (some ls) h = absurd h

pub no_three : (o : Option (List ℕ)) (ps : Pins) → PinsRead o (Code.Some ps) → (ps.count ≡ 3 → ⊥) → StandsFor Code.None (range_of o)
unfolding PinsRead StandsFor range_of
no_three none ps h other = tt
no_three (some []) ps h other = tt
no_three (some (l ∷ [])) ps h other = tt
no_three (some (l ∷ (a ∷ []))) ps h other = tt
no_three (some (l ∷ (a ∷ (b ∷ [])))) ps h other = absurd (other h.count)
no_three (some (l ∷ (a ∷ (b ∷ (c ∷ ls))))) ps h other = tt

-- ---- a statement

all-fields : (line : List ℕ) → fields line ≡ part 44 line 0 ∷ fields_from line (next_after line 0 (part 44 line 0))
all-fields line = sym (fields_from-start line) ∙ fields_from-step line 0 (omega arith)

-- By the first field, and the cursor behind it.
pub statement_by : (rules : Rules) (cells : List Cell) (line : List ℕ) {f : List ℕ} {at : ℕ} → f ≡ part 44 line 0 → at ≡ next_after line 0 f
    → statement_of rules cells (fields line)
    ≡ pick (same_bytes f (bytes "input")) (mark_of input (lone (fields_from line at)))
    (pick (same_bytes f (bytes "output")) (mark_of output (lone (fields_from line at)))
    (pick (same_bytes f (bytes "gate")) (gate_of cells (fields_from line at))
    (pick (declaring rules && same_bytes f (bytes "open")) (mark_of opened (lone (fields_from line at)))
    (pick (declaring rules && same_bytes f (bytes "range")) (range_of (decimals (fields_from line at))) none))))
unfolding statement_of
statement_by rules cells line field moved = rw (all-fields line, ← field, moved)
