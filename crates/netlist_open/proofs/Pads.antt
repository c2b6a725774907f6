-- An analysis accepts a netlist text with its pads added as output lines.
use Rattle.common_laws.proofs.Base.{List, [], ◌∷◌, ◌++◌, map, Option, none, some, ◌≡◌, refl, ◌∙◌, ℕ, ◌+◌, ◌≤◌, length}
use Rattle.sizes.specs.Sizes as Size
use Rattle.reading.specs.Choice.{pick}
use Rattle.reading.specs.Each.{Each}
use Rattle.reading.specs.Refusal.{read, ◌>>=◌}
use Rattle.reading.proofs.Laws.{bind_read, each_right}
use Rattle.text.specs.Bytes.{bytes}
use Rattle.text.specs.Lines.{lines, same_bytes, lines_open}
use Rattle.writer.specs.Decimal.{decimal_bytes}
use Rattle.library_table.specs.Cells.{Cell}
use Rattle.library_table.specs.Library.{Fields}
use Rattle.netlist_table.specs.declared.Rules.TheVariants.{New}
use Rattle.netlist_table.specs.Netlist.{Statement, mark, output, lone, mark_of, statement_of, lines_of, admitted, line_form, line_forms, text_statements, declared, netlist}
use Rattle.netlist_table.specs.Sound.{InRange, LinesInRange}
use Rattle.netlist_table.proofs.Laws.{netlist-sound}
use Rattle.netlist_table.proofs.OpenLines.{declared-read, declared_same}
use Rattle.netlist_table.proofs.Pad.{pads-admitted}
use Rattle.calculation.specs.Acceptance.{BothSound}
use Rattle.calculation.specs.Pads.{padded}
use Rattle.calculation.proofs.Pads.{placeable-sound, placeable-declared}
use Rattle.netlist_open.specs.Padded.{output_line, output_lines, PadsAccepted}
use Rattle.netlist_open.proofs.Copy.{decimal-back, word_line, good_forms, forms_append, admitted-append}
use Rattle.netlist_open.proofs.Split.{Good, lines-append}

-- ---- a line `output,L`

module _ (l : ℕ) (low : 1 ≤ l) (high : l ≤ Size.lines) where
  output-line : (t : List ℕ) → lines (output_line l ++ t) ≡ some (bytes "output" ∷ (decimal_bytes l ∷ [])) ∷ lines t
  unfolding output_line bytes Each
  output-line t =
      word_line l low high (bytes "output") (refl, (refl, (refl, (refl, (refl, (refl, tt)))))) (refl, (refl, (refl, (refl, (refl, (refl, tt)))))) t

  output_says : (cells : List Cell) → line_form New cells (some (bytes "output" ∷ (decimal_bytes l ∷ []))) ≡ some (mark output l)
  unfolding line_form statement_of lone mark_of bytes same_bytes pick
  output_says cells = rw (decimal-back l low high)

outputs_forms : (cells : List Cell) (ls : List ℕ) → Each LinesInRange (map (mark output) ls)
    → line_forms New cells (lines (output_lines ls)) ≡ map (λ l. some (mark output l)) ls
unfolding output_lines line_forms Each LinesInRange lines_of InRange
outputs_forms cells [] h = unfold lines_open in refl
outputs_forms cells (l ∷ ls) h =
    let low : 1 ≤ l = h.0.0.0 in
    let high : l ≤ Size.lines = h.0.0.1 in
    rw (output-line l low high (output_lines ls), output_says l low high cells, outputs_forms cells ls h.1)

-- ---- the text

formed : (cells : List Cell) (ls : List (Option Fields)) → Each Good (line_forms New cells ls) → Each Good ls
unfolding line_forms Each
formed cells [] h = tt
formed cells (none ∷ ls) h = absurd (unfold line_form in h.0)
formed cells (some fs ∷ ls) h = (tt, formed cells ls h.1)

pub pads-accepted : PadsAccepted
unfolding netlist text_statements
pads-accepted cells net ss pads so e h = bind_read (text_statements New cells net) (declared New) ss on e
  where
    start : BothSound cells ss
    start = record { library = so; netlist = netlist-sound cells New net ss (unfold netlist in e) }

    both : BothSound cells (padded ss pads)
    both = placeable-sound cells ss pads start h

    marks : Each LinesInRange (map (mark output) pads)
    marks = each_right LinesInRange ss (map (mark output) pads) (unfold padded in both.netlist.lines)

    on : (rs : List Statement) → text_statements New cells net ≡ read rs → declared New rs ≡ read ss → (text_statements New cells (net ++ output_lines pads) >>= declared New) ≡ read (padded ss pads)
    on rs t d = unfold ◌>>=◌ in rw (statements, declares)
      where
        same : rs ≡ ss
        same = declared-read New rs ss d

        text : admitted 1 cells [] (line_forms New cells (lines net)) ≡ read ss
        text = unfold text_statements in (rw same at t)

        good : Each Good (lines net)
        good = formed cells (lines net) (good_forms 1 cells [] (line_forms New cells (lines net)) ss text)

        statements : text_statements New cells (net ++ output_lines pads) ≡ read (padded ss pads)
        statements =
            unfold text_statements padded in
            rw (lines-append net (output_lines pads) good, forms_append New cells (lines net) (lines (output_lines pads)), outputs_forms cells pads marks)
            (admitted-append 1 cells [] (line_forms New cells (lines net)) (map (λ l. some (mark output l)) pads) ss text
            ∙ pads-admitted cells (1 + length (line_forms New cells (lines net))) ss pads (unfold padded in both.netlist))

        declares : declared New (padded ss pads) ≡ read (padded ss pads)
        declares = declared_same New ss (padded ss pads) (placeable-declared cells ss pads start h) (rw same at d)
