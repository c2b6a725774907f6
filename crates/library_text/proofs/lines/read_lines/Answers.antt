-- What refuses the text, what a line makes of the reading, and what is read at the text's end.
use Rattle.common_laws.proofs.Base.{List, ◌++◌, ◌≡◌, sym, ap, ◌∙◌, ℕ, ◌+◌, ◌≤◌, ◌<◌, length, drop, arith, rules}
use Rattle.std.proofs.lemmas.Result.{err_from_is_err_and}
use Rattle.sizes.specs.Sizes as Size
use Rattle.reading.specs.Answer.{answer_read, done_read}
use Rattle.reading.specs.Refusal.{Read, read}
use Rattle.reading.proofs.Causes.{mapped}
use Rattle.reading.proofs.Laws.{refused-read}
use Rattle.text.specs.Lines.{part}
use Rattle.text.proofs.Laws.{part-within, next_after-within}
use Rattle.library_table.specs.Cells.{Cell}
use Rattle.library_table.specs.Layout.{library_words}
use Rattle.library_text.proofs.Entries.{state-fits}
use Rattle.library_text.proofs.Walks.{walk_start, walk-unended, walk_refused, walk-on, walk_broken, walk_done}
use Rattle.library_text.proofs.lines.read_lines.Goals as goal

-- A line that does not end the text ends with byte 10.
ended : (text l : List ℕ) (at : ℕ) → at ≤ length text → l ≡ part 10 text at → (at + length l ≡ length text → ⊥) → at + length (part 10 text at) < length text
ended text l at h e other =
    let within = part-within 10 text at h in
    let more : at + length (part 10 text at) ≡ length text → ⊥ = rw e at other in
    omega arith

read-same : {xs ys : List Cell} → ◌≡◌ {A = Read (List Cell)} (read xs) (read ys) → xs ≡ ys
read-same e = cc

pub loop-at-init : goal.loop-at-init
loop-at-init c =
    record { within = omega arith; few = omega arith; walked = walk_start c.args.text.now (drop Size.library c.args.table.now) c.args.table.now c.requires.1 }

pub returns-then-at-l-clause-answered : goal.returns-then-at-l-clause-answered
unfolding answer_read done_read
returns-then-at-l-clause-answered c =
    let l = c.loop-at in
    rw (walk-unended c.args.text.now _ l.at l.number l.s l.table l.invariant.walked c.loop-at-test.true (rw c.line-l.ensures at c.if-at-l.true), c.at.ensures)

pub returns-then-at-l-clause-filled : goal.returns-then-at-l-clause-filled
returns-then-at-l-clause-filled c cells e =
    let l = c.loop-at in
    refused-read (sym (walk-unended c.args.text.now _ l.at l.number l.s l.table l.invariant.walked c.loop-at-test.true (rw c.line-l.ensures at c.if-at-l.true)) ∙ e)

pub read_line-requires : goal.read_line-requires
read_line-requires c =
    let l = c.loop-at in
    let w = l.invariant.walked in
    rw c.line-l.ensures (state-fits w.reading l.s l.table _ w.shows, omega (arith, part-within 10 c.args.text.now l.at l.invariant.within, c.requires.0))

-- The line's answer, made a refusal of the text.
pub returns-in_err-s-clause-answered : goal.returns-in_err-s-clause-answered
unfolding answer_read done_read
returns-in_err-s-clause-answered c =
    let l = c.loop-at in
    let w = l.invariant.walked in
    let below = ended c.args.text.now _ l.at l.invariant.within c.line-l.ensures c.if-at-l.false in
    let left = rw c.line-l.ensures at (c.read_line.ensures w.reading (drop Size.library c.args.table.now) l.number w.shows) in
    let told = sym c.in_err-s.was ∙ mapped c.read_line.result c.map_err.result l.number c.map_err.ensures.cases (λ cause refusal says. search rules) in
    let p = err_from_is_err_and c.from_residual.result c.from_residual.ensures.1 in
    rw (walk_refused c.args.text.now _ l.at l.number l.s l.table w below _ c.read_line.result _ left told, p.1, p.2)

pub returns-in_err-s-clause-filled : goal.returns-in_err-s-clause-filled
returns-in_err-s-clause-filled c cells e =
    let l = c.loop-at in
    let w = l.invariant.walked in
    let below = ended c.args.text.now _ l.at l.invariant.within c.line-l.ensures c.if-at-l.false in
    let left = rw c.line-l.ensures at (c.read_line.ensures w.reading (drop Size.library c.args.table.now) l.number w.shows) in
    let told = sym c.in_err-s.was ∙ mapped c.read_line.result c.map_err.result l.number c.map_err.ensures.cases (λ cause refusal says. search rules) in
    refused-read (sym (walk_refused c.args.text.now _ l.at l.number l.s l.table w below _ c.read_line.result _ left told) ∙ e)

pub loop-at-smaller : goal.loop-at-smaller
loop-at-smaller c =
    let l = c.loop-at in
    rw (c.after-at.ensures, c.line-l.ensures) (omega (arith, next_after-within c.args.text.now l.at (part 10 c.args.text.now l.at) l.invariant.within))

pub loop-at-preserved : goal.loop-at-preserved
loop-at-preserved c =
    let l = c.loop-at in
    let w = l.invariant.walked in
    let s = c.args.text.now in
    let next = next_after-within s l.at (part 10 s l.at) l.invariant.within in
    let below = ended s _ l.at l.invariant.within c.line-l.ensures c.if-at-l.false in
    let left = rw c.line-l.ensures at (c.read_line.ensures w.reading (drop Size.library c.args.table.now) l.number w.shows) in
    let told = sym c.in_ok-s.was ∙ mapped c.read_line.result c.map_err.result l.number c.map_err.ensures.cases (λ cause refusal says. search rules) in
    rw (c.after-at.ensures, c.line-l.ensures) (record { within = omega arith; few = omega arith; walked = walk-on s _ l.at l.number l.s l.table w below _ c.read_line.result _ left told })

pub returns-in-Some-clause-answered : goal.returns-in-Some-clause-answered
unfolding answer_read done_read
returns-in-Some-clause-answered c =
    let l = c.loop-at in
    rw (walk_broken c.args.text.now _ l.at l.number l.s l.table l.invariant.walked c.loop-at-test.false _ c.in-Some.is, c.at-in-Some.ensures)

pub returns-in-Some-clause-filled : goal.returns-in-Some-clause-filled
returns-in-Some-clause-filled c cells e =
    let l = c.loop-at in
    refused-read (sym (walk_broken c.args.text.now _ l.at l.number l.s l.table l.invariant.walked c.loop-at-test.false _ c.in-Some.is) ∙ e)

pub returns-in-None-clause-answered : goal.returns-in-None-clause-answered
unfolding answer_read done_read
returns-in-None-clause-answered c =
    let l = c.loop-at in
    rw (walk_done c.args.text.now _ l.at l.number l.s l.table l.invariant.walked c.loop-at-test.false c.in-None.is).0

pub returns-in-None-clause-filled : goal.returns-in-None-clause-filled
returns-in-None-clause-filled c cells e =
    let l = c.loop-at in
    let done = walk_done c.args.text.now _ l.at l.number l.s l.table l.invariant.walked c.loop-at-test.false c.in-None.is in
    let same : l.invariant.walked.reading.cells ≡ cells = read-same (sym done.0 ∙ e) in
    done.1 ∙ ap (λ (cs : List Cell). library_words cs ++ drop Size.library c.args.table.now) same
