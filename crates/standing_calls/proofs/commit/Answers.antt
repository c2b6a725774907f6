-- `commit`: the ticket's count, what is lent read with the pad, and the pad stored.
use Rattle.std.proofs.lemmas.Result.{err_from_is_err_and}
use Rattle.common_laws.proofs.Base.{not, List, ◌≡◌, refl, sym, subst, ℕ, suc, ◌+◌, arith, eqb, get_or}
use Rattle.reading.specs.Refusal.{Read, read}
use Rattle.demands.specs.Outcome.{Given, given_texts}
use Rattle.demands.proofs.Given.{texts-checked}
use Rattle.reading.specs.Answer.{answer_read}
use Rattle.standing_table.specs.StandingTable.{StoresPad}
use Rattle.standing_table.specs.Parts.{PadRead}
use Rattle.standing_calls.specs.Promise.{CommitPromised}
use Rattle.standing_calls.proofs.Calls.{is_short, is_long, ready, in-range, room, commit-short, commit-stopped, commit-stored}
use Rattle.standing_table.proofs.TextsLaws.{accepted_is, refused_is}
use Rattle.standing_calls.proofs.commit.Goals as goal

-- What was read, where the count is the table's.
module _ (given : Given) (table : List ℕ) (line count : ℕ) (lib net : List ℕ) where
  abbrev Told : ℕ → Read (Unit {0}) → Type 0
  Told n said = PadRead given table line (not (eqb count n)) lib net said

  told : (n : ℕ) (v w : Read (Unit {0})) → n ≡ get_or table 0 0 → v ≡ w → Told n v → Told (get_or table 0 0) w
  told n v w e f h = subst (λ (k : ℕ). Told k w) e (subst (Told n) f h)

pub returns-then-standing-lt-STANDING : goal.returns-then-standing-lt-STANDING
unfolding answer_read
returns-then-standing-lt-STANDING c =
    rw c.at.ensures
    (commit-short (given_texts c.args.lib.now c.args.net.now) (texts-checked _ _) c.args.standing.now c.args.line c.args.count (is_short c.args.standing.now c.if-standing-lt-STANDING.true))

pub returns-in_err-read_pad : goal.returns-in_err-read_pad
unfolding answer_read
returns-in_err-read_pad c =
    let p = err_from_is_err_and c.from_residual.result c.from_residual.ensures.1 in
    let x = c.in_err-read_pad.field-0.0 in
    rw (p.1, p.2)
    (commit-stopped (given_texts c.args.lib.now c.args.net.now) (texts-checked _ _) c.args.standing.now c.args.line c.args.count (is_long c.args.standing.now c.if-standing-lt-STANDING.false)
    c.read_pad.new.library c.read_pad.new.netlist x.number x.line
    (told (given_texts c.args.lib.now c.args.net.now) c.args.standing.now c.args.line c.args.count _ _ c.word-pads.result _ _ (c.word-pads.ensures)
    (refused_is c.read_pad.result x c.in_err-read_pad.was) c.read_pad.ensures))

pub returns : goal.returns
unfolding answer_read
returns c =
    let table = c.args.standing.now in
    let more : c.word-pads.result + 1 ≡ suc (get_or table 0 0) = omega (arith, c.word-pads.ensures) in
    subst (λ (n : ℕ). CommitPromised (given_texts c.args.lib.now c.args.net.now) table c.args.line c.args.count c.put_pad.new.standing (read n)) (sym more)
    (commit-stored (given_texts c.args.lib.now c.args.net.now) (texts-checked _ _) table c.args.line c.args.count (is_long c.args.standing.now c.if-standing-lt-STANDING.false)
    c.read_pad.new.library c.read_pad.new.netlist
    (told (given_texts c.args.lib.now c.args.net.now) c.args.standing.now c.args.line c.args.count _ _ c.word-pads.result _ _ (c.word-pads.ensures)
    (accepted_is c.read_pad.result c.in_ok-read_pad.was) c.read_pad.ensures) c.put_pad.new.standing c.put_pad.auto.standing
    (λ cells ss h. subst (λ (n : ℕ). StoresPad cells ss n c.args.line table c.put_pad.new.standing) (c.word-pads.ensures) (c.put_pad.ensures cells ss h)))

pub read_pad-requires : goal.read_pad-requires
read_pad-requires c =
    (record { cells = refl; statements = refl }, c.if-standing-lt-STANDING.false)

pub put_pad-requires : goal.put_pad-requires
put_pad-requires c =
    let table = c.args.standing.now in (
      ready (given_texts c.args.lib.now c.args.net.now) (texts-checked _ _) table (is_long c.args.standing.now c.if-standing-lt-STANDING.false) c.args.line _ _ _ (told (given_texts c.args.lib.now c.args.net.now) c.args.standing.now c.args.line c.args.count _ _ c.word-pads.result _ _ (c.word-pads.ensures)
          (accepted_is c.read_pad.result c.in_ok-read_pad.was) c.read_pad.ensures),
      omega (
        arith,
        c.word-pads.ensures,
        room (given_texts c.args.lib.now c.args.net.now) (texts-checked _ _) table (is_long c.args.standing.now c.if-standing-lt-STANDING.false) c.args.line _ _ _ (told (given_texts c.args.lib.now c.args.net.now) c.args.standing.now c.args.line c.args.count _ _ c.word-pads.result _ _ (c.word-pads.ensures)
            (accepted_is c.read_pad.result c.in_ok-read_pad.was) c.read_pad.ensures),
      ),
      in-range (given_texts c.args.lib.now c.args.net.now) (texts-checked _ _) table (is_long c.args.standing.now c.if-standing-lt-STANDING.false) c.args.line _ _ _ (told (given_texts c.args.lib.now c.args.net.now) c.args.standing.now c.args.line c.args.count _ _ c.word-pads.result _ _ (c.word-pads.ensures)
          (accepted_is c.read_pad.result c.in_ok-read_pad.was) c.read_pad.ensures),
    )

pub overflow_add-result : goal.overflow_add-result
overflow_add-result c =
    omega (
      arith,
      c.word-pads.ensures,
      room (given_texts c.args.lib.now c.args.net.now) (texts-checked _ _) c.args.standing.now (is_long c.args.standing.now c.if-standing-lt-STANDING.false) c.args.line _ _ _ (told (given_texts c.args.lib.now c.args.net.now) c.args.standing.now c.args.line c.args.count _ _ c.word-pads.result _ _ (c.word-pads.ensures)
          (accepted_is c.read_pad.result c.in_ok-read_pad.was) c.read_pad.ensures),
    )
