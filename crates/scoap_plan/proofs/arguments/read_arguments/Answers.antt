-- `read_arguments` counts the words and reads each.
use Rattle.scoap_plan.proofs.Laws.{words-bad, words-good}
use Rattle.scoap_plan.proofs.arguments.read_arguments.Goals as goal

pub returns-then-words-ne-WORDS : goal.returns-then-words-ne-WORDS
returns-then-words-ne-WORDS c = words-bad _ _ _ _ c.if-words-ne-WORDS.true

pub returns : goal.returns
returns c =
    words-good _ _ _ _ c.if-words-ne-WORDS.false
    (rw (← c.decimal.ensures, ← c.decimal-2.ensures, ← c.decimal-3.ensures) c.three_decimals.ensures)
