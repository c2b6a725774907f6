-- What the program `scoap_cell` prints of the text of `table.txt`. Document 02, K6.
use Rattle.std.specs.Prelude.{List, ℕ}
use Rattle.writer.specs.Buffer.{shown}
use Rattle.truth_entry.specs.Generated.{generated}

-- It "prints a whole entry"; what is refused is "printed as `scoap` prints a refusal".
unfoldable pub entry_printed : List ℕ → List ℕ
entry_printed text = shown (generated text)
