-- What `scoap` prints of two texts. Document 01, "Report".
use Rattle.std.specs.Prelude.{◌||◌, List, [], ◌∷◌, ℕ}
use Rattle.sizes.specs.Sizes as Size
use Rattle.reading.specs.Numbers as No
use Rattle.reading.specs.Refusal.{Read, ◌>>=◌, ◌>>◌, weigh}
use Rattle.writer.specs.Buffer.{text_within, shown}
use Rattle.demands.specs.Outcome.{text_long, given_texts, read_pair, reports}

-- What two texts come to: a report, or a refusal, 2 to 15, 17 or 20 to 22. "Table sizes published are those of the tables that
-- `scoap` itself lends", so that 1 cannot arise. "a report buffer of 65,536 bytes" has room for every report, but not for
-- every two: 17 comes only where there are ranges (`Acceptance` of Demands.antt).
unfoldable pub reported : List ℕ → List ℕ → Read (List ℕ)
reported lib net =
    weigh 0 ((No.text_long, text_long lib || text_long net) ∷ [])
    >> (read_pair (given_texts lib net) >>= λ p. text_within No.report_long Size.report_bytes (reports p.cells p.statements))

-- "The program `scoap` reads `lib.txt` and `net.txt` and has a report buffer of 65,536 bytes", and "prints all of" the report.
-- "On refusal the program prints `refused,number,line`".
unfoldable pub printed : List ℕ → List ℕ → List ℕ
printed lib net = shown (reported lib net)
