-- A refusal as it is printed. Document 01, "Report".
use Rattle.std.specs.Prelude.{List, [], ◌∷◌, ◌++◌, ℕ}
use Rattle.text.specs.Bytes.{bytes}
use Rattle.writer.specs.Decimal.{decimal_bytes}

-- "On refusal the program prints `refused,number,line`"; "Every printed line ends with byte 10."
unfoldable pub refusal_bytes : ℕ → ℕ → List ℕ
refusal_bytes number line = bytes "refused," ++ (decimal_bytes number ++ (44 ∷ (decimal_bytes line ++ (10 ∷ []))))
