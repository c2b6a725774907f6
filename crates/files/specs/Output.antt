-- What a program prints of files that were loaded into buffers. Document 01, "Report".
use Rattle.std.specs.Prelude.{List, [], ◌∷◌, ◌++◌, ◌⊎◌, ◌≡◌, ℕ, ◌<◌, length, take, Option, Some, None}
use Rattle.sizes.specs.Sizes as Size
use Rattle.reading.specs.Numbers as No
use Rattle.text.specs.Bytes.{bytes}
use Rattle.writer.specs.Refused.{refusal_bytes}
use Rattle.files.specs.Loads.{Filled}

-- "when a file can't be read it prints `unreadable` and nothing else"; "Every printed line ends with byte 10."
unfoldable pub unreadable : List ℕ
unreadable = bytes "unreadable" ++ (10 ∷ [])

-- What is printed of one file, by what is printed of its bytes.
unfoldable pub of_file : (List ℕ → List ℕ) → Option ℕ → List ℕ → List ℕ
of_file print (Some n) buffer = print (take n buffer)
of_file print None buffer = unreadable

-- Of two files: `unreadable` where either is, whatever the other holds.
unfoldable pub of_files : (List ℕ → List ℕ → List ℕ) → Option ℕ → List ℕ → Option ℕ → List ℕ → List ℕ
of_files print l lib n net = of_file (λ t. of_file (print t) n net) l lib

-- What a call promises that puts the bytes to be printed into the front of a buffer of `space` bytes: how many they are, that
-- they stand there, all of them, and how long the whole buffer is, of which a program hands the front on.
pub record Outputs (space : ℕ) (bytes after : List ℕ) (said : ℕ) : Type 0 where
  pub answers : said ≡ length bytes
  pub prints : take said after ≡ bytes
  pub long : space ≡ length after

-- "2 a text above 65,535 bytes", at line 0: what is printed of such a text, or of two texts of which one is such.
abbrev pub long_refused : List ℕ
long_refused = refusal_bytes No.text_long 0

abbrev pub OneLongRefused : (List ℕ → List ℕ) → Type 0
OneLongRefused print = (text : List ℕ) → Size.text_bytes < length text → print text ≡ long_refused

abbrev pub LongRefused : (List ℕ → List ℕ → List ℕ) → Type 0
LongRefused print = (lib net : List ℕ) → (Size.text_bytes < length lib) ⊎ (Size.text_bytes < length net) → print lib net ≡ long_refused

-- What a program puts ready to be printed of one file, and of two: the bytes, by equation; and that a file of which bytes may
-- be left unread is refused by 2, unless the other is unreadable.
pub record PrintsFile (space : ℕ) (print : List ℕ → List ℕ) (l : Option ℕ) (text after : List ℕ) (said : ℕ) : Type 0 where
  pub outputs : Outputs space (of_file print l text) after said
  pub cut : Filled l text → of_file print l text ≡ long_refused

pub record PrintsFiles (space : ℕ) (print : List ℕ → List ℕ → List ℕ) (l : Option ℕ) (lib : List ℕ) (n : Option ℕ) (net after : List ℕ) (said : ℕ)
    : Type 0 where
  pub outputs : Outputs space (of_files print l lib n net) after said
  pub cut_library : (n ≡ None → ⊥) → Filled l lib → of_files print l lib n net ≡ long_refused
  pub cut_netlist : (l ≡ None → ⊥) → Filled n net → of_files print l lib n net ≡ long_refused
