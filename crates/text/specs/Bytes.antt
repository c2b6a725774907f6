-- Text written out in definitions and figures, as the bytes that it stands for.
use Rattle.std.specs.Prelude.{List, [], ◌∷◌, ◌++◌, ℕ}
use Prim.Native.Char.{code}
use Prim.Native.String.{String, [] as «end», ◌∷◌ as ◌then◌}

unfoldable pub bytes : String → List ℕ
bytes «end» = []
bytes (c then s) = code c ∷ bytes s

-- A text by its lines: "each line ends with byte 10".
unfoldable pub text : List String → List ℕ
unfolding bytes
text [] = []
text (l ∷ ls) = bytes l ++ (10 ∷ text ls)

-- Opens the page's definitions, where a figure computes with them.
unfoldable pub bytes_open : ℕ
unfolding bytes text
bytes_open = 0
