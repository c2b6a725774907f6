-- A choice by a test, as every definition of this repository writes it.
use Rattle.std.specs.Prelude.{Bool, true, false, ℕ}

-- The first of two where the test holds, else the second.
unfoldable pub pick : {A : Type 0} → Bool → A → A → A
pick true a b = a
pick false a b = b

-- Opens the page's definitions, where a figure computes with them.
unfoldable pub choice_open : ℕ
unfolding pick
choice_open = 0
