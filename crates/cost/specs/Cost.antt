-- Costs as document 01, "Costs", has them, each held as a number. This page is all that a reader must believe of them.
-- The laws that others cite stand in `proofs/Laws.antt`.
use Rattle.std.specs.Prelude.{Bool, ◌||◌, ℕ, ◌+◌, min, leb, ltb, eqb}
use Rattle.reading.specs.Choice.{pick, choice_open}

-- "A cost is a whole number from 0 to 999,999,999, "over" (1,000,000,000 in tables) or "never" (1,000,000,001). They are
-- ordered so": the order of costs is the order of these numbers. "over" and "never" are document 01's terms.
abbrev pub most : ℕ
most = 999999999

abbrev pub over : ℕ
over = 1000000000

abbrev pub never : ℕ
never = 1000000001

-- A raw number above never counts as never.
unfoldable pub counted : ℕ → ℕ
counted a = min a never

unfoldable pub is_never : ℕ → Bool
is_never a = leb never a

unfoldable pub is_over : ℕ → Bool
is_over a = eqb a over

infixl 65 ◌⊕◌
-- "A sum is never if a term is never; otherwise over if a term is over or the exact sum exceeds 999,999,999; otherwise
-- exact."
unfoldable pub ◌⊕◌ : ℕ → ℕ → ℕ
a ⊕ b =
    pick (is_never a || is_never b) never
    (pick ((is_over a || is_over b) || ltb most (a + b)) over (a + b))

-- The lower of two costs.
unfoldable pub lesser : ℕ → ℕ → ℕ
lesser a b = min (counted a) (counted b)

-- An exact sum without a ceiling, as a cost: itself up to 999,999,999, and over above.
unfoldable pub capped : ℕ → ℕ
capped n = min n over

-- Opens the page's definitions, where a figure computes with them.
unfoldable pub cost_open : ℕ
unfolding choice_open counted is_never is_over ◌⊕◌ lesser capped
cost_open = 0
