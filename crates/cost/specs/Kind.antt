-- The two kinds of cost, and the number that each is known by: 0 combinational and 1 sequential.
use Rattle.std.specs.Prelude.{◌≡◌, ℕ, ◌<◌, Result, MatchResult}
use Rattle.cost.specs.declared.Kind.{Kind}
use Rattle.cost.specs.declared.Kind.TheVariants.{Combinational, Sequential}
use Rattle.cost.specs.declared.UnknownKind.{UnknownKind}

abbrev pub kind_index : Kind → ℕ
kind_index Combinational = 0
kind_index Sequential = 1

-- The kind that a number stands for, or that it stands for none.
abbrev pub KindOf : ℕ → Result Kind UnknownKind → Type 0
KindOf number r = MatchResult r (λ kind. kind_index kind ≡ number) (λ e. 1 < number)
