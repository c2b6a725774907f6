-- What a sweep is for, and the number that each is known by: 0 setting and 1 observing.
use Rattle.std.specs.Prelude.{List, ◌≡◌, ℕ}
use Rattle.sweep_groups.specs.declared.turns.Role.{Role}
use Rattle.sweep_groups.specs.declared.turns.Role.TheVariants.{Setting, Observing}
use Rattle.sweep_groups.specs.Tables.{role_columns, visit_count, visit_group, visit_place}

abbrev pub role_index : Role → ℕ
role_index Setting = 0
role_index Observing = 1

-- The role that a number stands for: what goes by the number, above 1 too, goes by the role.
pub record RoleOf (number : ℕ) (role : Role) : Type 0 where
  pub setting : number ≡ 0 → role ≡ Setting
  pub observing : (number ≡ 0 → ⊥) → role ≡ Observing
  pub columns : (pins : ℕ) → role_columns (role_index role) pins ≡ role_columns number pins
  pub count : (pins : ℕ) → visit_count (role_index role) pins ≡ visit_count number pins
  pub group : (kind i : ℕ) → visit_group (role_index role) kind i ≡ visit_group number kind i
  pub place : (kind : ℕ) (lines : List ℕ) (i : ℕ) → visit_place (role_index role) kind lines i ≡ visit_place number kind lines i
