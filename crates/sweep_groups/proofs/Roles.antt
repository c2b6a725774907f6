-- What goes by the role, 0 setting and 1 observing.
use Rattle.common_laws.proofs.Base.{List, ◌≡◌, ℕ, ◌+◌, ◌*◌, ◌≤◌, ◌<◌, ℕ_discrete, refl, sym, ◌∙◌, arith, get_or, eq-eqb, ne_eqb}
use Rattle.sizes.specs.Sizes as Size
use Rattle.sizes.specs.Places.{setting_place, observing_place}
use Rattle.reading.specs.Choice.{pick}
use Rattle.sweep_sums.specs.Sums.{place_kind}
use Rattle.sweep_sums.proofs.Sums.{setting-kind, observing-kind}
use Rattle.sweep_groups.specs.declared.turns.Role.{Role}
use Rattle.sweep_groups.specs.declared.turns.Role.TheVariants.{Setting, Observing}
use Rattle.sweep_groups.specs.Roles.{role_index, RoleOf}
use Rattle.sweep_groups.specs.Tables.{by_role, visit_count, visit_group, visit_place}
use Rattle.sweep_groups.specs.Fits.{LinesFit}

pub role_most : (role : Role) → role_index role ≤ 1
role_most Setting = omega arith
role_most Observing = omega arith

module _ {A : Type 0} (role : ℕ) (setting observing : A) where
  pub role_set : role ≡ 0 → by_role role setting observing ≡ setting
  unfolding by_role pick
  role_set e = rw (eq-eqb role 0 e)

  pub role-observed : (role ≡ 0 → ⊥) → by_role role setting observing ≡ observing
  unfolding by_role pick
  role-observed e = rw (ne_eqb role 0 e)

-- ---- a gate's visits

module _ (role kind : ℕ) (lines : List ℕ) (pins i : ℕ) (kinds : kind ≤ 1) (fit : LinesFit lines pins) (turn : i < visit_count role pins) where
  by_role_lem : {P : Type 0} → (role ≡ 0 → i < Size.values → P) → ((role ≡ 0 → ⊥) → i < pins → P) → P
  by_role_lem {P} setting observing = go (ℕ_discrete role 0)
    where
      go : Dec (role ≡ 0) → P
      go (yes h) = setting h (rw (role_set role _ _ h) at turn)
      go (no h) = observing h (rw (role-observed role _ _ h) at turn)

  pub visit-low : i ≤ Size.pins
  visit-low = by_role_lem (λ h l. omega arith) (λ h l. omega (arith, fit.count))

  pub group_low : visit_group role kind i < Size.groups
  group_low =
      by_role_lem
      (λ h l. rw (role_set role (Size.cc_group + kind * Size.values + i) (Size.co_group + kind * Size.pins + i) h) (omega arith))
      (λ h l. rw (role-observed role (Size.cc_group + kind * Size.values + i) (Size.co_group + kind * Size.pins + i) h) (omega (arith, fit.count)))

  pub place_inside : visit_place role kind lines i < Size.numbers
  place_inside =
      let own = setting_place kind (get_or lines 0 0) i in
      let read = observing_place kind (get_or lines (i + 1) 0) in
      by_role_lem
      (λ h l. rw (role_set role own read h) (omega (arith, fit.least 0 (omega arith), fit.most 0 (omega arith))))
      (λ h l. rw (role-observed role own read h) (omega (arith, fit.least (i + 1) (omega arith), fit.most (i + 1) (omega arith))))

  pub place-kind : place_kind (visit_place role kind lines i) ≡ kind
  place-kind =
      let own = setting_place kind (get_or lines 0 0) i in
      let read = observing_place kind (get_or lines (i + 1) 0) in
      by_role_lem
      (λ h l. rw (role_set role own read h) (setting-kind kind (get_or lines 0 0) i kinds (omega arith)))
      (λ h l. rw (role-observed role own read h) (observing-kind kind (get_or lines (i + 1) 0) kinds))

-- ---- the role that a number stands for

pub role_of_above : (number : ℕ) → (number ≡ 0 → ⊥) → RoleOf number Observing
role_of_above number n =
    record {
      setting = λ e. absurd (n e);
      observing = λ z. refl;
      columns = λ pins. same (2 * pins) (2 * pins + 3);
      count = λ pins. same Size.values pins;
      group = λ kind i. same (Size.cc_group + kind * Size.values + i) (Size.co_group + kind * Size.pins + i);
      place = λ kind lines i. same (setting_place kind (get_or lines 0 0) i) (observing_place kind (get_or lines (i + 1) 0));
    }
  where
    same : {A : Type 0} (setting observing : A) → by_role 1 setting observing ≡ by_role number setting observing
    same setting observing = role-observed 1 setting observing (λ e. omega (arith, e)) ∙ sym (role-observed number setting observing n)
