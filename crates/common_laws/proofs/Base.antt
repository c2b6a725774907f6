-- The toolchain's names that proofs use, handed on by one page. Nothing is named anew here.
pub use mathlib.Core.Bool.{Bool, not-not as Bool-not-not, ◌&&◌, ◌||◌, and_assoc, and-false, and-true, false, not, or_assoc, or-false, or-true, true, true≢false}
pub use mathlib.Core.List.Memᴰ.{append_cases as List-Memᴰ-append-cases}
pub use mathlib.Core.List.Memᴰ.{append_left as Memᴰ-append-left}
pub use mathlib.Core.List.Memᴰ.{append_right as Memᴰ-append-right}
pub use mathlib.Core.List.Memᴰ.{head as List-Memᴰ-head}
pub use mathlib.Core.List.Memᴰ.{map as Memᴰ-map}
pub use mathlib.Core.List.Memᴰ.{not-nil as List-Memᴰ-not-nil}
pub use mathlib.Core.List.Memᴰ.{of_map as Memᴰ-of-map}
pub use mathlib.Core.List.Memᴰ.{tail as List-Memᴰ-tail}
pub use mathlib.Core.List.{List, Memᴰ as List-as-Memᴰ, [], ◌++◌, ◌∷◌, append_assoc, append-nil, cons≢nil, head-eq_of_cons-eq, map, map-append, nil≢cons, tail-eq_of_cons-eq}
unfoldable pub use mathlib.Core.List.{flat_map}
pub use mathlib.Core.Logic.{◌↔◌, ◌≢◌, ◌⊎◌, inl, inr, ⊎_elim}
pub use mathlib.Core.Option.{Option, none-ne-some as Option-none-ne-some, some-injective as Option-some-injective, none, some}
pub use mathlib.Core.Path.{◌∙◌, ◌≡◌, ap, ap₂, fun_ext, refl, subst, sym}
pub use Prim.Native.Nat.{◌%◌, ◌*◌, ◌+◌, ◌-◌, ◌/◌, ◌<◌, ◌^◌, ◌≤◌, max, min, suc, zero, ℕ}
pub use native.Mathlib.Nat.{add_assoc, add_comm, add-mul-div_right, add-mul-mod_self_right, add-suc, add-zero, div-add-mod', div-eq_of_lt, div-one, le_antisymm, le_of_eq, le_of_suc-le-suc, le_refl, le_trans, lt_of_not-le, mod-eq_of_lt, mod-le, mod-lt, mul-add-div_right, mul_assoc, mul_comm, mul-le-mul, mul-le-mul_right, not-suc-le-zero, one-le-pow, pow-le-pow_right, pow-suc, pow-zero, sub_self, suc-add, suc-mul, zero-add, zero-mul}
pub use native.Mathlib.Numerals.{add-one, one-add}
pub use native.Mathlib.Omega.{arith}
pub use native.Mathlib.Decide.{dec_le, dec_lt, ℕ_discrete}
pub use lib.Dec.{T, eqb, leb, ltb}
pub use lib.ListN.{get_or-append as List-get_or-append, get_or-eq_default as List-get_or-eq-default, drop, drop_of_length-le, get_or, get_or-replicate, length, length-append, length-drop, length-map, length-replicate, length-set, length-take, replicate, replicate-append-replicate, set, take}
pub use lib.Seq.{drop_at, drop-cons, drop-drop, drop-length, ext_get_or, get_or-append-add, get_or-drop, get_or-set_other, get_or-set_same, get_or-take, length-sets, length-take-le, set-append_seam, set_at, set-get_or, set_out, sets-eq, take_all, take-append_seam, take_at, take-length, take-nil, take-suc, take-suc-set, take-take}
unfoldable pub use lib.Seq.{sets}
pub use lib.Pow.{pow-add, pow_mono, pow_pos, shl_exact, shr-shr}
unfoldable pub use lib.Count.{ones, count_trailing_zeros}
pub use lib.Bits.{and_le_l, and_le_r, and_step, bit_and, bit_or, bit_xor, differ}
pub use borrow.Author.Rules.{rules}
pub use borrow.Author.Tests.{eq-eqb, eqb-false, eqb-true, le-leb, le-ltb, leb-false, leb-true, lt-leb, lt-ltb, ltb-false, ltb-true, ne_eqb, not-false, not-true}
pub use denote.Ref.{Bor, MutBor}
