-- The kit's words that proofs use, passed on from one place: equations, Booleans, numbers, lists, and the tactics' sets. Assumes nothing.
pub use mathlib.Core.Path.{◌∙◌, ◌≡◌, ap, ap₂, fun_ext, refl, subst, subst₂, subst₃, sym}
pub use mathlib.Core.Bool.{Bool, beq as bool_beq, ◌&&◌, ◌||◌, and_assoc, and-true, cond, false, false≢true, not, true, true≢false}
pub use mathlib.Core.Logic.Iff.{symm as iff_symm}
pub use mathlib.Core.Logic.Iff.{trans as iff_trans}
pub use mathlib.Core.Logic.{◌↔◌, ◌≢◌, ◌⊎◌, inl, inr, ⊎_elim}
pub use mathlib.Core.Option.{Option, none, some}
pub use mathlib.Core.List.Memᴰ.{append_cases as Memᴰ-append_cases}
pub use mathlib.Core.List.Memᴰ.{cases_cons as Memᴰ-cases_cons}
pub use mathlib.Core.List.Memᴰ.{eq_of_singleton as Memᴰ-eq_of_singleton}
pub use mathlib.Core.List.Memᴰ.{head as Memᴰ-head}
pub use mathlib.Core.List.{List, Memᴰ}
pub use mathlib.Core.List.Memᴰ.{append_left as Memᴰ-append_left}
pub use mathlib.Core.List.Memᴰ.{append_right as Memᴰ-append_right}
pub use mathlib.Core.List.Memᴰ.{cast as Memᴰ-cast}
pub use mathlib.Core.List.Memᴰ.{not-nil as Memᴰ-not_nil}
pub use mathlib.Core.List.Memᴰ.{tail as Memᴰ-tail}
pub use mathlib.Core.List.{[], ◌++◌, ◌∷◌, append_assoc, append-nil}
pub use mathlib.Core.List.{map, map-append}
pub use Prim.Native.Nat.{◌%◌, ◌*◌, ◌+◌, ◌-◌, ◌/◌, ◌<◌, ◌^◌, ◌≤◌, max, min, suc, zero, ℕ}
pub use native.Mathlib.Numerals.{add-one}
pub use native.Mathlib.Nat.{add_assoc, add-mul, add-suc, add-zero, div-add-mod', div-eq_of_lt, div-lt_iff_lt-mul, div-one, eq-or-lt_of_le}
pub use native.Mathlib.Nat.{eq-zero-or-pos, le_antisymm, le_of_eq, le_of_suc-le-suc, le_refl, le_trans, min-le_left, min-le_right, mod-eq_of_lt}
pub use native.Mathlib.Nat.{mod-lt, mul-add, mul-add-div_right, mul-add-mod_self_right, mul_comm, mul-le-mul, mul-le-mul_left, mul-le-mul_right}
pub use native.Mathlib.Nat.{mul-one, mul-sub, mul-suc, mul-zero, not-suc-le-zero, one-mul, pos_of_ne-zero, pow-suc, sub-zero, suc-add, suc-mul}
pub use native.Mathlib.Nat.{zero-add, zero-mul}
pub use native.Mathlib.Omega.{arith, by_contra}
pub use lib.Dec.{T, eqb, leb, leb→le, le→leb, lit≤, ltb, ltb→lt, lt→ltb}
pub use lib.ListN.{get_or-append, get_or-eq_default, get_or-map, drop, drop_of_length-le, get_or, get_or-replicate, length, length-append}
pub use lib.ListN.{length-drop, length-map, length-replicate, length-set, length-take, replicate, set, take, take-append-drop}
pub use lib.Seq.{append_snoc, drop-append-le, drop-append_seam, drop_at, drop-cons, drop-drop, drop-length, drop-set-lt, ext_get_or, get_or-append-add}
pub use lib.Seq.{get_or-drop, get_or-set_other, get_or-set_same, get_or-take, length-sets, length-take-le, set-get_or, set_out, set-set, sets, sets-eq, take_all}
pub use lib.Seq.{take-append-le, take-append_seam, take_at, take-length, take-set-lt, take-suc, take-suc-set, take-take}
pub use lib.IntN.{◌+ℤ◌, ◌-ℤ◌, nat_abs, negsuc, pos, pred_ℤ, sub_ℕ, ℤ}
pub use borrow.Author.Count.{below_more, below_none}
pub use borrow.Author.Fill.{fill_more, fill_none}
pub use borrow.Author.Rules.{rules}
pub use borrow.Author.Tests.{eq-eqb, eqb-false, eqb-true, le-leb, le-ltb, leb-false, leb-true, lt-leb, lt-ltb, ltb-false, ltb-true, ne_eqb, not-false}
pub use borrow.Author.Tests.{not-true}
pub use lib.Signed.{◌<ℤ◌, ◌≤ℤ◌, le_z, le_z_yes, lt_z, lt_z_yes, mag, non_neg}
pub use native.Mathlib.Decide.{dec_lt, ℕ_discrete}
