-- Strips compared with a store one by one: what is left of them is still to be compared. Assumes nothing.
use Rattle.list_laws.proofs.Kit.{◌∙◌, ◌≡◌, ap, ap₂, refl, sym, ◌&&◌, false, true, ⊎_elim, List, [], ◌∷◌, ◌+◌, ◌<◌, ◌≤◌, suc, ℕ, arith, eqb, ltb}
use Rattle.std.specs.Prelude.{Some, None}
use Rattle.list_laws.proofs.Kit.{get_or-eq_default, drop_of_length-le, get_or, length, drop-cons, ltb-false, ltb-true}
use Rattle.model.specs.Strip.{Strip}
use Rattle.model.specs.Buffer.{strip_entry, same_numbers, same_entries}
use Rattle.list_laws.proofs.Tests.{decided}
use Rattle.strip_scan.specs.Compare.{stand_in, compared_by, compared}

-- a list of three numbers compared with three numbers
pub same_three : (e : List ℕ) (a b c : ℕ) → length e ≡ 3
    → same_numbers e (a ∷ b ∷ c ∷ []) ≡ (eqb (get_or e 0 0) a && (eqb (get_or e 1 0) b && (eqb (get_or e 2 0) c && true)))
unfolding same_numbers
same_three [] a b c h = absurd (omega arith)
same_three (x ∷ []) a b c h = absurd (omega arith)
same_three (x ∷ y ∷ []) a b c h = absurd (omega arith)
same_three (x ∷ y ∷ z ∷ []) a b c h = refl
same_three (x ∷ y ∷ z ∷ u ∷ e) a b c h = absurd (omega arith)

-- past a store's end no strip stands
pub none_there : (t : Strip) (store : List (List ℕ)) (at : ℕ) → length store ≤ at → same_numbers (get_or store at []) (strip_entry t) ≡ false
unfolding same_numbers
none_there t store at h = rw (get_or-eq_default store [] h)

-- the strips stand in the store where the first does and the rest behind it do
stand_in_lem : (t : Strip) (ts : List Strip) (store : List (List ℕ)) (at : ℕ) → at < length store
    → stand_in (t ∷ ts) store at ≡ (same_numbers (get_or store at []) (strip_entry t) && stand_in ts store (at + 1))
unfolding same_entries
stand_in_lem t ts store at h = let q : at + 1 ≡ suc at = omega arith in rw (drop-cons store at [] h, q)

stand_out : (t : Strip) (ts : List Strip) (store : List (List ℕ)) (at : ℕ) → length store ≤ at
    → stand_in (t ∷ ts) store at ≡ (same_numbers (get_or store at []) (strip_entry t) && stand_in ts store (at + 1))
unfolding same_entries
stand_out t ts store at h = rw (none_there t store at h, drop_of_length-le store h)

pub stand_step : (t : Strip) (ts : List Strip) (store : List (List ℕ)) (at : ℕ)
    → stand_in (t ∷ ts) store at ≡ (same_numbers (get_or store at []) (strip_entry t) && stand_in ts store (at + 1))
stand_step t ts store at =
    ⊎_elim (λ h. stand_in_lem t ts store at (ltb-true at (length store) h)) (λ h. stand_out t ts store at (ltb-false at (length store) h))
    (decided (ltb at (length store)))

-- comparing the strips that are left from `at` on comes to what comparing all of them from `begin` on does
pub record Comparing (all : List Strip) (store : List (List ℕ)) (begin at : ℕ) (left : List Strip) : Type 0 where
  pub counted : at + length left ≡ begin + length all
  pub stands : stand_in left store at ≡ stand_in all store begin

-- at first all are left
pub compare_start : {all left : List Strip} (store : List (List ℕ)) (begin : ℕ) → left ≡ all → Comparing all store begin begin left
compare_start store begin e = record { counted = ap (λ ts. begin + length ts) e; stands = ap (λ ts. stand_in ts store begin) e }

-- the first of them stands in the store
pub compare_step : {all left rest : List Strip} {store : List (List ℕ)} {begin at : ℕ} {t : Strip} → left ≡ t ∷ rest
    → same_numbers (get_or store at []) (strip_entry t) ≡ true → Comparing all store begin at left → Comparing all store begin (at + 1) rest
compare_step {all} {left} {rest} {store} {begin} {at} {t} e s g =
    let c : at + length (t ∷ rest) ≡ begin + length all = rw e at g.counted in
    record {
      counted = omega arith;
      stands = sym (stand_step t rest store at ∙ ap (λ b. b && stand_in rest store (at + 1)) s) ∙ ap (λ ts. stand_in ts store at) (sym e) ∙ g.stands;
    }

-- the first of them does not
pub compare_unlike : {all left rest : List Strip} {store : List (List ℕ)} {begin at : ℕ} {t : Strip} → left ≡ t ∷ rest
    → same_numbers (get_or store at []) (strip_entry t) ≡ false → Comparing all store begin at left → None ≡ compared all store begin
unfolding compared
compare_unlike {all} {left} {rest} {store} {begin} {at} {t} e s g =
    let f : stand_in all store begin ≡ false =
    sym g.stands ∙ ap (λ ts. stand_in ts store at) e ∙ stand_step t rest store at ∙ ap (λ b. b && stand_in rest store (at + 1)) s in
    ap (λ b. compared_by b (begin + length all)) (sym f)

-- none is left
pub compare_end : {all left : List Strip} {store : List (List ℕ)} {begin at : ℕ} → left ≡ []
    → Comparing all store begin at left → Some at ≡ compared all store begin
unfolding compared same_entries
compare_end {all} {left} {store} {begin} {at} e g =
    let c : at + 0 ≡ begin + length all = rw e at g.counted in
    let n : at ≡ begin + length all = omega arith in
    let f : stand_in all store begin ≡ true = sym g.stands ∙ ap (λ ts. stand_in ts store at) e in
    ap₂ compared_by (sym f) n
