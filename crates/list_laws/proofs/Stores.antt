-- Runs of stores, one after the other. Assumes nothing.
use Rattle.list_laws.proofs.Kit.{◌∙◌, ◌≡◌, ap, refl, sym, List, [], ◌++◌, ◌∷◌, append_assoc, append-nil, ◌+◌, ◌<◌, ◌≤◌, suc, ℕ, add-suc, add-zero}
use Rattle.list_laws.proofs.Kit.{suc-add, zero-add, arith, drop, drop_of_length-le, get_or, length, length-drop, length-take, set, take}
use Rattle.list_laws.proofs.Kit.{◌-◌, length-append, take-append-drop, drop-append-le, drop_at, drop-cons, drop-drop, sets, sets-eq}
use Rattle.list_laws.proofs.Kit.{take-append-le, take_at}
use Rattle.model.specs.Buffer.{filled}

-- two runs, the second behind the first
pub sets_append : {A : Type 0} (l : List A) (i : ℕ) (xs ys : List A) → sets l i (xs ++ ys) ≡ sets (sets l i xs) (i + length xs) ys
sets_append l i [] ys = rw add-zero refl
sets_append l i (x ∷ xs) ys = sets_append (set l i x) (suc i) xs ys ∙ ap (λ (k : ℕ). sets (sets (set l i x) (suc i) xs) k ys) (rw (add-suc, suc-add) refl)

-- the first of what is left of a run
pub sets_first : (l : List ℕ) (i : ℕ) (vs : List ℕ) (k : ℕ) → k < length vs
    → sets l i (drop k vs) ≡ sets (set l i (get_or vs k 0)) (suc i) (drop (suc k) vs)
sets_first l i vs k h = rw (drop-cons vs k 0 h)

-- nothing is left of a run
pub sets_none : (l : List ℕ) (i : ℕ) (vs : List ℕ) (k : ℕ) → length vs ≤ k → sets l i (drop k vs) ≡ l
sets_none l i vs k h = rw (drop_of_length-le vs h)

-- a run from the start, with room for it
pub sets_filled : {A : Type 0} (l vs : List A) → length vs ≤ length l → sets l 0 vs ≡ filled vs l
sets_filled l vs h =
    let h' : 0 + length vs ≤ length l = omega arith in
    sets-eq vs l 0 h' ∙ ap (λ (n : ℕ). vs ++ drop n l) (zero-add (length vs))

-- a run over a buffer of its length is all that the buffer holds
pub sets_whole : {A : Type 0} (es before : List A) → length es ≡ length before → sets before 0 es ≡ es
sets_whole es before e =
    sets-eq es before 0 (omega arith) ∙ rw (drop_of_length-le before {i = 0 + length es} (omega arith)) (append-nil es)

-- a part of the front does not depend on what follows it
front_part : {A : Type 0} (xs ys : List A) (a n : ℕ) → a + n ≤ length xs → take n (drop a (xs ++ ys)) ≡ take n (drop a xs)
front_part xs ys a n h =
    let l : a ≤ length xs = omega arith in
    let m : n ≤ length (drop a xs) = omega (arith, length-drop a xs) in
    rw (drop-append-le a xs ys l, take-append-le n (drop a xs) ys m)

module _ {A : Type 0} (store ts : List A) (at : ℕ) (room : at + length ts ≤ length store) where
  -- the front is as long as asked
  front_length : length (take at store) ≡ at
  front_length = simp length-take (omega arith)

  -- the front, what is stored, and the rest
  in_three : sets store at ts ≡ take at store ++ (ts ++ drop (at + length ts) store)
  in_three = sets-eq ts store at room ∙ append_assoc (take at store) ts (drop (at + length ts) store)

  -- what stands before `at` is as before
  pub part_before : (a n : ℕ) → a + n ≤ at → take n (drop a (sets store at ts)) ≡ take n (drop a store)
  part_before a n h =
      let front = take at store in
      let b : a + n ≤ length front = omega (arith, front_length) in
      ap (λ (l : List A). take n (drop a l)) in_three ∙ front_part front (ts ++ drop (at + length ts) store) a n b
      ∙ sym (front_part front (drop at store) a n b) ∙ ap (λ (l : List A). take n (drop a l)) (take-append-drop at store)

  -- what was stored stands from `at` on
  pub part_stored : take (length ts) (drop at (sets store at ts)) ≡ ts
  part_stored =
      ap (λ (l : List A). take (length ts) (drop at l)) in_three
      ∙ ap (take (length ts)) (drop_at (take at store) (ts ++ drop (at + length ts) store) at front_length)
      ∙ take_at ts (drop (at + length ts) store) (length ts) refl

  -- what stands behind it is as before
  pub part_after : (a n : ℕ) → at + length ts ≤ a → take n (drop a (sets store at ts)) ≡ take n (drop a store)
  part_after a n h =
      let end = at + length ts in
      let more = a - end in
      let far : end + more ≡ a = omega arith in
      let front = take at store ++ ts in
      let front_long : length front ≡ end = length-append (take at store) ts ∙ ap (λ (k : ℕ). k + length ts) front_length in
      let behind : drop end (sets store at ts) ≡ drop end store =
      ap (drop end) (sets-eq ts store at room) ∙ drop_at front (drop end store) end front_long in
      ap (take n)
      (ap (λ (k : ℕ). drop k (sets store at ts)) (sym far) ∙ sym (drop-drop more end (sets store at ts)) ∙ ap (drop more) behind
      ∙ drop-drop more end store ∙ ap (λ (k : ℕ). drop k store) far)
