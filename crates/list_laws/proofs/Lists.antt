-- Lists: what is an element, lists with no element, maps and repeats, lists that are set at the same places. Assumes nothing.
use Rattle.list_laws.proofs.Kit.{◌∙◌, ◌≡◌, ap, refl, sym, List, Memᴰ, Memᴰ-head, Memᴰ-not_nil, Memᴰ-tail, [], ◌++◌, ◌∷◌, map}
use Rattle.list_laws.proofs.Kit.{◌<◌, ◌≤◌, suc, zero, ℕ, le_of_suc-le-suc, not-suc-le-zero, arith, get_or, length, length-replicate}
use Rattle.list_laws.proofs.Kit.{replicate, set, take, length-take-le, ⊎_elim, Memᴰ-cases_cons, length-set, get_or-set_other, get_or-set_same}
use Rattle.list_laws.proofs.Kit.{ext_get_or, ℕ_discrete}

-- the element at a place is in the list
pub member_at : {A : Type 0} (l : List A) (i : ℕ) (z : A) → i < length l → Memᴰ (get_or l i z) l
member_at [] i z h = absurd (not-suc-le-zero h)
member_at (a ∷ l) zero z h = Memᴰ-head refl
member_at (a ∷ l) (suc i) z h = Memᴰ-tail (member_at l i z (le_of_suc-le-suc h))

-- where a member of a list stands
pub record At {A : Type 0} (l : List A) (z a : A) : Type 0 where
  pub number : ℕ
  pub there : number < length l
  pub is : get_or l number z ≡ a

pub member_place : {A : Type 0} (l : List A) (z a : A) → Memᴰ a l → At l z a
member_place [] z a m = absurd (Memᴰ-not_nil m)
member_place (b ∷ l) z a (Memᴰ-head e) = record { number = 0; there = omega arith; is = sym e }
member_place (b ∷ l) z a (Memᴰ-tail m) =
    let w = member_place l z a m in
    let h = w.there in
    record { number = suc w.number; there = omega arith; is = w.is }

-- a list with an element is not empty
pub member_length : {A : Type 0} {a : A} {l : List A} → Memᴰ a l → 0 < length l
member_length (Memᴰ-head e) = omega arith
member_length (Memᴰ-tail m) = omega arith

-- an element of a mapped list comes from an element of the list
pub record Source {A B : Type 0} (g : A → B) (l : List A) (b : B) : Type 0 where
  pub from : A
  pub listed : Memᴰ from l
  pub image : b ≡ g from

-- where an element of a mapped list comes from
pub map_source : {A B : Type 0} (g : A → B) (l : List A) {b : B} → Memᴰ b (map g l) → Source g l b
map_source g [] m = absurd (Memᴰ-not_nil m)
map_source g (a ∷ l) (Memᴰ-head e) = record { from = a; listed = Memᴰ-head refl; image = e }
map_source {A} {B} g (a ∷ l) {b} (Memᴰ-tail m) =
    let s : Source g l b = map_source g l m in
    record { from = s.from; listed = Memᴰ-tail s.listed; image = s.image }

-- an element of a list gives an element of the mapped list
pub map_member : {A B : Type 0} (g : A → B) {a : A} {l : List A} → Memᴰ a l → Memᴰ (g a) (map g l)
map_member g (Memᴰ-head e) = Memᴰ-head (ap g e)
map_member g (Memᴰ-tail m) = Memᴰ-tail (map_member g m)

-- a part of nothing is nothing
pub nothing_left : {A : Type 0} (xs : List A) → length xs ≡ 0 → xs ≡ []
nothing_left [] e = refl
nothing_left (x ∷ xs) e = absurd (omega arith)

-- a part with no element in front
pub nothing_before : {A : Type 0} (l t : List A) → length l ≡ 0 → l ++ t ≡ t
nothing_before [] t e = refl
nothing_before (x ∷ l) t e = absurd (omega arith)

-- what is made of each element, with one set anew
pub map_set : {A B : Type 0} (f : A → B) (l : List A) (i : ℕ) (a : A) → map f (set l i a) ≡ set (map f l) i (f a)
map_set f [] i a = refl
map_set f (x ∷ l) zero a = refl
map_set {B = B} f (x ∷ l) (suc i) a = ap (λ (z : List B). f x ∷ z) (map_set f l i a)

-- a front is as long as asked
pub front_length : {A : Type 0} (n : ℕ) (l : List A) → n ≤ length l → n ≡ length (take n l)
front_length n l h = sym (length-take-le n l h)

-- the front of a repeat is a repeat
pub take_repeat : {A : Type 0} (m n : ℕ) (a : A) → m ≤ n → take m (replicate n a) ≡ replicate m a
take_repeat zero n a h = refl
take_repeat (suc m) zero a h = absurd (not-suc-le-zero h)
take_repeat {A} (suc m) (suc n) a h = ap (λ (l : List A). a ∷ l) (take_repeat m n a (le_of_suc-le-suc h))

-- so it is as long as asked
pub repeated_front : {A : Type 0} (m n : ℕ) (a : A) → m ≤ n → length (take m (replicate n a)) ≡ m
repeated_front m n a h = ap length (take_repeat m n a h) ∙ length-replicate m a

-- every place of a repeat
pub repeat_at : {A : Type 0} (n i : ℕ) (a : A) → get_or (replicate n a) i a ≡ a
repeat_at zero i a = refl
repeat_at (suc n) zero a = refl
repeat_at (suc n) (suc i) a = repeat_at n i a

-- ── two lists that are set at the same places ──

-- two lists of one length that agree wherever no place of `is` is
pub record Alike {A : Type 0} (z : A) (is : List ℕ) (xs ys : List A) : Type 0 where
  pub size : length xs ≡ length ys
  pub agree : (k : ℕ) → k < length xs → (Memᴰ k is → ⊥) → get_or xs k z ≡ get_or ys k z

-- a place of `is` is set in both
pub alike_set : {A : Type 0} (z : A) (i : ℕ) (is : List ℕ) (xs ys : List A) (a : A) → Alike z (i ∷ is) xs ys → Alike z is (set xs i a) (set ys i a)
alike_set {A} z i is xs ys a h =
    record { size = length-set xs i a ∙ h.size ∙ sym (length-set ys i a); agree = λ k l out. at k (rw length-set at l) out (ℕ_discrete k i) }
  where
    at : (k : ℕ) → k < length xs → (Memᴰ k is → ⊥) → Dec (k ≡ i) → get_or (set xs i a) k z ≡ get_or (set ys i a) k z
    at k l out (yes s) =
        let n = h.size in rw s (get_or-set_same xs i a z (omega arith) ∙ sym (get_or-set_same ys i a z (omega arith)))
    at k l out (no n) =
        get_or-set_other xs i k a z n
        ∙ h.agree k l (λ m. ⊎_elim n out (Memᴰ-cases_cons m))
        ∙ sym (get_or-set_other ys i k a z n)

-- where every place is set they are equal
pub alike_equal : {A : Type 0} (z : A) (xs ys : List A) → Alike z [] xs ys → xs ≡ ys
alike_equal z xs ys h = ext_get_or z xs ys h.size (λ k l. h.agree k l Memᴰ-not_nil)
