-- Lists whose elements stand in an order, an earlier one before each later one: mapped, joined, by places, and fixed by their
-- elements. Assumes nothing.
use Rattle.list_laws.proofs.Kit.{◌∙◌, ◌≡◌, ap₂, refl, subst, sym, ◌⊎◌, inl, inr, ⊎_elim, List, Memᴰ, Memᴰ-append_cases, Memᴰ-cases_cons}
use Rattle.list_laws.proofs.Kit.{Memᴰ-head, Memᴰ-not_nil, Memᴰ-tail, ◌++◌, ◌∷◌, map, ◌<◌, suc, zero, ℕ, le_of_suc-le-suc, not-suc-le-zero}
use Rattle.list_laws.proofs.Kit.{get_or, length}
use Rattle.list_laws.proofs.Lists.{member_at, Source, map_source}
use Rattle.strip_laws.specs.Lists.{Pairwise, none, more}

-- an order is kept by a map that keeps it from element to element
pub pairwise_map : {A B : Type 0} {R : A → A → Type 0} (S : B → B → Type 0) (g : A → B) → ((a b : A) → R a b → S (g a) (g b))
    → {l : List A} → Pairwise R l → Pairwise S (map g l)
pairwise_map S g h none = none
pairwise_map S g h (more {a = a} {l = l} first rest) =
    more
    (λ b m.
    let s : Source g l b = map_source g l m in
    subst (S (g a)) (sym s.image) (h a s.from (first s.from s.listed)))
    (pairwise_map S g h rest)

-- two ordered lists make one where each element of the first stands before each of the second
pub pairwise_append : {A : Type 0} {R : A → A → Type 0} {l m : List A} → Pairwise R l → Pairwise R m
    → ((a b : A) → Memᴰ a l → Memᴰ b m → R a b) → Pairwise R (l ++ m)
pairwise_append none q h = q
pairwise_append (more {a = a} {l = l} first rest) q h =
    more (λ b m. ⊎_elim (first b) (h a b (Memᴰ-head refl)) (Memᴰ-append_cases l m))
    (pairwise_append rest q (λ c b m n. h c b (Memᴰ-tail m) n))

-- the order by places: what stands at i is before what stands at a later place j, the next one among others
pub pairwise_at : {A : Type 0} {R : A → A → Type 0} {l : List A} → Pairwise R l → (i j : ℕ) (z : A) → i < j → j < length l
    → R (get_or l i z) (get_or l j z)
pairwise_at none i j z h k = absurd (not-suc-le-zero k)
pairwise_at (more first rest) i zero z h k = absurd (not-suc-le-zero h)
pairwise_at (more {l = l} first rest) zero (suc j) z h k = first (get_or l j z) (member_at l j z (le_of_suc-le-suc k))
pairwise_at (more first rest) (suc i) (suc j) z h k = pairwise_at rest i j z (le_of_suc-le-suc h) (le_of_suc-le-suc k)

-- two elements of an ordered list are one, or one stands before the other
pub pairwise_compare : {A : Type 0} {R : A → A → Type 0} {l : List A} → Pairwise R l → (a b : A) → Memᴰ a l → Memᴰ b l
    → (a ≡ b) ⊎ (R a b ⊎ R b a)
pairwise_compare none a b m n = absurd (Memᴰ-not_nil m)
pairwise_compare (more first rest) a b (Memᴰ-head e) (Memᴰ-head f) = inl (e ∙ sym f)
pairwise_compare {R = R} (more first rest) a b (Memᴰ-head e) (Memᴰ-tail n) = inr (inl (subst (λ x. R x b) (sym e) (first b n)))
pairwise_compare {R = R} (more first rest) a b (Memᴰ-tail m) (Memᴰ-head f) = inr (inr (subst (λ x. R x a) (sym f) (first a m)))
pairwise_compare (more first rest) a b (Memᴰ-tail m) (Memᴰ-tail n) = pairwise_compare rest a b m n

-- the first elements of two ordered lists with the same elements are one
same_head : {A : Type 0} (R : A → A → Type 0) → ((a b : A) → R a b → R b a → ⊥) → (a b : A) → (a ≡ b) ⊎ R b a → (b ≡ a) ⊎ R a b → a ≡ b
same_head R asym a b (inl e) c = e
same_head R asym a b (inr h) (inl e) = sym e
same_head R asym a b (inr h) (inr k) = absurd (asym a b k h)

-- an element after the first is no first element
in_rest : {A : Type 0} (R : A → A → Type 0) → ((a b : A) → R a b → R b a → ⊥) → (a b x : A) (m : List A) → a ≡ b → R a x
    → (x ≡ b) ⊎ Memᴰ x m → Memᴰ x m
in_rest R asym a b x m e r (inl f) = let s : R a a = subst (R a) (f ∙ sym e) r in absurd (asym a a s s)
in_rest R asym a b x m e r (inr n) = n

-- two ordered lists with the same elements are one
pub pairwise_unique : {A : Type 0} {R : A → A → Type 0} → ((a b : A) → R a b → R b a → ⊥) → {l m : List A} → Pairwise R l → Pairwise R m
    → ((a : A) → Memᴰ a l → Memᴰ a m) → ((a : A) → Memᴰ a m → Memᴰ a l) → l ≡ m
pairwise_unique asym none none f g = refl
pairwise_unique asym none (more {a = b} q qs) f g = absurd (Memᴰ-not_nil (g b (Memᴰ-head refl)))
pairwise_unique asym (more {a = a} p ps) none f g = absurd (Memᴰ-not_nil (f a (Memᴰ-head refl)))
pairwise_unique {A} {R} asym (more {a = a} {l = l} p ps) (more {a = b} {l = m} q qs) f g =
    let e : a ≡ b =
    same_head R asym a b (⊎_elim inl (λ n. inr (q a n)) (Memᴰ-cases_cons (f a (Memᴰ-head refl))))
    (⊎_elim inl (λ n. inr (p b n)) (Memᴰ-cases_cons (g b (Memᴰ-head refl)))) in
    ap₂ ◌∷◌ e
    (pairwise_unique asym ps qs
    (λ x n. in_rest R asym a b x m e (p x n) (Memᴰ-cases_cons (f x (Memᴰ-tail n))))
    (λ x n. in_rest R asym b a x l (sym e) (q x n) (Memᴰ-cases_cons (g x (Memᴰ-tail n)))))
