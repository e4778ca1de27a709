-- Loops that go over a list once, up or down, and set each place: what is done and what is left as it was. Assumes nothing.
use Rattle.list_laws.proofs.Kit.{◌∙◌, ◌≡◌, refl, subst, sym, ⊎_elim, List, ◌+◌, ◌<◌, ◌≤◌, ℕ, eq-or-lt_of_le, arith, get_or, length, length-set, set}
use Rattle.list_laws.proofs.Kit.{get_or-set_other, get_or-set_same}
use Rattle.list_laws.proofs.Numbers.{below_or}

-- the places below k are done, each as P says, and the others are as they were
pub record Passing (P : ℕ → ℕ → Type 0) (xs ys : List ℕ) (k : ℕ) : Type 0 where
  pub same : length ys ≡ length xs
  pub done : (j : ℕ) → j < k → P j (get_or ys j 0)
  pub rest : (j : ℕ) → k ≤ j → get_or ys j 0 ≡ get_or xs j 0

-- the places from k on are done, and the others are as they were
pub record Backing (P : ℕ → ℕ → Type 0) (xs ys : List ℕ) (k : ℕ) : Type 0 where
  pub same : length ys ≡ length xs
  pub done : (j : ℕ) → k ≤ j → j < length xs → P j (get_or ys j 0)
  pub rest : (j : ℕ) → j < k → get_or ys j 0 ≡ get_or xs j 0

-- nothing is done at first
pub pass_none : (P : ℕ → ℕ → Type 0) (xs : List ℕ) → Passing P xs xs 0
pass_none P xs = record { same = refl; done = λ j l. absurd (omega arith); rest = λ j l. refl }

-- nor on the way back
pub back_none : (P : ℕ → ℕ → Type 0) (xs : List ℕ) → Backing P xs xs (length xs)
back_none P xs = record { same = refl; done = λ j l m. absurd (omega arith); rest = λ j l. refl }

module _ (P : ℕ → ℕ → Type 0) (xs ys : List ℕ) (k : ℕ) where
  -- places that are already as P says are passed
  pub pass_over : (m : ℕ) → k ≤ m → ((j : ℕ) → k ≤ j → j < m → P j (get_or xs j 0)) → Passing P xs ys k → Passing P xs ys m
  pass_over m l h w =
      record {
        same = w.same;
        done =
            λ j b.
            ⊎_elim (λ (c : j < k). w.done j c) (λ (c : k ≤ j). subst (P j) (sym (w.rest j c)) (h j c b)) (below_or j k);
        rest = λ j b. w.rest j (omega arith);
      }

  -- place k is set
  pub pass_set : (v : ℕ) → k < length ys → P k v → Passing P xs ys k → Passing P xs (set ys k v) (k + 1)
  pass_set v l h w =
      record {
        same = length-set ys k v ∙ w.same;
        done =
            λ j b.
            ⊎_elim
            (λ (e : j ≡ k). subst (λ (z : ℕ). P z (get_or (set ys k v) z 0)) (sym e) (subst (P k) (sym (get_or-set_same ys k v 0 l)) h))
            (λ (c : j < k). subst (P j) (sym (get_or-set_other ys k j v 0 (λ e. omega arith))) (w.done j c))
            (eq-or-lt_of_le (let q : j ≤ k = omega arith in q));
        rest = λ j b. get_or-set_other ys k j v 0 (λ e. omega arith) ∙ w.rest j (omega arith);
      }

  -- place k is set on the way back
  pub back_set : (v : ℕ) → k < length ys → P k v → (m : ℕ) → m ≡ k + 1 → Backing P xs ys m → Backing P xs (set ys k v) k
  back_set v l h m z w =
      record {
        same = length-set ys k v ∙ w.same;
        done =
            λ j b n.
            ⊎_elim
            (λ (e : k ≡ j). subst (λ (z : ℕ). P z (get_or (set ys k v) z 0)) e (subst (P k) (sym (get_or-set_same ys k v 0 l)) h))
            (λ (c : k < j). subst (P j) (sym (get_or-set_other ys k j v 0 (λ e. omega arith))) (w.done j (omega arith) n))
            (eq-or-lt_of_le b);
        rest = λ j b. get_or-set_other ys k j v 0 (λ e. omega arith) ∙ w.rest j (omega arith);
      }
