-- A list filled entry by entry with what a function makes of another list's entries. Assumes nothing.
use Rattle.list_laws.proofs.Kit.{◌∙◌, ◌≡◌, ap, refl, sym, List, [], ◌∷◌, map, map-append, ◌+◌, ◌<◌, ◌≤◌, ℕ, add-one, arith, get_or, length, length-set, set}
use Rattle.list_laws.proofs.Kit.{take, take_all, take-suc, take-suc-set}

-- the entries below i are made of those of the other list, and both lists have as many
pub record Mapped {A B : Type 0} (f : A → B) (from : List A) (now : List B) (i : ℕ) : Type 0 where
  pub same : length now ≡ length from
  pub front : take i now ≡ map f (take i from)

module _ {A B : Type 0} (f : A → B) (from : List A) (now : List B) where
  -- before the first
  pub mapped_begin : length now ≡ length from → Mapped f from now 0
  mapped_begin e = record { same = e; front = refl }

  -- one more
  pub mapped_step : (i : ℕ) (d : A) → i < length from → Mapped f from now i → Mapped f from (set now i (f (get_or from i d))) (i + 1)
  mapped_step i d l h =
      let same = h.same in
      record {
        same = length-set now i _ ∙ same;
        front =
            rw (add-one i, take-suc from i d l, take-suc-set now i (f (get_or from i d)) (omega arith), h.front)
            (sym (map-append f (take i from) (get_or from i d ∷ [])));
      }

  -- after the last
  pub mapped_end : (i : ℕ) → length from ≤ i → Mapped f from now i → now ≡ map f from
  mapped_end i l h =
      let same = h.same in
      sym (take_all i now (omega arith)) ∙ h.front ∙ ap (map f) (take_all i from l)
