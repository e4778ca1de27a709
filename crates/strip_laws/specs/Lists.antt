-- Lists in order. Assumes nothing.
use mathlib.Core.List.{List, [], ◌∷◌, Memᴰ}

-- each element is related to every later one
pub data Pairwise {A : Type 0} (R : A → A → Type 0) : List A → Type 0 where
  none : Pairwise R []
  more : {a : A} {l : List A} → ((b : A) → Memᴰ b l → R a b) → Pairwise R l → Pairwise R (a ∷ l)
