-- When a call is given (document 01, 'When a call says no'): no cause of a refusal is there. Assumes nothing.
use Rattle.std.specs.Prelude.{false, List, [], ◌∷◌, ◌≡◌}
use Rattle.model.specs.Refusal.{Cause}

-- none of the causes is there
abbrev pub NoCause : List Cause → Type 0
NoCause [] = Unit {0}
NoCause (c ∷ cs) = (c.there ≡ false) × NoCause cs

-- what is given where causes were looked at
pub record Unless {A : Type 0} (cs : List Cause) (a b : A) : Type 0 where
  pub none : NoCause cs
  pub same : a ≡ b
