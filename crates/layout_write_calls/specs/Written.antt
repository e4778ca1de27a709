-- What a call that writes bytes at a position leaves. Assumes nothing.
use Rattle.std.specs.Prelude.{List, ◌≡◌, ℕ, ◌+◌, ◌≤◌, length}
use Rattle.std.proofs.lemmas.List.Edits.{sets}

-- the bytes stand from the position on, as far as the text goes; there are at most so many, and the position after them is given
pub record Written (before : List ℕ) (at : ℕ) (bytes : List ℕ) (most next : ℕ) (after : List ℕ) : Type 0 where
  pub end : next ≡ at + length bytes
  pub short : length bytes ≤ most
  pub memory : after ≡ sets before at bytes
