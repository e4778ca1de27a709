-- What putting a piece's strips into a store asks for and leaves there. Assumes nothing.
use Rattle.std.specs.Prelude.{List, map, ◌≡◌, ℕ, ◌+◌, length}
use Rattle.std.proofs.lemmas.List.Edits.{sets}
use Rattle.model.specs.Strip.{Strip}
use Rattle.model.specs.Buffer.{strip_entry}

-- the strips stand in the store from `at` on, as far as there is room, and the next one would stand at `next`
pub record Appended (ts : List Strip) (before : List (List ℕ)) (at : ℕ) (after : List (List ℕ)) (next : ℕ) : Type 0 where
  pub end : next ≡ at + length ts
  pub stored : after ≡ sets before at (map strip_entry ts)
