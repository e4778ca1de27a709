-- What a stretch that is given holds (document 01, 'Strips'). The theorems are in proofs/Stores. Assumes nothing.
use Rattle.std.specs.Prelude.{true, List, map, ◌≡◌, ℕ, ◌<◌, length}
use Rattle.model.specs.Buffer.{strip_entry}
use Rattle.model.specs.Lent.{Lent, job_of, lent_well}
use Rattle.model.specs.Store.{piece_strips}
use Rattle.model.specs.declared.Direction.{Direction}

-- a stretch that the call gives: the strips of a piece of the lent job in its turn, at least one
pub record StretchClaims (l : Lent) (ts : List ℕ) (i : ℕ) (d : Direction) (part : List (List ℕ)) : Type 0 where
  pub well : lent_well l ≡ true
  pub there : i < (job_of l).size.count
  pub strips_are : part ≡ map strip_entry (piece_strips d (job_of l) ts i)
  pub some : 0 < length part
