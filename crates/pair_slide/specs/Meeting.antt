-- How far the second of two lent stretches of strips slides until they hold pixels at most the gap apart (document 02, point 7). Assumes nothing.
use Rattle.std.specs.Prelude.{List, ℕ}
use Rattle.model.specs.Bounded.{first_from}
use Rattle.pair_overlap.specs.Meet.{stretches_meet, shifted}
use Rattle.pair_overlap.specs.declared.Corner.{Corner}

-- the least shift of the second below the bound at which some two strips hold pixels at most g apart, or the bound
unfoldable pub meets_below : ℕ → List (List ℕ) → Corner → List (List ℕ) → Corner → ℕ → ℕ
meets_below g es u fs v bound = first_from (λ k. stretches_meet g es u fs (shifted k v)) 0 bound
