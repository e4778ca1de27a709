-- The answer of a scan of sums. Assumes nothing.
use Rattle.std.proofs.Math.Option as maybe
use Rattle.std.specs.Prelude.{Option, Some, None, List, ℕ, ◌<◌, ◌≤◌, length, get_or}
use Rattle.model.specs.Search.{Best}
use Rattle.search_line_sums.specs.declared.Least.{Least}

-- the sum and the coordinate that has it, or nothing
abbrev pub found_answer : maybe.Option Best → Option Least
found_answer maybe.none = None
found_answer (maybe.some b) = Some (record { sum = b.sum; at = b.at })

-- no sum before the place is below the bound
pub record NoneBelow (sums : List ℕ) (bound at : ℕ) : Type 0 where
  pub inside : at ≤ length sums
  pub each : (k : ℕ) → k < at → bound ≤ get_or sums k 0
