-- The answers of this crate's calls, by the model's outcomes: a refusal keeps its number and places. Assumes nothing.
use Rattle.std.specs.Prelude.{◌≤◌, Option, Some, None, Result, Ok, Err}
use Rattle.model.specs.Piece.{coordinate_on}
use Rattle.model.specs.Search.{Best}
use Rattle.model.specs.Refusal.{Outcome, refused, given, plain_refusal, empty_line}
use Rattle.model.specs.declared.Line.{Line}
use Rattle.model.specs.declared.Refusal.{Refusal}
use Rattle.search_calls.specs.declared.BestPlace.{BestPlace}
use Rattle.search_line_sums.specs.declared.Least.{Least}

-- the place that is found is small enough for the number of a column or a row
abbrev pub InReach : Option Least → Type 0
InReach (Some least) = least.at ≤ 65535
InReach None = Unit {0}

-- where nothing is found, no inside corner lies on the line
abbrev pub best_answer : Line → Option Least → Result BestPlace Refusal
best_answer line (Some least) = Ok (record { sum = least.sum; at = coordinate_on line least.at })
best_answer line None = Err (plain_refusal empty_line)

-- a line search: the sum, and the coordinate by the line's axis
abbrev pub search_answer : Line → Outcome Best → Result BestPlace Refusal
search_answer line (refused r) = Err r
search_answer line (given b) = Ok (record { sum = b.sum; at = coordinate_on line b.at })
