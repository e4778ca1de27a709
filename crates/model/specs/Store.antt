-- Document 01, 'Strips', second part: the stores of all pieces' strips in their present turns, the starts, and the stretch of one
-- piece. Assumes nothing.
use Rattle.std.specs.Prelude.{Bool, ◌&&◌, List, [], ◌∷◌, ◌++◌, map, ℕ, zero, suc, ◌+◌, ◌-◌, length, get_or, take, drop}
use Rattle.model.specs.Buffer.{turn_of, strip_entry, same_numbers, same_entries}
use Rattle.model.specs.Layout.{Job, turned_piece}
use Rattle.model.specs.Strip.{Strip, strips}
use Rattle.model.specs.declared.Turn.{Turn}
use Rattle.model.specs.declared.Direction.{Direction}

-- the turn of piece i in a list of degrees
abbrev pub turn_in : List ℕ → ℕ → Turn
turn_in ts i = turn_of (get_or ts i 0)

-- the strips of piece i in its turn: its stretch
unfoldable pub piece_strips : Direction → Job → List ℕ → ℕ → List Strip
piece_strips d j ts i = strips d (turned_piece j i (turn_in ts i))

-- the strips of the next `left` pieces from i on, piece after piece
unfoldable pub store_from : Direction → Job → List ℕ → ℕ → ℕ → List Strip
store_from d j ts i zero = []
store_from d j ts i (suc left) = piece_strips d j ts i ++ store_from d j ts (suc i) left

-- where the strips of the next `left` pieces from i on begin, and where the last ends, when those of i begin at `at`
unfoldable pub starts_from : Direction → Job → List ℕ → ℕ → ℕ → ℕ → List ℕ
starts_from d j ts at i zero = at ∷ []
starts_from d j ts at i (suc left) = at ∷ starts_from d j ts (at + length (piece_strips d j ts i)) (suc i) left

-- the row store (horizontal) or the column store (vertical)
abbrev pub store : Direction → Job → List ℕ → List Strip
store d j ts = store_from d j ts 0 j.size.count

-- its n + 1 starts, the last being the total
abbrev pub starts : Direction → Job → List ℕ → List ℕ
starts d j ts = starts_from d j ts 0 0 j.size.count

-- a lent store and lent starts begin with the job's in these turns
unfoldable pub store_well : Direction → Job → List ℕ → List (List ℕ) → List ℕ → Bool
store_well d j ts entries lentStarts =
    same_entries (take (length (store d j ts)) entries) (map strip_entry (store d j ts))
    && same_numbers (take (suc j.size.count) lentStarts) (starts d j ts)

-- the part of a lent store that is piece i's stretch, by the lent starts
unfoldable pub stretch_in : List (List ℕ) → List ℕ → ℕ → List (List ℕ)
stretch_in entries lentStarts i = take (get_or lentStarts (suc i) 0 - get_or lentStarts i 0) (drop (get_or lentStarts i 0) entries)
