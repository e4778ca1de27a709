-- Room for a store of a job's strips. Assumes nothing.
use Rattle.std.specs.Prelude.{Bool, not, ◌&&◌, List, ℕ, ltb, length}
use Rattle.model.specs.Layout.{Job}
use Rattle.model.specs.Store.{store, starts}
use Rattle.model.specs.declared.Direction.{Direction}
use Rattle.strip_store.specs.declared.fill.Room.{Room}

-- the room of a lent store with its starts
abbrev pub room_of : List (List ℕ) → List ℕ → Room
room_of lentStrips lentStarts = record { strips = length lentStrips; starts = length lentStarts }

-- there is room for the job's store and starts
abbrev pub store_fits : Direction → Job → List ℕ → Room → Bool
store_fits d j ts r = not (ltb r.strips (length (store d j ts))) && not (ltb r.starts (length (starts d j ts)))
