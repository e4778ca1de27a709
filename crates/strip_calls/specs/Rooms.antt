-- Room for the stores of a job's strips. Assumes nothing.
use Rattle.std.specs.Prelude.{Bool, ◌&&◌, List, ℕ}
use Rattle.model.specs.Layout.{Job}
use Rattle.model.specs.Calls.{Stores}
use Rattle.model.specs.declared.Direction.TheVariants.{Horizontal, Vertical}
use Rattle.strip_store.specs.Rooms.{room_of, store_fits}
use Rattle.strip_store.specs.declared.fill.Room.{Room}

-- there is room for both
abbrev pub room_for_both : Job → List ℕ → Room → Room → Bool
room_for_both j ts rows columns = store_fits Horizontal j ts rows && store_fits Vertical j ts columns

-- the lent stores have room for the job's
abbrev pub has_room : Job → List ℕ → Stores → Bool
has_room j ts lent = room_for_both j ts (room_of lent.row_strips lent.row_starts) (room_of lent.column_strips lent.column_starts)
