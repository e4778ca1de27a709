-- How a push leaves a layout, whatever the push: one slide of a piece, slides of one piece or of many until none moves, or whole passes.
-- Assumes nothing.
use Rattle.std.specs.Prelude.{◌≡◌, ℕ, ◌+◌, ◌≤◌, length}
use Rattle.model.specs.Layout.{Job, Layout, place_of, corner_in}
use Rattle.model.specs.Compact.{Compacted, corner_sum}
use Rattle.descent_laws.specs.Claims.{ValidLayout, NoConflict, LockedStay}

-- what is said of the layout and the pixels c to which a push takes the pieces of v
pub record Pushed (j : Job) (v : Layout) (c : Compacted) : Type 0 where
  pub one_per_piece : length c.layout ≡ length v
  -- every piece keeps its turn, no corner has a larger x or y, and each locked piece lies where it lay
  pub turns : (k : ℕ) → (place_of c.layout k).turn ≡ (place_of v k).turn
  pub left : (k : ℕ) → (corner_in c.layout k).x ≤ (corner_in v k).x
  pub down : (k : ℕ) → (corner_in c.layout k).y ≤ (corner_in v k).y
  pub locked_stay : LockedStay j v c.layout
  -- pieces inside in turns allowed to them stay so, and where no two conflict, no two conflict afterwards
  pub valid : ValidLayout j v → ValidLayout j c.layout
  pub apart : NoConflict j v → NoConflict j c.layout
  -- the pixels slid are the fall in the sum of all corner coordinates, and where none are slid the layout is the same
  pub slid_is_fall : c.slid + corner_sum c.layout ≡ corner_sum v
  pub still : c.slid ≡ 0 → c.layout ≡ v
