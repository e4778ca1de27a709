-- What is said of a layout whose pieces are pushed left and down (document 02, point 7). The theorem is `compact_claims` in proofs/Compact.
-- Assumes nothing.
use Rattle.std.specs.Prelude.{false, ◌≢◌, ◌≡◌, ℕ, suc, ◌+◌, ◌<◌, ◌≤◌}
use Rattle.model.specs.Piece.{along, corner}
use Rattle.model.specs.Layout.{Job, Layout, is_locked, place_of, shape_in, corner_in, rightmost}
use Rattle.model.specs.Compact.{Compacted, at_rest, slid_to, corner_sum, compact}
use Rattle.model.specs.declared.Direction.{Direction}
use Rattle.overlap_laws.specs.Overlap.{NearPixels}
use Rattle.descent_laws.specs.Claims.{ValidLayout, NoConflict, LockedStay}

-- piece i with its corner moved along the direction to the coordinate a would conflict with another piece
pub record Blocked (d : Direction) (j : Job) (v : Layout) (i a : ℕ) : Type 0 where
  pub by : ℕ
  pub there : by < j.size.count
  pub is_other : by ≢ i
  pub conflicts : NearPixels j.size.gap (shape_in j v i) (corner (slid_to d (place_of v i) a)) (shape_in j v by) (corner_in v by)

-- what is said of the layout and the pixels c to which the pieces of v are pushed, where v passes the check
pub record CompactClaims (j : Job) (v : Layout) (c : Compacted) : Type 0 where
  -- the answer passes the check: each piece lies inside in a turn allowed to it, and no two conflict
  pub valid : ValidLayout j c.layout
  pub apart : NoConflict j c.layout
  -- every piece keeps its turn, and each locked piece lies where it was given
  pub turns_stay : (i : ℕ) → i < j.size.count → (place_of c.layout i).turn ≡ (place_of v i).turn
  pub locked_stay : LockedStay j v c.layout
  -- no corner has a larger x or y
  pub none_right : (i : ℕ) → i < j.size.count → (corner_in c.layout i).x ≤ (corner_in v i).x
  pub none_up : (i : ℕ) → i < j.size.count → (corner_in c.layout i).y ≤ (corner_in v i).y
  -- no free piece can slide one pixel further left (horizontal) or down (vertical): its corner is at 0 there, or it would conflict
  pub no_further : (d : Direction) (i a : ℕ) → i < j.size.count → is_locked j i ≡ false → along d (corner_in c.layout i) ≡ suc a
      → Blocked d j c.layout i a
  -- the pixels slid are the fall in the sum of all corner coordinates
  pub slid_is_fall : c.slid + corner_sum c.layout ≡ corner_sum v
  -- the largest right end never grows
  pub end_stays : rightmost j c.layout j.size.count ≤ rightmost j v j.size.count
  -- pushing again slides nothing
  pub again : compact j c.layout ≡ at_rest c.layout
