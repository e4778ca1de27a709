-- What penalties along a line are read from: a job that passes its check, the strips of every piece in every turn along rows, and a store of
-- kept lines; and who moves beside whom. Assumes nothing.
use Rattle.std.specs.Prelude.{true, List, ◌≡◌, ℕ, ◌<◌, ◌≤◌}
use Rattle.model.specs.Lent.{Lent, job_of, lent_well}
use Rattle.model.specs.Layout.{Job, Layout}
use Rattle.model.specs.declared.Direction.{Direction}
use Rattle.model.specs.declared.Direction.TheVariants.{Horizontal}
use Rattle.search_shapes.specs.Shapes.{Shapes}
use Rattle.search_lines.specs.Kept.{LinesKept, LinesFit}
use Rattle.search_lines.specs.declared.RunSize.{RunSize}
use Rattle.search_tracks.specs.Boxes.{track_of, standing_of, SmallTrack, SmallStanding}
use Rattle.search_tracks.specs.declared.Mover.{Mover}
use Rattle.search_tracks.specs.declared.Track.{Track}
use Rattle.search_tracks.specs.declared.StandingPiece.{StandingPiece}

-- a run that is ready: its job passes the check, the strips are the job's, and the store keeps lines of it and has room for the longest
pub record LinesReady (l : Lent) (r : RunSize) (strips : List (List ℕ)) (starts lines maps : List ℕ) : Type 0 where
  pub well : lent_well l ≡ true
  pub shapes : Shapes Horizontal (job_of l) strips starts
  pub fit : LinesFit r lines
  pub kept : LinesKept (job_of l) r lines maps

-- the track is that of the mover, a piece of the job
pub record OnTrack (l : Lent) (m : Mover) (t : Track) : Type 0 where
  pub is : t ≡ track_of (job_of l) m
  pub small : SmallTrack t
  pub some : 0 < t.length
  pub few : t.places ≤ 4096
  pub piece : m.piece < l.size.count

-- the standing piece is piece k of the layout
pub record IsStanding (j : Job) (v : Layout) (d : Direction) (k : ℕ) (s : StandingPiece) : Type 0 where
  pub is : s ≡ standing_of j v d k
  pub small : SmallStanding s
