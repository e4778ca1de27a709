-- Boxes as a line sees them. Assumes nothing.
use Rattle.std.specs.Prelude.{Bool, true, false, ◌⊎◌, ◌≡◌, ℕ, suc, ◌+◌, ◌-◌, ◌<◌, ◌≤◌, leb}
use Rattle.model.specs.Piece.{along, across, extent, other, line_direction, held}
use Rattle.model.specs.Layout.{Job, Layout, place_of, corner_in}
use Rattle.model.specs.Search.{places}
use Rattle.model.specs.declared.Direction.{Direction}
use Rattle.model.specs.declared.Turn.{Turn}
use Rattle.model.specs.declared.Line.{Line}
use Rattle.overlap_laws.specs.Grown.{grown_piece, grown_in, wide_bound}
use Rattle.search_tracks.specs.declared.Mover.{Mover}
use Rattle.search_tracks.specs.declared.Track.{Track}
use Rattle.search_tracks.specs.declared.StandingPiece.{StandingPiece}
use Rattle.search_tracks.specs.declared.Reach.{Reach}

-- how many inside corners a line has for a box
abbrev pub room_on : ℕ → ℕ → ℕ → ℕ → ℕ → ℕ
room_on length width held sheet height = elim (leb (held + width) height) [ true ↦ suc sheet - length | false ↦ 0 ]

-- a piece in a turn on a line: the sides are those of the box grown by the gap, the places those of the piece itself
abbrev pub track_on : Job → ℕ → Turn → Line → Track
track_on j i t line =
    record {
      length = extent (line_direction line) (grown_piece j i t);
      width = extent (other (line_direction line)) (grown_piece j i t);
      held = held line;
      places = places j i t line;
    }

-- a mover on its line
abbrev pub track_of : Job → Mover → Track
track_of j m = track_on j m.piece m.turn m.line

-- a standing piece beside a line, its sides grown by the gap
abbrev pub standing_of : Job → Layout → Direction → ℕ → StandingPiece
standing_of j v d k =
    record {
      turn = (place_of v k).turn;
      along = along d (corner_in v k);
      across = across d (corner_in v k);
      length = extent d (grown_in j v k);
      width = extent (other d) (grown_in j v k);
    }

-- numbers that sums fit in
pub record SmallTrack (t : Track) : Type 0 where
  pub length : t.length ≤ wide_bound
  pub width : t.width ≤ wide_bound
  pub held : t.held ≤ 65535
  pub places : t.places ≤ 4097

pub record SmallStanding (s : StandingPiece) : Type 0 where
  pub along : s.along ≤ 65535
  pub across : s.across ≤ 65535
  pub length : s.length ≤ wide_bound
  pub width : s.width ≤ wide_bound

-- the boxes meet with the moving piece at place a
pub record BoxesMeet (t : Track) (s : StandingPiece) (a : ℕ) : Type 0 where
  pub before : a < s.along + s.length
  pub behind : s.along < a + t.length
  pub below : t.held < s.across + s.width
  pub above : s.across < t.held + t.width

-- the answer is no only where they meet at no place
pub record MeetingTold (t : Track) (s : StandingPiece) (r : Bool) : Type 0 where
  pub apart : r ≡ false → (a : ℕ) → BoxesMeet t s a → ⊥

-- what holds where there is such a place: where the places begin in the line of the two, that they end in it, and the offset across
pub record Touching (t : Track) (s : StandingPiece) (r : Reach) : Type 0 where
  pub begins : r.from + s.along ≡ r.low + (t.length - 1)
  pub ends : r.from + (r.high - r.low) ≤ t.length + s.length - 1
  pub lifted : t.held ≤ s.across + wide_bound
  pub near : s.across + wide_bound - t.held < 1024

-- r names the places at which the boxes meet
pub record MeetingReach (t : Track) (s : StandingPiece) (r : Reach) : Type 0 where
  pub within : r.high ≤ t.places
  pub touching : r.low < r.high → Touching t s r
  pub outside : (a : ℕ) → a < t.places → (a < r.low) ⊎ (r.high ≤ a) → BoxesMeet t s a → ⊥
