-- Boxes beside a line: the moving piece's places, and the places at which its box meets a standing one's. Assumes nothing.
use Rattle.list_laws.proofs.Kit.{◌≡◌, subst, sym, ⊎_elim, ◌+◌, ◌-◌, ◌<◌, ◌≤◌, min, suc, ℕ, ◌&&◌, arith, le-leb, lt-leb, ltb, lt-ltb}
use Rattle.list_laws.proofs.Tests.{and_both, clash}
use Rattle.model.specs.Layout.{Job, Layout, turned_piece, place_of}
use Rattle.model.specs.Piece.{extent}
use Rattle.model.specs.Search.{places}
use Rattle.model.specs.declared.Direction.{Direction}
use Rattle.model.specs.declared.Direction.TheVariants.{Horizontal, Vertical}
use Rattle.model.specs.declared.Turn.{Turn}
use Rattle.model.specs.declared.Line.{Line}
use Rattle.model.specs.declared.Line.TheVariants.{InRow, InColumn}
use Rattle.model.specs.declared.Placement.{Placement}
use Rattle.model.specs.declared.Row.{Row}
use Rattle.model.specs.declared.Column.{Column}
use Rattle.overlap_laws.specs.Grown.{grown_piece}
use Rattle.overlap_laws.proofs.GrownTurns.{turned_grown}
use Rattle.piece_pixels.specs.declared.Sides.{Sides}
use Rattle.piece_pixels.specs.Turned.{sides_of}
use Rattle.search_tracks.specs.declared.Mover.{Mover}
use Rattle.search_tracks.specs.declared.Track.{Track}
use Rattle.search_tracks.specs.declared.StandingPiece.{StandingPiece}
use Rattle.search_tracks.specs.Boxes.{room_on, track_on, track_of, standing_of, SmallTrack, SmallStanding, BoxesMeet, MeetingTold, MeetingReach}

-- a line that leaves the sheet's height has no place
pub room_none : (length width held sheet height : ℕ) → height < held + width → 0 ≡ room_on length width held sheet height
room_none length width held sheet height l = rw (lt-leb (held + width) height l, room_on)

-- another has one for each coordinate at which the box ends in the sheet
pub room_some : (length width held sheet height r : ℕ) → held + width ≤ height → r ≡ suc sheet - length → r ≡ room_on length width held sheet height
room_some length width held sheet height r l e = rw (le-leb (held + width) height l, room_on) e

-- ── grown sides ──

-- a grown piece's columns and rows
pub grown_columns : (j : Job) (i : ℕ) (t : Turn) → (grown_piece j i t).columns ≡ (turned_piece j i t).columns + j.size.gap
grown_columns j i t = (turned_grown t j.size.gap (j.piece i).shape).columns

pub grown_rows : (j : Job) (i : ℕ) (t : Turn) → (grown_piece j i t).rows ≡ (turned_piece j i t).rows + j.size.gap
grown_rows j i t = (turned_grown t j.size.gap (j.piece i).shape).rows

-- a grown piece's side along a direction
pub grown_extent_of : (d : Direction) (j : Job) (i : ℕ) (t : Turn) → extent d (grown_piece j i t) ≡ extent d (turned_piece j i t) + j.size.gap
grown_extent_of Horizontal j i t = grown_columns j i t
grown_extent_of Vertical j i t = grown_rows j i t

-- ── a mover ──

module _ (j : Job) (m : Mover) (s : Sides) (room : ℕ) (sides : s ≡ sides_of (turned_piece j m.piece m.turn)) where
  -- in a row
  pub track_row : (r : Row) → m.line ≡ InRow r → room ≡ room_on s.columns s.rows r.0 j.size.columns j.size.rows
      → ◌≡◌ {A = Track}
      (record { length = s.columns + j.size.gap; width = s.rows + j.size.gap; held = r.0; places = room }) (track_of j m)
  unfolding places
  track_row r e f =
      subst (λ (l : Line). ◌≡◌ {A = Track}
      (record { length = s.columns + j.size.gap; width = s.rows + j.size.gap; held = r.0; places = room }) (track_on j m.piece m.turn l))
      (sym e) (rw (f, grown_columns j m.piece m.turn, grown_rows j m.piece m.turn, sides))

  -- in a column
  pub track_column : (r : Column) → m.line ≡ InColumn r → room ≡ room_on s.rows s.columns r.0 j.size.rows j.size.columns
      → ◌≡◌ {A = Track}
      (record { length = s.rows + j.size.gap; width = s.columns + j.size.gap; held = r.0; places = room }) (track_of j m)
  unfolding places
  track_column r e f =
      subst (λ (l : Line). ◌≡◌ {A = Track}
      (record { length = s.rows + j.size.gap; width = s.columns + j.size.gap; held = r.0; places = room }) (track_on j m.piece m.turn l))
      (sym e) (rw (f, grown_columns j m.piece m.turn, grown_rows j m.piece m.turn, sides))

-- ── a standing piece ──

module _ (j : Job) (v : Layout) (k : ℕ) (p : Placement) (s : Sides) (placed : p ≡ place_of v k) (sides : s ≡ sides_of (turned_piece j k p.turn)) where
  -- beside a row
  pub standing_row : (d : Direction) → d ≡ Horizontal
      → ◌≡◌ {A = StandingPiece}
      (record { turn = p.turn; along = p.x.0; across = p.y.0; length = s.columns + j.size.gap; width = s.rows + j.size.gap }) (standing_of j v d k)
  standing_row d e = rw (e, sides, placed, grown_columns j k (place_of v k).turn, grown_rows j k (place_of v k).turn)

  -- beside a column
  pub standing_column : (d : Direction) → d ≡ Vertical
      → ◌≡◌ {A = StandingPiece}
      (record { turn = p.turn; along = p.y.0; across = p.x.0; length = s.rows + j.size.gap; width = s.columns + j.size.gap }) (standing_of j v d k)
  standing_column d e = rw (e, sides, placed, grown_columns j k (place_of v k).turn, grown_rows j k (place_of v k).turn)

-- ── where boxes meet ──

-- they meet nowhere unless both tests across pass
pub told_both : (t : Track) (s : StandingPiece) → MeetingTold t s (ltb t.held (s.across + s.width) && ltb s.across (t.held + t.width))
told_both t s =
    record { apart = λ e a m. clash (and_both (lt-ltb t.held (s.across + s.width) m.below) (lt-ltb s.across (t.held + t.width) m.above)) e }

-- boxes that are apart across meet nowhere
pub reach_none : (t : Track) (s : StandingPiece) → ((a : ℕ) → BoxesMeet t s a → ⊥) → MeetingReach t s (record { low = 0; high = 0; from = 0 })
reach_none t s h = record { within = omega arith; touching = λ l. absurd (omega arith); outside = λ a l o m. h a m }

module _ (t : Track) (s : StandingPiece) (small : SmallTrack t) (near : SmallStanding s) (some : 0 < t.length) (below : t.held < s.across + s.width)
    (above : s.across < t.held + t.width) (low high from : ℕ) (first : low ≡ s.along + 1 - t.length)
    (last : high ≡ min t.places (s.along + s.length)) (begin : from ≡ low + t.length - (s.along + 1))
  where
    -- the others meet from the first place at which the moving one reaches the standing one up to the last
    pub reach_meeting : MeetingReach t s (record { low = low; high = high; from = from })
    reach_meeting =
        record {
          within = omega arith;
          touching = λ l.
              record {
                begins = omega arith;
                ends = omega arith;
                lifted = let w = near.width in omega arith;
                near = let w = near.width in let x = small.width in omega arith;
              };
          outside = λ a l o m.
              let b = m.before in
              let c = m.behind in
              ⊎_elim (λ (x : a < low). omega arith) (λ (x : high ≤ a). omega arith) o;
        }
