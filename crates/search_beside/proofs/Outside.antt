-- Pieces that are apart: where the boxes do not meet the penalty is 0. Assumes nothing.
use Rattle.list_laws.proofs.Kit.{◌≡◌, true, ◌⊎◌, ◌<◌, ◌≤◌, ℕ, arith}
use Rattle.model.specs.Piece.{along, across, other, line_direction}
use Rattle.model.specs.Layout.{Layout, corner_in}
use Rattle.model.specs.Lent.{Lent, job_of}
use Rattle.list_laws.proofs.Tests.{fails}
use Rattle.overlap_laws.proofs.Share.{across_other}
use Rattle.search_laws.proofs.Covering.{meets, apart_penalty, meets_along, meets_across}
use Rattle.search_tracks.specs.declared.Mover.{Mover}
use Rattle.search_tracks.specs.declared.Track.{Track}
use Rattle.search_tracks.specs.declared.StandingPiece.{StandingPiece}
use Rattle.search_tracks.specs.declared.Reach.{Reach}
use Rattle.search_tracks.specs.Boxes.{BoxesMeet, MeetingReach}
use Rattle.search_beside.specs.Ready.{OnTrack, IsStanding}
use Rattle.search_beside.specs.Reading.{mover_penalty}

module _ (l : Lent) (v : Layout) (m : Mover) (t : Track) (s : StandingPiece) (k : ℕ) (track : OnTrack l m t)
    (standing : IsStanding (job_of l) v (line_direction m.line) k s)
  where
    -- grown pieces that share a pixel have boxes that meet
    meeting_boxes : (a : ℕ) → meets (job_of l) v m.piece m.turn m.line a k ≡ true → BoxesMeet t s a
    meeting_boxes a e =
        let x = meets_along (job_of l) v m.piece m.turn m.line a k e in
        let y = meets_across (job_of l) v m.piece m.turn m.line a k e in
        let c : along (other (line_direction m.line)) (corner_in v k) ≡ across (line_direction m.line) (corner_in v k) =
        across_other (line_direction m.line) (corner_in v k) in
        rw (track.is, standing.is)
        (record { before = x.0; behind = x.1; below = omega arith; above = omega arith })

    -- so where the boxes do not meet the penalty is 0
    pub apart_zero : (a : ℕ) → (BoxesMeet t s a → ⊥) → mover_penalty (job_of l) v m a k ≡ 0
    apart_zero a h = apart_penalty (job_of l) v m.piece m.turn m.line a k (fails _ (λ e. h (meeting_boxes a e)))

    -- as it is out of reach
    pub outside_zero : (r : Reach) → MeetingReach t s r → (a : ℕ) → a < t.places → (a < r.low) ⊎ (r.high ≤ a) → mover_penalty (job_of l) v m a k ≡ 0
    outside_zero r h a b o = apart_zero a (h.outside a b o)
