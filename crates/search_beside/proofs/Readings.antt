-- Penalties read from kept lines: what is asked for and what stands there. Assumes nothing.
use Rattle.list_laws.proofs.Kit.{◌∙◌, ◌≡◌, ◌≢◌, ap, subst, sym, List, ◌+◌, ◌-◌, ◌<◌, ◌≤◌, ℕ, arith, get_or, length}
use Rattle.model.specs.Piece.{along, across, extent, line_direction, held}
use Rattle.model.specs.Layout.{Job, Layout, corner_in}
use Rattle.overlap_laws.specs.Grown.{grown_piece, grown_in}
use Rattle.model.specs.Lent.{Lent, job_of}
use Rattle.model.specs.declared.Direction.{Direction}
use Rattle.model.specs.declared.Turn.{Turn}
use Rattle.job_laws.proofs.Checked.{facts}
use Rattle.descent_laws.specs.LentLayout.{Laid}
use Rattle.search_laws.specs.Lines.{middle, line_places, HoldsLine}
use Rattle.search_map_laws.proofs.Pieces.{asked_small}
use Rattle.search_lines.specs.Kept.{LinesKept}
use Rattle.search_lines.specs.Making.{Asked}
use Rattle.search_lines.specs.declared.RunSize.{RunSize}
use Rattle.search_lines.specs.declared.Two.{Two}
use Rattle.search_lines.proofs.Placed.{line_on}
use Rattle.search_tracks.specs.declared.Mover.{Mover}
use Rattle.search_tracks.specs.declared.Track.{Track}
use Rattle.search_tracks.specs.declared.StandingPiece.{StandingPiece}
use Rattle.search_tracks.specs.declared.Reach.{Reach}
use Rattle.search_tracks.specs.Boxes.{Touching}
use Rattle.search_beside.specs.Ready.{LinesReady, OnTrack, IsStanding}
use Rattle.search_beside.specs.Reading.{mover_penalty, LineRead}

-- ── a kept line ──

-- the mover, piece k and the offset across
abbrev pub two_of : Mover → Track → StandingPiece → ℕ → Two
two_of m t s k =
    record { moved = m.piece; moved_turn = m.turn; standing = k; standing_turn = s.turn; offset = s.across + middle - t.held }

module _ (l : Lent) (r : RunSize) (strips : List (List ℕ)) (starts lines maps : List ℕ) (m : Mover) (t : Track) (s : StandingPiece) (k : ℕ)
    (ready : LinesReady l r strips starts lines maps) (track : OnTrack l m t) (there : k < l.size.count)
  where
    -- what is asked for is there
    pub line_asked : s.across + middle - t.held < 1024 → m.piece ≢ k → Asked l strips starts (two_of m t s k)
    line_asked near others =
        record {
          well = ready.well;
          shapes = ready.shapes;
          moved = track.piece;
          standing = there;
          offset = near;
          small = asked_small l ready.well m.piece k m.turn s.turn track.piece there others;
        }

    -- the run is ready after a line is made or found
    pub line_ready : (lines' maps' : List ℕ) → LinesKept (job_of l) r lines' maps' → length lines' ≡ length lines → LinesReady l r strips starts lines' maps'
    line_ready lines' maps' kept e =
        let f = ready.fit.fits in
        let g = ready.fit.room in
        record {
          well = ready.well;
          shapes = ready.shapes;
          fit = record { room = omega arith; fits = omega arith };
          kept = kept;
        }

    -- the bytes of the line are the penalties of the two pieces
    pub line_read_lem : (d : Direction) → d ≡ line_direction m.line → t.held ≤ s.across + middle → (lines' : List ℕ) (p : ℕ)
        → HoldsLine d (grown_piece (job_of l) m.piece m.turn) (grown_piece (job_of l) k s.turn) (s.across + middle - t.held) lines' p
        → p + line_places d (grown_piece (job_of l) m.piece m.turn) (grown_piece (job_of l) k s.turn) ≤ length lines'
        → (v : Layout) → IsStanding (job_of l) v (line_direction m.line) k s → LineRead (job_of l) v m k lines' p
    unfolding job_of
    line_read_lem d along_line lifted lines' p holds room v stands =
        let j : Job = job_of l in
        let e : Direction = line_direction m.line in
        let sa : s.across ≡ across e (corner_in v k) = ap (λ (z : StandingPiece). z.across) stands.is in
        let th : t.held ≡ held m.line = ap (λ (z : Track). z.held) track.is in
        let o : ℕ = s.across + middle - t.held in
        let turn = ap (λ (z : StandingPiece). z.turn) stands.is in
        let line : HoldsLine e (grown_piece j m.piece m.turn) (grown_in j v k) o lines' p =
        subst (λ (z : Turn). HoldsLine e (grown_piece j m.piece m.turn) (grown_piece j k z) o lines' p) turn
        (subst (λ (z : Direction). HoldsLine z (grown_piece j m.piece m.turn) (grown_piece j k s.turn) o lines' p) along_line holds) in
        let fits : p + line_places e (grown_piece j m.piece m.turn) (grown_in j v k) ≤ length lines' =
        subst (λ (z : Turn). p + line_places e (grown_piece j m.piece m.turn) (grown_piece j k z) ≤ length lines') turn
        (subst (λ (z : Direction). p + line_places z (grown_piece j m.piece m.turn) (grown_piece j k s.turn) ≤ length lines') along_line room) in
        record {
          within = fits;
          at = λ a c b h. line c b ∙ sym (line_on j v m.piece m.turn m.line a k o c h (omega arith));
        }

-- ── entries ──

-- the pieces have their entries in the table and in the layout
pub entries_all : (l : Lent) (layout : List (List ℕ)) → Laid l layout → (l.size.count ≤ length l.table) × (l.size.count ≤ length layout)
entries_all l layout laid =
    let e = (facts l laid.well).entries in
    let w = laid.whole in
    (omega arith, omega arith)

-- so has each of them
pub piece_entries : (l : Lent) (layout : List (List ℕ)) (k : ℕ) → Laid l layout → k < l.size.count → (k < length l.table) × (k < length layout)
piece_entries l layout k laid b = let e = entries_all l layout laid in (omega arith, omega arith)

-- ── places in reach ──

module _ (l : Lent) (v : Layout) (m : Mover) (t : Track) (s : StandingPiece) (k : ℕ) (r : Reach) (lines : List ℕ) (slot : ℕ) (track : OnTrack l m t)
    (standing : IsStanding (job_of l) v (line_direction m.line) k s) (touching : Touching t s r) (line : LineRead (job_of l) v m k lines slot)
  where
    -- the places in reach lie in the line
    reach_places : r.from + (r.high - r.low) ≤ line_places (line_direction m.line) (grown_piece (job_of l) m.piece m.turn) (grown_in (job_of l) v k)
    reach_places =
        let a : t.length ≡ extent (line_direction m.line) (grown_piece (job_of l) m.piece m.turn) = ap (λ (z : Track). z.length) track.is in
        let b : s.length ≡ extent (line_direction m.line) (grown_in (job_of l) v k) = ap (λ (z : StandingPiece). z.length) standing.is in
        let e = touching.ends in
        omega arith

    -- and in the store
    pub reach_within : slot + r.from + (r.high - r.low) ≤ length lines
    reach_within = let a = reach_places in let b = line.within in omega arith

    -- what stands for place a
    pub reach_at : (a : ℕ) → r.low ≤ a → a < r.high → get_or lines (slot + r.from + (a - r.low)) 0 ≡ mover_penalty (job_of l) v m a k
    reach_at a low high =
        let d : Direction = line_direction m.line in
        let x : t.length ≡ extent d (grown_piece (job_of l) m.piece m.turn) = ap (λ (z : Track). z.length) track.is in
        let y : s.along ≡ along d (corner_in v k) = ap (λ (z : StandingPiece). z.along) standing.is in
        let b = touching.begins in
        let p = reach_places in
        let e : slot + r.from + (a - r.low) ≡ slot + (r.from + (a - r.low)) = omega arith in
        ap (λ (i : ℕ). get_or lines i 0) e ∙ line.at a (r.from + (a - r.low)) (omega arith) (omega arith)
