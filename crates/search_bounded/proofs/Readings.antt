-- A piece's part in the sums along a line: its weight, how large it is at most, and that it is added where it is in reach. Assumes nothing.
use Rattle.list_laws.proofs.Kit.{◌∙◌, ◌≡◌, ◌≢◌, ap₂, subst, ⊎_elim, true, List, ◌*◌, ◌+◌, ◌-◌, ◌<◌, ◌≤◌, ℕ, arith, drop, get_or, length, length-drop, length-take}
use Rattle.list_laws.proofs.Kit.{take, get_or-drop, get_or-take}
use Rattle.model.specs.Piece.{line_direction, corner, on_line}
use Rattle.model.specs.Layout.{Layout, place_of, corner_in, pairs}
use Rattle.model.specs.Lent.{Lent, job_of, lent_well}
use Rattle.model.specs.declared.Direction.TheVariants.{Horizontal, Vertical}
use Rattle.overlap_laws.specs.Grown.{grown_piece, grown_in}
use Rattle.overlap_laws.proofs.Penalty.{penalty_half}
use Rattle.descent_laws.specs.Claims.{ValidWeights}
use Rattle.search_laws.specs.PieceSum.{weight_between, penalty_on}
use Rattle.search_laws.proofs.PieceSum.{weight_bound_lem}
use Rattle.search_map_laws.proofs.Pieces.{asked_small}
use Rattle.search_line_sums.specs.Added.{LineAdded}
use Rattle.search_line_sums.proofs.Scans.{part_small}
use Rattle.search_tracks.specs.declared.Mover.{Mover}
use Rattle.search_tracks.specs.declared.Track.{Track}
use Rattle.search_tracks.specs.declared.StandingPiece.{StandingPiece}
use Rattle.search_tracks.specs.declared.Reach.{Reach}
use Rattle.search_tracks.specs.Boxes.{Touching}
use Rattle.search_beside.specs.Ready.{OnTrack, IsStanding}
use Rattle.search_beside.specs.Reading.{mover_penalty, LineRead}
use Rattle.search_beside.proofs.Readings.{reach_within, reach_at}
use Rattle.search_bounded.specs.Summing.{part_at, PartAdded}

-- one weight a pair
pub weight_pairs : (l : Lent) (ws : List ℕ) → ValidWeights (job_of l) ws → length ws ≡ length (pairs l.size.count)
unfolding job_of
weight_pairs l ws w = w.one_per_pair

-- a weight is at most 65,535
pub weight_small : (l : Lent) (ws : List ℕ) (i k w : ℕ) → ValidWeights (job_of l) ws → w ≡ weight_between l.size.count ws i k → w ≤ 65535
unfolding job_of
weight_small l ws i k w v e = let b = weight_bound_lem (job_of l) ws i k v in omega arith

-- a part is below 2²⁴
pub part_most : (l : Lent) (ws : List ℕ) (v : Layout) (m : Mover) (k : ℕ) → lent_well l ≡ true → ValidWeights (job_of l) ws → m.piece < l.size.count
    → k < l.size.count → m.piece ≢ k → (a : ℕ) → part_at (job_of l) ws v m a k ≤ 16777216
unfolding job_of penalty_on
part_most l ws v m k well valid i b others a =
    let w : weight_between (job_of l).size.count ws m.piece k ≤ 65535 = weight_bound_lem (job_of l) ws m.piece k valid in
    let s = grown_piece (job_of l) m.piece m.turn in
    let t = grown_in (job_of l) v k in
    let p : mover_penalty (job_of l) v m a k ≤ 255 =
    ⊎_elim
    (λ h. penalty_half s (corner (on_line m.line m.turn a)) t (corner_in v k) Horizontal 255 h)
    (λ h. penalty_half s (corner (on_line m.line m.turn a)) t (corner_in v k) Vertical 255 h)
    (asked_small l well m.piece k m.turn (place_of v k).turn i b others) in
    let s = part_small (weight_between (job_of l).size.count ws m.piece k) (mover_penalty (job_of l) v m a k) w (omega arith) in
    omega arith

module _ (l : Lent) (v : Layout) (m : Mover) (t : Track) (s : StandingPiece) (k : ℕ) (r : Reach) (lines : List ℕ) (slot : ℕ) (track : OnTrack l m t)
    (standing : IsStanding (job_of l) v (line_direction m.line) k s) (touching : Touching t s r) (line : LineRead (job_of l) v m k lines slot)
  where
    -- the part added to the sums in reach
    pub reach_added : (ws : List ℕ) (weight : ℕ) (before after : List ℕ) → weight ≡ weight_between l.size.count ws m.piece k → r.low < r.high
        → LineAdded weight r.low (take (slot + r.from + (r.high - r.low) - (slot + r.from)) (drop (slot + r.from) lines)) before after
        → PartAdded (job_of l) ws v m k r before after
    unfolding job_of
    reach_added ws weight before after w some h =
        let n : ℕ = slot + r.from + (r.high - r.low) - (slot + r.from) in
        let part : List ℕ = take n (drop (slot + r.from) lines) in
        let f = reach_within l v m t s k r lines slot track standing touching line in
        let long : length part ≡ r.high - r.low = simp (length-take, length-drop) (omega arith) in
        record {
          same = h.same;
          reached = λ a low high.
              let i : ℕ = a - r.low in
              let e : r.low + i ≡ a = omega arith in
              let g : get_or part i 0 ≡ mover_penalty (job_of l) v m a k =
              get_or-take n (drop (slot + r.from) lines) i 0 (omega arith)
              ∙ get_or-drop (slot + r.from) lines i 0
              ∙ reach_at l v m t s k r lines slot track standing touching line a low high in
              subst (λ (z : ℕ). get_or after z 0 ≡ get_or before z 0 + part_at (job_of l) ws v m a k) e
              (h.part i (omega arith) ∙ ap₂ (λ (x y : ℕ). get_or before (r.low + i) 0 + x * y) w g);
          below = λ a b. h.below a b;
          above = λ a b. h.above a (omega arith);
        }
