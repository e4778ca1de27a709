-- The loop's invariant of `search_beside::near_pieces`: the word tells of the pieces below k.
use Rattle.list_laws.proofs.Kit.{List, ℕ}
use Rattle.model.specs.Lent.{lent_by, job_of}
use Rattle.model.specs.Buffer.{layout_of}
use Rattle.search_beside.specs.Ready.{OnTrack}
use Rattle.search_beside.specs.Reading.{NearTold}
use Rattle.search_beside.proofs.near_pieces.Given as goal

abbrev pub invariant-loop-k : goal.invariant-loop-k
invariant-loop-k l =
    (pixels : List ℕ) → OnTrack (lent_by l.size l.table pixels) l.mover l.track
    → NearTold (job_of (lent_by l.size l.table pixels)) (layout_of l.layout) l.mover l.k l.near
