-- The loop's invariant of `search_beside::renew_others`: the entries of the mover with the pieces passed are made.
use Rattle.model.specs.Piece.{on_line}
use Rattle.model.specs.Lent.{lent_by, job_of}
use Rattle.model.specs.Buffer.{layout_of}
use Rattle.search_laws.specs.Table.{Renewed}
use Rattle.search_beside.specs.Ready.{LinesReady}
use Rattle.search_beside.proofs.renew_others.Given as goal

abbrev pub invariant-loop-k : goal.invariant-loop-k
invariant-loop-k l =
    Renewed (job_of (lent_by l.run.size l.table l.pixels)) (layout_of l.layout) l.run.size.count l.sweep.mover.piece
    (on_line l.sweep.mover.line l.sweep.mover.turn l.at) l.k l.penalties
    × LinesReady (lent_by l.run.size l.table l.pixels) l.run l.strips l.starts l.lines l.maps
