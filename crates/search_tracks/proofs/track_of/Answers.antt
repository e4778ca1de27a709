-- `search_tracks::track_of` meets its contract, by the line: what is left is that the track is the one of the job's piece.
use Rattle.model.specs.Lent.{lent_by, job_of}
use Rattle.search_tracks.proofs.Tracks.{track_row, track_column}
use Rattle.search_tracks.proofs.track_of.Goals as goal

pub returns-in-InRow-clause-track : goal.returns-in-InRow-clause-track
unfolding job_of
returns-in-InRow-clause-track c = λ pixels.
    let a = c.args in
    let s = c.turned_sides-sides in
    track_row (job_of (lent_by a.size a.table.now pixels)) a.mover s.result c.room_on.result (s.ensures.sides a.size pixels)
    c.in-InRow.row c.in-InRow.is c.room_on.ensures.room

pub returns-in-InColumn-clause-track : goal.returns-in-InColumn-clause-track
unfolding job_of
returns-in-InColumn-clause-track c = λ pixels.
    let a = c.args in
    let s = c.turned_sides-sides in
    track_column (job_of (lent_by a.size a.table.now pixels)) a.mover s.result c.room_on-in-InColumn.result (s.ensures.sides a.size pixels)
    c.in-InColumn.column c.in-InColumn.is c.room_on-in-InColumn.ensures.room
