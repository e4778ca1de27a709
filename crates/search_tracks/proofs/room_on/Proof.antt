-- `search_tracks::room_on` meets its contract, by whether the box lies in the sheet across the line. Assumes nothing.
use Rattle.list_laws.proofs.Kit.{arith, rules}
use Rattle.search_tracks.proofs.Tracks.{room_none, room_some}
use Rattle.search_tracks.proofs.room_on.Statement.{statement}
use Rattle.search_tracks.proofs.room_on.Tie as tie

returns-then-height-held : tie.Need-returns-then-height-held
returns-then-height-held c = let a = c.before.args in (room_none a.length a.width a.held a.sheet a.height c.if-height-held.true, omega arith)

returns-then-sheet-length : tie.Need-returns-then-sheet-length
returns-then-sheet-length c = let a = c.before.before.args in
    (room_some a.length a.width a.held a.sheet a.height 0 c.before.if-height-held.false (omega arith), omega arith)

returns : tie.Need-returns
returns c = let a = c.before.before.args in
    (room_some a.length a.width a.held a.sheet a.height _ c.before.if-height-held.false (omega arith), omega arith)

pub room_on_spec : {M : Type 1} → statement M
room_on_spec = tie.close (tie.spec
    (search rules) returns-then-height-held returns-then-sheet-length (search rules) (search rules) returns)
