-- `search_bounded::search_below` meets its contract: what is looked for stands on the mover's own track. Assumes nothing.
use Rattle.list_laws.proofs.Kit.{rules}
use Rattle.model.specs.Lent.{Lent, lent_by}
use Rattle.search_beside.specs.Ready.{OnTrack}
use Rattle.search_beside.proofs.Tracks.{track_asked, on_track}
use Rattle.search_bounded.proofs.search_below.Statement.{statement}
use Rattle.search_bounded.proofs.search_below.Tie as tie

-- the lent job
abbrev lent : tie.Start → Lent
lent e = lent_by e.args.run.size e.args.table.now e.args.pixels.now

track_of-track-requires : tie.Need-track_of-track-requires
track_of-track-requires c κs = let e : tie.Start = search in track_asked (lent e) e.args.mover.piece e.requires.0.well e.requires.1.1.1

-- the entry, from where the track is known
abbrev entry : tie.After-track_of-track → tie.Start
entry c = search

-- it is the mover's
tracked : (c : tie.After-track_of-track) → OnTrack (lent (entry c)) (entry c).args.mover c.track_of-track.result
tracked c =
    let e = entry c in
    let t = c.track_of-track in
    on_track (lent e) e.args.mover t.result e.requires.0.well e.requires.1.1.1 (t.ensures.0 e.args.pixels.now) t.ensures.1

search_short-requires : tie.Need-search_short-requires
search_short-requires c κs =
    let t : tie.After-track_of-track = search in
    let e = entry t in
    let i : tie.Then-track-le-SHORT_LINE = search in
    (e.requires.0, (e.requires.1.0, (e.requires.1.1.0, (tracked t, i.if-track-le-SHORT_LINE.true))))

search_long-requires : tie.Need-search_long-requires
search_long-requires c κs =
    let t : tie.After-track_of-track = search in
    let e = entry t in
    (e.requires.0, (e.requires.1.0, (e.requires.1.1.0, tracked t)))

returns-then-track-le-SHORT_LINE : tie.Need-returns-then-track-le-SHORT_LINE
returns-then-track-le-SHORT_LINE c = let x : tie.After-search_short = search in x.search_short.ensures

returns : tie.Need-returns
returns c = let x : tie.After-search_long = search in x.search_long.ensures

pub search_below_spec : {M : Type 1} → statement M
search_below_spec =
    tie.close (tie.spec
    track_of-track-requires search_short-requires (search rules) (search rules) returns-then-track-le-SHORT_LINE search_long-requires (search rules)
    (search rules) returns)
