-- `search_tracks::reach_of`: boxes apart across meet nowhere, others along a stretch of places.
use Rattle.list_laws.proofs.Kit.{refl}
use Rattle.search_tracks.proofs.Tracks.{reach_meeting}
use Rattle.search_tracks.proofs.reach_of.Goals as goal

pub returns : goal.returns
returns c =
    let a = c.args in
    reach_meeting a.track a.standing c.requires.fact_1 c.requires.fact_2 c.requires.fact_3 c.if-standing-track.false c.if-track-standing.false _ _ _
    c.low_of-low.ensures c.min-high.ensures refl
