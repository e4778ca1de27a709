-- `pair_nofit::cover`: an interval that is covered is marked already; another one is marked, and what is covered stays so. Assumes nothing.
use Rattle.pair_nofit.proofs.Covering.{joined_covers}
use Rattle.pair_nofit.proofs.cover.Goals as goal

pub returns-clause-covers : goal.returns-clause-covers
returns-clause-covers c =
    let a = c.args in
    joined_covers a.covered _ a.low a.high a.marks.now _ c.requires c.joined.ensures c.mark_interval.ensures
