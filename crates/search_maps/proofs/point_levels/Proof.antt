-- `search_maps::point_levels` meets its contract: the first word is 1, the others are 0. Assumes nothing.
use Rattle.list_laws.proofs.Kit.{rules}
use Rattle.search_maps.proofs.Pointing.{points_from}
use Rattle.search_maps.proofs.point_levels.Statement.{statement}
use Rattle.search_maps.proofs.point_levels.Tie as tie

returns : tie.Need-returns
returns c = points_from _ c.before.widen_levels.ensures

pub point_levels_spec : {M : Type 1} → statement M
point_levels_spec = tie.close (tie.spec
    (search rules) (search rules) (search rules) returns)
