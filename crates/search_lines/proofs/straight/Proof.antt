-- `search_lines::straight` meets its contract: as many quarters as the moved piece is turned. Assumes nothing.
use Rattle.list_laws.proofs.Kit.{rules}
use Rattle.model.specs.Lent.{Lent, lent_by}
use Rattle.search_lines.proofs.Sourcing.{same_none, same_on, quarter_told}
use Rattle.search_lines.proofs.straight.Statement.{statement}
use Rattle.search_lines.proofs.straight.Tie as tie

-- the lent job
abbrev lent : tie.Start → Lent
lent c = lent_by c.args.size c.args.table.now c.args.pixels.now

quarter_back-requires : tie.Need-quarter_back-requires
quarter_back-requires c κs = let e : tie.Start = search in e.requires

half_back-requires : tie.Need-half_back-requires
half_back-requires c κs = let e : tie.Start = search in e.requires

half_back-twice-requires : tie.Need-half_back-twice-requires
half_back-twice-requires c κs = let e : tie.Start = search in e.requires

quarter_back-requires-in-ThreeQuarters : tie.Need-quarter_back-requires-in-ThreeQuarters
quarter_back-requires-in-ThreeQuarters c κs = c.half_back-twice.ensures.named

returns-in-Zero : tie.Need-returns-in-Zero
returns-in-Zero c = let e : tie.Start = search in same_none (lent e) e.args.source e.requires

returns-in-Quarter : tie.Need-returns-in-Quarter
returns-in-Quarter c = let e : tie.Start = search in quarter_told (lent e) e.args.source _ e.requires c.quarter_back.ensures

returns-in-Half : tie.Need-returns-in-Half
returns-in-Half c = c.half_back.ensures

returns-in-ThreeQuarters : tie.Need-returns-in-ThreeQuarters
returns-in-ThreeQuarters c =
    let e : tie.Start = search in
    let b : tie.After-half_back-twice = search in
    same_on (lent e) e.args.source b.half_back-twice.result _ b.half_back-twice.ensures
    (quarter_told (lent e) b.half_back-twice.result _ b.half_back-twice.ensures.named c.quarter_back-in-ThreeQuarters.ensures)

pub straight_spec : {M : Type 1} → statement M
straight_spec =
    tie.close (tie.spec
    (search rules) (search rules) quarter_back-requires (search rules) half_back-requires (search rules) half_back-twice-requires
    quarter_back-requires-in-ThreeQuarters returns-in-Zero returns-in-Quarter returns-in-Half returns-in-ThreeQuarters)
