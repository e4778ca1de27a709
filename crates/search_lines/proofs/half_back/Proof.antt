-- `search_lines::half_back` meets its contract: a quarter twice. Assumes nothing.
use Rattle.model.specs.Lent.{Lent, lent_by}
use Rattle.search_lines.specs.Sources.{SameLine}
use Rattle.search_lines.proofs.Sourcing.{same_on, quarter_told}
use Rattle.search_lines.proofs.half_back.Statement.{statement}
use Rattle.search_lines.proofs.half_back.Tie as tie

-- the lent job
abbrev lent : tie.Start → Lent
lent c = lent_by c.args.size c.args.table.now c.args.pixels.now

quarter_back-once-requires : tie.Need-quarter_back-once-requires
quarter_back-once-requires c κs = let e : tie.Start = search in e.requires

-- the entry
abbrev entry : tie.After-quarter_back-once → tie.Start
entry c = search

-- after the first quarter
once : (c : tie.After-quarter_back-once) → SameLine (lent (entry c)) (entry c).args.source c.quarter_back-once.result
once c = quarter_told (lent (entry c)) (entry c).args.source _ (entry c).requires c.quarter_back-once.ensures

quarter_back-requires : tie.Need-quarter_back-requires
quarter_back-requires c κs = (once c).named

returns : tie.Need-returns
returns c =
    let b : tie.After-quarter_back-once = search in
    let l = lent (entry b) in
    same_on l (entry b).args.source b.quarter_back-once.result _ (once b)
    (quarter_told l b.quarter_back-once.result _ (once b).named c.quarter_back.ensures)

pub half_back_spec : {M : Type 1} → statement M
half_back_spec = tie.close (tie.spec
    quarter_back-once-requires quarter_back-requires returns)
