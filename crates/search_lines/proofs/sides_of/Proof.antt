-- `search_lines::sides_of` meets its contract: a turned box grown by the gap has the sides of the box grown and then turned. Assumes nothing.
use Rattle.list_laws.proofs.Kit.{◌∙◌, arith}
use Rattle.model.specs.Lent.{Lent, lent_by, job_of}
use Rattle.search_map_laws.proofs.Grown.{sides_grown}
use Rattle.search_lines.proofs.sides_of.Statement.{statement}
use Rattle.search_lines.proofs.sides_of.Tie as tie

grown_sides-requires : tie.Need-grown_sides-requires
grown_sides-requires c κs =
    let e : tie.Start = search in
    let g = e.requires.2 in
    ((e.requires.0, e.requires.1), (omega arith, omega arith))

returns : tie.Need-returns
unfolding job_of
returns c =
    let e : tie.Start = search in
    let at-grown-sides : tie.After-grown_sides = search in
    let a = e.args in
    let two = a.two in
    λ pixels.
    let l : Lent = lent_by a.size a.table.now pixels in
    at-grown-sides.grown_sides.ensures a.size pixels
    ∙ sides_grown a.size.gap ((job_of l).piece two.moved).shape ((job_of l).piece two.standing).shape two.moved_turn two.standing_turn

pub sides_of_spec : {M : Type 1} → statement M
sides_of_spec = tie.close (tie.spec
    grown_sides-requires returns)
