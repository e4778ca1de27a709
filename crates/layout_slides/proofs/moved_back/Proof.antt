-- `layout_slides::moved_back` meets its contract, direction by direction. Assumes nothing.
use Rattle.list_laws.proofs.Kit.{arith, rules}
use Rattle.layout_slides.proofs.moved_back.Statement.{statement}
use Rattle.layout_slides.proofs.moved_back.Tie as tie

overflow_cast-result : tie.Need-overflow_cast-result
overflow_cast-result c =
    let at-start : tie.Start = search in
    let h = rw c.in-Horizontal.is at at-start.requires in
    let good = at-start.well_formed in
    omega arith

overflow_sub-result : tie.Need-overflow_sub-result
overflow_sub-result c =
    let at-start : tie.Start = search in
    let told : tie.In-Horizontal = search in
    rw told.in-Horizontal.is at at-start.requires

overflow_cast-result-in-Vertical : tie.Need-overflow_cast-result-in-Vertical
overflow_cast-result-in-Vertical c =
    let at-start : tie.Start = search in
    let h = rw c.in-Vertical.is at at-start.requires in
    let good = at-start.well_formed in
    omega arith

overflow_sub-result-in-Vertical : tie.Need-overflow_sub-result-in-Vertical
overflow_sub-result-in-Vertical c =
    let at-start : tie.Start = search in
    let told : tie.In-Vertical = search in
    rw told.in-Vertical.is at at-start.requires

returns-in-Horizontal : tie.Need-returns-in-Horizontal
returns-in-Horizontal c =
    let told : tie.In-Horizontal = search in
    rw told.in-Horizontal.is

returns-in-Vertical : tie.Need-returns-in-Vertical
returns-in-Vertical c =
    let told : tie.In-Vertical = search in
    rw told.in-Vertical.is

pub moved_back_spec : {M : Type 1} → statement M
moved_back_spec = tie.close (tie.spec
    (search rules) overflow_cast-result overflow_sub-result (search rules) overflow_cast-result-in-Vertical overflow_sub-result-in-Vertical
    returns-in-Horizontal returns-in-Vertical)
