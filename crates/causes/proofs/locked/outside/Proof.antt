-- `causes::locked::outside` meets its contract: a free piece's placement is not asked. Assumes nothing.
use Rattle.list_laws.proofs.Kit.{◌∙◌, ap, not, sym, rules}
use Rattle.model.specs.Lent.{job_of}
use Rattle.causes.proofs.locked.outside.Statement.{statement}
use Rattle.causes.proofs.locked.outside.Tie as tie

returns-then-is_locked : tie.Need-returns-then-is_locked
unfolding job_of
returns-then-is_locked c = λ pixels.
    let asked : tie.After-is_locked = search in
    let ours : tie.Then-is_locked = search in
    let placed : tie.After-place_at = search in
    let lies : tie.After-inside = search in
    rw (sym asked.is_locked.ensures ∙ ours.if-is_locked.true) (ap not (rw placed.place_at.ensures at (lies.inside.ensures pixels)))

returns : tie.Need-returns
unfolding job_of
returns c = λ pixels. let asked : tie.After-is_locked = search in rw (sym asked.is_locked.ensures ∙ c.if-is_locked.false)

pub outside_spec : {M : Type 1} → statement M
outside_spec = tie.close (tie.spec
    (search rules) (search rules) (search rules) returns-then-is_locked returns)
