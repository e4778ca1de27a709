-- `layout_places::allowed` meets its contract by the sum of turns in the table. Assumes nothing.
use Rattle.list_laws.proofs.Kit.{◌∙◌, ap, ℕ, rules}
use Rattle.model.specs.Piece.{allows}
use Rattle.model.specs.Lent.{job_of}
use Rattle.layout_places.proofs.allowed.Statement.{statement}
use Rattle.layout_places.proofs.allowed.Tie as tie

returns : tie.Need-returns
unfolding job_of
returns c =
    let at-start : tie.Start = search in
    let entry : tie.After-turns_of = search in
    λ size pixels. c.allows.ensures ∙ ap (λ (o : ℕ). allows o at-start.args.turn) entry.turns_of.ensures

pub allowed_spec : {M : Type 1} → statement M
allowed_spec = tie.close (tie.spec
    (search rules) (search rules) returns)
