-- `causes::locked::turn_wrong` meets its contract: a free piece's turn is not asked. Assumes nothing.
use Rattle.list_laws.proofs.Kit.{◌∙◌, sym, rules}
use Rattle.model.specs.Lent.{job_of}
use Rattle.list_laws.proofs.Tests.{clash}
use Rattle.causes.proofs.locked.turn_wrong.Statement.{statement}
use Rattle.causes.proofs.locked.turn_wrong.Tie as tie

returns-then-not-is_locked : tie.Need-returns-then-not-is_locked
unfolding job_of
returns-then-not-is_locked c =
    let asked : tie.After-is_locked = search in
    let is_free = sym asked.is_locked.ensures ∙ c.if-not-is_locked.true in
    (λ size pixels. rw is_free, λ size pixels locked. absurd (clash locked is_free))

returns : tie.Need-returns
unfolding job_of
returns c =
    let asked : tie.After-is_locked = search in
    let other : tie.Else-not-is_locked = search in
    let turned : tie.After-entry_wrong = search in (
      λ size pixels. rw (sym asked.is_locked.ensures ∙ other.if-not-is_locked.false) (turned.entry_wrong.ensures.0 size pixels),
      λ size pixels locked. turned.entry_wrong.ensures.1,
    )

pub turn_wrong_spec : {M : Type 1} → statement M
turn_wrong_spec = tie.close (tie.spec
    (search rules) returns-then-not-is_locked (search rules) (search rules) (search rules) returns)
