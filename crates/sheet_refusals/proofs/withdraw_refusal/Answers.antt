-- `withdraw_refusal`: each way's tests say which cause is the first. Assumes nothing.
use Rattle.list_laws.proofs.Kit.{◌∙◌, ap, not, le-ltb, lt-ltb}
use Rattle.model.specs.Cover.{withdraw_causes}
use Rattle.model.specs.Lent.{job_of}
use Rattle.text_laws.proofs.Causes.{there, next, no_more}
use Rattle.sheet_refusals.proofs.withdraw_refusal.Goals as goal

pub returns-then-size-piece : goal.returns-then-size-piece
unfolding withdraw_causes job_of
returns-then-size-piece c = λ pixels counts.
    c.refused.ensures ∙ there 9 _ _ (ap not (le-ltb c.args.piece c.args.size.count c.if-size-piece.true))

pub returns-then-not-entry : goal.returns-then-not-entry
unfolding withdraw_causes job_of
returns-then-not-entry c = λ pixels counts.
    c.refused-then-not-entry.ensures
    ∙ next 9 _ _ (ap not (lt-ltb c.args.piece c.args.size.count c.if-size-piece.false))
    (there 14 _ _ (rw (← c.entry_of-entry.ensures) c.if-not-entry.true))

pub returns-then-locked : goal.returns-then-locked
unfolding withdraw_causes job_of
returns-then-locked c = λ pixels counts.
    c.refused-then-locked.ensures
    ∙ next 9 _ _ (ap not (lt-ltb c.args.piece c.args.size.count c.if-size-piece.false))
    (next 14 _ _ (rw (← c.entry_of-entry.ensures) c.if-not-entry.false) (there 15 _ _ (rw (← c.is_locked-locked.ensures) c.if-locked.true)))

pub returns : goal.returns
unfolding withdraw_causes job_of
returns c = λ pixels counts.
    next 9 _ _ (ap not (lt-ltb c.args.piece c.args.size.count c.if-size-piece.false))
    (next 14 _ _ (rw (← c.entry_of-entry.ensures) c.if-not-entry.false)
    (next 15 _ _ (rw (← c.is_locked-locked.ensures) c.if-locked.false) no_more))
