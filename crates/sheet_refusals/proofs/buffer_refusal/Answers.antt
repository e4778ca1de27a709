-- `buffer_refusal`: each way's tests say which cause is the first. Assumes nothing.
use Rattle.list_laws.proofs.Kit.{◌∙◌, ap, sym, not, ◌*◌, arith, eq-eqb, ne_eqb}
use Rattle.job_laws.proofs.Checked.{facts}
use Rattle.text_laws.proofs.Causes.{there, next, no_more}
use Rattle.sheet_refusals.proofs.buffer_refusal.Goals as goal

pub returns-then-not-check_job : goal.returns-then-not-check_job
returns-then-not-check_job c = c.refused.ensures ∙ there 8 _ _ (ap not (sym c.check_job.ensures ∙ c.if-not-check_job.true))

pub overflow_mul-size : goal.overflow_mul-size
overflow_mul-size c =
    let area = (facts _ (sym c.check_job.ensures ∙ c.if-not-check_job.false)).area in
    omega arith

pub returns-then-room-size : goal.returns-then-room-size
returns-then-room-size c =
    c.refused-then-room-size.ensures
    ∙ next 8 _ _ (ap not (sym c.check_job.ensures ∙ c.if-not-check_job.false))
    (there 7 _ _ (ap not (ne_eqb c.args.room (c.args.size.rows * c.args.size.columns) c.if-room-size.true)))

pub returns : goal.returns
returns c =
    next 8 _ _ (ap not (sym c.check_job.ensures ∙ c.if-not-check_job.false))
    (next 7 _ _ (ap not (eq-eqb c.args.room (c.args.size.rows * c.args.size.columns) c.if-room-size.false)) no_more)
