-- `fresh`: the reply beside the blank record is the call's answer. Assumes nothing.
use Rattle.list_laws.proofs.Kit.{length}
use Rattle.model.specs.Lent.{lent_by}
use Rattle.sheet_calls.proofs.Outcomes.{fresh_answered}
use Rattle.sheet_calls.proofs.fresh.Goals as goal

pub returns-clause-value : goal.returns-clause-value
returns-clause-value c =
    let a = c.args in
    rw (c.make_fresh-reply.ensures.value, c.blank_record.ensures) (fresh_answered (lent_by a.size a.table.now a.pixels.now) (length a.counts.now))
