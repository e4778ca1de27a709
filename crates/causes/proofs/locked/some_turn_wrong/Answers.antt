-- `causes::locked::some_turn_wrong`: what `any` answers; each entry of a lent buffer has its three numbers. Assumes nothing.
use Rattle.std.proofs.Common.{rules}
use borrow.Author.Tests.{tests}
use Rattle.list_laws.proofs.Kit.{◌&&◌, not, [], arith, get_or}
use Rattle.list_laws.proofs.Ranges.{any_over}
use Rattle.model.specs.Layout.{is_locked}
use Rattle.model.specs.Lent.{lent_by, job_of}
use Rattle.model.specs.Calls.{allowed_degrees, locked_turn_wrong}
use Rattle.causes.proofs.locked.some_turn_wrong.Goals as goal

pub returns-clause-wrong : goal.returns-clause-wrong
unfolding locked_turn_wrong job_of
returns-clause-wrong c = λ pixels.
    let a = c.args in
    let j = job_of (lent_by a.size a.table.now pixels) in
    any_over (λ i. is_locked j i && not (allowed_degrees j i (get_or (get_or a.layout.now i []) 0 0))) a.size.count
    _ _ _ c.any.ensures.ran (cc) (λ x b q k. search (rules, tests))

pub returns-clause-whole : goal.returns-clause-whole
unfolding job_of
returns-clause-whole c = λ e pixels i l k. c.told-layout i (omega arith)
