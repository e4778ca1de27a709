-- `causes::some_turn_wrong`: what `any` answers. Assumes nothing.
use Rattle.std.proofs.Common.{rules}
use borrow.Author.Tests.{tests}
use Rattle.list_laws.proofs.Kit.{not, [], get_or}
use Rattle.list_laws.proofs.Ranges.{any_over}
use Rattle.model.specs.Lent.{lent_by, job_of}
use Rattle.model.specs.Calls.{allowed_degrees, some_turn_wrong}
use Rattle.causes.proofs.some_turn_wrong.Goals as goal

pub returns : goal.returns
unfolding some_turn_wrong job_of
returns c = λ pixels.
    let a = c.args in
    any_over (λ i. not (allowed_degrees (job_of (lent_by a.size a.table.now pixels)) i (get_or (get_or a.layout.now i []) 0 0))) a.size.count
    _ _ _ c.any.ensures.ran (cc) (λ x b q k. search (rules, tests))
