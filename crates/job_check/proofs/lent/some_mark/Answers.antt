-- `job_check::lent::some_mark`: what `any` answers. Assumes nothing.
use Rattle.std.proofs.Common.{rules, get_or}
use borrow.Author.Tests.{tests}
use Rattle.list_laws.proofs.Kit.{◌+◌, ◌*◌, eqb}
use Rattle.list_laws.proofs.Ranges.{any_over}
use Rattle.job_check.proofs.lent.some_mark.Goals as goal

pub returns : goal.returns
returns c =
    let a = c.args in
    any_over (λ k. eqb (get_or a.bytes.now (a.first + k * a.step) 0) a.mark) a.count _ _ _ c.any.ensures.ran (cc) (λ x b q k. search (rules, tests))
