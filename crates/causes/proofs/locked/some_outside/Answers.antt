-- `causes::locked::some_outside`: what `any` answers. Assumes nothing.
use Rattle.std.proofs.Common.{rules}
use borrow.Author.Tests.{tests}
use Rattle.list_laws.proofs.Kit.{◌&&◌, not}
use Rattle.list_laws.proofs.Ranges.{any_over}
use Rattle.model.specs.Layout.{is_locked, inside, place_of}
use Rattle.model.specs.Lent.{lent_by, job_of}
use Rattle.model.specs.Buffer.{layout_of}
use Rattle.model.specs.Calls.{locked_outside}
use Rattle.causes.proofs.locked.some_outside.Goals as goal

pub returns : goal.returns
unfolding locked_outside job_of
returns c = λ pixels.
    let a = c.args in
    let j = job_of (lent_by a.size a.table.now pixels) in
    any_over (λ i. is_locked j i && not (inside j i (place_of (layout_of a.layout.now) i))) a.size.count
    _ _ _ c.any.ensures.ran (cc) (λ x b q k. search (rules, tests))
