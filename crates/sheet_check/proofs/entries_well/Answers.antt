-- `sheet_check::entries_well`: what `all` answers. Assumes nothing.
use Rattle.list_laws.proofs.Kit.{rules}
use borrow.Author.Tests.{tests}
use Rattle.list_laws.proofs.Ranges.{all_over}
use Rattle.model.specs.Lent.{lent_by, job_of}
use Rattle.model.specs.Cover.{entry_well}
use Rattle.sheet_check.proofs.entries_well.Goals as goal

pub returns : goal.returns
returns c = λ pixels.
    let a = c.args in
    all_over (entry_well (job_of (lent_by a.size a.table.now pixels)) a.sheet.pieces) 64 _ _ _ c.all.ensures.ran (cc) (λ x b q k. search (rules, tests))
