-- `job_check::lent::entries_in_range`: what `all` answers. Assumes nothing.
use Rattle.std.proofs.Common.{rules}
use borrow.Author.Tests.{tests}
use Rattle.list_laws.proofs.Ranges.{all_over}
use Rattle.model.specs.Lent.{entry_in_range}
use Rattle.job_check.proofs.lent.entries_in_range.Goals as goal

pub returns : goal.returns
returns c = all_over (entry_in_range c.args.table.now) c.args.count _ _ _ c.all.ensures.ran (cc) (λ x b q k. search (rules, tests))
