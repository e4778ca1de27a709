-- `job_check::lent::entries_fit`: what `all` answers. Assumes nothing.
use Rattle.std.proofs.Common.{rules}
use borrow.Author.Tests.{tests}
use Rattle.list_laws.proofs.Ranges.{all_over}
use Rattle.model.specs.Lent.{entry_fits}
use Rattle.job_check.proofs.lent.entries_fit.Goals as goal

pub returns : goal.returns
returns c = all_over (entry_fits c.args.size c.args.table.now) c.args.size.count _ _ _ c.all.ensures.ran (cc) (λ x b q k. search (rules, tests))
