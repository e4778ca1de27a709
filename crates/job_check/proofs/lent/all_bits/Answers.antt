-- `job_check::lent::all_bits`: what `all` answers of the bytes below the bound. Assumes nothing.
use Rattle.std.proofs.Common.{rules, take}
use borrow.Author.Tests.{tests}
use Rattle.std.proofs.lemmas.Iterator.{YieldsList-from_slice}
use Rattle.std.proofs.lemmas.Iterator.Search.{all_from_yields_List}
use Rattle.list_laws.proofs.Kit.{◌∙◌, leb, arith}
use Rattle.list_laws.proofs.Ranges.{all_in_front}
use Rattle.job_check.proofs.lent.all_bits.Goals as goal

pub returns : goal.returns
returns c =
    all_from_yields_List (λ b. leb b 1) _ _ _ c.all.ensures.ran (YieldsList-from_slice (take c.args.count c.args.bytes.now) (cc)) (λ x b q k. search (rules, tests))
    ∙ all_in_front (λ b. leb b 1) c.args.bytes.now 0 c.args.count (omega arith)
