-- `search_line_sums::below_from` meets its contract: `any` asks the sums from the place on, and before it none is below the bound. Assumes nothing.
use Rattle.std.proofs.Common.{rules}
use borrow.Author.Tests.{tests}
use Rattle.std.proofs.lemmas.Iterator.{YieldsList-from_slice}
use Rattle.std.proofs.lemmas.Iterator.Search.{any_from_yields_List}
use Rattle.list_laws.proofs.Kit.{◌∙◌, ◌-◌, arith, drop, length, length-drop, ltb, take_all}
use Rattle.search_line_sums.proofs.Scans.{below_tail}
use Rattle.search_line_sums.proofs.below_from.Goals as goal

pub returns : goal.returns
returns c =
    let sums = c.args.sums.now in
    let rest = c.iter.ensures.rest ∙ take_all (length sums - c.args.from) (drop c.args.from sums) (simp length-drop (omega arith)) in
    any_from_yields_List (λ sum. ltb sum c.args.bound) _ _ _ c.any.ensures.ran (YieldsList-from_slice _ rest) (λ x b q k. search (rules, tests))
    ∙ below_tail sums c.args.bound c.args.from c.requires
