-- `causes::some_weight_wrong`: what `any` answers. Assumes nothing.
use Rattle.std.proofs.Common.{rules}
use borrow.Author.Tests.{tests}
use Rattle.std.proofs.lemmas.Iterator.{YieldsList-from_slice}
use Rattle.std.proofs.lemmas.Iterator.Search.{any_from_yields_List}
use Rattle.list_laws.proofs.Kit.{◌∙◌, ◌||◌, eqb, ltb}
use Rattle.model.specs.Guided.{weight_bound}
use Rattle.causes.proofs.Weights.{some_out_of_range}
use Rattle.causes.proofs.some_weight_wrong.Goals as goal

pub returns : goal.returns
returns c =
    any_from_yields_List (λ w. eqb w 0 || ltb weight_bound w) _ _ _ c.any.ensures.ran (YieldsList-from_slice c.args.weights.now (cc))
    (λ x b q k. search (rules, tests))
    ∙ some_out_of_range c.args.weights.now
