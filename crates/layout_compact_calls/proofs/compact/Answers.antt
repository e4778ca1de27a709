-- `layout_compact_calls::compact`: the check refuses, or the layout is pushed, and what is claimed of the push holds. Assumes nothing.
use Rattle.list_laws.proofs.Kit.{rules}
use Rattle.model.specs.Lent.{lent_by}
use Rattle.layout_compact_calls.proofs.Outcomes.{passed_claims}
use Rattle.layout_compact_calls.proofs.compact.Goals as goal

pub returns-clause-claims : goal.returns-clause-claims
returns-clause-claims c = λ n told.
    passed_claims (lent_by c.args.size c.args.table.now c.args.pixels.now) c.args.layout.now _ n _ (search rules) c.push_layout.ensures.slid
    c.push_layout.ensures.layout told
