-- `cut_lines`: behind a check that passes the layout's lines are stored where there is room, and what is claimed of them holds. Assumes nothing.
use Rattle.list_laws.proofs.Kit.{rules}
use Rattle.model.specs.Lent.{lent_by}
use Rattle.cut_line_calls.proofs.Outcomes.{passed_claims}
use Rattle.cut_line_calls.proofs.cut_lines.Goals as goal

pub returns-clause-claims : goal.returns-clause-claims
returns-clause-claims c = λ n told.
    passed_claims (lent_by c.args.size c.args.table.now c.args.pixels.now) c.args.layout.now _ n (search rules) c.layout_lines.ensures.answer told
