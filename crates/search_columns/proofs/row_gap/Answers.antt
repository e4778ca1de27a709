-- `search_columns::row_gap`: what one word around p tells, or else word by word.
use Rattle.list_laws.proofs.Kit.{arith}
use Rattle.search_columns.proofs.Gaps.{near_within, far_within}
use Rattle.search_columns.proofs.row_gap.Goals as goal

pub returns-then-k-lt-HALF : goal.returns-then-k-lt-HALF
returns-then-k-lt-HALF c =
    near_within c.args.ws.now c.args.p c.args.bound _ _ (omega arith) c.near_gap.ensures c.min-k.ensures (omega arith)

pub returns : goal.returns
returns c = rw c.min.ensures (far_within _ c.args.bound _ c.far_gap.ensures)
