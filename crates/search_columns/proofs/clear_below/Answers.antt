-- `search_columns::clear_below`: the bits up to p, turned over and moved to the top.
use Rattle.search_columns.proofs.Gaps.{below_from}
use Rattle.search_columns.proofs.clear_below.Goals as goal

pub returns : goal.returns
returns c = below_from c.args.ws.now c.args.p _ _ c.min-s.ensures c.bits_at.ensures
