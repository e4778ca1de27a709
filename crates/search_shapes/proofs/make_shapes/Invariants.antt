-- `search_shapes::make_shapes`: the shapes with numbers below k stand in the store, and the next one begins at `at`, which is at most the
-- number of box pixels passed. Assumes nothing.
use Rattle.model.specs.Lent.{lent_by}
use Rattle.search_shapes.proofs.Making.{Made}
use Rattle.search_shapes.proofs.make_shapes.Given as goal

abbrev pub invariant-loop-k : goal.invariant-loop-k
invariant-loop-k l = Made l.direction (lent_by l.fn.size l.table l.pixels) l.store l.starts l.k l.at
