-- `strip_rebuild_calls::side_in_range` meets its contract. Assumes nothing.
use Rattle.list_laws.proofs.Kit.{◌<◌, ◌≤◌, arith, le-leb, lt-leb}
use Rattle.strip_rebuild_calls.proofs.side_in_range.Statement.{statement}
use Rattle.strip_rebuild_calls.proofs.side_in_range.Tie as tie

returns-then-side-eq0 : tie.Need-returns-then-side-eq0
returns-then-side-eq0 c = let h : c.args.side < 1 = omega arith in simp (lt-leb 1 _ h)

returns : tie.Need-returns
returns c = let h : 1 ≤ c.args.side = omega arith in simp (le-leb 1 _ h)

pub side_in_range_spec : {M : Type 1} → statement M
side_in_range_spec = tie.close (tie.spec
    returns-then-side-eq0 returns)
