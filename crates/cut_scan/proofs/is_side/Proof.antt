-- `is_side`: before line 0 there is no owner. Assumes nothing.
use Rattle.list_laws.proofs.Kit.{rules}
use Rattle.cut_scan.proofs.Rows.{side_first, side_later}
use Rattle.cut_scan.proofs.is_side.Statement.{statement}
use Rattle.cut_scan.proofs.is_side.Tie as tie

returns-then-c-eq0 : tie.Need-returns-then-c-eq0
returns-then-c-eq0 c =
    let s : tie.Start = search in
    let after : tie.After-owner_at-after = search in
    side_first s.args.owners.now s.args.grid s.args.a s.args.c _ c.if-c-eq0.true after.owner_at-after.ensures

returns : tie.Need-returns
returns c =
    let s : tie.Start = search in
    let after : tie.After-owner_at-after = search in
    let e : tie.Else-c-eq0 = search in
    side_later s.args.owners.now s.args.grid s.args.a s.args.c _ _ e.if-c-eq0.false after.owner_at-after.ensures c.owner_at.ensures

pub is_side_spec : {M : Type 1} → statement M
is_side_spec = tie.close (tie.spec
    (search rules) returns-then-c-eq0 (search rules) (search rules) returns)
