-- `owner_at_lem`: a sheet's sides are small, so that no index overflows; a byte that is not there counts as no owner. Assumes nothing.
use Rattle.list_laws.proofs.Kit.{sym, ◌*◌, ◌<◌, ◌≤◌, ℕ, arith, le-ltb, lt-ltb, mul-le-mul, get_or-eq_default, rules}
use Rattle.cut_scan.specs.Scan.{owner_at}
use Rattle.cut_scan.proofs.owner_at.Statement.{statement}
use Rattle.cut_scan.proofs.owner_at.Tie as tie

-- a product of two small numbers
small : (a b : ℕ) → a ≤ 4096 → b ≤ 4096 → a * b ≤ 16777216
small a b h k = mul-le-mul h k

-- the place along, and the place across
along-small : (s : tie.Start) → s.args.a * s.args.grid.along ≤ 16777216
along-small s =
    let h = s.requires.1 in
    let g = s.requires.0.length in small s.args.a s.args.grid.along (omega arith) s.requires.0.along

across-small : (p : tie.Else-grid-c) → let s : tie.Start = search in s.args.c * s.args.grid.across ≤ 16777216
across-small p =
    let s : tie.Start = search in
    let h : s.args.c < s.args.grid.lines = omega arith in
    let g = s.requires.0.lines in small s.args.c s.args.grid.across (omega arith) s.requires.0.across

returns-then-grid-c : tie.Need-returns-then-grid-c
returns-then-grid-c c = rw (le-ltb _ _ c.if-grid-c.true, owner_at)

overflow_mul-index : tie.Need-overflow_mul-index
overflow_mul-index c = let s : tie.Start = search in let h = along-small s in omega arith

overflow_mul-index-2 : tie.Need-overflow_mul-index-2
overflow_mul-index-2 c = let e : tie.Else-grid-c = search in let h = across-small e in omega arith

overflow_add-index : tie.Need-overflow_add-index
overflow_add-index c =
    let s : tie.Start = search in
    let e : tie.Else-grid-c = search in
    let g = along-small s in
    let h = across-small e in omega arith

returns-then-owners-index : tie.Need-returns-then-owners-index
returns-then-owners-index c =
    let s : tie.Start = search in
    let e : tie.Else-grid-c = search in
    let h : s.args.c < s.args.grid.lines = omega arith in
    rw (lt-ltb _ _ h, owner_at) (sym (get_or-eq_default s.args.owners.now 0 c.if-owners-index.true))

returns : tie.Need-returns
returns c =
    let s : tie.Start = search in
    let e : tie.Else-grid-c = search in
    let h : s.args.c < s.args.grid.lines = omega arith in
    rw (lt-ltb _ _ h, owner_at)

pub owner_at_spec : {M : Type 1} → statement M
owner_at_spec = tie.close (tie.spec
    returns-then-grid-c overflow_mul-index overflow_mul-index-2 overflow_add-index returns-then-owners-index (search rules) returns)
