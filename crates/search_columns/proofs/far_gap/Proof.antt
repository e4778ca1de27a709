-- `search_columns::far_gap` meets its contract: words are read until one has a clear bit. Assumes nothing.
use Rattle.list_laws.proofs.Kit.{◌≡◌, subst, ◌*◌, ◌-◌, arith, length}
use Rattle.search_columns.specs.Column.{Walled}
use Rattle.search_columns.proofs.Gaps.{GapGoing, gap_start, gap_next, gap_end}
use Rattle.search_columns.proofs.far_gap.Statement.{statement}
use Rattle.search_columns.proofs.far_gap.Tie as tie

abbrev invariant-loop-k : tie.invariant-loop-k
invariant-loop-k ws p n₀ k₀ n k = (h : Walled ws p) → GapGoing ws p h n k

abbrev decreases-loop-k : tie.decreases-loop-k
decreases-loop-k ws p n₀ k₀ n k = length ws * 64 - n

gap_within-k-requires : tie.Need-gap_within-k-requires invariant-loop-k decreases-loop-k
gap_within-k-requires c κs =
    let at-start : tie.Start invariant-loop-k decreases-loop-k = search in
    let h = at-start.requires in
    (omega arith, omega (arith, h.high), h.room)

loop-k-init : tie.Need-loop-k-init invariant-loop-k decreases-loop-k
loop-k-init c =
    let at-start : tie.Start invariant-loop-k decreases-loop-k = search in
    λ h. gap_start at-start.args.ws.now at-start.args.p h _ c.gap_within-k.ensures

-- a word without a clear bit lies within the reach
going : (c : tie.In-loop-k invariant-loop-k decreases-loop-k)
    →
    let at-start : tie.Start invariant-loop-k decreases-loop-k = search in
    (h : Walled at-start.args.ws.now at-start.args.p) → GapGoing at-start.args.ws.now at-start.args.p h c.before.loop-k.n 64
going c h =
    let at-start : tie.Start invariant-loop-k decreases-loop-k = search in
    let o = c.before.loop-k in
    let e : o.k ≡ 64 = c.loop-k-test.true in
    subst (GapGoing at-start.args.ws.now at-start.args.p h o.n) e (o.invariant h)

overflow_add-n : tie.Need-overflow_add-n invariant-loop-k decreases-loop-k
overflow_add-n c =
    let at-start : tie.Start invariant-loop-k decreases-loop-k = search in
    let h = at-start.requires in
    omega (arith, (going c h).near, h.high, h.room)

gap_within-k-requires-in-loop-k : tie.Need-gap_within-k-requires-in-loop-k invariant-loop-k decreases-loop-k
gap_within-k-requires-in-loop-k c κs =
    let at-start : tie.Start invariant-loop-k decreases-loop-k = search in
    let h = at-start.requires in
    let l = (going c h).near in
    (omega (arith, h.low), omega (arith, h.high), h.room)

loop-k-smaller : tie.Need-loop-k-smaller invariant-loop-k decreases-loop-k
loop-k-smaller c =
    let at-start : tie.Start invariant-loop-k decreases-loop-k = search in
    let at_in : tie.In-loop-k invariant-loop-k decreases-loop-k = search in
    let h = at-start.requires in
    omega (arith, (going at_in h).near, h.high)

loop-k-preserved : tie.Need-loop-k-preserved invariant-loop-k decreases-loop-k
loop-k-preserved c =
    let at-start : tie.Start invariant-loop-k decreases-loop-k = search in
    let at_in : tie.In-loop-k invariant-loop-k decreases-loop-k = search in
    λ h. gap_next at-start.args.ws.now at-start.args.p h at_in.before.loop-k.n _ (going at_in h) c.gap_within-k-in-loop-k.ensures

overflow_add-result : tie.Need-overflow_add-result invariant-loop-k decreases-loop-k
overflow_add-result c =
    let at-start : tie.Start invariant-loop-k decreases-loop-k = search in
    let h = at-start.requires in
    omega (arith, (c.before.loop-k.invariant h).near, h.high, h.room)

returns : tie.Need-returns invariant-loop-k decreases-loop-k
returns c =
    let at-start : tie.Start invariant-loop-k decreases-loop-k = search in
    let h = at-start.requires in
    let o = c.before.loop-k in
    let g = o.invariant h in
    gap_end at-start.args.ws.now at-start.args.p h o.n o.k g (omega (arith, c.loop-k-test.false, g.within.few))

pub far_gap_spec : {M : Type 1} → statement M
far_gap_spec = tie.close (tie.spec
    invariant-loop-k decreases-loop-k gap_within-k-requires loop-k-init overflow_add-n gap_within-k-requires-in-loop-k loop-k-smaller loop-k-preserved
    overflow_add-result returns)
