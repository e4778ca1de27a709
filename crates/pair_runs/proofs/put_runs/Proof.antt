-- `pair_runs::put_runs`: the runs that are left are still to be put. Assumes nothing.
use Rattle.list_laws.proofs.Kit.{◌-◌, arith}
use Rattle.pair_runs.specs.Runs.{offset_count}
use Rattle.pair_runs.proofs.Putting.{Putting, putting_start, putting_more, putting_end, next_later}
use Rattle.pair_runs.proofs.put_runs.Statement.{statement}
use Rattle.pair_runs.proofs.put_runs.Tie as tie

abbrev invariant-loop-k : tie.invariant-loop-k
invariant-loop-k marks out₀ at₀ k₀ out at k = Putting marks out₀ out at k

abbrev decreases-loop-k : tie.decreases-loop-k
decreases-loop-k marks out₀ at₀ k₀ out at k = offset_count - k

loop-k-init : tie.Need-loop-k-init invariant-loop-k decreases-loop-k
loop-k-init c = putting_start _ _

next_place-first-requires : tie.Need-next_place-first-requires invariant-loop-k decreases-loop-k
next_place-first-requires c κs =
    let at-start : tie.Start invariant-loop-k decreases-loop-k = search in
    (c.before.loop-k.invariant.within, at-start.requires)

next_place-end-requires : tie.Need-next_place-end-requires invariant-loop-k decreases-loop-k
next_place-end-requires c κs =
    let at-start : tie.Start invariant-loop-k decreases-loop-k = search in
    (c.next_place-first.ensures.high, at-start.requires)

overflow_sub-end : tie.Need-overflow_sub-end invariant-loop-k decreases-loop-k
overflow_sub-end c = omega (arith, c.before.next_place-end.ensures.low)

put_run-at-requires : tie.Need-put_run-at-requires invariant-loop-k decreases-loop-k
put_run-at-requires c κs =
    let at-loop : tie.At-loop-k invariant-loop-k decreases-loop-k = search in
    let w = at-loop.loop-k.invariant in
    (omega arith, c.before.next_place-end.ensures.high, omega (arith, w.low, w.within))

loop-k-smaller : tie.Need-loop-k-smaller invariant-loop-k decreases-loop-k
loop-k-smaller c =
    let in-loop : tie.In-loop-k invariant-loop-k decreases-loop-k = search in
    let at-loop : tie.At-loop-k invariant-loop-k decreases-loop-k = search in
    let at-start : tie.Start invariant-loop-k decreases-loop-k = search in
    let at_first : tie.After-next_place-first invariant-loop-k decreases-loop-k = search in
    let at-end : tie.After-next_place-end invariant-loop-k decreases-loop-k = search in
    let p = at_first.next_place-first.ensures in
    let q = at-end.next_place-end.ensures in
    omega (arith, q.high, next_later at-start.args.marks.now at-loop.loop-k.k _ _ p q in-loop.loop-k-test.true)

loop-k-preserved : tie.Need-loop-k-preserved invariant-loop-k decreases-loop-k
loop-k-preserved c =
    let in-loop : tie.In-loop-k invariant-loop-k decreases-loop-k = search in
    let at-loop : tie.At-loop-k invariant-loop-k decreases-loop-k = search in
    let at-start : tie.Start invariant-loop-k decreases-loop-k = search in
    let at_first : tie.After-next_place-first invariant-loop-k decreases-loop-k = search in
    let at-end : tie.After-next_place-end invariant-loop-k decreases-loop-k = search in
    let a = at-start.args in
    let w = at-loop.loop-k in
    putting_more a.marks.now a.out.now w.out w.at w.k w.invariant _ _ in-loop.loop-k-test.true
    at_first.next_place-first.ensures at-end.next_place-end.ensures _ _ c.before.put_run-at.ensures

shape_of-out : tie.Need-shape_of-out invariant-loop-k decreases-loop-k
shape_of-out c = c.before.loop-k.invariant.same

returns : tie.Need-returns invariant-loop-k decreases-loop-k
returns c =
    let at-start : tie.Start invariant-loop-k decreases-loop-k = search in
    let a = at-start.args in
    let w = c.before.loop-k in
    putting_end a.marks.now a.out.now w.out w.at w.k w.invariant c.loop-k-test.false

pub put_runs_spec : {M : Type 1} → statement M
put_runs_spec =
    tie.close (tie.spec
    invariant-loop-k decreases-loop-k loop-k-init next_place-first-requires next_place-end-requires overflow_sub-end put_run-at-requires
    loop-k-smaller loop-k-preserved shape_of-out returns)
