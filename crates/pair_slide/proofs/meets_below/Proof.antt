-- `pair_slide::meets_below`: at no shift smaller than r are two strips at most the gap apart. Where the search for clear shifts from r on does
-- not begin with 0, some are at r, and r is the least such shift; else all shifts of the stretch that it finds are passed, and there is one
-- at least. Assumes nothing.
use Rattle.list_laws.proofs.Kit.{◌-◌, ◌≤◌, arith, rules}
use Rattle.pair_overlap.specs.Meet.{shifted}
use Rattle.pair_slide.proofs.Slide.{FreeBelow, free_on, meets_now, meets_first, meets_none}
use Rattle.pair_slide.proofs.meets_below.Statement.{statement}
use Rattle.pair_slide.proofs.meets_below.Tie as tie

abbrev invariant-loop-r : tie.invariant-loop-r
invariant-loop-r a u b v gap bound r₀ r = (r ≤ bound) × FreeBelow gap a u b v r

abbrev decreases-loop-r : tie.decreases-loop-r
decreases-loop-r a u b v gap bound r₀ r = bound - r

loop-r-init : tie.Need-loop-r-init invariant-loop-r decreases-loop-r
loop-r-init c = (omega arith, λ m l. absurd (omega arith))

overflow_add-w : tie.Need-overflow_add-w invariant-loop-r decreases-loop-r
overflow_add-w c =
    let at-start : tie.Start invariant-loop-r decreases-loop-r = search in
    omega (arith, at-start.requires.1.1.0)

clear_stretch-s-requires : tie.Need-clear_stretch-s-requires invariant-loop-r decreases-loop-r
clear_stretch-s-requires c κs =
    let at-min : tie.After-min-ahead invariant-loop-r decreases-loop-r = search in
    let at-start : tie.Start invariant-loop-r decreases-loop-r = search in
    let p = at-start.requires in
    let near = p.1.1.0 in
    let few = p.1.1.1 in
    let least = at-min.min-ahead.ensures in
    (p.0, (p.1.0, (omega arith, omega arith)))

returns-then-s-ne0 : tie.Need-returns-then-s-ne0 invariant-loop-r decreases-loop-r
returns-then-s-ne0 c =
    let at_clear : tie.After-clear_stretch-s invariant-loop-r decreases-loop-r = search in
    let at-min : tie.After-min-ahead invariant-loop-r decreases-loop-r = search in
    let at-loop : tie.At-loop-r invariant-loop-r decreases-loop-r = search in
    let at-start : tie.Start invariant-loop-r decreases-loop-r = search in
    let s = at-start.args in
    let w = at-loop.loop-r in
    meets_first s.gap s.a.now s.u s.b.now s.v s.bound w.r w.invariant.0 w.invariant.1
    (meets_now s.gap s.a.now s.u s.b.now (shifted w.r s.v) at-min.min-ahead.result at_clear.clear_stretch-s.result.first
    at_clear.clear_stretch-s.ensures.least c.if-s-ne0.true)

overflow_add-r : tie.Need-overflow_add-r invariant-loop-r decreases-loop-r
overflow_add-r c =
    let at_clear : tie.After-clear_stretch-s invariant-loop-r decreases-loop-r = search in
    let at-min : tie.After-min-ahead invariant-loop-r decreases-loop-r = search in
    omega (arith, at_clear.clear_stretch-s.ensures.within, at-min.min-ahead.ensures)

loop-r-smaller : tie.Need-loop-r-smaller invariant-loop-r decreases-loop-r
loop-r-smaller c =
    let at-else : tie.Else-s-ne0 invariant-loop-r decreases-loop-r = search in
    let at_clear : tie.After-clear_stretch-s invariant-loop-r decreases-loop-r = search in
    let at-min : tie.After-min-ahead invariant-loop-r decreases-loop-r = search in
    let in-loop : tie.In-loop-r invariant-loop-r decreases-loop-r = search in
    let zero = at-else.if-s-ne0.false in
    let l = in-loop.loop-r-test.true in
    let least = at-min.min-ahead.ensures in
    omega (arith, at_clear.clear_stretch-s.ensures.some (omega arith))

loop-r-preserved : tie.Need-loop-r-preserved invariant-loop-r decreases-loop-r
loop-r-preserved c =
    let at-else : tie.Else-s-ne0 invariant-loop-r decreases-loop-r = search in
    let at_clear : tie.After-clear_stretch-s invariant-loop-r decreases-loop-r = search in
    let at-min : tie.After-min-ahead invariant-loop-r decreases-loop-r = search in
    let at-loop : tie.At-loop-r invariant-loop-r decreases-loop-r = search in
    let at-start : tie.Start invariant-loop-r decreases-loop-r = search in
    let s = at-start.args in
    let w = at-loop.loop-r in
    let found = at_clear.clear_stretch-s.ensures in
    let zero = at-else.if-s-ne0.false in
    let least = at-min.min-ahead.ensures in (
      omega (arith, found.within),
      free_on s.gap s.a.now s.u s.b.now s.v w.r at_clear.clear_stretch-s.result.end w.invariant.1
          (λ k l. found.free k (omega arith) l),
    )

returns : tie.Need-returns invariant-loop-r decreases-loop-r
returns c =
    let s = c.before.before.args in
    let w = c.before.loop-r in
    let l = c.loop-r-test.false in
    meets_none s.gap s.a.now s.u s.b.now s.v s.bound w.r (omega arith) w.invariant.1

pub meets_below_spec : {M : Type 1} → statement M
meets_below_spec =
    tie.close (tie.spec
    invariant-loop-r decreases-loop-r loop-r-init overflow_add-w (search rules) (λ c κs. search rules) clear_stretch-s-requires returns-then-s-ne0
    overflow_add-r loop-r-smaller loop-r-preserved returns)
