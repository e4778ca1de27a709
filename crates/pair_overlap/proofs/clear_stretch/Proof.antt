-- `pair_overlap::clear_stretch`: at every shift smaller than r some strips are at most the gap apart. A walk in one line raises r, and all lines
-- are still to be walked; or it finds the line clear at r and as far on as the walk has room, and one line less is left. Where none is left, they
-- are clear at r. Assumes nothing.
use Rattle.list_laws.proofs.Kit.{◌≡◌, true, ◌+◌, ◌-◌, ◌*◌, ◌<◌, ◌≤◌, ℕ, pos_of_ne-zero, arith, rules}
use Rattle.pair_overlap.specs.Meet.{stretches_meet, shifted}
use Rattle.pair_overlap.proofs.Walk.{line_count, LineClear, LinesLeft, line_clear, clear_first, clear_none, covered_more, free_more}
use Rattle.pair_overlap.proofs.Walk.{lines_begun, lines_next, lines_done}
use Rattle.pair_overlap.proofs.clear_stretch.Statement.{statement}
use Rattle.pair_overlap.proofs.clear_stretch.Tie as tie

abbrev invariant-loop-r : tie.invariant-loop-r
invariant-loop-r a u b v gap bound lines r₀ room₀ k₀ left₀ r room k left =
    (r ≤ bound) × ((m : ℕ) → m < r → stretches_meet gap a u b (shifted m v) ≡ true)
    × LinesLeft (line_count gap) k left (LineClear gap a u b v r room) × (left < line_count gap → room + r < bound)

-- a walk that is clear leaves fewer lines, one that is not leaves at most 17 of them but a larger r
abbrev decreases-loop-r : tie.decreases-loop-r
decreases-loop-r a u b v gap bound lines r₀ room₀ k₀ left₀ r room k left = (bound - r) * 18 + left

overflow_mul-lines : tie.Need-overflow_mul-lines invariant-loop-r decreases-loop-r
overflow_mul-lines c = let few = c.requires.1.1.1 in omega arith

overflow_add-lines : tie.Need-overflow_add-lines invariant-loop-r decreases-loop-r
overflow_add-lines c = let few = c.requires.1.1.1 in omega arith

loop-r-init : tie.Need-loop-r-init invariant-loop-r decreases-loop-r
loop-r-init c = (omega arith, λ k l. absurd (omega arith), lines_begun _ 0 _ (omega arith), λ l. absurd (omega arith))

overflow_add-raised : tie.Need-overflow_add-raised invariant-loop-r decreases-loop-r
overflow_add-raised c =
    let at-start : tie.Start invariant-loop-r decreases-loop-r = search in
    omega (arith, at-start.requires)

overflow_add-w : tie.Need-overflow_add-w invariant-loop-r decreases-loop-r
overflow_add-w c =
    let at-start : tie.Start invariant-loop-r decreases-loop-r = search in
    omega (arith, at-start.requires)

overflow_add-w-in-loop-r : tie.Need-overflow_add-w-in-loop-r invariant-loop-r decreases-loop-r
overflow_add-w-in-loop-r c =
    let at-start : tie.Start invariant-loop-r decreases-loop-r = search in
    let at-loop : tie.At-loop-r invariant-loop-r decreases-loop-r = search in
    omega (arith, at-start.requires, at-loop.loop-r.invariant.2.at)

slide-s-requires : tie.Need-slide-s-requires invariant-loop-r decreases-loop-r
slide-s-requires c κs =
    let at-start : tie.Start invariant-loop-r decreases-loop-r = search in
    let at-loop : tie.At-loop-r invariant-loop-r decreases-loop-r = search in
    let p = at-start.requires in
    let near = p.1.1.0 in
    let few = p.1.1.1 in
    let in-loop : tie.In-loop-r invariant-loop-r decreases-loop-r = search in
    let l = in-loop.loop-r-test.true in
    let at = at-loop.loop-r.invariant.2.at in
    (p.0, (p.1.0, (omega arith, omega arith)))

overflow_sub-left : tie.Need-overflow_sub-left invariant-loop-r decreases-loop-r
overflow_sub-left c =
    let at-loop : tie.At-loop-r invariant-loop-r decreases-loop-r = search in
    omega (arith, at-loop.loop-r.invariant.2.some)

overflow_add-result : tie.Need-overflow_add-result invariant-loop-r decreases-loop-r
overflow_add-result c =
    let at-min : tie.After-min-room invariant-loop-r decreases-loop-r = search in
    let at-slide : tie.After-slide-s invariant-loop-r decreases-loop-r = search in
    let in-loop : tie.In-loop-r invariant-loop-r decreases-loop-r = search in
    let at-start : tie.Start invariant-loop-r decreases-loop-r = search in
    let short = at-slide.slide-s.ensures.short in
    let least = at-min.min-room.ensures in
    let few = at-start.requires.1.1.1 in
    let l = in-loop.loop-r-test.true in
    omega arith

overflow_add-result-then-left-eq0 : tie.Need-overflow_add-result-then-left-eq0 invariant-loop-r decreases-loop-r
overflow_add-result-then-left-eq0 c =
    let at-min : tie.After-min-room invariant-loop-r decreases-loop-r = search in
    let at-slide : tie.After-slide-s invariant-loop-r decreases-loop-r = search in
    let in-loop : tie.In-loop-r invariant-loop-r decreases-loop-r = search in
    let at-start : tie.Start invariant-loop-r decreases-loop-r = search in
    let short = at-slide.slide-s.ensures.short in
    let least = at-min.min-room.ensures in
    let few = at-start.requires.1.1.1 in
    let l = in-loop.loop-r-test.true in
    omega arith

returns-then-left-eq0 : tie.Need-returns-then-left-eq0 invariant-loop-r decreases-loop-r
returns-then-left-eq0 c =
    let at-then1 : tie.Then-s-eq0 invariant-loop-r decreases-loop-r = search in
    let at-min : tie.After-min-room invariant-loop-r decreases-loop-r = search in
    let at-slide : tie.After-slide-s invariant-loop-r decreases-loop-r = search in
    let in-loop : tie.In-loop-r invariant-loop-r decreases-loop-r = search in
    let at-loop : tie.At-loop-r invariant-loop-r decreases-loop-r = search in
    let at-start : tie.Start invariant-loop-r decreases-loop-r = search in
    let s = at-start.args in
    let w = at-loop.loop-r in
    let r = at-slide.slide-s.result in
    let room = at-min.min-room.result in
    let least = at-min.min-room.ensures in
    let short = at-slide.slide-s.ensures.short in
    let l = in-loop.loop-r-test.true in
    let some = w.invariant.2.some in
    let last = c.if-left-eq0.true in
    let free =
    free_more s.gap s.a.now s.u s.b.now s.v w.r room
    (lines_done (line_count s.gap) w.k w.left (LineClear s.gap s.a.now s.u s.b.now s.v w.r w.room)
    (LineClear s.gap s.a.now s.u s.b.now s.v w.r room) w.invariant.2
    (λ m f q n. f q (omega arith))
    (λ q n.
    line_clear s.gap s.a.now s.u s.b.now s.v w.r r.room w.k (at-slide.slide-s.ensures.free at-then1.if-s-eq0.true) q
    (omega arith))
    (omega arith)) in
    record {
      least =
          clear_first s.gap s.a.now s.u s.b.now s.v s.bound w.r w.invariant.0 w.invariant.1 (free w.r (omega arith) (omega arith));
      some = λ m. omega arith;
      order = omega arith;
      within = omega arith;
      free = λ k a b. free k a (omega arith);
    }

next_line-k-requires : tie.Need-next_line-k-requires invariant-loop-r decreases-loop-r
next_line-k-requires c κs =
    let at-loop : tie.At-loop-r invariant-loop-r decreases-loop-r = search in
    let at-start : tie.Start invariant-loop-r decreases-loop-r = search in
    let few = at-start.requires.1.1.1 in
    let at = at-loop.loop-r.invariant.2.at in
    omega arith

loop-r-smaller-then-s-eq0 : tie.Need-loop-r-smaller-then-s-eq0 invariant-loop-r decreases-loop-r
loop-r-smaller-then-s-eq0 c =
    let at-loop : tie.At-loop-r invariant-loop-r decreases-loop-r = search in
    omega (arith, at-loop.loop-r.invariant.2.some)

loop-r-preserved-then-s-eq0 : tie.Need-loop-r-preserved-then-s-eq0 invariant-loop-r decreases-loop-r
loop-r-preserved-then-s-eq0 c =
    let at-then1 : tie.Then-s-eq0 invariant-loop-r decreases-loop-r = search in
    let at-min : tie.After-min-room invariant-loop-r decreases-loop-r = search in
    let at-slide : tie.After-slide-s invariant-loop-r decreases-loop-r = search in
    let in-loop : tie.In-loop-r invariant-loop-r decreases-loop-r = search in
    let at-loop : tie.At-loop-r invariant-loop-r decreases-loop-r = search in
    let at-start : tie.Start invariant-loop-r decreases-loop-r = search in
    let s = at-start.args in
    let w = at-loop.loop-r in
    let r = at-slide.slide-s.result in
    let room = at-min.min-room.result in
    let least = at-min.min-room.ensures in
    let short = at-slide.slide-s.ensures.short in
    let l = in-loop.loop-r-test.true in
    let some = w.invariant.2.some in
    let more = pos_of_ne-zero c.before.if-left-eq0.false in (
      w.invariant.0,
      w.invariant.1,
      lines_next (line_count s.gap) w.k w.left (LineClear s.gap s.a.now s.u s.b.now s.v w.r w.room)
          (LineClear s.gap s.a.now s.u s.b.now s.v w.r room) w.invariant.2
          (λ m f q n. f q (omega arith))
          (λ q n.
          line_clear s.gap s.a.now s.u s.b.now s.v w.r r.room w.k (at-slide.slide-s.ensures.free at-then1.if-s-eq0.true) q
          (omega arith))
          c.next_line-k.result c.next_line-k.ensures (omega arith),
      λ m. omega arith,
    )

overflow_add-r : tie.Need-overflow_add-r invariant-loop-r decreases-loop-r
overflow_add-r c =
    let at-slide : tie.After-slide-s invariant-loop-r decreases-loop-r = search in
    let at-start : tie.Start invariant-loop-r decreases-loop-r = search in
    omega (arith, at-slide.slide-s.ensures.within, at-start.requires.1.1.1)

loop-r-smaller : tie.Need-loop-r-smaller invariant-loop-r decreases-loop-r
loop-r-smaller c =
    let at-slide : tie.After-slide-s invariant-loop-r decreases-loop-r = search in
    let at-loop : tie.At-loop-r invariant-loop-r decreases-loop-r = search in
    let at-start : tie.Start invariant-loop-r decreases-loop-r = search in
    let few = at-start.requires.1.1.1 in
    let some = at-loop.loop-r.invariant.2.some in
    let z = pos_of_ne-zero c.before.if-s-eq0.false in omega (arith, at-slide.slide-s.ensures.within)

loop-r-preserved : tie.Need-loop-r-preserved invariant-loop-r decreases-loop-r
loop-r-preserved c =
    let at-slide : tie.After-slide-s invariant-loop-r decreases-loop-r = search in
    let at-loop : tie.At-loop-r invariant-loop-r decreases-loop-r = search in
    let at-start : tie.Start invariant-loop-r decreases-loop-r = search in
    let s = at-start.args in
    let w = at-loop.loop-r in
    let at = w.invariant.2.at in (
      omega (arith, at-slide.slide-s.ensures.within),
      covered_more s.gap s.a.now s.u s.b.now s.v w.r at-slide.slide-s.result.shift w.k at w.invariant.1
          at-slide.slide-s.ensures.covered,
      lines_begun _ w.k _ at,
      λ l. absurd (omega arith),
    )

returns : tie.Need-returns invariant-loop-r decreases-loop-r
returns c =
    let s = c.before.before.args in
    let w = c.before.loop-r in
    let l = c.loop-r-test.false in
    record {
      least = clear_none s.gap s.a.now s.u s.b.now s.v s.bound w.r (omega arith) w.invariant.1;
      some = λ m. absurd (omega arith);
      order = omega arith;
      within = omega arith;
      free = λ k a b. absurd (omega arith);
    }

pub clear_stretch_spec : {M : Type 1} → statement M
clear_stretch_spec =
    tie.close (tie.spec
    invariant-loop-r decreases-loop-r overflow_mul-lines overflow_add-lines loop-r-init overflow_add-raised overflow_add-w overflow_add-w-in-loop-r
    (search rules) slide-s-requires (λ c κs. search rules) overflow_sub-left overflow_add-result overflow_add-result-then-left-eq0
    returns-then-left-eq0 next_line-k-requires loop-r-smaller-then-s-eq0 loop-r-preserved-then-s-eq0 overflow_add-r loop-r-smaller loop-r-preserved
    returns)
