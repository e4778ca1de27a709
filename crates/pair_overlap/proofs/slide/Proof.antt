-- `pair_overlap::slide`: while nothing was pushed, no two strips that cross are passed, nor any that cross at a shift up to the room; and
-- each shift smaller than the one so far has two strips that cross: a pair that meets goes on meeting until the shift takes the
-- second strip the gap past the end of the first. Each turn passes a strip. Assumes nothing.
use Rattle.list_laws.proofs.Kit.{◌≡◌, inl, inr, ◌+◌, ◌-◌, ◌<◌, ◌≤◌, ℕ, arith, length, rules}
use Rattle.pair_overlap.specs.Meet.{CrossingsPassed, shifted}
use Rattle.pair_overlap.proofs.Walk.{CrossingFound, pass_first, pass_second, found_meets, passed_free, pushed}
use Rattle.pair_overlap.proofs.slide.Statement.{statement}
use Rattle.pair_overlap.proofs.slide.Tie as tie

abbrev invariant-loop-i : tie.invariant-loop-i
invariant-loop-i a b gap limit x y t₀ room₀ i₀ j₀ t room i j =
    (i ≤ length a) × (j ≤ length b) × (t < limit) × (t ≡ 0 → (m : ℕ) → m ≤ room → CrossingsPassed gap a x b (y + m) i j)
    × ((m : ℕ) → m < t → CrossingFound gap a x b (y + m)) × (room < limit)

abbrev decreases-loop-i : tie.decreases-loop-i
decreases-loop-i a b gap limit x y t₀ room₀ i₀ j₀ t room i j = (length a - i) + (length b - j)

walk_start-start-requires : tie.Need-walk_start-start-requires invariant-loop-i decreases-loop-i
walk_start-start-requires c κs =
    let p = c.before.before.requires in
    (p.0, (p.1.0, omega (arith, c.before.base-x.ensures, c.base-y.ensures, c.before.before.requires.1.1.0)))

overflow_sub-room : tie.Need-overflow_sub-room invariant-loop-i decreases-loop-i
overflow_sub-room c =
    let at-start : tie.Start invariant-loop-i decreases-loop-i = search in
    let few = at-start.requires.1.1.1 in omega arith

loop-i-init : tie.Need-loop-i-init invariant-loop-i decreases-loop-i
loop-i-init c =
    let at-start : tie.Start invariant-loop-i decreases-loop-i = search in
    let w = c.walk_start-start.ensures in
    let few = at-start.requires.1.1.1 in
    let gap = at-start.args.gap in
    (w.first, w.second, omega arith, λ e m l. w.onwards gap m few.0 (omega arith), λ m l. absurd (omega arith), omega arith)

returns-then-b-j : tie.Need-returns-then-b-j invariant-loop-i decreases-loop-i
returns-then-b-j c =
    let at-base2 : tie.After-base-y invariant-loop-i decreases-loop-i = search in
    let at_base : tie.After-base-x invariant-loop-i decreases-loop-i = search in
    let at-start : tie.Start invariant-loop-i decreases-loop-i = search in
    let s = at-start.args in
    let near = at-start.requires.1.1.0 in
    let few = at-start.requires.1.1.1 in
    let inv = c.before.before.loop-i.invariant in
    record {
      within = omega arith;
      covered =
          λ k l.
          found_meets s.gap s.a.now s.u s.b.now (shifted k s.v) at_base.base-x.result (at-base2.base-y.result + k) at_base.base-x.ensures
          (omega (arith, at-base2.base-y.ensures)) (omega arith) (omega arith) few.0 (inv.4 k l);
      free =
          λ e k l.
          passed_free s.gap s.a.now s.u s.b.now (shifted k s.v) at_base.base-x.result (at-base2.base-y.result + k) at_base.base-x.ensures
          (omega (arith, at-base2.base-y.ensures)) _ _ (inr c.if-b-j.true) (inv.3 e k l);
      short = inv.5;
    }

span_at-p-requires : tie.Need-span_at-p-requires invariant-loop-i decreases-loop-i
span_at-p-requires c κs =
    let at_base : tie.After-base-x invariant-loop-i decreases-loop-i = search in
    let at-start : tie.Start invariant-loop-i decreases-loop-i = search in
    omega (arith, at_base.base-x.ensures, at-start.requires.1.1.0)

overflow_add-y : tie.Need-overflow_add-y invariant-loop-i decreases-loop-i
overflow_add-y c =
    let at-base2 : tie.After-base-y invariant-loop-i decreases-loop-i = search in
    let at-start : tie.Start invariant-loop-i decreases-loop-i = search in
    omega (arith, at-base2.base-y.ensures, at-start.requires.1.1)

span_at-q-requires : tie.Need-span_at-q-requires invariant-loop-i decreases-loop-i
span_at-q-requires c κs =
    let at-base2 : tie.After-base-y invariant-loop-i decreases-loop-i = search in
    let at-start : tie.Start invariant-loop-i decreases-loop-i = search in
    omega (arith, at-base2.base-y.ensures, at-start.requires.1.1)

loop-i-preserved-then-p-q : tie.Need-loop-i-preserved-then-p-q invariant-loop-i decreases-loop-i
loop-i-preserved-then-p-q c =
    let at-span-at2 : tie.After-span_at-q invariant-loop-i decreases-loop-i = search in
    let at-span-at : tie.After-span_at-p invariant-loop-i decreases-loop-i = search in
    let at-loop : tie.At-loop-i invariant-loop-i decreases-loop-i = search in
    let at-base2 : tie.After-base-y invariant-loop-i decreases-loop-i = search in
    let at_base : tie.After-base-x invariant-loop-i decreases-loop-i = search in
    let at-start : tie.Start invariant-loop-i decreases-loop-i = search in
    let p = at-span-at.span_at-p.ensures in
    let q = at-span-at2.span_at-q.ensures in
    let s = at-start.args in
    let w = at-loop.loop-i in (
      omega arith,
      omega arith,
      w.invariant.2,
      λ e m l.
          pass_first s.gap s.a.now at_base.base-x.result s.b.now (at-base2.base-y.result + m) w.i w.j at-start.requires.1.0
          (w.invariant.3 e m l)
          (omega (arith, c.if-p-q.true)),
      w.invariant.4,
      w.invariant.5,
    )

overflow_add-j : tie.Need-overflow_add-j invariant-loop-i decreases-loop-i
overflow_add-j c =
    let at-else1 : tie.Else-b-j invariant-loop-i decreases-loop-i = search in
    let at-start : tie.Start invariant-loop-i decreases-loop-i = search in
    let l = at-else1.if-b-j.false in let few = at-start.well_formed.1.1.0.0 in omega arith

loop-i-smaller-then-q-p : tie.Need-loop-i-smaller-then-q-p invariant-loop-i decreases-loop-i
loop-i-smaller-then-q-p c =
    let at-else1 : tie.Else-b-j invariant-loop-i decreases-loop-i = search in
    let l = at-else1.if-b-j.false in omega arith

loop-i-preserved-then-q-p : tie.Need-loop-i-preserved-then-q-p invariant-loop-i decreases-loop-i
loop-i-preserved-then-q-p c =
    let at-then3 : tie.Then-q-p invariant-loop-i decreases-loop-i = search in
    let at-span-at2 : tie.After-span_at-q invariant-loop-i decreases-loop-i = search in
    let at-span-at : tie.After-span_at-p invariant-loop-i decreases-loop-i = search in
    let at-else1 : tie.Else-b-j invariant-loop-i decreases-loop-i = search in
    let at-loop : tie.At-loop-i invariant-loop-i decreases-loop-i = search in
    let at-base2 : tie.After-base-y invariant-loop-i decreases-loop-i = search in
    let at_base : tie.After-base-x invariant-loop-i decreases-loop-i = search in
    let at-start : tie.Start invariant-loop-i decreases-loop-i = search in
    let p = at-span-at.span_at-p.ensures in
    let q = at-span-at2.span_at-q.ensures in
    let s = at-start.args in
    let w = at-loop.loop-i in
    let least = c.min-room.ensures in
    let apart = at-then3.if-q-p.true in
    let more = at-else1.if-b-j.false in
    let short = w.invariant.5 in (
      omega arith,
      omega arith,
      w.invariant.2,
      λ e m l.
          pass_second s.gap s.a.now at_base.base-x.result s.b.now (at-base2.base-y.result + m) w.i w.j at-start.requires.0
          (w.invariant.3 e m (omega arith))
          (omega arith),
      w.invariant.4,
      omega arith,
    )

overflow_sub-t : tie.Need-overflow_sub-t invariant-loop-i decreases-loop-i
overflow_sub-t c =
    let at-else2 : tie.Else-p-q invariant-loop-i decreases-loop-i = search in
    omega (arith, at-else2.if-p-q.false)

overflow_add-t : tie.Need-overflow_add-t invariant-loop-i decreases-loop-i
overflow_add-t c =
    let at-span-at2 : tie.After-span_at-q invariant-loop-i decreases-loop-i = search in
    let at-span-at : tie.After-span_at-p invariant-loop-i decreases-loop-i = search in
    let at_base : tie.After-base-x invariant-loop-i decreases-loop-i = search in
    let at-start : tie.Start invariant-loop-i decreases-loop-i = search in
    let p = at-span-at.span_at-p.ensures in
    let q = at-span-at2.span_at-q.ensures in
    omega (arith, at_base.base-x.ensures, at-start.requires.1.1.0)

returns-then-limit-t : tie.Need-returns-then-limit-t invariant-loop-i decreases-loop-i
returns-then-limit-t c =
    let at-else3 : tie.Else-q-p invariant-loop-i decreases-loop-i = search in
    let at-else2 : tie.Else-p-q invariant-loop-i decreases-loop-i = search in
    let at-span-at2 : tie.After-span_at-q invariant-loop-i decreases-loop-i = search in
    let at-span-at : tie.After-span_at-p invariant-loop-i decreases-loop-i = search in
    let at-loop : tie.At-loop-i invariant-loop-i decreases-loop-i = search in
    let at-base2 : tie.After-base-y invariant-loop-i decreases-loop-i = search in
    let at_base : tie.After-base-x invariant-loop-i decreases-loop-i = search in
    let at-start : tie.Start invariant-loop-i decreases-loop-i = search in
    let p = at-span-at.span_at-p.ensures in
    let q = at-span-at2.span_at-q.ensures in
    let s = at-start.args in
    let w = at-loop.loop-i in
    let found =
    pushed s.gap s.a.now at_base.base-x.result s.b.now at-base2.base-y.result w.t w.i w.j (omega arith) (omega arith) (omega arith)
    (omega arith)
    (record { first_before = omega (arith, at-else3.if-q-p.false); second_before = omega (arith, at-else2.if-p-q.false) }) w.invariant.4 in
    let near = at-start.requires.1.1.0 in
    let few = at-start.requires.1.1.1 in
    record {
      within = omega arith;
      covered =
          λ k l.
          found_meets s.gap s.a.now s.u s.b.now (shifted k s.v) at_base.base-x.result (at-base2.base-y.result + k) at_base.base-x.ensures
          (omega (arith, at-base2.base-y.ensures)) (omega arith) (omega arith) few.0 (found k (omega (arith, c.if-limit-t.true)));
      free = λ e. absurd (omega arith);
      short = w.invariant.5;
    }

loop-i-preserved : tie.Need-loop-i-preserved invariant-loop-i decreases-loop-i
loop-i-preserved c =
    let at-else3 : tie.Else-q-p invariant-loop-i decreases-loop-i = search in
    let at-else2 : tie.Else-p-q invariant-loop-i decreases-loop-i = search in
    let at-span-at2 : tie.After-span_at-q invariant-loop-i decreases-loop-i = search in
    let at-span-at : tie.After-span_at-p invariant-loop-i decreases-loop-i = search in
    let at-loop : tie.At-loop-i invariant-loop-i decreases-loop-i = search in
    let at-base2 : tie.After-base-y invariant-loop-i decreases-loop-i = search in
    let at_base : tie.After-base-x invariant-loop-i decreases-loop-i = search in
    let at-start : tie.Start invariant-loop-i decreases-loop-i = search in
    let p = at-span-at.span_at-p.ensures in
    let q = at-span-at2.span_at-q.ensures in
    let s = at-start.args in
    let w = at-loop.loop-i in
    let found =
    pushed s.gap s.a.now at_base.base-x.result s.b.now at-base2.base-y.result w.t w.i w.j (omega arith) (omega arith) (omega arith)
    (omega arith)
    (record { first_before = omega (arith, at-else3.if-q-p.false); second_before = omega (arith, at-else2.if-p-q.false) }) w.invariant.4 in (
      omega arith,
      omega arith,
      c.if-limit-t.false,
      λ e. absurd (omega (arith, at-else2.if-p-q.false)),
      λ m l. found m (omega arith),
      w.invariant.5,
    )

returns : tie.Need-returns invariant-loop-i decreases-loop-i
returns c =
    let at-base2 : tie.After-base-y invariant-loop-i decreases-loop-i = search in
    let at_base : tie.After-base-x invariant-loop-i decreases-loop-i = search in
    let at-start : tie.Start invariant-loop-i decreases-loop-i = search in
    let s = at-start.args in
    let near = at-start.requires.1.1.0 in
    let few = at-start.requires.1.1.1 in
    let inv = c.before.loop-i.invariant in
    record {
      within = omega arith;
      covered =
          λ k l.
          found_meets s.gap s.a.now s.u s.b.now (shifted k s.v) at_base.base-x.result (at-base2.base-y.result + k) at_base.base-x.ensures
          (omega (arith, at-base2.base-y.ensures)) (omega arith) (omega arith) few.0 (inv.4 k l);
      free =
          λ e k l.
          passed_free s.gap s.a.now s.u s.b.now (shifted k s.v) at_base.base-x.result (at-base2.base-y.result + k) at_base.base-x.ensures
          (omega (arith, at-base2.base-y.ensures)) _ _ (inl c.loop-i-test.false) (inv.3 e k l);
      short = inv.5;
    }

pub slide_spec : {M : Type 1} → statement M
slide_spec =
    tie.close (tie.spec
    invariant-loop-i decreases-loop-i (search rules) (search rules) walk_start-start-requires overflow_sub-room loop-i-init returns-then-b-j
    span_at-p-requires overflow_add-y span_at-q-requires (search rules) (search rules) loop-i-preserved-then-p-q (search rules) overflow_add-j
    loop-i-smaller-then-q-p loop-i-preserved-then-q-p overflow_sub-t overflow_add-t returns-then-limit-t (search rules) (search rules)
    loop-i-preserved returns)
