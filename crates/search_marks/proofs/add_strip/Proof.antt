-- `search_marks::add_strip` meets its contract: the level of the strip's count is one of the levels, and twice its power is enough.
-- Assumes nothing.
use Rattle.list_laws.proofs.Kit.{◌≡◌, ◌*◌, ◌+◌, ◌-◌, ◌<◌, ◌≤◌, arith, length, rules}
use Rattle.bit_laws.specs.Bit.{length_limit}
use Rattle.search_marks.proofs.Adding.{level_below, few_count, level_in, length_as, spare_as, wide_as}
use Rattle.search_marks.proofs.add_strip.Statement.{statement}
use Rattle.search_marks.proofs.add_strip.Tie as tie

level_of-k-requires : tie.Need-level_of-k-requires
level_of-k-requires c κs =
    let at-start : tie.Start = search in
    let a = at-start.args in
    let f = at-start.requires.1 in
    (f.some, few_count a.span.count a.levels at-start.requires.0.few f.few)

-- the level is one of the levels
there : (c : tie.After-level_of-k) → let at-start : tie.Start = search in c.level_of-k.result < at-start.args.levels
there c =
    let at-start : tie.Start = search in
    let a = at-start.args in
    level_below a.span.count a.levels c.level_of-k.result at-start.requires.1.few c.level_of-k.ensures

-- and it lies in the slice
within : (c : tie.After-level_of-k)
    →
    let at-start : tie.Start = search in
    (c.level_of-k.result * at-start.args.size + at-start.args.size ≤ length at-start.args.marks.now)
    × (length at-start.args.marks.now < length_limit)
within c =
    let at-start : tie.Start = search in
    let a = at-start.args in
    (level_in a.marks.now a.size a.levels c.level_of-k.result a.size (λ i. a.size) at-start.requires.0 (there c), at-start.requires.0.short)

overflow_mul-from : tie.Need-overflow_mul-from
overflow_mul-from c = let at-level-of : tie.After-level_of-k = search in let h = within at-level-of in omega arith

overflow_add-end : tie.Need-overflow_add-end
overflow_add-end c = let at-level-of : tie.After-level_of-k = search in let h = within at-level-of in omega arith

offset_bounds-marks-from : tie.Need-offset_bounds-marks-from
offset_bounds-marks-from c = let at-level-of : tie.After-level_of-k = search in let h = within at-level-of in omega arith

slice_bounds-or_strip-end : tie.Need-slice_bounds-or_strip-end
slice_bounds-or_strip-end c = let at-level-of : tie.After-level_of-k = search in (within at-level-of).0

or_strip-requires : tie.Need-or_strip-requires
or_strip-requires c κs =
    let at-start : tie.Start = search in
    let at-level-of : tie.After-level_of-k = search in
    let at-power : tie.After-power-n = search in
    let a = at-start.args in
    let f = at-start.requires.1 in
    let v = at-level-of.level_of-k in
    let k = v.result in
    let n = at-power.power-n in
    let e : k * a.size + a.size - k * a.size ≡ a.size = omega arith in
    let l = length_as a.marks.now a.size a.levels k _ e at-start.requires.0 (there at-level-of) in (
      omega (arith, f.within),
      spare_as a.marks.now a.size a.levels k _ e at-start.requires.0 (there at-level-of),
      omega (arith, n.ensures, v.ensures.low),
      omega (arith, n.ensures, v.ensures.high),
      f.below,
    )

returns : tie.Need-returns
returns c =
    let at-start : tie.Start = search in
    let at-level-of : tie.After-level_of-k = search in
    let at-power : tie.After-power-n = search in
    let a = at-start.args in
    let k = at-level-of.level_of-k.result in
    let n = at-power.power-n in
    let e : k * a.size + a.size - k * a.size ≡ a.size = omega arith in
    c.before.before.or_strip.ensures _
    (wide_as a.marks.now a.size a.levels k _ e at-start.requires.0 (there at-level-of) n.result n.ensures)

pub add_strip_spec : {M : Type 1} → statement M
add_strip_spec =
    tie.close (tie.spec
    level_of-k-requires (search rules) overflow_mul-from overflow_add-end offset_bounds-marks-from (search rules) (search rules)
    slice_bounds-or_strip-end or_strip-requires (search rules) returns)
