-- `search_bounded::others::add_others` meets its contract. The loop's invariant: the sums are those of the pieces before the next one that is
-- left. Assumes nothing.
use Rattle.list_laws.proofs.Kit.{◌∙◌, ◌≡◌, refl, arith, length, rules}
use Rattle.model.specs.Lent.{lent_by, job_of}
use Rattle.model.specs.Buffer.{layout_of}
use Rattle.job_laws.proofs.Checked.{facts}
use lib.Count.{trailing_le}
use Rattle.bit_laws.proofs.Lowest.{cleared_lt}
use Rattle.search_beside.specs.Ready.{LinesReady}
use Rattle.search_beside.proofs.Readings.{entries_all}
use Rattle.search_bounded.proofs.Near.{Adding, adding_start, adding_at, adding_step, adding_end}
use Rattle.search_bounded.proofs.others.add_others.Statement.{statement}
use Rattle.search_bounded.proofs.others.add_others.Tie as tie

abbrev invariant-loop-left : tie.invariant-loop-left
invariant-loop-left run table pixels strips starts layout weights wanted lines₀ maps₀ sums₀ left₀ lines maps sums left =
    (length lines ≡ length lines₀) × (length maps ≡ length maps₀) × (length sums ≡ length sums₀)
    × Adding (job_of (lent_by run.size table pixels)) weights (layout_of layout) wanted.sweep.mover wanted.bound run.size.count left sums
    × LinesReady (lent_by run.size table pixels) run strips starts lines maps

abbrev decreases-loop-left : tie.decreases-loop-left
decreases-loop-left run table pixels strips starts layout weights wanted lines₀ maps₀ sums₀ left₀ lines maps sums left = left

near_pieces-left-requires : tie.Need-near_pieces-left-requires invariant-loop-left decreases-loop-left
near_pieces-left-requires c κs =
    let at-start : tie.Start invariant-loop-left decreases-loop-left = search in
    let a = at-start.args in
    let l = lent_by a.run.size a.table.now a.pixels.now in
    let e = entries_all l a.layout.now at-start.requires.1.0 in
    (at-start.requires.1.1.1.0.small, (((facts l at-start.requires.0.well).few_pieces, e), (facts l at-start.requires.0.well).small_gap))

loop-left-init : tie.Need-loop-left-init invariant-loop-left decreases-loop-left
loop-left-init c =
    let at-start : tie.Start invariant-loop-left decreases-loop-left = search in
    let a = at-start.args in (
      refl,
      refl,
      refl,
      adding_start _ a.weights.now _ _ a.wanted.bound _ _ a.sums.now (c.near_pieces-left.ensures a.pixels.now at-start.requires.1.1.1.0)
          at-start.requires.1.1.1.1,
      at-start.requires.0,
    )

overflow_cast-k : tie.Need-overflow_cast-k invariant-loop-left decreases-loop-left
overflow_cast-k c =
    let at-loop : tie.At-loop-left invariant-loop-left decreases-loop-left = search in
    omega (arith, trailing_le 64 at-loop.loop-left.left)

add_other-requires : tie.Need-add_other-requires invariant-loop-left decreases-loop-left
add_other-requires c κs =
    let at_in : tie.In-loop-left invariant-loop-left decreases-loop-left = search in
    let at-loop : tie.At-loop-left invariant-loop-left decreases-loop-left = search in
    let at-start : tie.Start invariant-loop-left decreases-loop-left = search in
    let p = at-loop.loop-left in
    let x = adding_at _ _ _ _ _ _ p.left p.sums at_in.loop-left-test.true p.invariant.3 in
    (p.invariant.4, (at-start.requires.1.0, (at-start.requires.1.1.0, (at-start.requires.1.1.1.0, (x.0, x.1)))))

loop-left-smaller : tie.Need-loop-left-smaller invariant-loop-left decreases-loop-left
loop-left-smaller c =
    let at_in : tie.In-loop-left invariant-loop-left decreases-loop-left = search in
    let at-loop : tie.At-loop-left invariant-loop-left decreases-loop-left = search in
    let t = at_in.loop-left-test.true in
    cleared_lt at-loop.loop-left.left (omega arith)

loop-left-preserved : tie.Need-loop-left-preserved invariant-loop-left decreases-loop-left
loop-left-preserved c =
    let at-add-other : tie.After-add_other invariant-loop-left decreases-loop-left = search in
    let at_in : tie.In-loop-left invariant-loop-left decreases-loop-left = search in
    let at-loop : tie.At-loop-left invariant-loop-left decreases-loop-left = search in
    let p = at-loop.loop-left in
    let x = at-add-other.add_other in (
      x.auto.lines ∙ p.invariant.0,
      x.auto.maps ∙ p.invariant.1,
      x.auto.sums ∙ p.invariant.2,
      adding_step _ _ _ _ _ _ p.left p.sums at_in.loop-left-test.true p.invariant.3 _ x.ensures.0,
      x.ensures.1,
    )

shape_of-lines : tie.Need-shape_of-lines invariant-loop-left decreases-loop-left
shape_of-lines c = let at-loop : tie.At-loop-left invariant-loop-left decreases-loop-left = search in at-loop.loop-left.invariant.0

shape_of-maps : tie.Need-shape_of-maps invariant-loop-left decreases-loop-left
shape_of-maps c = let at-loop : tie.At-loop-left invariant-loop-left decreases-loop-left = search in at-loop.loop-left.invariant.1

shape_of-sums : tie.Need-shape_of-sums invariant-loop-left decreases-loop-left
shape_of-sums c = let at-loop : tie.At-loop-left invariant-loop-left decreases-loop-left = search in at-loop.loop-left.invariant.2

returns : tie.Need-returns invariant-loop-left decreases-loop-left
returns c =
    let at-loop : tie.At-loop-left invariant-loop-left decreases-loop-left = search in
    let p = at-loop.loop-left in
    (adding_end _ _ _ _ _ _ p.left p.sums c.loop-left-test.false p.invariant.3, p.invariant.4)

pub add_others_spec : {M : Type 1} → statement M
add_others_spec =
    tie.close (tie.spec
    invariant-loop-left decreases-loop-left near_pieces-left-requires loop-left-init overflow_cast-k add_other-requires (search rules)
    loop-left-smaller loop-left-preserved shape_of-lines shape_of-maps shape_of-sums returns)
