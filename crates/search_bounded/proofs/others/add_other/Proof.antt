-- `search_bounded::others::add_other` meets its contract: the piece itself has no part, one that reaches no place below the bound may be left out, and
-- another's part is added. Assumes nothing.
use Rattle.list_laws.proofs.Kit.{◌∙◌, ◌≢◌, refl, sym, ◌-◌, ◌<◌, ◌≤◌, arith, length, rules}
use Rattle.model.specs.Layout.{Layout}
use Rattle.model.specs.Lent.{Lent, lent_by, job_of}
use Rattle.model.specs.Buffer.{layout_of}
use Rattle.job_laws.proofs.Checked.{facts}
use Rattle.search_beside.specs.Reading.{LineRead}
use Rattle.search_beside.proofs.Readings.{piece_entries, reach_within}
use Rattle.search_bounded.proofs.Readings.{weight_pairs, weight_small, part_most, reach_added}
use Rattle.search_bounded.proofs.Summing.{summed_self, sums_within, sums_small, summed_left, summed_unread, summed_added}
use Rattle.search_bounded.proofs.others.add_other.Statement.{statement}
use Rattle.search_bounded.proofs.others.add_other.Tie as tie

-- the lent job and the layout
abbrev lent : tie.Start → Lent
lent e = lent_by e.args.run.size e.args.table.now e.args.pixels.now

abbrev laidOut : tie.Start → Layout
laidOut e = layout_of e.args.layout.now

returns-then-k-mover : tie.Need-returns-then-k-mover
returns-then-k-mover c =
    let e : tie.Start = search in
    let a = e.args in (
      summed_self (job_of (lent e)) a.weights.now (laidOut e) a.wanted.sweep.mover a.wanted.bound a.k a.sums.now e.requires.1.1.1.1.1
          c.if-k-mover.true,
      e.requires.0,
    )

beside-standing-requires : tie.Need-beside-standing-requires
beside-standing-requires c κs =
    let e : tie.Start = search in
    (piece_entries (lent e) e.args.layout.now e.args.k e.requires.1.0 e.requires.1.1.1.1.0, (facts (lent e) e.requires.0.well).small_gap)

reach_of-reach-requires : tie.Need-reach_of-reach-requires
reach_of-reach-requires c κs =
    let e : tie.Start = search in
    (e.requires.1.1.1.0.small, ((c.beside-standing.ensures e.args.pixels.now).small, e.requires.1.1.1.0.some))

-- the entry and the standing piece, from where the reach is known
abbrev entry : tie.After-reach_of-reach → tie.Start
entry c = search

abbrev stood : tie.After-reach_of-reach → tie.After-beside-standing
stood c = search

-- the piece is not the mover
others : (c : tie.After-reach_of-reach) → (entry c).args.wanted.sweep.mover.piece ≢ (entry c).args.k
others c = let o : tie.Else-k-mover = search in λ q. o.if-k-mover.false (sym q)

-- there is a sum for each place in reach
within : (c : tie.After-reach_of-reach) → c.reach_of-reach.result.high ≤ length (entry c).args.sums.now
within c =
    let e = entry c in
    let a = e.args in
    let b = (stood c).beside-standing in
    sums_within (lent e) a.weights.now (laidOut e) a.wanted.sweep.mover a.wanted.sweep.track b.result a.wanted.bound a.k
    c.reach_of-reach.result a.sums.now e.requires.1.1.1.0 (b.ensures a.pixels.now) c.reach_of-reach.ensures e.requires.1.1.1.1.1

returns-then-high-low : tie.Need-returns-then-high-low
returns-then-high-low c =
    let r : tie.After-reach_of-reach = search in
    let e = entry r in
    let a = e.args in
    let b = (stood r).beside-standing in
    let o = c.if-high-low.true in (
      summed_left (lent e) a.weights.now (laidOut e) a.wanted.sweep.mover a.wanted.sweep.track b.result a.wanted.bound a.k
          r.reach_of-reach.result a.sums.now e.requires.1.1.1.0 (b.ensures a.pixels.now) r.reach_of-reach.ensures e.requires.1.1.1.1.1
          (λ x low high. absurd (omega arith)),
      e.requires.0,
    )

offset_bounds-sums-low : tie.Need-offset_bounds-sums-low
offset_bounds-sums-low c =
    let r : tie.After-reach_of-reach = search in
    let w = r.reach_of-reach.ensures.within in
    let p = (entry r).requires.1.1.1.0.small.places in
    let i = c.if-high-low.false in
    omega arith

slice_bounds-any_below-end : tie.Need-slice_bounds-any_below-end
slice_bounds-any_below-end c =
    let r : tie.After-reach_of-reach = search in
    let o : tie.Else-high-low = search in
    let w = within r in
    let some = o.if-high-low.false in
    omega arith

returns-then-not-any_below : tie.Need-returns-then-not-any_below
returns-then-not-any_below c =
    let r : tie.After-reach_of-reach = search in
    let e = entry r in
    let a = e.args in
    let b = (stood r).beside-standing in (
      summed_unread (lent e) a.weights.now (laidOut e) a.wanted.sweep.mover a.wanted.sweep.track b.result a.wanted.bound a.k
          r.reach_of-reach.result a.sums.now e.requires.1.1.1.0 (b.ensures a.pixels.now) r.reach_of-reach.ensures e.requires.1.1.1.1.1
          (r.reach_of-reach.result.high - r.reach_of-reach.result.low) refl (within r) (sym c.if-not-any_below.true ∙ c.before.any_below.ensures),
      e.requires.0,
    )

weight_between-weight-requires : tie.Need-weight_between-weight-requires
weight_between-weight-requires c κs =
    let e : tie.Start = search in
    let i = e.requires.1.1.1.0.piece in
    let k = e.requires.1.1.1.1.0 in
    (((facts (lent e) e.requires.0.well).few_pieces, (omega arith, omega arith)), weight_pairs (lent e) e.args.weights.now e.requires.1.1.0)

line_with-slot-requires : tie.Need-line_with-slot-requires
line_with-slot-requires c κs =
    let r : tie.After-reach_of-reach = search in
    let o : tie.Else-high-low = search in
    let e = entry r in
    let some = o.if-high-low.false in
    let t = r.reach_of-reach.ensures.touching (omega arith) in
    (e.requires.0, (e.requires.1.1.1.0, ((e.requires.1.1.1.1.0, (t.lifted, t.near)), others r)))

-- where the places in reach are known, from where the line is
abbrev reached : tie.After-line_with-slot → tie.After-reach_of-reach
reached c = search

-- there is a place in reach
some-place : (c : tie.After-line_with-slot) → (reached c).reach_of-reach.result.low < (reached c).reach_of-reach.result.high
some-place c = let o : tie.Else-high-low = search in let l = o.if-high-low.false in omega arith

-- the line has the penalties of the mover and the piece
line : (c : tie.After-line_with-slot)
    → LineRead (job_of (lent (entry (reached c)))) (laidOut (entry (reached c))) (entry (reached c)).args.wanted.sweep.mover (entry (reached c)).args.k
    c.line_with-slot.new.lines c.line_with-slot.result
line c =
    let e = entry (reached c) in
    c.line_with-slot.ensures.0 (laidOut e) ((stood (reached c)).beside-standing.ensures e.args.pixels.now)

add_reached-requires : tie.Need-add_reached-requires
add_reached-requires c κs =
    let x : tie.After-line_with-slot = search in
    let w : tie.After-weight_between-weight = search in
    let r = reached x in
    let e = entry r in
    let a = e.args in
    let b = (stood r).beside-standing in
    let few = (facts (lent e) e.requires.0.well).few_pieces in
    let k = e.requires.1.1.1.1.0 in (
      (
        reach_within (lent e) (laidOut e) a.wanted.sweep.mover a.wanted.sweep.track b.result a.k r.reach_of-reach.result _ x.line_with-slot.result
            e.requires.1.1.1.0 (b.ensures a.pixels.now) (r.reach_of-reach.ensures.touching (some-place x)) (line x),
        x.line_with-slot.ensures.1.fit.fits,
      ),
      (
        (some-place x, within r),
        (
          weight_small (lent e) a.weights.now a.wanted.sweep.mover.piece a.k w.weight_between-weight.result
              e.requires.1.1.0 w.weight_between-weight.ensures.0,
          sums_small (lent e) a.weights.now (laidOut e) a.wanted.sweep.mover a.wanted.sweep.track b.result a.wanted.bound a.k
              r.reach_of-reach.result a.sums.now e.requires.1.1.1.0 (b.ensures a.pixels.now)
              r.reach_of-reach.ensures e.requires.1.1.1.1.1
              (omega arith),
        ),
      ),
    )

returns : tie.Need-returns
returns c =
    let x : tie.After-line_with-slot = search in
    let w : tie.After-weight_between-weight = search in
    let y : tie.After-add_reached = search in
    let r = reached x in
    let e = entry r in
    let a = e.args in
    let b = (stood r).beside-standing in
    let part = reach_added (lent e) (laidOut e) a.wanted.sweep.mover a.wanted.sweep.track b.result a.k
    r.reach_of-reach.result _ x.line_with-slot.result
    e.requires.1.1.1.0 (b.ensures a.pixels.now) (r.reach_of-reach.ensures.touching (some-place x)) (line x)
    a.weights.now w.weight_between-weight.result a.sums.now _ w.weight_between-weight.ensures.0 (some-place x) y.add_reached.ensures in (
      summed_added (lent e) a.weights.now (laidOut e) a.wanted.sweep.mover a.wanted.sweep.track b.result a.wanted.bound a.k
          r.reach_of-reach.result a.sums.now e.requires.1.1.1.0 (b.ensures a.pixels.now) r.reach_of-reach.ensures e.requires.1.1.1.1.1
          y.add_reached.new.sums
          (part_most (lent e) a.weights.now (laidOut e) a.wanted.sweep.mover a.k e.requires.0.well e.requires.1.1.0 e.requires.1.1.1.0.piece
          e.requires.1.1.1.1.0 (others r)) part,
      x.line_with-slot.ensures.1,
    )

pub add_other_spec : {M : Type 1} → statement M
add_other_spec =
    tie.close (tie.spec
    returns-then-k-mover beside-standing-requires reach_of-reach-requires returns-then-high-low offset_bounds-sums-low (search rules) (search rules)
    slice_bounds-any_below-end (search rules) (search rules) returns-then-not-any_below weight_between-weight-requires (search rules)
    line_with-slot-requires add_reached-requires (search rules) (search rules) (search rules) returns)
