-- `search_beside::penalty_at` meets its contract: 0 out of reach, else read from the kept line. Assumes nothing.
use Rattle.list_laws.proofs.Kit.{◌≡◌, sym, inl, inr, List, ◌+◌, ◌-◌, ◌<◌, ◌≤◌, ℕ, arith, get_or, length, rules}
use Rattle.model.specs.Lent.{lent_by, job_of}
use Rattle.model.specs.Buffer.{layout_of}
use Rattle.job_laws.proofs.Checked.{facts}
use Rattle.search_beside.specs.Reading.{mover_penalty}
use Rattle.search_beside.proofs.Readings.{piece_entries, reach_within, reach_at}
use Rattle.search_beside.proofs.Outside.{outside_zero}
use Rattle.search_beside.proofs.penalty_at.Statement.{statement}
use Rattle.search_beside.proofs.penalty_at.Tie as tie

beside-standing-requires : tie.Need-beside-standing-requires
beside-standing-requires c κs =
    let at-start : tie.Start = search in
    let a = at-start.args in
    let l = lent_by a.run.size a.table.now a.pixels.now in
    (piece_entries l a.layout.now a.k at-start.requires.1.0 at-start.requires.1.1.1.0.0, (facts l at-start.requires.0.well).small_gap)

reach_of-reach-requires : tie.Need-reach_of-reach-requires
reach_of-reach-requires c κs =
    let at-start : tie.Start = search in
    let a = at-start.args in
    let l = lent_by a.run.size a.table.now a.pixels.now in
    let b = c.beside-standing in
    (at-start.requires.1.1.0.small, ((b.ensures a.pixels.now).small, at-start.requires.1.1.0.some))

returns-then-at-low : tie.Need-returns-then-at-low
returns-then-at-low c =
    let at-start : tie.Start = search in
    let a = at-start.args in
    let l = lent_by a.run.size a.table.now a.pixels.now in
    let b = c.before.before.beside-standing in
    let r = c.before.reach_of-reach in (
      sym (outside_zero l (layout_of a.layout.now) a.sweep.mover a.sweep.track b.result a.k
          at-start.requires.1.1.0 (b.ensures a.pixels.now)
          r.result r.ensures a.at at-start.requires.1.1.1.1 (inl c.if-at-low.true)),
      at-start.requires.0,
    )

returns-then-high-at : tie.Need-returns-then-high-at
returns-then-high-at c =
    let at-beside : tie.After-beside-standing = search in
    let at-start : tie.Start = search in
    let a = at-start.args in
    let l = lent_by a.run.size a.table.now a.pixels.now in
    let b = at-beside.beside-standing in
    let r = c.before.before.reach_of-reach in (
      sym (outside_zero l (layout_of a.layout.now) a.sweep.mover a.sweep.track b.result a.k
          at-start.requires.1.1.0 (b.ensures a.pixels.now)
          r.result r.ensures a.at at-start.requires.1.1.1.1 (inr c.if-high-at.true)),
      at-start.requires.0,
    )

-- the entry, from where it is known which pieces stand beside the line
abbrev begun : tie.After-beside-standing → tie.Start
begun c = search

line_with-slot-requires : tie.Need-line_with-slot-requires
line_with-slot-requires c κs =
    let at-else1 : tie.Else-at-low = search in
    let at-reach-of : tie.After-reach_of-reach = search in
    let at-beside : tie.After-beside-standing = search in
    let at-start = begun at-beside in
    let a = at-start.args in
    let l = lent_by a.run.size a.table.now a.pixels.now in
    let b = at-beside.beside-standing in
    let r = at-reach-of.reach_of-reach in
    let low = at-else1.if-at-low.false in
    let at-else2 : tie.Else-high-at = search in
    let high = at-else2.if-high-at.false in
    let t = r.ensures.touching (omega arith) in
    (at-start.requires.0, (at-start.requires.1.1.0, ((at-start.requires.1.1.1.0.0, (t.lifted, t.near)), at-start.requires.1.1.1.0.1)))

-- the entry and the reach, from where the line stands
abbrev entry : tie.After-line_with-slot → tie.Start
entry c = search

abbrev reached : tie.After-line_with-slot → tie.After-reach_of-reach
reached c = search

-- the line
abbrev line : tie.After-line_with-slot → List ℕ
line c = c.line_with-slot.new.lines

-- the place asked for lies in it
within : (c : tie.After-line_with-slot)
    → (c.line_with-slot.result + (reached c).reach_of-reach.result.from + ((entry c).args.at - (reached c).reach_of-reach.result.low) < length (line c))
    × (length (line c) ≤ 524288)
within c =
    let at-else2 : tie.Else-high-at = search in
    let at-else1 : tie.Else-at-low = search in
    let at-beside : tie.After-beside-standing = search in
    let e = entry c in
    let a = e.args in
    let l = lent_by a.run.size a.table.now a.pixels.now in
    let b = at-beside.beside-standing in
    let r = (reached c).reach_of-reach in
    let low = at-else1.if-at-low.false in
    let high = at-else2.if-high-at.false in
    let t = r.ensures.touching (omega arith) in
    let w = c.line_with-slot in
    let h = reach_within l (layout_of a.layout.now) a.sweep.mover a.sweep.track b.result a.k r.result (line c) w.result e.requires.1.1.0
    (b.ensures a.pixels.now) t (w.ensures.0 _ (b.ensures a.pixels.now)) in
    (omega arith, w.ensures.1.fit.fits)

overflow_add-from : tie.Need-overflow_add-from
overflow_add-from c = let at-line-with : tie.After-line_with-slot = search in let h = within at-line-with in omega arith

overflow_add-from-2 : tie.Need-overflow_add-from-2
overflow_add-from-2 c = let at-line-with : tie.After-line_with-slot = search in let h = within at-line-with in omega arith

bounds-lines-from : tie.Need-bounds-lines-from
bounds-lines-from c = let at-line-with : tie.After-line_with-slot = search in let h = within at-line-with in omega arith

-- what the line has there
read : (c : tie.After-line_with-slot)
    →
    let a = (entry c).args in
    get_or (line c) (c.line_with-slot.result + (reached c).reach_of-reach.result.from + (a.at - (reached c).reach_of-reach.result.low)) 0
    ≡ mover_penalty (job_of (lent_by a.run.size a.table.now a.pixels.now)) (layout_of a.layout.now) a.sweep.mover a.at a.k
read c =
    let at-else2 : tie.Else-high-at = search in
    let at-else1 : tie.Else-at-low = search in
    let at-beside : tie.After-beside-standing = search in
    let e = entry c in
    let a = e.args in
    let l = lent_by a.run.size a.table.now a.pixels.now in
    let b = at-beside.beside-standing in
    let r = (reached c).reach_of-reach in
    let low = at-else1.if-at-low.false in
    let high = at-else2.if-high-at.false in
    let t = r.ensures.touching (omega arith) in
    let w = c.line_with-slot in
    reach_at l (layout_of a.layout.now) a.sweep.mover a.sweep.track b.result a.k r.result (line c) w.result
    e.requires.1.1.0 (b.ensures a.pixels.now) t (w.ensures.0 _ (b.ensures a.pixels.now)) a.at low high

returns : tie.Need-returns
returns c = let at-line-with : tie.After-line_with-slot = search in (read at-line-with, at-line-with.line_with-slot.ensures.1)

pub penalty_at_spec : {M : Type 1} → statement M
penalty_at_spec =
    tie.close (tie.spec
    beside-standing-requires reach_of-reach-requires returns-then-at-low returns-then-high-at line_with-slot-requires overflow_add-from
    overflow_add-from-2 bounds-lines-from (search rules) (search rules) returns)
