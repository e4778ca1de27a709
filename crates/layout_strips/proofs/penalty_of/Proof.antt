-- `layout_strips::penalty_of` meets its contract: pieces whose boxes are farther apart do not conflict, so that the penalty is 0; where the depth
-- along the rows is 0 so is the lesser one, and else the second depth is cut off at the first. Assumes nothing.
use Rattle.list_laws.proofs.Kit.{◌∙◌, ◌≡◌, ◌≢◌, ◌≤◌, min, ℕ, arith, rules}
use Rattle.model.specs.Piece.{Point, Shape}
use Rattle.model.specs.Overlap.{conflict_depth, conflict_penalty}
use Rattle.model.specs.Layout.{place_of, corner_in}
use Rattle.model.specs.Lent.{lent_by, job_of}
use Rattle.model.specs.Buffer.{layout_of}
use Rattle.model.specs.declared.Direction.TheVariants.{Vertical}
use Rattle.model.specs.declared.JobSize.{JobSize}
use Rattle.search_laws.specs.PieceSum.{penalty_between}
use Rattle.pair_measure.proofs.Stores.{any_size}
use Rattle.pair_measure.proofs.Amounts.{ready_penalty, lesser_penalty, depth_cut_low}
use Rattle.pair_measure.proofs.Readies.{both_together}
use Rattle.layout_strips.specs.Kept.{drawn_shape}
use Rattle.layout_strips.proofs.Measured.{gap_penalty, clear_penalty}
use Rattle.layout_strips.proofs.penalty_of.Statement.{statement}
use Rattle.layout_strips.proofs.penalty_of.Tie as tie

-- the penalty of the two pieces
abbrev cost : tie.Start → JobSize → ℕ
cost s size = penalty_between (job_of (lent_by size s.args.table.now s.args.pixels.now)) (layout_of s.args.layout.now) s.args.i s.args.k

boxes_meet-requires : tie.Need-boxes_meet-requires
boxes_meet-requires c κs =
    let s : tie.Start = search in (
      ((s.requires.0.ready s.args.i s.requires.1.0.0).entry.within, (s.requires.0.ready s.args.k s.requires.1.0.1).entry.within),
      (s.requires.1.0, s.requires.1.1.1.1),
    )

returns-then-not-boxes_meet : tie.Need-returns-then-not-boxes_meet
returns-then-not-boxes_meet c =
    let s : tie.Start = search in
    let a = s.args in
    let met : tie.After-boxes_meet = search in (
      λ size same.
          clear_penalty size a.table.now a.pixels.now a.layout.now a.gap a.i a.k same
          (met.boxes_meet.ensures c.if-not-boxes_meet.true size a.pixels.now same),
      (λ e. omega arith, (s.requires.1.1.0, s.requires.1.1.1.0)),
    )

depth_of-along_rows-requires : tie.Need-depth_of-along_rows-requires
depth_of-along_rows-requires c κs = let s : tie.Start = search in let few = s.requires.1.1.1.1 in (s.requires.0, (s.requires.1.0, (omega arith, s.requires.1.1.0)))

-- what is measured of the two pieces
abbrev of-both : {A : Type 0} → (Shape → Point → Shape → Point → A) → tie.Start → JobSize → A
of-both f s size =
    let a = s.args in
    let v = layout_of a.layout.now in
    f (drawn_shape size a.table.now a.pixels.now a.layout.now a.i) (corner_in v a.i)
    (drawn_shape size a.table.now a.pixels.now a.layout.now a.k) (corner_in v a.k)

-- a depth cut off at the one along the rows is the penalty by the gap
least : (c : tie.After-depth_of-along_rows) (n : ℕ) (size : JobSize) →
    let s : tie.Start = search in
    n ≡ min (of-both (conflict_depth s.args.gap Vertical) s size) c.depth_of-along_rows.result → n ≡ of-both (conflict_penalty s.args.gap) s size
least c n size e =
    let s : tie.Start = search in
    let a = s.args in
    let v = layout_of a.layout.now in
    lesser_penalty a.gap s.requires.1.1.1.1 size a.table.now a.pixels.now a.i (place_of v a.i) (s.requires.0.ready a.i s.requires.1.0.0)
    a.k (place_of v a.k) (s.requires.0.ready a.k s.requires.1.0.1) _ _ (c.depth_of-along_rows.ensures.0 size) e

-- and, where the gap is the job's, the penalty of the two pieces
least-cost : (c : tie.After-depth_of-along_rows) (n : ℕ) (size : JobSize) →
    let s : tie.Start = search in
    n ≡ min (of-both (conflict_depth s.args.gap Vertical) s size) c.depth_of-along_rows.result → size.gap ≡ s.args.gap → n ≡ cost s size
least-cost c n size e same =
    let s : tie.Start = search in
    let a = s.args in
    least c n size e ∙ gap_penalty size a.table.now a.pixels.now a.layout.now a.gap a.i a.k same

returns-then-apart : tie.Need-returns-then-apart
returns-then-apart c =
    let s : tie.Start = search in
    let along : tie.After-depth_of-along_rows = search in
    let none = c.if-apart.true in
    (λ size. least-cost along 0 size (omega arith), (λ e. omega arith, (along.depth_of-along_rows.ensures.1, s.requires.1.1.1.0)))

depth_of-requires : tie.Need-depth_of-requires
depth_of-requires c κs =
    let s : tie.Start = search in
    let along : tie.After-depth_of-along_rows = search in
    (s.requires.0, (s.requires.1.0, ((s.requires.1.1.1.1, depth_cut_low _ _ (along.depth_of-along_rows.ensures.0 any_size)), s.requires.1.1.1.0)))

returns : tie.Need-returns
returns c =
    let s : tie.Start = search in
    let along : tie.After-depth_of-along_rows = search in
    let across : tie.After-depth_of = search in
    let a = s.args in
    let v = layout_of a.layout.now in
    let is = least along _ any_size (across.depth_of.ensures.0 any_size) in
    let low : a.i ≢ a.k → conflict_penalty a.gap _ _ _ _ ≤ 199 =
    λ e. ready_penalty a.gap s.requires.1.1.1.1 any_size a.table.now a.pixels.now a.i (place_of v a.i)
    (s.requires.0.ready a.i s.requires.1.0.0) a.k (place_of v a.k) (s.requires.0.ready a.k s.requires.1.0.1)
    (both_together a.table.now _ s.requires.0.areas a.i a.k s.requires.1.0.0 s.requires.1.0.1 e) in (
      λ size. least-cost along _ size (across.depth_of.ensures.0 size),
      (λ e. let m = low e in omega arith, (along.depth_of-along_rows.ensures.1, across.depth_of.ensures.1)),
    )

pub penalty_of_spec : {M : Type 1} → statement M
penalty_of_spec =
    tie.close (tie.spec
    boxes_meet-requires returns-then-not-boxes_meet depth_of-along_rows-requires (search rules) (search rules) returns-then-apart
    depth_of-requires (search rules) (search rules) (search rules) (search rules) returns)
