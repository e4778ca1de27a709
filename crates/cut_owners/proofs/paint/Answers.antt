-- `cut_owners::paint`: at first no pixel has an owner, and a piece owns each of its pixels. Assumes nothing.
use Rattle.list_laws.proofs.Kit.{◌∙◌, ◌≡◌, ◌≤◌, arith, length}
use Rattle.model.specs.Buffer.{layout_of}
use Rattle.model.specs.Lent.{lent_by, job_of}
use Rattle.cut_owners.proofs.Painting.{none_painted, piece_painted}
use Rattle.cut_owners.proofs.paint.Goals as goal

pub loop-piece-init : goal.loop-piece-init
loop-piece-init c =
    let a = c.args in
    rw c.clear.ensures (none_painted (job_of (lent_by a.size a.table.now a.pixels.now)) (layout_of a.layout.now) (length a.owners.now))

pub paint_piece-requires : goal.paint_piece-requires
paint_piece-requires c = (c.requires.0, c.loop-piece-test.true, c.loop-piece.auto.owners ∙ c.clear.auto.counts ∙ c.requires.1)

pub loop-piece-preserved : goal.loop-piece-preserved
loop-piece-preserved c =
    let a = c.args in
    let now = c.loop-piece in
    rw c.paint_piece.ensures
    (piece_painted (job_of (lent_by a.size a.table.now a.pixels.now)) (layout_of a.layout.now) now.piece now.owners now.invariant)

pub returns : goal.returns
unfolding job_of
returns c =
    let now = c.loop-piece in
    let all : now.piece ≡ c.args.size.count = omega arith in
    let full = now.auto.owners ∙ c.clear.auto.counts ∙ c.requires.1 in
    record { full = full; owners = λ k l. (rw all at now.invariant) k (omega arith) }
