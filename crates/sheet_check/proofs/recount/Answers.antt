-- `sheet_check::recount`: at first each count is 0, and a laid piece adds one to each of its pixels. Assumes nothing.
use Rattle.list_laws.proofs.Kit.{◌∙◌, ◌≡◌, arith, length}
use Rattle.model.specs.Lent.{lent_by, job_of}
use Rattle.job_laws.proofs.Checked.{facts}
use Rattle.sheet_check.proofs.Recounts.{none_counted, added_below, all_counted}
use Rattle.sheet_check.proofs.recount.Goals as goal

pub loop-piece-init : goal.loop-piece-init
loop-piece-init c =
    let a = c.args in
    rw c.clear.ensures (none_counted (job_of (lent_by a.size a.table.now a.pixels.now)) a.sheet.pieces (length a.made.now))

pub add_entry-requires : goal.add_entry-requires
add_entry-requires c =
    let pre = c.requires in
    (record { well = pre.well; entries = pre.entries; full = c.loop-piece.auto.made ∙ c.clear.auto.counts ∙ pre.full }, c.loop-piece-test.true)

pub loop-piece-preserved : goal.loop-piece-preserved
loop-piece-preserved c =
    let a = c.args in
    let now = c.loop-piece in
    let few = (facts _ c.requires.well).few_pieces in
    let l = c.loop-piece-test.true in
    rw c.add_entry.ensures
    (added_below (job_of (lent_by a.size a.table.now a.pixels.now)) a.sheet.pieces now.piece now.made (omega arith) now.invariant)

pub returns : goal.returns
unfolding job_of
returns c =
    let a = c.args in
    let now = c.loop-piece in
    let all : now.piece ≡ a.size.count = omega arith in
    all_counted (job_of (lent_by a.size a.table.now a.pixels.now)) a.sheet.pieces now.made (now.auto.made ∙ c.clear.auto.counts ∙ c.requires.full) (rw all at now.invariant)
