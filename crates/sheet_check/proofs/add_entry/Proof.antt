-- `add_entry`: a piece that is not laid changes nothing; a laid one is inside, by the test of its entry.
-- Assumes nothing.
use Rattle.list_laws.proofs.Kit.{◌∙◌, arith, rules, not-false, not-true}
use Rattle.model.specs.Lent.{lent_by, job_of}
use Rattle.job_laws.proofs.Checked.{facts}
use Rattle.sheet_check.proofs.add_entry.Tie as tie
use Rattle.sheet_check.proofs.Recounts.{laid_inside, free_added, laid_added}
use Rattle.sheet_check.proofs.add_entry.Statement.{statement}

entry_of-entry-requires : tie.Need-entry_of-entry-requires
entry_of-entry-requires c κs =
    let pre = c.requires in
    let few = (facts _ pre.0.well).few_pieces in
    let here = pre.1 in
    omega arith

returns-then-not-entry : tie.Need-returns-then-not-entry
returns-then-not-entry c =
    let at-start : tie.Start = search in
    let a = at-start.args in
    free_added (job_of (lent_by a.size a.table.now a.pixels.now)) a.sheet.pieces a.i _ a.made.now c.entry_of-entry.ensures
    (not-true _ c.if-not-entry.true)

move_piece-requires : tie.Need-move_piece-requires
move_piece-requires c κs =
    let at-entry-of : tie.After-entry_of-entry = search in
    let at-start : tie.Start = search in
    let a = at-start.args in
    let pre = at-start.requires in
    let few = (facts _ pre.0.well).few_pieces in
    record {
      well = pre.0.well;
      piece = pre.1;
      within =
          laid_inside (job_of (lent_by a.size a.table.now a.pixels.now)) a.sheet.pieces a.i _
          at-entry-of.entry_of-entry.ensures pre.0.entries (let here = pre.1 in omega arith)
          (not-false _ c.if-not-entry.false);
      full = pre.0.full;
    }

returns : tie.Need-returns
returns c =
    let at-else1 : tie.Else-not-entry = search in
    let at-entry-of : tie.After-entry_of-entry = search in
    let at-start : tie.Start = search in
    let a = at-start.args in
    c.move_piece.ensures
    ∙ laid_added (job_of (lent_by a.size a.table.now a.pixels.now)) a.sheet.pieces a.i _ a.made.now
    at-entry-of.entry_of-entry.ensures (not-false _ at-else1.if-not-entry.false)

pub add_entry_spec : {M : Type 1} → statement M
add_entry_spec = tie.close (tie.spec
    entry_of-entry-requires returns-then-not-entry move_piece-requires (search rules) returns)
