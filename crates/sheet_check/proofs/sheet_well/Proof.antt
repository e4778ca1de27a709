-- `sheet_well`: the record has 64 entries by its type and the counts their length by the check before, so the two tests are left.
-- Assumes nothing.
use Rattle.list_laws.proofs.Kit.{◌∙◌, ◌≡◌, sym, ◌&&◌, false, true, length}
use Rattle.model.specs.Lent.{lent_by, job_of, piece_bound}
use Rattle.model.specs.Cover.{Sheet, entry_well, sheet_well}
use Rattle.model.specs.Bounded.{all_below}
use Rattle.job_laws.proofs.Checked.{facts}
use Rattle.sheet_check.specs.Counted.{counts_well}
use Rattle.sheet_check.proofs.Entries.{sheet_tests}
use Rattle.sheet_check.proofs.sheet_well.Tie as tie
use Rattle.sheet_check.proofs.sheet_well.Statement.{statement}

-- the record has 64 entries: what holds of every value of its type
many : (c : tie.Start) → length c.args.sheet.pieces ≡ piece_bound
many c = c.well_formed.1.1.1.0.1.1.0.1.0.1

-- the sheet that is lent
abbrev sheet : tie.Start → Sheet
sheet c = record { pieces = c.args.sheet.pieces; counts = c.args.counts.now }

-- the two tests that are left
well-tests : (c : tie.Start)
    → sheet_well (job_of (lent_by c.args.size c.args.table.now c.args.pixels.now)) (sheet c)
    ≡ (all_below piece_bound (entry_well (job_of (lent_by c.args.size c.args.table.now c.args.pixels.now)) c.args.sheet.pieces)
    && counts_well (job_of (lent_by c.args.size c.args.table.now c.args.pixels.now)) c.args.sheet.pieces c.args.counts.now)
unfolding job_of
well-tests c = sheet_tests _ (sheet c) (many c) c.requires.1

entries_well-requires : tie.Need-entries_well-requires
entries_well-requires c κs = (facts _ c.requires.0).entries

returns-then-not-entries_well : tie.Need-returns-then-not-entries_well
returns-then-not-entries_well c =
    let at-start : tie.Start = search in
    let a = at-start.args in
    let entries : all_below piece_bound (entry_well (job_of (lent_by a.size a.table.now a.pixels.now)) a.sheet.pieces) ≡ false =
    sym (c.entries_well.ensures a.pixels.now) ∙ c.if-not-entries_well.true in
    sym (well-tests (at-start) ∙ rw entries)

counts_well-requires : tie.Need-counts_well-requires
counts_well-requires c κs =
    let at-start : tie.Start = search in
    let a = at-start.args in
    let pre = at-start.requires in
    record {
      well = pre.0;
      entries = sym (c.entries_well.ensures a.pixels.now) ∙ c.if-not-entries_well.false;
      full = pre.1;
    }

returns : tie.Need-returns
returns c =
    let at-start : tie.Start = search in
    let a = at-start.args in
    let entries : all_below piece_bound (entry_well (job_of (lent_by a.size a.table.now a.pixels.now)) a.sheet.pieces) ≡ true =
    sym (c.entries_well.ensures a.pixels.now) ∙ c.if-not-entries_well.false in
    c.counts_well.ensures ∙ sym (well-tests (at-start) ∙ rw entries)

pub sheet_well_spec : {M : Type 1} → statement M
sheet_well_spec = tie.close (tie.spec
    entries_well-requires returns-then-not-entries_well counts_well-requires returns)
