-- `job_check::lent::check_job` checks table, store, bytes and boxes in the order of `lent_well`, whose first five parts are those of a table.
-- Assumes nothing.
use Rattle.list_laws.proofs.Kit.{◌∙◌, sym, rules, le-leb, lt-leb}
use Rattle.model.specs.Lent.{lent_well}
use Rattle.job_check.proofs.Boxes.{table_facts}
use Rattle.job_check.proofs.lent.check_job.Statement.{statement}
use Rattle.job_check.proofs.lent.check_job.Tie as tie

returns-then-not-table_well : tie.Need-returns-then-not-table_well
unfolding lent_well
returns-then-not-table_well c = simp (sym c.before.table_well.ensures ∙ c.if-not-table_well.true)

pixel_start-total-requires : tie.Need-pixel_start-total-requires
pixel_start-total-requires c κs =
    let at-start : tie.Start = search in
    let a = at-start.args in
    let f = table_facts a.size a.table.now (sym c.before.table_well.ensures ∙ c.if-not-table_well.false) in
    (f.entries, f.few)

returns-then-short : tie.Need-returns-then-short
unfolding lent_well
returns-then-short c =
    let at-table-well : tie.After-table_well = search in
    simp (sym at-table-well.table_well.ensures ∙ c.before.before.if-not-table_well.false, ← c.before.pixel_start-total.ensures, lt-leb _ _ c.if-short.true)

returns-then-not-all_bits : tie.Need-returns-then-not-all_bits
unfolding lent_well
returns-then-not-all_bits c =
    let at-pixel-start : tie.After-pixel_start-total = search in
    let at-else1 : tie.Else-not-table_well = search in
    let at-table-well : tie.After-table_well = search in
    simp (
      sym at-table-well.table_well.ensures ∙ at-else1.if-not-table_well.false,
      ← at-pixel-start.pixel_start-total.ensures,
      le-leb _ _ c.before.before.if-short.false,
      sym c.before.all_bits.ensures ∙ c.if-not-all_bits.true,
    )

boxes_tight-requires : tie.Need-boxes_tight-requires
boxes_tight-requires c κs =
    let at-else1 : tie.Else-not-table_well = search in
    let at-table-well : tie.After-table_well = search in
    let at-start : tie.Start = search in
    let a = at-start.args in
    let f = table_facts a.size a.table.now (sym at-table-well.table_well.ensures ∙ at-else1.if-not-table_well.false) in
    (f.entries, f.few, f.ranges)

returns : tie.Need-returns
unfolding lent_well
returns c =
    let at-else2 : tie.Else-short = search in
    let at-pixel-start : tie.After-pixel_start-total = search in
    let at-else1 : tie.Else-not-table_well = search in
    let at-table-well : tie.After-table_well = search in
    simp (
      sym at-table-well.table_well.ensures ∙ at-else1.if-not-table_well.false,
      ← at-pixel-start.pixel_start-total.ensures,
      le-leb _ _ at-else2.if-short.false,
      sym c.before.before.all_bits.ensures ∙ c.before.if-not-all_bits.false,
      c.boxes_tight.ensures,
    )

pub check_job_spec : {M : Type 1} → statement M
check_job_spec =
    tie.close (tie.spec
    (search rules) returns-then-not-table_well pixel_start-total-requires returns-then-short (search rules) returns-then-not-all_bits
    boxes_tight-requires returns)
