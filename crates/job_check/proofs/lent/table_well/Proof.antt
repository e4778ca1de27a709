-- `job_check::lent::table_well` makes the tests of its definition in their order. Assumes nothing.
use Rattle.list_laws.proofs.Kit.{◌∙◌, sym, arith, rules, le-leb, lt-leb}
use Rattle.job_laws.proofs.Ranges.{sheet_few}
use Rattle.job_check.proofs.lent.table_well.Statement.{statement}
use Rattle.job_check.proofs.lent.table_well.Tie as tie

returns-then-not-sheet_in_range : tie.Need-returns-then-not-sheet_in_range
returns-then-not-sheet_in_range c = simp (sym c.before.sheet_in_range.ensures ∙ c.if-not-sheet_in_range.true)

returns-then-table-count : tie.Need-returns-then-table-count
returns-then-table-count c = simp (sym c.before.before.sheet_in_range.ensures ∙ c.before.if-not-sheet_in_range.false, lt-leb _ _ c.if-table-count.true)

returns-then-not-entries_in_range : tie.Need-returns-then-not-entries_in_range
returns-then-not-entries_in_range c =
    let at-else1 : tie.Else-not-sheet_in_range = search in
    let at-sheet-in-range : tie.After-sheet_in_range = search in
    simp (
      sym at-sheet-in-range.sheet_in_range.ensures ∙ at-else1.if-not-sheet_in_range.false,
      le-leb _ _ c.before.before.if-table-count.false,
      sym c.before.entries_in_range.ensures ∙ c.if-not-entries_in_range.true,
    )

returns-then-not-entries_fit : tie.Need-returns-then-not-entries_fit
returns-then-not-entries_fit c =
    let at-entries-in-range : tie.After-entries_in_range = search in
    let at-else2 : tie.Else-table-count = search in
    let at-else1 : tie.Else-not-sheet_in_range = search in
    let at-sheet-in-range : tie.After-sheet_in_range = search in
    simp (
      sym at-sheet-in-range.sheet_in_range.ensures ∙ at-else1.if-not-sheet_in_range.false,
      le-leb _ _ at-else2.if-table-count.false,
      sym at-entries-in-range.entries_in_range.ensures ∙ c.before.before.if-not-entries_in_range.false,
      sym c.before.entries_fit.ensures ∙ c.if-not-entries_fit.true,
    )

pixel_start-requires : tie.Need-pixel_start-requires
pixel_start-requires c κs =
    let at-else1 : tie.Else-not-sheet_in_range = search in
    let at-sheet-in-range : tie.After-sheet_in_range = search in
    let at-start : tie.Start = search in
    let size = at-start.args.size in
    let few = sheet_few size (sym at-sheet-in-range.sheet_in_range.ensures ∙ at-else1.if-not-sheet_in_range.false) in
    omega arith

returns : tie.Need-returns
returns c =
    let at-else3 : tie.Else-not-entries_in_range = search in
    let at-entries-in-range : tie.After-entries_in_range = search in
    let at-else2 : tie.Else-table-count = search in
    let at-else1 : tie.Else-not-sheet_in_range = search in
    let at-sheet-in-range : tie.After-sheet_in_range = search in
    simp (
      sym at-sheet-in-range.sheet_in_range.ensures ∙ at-else1.if-not-sheet_in_range.false,
      le-leb _ _ at-else2.if-table-count.false,
      sym at-entries-in-range.entries_in_range.ensures ∙ at-else3.if-not-entries_in_range.false,
      sym c.before.before.entries_fit.ensures ∙ c.before.if-not-entries_fit.false,
      c.pixel_start.ensures,
    )

pub table_well_spec : {M : Type 1} → statement M
table_well_spec =
    tie.close (tie.spec
    (search rules) returns-then-not-sheet_in_range returns-then-table-count (search rules) returns-then-not-entries_in_range (search rules)
    returns-then-not-entries_fit pixel_start-requires returns)
