-- `job_check::lent::entry_in_range` takes the four numbers from the table. Assumes nothing.
use Rattle.list_laws.proofs.Kit.{sym, ◌∙◌, ◌≡◌, Bool, rules}
use Rattle.model.specs.Lent.{entry_columns, entry_rows, entry_turns, entry_in_range, sides_in_range}
use Rattle.job_check.proofs.lent.entry_in_range.Statement.{statement}
use Rattle.job_check.proofs.lent.entry_in_range.Tie as tie

-- what is asked of sides and turns
abbrev asked : tie.Start → Bool
asked s =
    let table = s.args.table.now in
    let i = s.args.i in
    sides_in_range (entry_columns table i) (entry_rows table i) (entry_turns table i)

-- and what is answered
told : (c : tie.After-sides_in_range) → c.sides_in_range.result ≡ asked c.before.before.before.before
told c =
    let l : tie.After-columns_of-columns = search in
    let w : tie.After-rows_of-rows = search in
    let o : tie.After-turns_of-turns = search in
    c.sides_in_range.ensures ∙ rw (l.columns_of-columns.ensures.0, w.rows_of-rows.ensures.0, o.turns_of-turns.ensures)

returns-then-not-sides_in_range : tie.Need-returns-then-not-sides_in_range
unfolding entry_in_range
returns-then-not-sides_in_range c =
    let at : tie.After-sides_in_range = search in
    rw (sym (told at) ∙ c.if-not-sides_in_range.true)

returns : tie.Need-returns
unfolding entry_in_range
returns c =
    let at : tie.After-sides_in_range = search in
    let k : tie.After-lock_of = search in
    let else : tie.Else-not-sides_in_range = search in
    rw (c.lock_in_range.ensures, k.lock_of.ensures, sym (told at) ∙ else.if-not-sides_in_range.false)

pub entry_in_range_spec : {M : Type 1} → statement M
entry_in_range_spec =
    tie.close
    (tie.spec
    (search rules) (search rules) (search rules) (search rules) (search rules) returns-then-not-sides_in_range (search rules) (search rules)
    (search rules) returns)
