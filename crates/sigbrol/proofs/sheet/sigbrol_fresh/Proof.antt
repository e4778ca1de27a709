-- `sigbrol_fresh` meets its contract by what `fresh` answers. Assumes nothing.
use Rattle.list_laws.proofs.Kit.{◌∙◌, ◌≡◌, length, rules}
use Rattle.model.specs.Refusal.{Outcome}
use Rattle.model.specs.Calls.{fresh_call, counts_after}
use Rattle.model.specs.Cover.{Sheet}
use Rattle.sheet_calls.specs.Answers.{blank_record, sheet_answer}
use Rattle.c_interface.specs.Numbers.{lent_as}
use Rattle.sigbrol.proofs.Sheets.{taken_up, turned_down}
use Rattle.sigbrol.proofs.sheet.sigbrol_fresh.Statement.{statement}
use Rattle.sigbrol.proofs.sheet.sigbrol_fresh.Tie as tie

-- what the call comes to
abbrev outcome : tie.After-fresh-answer → Outcome Sheet
outcome c =
    let at-start : tie.Start = search in
    let a = at-start.args in
    fresh_call (lent_as a.rows a.columns a.count a.gap a.table.now a.pixels.now) (length a.counts.now)

-- what `fresh` answers
answered : (c : tie.After-fresh-answer) → c.fresh-answer.result ≡ sheet_answer blank_record (outcome c)
answered c = rw c.size_of.ensures at c.fresh-answer.ensures.0

-- what it leaves in the count buffer
counted : (c : tie.After-fresh-answer) →
    let at-start : tie.Start = search in
    c.fresh-answer.new.counts ≡ counts_after at-start.args.counts.now (outcome c)
counted c = rw c.size_of.ensures at c.fresh-answer.ensures.1

returns-in-Ok : tie.Need-returns-in-Ok
returns-in-Ok c =
    let at-enum-told : tie.In-Ok = search in
    let at-fresh : tie.After-fresh-answer = search in
    let at-start : tie.Start = search in
    let t = taken_up blank_record (outcome at-fresh) at-fresh.fresh-answer.result at-start.args.entries.now (answered at-fresh)
    at-enum-told.in-Ok.is in
    (c.done.ensures ∙ t.0, (c.write_record.ensures ∙ t.1, counted at-fresh))

returns-in-Err : tie.Need-returns-in-Err
returns-in-Err c =
    let at-fresh : tie.After-fresh-answer = search in
    let at-start : tie.Start = search in
    let t = turned_down blank_record (outcome at-fresh) at-fresh.fresh-answer.result at-start.args.entries.now _ (answered at-fresh)
    c.in-Err.is in
    (c.refused.ensures ∙ t.0, (t.1, counted at-fresh))

pub sigbrol_fresh_spec : {M : Type 1} → statement M
sigbrol_fresh_spec =
    tie.close (tie.spec
    (search rules) (search rules) (search rules) (search rules) (search rules) (search rules) (search rules) (search rules) returns-in-Ok
    (search rules) returns-in-Err)
