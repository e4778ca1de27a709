-- `sigbrol_withdraw` meets its contract by what `withdraw` answers on the record that the buffer holds. Assumes nothing.
use Rattle.list_laws.proofs.Kit.{◌∙◌, ◌≡◌, rules}
use Rattle.model.specs.Refusal.{Outcome}
use Rattle.model.specs.Calls.{withdraw_call, counts_after}
use Rattle.model.specs.Cover.{Sheet}
use Rattle.sheet_calls.specs.Answers.{sheet_answer}
use Rattle.sheet_refusals.specs.Causes.{sheet_of}
use Rattle.c_interface.specs.Numbers.{lent_as}
use Rattle.c_interface.specs.Records.{record_in}
use Rattle.sigbrol.proofs.Sheets.{taken_up, turned_down}
use Rattle.sigbrol.proofs.sheet.sigbrol_withdraw.Statement.{statement}
use Rattle.sigbrol.proofs.sheet.sigbrol_withdraw.Tie as tie

-- what the call comes to
abbrev outcome : tie.After-withdraw-answer → Outcome Sheet
outcome c =
    let at-start : tie.Start = search in
    let a = at-start.args in
    withdraw_call (lent_as a.rows a.columns a.count a.gap a.table.now a.pixels.now)
    (sheet_of (record_in a.entries.now) a.counts.now) a.piece

-- what `withdraw` answers
answered : (c : tie.After-withdraw-answer) →
    let at-start : tie.Start = search in
    c.withdraw-answer.result ≡ sheet_answer (record_in at-start.args.entries.now) (outcome c)
answered c =
    let at-read-record : tie.After-read_record-sheet = search in
    rw (
      c.size_of.ensures,
      at-read-record.read_record-sheet.ensures,
    ) at c.withdraw-answer.ensures.0

-- what it leaves in the count buffer
counted : (c : tie.After-withdraw-answer) →
    let at-start : tie.Start = search in
    c.withdraw-answer.new.counts ≡ counts_after at-start.args.counts.now (outcome c)
counted c =
    let at-read-record : tie.After-read_record-sheet = search in
    rw (
      c.size_of.ensures,
      at-read-record.read_record-sheet.ensures,
    ) at c.withdraw-answer.ensures.1

returns-in-Ok : tie.Need-returns-in-Ok
returns-in-Ok c =
    let at-enum-told : tie.In-Ok = search in
    let at-withdraw : tie.After-withdraw-answer = search in
    let at-start : tie.Start = search in
    let t = taken_up (record_in at-start.args.entries.now) (outcome at-withdraw) at-withdraw.withdraw-answer.result at-start.args.entries.now
    (answered at-withdraw) at-enum-told.in-Ok.is in
    (c.done.ensures ∙ t.0, (c.write_record.ensures ∙ t.1, counted at-withdraw))

returns-in-Err : tie.Need-returns-in-Err
returns-in-Err c =
    let at-withdraw : tie.After-withdraw-answer = search in
    let at-start : tie.Start = search in
    let t = turned_down (record_in at-start.args.entries.now) (outcome at-withdraw) at-withdraw.withdraw-answer.result at-start.args.entries.now _
    (answered at-withdraw) c.in-Err.is in
    (c.refused.ensures ∙ t.0, (t.1, counted at-withdraw))

pub sigbrol_withdraw_spec : {M : Type 1} → statement M
sigbrol_withdraw_spec =
    tie.close (tie.spec
    (search rules) (search rules) (search rules) (search rules) (search rules) (search rules) (search rules) (search rules) (search rules)
    returns-in-Ok (search rules) returns-in-Err)
