-- `strip_calls::stretch::stretch` meets its contract: where no number is told the stretch can be cut out of its store. Assumes nothing.
use Rattle.list_laws.proofs.Kit.{◌∙◌, ap, sym, rules}
use Rattle.model.specs.Lent.{Lent, lent_by}
use Rattle.model.specs.Calls.{Stores, stretch_call, stretch_of, stretch_given}
use Rattle.strip_calls.specs.Stores.{stores_by}
use Rattle.strip_calls.proofs.Outcomes.{StretchPassed, stretch_empty, stretch_passed}
use Rattle.strip_calls.proofs.stretch.stretch.Statement.{statement}
use Rattle.strip_calls.proofs.stretch.stretch.Tie as tie

-- the lent job
abbrev job : tie.Start → Lent
job s = lent_by s.args.size s.args.table.now s.args.pixels.now

-- the lent stores
abbrev lent : tie.Start → Stores
lent s = stores_by s.args.row_strips.now s.args.row_starts.now s.args.column_strips.now s.args.column_starts.now

returns-then-refused : tie.Need-returns-then-refused
returns-then-refused c =
    let at-start : tie.Start = search in
    stretch_empty (stretch_call (job at-start) at-start.args.turns.now (lent at-start) at-start.args.piece at-start.args.direction)
    (λ e. c.if-refused.true (c.stretch_refusal-refused.ensures ∙ e))

-- no number is told
passed : (c : tie.Else-refused) →
    let at-start : tie.Start = search in
    StretchPassed (job (at-start)) at-start.args.turns.now (lent (at-start)) at-start.args.piece at-start.args.direction
passed c =
    let at-start : tie.Start = search in
    stretch_passed (job at-start) at-start.args.turns.now (lent at-start) at-start.args.piece at-start.args.direction
    (sym c.stretch_refusal-refused.ensures ∙ c.if-refused.false)

part-requires : tie.Need-part-requires
part-requires c κs =
    let at-else1 : tie.Else-refused = search in
    (passed (at-else1)).rows

part-requires-in-Vertical : tie.Need-part-requires-in-Vertical
part-requires-in-Vertical c κs =
    let at-else1 : tie.Else-refused = search in
    (passed (at-else1)).columns

returns-in-Horizontal : tie.Need-returns-in-Horizontal
returns-in-Horizontal c =
    let at-else1 : tie.Else-refused = search in
    let at-start : tie.Start = search in
    c.part.ensures ∙ ap (λ d. stretch_of d (lent at-start) at-start.args.piece) (sym c.in-Horizontal.is)
    ∙ ap stretch_given (sym (passed (at-else1)).gives)

returns-in-Vertical : tie.Need-returns-in-Vertical
returns-in-Vertical c =
    let at-else1 : tie.Else-refused = search in
    let at-start : tie.Start = search in
    c.part-in-Vertical.ensures ∙ ap (λ d. stretch_of d (lent at-start) at-start.args.piece) (sym c.in-Vertical.is)
    ∙ ap stretch_given (sym (passed (at-else1)).gives)

pub stretch_spec : {M : Type 1} → statement M
stretch_spec =
    tie.close (tie.spec
    (search rules) (search rules) returns-then-refused (search rules) part-requires (search rules) part-requires-in-Vertical
    returns-in-Horizontal returns-in-Vertical)
