-- `strip_calls::stretch::stretch_refusal` meets its contract: each number is that of the call's first cause. Assumes nothing.
use Rattle.list_laws.proofs.Kit.{◌∙◌, ◌≡◌, ap, sym, false, true, rules}
use Rattle.model.specs.Lent.{Lent, lent_by, lent_well, job_of}
use Rattle.model.specs.Calls.{Stores, turn_list_wrong, stretch_number}
use Rattle.job_laws.proofs.Checked.{facts}
use Rattle.strip_calls.specs.Stores.{stores_by}
use Rattle.strip_store.proofs.Filling.{made_ready}
use Rattle.strip_calls.proofs.Outcomes.{stretch_job, stretch_turns, stretch_piece, stretch_store, stretch_given_lem}
use Rattle.strip_calls.proofs.stretch.stretch_refusal.Statement.{statement}
use Rattle.strip_calls.proofs.stretch.stretch_refusal.Tie as tie

-- the lent job
abbrev job : tie.Start → Lent
job s = lent_by s.args.size s.args.table.now s.args.pixels.now

-- the lent stores
abbrev lent : tie.Start → Stores
lent s = stores_by s.args.row_strips.now s.args.row_starts.now s.args.column_strips.now s.args.column_starts.now

returns-then-not-check_job : tie.Need-returns-then-not-check_job
returns-then-not-check_job c =
    let at-start : tie.Start = search in
    ap stretch_number
    (sym (stretch_job (job at-start) at-start.args.turns.now (lent at-start) at-start.args.piece at-start.args.direction
    (sym c.check_job.ensures ∙ c.if-not-check_job.true)))

-- the job passes its check
well : (c : tie.Else-not-check_job) →
    let at-start : tie.Start = search in
    lent_well (job (at-start)) ≡ true
well c = sym c.check_job.ensures ∙ c.if-not-check_job.false

wrong-requires : tie.Need-wrong-requires
wrong-requires c κs =
    let at-start : tie.Start = search in
    (facts (job (at-start)) (well c)).entries

returns-then-wrong : tie.Need-returns-then-wrong
returns-then-wrong c =
    let at-start : tie.Start = search in
    ap stretch_number
    (sym (stretch_turns (job at-start) at-start.args.turns.now (lent at-start) at-start.args.piece at-start.args.direction
    (well c.before.before) (sym (c.wrong.ensures at-start.args.pixels.now) ∙ c.if-wrong.true)))

-- the turns are right
right : (c : tie.Else-wrong) →
    let at-start : tie.Start = search in
    turn_list_wrong (job_of (job (at-start))) at-start.args.turns.now ≡ false
right c =
    let at-start : tie.Start = search in
    sym (c.wrong.ensures at-start.args.pixels.now) ∙ c.if-wrong.false

returns-then-size-piece : tie.Need-returns-then-size-piece
returns-then-size-piece c =
    let at-else1 : tie.Else-not-check_job = search in
    let at-start : tie.Start = search in
    ap stretch_number
    (sym (stretch_piece (job at-start) at-start.args.turns.now (lent at-start) at-start.args.piece at-start.args.direction (well (at-else1))
    c.if-size-piece.true))

same_stores-requires : tie.Need-same_stores-requires
same_stores-requires c κs =
    let at-else1 : tie.Else-not-check_job = search in
    let at-start : tie.Start = search in
    made_ready (job (at-start)) at-start.args.turns.now (well (at-else1)) (right c.before.before)

returns-then-not-same_stores : tie.Need-returns-then-not-same_stores
returns-then-not-same_stores c =
    let at-else2 : tie.Else-wrong = search in
    let at-else1 : tie.Else-not-check_job = search in
    let at-start : tie.Start = search in
    ap stretch_number
    (sym (stretch_store (job at-start) at-start.args.turns.now (lent at-start) at-start.args.piece at-start.args.direction (well (at-else1))
    (right (at-else2)) c.if-size-piece.false (sym c.same_stores.ensures ∙ c.if-not-same_stores.true)))

returns : tie.Need-returns
returns c =
    let at-else2 : tie.Else-wrong = search in
    let at-else1 : tie.Else-not-check_job = search in
    let at-start : tie.Start = search in
    ap stretch_number
    (sym (stretch_given_lem (job at-start) at-start.args.turns.now (lent at-start) at-start.args.piece at-start.args.direction (well (at-else1))
    (right (at-else2)) c.if-size-piece.false (sym c.same_stores.ensures ∙ c.if-not-same_stores.false)))

pub stretch_refusal_spec : {M : Type 1} → statement M
stretch_refusal_spec =
    tie.close (tie.spec
    (search rules) returns-then-not-check_job wrong-requires returns-then-wrong returns-then-size-piece same_stores-requires
    returns-then-not-same_stores returns)
