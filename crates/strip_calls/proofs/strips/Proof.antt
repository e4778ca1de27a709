-- `strip_calls::strips` meets its contract: each refusal is the call's first cause, and the stores are filled where both have room. Assumes
-- nothing.
use Rattle.list_laws.proofs.Kit.{◌∙◌, ◌≡◌, ap, ap₂, sym, false, true, rules}
use Rattle.model.specs.Lent.{Lent, lent_by, lent_well, job_of}
use Rattle.model.specs.Calls.{Stores, turn_list_wrong, stores_after}
use Rattle.job_laws.proofs.Checked.{facts}
use Rattle.strip_store.specs.Made.{StoreReady}
use Rattle.model.specs.Answers.{done_answer}
use Rattle.strip_calls.specs.Stores.{stores_by}
use Rattle.strip_calls.specs.Rooms.{room_for_both, has_room}
use Rattle.strip_store.proofs.Filling.{made_ready}
use Rattle.strip_calls.proofs.Outcomes.{strips_job, strips_turns, strips_short, strips_given}
use Rattle.strip_calls.proofs.strips.Statement.{statement}
use Rattle.strip_calls.proofs.strips.Tie as tie

-- the lent job
abbrev job : tie.Start → Lent
job s = lent_by s.args.size s.args.table.now s.args.pixels.now

-- the lent stores
abbrev lent : tie.Start → Stores
lent s = stores_by s.args.row_strips.now s.args.row_starts.now s.args.column_strips.now s.args.column_starts.now

returns-then-not-check_job : tie.Need-returns-then-not-check_job
returns-then-not-check_job c =
    let at-start : tie.Start = search in
    let out =
    strips_job (job at-start) at-start.args.turns.now (lent at-start) (sym c.check_job.ensures ∙ c.if-not-check_job.true) in
    (c.refused.ensures ∙ ap done_answer (sym out), ap (stores_after (lent at-start)) (sym out))

-- the job passes its check
well : (c : tie.Else-not-check_job) →
    let at-start : tie.Start = search in
    lent_well (job (at-start)) ≡ true
well c = sym c.check_job.ensures ∙ c.if-not-check_job.false

wrong-requires : tie.Need-wrong-requires
wrong-requires c κs =
    let at-start : tie.Start = search in
    (facts (job (at-start)) (well c)).entries

returns-then-wrong : tie.Need-returns-then-wrong
returns-then-wrong c =
    let at-else1 : tie.Else-not-check_job = search in
    let at-start : tie.Start = search in
    let out = strips_turns (job at-start) at-start.args.turns.now (lent at-start) (well (at-else1))
    (sym (c.wrong.ensures at-start.args.pixels.now) ∙ c.if-wrong.true) in
    (c.refused-then-wrong.ensures ∙ ap done_answer (sym out), ap (stores_after (lent at-start)) (sym out))

-- the turns are right
right : (c : tie.Else-wrong) →
    let at-start : tie.Start = search in
    turn_list_wrong (job_of (job (at-start))) at-start.args.turns.now ≡ false
right c =
    let at-start : tie.Start = search in
    sym (c.wrong.ensures at-start.args.pixels.now) ∙ c.if-wrong.false

-- strips can be made
ready : (c : tie.Else-wrong) →
    let at-start : tie.Start = search in
    StoreReady (job (at-start)) at-start.args.turns.now
ready c =
    let at-start : tie.Start = search in
    made_ready (job (at-start)) at-start.args.turns.now (well c.before.before) (right c)

both_have_room-requires : tie.Need-both_have_room-requires
both_have_room-requires c κs = ready c.before.before

-- what is asked is whether the lent stores have room
asked : (c : tie.After-both_have_room) →
    let at-start : tie.Start = search in
    c.both_have_room.result ≡ has_room (job_of (job (at-start))) at-start.args.turns.now (lent (at-start))
asked c =
    let at-start : tie.Start = search in
    c.both_have_room.ensures
    ∙ ap₂ (room_for_both (job_of (job (at-start))) at-start.args.turns.now) c.room_for-rows.ensures c.room_for-columns.ensures

returns-then-not-both_have_room : tie.Need-returns-then-not-both_have_room
returns-then-not-both_have_room c =
    let at-else2 : tie.Else-wrong = search in
    let at-else1 : tie.Else-not-check_job = search in
    let at-start : tie.Start = search in
    let out = strips_short (job at-start) at-start.args.turns.now (lent at-start) (well (at-else1)) (right (at-else2))
    (sym (asked c.before.before) ∙ c.if-not-both_have_room.true) in
    (c.refused-then-not-both_have_room.ensures ∙ ap done_answer (sym out), ap (stores_after (lent at-start)) (sym out))

-- both stores have room
room : (c : tie.Else-not-both_have_room) →
    let at-start : tie.Start = search in
    has_room (job_of (job (at-start))) at-start.args.turns.now (lent (at-start)) ≡ true
room c = sym (asked c.before) ∙ c.if-not-both_have_room.false

fill_both-requires : tie.Need-fill_both-requires
fill_both-requires c κs =
    let at-else3 : tie.Else-not-both_have_room = search in
    let at-else2 : tie.Else-wrong = search in
    (ready (at-else2), room (at-else3))

returns : tie.Need-returns
returns c =
    let at-fill-both : tie.After-fill_both = search in
    let at-else3 : tie.Else-not-both_have_room = search in
    let at-else2 : tie.Else-wrong = search in
    let at-else1 : tie.Else-not-check_job = search in
    let at-start : tie.Start = search in
    let out = strips_given (job at-start) at-start.args.turns.now (lent at-start) (well (at-else1)) (right (at-else2)) (room (at-else3)) in
    (ap done_answer (sym out), at-fill-both.fill_both.ensures ∙ ap (stores_after (lent at-start)) (sym out))

pub strips_spec : {M : Type 1} → statement M
strips_spec =
    tie.close (tie.spec
    (search rules) (search rules) returns-then-not-check_job wrong-requires (search rules) returns-then-wrong (search rules) (search rules)
    both_have_room-requires (search rules) returns-then-not-both_have_room fill_both-requires (search rules) (search rules) (search rules)
    (search rules) returns)
