-- `job_lock_calls::set_lock` meets its contract: each test tells whether its cause is there, and where none is the lock is set; either way the
-- table is the one that the call leaves, of which the claims hold. Assumes nothing.
use Rattle.std.specs.Prelude.{Result, Ok}
use Rattle.model.specs.declared.Refusal.{Refusal}
use Rattle.list_laws.proofs.Kit.{◌∙◌, ◌≡◌, ap, refl, sym, false, true, List, [], ◌∷◌, ℕ, arith, eqb, ltb, rules, eq-eqb, le-ltb, lt-ltb, ne_eqb}
use Rattle.model.specs.Answers.{done_answer}
use Rattle.model.specs.Lent.{Lent, lent_by, lent_well}
use Rattle.model.specs.Refusal.{Outcome, refused, given, unless, plain_refusal}
use Rattle.model.specs.Calls.{set_lock_call, locked_after, with_lock, cutters_station, planners_station}
use Rattle.list_laws.proofs.Tests.{said_no, said_yes}
use Rattle.job_laws.proofs.Checked.{facts}
use Rattle.call_laws.specs.Locks.{lock_call, LocksClaims}
use Rattle.call_laws.proofs.Locks.{lock_left}
use Rattle.job_lock_calls.proofs.set_lock.Statement.{statement}
use Rattle.job_lock_calls.proofs.set_lock.Tie as tie

-- the lent job
abbrev lent : tie.Start → Lent
lent s = lent_by s.args.size s.args.table.now s.args.pixels.now

-- what the contract says of an answer and a table, where the call comes to an outcome
ends : (l : Lent) (i station : ℕ) (o : Outcome (List (List ℕ))) (r : Result (Unit {0}) Refusal) (table : List (List ℕ)) → set_lock_call l i station ≡ o
    → r ≡ done_answer o → table ≡ locked_after l.table o
    → (r ≡ done_answer (set_lock_call l i station))
    × ((table ≡ locked_after l.table (set_lock_call l i station))
    × LocksClaims l (lock_call i station ∷ []) (lent_by l.size table l.pixels))
ends l i station o r table e answer memory =
    let left : table ≡ locked_after l.table (set_lock_call l i station) = memory ∙ sym (ap (locked_after l.table) e) in
    (answer ∙ sym (ap done_answer e), (left, lock_left l i station table left))

-- the job passes its check behind the first test
job_well : (c : tie.Else-not-check_job) → let s : tie.Start = search in lent_well (lent s) ≡ true
job_well c = sym c.before.check_job.ensures ∙ c.if-not-check_job.false

-- behind the second the station is the planner's or the cutter's
station-known : (c : tie.Else-unknown) → let s : tie.Start = search in ltb cutters_station s.args.station ≡ false
station-known c =
    let s : tie.Start = search in
    let few = c.if-unknown.false in
    le-ltb cutters_station s.args.station (omega arith)

returns-then-not-check_job : tie.Need-returns-then-not-check_job
unfolding set_lock_call unless
returns-then-not-check_job c =
    let s : tie.Start = search in
    let well : lent_well (lent s) ≡ false = sym c.before.before.check_job.ensures ∙ c.before.if-not-check_job.true in
    ends (lent s) s.args.piece s.args.station (refused (plain_refusal 8)) c.refused.result s.args.table.now (rw (well, unless))
    c.refused.ensures refl

returns-then-unknown : tie.Need-returns-then-unknown
unfolding set_lock_call unless
returns-then-unknown c =
    let s : tie.Start = search in
    let checked : tie.Else-not-check_job = search in
    let over = c.before.if-unknown.true in
    let none : ltb cutters_station s.args.station ≡ true = lt-ltb cutters_station s.args.station (omega arith) in
    ends (lent s) s.args.piece s.args.station (refused (plain_refusal 2)) c.refused-then-unknown.result s.args.table.now
    (rw (job_well checked, none, unless)) c.refused-then-unknown.ensures refl

returns-then-missing : tie.Need-returns-then-missing
unfolding set_lock_call unless
returns-then-missing c =
    let s : tie.Start = search in
    let checked : tie.Else-not-check_job = search in
    let asked : tie.Else-unknown = search in
    let none : ltb s.args.piece s.args.size.count ≡ false = le-ltb s.args.piece s.args.size.count c.before.if-missing.true in
    ends (lent s) s.args.piece s.args.station (refused (plain_refusal 9)) c.refused-then-missing.result s.args.table.now
    (rw (job_well checked, station-known asked, none, unless)) c.refused-then-missing.ensures refl

returns-then-planner : tie.Need-returns-then-planner
unfolding set_lock_call unless
returns-then-planner c =
    let s : tie.Start = search in
    let checked : tie.Else-not-check_job = search in
    let asked : tie.Else-unknown = search in
    let there : tie.Else-missing = search in
    let here : ltb s.args.piece s.args.size.count ≡ true = lt-ltb s.args.piece s.args.size.count there.if-missing.false in
    let planner : eqb s.args.station planners_station ≡ true = eq-eqb s.args.station planners_station c.before.if-planner.true in
    ends (lent s) s.args.piece s.args.station (refused (plain_refusal 16)) c.refused-then-planner.result s.args.table.now
    (rw (job_well checked, station-known asked, here, planner, unless)) c.refused-then-planner.ensures refl

lock_piece-requires : tie.Need-lock_piece-requires
lock_piece-requires c κs =
    let s : tie.Start = search in
    let checked : tie.Else-not-check_job = search in
    let there : tie.Else-missing = search in
    let entries = (facts (lent s) (job_well checked)).entries in
    let here = there.if-missing.false in
    omega arith

returns : tie.Need-returns
unfolding set_lock_call unless
returns c =
    let s : tie.Start = search in
    let checked : tie.Else-not-check_job = search in
    let asked : tie.Else-unknown = search in
    let there : tie.Else-missing = search in
    let free : tie.Else-planner = search in
    let locked : tie.After-lock_piece = search in
    let here : ltb s.args.piece s.args.size.count ≡ true = lt-ltb s.args.piece s.args.size.count there.if-missing.false in
    let cutter : eqb s.args.station planners_station ≡ false = ne_eqb s.args.station planners_station free.if-planner.false in
    ends (lent s) s.args.piece s.args.station (given (with_lock s.args.table.now s.args.piece)) (Ok tt) _
    (rw (job_well checked, station-known asked, here, cutter, unless)) refl locked.lock_piece.ensures

pub set_lock_spec : {M : Type 1} → statement M
set_lock_spec =
    tie.close (tie.spec
    (search rules) (search rules) (search rules) returns-then-not-check_job (search rules) (search rules) returns-then-unknown
    (search rules) (search rules) returns-then-missing (search rules) (search rules) returns-then-planner lock_piece-requires
    (search rules) returns)
