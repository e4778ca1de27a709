-- `pair_nofit_calls::stretch_causes` meets its contract: at each place the causes before it are not there, so that its own decides.
-- Assumes nothing.
use Rattle.list_laws.proofs.Kit.{◌∙◌, ◌≡◌, ap, ap₂, sym, Bool, ◌&&◌, false, not, true, arith, rules}
use Rattle.model.specs.Lent.{Lent, lent_by, lent_well, job_of}
use Rattle.model.specs.Calls.{LentStretch, known, stretch_well}
use Rattle.job_laws.proofs.Checked.{facts, entry_at}
use Rattle.text_laws.proofs.Causes.{there, next, no_more}
use Rattle.pair_nofit_calls.specs.Lines.{lent_stretch, stretch_causes}
use Rattle.pair_nofit_calls.proofs.Owning.{known_below}
use Rattle.pair_nofit_calls.proofs.stretch_causes.Statement.{statement}
use Rattle.pair_nofit_calls.proofs.stretch_causes.Tie as tie

-- the lent job
abbrev lent : tie.Start → Lent
lent s = lent_by s.args.size s.args.table.now s.args.pixels.now

-- the two stretches
abbrev one : tie.Start → LentStretch
one s = lent_stretch s.args.first.piece s.args.first.turn s.args.a.now

abbrev two : tie.Start → LentStretch
two s = lent_stretch s.args.second.piece s.args.second.turn s.args.b.now

-- the call begins here
abbrev start : tie.After-check_job → tie.Start
start p = search

-- the job passes its check
well : (p : tie.Else-not-check_job) → lent_well (lent (start p.before)) ≡ true
well p = let checked : tie.After-check_job = search in sym checked.check_job.ensures ∙ p.if-not-check_job.false

-- the first piece is known
first_known : (p : tie.Else-not-known) → let checked : tie.After-check_job = search in known (job_of (lent (start checked))) (one (start checked)) ≡ true
unfolding known job_of
first_known p =
    let s : tie.Start = search in
    let asked : tie.After-known = search in
    sym (asked.known.ensures s.args.pixels.now) ∙ p.if-not-known.false

-- so is the second
second_known : (p : tie.Else-not-known-2) → let checked : tie.After-check_job = search in known (job_of (lent (start checked))) (two (start checked)) ≡ true
unfolding known job_of
second_known p =
    let s : tie.Start = search in
    let asked : tie.After-known-2 = search in
    sym (asked.known-2.ensures s.args.pixels.now) ∙ p.if-not-known-2.false

-- the first stretch is its piece's
first-own : (p : tie.Else-not-is_own) → let checked : tie.After-check_job = search in
    stretch_well (start checked).args.direction (job_of (lent (start checked))) (one (start checked)) ≡ true
first-own p =
    let s : tie.Start = search in
    let asked : tie.After-is_own = search in
    sym (asked.is_own.ensures s.args.size) ∙ p.if-not-is_own.false

-- a test that the first of two fails, that the second fails, and that both pass
first_fails : {a : Bool} (b : Bool) → a ≡ false → not (a && b) ≡ true
first_fails b e = ap (λ x. not (x && b)) e

second_fails : {a b : Bool} → a ≡ true → b ≡ false → not (a && b) ≡ true
second_fails e f = ap₂ (λ x y. not (x && y)) e f

both_pass : {a b : Bool} → a ≡ true → b ≡ true → not (a && b) ≡ false
both_pass e f = ap₂ (λ x y. not (x && y)) e f

returns-then-not-check_job : tie.Need-returns-then-not-check_job
unfolding stretch_causes
returns-then-not-check_job c =
    let checked : tie.After-check_job = search in
    let ours : tie.Then-not-check_job = search in
    c.refused.ensures ∙ there 8 _ _ (ap not (sym checked.check_job.ensures ∙ ours.if-not-check_job.true))

returns-then-not-known : tie.Need-returns-then-not-known
unfolding stretch_causes known job_of
returns-then-not-known c =
    let s : tie.Start = search in
    let first : tie.Else-not-check_job = search in
    let asked : tie.After-known = search in
    let ours : tie.Then-not-known = search in
    c.refused-then-not-known.ensures
    ∙ next 8 _ _ (ap not (well first))
    (there 9 _ _ (first_fails (known (job_of (lent s)) (two s)) (sym (asked.known.ensures s.args.pixels.now) ∙ ours.if-not-known.true)))

returns-then-not-known-2 : tie.Need-returns-then-not-known-2
unfolding stretch_causes known job_of
returns-then-not-known-2 c =
    let s : tie.Start = search in
    let first : tie.Else-not-check_job = search in
    let second : tie.Else-not-known = search in
    let asked : tie.After-known-2 = search in
    let ours : tie.Then-not-known-2 = search in
    c.refused-then-not-known-2.ensures
    ∙ next 8 _ _ (ap not (well first))
    (there 9 _ _ (second_fails (first_known second) (sym (asked.known-2.ensures s.args.pixels.now) ∙ ours.if-not-known-2.true)))

is_own-requires : tie.Need-is_own-requires
is_own-requires c κs =
    let s : tie.Start = search in
    let first : tie.Else-not-check_job = search in
    let second : tie.Else-not-known = search in
    let below = known_below (lent s) (one s) (first_known second) in
    (entry_at (lent s) s.args.first.piece (well first) below, omega (arith, (facts (lent s) (well first)).few_pieces, below))

returns-then-not-is_own : tie.Need-returns-then-not-is_own
unfolding stretch_causes
returns-then-not-is_own c =
    let s : tie.Start = search in
    let first : tie.Else-not-check_job = search in
    let second : tie.Else-not-known = search in
    let third : tie.Else-not-known-2 = search in
    let asked : tie.After-is_own = search in
    let ours : tie.Then-not-is_own = search in
    let other = stretch_well s.args.direction (job_of (lent s)) (two s) in
    c.refused-then-not-is_own.ensures
    ∙ next 8 _ _ (ap not (well first))
    (next 9 _ _ (both_pass (first_known second) (second_known third))
    (there 8 _ _ (first_fails other (sym (asked.is_own.ensures s.args.size) ∙ ours.if-not-is_own.true))))

is_own-requires-2 : tie.Need-is_own-requires-2
is_own-requires-2 c κs =
    let s : tie.Start = search in
    let first : tie.Else-not-check_job = search in
    let third : tie.Else-not-known-2 = search in
    let below = known_below (lent s) (two s) (second_known third) in
    (entry_at (lent s) s.args.second.piece (well first) below, omega (arith, (facts (lent s) (well first)).few_pieces, below))

returns-then-not-is_own-2 : tie.Need-returns-then-not-is_own-2
unfolding stretch_causes
returns-then-not-is_own-2 c =
    let s : tie.Start = search in
    let first : tie.Else-not-check_job = search in
    let second : tie.Else-not-known = search in
    let third : tie.Else-not-known-2 = search in
    let fourth : tie.Else-not-is_own = search in
    let asked : tie.After-is_own-2 = search in
    let ours : tie.Then-not-is_own-2 = search in
    c.refused-then-not-is_own-2.ensures
    ∙ next 8 _ _ (ap not (well first))
    (next 9 _ _ (both_pass (first_known second) (second_known third))
    (there 8 _ _ (second_fails (first-own fourth) (sym (asked.is_own-2.ensures s.args.size) ∙ ours.if-not-is_own-2.true))))

returns : tie.Need-returns
unfolding stretch_causes
returns c =
    let s : tie.Start = search in
    let first : tie.Else-not-check_job = search in
    let second : tie.Else-not-known = search in
    let third : tie.Else-not-known-2 = search in
    let fourth : tie.Else-not-is_own = search in
    let asked : tie.After-is_own-2 = search in
    next 8 _ _ (ap not (well first))
    (next 9 _ _ (both_pass (first_known second) (second_known third))
    (next 8 _ _ (both_pass (first-own fourth) (sym (asked.is_own-2.ensures s.args.size) ∙ c.if-not-is_own-2.false)) no_more))

pub stretch_causes_spec : {M : Type 1} → statement M
stretch_causes_spec =
    tie.close
    (tie.spec
    (search rules) (search rules) returns-then-not-check_job (search rules) (search rules) returns-then-not-known (search rules) (search rules)
    returns-then-not-known-2 is_own-requires (search rules) returns-then-not-is_own is_own-requires-2 (search rules) returns-then-not-is_own-2 returns)
