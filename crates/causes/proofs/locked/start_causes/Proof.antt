-- `causes::locked::start_causes` meets its contract: at each place the causes before it are not there, so that its own decides. Assumes nothing.
use Rattle.list_laws.proofs.Kit.{◌∙◌, ◌≡◌, ap, sym, false, not, true, length, rules, eq-eqb, ne_eqb}
use Rattle.model.specs.Lent.{Lent, lent_by, lent_well, job_of}
use Rattle.model.specs.Calls.{locked_turn_wrong}
use Rattle.job_laws.proofs.Checked.{facts}
use Rattle.text_laws.proofs.Causes.{there, next, no_more}
use Rattle.descent_laws.proofs.Run.{impossible}
use Rattle.call_laws.proofs.Layouts.{locked_written}
use Rattle.causes.proofs.locked.start_causes.Statement.{statement}
use Rattle.causes.proofs.locked.start_causes.Tie as tie

-- the lent job
abbrev lent : tie.Start → Lent
lent s = lent_by s.args.size s.args.table.now s.args.pixels.now

-- the call begins here
abbrev start : tie.Else-not-check_job → tie.Start
start p = search

-- it passes its check
well : (p : tie.Else-not-check_job) → lent_well (lent (start p)) ≡ true
well p = let checked : tie.After-check_job = search in sym checked.check_job.ensures ∙ p.if-not-check_job.false

-- the layout has its length
whole : (p : tie.Else-layout-size) → let first : tie.Else-not-check_job = search in length (start first).args.layout.now ≡ (start first).args.size.count
whole p = p.if-layout-size.false

-- no locked turn is wrong
right : (p : tie.Else-some_turn_wrong) →
    let first : tie.Else-not-check_job = search in
    locked_turn_wrong (job_of (lent (start first))) (start first).args.layout.now ≡ false
right p =
    let first : tie.Else-not-check_job = search in
    let asked : tie.After-some_turn_wrong = search in
    sym (asked.some_turn_wrong.ensures.0 (start first).args.pixels.now) ∙ p.if-some_turn_wrong.false

returns-then-not-check_job : tie.Need-returns-then-not-check_job
returns-then-not-check_job c =
    let checked : tie.After-check_job = search in
    let ours : tie.Then-not-check_job = search in (
      c.refused.ensures ∙ there 8 _ _ (ap not (sym checked.check_job.ensures ∙ ours.if-not-check_job.true)),
      λ e. impossible (cc),
    )

returns-then-layout-size : tie.Need-returns-then-layout-size
returns-then-layout-size c =
    let first : tie.Else-not-check_job = search in
    let ours : tie.Then-layout-size = search in (
      c.refused-then-layout-size.ensures ∙ next 8 _ _ (ap not (well first)) (there 7 _ _ (ap not (ne_eqb _ _ ours.if-layout-size.true))),
      λ e. impossible (cc),
    )

some_turn_wrong-requires : tie.Need-some_turn_wrong-requires
some_turn_wrong-requires c κs =
    let first : tie.Else-not-check_job = search in
    let second : tie.Else-layout-size = search in
    ((facts (lent (start first)) (well first)).entries, whole second)

returns-then-some_turn_wrong : tie.Need-returns-then-some_turn_wrong
returns-then-some_turn_wrong c =
    let first : tie.Else-not-check_job = search in
    let second : tie.Else-layout-size = search in
    let asked : tie.After-some_turn_wrong = search in
    let ours : tie.Then-some_turn_wrong = search in (
      c.refused-then-some_turn_wrong.ensures
          ∙ next 8 _ _ (ap not (well first))
          (next 7 _ _ (ap not (eq-eqb _ _ (whole second)))
          (there 9 _ _ (sym (asked.some_turn_wrong.ensures.0 (start first).args.pixels.now) ∙ ours.if-some_turn_wrong.true))),
      λ e. impossible (cc),
    )

some_outside-requires : tie.Need-some_outside-requires
some_outside-requires c κs =
    let first : tie.Else-not-check_job = search in
    let second : tie.Else-layout-size = search in
    ((facts (lent (start first)) (well first)).entries, whole second)

returns-then-some_outside : tie.Need-returns-then-some_outside
returns-then-some_outside c =
    let first : tie.Else-not-check_job = search in
    let second : tie.Else-layout-size = search in
    let third : tie.Else-some_turn_wrong = search in
    let asked : tie.After-some_outside = search in
    let ours : tie.Then-some_outside = search in (
      c.refused-then-some_outside.ensures
          ∙ next 8 _ _ (ap not (well first))
          (next 7 _ _ (ap not (eq-eqb _ _ (whole second)))
          (next 9 _ _ (right third) (there 10 _ _ (sym (asked.some_outside.ensures (start first).args.pixels.now) ∙ ours.if-some_outside.true)))),
      λ e. impossible (cc),
    )

returns : tie.Need-returns
returns c =
    let first : tie.Else-not-check_job = search in
    let second : tie.Else-layout-size = search in
    let third : tie.Else-some_turn_wrong = search in
    let turns : tie.After-some_turn_wrong = search in
    let asked : tie.After-some_outside = search in (
      next 8 _ _ (ap not (well first))
          (next 7 _ _ (ap not (eq-eqb _ _ (whole second)))
          (next 9 _ _ (right third)
          (next 10 _ _ (sym (asked.some_outside.ensures (start first).args.pixels.now) ∙ c.if-some_outside.false) no_more))),
      λ e i l locked.
          locked_written (job_of (lent (start first))) (start first).args.layout.now (right third) i l locked
          (turns.some_turn_wrong.ensures.1 third.if-some_turn_wrong.false (start first).args.pixels.now i l locked),
    )

pub start_causes_spec : {M : Type 1} → statement M
start_causes_spec =
    tie.close
    (tie.spec
    (search rules) (search rules) returns-then-not-check_job (search rules) returns-then-layout-size some_turn_wrong-requires (search rules)
    returns-then-some_turn_wrong some_outside-requires (search rules) returns-then-some_outside returns)
