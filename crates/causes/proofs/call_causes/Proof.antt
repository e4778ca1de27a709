-- `causes::call_causes` meets its contract: at each place the causes before it are not there, so that its own decides. Assumes nothing.
use Rattle.list_laws.proofs.Kit.{◌∙◌, ◌≡◌, ap, sym, not, true, length, rules, eq-eqb, ne_eqb}
use Rattle.model.specs.Lent.{Lent, lent_by, lent_well}
use Rattle.job_laws.proofs.Checked.{facts}
use Rattle.text_laws.proofs.Causes.{there, next}
use Rattle.causes.proofs.call_causes.Statement.{statement}
use Rattle.causes.proofs.call_causes.Tie as tie

-- the lent job
abbrev lent : tie.Start → Lent
lent s = lent_by s.args.size s.args.table.now s.args.pixels.now

-- the call begins here
abbrev start : tie.Else-not-check_job → tie.Start
start p = search

-- it passes its check
well : (p : tie.Else-not-check_job) → lent_well (lent (start p)) ≡ true
well p = let checked : tie.After-check_job = search in sym checked.check_job.ensures ∙ p.if-not-check_job.false

-- the layout has its length
whole : (p : tie.Else-layout-size) → let first : tie.Else-not-check_job = search in length (start first).args.layout.now ≡ (start first).args.size.count
whole p = p.if-layout-size.false

returns-then-not-check_job : tie.Need-returns-then-not-check_job
returns-then-not-check_job c =
    let checked : tie.After-check_job = search in
    let ours : tie.Then-not-check_job = search in
    c.refused.ensures ∙ there 8 _ _ (ap not (sym checked.check_job.ensures ∙ ours.if-not-check_job.true))

returns-then-layout-size : tie.Need-returns-then-layout-size
returns-then-layout-size c =
    let first : tie.Else-not-check_job = search in
    let ours : tie.Then-layout-size = search in
    c.refused-then-layout-size.ensures ∙ next 8 _ _ (ap not (well first)) (there 7 _ _ (ap not (ne_eqb _ _ ours.if-layout-size.true)))

returns-then-wrong : tie.Need-returns-then-wrong
returns-then-wrong c =
    let first : tie.Else-not-check_job = search in
    let second : tie.Else-layout-size = search in
    let ours : tie.Then-wrong = search in
    c.refused-then-wrong.ensures ∙ next 8 _ _ (ap not (well first)) (next 7 _ _ (ap not (eq-eqb _ _ (whole second))) (there 7 _ _ ours.if-wrong.true))

returns-then-wrong-2 : tie.Need-returns-then-wrong-2
returns-then-wrong-2 c =
    let first : tie.Else-not-check_job = search in
    let second : tie.Else-layout-size = search in
    let third : tie.Else-wrong = search in
    let ours : tie.Then-wrong-2 = search in
    c.refused-then-wrong-2.ensures
    ∙ next 8 _ _ (ap not (well first)) (next 7 _ _ (ap not (eq-eqb _ _ (whole second))) (next 7 _ _ third.if-wrong.false (there 2 _ _ ours.if-wrong-2.true)))

place_causes-requires : tie.Need-place_causes-requires
place_causes-requires c κs =
    let first : tie.Else-not-check_job = search in
    let second : tie.Else-layout-size = search in
    ((facts (lent (start first)) (well first)).entries, whole second)

returns : tie.Need-returns
returns c =
    let first : tie.Else-not-check_job = search in
    let second : tie.Else-layout-size = search in
    let third : tie.Else-wrong = search in
    let ours : tie.Else-wrong-2 = search in
    next 8 _ _ (ap not (well first))
    (next 7 _ _ (ap not (eq-eqb _ _ (whole second)))
    (next 7 _ _ third.if-wrong.false (next 2 _ _ ours.if-wrong-2.false (c.place_causes.ensures (start first).args.pixels.now))))

pub call_causes_spec : {M : Type 1} → statement M
call_causes_spec =
    tie.close
    (tie.spec
    (search rules) (search rules) returns-then-not-check_job (search rules) returns-then-layout-size (search rules) returns-then-wrong (search rules)
    returns-then-wrong-2 place_causes-requires returns)
