-- `run_descent::descend` meets its contract. The loop's invariant: the descent is under way, what is left of the budget is what was not made,
-- and the layout, its table and the kept lines fit each other. What is left of the budget falls. Assumes nothing.
use Rattle.list_laws.proofs.Kit.{◌∙◌, ◌≡◌, ap, refl, subst, subst₂, sym, List, ◌+◌, ◌-◌, ◌<◌, ℕ, arith, get_or, length, length-map, rules}
use Rattle.model.specs.Layout.{Layout, weighted_sum}
use Rattle.model.specs.Lent.{Lent, lent_by, job_of}
use Rattle.model.specs.Buffer.{layout_of}
use Rattle.model.specs.Descent.{Trial, Progress, trials, attempt, begin, descend, no_trial, step}
use Rattle.model.specs.declared.End.{End}
use Rattle.model.specs.declared.End.TheVariants.{Clear, Settled, Spent}
use Rattle.job_laws.proofs.Checked.{facts}
use Rattle.descent_laws.specs.Trials.{Proper}
use Rattle.search_laws.proofs.Loop.{Underway, underway_begin, underway_clear, underway_settled, underway_spent, underway_there, underway_pass}
use Rattle.search_laws.proofs.Loop.{descend_over, trial_proper}
use Rattle.run_trials.specs.Trials.{trial_of_code, trials_of}
use Rattle.run_step.specs.Steps.{standing_as}
use Rattle.run_descent.specs.Descents.{descent_of}
use Rattle.run_step.specs.declared.DescentState.{DescentState}
use Rattle.run_descent.specs.declared.Ended.{Ended}
use Rattle.run_descent.proofs.Passes.{step_made, Going}
use Rattle.run_descent.proofs.descend.Statement.{statement}
use Rattle.run_descent.proofs.descend.Tie as tie

abbrev invariant-loop-at : tie.invariant-loop-at
invariant-loop-at run table pixels strips starts trials weights budget layout₀ penalties₀ lines₀ maps₀ pieces count at₀ layout penalties lines maps at =
    Going (lent_by run.size table pixels) run strips starts weights budget (layout_of layout₀) at layout penalties lines maps
    × (length layout ≡ length layout₀)
    × (length penalties ≡ length penalties₀)
    × (length lines ≡ length lines₀)
    × (length maps ≡ length maps₀)

abbrev decreases-loop-at : tie.decreases-loop-at
decreases-loop-at run table pixels strips starts trials weights budget layout₀ penalties₀ lines₀ maps₀ pieces count at₀ layout penalties lines maps at = budget - at.made

-- the lent job and the given layout
abbrev lent : tie.Start invariant-loop-at decreases-loop-at → Lent
lent e = lent_by e.args.run.size e.args.table.now e.args.pixels.now

abbrev given : tie.Start invariant-loop-at decreases-loop-at → Layout
given e = layout_of e.args.layout.now

-- the trials of the lent job, which the lent list holds
abbrev jobTrials : tie.Start invariant-loop-at decreases-loop-at → List Trial
jobTrials e = trials (job_of (lent e))

lists : (e : tie.Start invariant-loop-at decreases-loop-at) → trials_of e.args.trials.now ≡ jobTrials e
lists e = e.requires.1.1.1.1

-- T
count_is : (e : tie.Start invariant-loop-at decreases-loop-at) → length e.args.trials.now ≡ length (jobTrials e)
count_is e = sym (length-map e.args.trials.now trial_of_code) ∙ ap (λ (ks : List Trial). length ks) (lists e)

total-requires : tie.Need-total-requires invariant-loop-at decreases-loop-at
unfolding job_of
total-requires c κs =
    let at-start : tie.Start invariant-loop-at decreases-loop-at = search in
    record {
      few = (facts (lent at-start) at-start.requires.0.well).few_pieces;
      size = at-start.requires.1.1.0.table.size;
      one_per_pair = at-start.requires.1.0.one_per_pair;
    }

loop-at-init : tie.Need-loop-at-init invariant-loop-at decreases-loop-at
unfolding job_of
loop-at-init c =
    let at-start : tie.Start invariant-loop-at decreases-loop-at = search in
    let j = job_of (lent at-start) in
    let v = given at-start in
    let ks = jobTrials at-start in
    let sum : c.total.result ≡ weighted_sum j at-start.args.weights.now v = c.total.ensures j v refl at-start.requires.1.1.0.table in
    let whole : at-start.args.budget ≡ at-start.args.budget - 0 = omega arith in
    let first = underway_begin j at-start.args.weights.now ks at-start.args.budget v at-start.requires.1.1.0.valid in
    let here : Underway j at-start.args.weights.now ks at-start.args.budget v (at-start.args.budget - 0) (begin v) c.total.result =
    subst₂ (λ (m n : ℕ). Underway j at-start.args.weights.now ks at-start.args.budget v m (begin v) n) whole (sym sum) first in
    let under : Underway j at-start.args.weights.now ks at-start.args.budget v (at-start.args.budget - c.beginning-at.result.made)
    (standing_as v c.beginning-at.result) c.beginning-at.result.sum =
    subst (λ (s : DescentState).
    Underway j at-start.args.weights.now ks at-start.args.budget v (at-start.args.budget - s.made) (standing_as v s) s.sum)
    (sym c.beginning-at.ensures) here in
    (record { underway = under; laid = at-start.requires.1.1.0; ready = at-start.requires.0 }, refl, refl, refl, refl)

-- the entry, from the loop's head
abbrev entry : tie.At-loop-at invariant-loop-at decreases-loop-at → tie.Start invariant-loop-at decreases-loop-at
entry c = search

-- what the descent is where it ends with e
abbrev EndsAs : tie.At-loop-at invariant-loop-at decreases-loop-at → End → Type 0
EndsAs c e =
    descend (job_of (lent (entry c))) (entry c).args.weights.now (entry c).args.budget (given (entry c))
    ≡ descent_of (record { end = e; sum = c.loop-at.at.sum; made = c.loop-at.at.made; moves = c.loop-at.at.moves }) (layout_of c.loop-at.layout)

shape_of-layout-then-at-eq0 : tie.Need-shape_of-layout-then-at-eq0 invariant-loop-at decreases-loop-at
shape_of-layout-then-at-eq0 c = let at-loop : tie.At-loop-at invariant-loop-at decreases-loop-at = search in at-loop.loop-at.invariant.1

shape_of-penalties-then-at-eq0 : tie.Need-shape_of-penalties-then-at-eq0 invariant-loop-at decreases-loop-at
shape_of-penalties-then-at-eq0 c = let at-loop : tie.At-loop-at invariant-loop-at decreases-loop-at = search in at-loop.loop-at.invariant.2

shape_of-lines-then-at-eq0 : tie.Need-shape_of-lines-then-at-eq0 invariant-loop-at decreases-loop-at
shape_of-lines-then-at-eq0 c = let at-loop : tie.At-loop-at invariant-loop-at decreases-loop-at = search in at-loop.loop-at.invariant.3

shape_of-maps-then-at-eq0 : tie.Need-shape_of-maps-then-at-eq0 invariant-loop-at decreases-loop-at
shape_of-maps-then-at-eq0 c = let at-loop : tie.At-loop-at invariant-loop-at decreases-loop-at = search in at-loop.loop-at.invariant.4

returns-then-at-eq0 : tie.Need-returns-then-at-eq0 invariant-loop-at decreases-loop-at
unfolding job_of
returns-then-at-eq0 c =
    let at-loop : tie.At-loop-at invariant-loop-at decreases-loop-at = search in
    let e = entry at-loop in
    let j = job_of (lent e) in
    let is : EndsAs at-loop Clear =
    descend_over j e.args.weights.now e.args.budget (given e)
    ∙ underway_clear j e.args.weights.now (jobTrials e) e.args.budget (given e)
    (e.args.budget - at-loop.loop-at.at.made) _ at-loop.loop-at.at.sum at-loop.loop-at.invariant.0.underway
    c.if-at-eq0.true in (
      is ∙ ap (λ (x : Ended). descent_of x (layout_of at-loop.loop-at.layout)) (sym c.end_at.ensures),
      (at-loop.loop-at.invariant.0.laid, at-loop.loop-at.invariant.0.ready),
    )

shape_of-layout-then-settled : tie.Need-shape_of-layout-then-settled invariant-loop-at decreases-loop-at
shape_of-layout-then-settled c = let at-loop : tie.At-loop-at invariant-loop-at decreases-loop-at = search in at-loop.loop-at.invariant.1

shape_of-penalties-then-settled : tie.Need-shape_of-penalties-then-settled invariant-loop-at decreases-loop-at
shape_of-penalties-then-settled c = let at-loop : tie.At-loop-at invariant-loop-at decreases-loop-at = search in at-loop.loop-at.invariant.2

shape_of-lines-then-settled : tie.Need-shape_of-lines-then-settled invariant-loop-at decreases-loop-at
shape_of-lines-then-settled c = let at-loop : tie.At-loop-at invariant-loop-at decreases-loop-at = search in at-loop.loop-at.invariant.3

shape_of-maps-then-settled : tie.Need-shape_of-maps-then-settled invariant-loop-at decreases-loop-at
shape_of-maps-then-settled c = let at-loop : tie.At-loop-at invariant-loop-at decreases-loop-at = search in at-loop.loop-at.invariant.4

returns-then-settled : tie.Need-returns-then-settled invariant-loop-at decreases-loop-at
unfolding job_of
returns-then-settled c =
    let at-else1 : tie.Else-at-eq0 invariant-loop-at decreases-loop-at = search in
    let at-loop : tie.At-loop-at invariant-loop-at decreases-loop-at = search in
    let e = entry at-loop in
    let j = job_of (lent e) in
    let is : EndsAs at-loop Settled =
    descend_over j e.args.weights.now e.args.budget (given e)
    ∙ underway_settled j e.args.weights.now (jobTrials e) e.args.budget (given e)
    (e.args.budget - at-loop.loop-at.at.made) _ at-loop.loop-at.at.sum at-loop.loop-at.invariant.0.underway
    at-else1.if-at-eq0.false (c.if-settled.true ∙ count_is e) in (
      is ∙ ap (λ (x : Ended). descent_of x (layout_of at-loop.loop-at.layout)) (sym c.end_at-then-settled.ensures),
      (at-loop.loop-at.invariant.0.laid, at-loop.loop-at.invariant.0.ready),
    )

shape_of-layout-then-spent : tie.Need-shape_of-layout-then-spent invariant-loop-at decreases-loop-at
shape_of-layout-then-spent c = let at-loop : tie.At-loop-at invariant-loop-at decreases-loop-at = search in at-loop.loop-at.invariant.1

shape_of-penalties-then-spent : tie.Need-shape_of-penalties-then-spent invariant-loop-at decreases-loop-at
shape_of-penalties-then-spent c = let at-loop : tie.At-loop-at invariant-loop-at decreases-loop-at = search in at-loop.loop-at.invariant.2

shape_of-lines-then-spent : tie.Need-shape_of-lines-then-spent invariant-loop-at decreases-loop-at
shape_of-lines-then-spent c = let at-loop : tie.At-loop-at invariant-loop-at decreases-loop-at = search in at-loop.loop-at.invariant.3

shape_of-maps-then-spent : tie.Need-shape_of-maps-then-spent invariant-loop-at decreases-loop-at
shape_of-maps-then-spent c = let at-loop : tie.At-loop-at invariant-loop-at decreases-loop-at = search in at-loop.loop-at.invariant.4

returns-then-spent : tie.Need-returns-then-spent invariant-loop-at decreases-loop-at
unfolding job_of
returns-then-spent c =
    let at-else2 : tie.Else-settled invariant-loop-at decreases-loop-at = search in
    let at-else1 : tie.Else-at-eq0 invariant-loop-at decreases-loop-at = search in
    let at-loop : tie.At-loop-at invariant-loop-at decreases-loop-at = search in
    let e = entry at-loop in
    let j = job_of (lent e) in
    let is : EndsAs at-loop Spent =
    descend_over j e.args.weights.now e.args.budget (given e)
    ∙ underway_spent j e.args.weights.now (jobTrials e) e.args.budget (given e)
    (e.args.budget - at-loop.loop-at.at.made) _ at-loop.loop-at.at.sum at-loop.loop-at.invariant.0.underway
    at-else1.if-at-eq0.false (λ z. at-else2.if-settled.false (z ∙ sym (count_is e))) (let made = c.if-spent.true in omega arith) in (
      is ∙ ap (λ (x : Ended). descent_of x (layout_of at-loop.loop-at.layout)) (sym c.end_at-then-spent.ensures),
      (at-loop.loop-at.invariant.0.laid, at-loop.loop-at.invariant.0.ready),
    )

-- where none of the three ends is reached there is a trial that comes next
there : (c : tie.Else-settled invariant-loop-at decreases-loop-at) →
    let at-loop : tie.At-loop-at invariant-loop-at decreases-loop-at = search in
    at-loop.loop-at.at.next < length (jobTrials (entry at-loop))
there c =
    let at-else1 : tie.Else-at-eq0 invariant-loop-at decreases-loop-at = search in
    let at-loop : tie.At-loop-at invariant-loop-at decreases-loop-at = search in
    let e = entry at-loop in
    underway_there (job_of (lent e)) e.args.weights.now (jobTrials e) e.args.budget (given e) (e.args.budget - at-loop.loop-at.at.made) _
    at-loop.loop-at.at.sum at-loop.loop-at.invariant.0.underway at-else1.if-at-eq0.false (λ z. c.if-settled.false (z ∙ sym (count_is e)))

step-at-requires : tie.Need-step-at-requires invariant-loop-at decreases-loop-at
unfolding job_of
step-at-requires c κs =
    let at-else3 : tie.Else-spent invariant-loop-at decreases-loop-at = search in
    let at-else2 : tie.Else-settled invariant-loop-at decreases-loop-at = search in
    let at-loop : tie.At-loop-at invariant-loop-at decreases-loop-at = search in
    let e = entry at-loop in
    let u = at-loop.loop-at.invariant.0.underway in
    let within = u.counted in
    let differs = at-else3.if-spent.false in
    let most = e.requires.1.1.1.0 in
    let unsettled = at-else2.if-settled.false in
    let count = count_is e in
    let quiet = u.quiet_few in
    let next = there at-else2 in
    let proper = subst (λ (ks : List Trial). Proper (job_of (lent e)) 0 e.args.run.size.count (get_or ks at-loop.loop-at.at.next no_trial)) (sym (lists e))
    (trial_proper (job_of (lent e)) at-loop.loop-at.at.next next) in (
      at-loop.loop-at.invariant.0.ready,
      (e.requires.1.0, (at-loop.loop-at.invariant.0.laid, (proper, (u.sum_is, (omega arith, (omega arith, (u.moves_made, omega arith))))))),
    )

-- the loop's head, from where a step was taken
abbrev head : tie.After-step-at invariant-loop-at decreases-loop-at → tie.At-loop-at invariant-loop-at decreases-loop-at
head c = search

-- the step is the one over the job's trials
stepped : (c : tie.After-step-at invariant-loop-at decreases-loop-at)
    → standing_as (layout_of c.step-at.new.layout) c.step-at.result
    ≡ step (weighted_sum (job_of (lent (entry (head c)))) (entry (head c)).args.weights.now)
    (attempt (job_of (lent (entry (head c)))) (entry (head c)).args.weights.now) (jobTrials (entry (head c)))
    (standing_as (layout_of (head c).loop-at.layout) (head c).loop-at.at)
stepped c =
    let p = (head c).loop-at in
    let e = entry (head c) in
    c.step-at.ensures.0
    ∙ ap (λ (ks : List Trial). step (weighted_sum (job_of (lent e)) e.args.weights.now) (attempt (job_of (lent e)) e.args.weights.now) ks
    (standing_as (layout_of p.layout) p.at)) (lists e)

-- a step makes one trial
made_one : (c : tie.After-step-at invariant-loop-at decreases-loop-at) → c.step-at.result.made ≡ (head c).loop-at.at.made + 1
made_one c =
    let p = (head c).loop-at in
    let e = entry (head c) in
    ap (λ (s : Progress). s.made) (stepped c)
    ∙ step_made (weighted_sum (job_of (lent e)) e.args.weights.now) (attempt (job_of (lent e)) e.args.weights.now) (jobTrials e)
    (standing_as (layout_of p.layout) p.at)

loop-at-smaller : tie.Need-loop-at-smaller invariant-loop-at decreases-loop-at
unfolding job_of
loop-at-smaller c =
    let at-step : tie.After-step-at invariant-loop-at decreases-loop-at = search in
    let at-else3 : tie.Else-spent invariant-loop-at decreases-loop-at = search in
    let at-loop : tie.At-loop-at invariant-loop-at decreases-loop-at = search in
    let within = at-loop.loop-at.invariant.0.underway.counted in
    let differs = at-else3.if-spent.false in
    let one = made_one (at-step) in
    omega arith

loop-at-preserved : tie.Need-loop-at-preserved invariant-loop-at decreases-loop-at
unfolding job_of
loop-at-preserved c =
    let at-step : tie.After-step-at invariant-loop-at decreases-loop-at = search in
    let at-else3 : tie.Else-spent invariant-loop-at decreases-loop-at = search in
    let at-else2 : tie.Else-settled invariant-loop-at decreases-loop-at = search in
    let at-else1 : tie.Else-at-eq0 invariant-loop-at decreases-loop-at = search in
    let at-loop : tie.At-loop-at invariant-loop-at decreases-loop-at = search in
    let e = entry at-loop in
    let j = job_of (lent e) in
    let s = at-step.step-at in
    let new = s.new.layout in
    let left = e.args.budget - at-loop.loop-at.at.made in
    let within = at-loop.loop-at.invariant.0.underway.counted in
    let differs = at-else3.if-spent.false in
    let one = made_one (at-step) in
    let rest : left - 1 ≡ e.args.budget - s.result.made = omega arith in
    let pass : Underway j e.args.weights.now (jobTrials e) e.args.budget (given e) (left - 1)
    (standing_as (layout_of new) s.result) s.result.sum =
    underway_pass j e.args.weights.now (jobTrials e) e.args.budget (given e) left _ at-loop.loop-at.at.sum
    at-loop.loop-at.invariant.0.underway
    at-else1.if-at-eq0.false (λ z. at-else2.if-settled.false (z ∙ sym (count_is e))) (omega arith) _ s.result.sum (stepped at-step) s.ensures.1.0
    s.ensures.1.1.0.valid in
    let under : Underway j e.args.weights.now (jobTrials e) e.args.budget (given e) (e.args.budget - s.result.made)
    (standing_as (layout_of new) s.result)
    s.result.sum =
    subst (λ (n : ℕ). Underway j e.args.weights.now (jobTrials e) e.args.budget (given e) n (standing_as (layout_of new) s.result) s.result.sum)
    rest pass in (
      record { underway = under; laid = s.ensures.1.1.0; ready = s.ensures.1.1.1 },
      s.auto.layout ∙ at-loop.loop-at.invariant.1,
      s.auto.penalties ∙ at-loop.loop-at.invariant.2,
      s.auto.lines ∙ at-loop.loop-at.invariant.3,
      s.auto.maps ∙ at-loop.loop-at.invariant.4,
    )

pub descend_spec : {M : Type 1} → statement M
descend_spec =
    tie.close (tie.spec
    invariant-loop-at decreases-loop-at total-requires (search rules) loop-at-init (search rules) shape_of-layout-then-at-eq0
    shape_of-penalties-then-at-eq0 shape_of-lines-then-at-eq0 shape_of-maps-then-at-eq0 returns-then-at-eq0 (search rules)
    shape_of-layout-then-settled shape_of-penalties-then-settled shape_of-lines-then-settled shape_of-maps-then-settled returns-then-settled
    (search rules) shape_of-layout-then-spent shape_of-penalties-then-spent shape_of-lines-then-spent shape_of-maps-then-spent
    returns-then-spent step-at-requires loop-at-smaller loop-at-preserved)
