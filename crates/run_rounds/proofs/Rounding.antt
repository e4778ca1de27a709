-- The loop over the rounds of a guided run, over the buffers that it works on: what holds before each round, and that a round keeps it or ends
-- the run. The laws of the run itself are those of search_laws, GuidedLoop. Assumes nothing.
use Rattle.list_laws.proofs.Kit.{◌∙◌, ◌≡◌, ap, refl, sym, Bool, false, true, ◌≢◌, List, ◌*◌, ◌+◌, ◌-◌, ◌<◌, ◌≤◌, ℕ, mul-le-mul, mul-le-mul_right, arith, ltb}
use Rattle.list_laws.proofs.Kit.{length}
use Rattle.model.specs.Layout.{Job, Layout, plain_sum}
use Rattle.model.specs.Descent.{descend}
use Rattle.model.specs.Guided.{raised, best_of, guide}
use Rattle.model.specs.Lent.{Lent, job_of, lent_well}
use Rattle.model.specs.Buffer.{layout_of, entries_of}
use Rattle.model.specs.Calls.{budget_bound, round_bound}
use Rattle.model.specs.declared.End.{End}
use Rattle.model.specs.declared.End.TheVariants.{Clear, Settled, Spent}
use Rattle.job_laws.proofs.Checked.{facts}
use Rattle.descent_laws.specs.Claims.{ValidWeights, ValidLayout, DescentClaims}
use Rattle.search_laws.specs.Results.{guided_of}
use Rattle.search_laws.proofs.GuidedLoop.{Guiding, guiding, guide_done, GuidedUnderway, guided_begin, guided_done, round_claims, guided_clear, guided_open}
use Rattle.search_sums.specs.Table.{Weighed}
use Rattle.search_lines.specs.declared.RunSize.{RunSize}
use Rattle.search_beside.specs.Ready.{LinesReady}
use Rattle.run_step.specs.Ready.{LaidOut}
use Rattle.run_descent.specs.Descents.{descent_of}
use Rattle.run_descent.specs.declared.Ended.{Ended}
use Rattle.run_rounds.specs.Rounds.{better_round, better_sum, left_after, raised_after}

-- ── the better of two layouts ──

-- one of two buffers, by a test
abbrev picked : Bool → List (List ℕ) → List (List ℕ) → List (List ℕ)
picked b end best = elim b as (λ _. List (List ℕ)) [ true ↦ end | false ↦ best ]

-- it holds one of the two layouts, and where both are valid a valid one
picked_layout : (b : Bool) (end best : List (List ℕ))
    → elim b as (λ _. Layout) [ true ↦ layout_of end | false ↦ layout_of best ] ≡ layout_of (picked b end best)
picked_layout true end best = refl
picked_layout false end best = refl

picked_valid : (j : Job) (b : Bool) (end best : List (List ℕ)) → ValidLayout j (layout_of end) → ValidLayout j (layout_of best)
    → ValidLayout j (layout_of (picked b end best))
picked_valid j true end best v w = v
picked_valid j false end best v w = w

-- its plain sum is one of the two
picked_sum : (j : Job) (b : Bool) (end best : List (List ℕ))
    → elim b as (λ _. ℕ) [ true ↦ plain_sum j (layout_of end) | false ↦ plain_sum j (layout_of best) ] ≡ plain_sum j (layout_of (picked b end best))
picked_sum j true end best = refl
picked_sum j false end best = refl

-- where both are written as their layouts' entries it is too
picked_written : (b : Bool) (end best : List (List ℕ)) → entries_of (layout_of end) ≡ end → entries_of (layout_of best) ≡ best
    → entries_of (layout_of (picked b end best)) ≡ picked b end best
picked_written true end best e f = e
picked_written false end best e f = f

module _ (j : Job) (end best : List (List ℕ)) (sum bestSum : ℕ) (e : sum ≡ plain_sum j (layout_of end)) (f : bestSum ≡ plain_sum j (layout_of best)) where
  -- the better buffer holds the better layout
  better_layout : best_of j (layout_of best) (layout_of end) ≡ layout_of (better_round sum bestSum end best)
  better_layout = rw (e, f) (picked_layout (ltb (plain_sum j (layout_of end)) (plain_sum j (layout_of best))) end best)

  -- and the smaller sum is its plain sum
  better_sum_lem : better_sum sum bestSum ≡ plain_sum j (layout_of (better_round sum bestSum end best))
  better_sum_lem = rw (e, f) (picked_sum j (ltb (plain_sum j (layout_of end)) (plain_sum j (layout_of best))) end best)

-- ── a job's numbers, as the loop reads them ──

-- how many pieces there are
pub job_count : (l : Lent) → (job_of l).size.count ≡ l.size.count
unfolding job_of
job_count l = refl

-- the table and the weights that are raised by it
pub weighed : (l : Lent) {layout : List (List ℕ)} {penalties ws : List ℕ} → lent_well l ≡ true → LaidOut l layout penalties → ValidWeights (job_of l) ws
    → Weighed l.size.count penalties ws
unfolding job_of
weighed l well h w = record { few = (facts l well).few_pieces; size = h.table.size; one_per_pair = w.one_per_pair }

-- ── the rounds that are left ──

-- each round leaves fewer
pub left_falls : (end : End) (left : ℕ) → 0 < left → left_after end left < left
left_falls Clear left l = l
left_falls Settled left l = omega arith
left_falls Spent left l = omega arith

-- ── before each round ──

-- the buffers of the loop, and so many rounds left
pub record Rounding (l : Lent) (r : RunSize) (strips : List (List ℕ)) (starts ws₀ : List ℕ) (count budget : ℕ) (v₀ : Layout) (layout best : List (List ℕ))
    (weights penalties lines maps : List ℕ) (sum made moves left : ℕ) : Type 0
  where
    pub laid : LaidOut l layout penalties
    pub ready : LinesReady l r strips starts lines maps
    pub underway : GuidedUnderway (job_of l) ws₀ count budget v₀ left (guiding (layout_of layout) weights (layout_of best) made moves) sum
    pub written : entries_of (layout_of best) ≡ best

-- the buffers are as long as at the beginning
pub record Sizes (layout best : List (List ℕ)) (weights penalties lines maps : List ℕ) (layout₀ best₀ : List (List ℕ))
    (weights₀ penalties₀ lines₀ maps₀ : List ℕ) : Type 0
  where
    pub same_layout : length layout ≡ length layout₀
    pub same_best : length best ≡ length best₀
    pub same_weights : length weights ≡ length weights₀
    pub same_penalties : length penalties ≡ length penalties₀
    pub same_lines : length lines ≡ length lines₀
    pub same_maps : length maps ≡ length maps₀

-- what a round does: its descent, and the better of its end and the best layout so far
pub record Rounded (l : Lent) (r : RunSize) (strips : List (List ℕ)) (starts : List ℕ) (budget : ℕ) (layout best : List (List ℕ)) (weights : List ℕ) (sum : ℕ)
    (e : Ended) (layout' best' : List (List ℕ)) (penalties' lines' maps' : List ℕ) (plain sum' : ℕ) : Type 0
  where
    pub result : descend (job_of l) weights budget (layout_of layout) ≡ descent_of e (layout_of layout')
    pub laid : LaidOut l layout' penalties'
    pub ready : LinesReady l r strips starts lines' maps'
    pub plain_is : plain ≡ plain_sum (job_of l) (layout_of layout')
    pub best_is : best' ≡ better_round plain sum layout' best
    pub sum_is : sum' ≡ better_sum plain sum

-- before the first round the given layout is the best
pub rounding_begin : {l : Lent} {r : RunSize} {strips : List (List ℕ)} {starts : List ℕ} (count budget : ℕ) {layout best : List (List ℕ)}
    {weights penalties lines maps : List ℕ} {sum : ℕ} → LaidOut l layout penalties → LinesReady l r strips starts lines maps
    → ValidWeights (job_of l) weights → best ≡ layout → sum ≡ plain_sum (job_of l) (layout_of layout)
    → Rounding l r strips starts weights count budget (layout_of layout) layout best weights penalties lines maps sum 0 0 count
rounding_begin {l} count budget {layout} {best} {weights} h ready w e f =
    record {
      laid = h;
      ready = ready;
      underway = rw (e, f) (guided_begin (job_of l) weights count budget (layout_of layout) h.valid w);
      written = rw e h.written;
    }

module _ {l : Lent} {run : RunSize} {strips : List (List ℕ)} {starts ws₀ : List ℕ} {count budget : ℕ} {v₀ : Layout} where
  module _ {layout best : List (List ℕ)} {weights penalties lines maps : List ℕ} {sum made moves left : ℕ}
      (h : Rounding l run strips starts ws₀ count budget v₀ layout best weights penalties lines maps sum made moves left)
    where
      -- the trials and moves of all rounds so far are few
      pub rounding_few : count ≤ round_bound → budget ≤ budget_bound → (made ≤ 1000000000000) × (moves ≤ 1000000000000)
      rounding_few c b =
          let few = h.underway.made_few in
          let most : count * budget ≤ round_bound * budget_bound = mul-le-mul c b in
          let least = h.underway.moves_made in
          (omega arith, omega arith)

      -- no round left: what the run gives
      pub rounding_done : left ≡ 0 → guide (job_of l) count budget ws₀ v₀ ≡ guided_of (layout_of best) sum weights made moves
      rounding_done e = guided_done (job_of l) ws₀ count budget v₀ left _ sum h.underway e

      module _ {e : Ended} {layout' best' : List (List ℕ)} {penalties' lines' maps' : List ℕ} {plain sum' : ℕ}
          (more : 0 < left)
          (r : Rounded l run strips starts budget layout best weights sum e layout' best' penalties' lines' maps' plain sum')
        where
          -- the better layout and its plain sum
          round_best : best_of (job_of l) (layout_of best) (layout_of layout') ≡ layout_of best'
          round_best =
              better_layout (job_of l) layout' best plain sum r.plain_is h.underway.best_sum_is ∙ ap (λ b. layout_of b) (sym r.best_is)

          round_sum : sum' ≡ plain_sum (job_of l) (layout_of best')
          round_sum =
              r.sum_is ∙ better_sum_lem (job_of l) layout' best plain sum r.plain_is h.underway.best_sum_is
              ∙ ap (λ b. plain_sum (job_of l) (layout_of b)) (sym r.best_is)

          -- the best layout stands as its entries are written
          round_written : entries_of (layout_of best') ≡ best'
          round_written = rw r.best_is (picked_written (ltb plain sum) layout' best r.laid.written h.written)

          -- demand 3's claims hold of its descent
          round_said : DescentClaims (job_of l) weights budget (layout_of layout) (descent_of e (layout_of layout'))
          round_said =
              round_claims (job_of l) ws₀ count budget v₀ left _ sum h.underway (descent_of e (layout_of layout')) (layout_of best') sum' more
              r.result
              round_best round_sum

          -- a clear round ends the run: what holds with no round left
          round_clear : e.end ≡ Clear
              → Rounding l run strips starts ws₀ count budget v₀ layout' best' weights penalties' lines' maps' sum' (made + e.made)
              (moves + e.moves) 0
          round_clear c =
              let s : Guiding = guiding (layout_of layout') weights (layout_of best') (made + e.made) (moves + e.moves) in
              let few = h.underway.made_few in
              let within = round_said.made_within_budget in
              let one : 1 * budget ≤ left * budget = mul-le-mul_right budget more in
              let least = h.underway.moves_made in
              let fewer = round_said.moves_at_most_made in
              record {
                laid = r.laid;
                ready = r.ready;
                underway =
                    record {
                      result =
                          guided_clear (job_of l) ws₀ count budget v₀ left _ sum h.underway (descent_of e (layout_of layout')) (layout_of best') sum'
                          more r.result round_best round_sum c
                          ∙ ap (λ x. guided_of (layout_of best') x weights (made + e.made) (moves + e.moves)) round_sum ∙ sym (guide_done (job_of l) budget s);
                      best_sum_is = round_sum;
                      valid_layout = r.laid.valid;
                      valid_best = rw r.best_is (picked_valid (job_of l) (ltb plain sum) layout' best r.laid.valid h.underway.valid_best);
                      valid_weights = h.underway.valid_weights;
                      made_few = omega arith;
                      moves_made = omega arith;
                    };
                written = round_written;
              }

          -- any other: what holds before the next
          round_open : e.end ≢ Clear
              → Rounding l run strips starts ws₀ count budget v₀ layout' best' (raised (job_of l) (layout_of layout') weights) penalties' lines' maps' sum'
              (made + e.made) (moves + e.moves) (left - 1)
          round_open c =
              record {
                laid = r.laid;
                ready = r.ready;
                underway =
                    guided_open (job_of l) ws₀ count budget v₀ left _ sum h.underway (descent_of e (layout_of layout')) (layout_of best') sum' more
                    r.result round_best round_sum c;
                written = round_written;
              }

          -- by its end
          round_at_lem : (end : End) → e.end ≡ end
              → Rounding l run strips starts ws₀ count budget v₀ layout' best' (raised_after (job_of l) (layout_of layout') end weights)
              penalties' lines' maps' sum' (made + e.made) (moves + e.moves) (left_after end left)
          round_at_lem Clear c = round_clear c
          round_at_lem Settled c = round_open (λ q. never (sym c ∙ q))
            where
              never : Settled ≡ Clear → ⊥
              never q = let z : ◌≡◌ {A = ℕ} 0 1 = cc in omega arith
          round_at_lem Spent c = round_open (λ q. never (sym c ∙ q))
            where
              never : Spent ≡ Clear → ⊥
              never q = let z : ◌≡◌ {A = ℕ} 0 1 = cc in omega arith

          -- what holds after a round
          pub round_next : {weights' : List ℕ} {left' : ℕ} → weights' ≡ raised_after (job_of l) (layout_of layout') e.end weights
              → left' ≡ left_after e.end left
              → Rounding l run strips starts ws₀ count budget v₀ layout' best' weights' penalties' lines' maps' sum' (made + e.made)
              (moves + e.moves) left'
          round_next w m = rw (w, m) (round_at_lem e.end refl)
