-- Document 01, 'Descent and guidance', a guided run as a loop over rounds: it stands at a layout, its weights, the best layout so far and
-- two counts, with so many rounds left. `guide_on` is what is still to come from there, so what the whole run gives is always `guide_on`
-- of where the loop stands. Raising the weights is a loop over the pairs in order that writes each weight in place. Assumes nothing.
use Rattle.list_laws.proofs.Kit.{◌∙◌, ◌≡◌, ap, refl, sym, Bool, false, true, ◌≢◌, ⊎_elim, List, [], ◌∷◌, ◌*◌, ◌+◌, ◌-◌, ◌<◌, ◌≤◌, min, suc, zero, ℕ, add-one}
use Rattle.list_laws.proofs.Kit.{add_assoc, eq-or-lt_of_le, suc-mul, arith, ltb, get_or, length, length-set, set, ext_get_or, get_or-set_other, get_or-set_same}
use Rattle.list_laws.proofs.Kit.{set-get_or, le-ltb, lt-ltb}
use Rattle.model.specs.Layout.{Job, Layout, Pair, pair_of, pairs, pair_conflicts, plain_sum}
use Rattle.model.specs.Descent.{Descent, descend}
use Rattle.model.specs.Guided.{weight_bound, raised_over, raised, Round, is_clear, weights_after, round_from, rounds, best_of, best_after, last_weights, made_in}
use Rattle.model.specs.Guided.{moves_in, Guided, outcome, guide}
use Rattle.model.specs.declared.End.{End}
use Rattle.model.specs.declared.End.TheVariants.{Clear, Settled, Spent}
use Rattle.descent_laws.specs.Claims.{ValidWeights, ValidLayout, DescentClaims}
use Rattle.descent_laws.proofs.Descent.{descent_claims}
use Rattle.descent_laws.proofs.Guided.{raised_valid}
use Rattle.search_laws.specs.Results.{guided_of}
use Rattle.search_laws.specs.Raising.{Raising}
use Rattle.search_laws.specs.Pairs.{pair_index}
use Rattle.search_laws.proofs.Pairs.{pair_at, pair_below}
use Rattle.search_laws.proofs.PieceSum.{no_pair}

-- ── where the loop stands ──

-- the layout and the weights that the next round begins with, the best layout so far, and the trials and moves of the rounds made
pub record Guiding : Type 0 where
  pub layout : Layout
  pub weights : List ℕ
  pub best : Layout
  pub made : ℕ
  pub moves : ℕ

-- the same from its parts
abbrev pub guiding : Layout → List ℕ → Layout → ℕ → ℕ → Guiding
guiding v ws best made moves = record { layout = v; weights = ws; best = best; made = made; moves = moves }

-- the round that is made from here
abbrev pub descent_in : Job → ℕ → Guiding → Descent
descent_in j budget s = descend j s.weights budget s.layout

-- after a round that comes to d and leaves the weights ws
abbrev pub rounded : Job → Guiding → Descent → List ℕ → Guiding
rounded j s d ws = guiding d.layout ws (best_of j s.best d.layout) (s.made + d.made) (s.moves + d.moves)

-- the run ends here
abbrev pub guided_at : Job → Guiding → Guided
guided_at j s = record { layout = s.best; sum = plain_sum j s.best; weights = s.weights; made = s.made; moves = s.moves }

-- what a guided run gives from here on, with so many rounds left
unfoldable pub guide_on : Job → ℕ → ℕ → Guiding → Guided
guide_on j zero budget s = guided_at j s
guide_on j (suc left) budget s =
    elim (is_clear (descent_in j budget s).end) [
      | true ↦ guided_at j (rounded j s (descent_in j budget s) s.weights)
      | false ↦ guide_on j left budget (rounded j s (descent_in j budget s) (raised j (descent_in j budget s).layout s.weights))
    ]

-- ── one round ──

-- no end but clear passes the test
clear_test : (e : End) → e ≢ Clear → is_clear e ≡ false
clear_test Clear d = absurd (d refl)
clear_test Settled d = refl
clear_test Spent d = refl

-- no round left: the run ends
pub guide_done : (j : Job) (budget : ℕ) (s : Guiding) → guide_on j 0 budget s ≡ guided_at j s
unfolding guide_on
guide_done j budget s = refl

-- a round that is clear ends the run, its weights as they are
clear_suc : (j : Job) (left budget : ℕ) (s : Guiding) → (descent_in j budget s).end ≡ Clear
    → guide_on j (suc left) budget s ≡ guided_at j (rounded j s (descent_in j budget s) s.weights)
unfolding guide_on
clear_suc j left budget s e = rw (e, guide_on)

-- a clear round, its descent given
pub guide_clear : (j : Job) (left budget : ℕ) (s : Guiding) (d : Descent) → 0 < left → descent_in j budget s ≡ d → d.end ≡ Clear
    → guide_on j left budget s ≡ guided_at j (rounded j s d s.weights)
guide_clear j left budget s d l e c =
    let more : left ≡ suc (left - 1) = omega arith in
    ap (λ n. guide_on j n budget s) more ∙ clear_suc j (left - 1) budget s (ap (λ x. x.end) e ∙ c)
    ∙ ap (λ x. guided_at j (rounded j s x s.weights)) e

-- one that is not raises the weights, the last round too
open_suc : (j : Job) (left budget : ℕ) (s : Guiding) → is_clear (descent_in j budget s).end ≡ false
    → guide_on j (suc left) budget s ≡ guide_on j left budget (rounded j s (descent_in j budget s) (raised j (descent_in j budget s).layout s.weights))
unfolding guide_on
open_suc j left budget s e = rw (e, guide_on)

-- a round that is not clear, its descent given
pub guide_open : (j : Job) (left budget : ℕ) (s : Guiding) (d : Descent) → 0 < left → descent_in j budget s ≡ d → d.end ≢ Clear
    → guide_on j left budget s ≡ guide_on j (left - 1) budget (rounded j s d (raised j d.layout s.weights))
guide_open j left budget s d l e c =
    let more : left ≡ suc (left - 1) = omega arith in
    ap (λ n. guide_on j n budget s) more
    ∙ open_suc j (left - 1) budget s (ap (λ x. is_clear x.end) e ∙ clear_test d.end c)
    ∙ ap (λ x. guide_on j (left - 1) budget (rounded j s x (raised j x.layout s.weights))) e

-- a round's end with a smaller plain sum is the best now
pub best_replaced : (j : Job) (best v : Layout) → plain_sum j v < plain_sum j best → best_of j best v ≡ v
best_replaced j best v l = rw (lt-ltb (plain_sum j v) (plain_sum j best) l, best_of)

-- one without is not
pub best_kept : (j : Job) (best v : Layout) → plain_sum j best ≤ plain_sum j v → best_of j best v ≡ best
best_kept j best v l = rw (le-ltb (plain_sum j v) (plain_sum j best) l, best_of)

-- ── the whole run ──

-- what given rounds from here on come to
abbrev totalled : Job → Guiding → List Round → Guided
totalled j s rs =
    record {
      layout = best_after j s.best rs;
      sum = plain_sum j (best_after j s.best rs);
      weights = last_weights j s.weights rs;
      made = s.made + made_in rs;
      moves = s.moves + moves_in rs;
    }

-- the same from equal parts
guided_parts : (j : Job) (v : Layout) (ws ws' : List ℕ) (m m' c c' : ℕ) → ws ≡ ws' → m ≡ m' → c ≡ c'
    → ◌≡◌ {A = Guided} (record { layout = v; sum = plain_sum j v; weights = ws; made = m; moves = c })
    (record { layout = v; sum = plain_sum j v; weights = ws'; made = m'; moves = c' })
guided_parts j v ws ws' m m' c c' e f g = rw (e, f, g)

-- the weights after a round, by the test for a clear end
after_test : (j : Job) (r : Round) (b : Bool) → is_clear r.descent.end ≡ b
    → weights_after j r ≡ elim b as (λ _. List ℕ) [ true ↦ r.weights | false ↦ raised j r.descent.layout r.weights ]
after_test j r b e = rw (e, weights_after)

-- a round that comes to d, and the rounds after it by the weights ws
abbrev following : Job → ℕ → ℕ → Guiding → Descent → List ℕ → Guided
following j left budget s d ws =
    record {
      layout = best_after j (best_of j s.best d.layout) (rounds j left budget ws d.layout);
      sum = plain_sum j (best_after j (best_of j s.best d.layout) (rounds j left budget ws d.layout));
      weights = last_weights j ws (rounds j left budget ws d.layout);
      made = s.made + (d.made + made_in (rounds j left budget ws d.layout));
      moves = s.moves + (d.moves + moves_in (rounds j left budget ws d.layout));
    }

-- one round and those after it, by the test for a clear end
round_on : (j : Job) (left budget : ℕ) (s : Guiding) (b : Bool) → is_clear (descent_in j budget s).end ≡ b
    → ((t : Guiding) → guide_on j left budget t ≡ totalled j t (rounds j left budget t.weights t.layout))
    → elim b as (λ _. Guided) [
      | true ↦ guided_at j (rounded j s (descent_in j budget s) s.weights)
      | false ↦ guide_on j left budget (rounded j s (descent_in j budget s) (raised j (descent_in j budget s).layout s.weights))
    ]
    ≡ totalled j s (round_from j budget s.weights s.layout ∷ elim b as (λ _. List Round) [
      | true ↦ []
      | false ↦ rounds j left budget (weights_after j (round_from j budget s.weights s.layout)) (descent_in j budget s).layout
    ])
unfolding best_after last_weights made_in moves_in
round_on j left budget s true e later =
    guided_parts j (best_of j s.best (descent_in j budget s).layout) _ _ _ _ _ _ (sym (after_test j (round_from j budget s.weights s.layout) true e))
    (omega arith) (omega arith)
round_on j left budget s false e later =
    let d : Descent = descent_in j budget s in
    let ws : List ℕ = raised j d.layout s.weights in
    later (rounded j s d ws)
    ∙ guided_parts j (best_after j (best_of j s.best d.layout) (rounds j left budget ws d.layout)) _ _ _ _ _ _ refl
    (add_assoc s.made d.made _) (add_assoc s.moves d.moves _)
    ∙ ap (following j left budget s d) (sym (after_test j (round_from j budget s.weights s.layout) false e))

-- from any point on
on_totalled : (j : Job) (left budget : ℕ) (s : Guiding) → guide_on j left budget s ≡ totalled j s (rounds j left budget s.weights s.layout)
unfolding guide_on rounds best_after last_weights made_in moves_in
on_totalled j zero budget s = guided_parts j s.best _ _ _ _ _ _ refl (omega arith) (omega arith)
on_totalled j (suc left) budget s = round_on j left budget s _ refl (on_totalled j left budget)

-- the guided run is what comes from its beginning on
pub guide_on_lem : (j : Job) (count budget : ℕ) (ws : List ℕ) (v : Layout) → guide j count budget ws v ≡ guide_on j count budget (guiding v ws v 0 0)
unfolding guide outcome
guide_on_lem j count budget ws v =
    guided_parts j (best_after j v (rounds j count budget ws v)) _ _ _ _ _ _ refl (omega arith) (omega arith)
    ∙ sym (on_totalled j count budget (guiding v ws v 0 0))

-- ── what holds before each round ──

-- the loop of the guided run from v by ws stands at s, with `left` rounds, and the best layout's plain sum is kept beside it
pub record GuidedUnderway (j : Job) (ws : List ℕ) (count budget : ℕ) (v : Layout) (left : ℕ) (s : Guiding) (bestSum : ℕ) : Type 0 where
  pub result : guide j count budget ws v ≡ guide_on j left budget s
  pub best_sum_is : bestSum ≡ plain_sum j s.best
  pub valid_layout : ValidLayout j s.layout
  pub valid_best : ValidLayout j s.best
  pub valid_weights : ValidWeights j s.weights
  pub made_few : s.made + left * budget ≤ count * budget
  pub moves_made : s.moves ≤ s.made

-- by the test of the plain sums
best_valid_at : (j : Job) (best v : Layout) (b : Bool) → ValidLayout j best → ValidLayout j v
    → ValidLayout j (elim b as (λ _. Layout) [ true ↦ v | false ↦ best ])
best_valid_at j best v true h g = g
best_valid_at j best v false h g = h

-- the better of two valid layouts is valid
best_valid : (j : Job) (best v : Layout) → ValidLayout j best → ValidLayout j v → ValidLayout j (best_of j best v)
best_valid j best v h g = best_valid_at j best v (ltb (plain_sum j v) (plain_sum j best)) h g

module _ (j : Job) (ws : List ℕ) (count budget : ℕ) (v : Layout) where
  -- it holds before the first round
  pub guided_begin : ValidLayout j v → ValidWeights j ws → GuidedUnderway j ws count budget v count (guiding v ws v 0 0) (plain_sum j v)
  guided_begin h w =
      record {
        result = guide_on_lem j count budget ws v;
        best_sum_is = refl;
        valid_layout = h;
        valid_best = h;
        valid_weights = w;
        made_few = omega arith;
        moves_made = omega arith;
      }

  module _ (left : ℕ) (s : Guiding) (bestSum : ℕ) (u : GuidedUnderway j ws count budget v left s bestSum) where
    -- no round left: what the run gives
    pub guided_done : left ≡ 0 → guide j count budget ws v ≡ guided_of s.best bestSum s.weights s.made s.moves
    guided_done e =
        u.result ∙ ap (λ n. guide_on j n budget s) e ∙ guide_done j budget s
        ∙ ap (λ x. guided_of s.best x s.weights s.made s.moves) (sym u.best_sum_is)

    -- the round, its end, and the better of the best so far and the round's end, with its plain sum
    module _ (d : Descent) (best : Layout) (sum : ℕ) (more : 0 < left) (isRound : descent_in j budget s ≡ d) (isBest : best_of j s.best d.layout ≡ best)
        (isSum : sum ≡ plain_sum j best)
      where
        -- demand 3's claims hold of the round
        pub round_claims : DescentClaims j s.weights budget s.layout d
        round_claims = rw isRound at (descent_claims j s.weights budget s.layout u.valid_weights u.valid_layout)

        -- a clear round: what the run gives
        pub guided_clear : d.end ≡ Clear → guide j count budget ws v ≡ guided_of best sum s.weights (s.made + d.made) (s.moves + d.moves)
        guided_clear e =
            u.result ∙ guide_clear j left budget s d more isRound e
            ∙ ap (λ b. guided_of b (plain_sum j b) s.weights (s.made + d.made) (s.moves + d.moves)) isBest
            ∙ ap (λ x. guided_of best x s.weights (s.made + d.made) (s.moves + d.moves)) (sym isSum)

        -- any other: what holds before the next round
        pub guided_open : d.end ≢ Clear
            → GuidedUnderway j ws count budget v (left - 1)
            (guiding d.layout (raised j d.layout s.weights) best (s.made + d.made) (s.moves + d.moves)) sum
        guided_open e =
            let c : DescentClaims j s.weights budget s.layout d = round_claims in
            record {
              result =
                  u.result ∙ guide_open j left budget s d more isRound e
                  ∙ ap (λ b. guide_on j (left - 1) budget (guiding d.layout (raised j d.layout s.weights) b (s.made + d.made) (s.moves + d.moves)))
                  isBest;
              best_sum_is = isSum;
              valid_layout = c.valid;
              valid_best = rw isBest at (best_valid j s.best d.layout u.valid_best c.valid);
              valid_weights = raised_valid j d.layout s.weights u.valid_weights;
              made_few =
                  let few = u.made_few in
                  let within = c.made_within_budget in
                  let one : left ≡ suc (left - 1) = omega arith in
                  let product : left * budget ≡ (left - 1) * budget + budget = ap (λ n. n * budget) one ∙ suc-mul (left - 1) budget in
                  omega arith;
              moves_made = let m = u.moves_made in let n = c.moves_at_most_made in omega arith;
            }

-- ── raising the weights in place ──

-- the weight at a position after raising, by its pair's test
raised_over_at : (test : Pair → Bool) (ps : List Pair) (ws : List ℕ) (c : ℕ) → c < length ws → c < length ps
    → get_or (raised_over test ps ws) c 0 ≡ elim (test (get_or ps c no_pair)) as (λ _. ℕ) [ true ↦ min (suc (get_or ws c 0)) weight_bound | false ↦ get_or ws c 0 ]
unfolding raised_over
raised_over_at test ps [] c l h = absurd (omega arith)
raised_over_at test [] (w ∷ ws) c l h = absurd (omega arith)
raised_over_at test (p ∷ ps) (w ∷ ws) zero l h = refl
raised_over_at test (p ∷ ps) (w ∷ ws) (suc c) l h = raised_over_at test ps ws c (omega arith) (omega arith)

-- before the first pair
pub raising_begin : (j : Job) (v : Layout) (ws : List ℕ) → Raising j v ws 0 ws
raising_begin j v ws = record { size = refl; done = λ k l. absurd (omega arith); rest = λ k l. refl }

module _ (j : Job) (v : Layout) (ws now : List ℕ) (i k : ℕ) (one : length ws ≡ length (pairs j.size.count)) (rising : i < k) (below : k < j.size.count)
    (h : Raising j v ws (pair_index j.size.count i k) now)
  where
    -- the weight of the pair (i, k) after raising
    raised_at_lem : get_or (raised j v ws) (pair_index j.size.count i k) 0
        ≡ elim (pair_conflicts j v (pair_of i k)) as (λ _. ℕ) [
          | true ↦ min (suc (get_or ws (pair_index j.size.count i k) 0)) weight_bound
          | false ↦ get_or ws (pair_index j.size.count i k) 0
        ]
    unfolding raised
    raised_at_lem =
        let fits = pair_below j.size.count i k rising below in
        raised_over_at (pair_conflicts j v) (pairs j.size.count) ws (pair_index j.size.count i k) (omega arith) fits
        ∙ rw (pair_at j.size.count i k no_pair rising below)

    -- a pair that conflicts has its weight raised by 1, 65,535 stays
    pub raising_shared : pair_conflicts j v (pair_of i k) ≡ true
        → Raising j v ws (pair_index j.size.count i k + 1)
        (set now (pair_index j.size.count i k) (min (get_or now (pair_index j.size.count i k) 0 + 1) weight_bound))
    raising_shared e = record { size = length-set now c w ∙ h.size; done = done; rest = rest }
      where
        c : ℕ
        c = pair_index j.size.count i k

        w : ℕ
        w = min (get_or now c 0 + 1) weight_bound

        done : (m : ℕ) → m < c + 1 → get_or (set now c w) m 0 ≡ get_or (raised j v ws) m 0
        done m l =
            ⊎_elim
            (λ (q : m ≡ c).
            rw q
            (get_or-set_same now c w 0 (let f = pair_below j.size.count i k rising below in let z = h.size in omega arith)
            ∙ ap (λ x. min (x + 1) weight_bound) (h.rest c (omega arith)) ∙ ap (λ x. min x weight_bound) (add-one (get_or ws c 0)) ∙ sym (rw e at raised_at_lem)))
            (λ (q : m < c). get_or-set_other now c m w 0 (λ z. omega arith) ∙ h.done m q) (eq-or-lt_of_le (omega arith))

        rest : (m : ℕ) → c + 1 ≤ m → get_or (set now c w) m 0 ≡ get_or ws m 0
        rest m l = get_or-set_other now c m w 0 (λ z. omega arith) ∙ h.rest m (omega arith)

    -- below the largest weight that is 1 more
    pub raising_more : pair_conflicts j v (pair_of i k) ≡ true → get_or now (pair_index j.size.count i k) 0 < weight_bound
        → Raising j v ws (pair_index j.size.count i k + 1) (set now (pair_index j.size.count i k) (get_or now (pair_index j.size.count i k) 0 + 1))
    raising_more e l =
        let more : min (get_or now (pair_index j.size.count i k) 0 + 1) weight_bound ≡ get_or now (pair_index j.size.count i k) 0 + 1 = omega arith in
        rw more at (raising_shared e)

    -- the largest weight stays, with no store
    pub raising_full : pair_conflicts j v (pair_of i k) ≡ true → weight_bound ≤ get_or now (pair_index j.size.count i k) 0
        → get_or now (pair_index j.size.count i k) 0 ≤ weight_bound → Raising j v ws (pair_index j.size.count i k + 1) now
    raising_full e l m =
        let full : min (get_or now (pair_index j.size.count i k) 0 + 1) weight_bound ≡ get_or now (pair_index j.size.count i k) 0 = omega arith in
        rw (set-get_or now (pair_index j.size.count i k) 0) at (rw full at (raising_shared e))

    -- one that does not keeps its weight
    pub raising_apart : pair_conflicts j v (pair_of i k) ≡ false → Raising j v ws (pair_index j.size.count i k + 1) now
    raising_apart e = record { size = h.size; done = done; rest = λ m l. h.rest m (omega arith) }
      where
        c : ℕ
        c = pair_index j.size.count i k

        done : (m : ℕ) → m < c + 1 → get_or now m 0 ≡ get_or (raised j v ws) m 0
        done m l =
            ⊎_elim (λ (q : m ≡ c). rw q (h.rest c (omega arith) ∙ sym (rw e at raised_at_lem))) (h.done m) (eq-or-lt_of_le (omega arith))

-- after the last pair: the raised weights
pub raising_end : (j : Job) (v : Layout) (ws now : List ℕ) → ValidWeights j ws → Raising j v ws (length (pairs j.size.count)) now → now ≡ raised j v ws
raising_end j v ws now w h =
    let one = w.one_per_pair in
    let same = (raised_valid j v ws w).one_per_pair in
    let size = h.size in
    ext_get_or 0 now (raised j v ws) (omega arith) (λ k l. h.done k (omega arith))
