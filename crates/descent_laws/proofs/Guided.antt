-- Document 01, 'Descent and guidance', a whole guided run: what demand 3 says of it. Each round is a descent from a valid layout by
-- valid weights, since a descent keeps the layout valid and raising keeps the weights between 1 and 65,535; the best layout is kept
-- by comparing plain sums. Assumes nothing.
use Rattle.list_laws.proofs.Kit.{◌∙◌, ◌≡◌, ap, refl, Bool, false, true, ◌↔◌, ◌≢◌, ◌⊎◌, inl, inr, ⊎_elim, List, Memᴰ, Memᴰ-cases_cons}
use Rattle.list_laws.proofs.Kit.{Memᴰ-head, Memᴰ-not_nil, Memᴰ-tail, [], ◌∷◌, ◌<◌, ◌≤◌, min, suc, zero, ℕ, le_refl, le_trans, arith, lit≤, ltb}
use Rattle.list_laws.proofs.Kit.{sym, ext_get_or, get_or, get_or-replicate, length, length-replicate, ltb-false, ltb-true}
use Rattle.model.specs.Layout.{Job, Layout, Pair, origin, pairs, pair_conflicts, unit_weights, plain_sum}
use Rattle.model.specs.Descent.{Descent, descend}
use Rattle.model.specs.Guided.{weight_bound, raised_over, raised, Round, is_clear, weights_after, round_from, rounds, best_of, best_after, last_weights, outcome}
use Rattle.model.specs.Guided.{guide, made_in, moves_in}
use Rattle.model.specs.declared.End.{End}
use Rattle.model.specs.declared.End.TheVariants.{Clear, Settled, Spent}
use Rattle.descent_laws.specs.Claims.{InRange, ValidWeights, ValidLayout, AllLocked, LockedStay, NoConflict, DescentClaims, RoundClaims}
use Rattle.descent_laws.specs.Claims.{Follows, no_round, round_at, RoundsClaims, RoundEnd, GuidedClaims}
use Rattle.descent_laws.proofs.Sums.{zero_exactly_lem}
use Rattle.list_laws.proofs.Lists.{member_at}
use Rattle.descent_laws.proofs.Trials.{position}
use Rattle.descent_laws.proofs.Run.{impossible}
use Rattle.descent_laws.proofs.Descent.{stay_on, descent_claims}

-- ── weights ──

-- a raised weight is in range
raised_one : (b : Bool) (w : ℕ) → InRange w → InRange (elim b as (λ _. ℕ) [ true ↦ min (suc w) weight_bound | false ↦ w ])
raised_one true w h = (omega arith, omega arith)
raised_one false w h = h

-- raising keeps the number of weights
raised_length : (test : Pair → Bool) (ps : List Pair) (ws : List ℕ) → length (raised_over test ps ws) ≡ length ws
unfolding raised_over
raised_length test ps [] = refl
raised_length test [] (w ∷ ws) = refl
raised_length test (p ∷ ps) (w ∷ ws) = ap suc (raised_length test ps ws)

-- raising keeps the weights in range
raised_range : (test : Pair → Bool) (ps : List Pair) (ws : List ℕ) → ((k : ℕ) → k < length ws → InRange (get_or ws k 0))
    → (k : ℕ) → k < length ws → InRange (get_or (raised_over test ps ws) k 0)
unfolding raised_over
raised_range test ps [] h k l = absurd (omega arith)
raised_range test [] (w ∷ ws) h k l = h k l
raised_range test (p ∷ ps) (w ∷ ws) h zero l = raised_one (test p) w (h 0 l)
raised_range test (p ∷ ps) (w ∷ ws) h (suc k) l = raised_range test ps ws (λ n b. h (suc n) (omega arith)) k (omega arith)

-- raising keeps the weights valid
pub raised_valid : (j : Job) (v : Layout) (ws : List ℕ) → ValidWeights j ws → ValidWeights j (raised j v ws)
unfolding raised
raised_valid j v ws h =
    let e = raised_length (pair_conflicts j v) (pairs j.size.count) ws in
    record {
      one_per_pair = e ∙ h.one_per_pair;
      in_range = λ k l. raised_range (pair_conflicts j v) (pairs j.size.count) ws h.in_range k (omega arith);
    }

-- raised or not, the weights are valid
after_valid_at : (j : Job) (v : Layout) (ws : List ℕ) (b : Bool) → ValidWeights j ws
    → ValidWeights j (elim b as (λ _. List ℕ) [ true ↦ ws | false ↦ raised j v ws ])
after_valid_at j v ws true h = h
after_valid_at j v ws false h = raised_valid j v ws h

-- the weights after a round are valid
after_valid : (j : Job) (r : Round) → ValidWeights j r.weights → ValidWeights j (weights_after j r)
after_valid j r h = after_valid_at j r.descent.layout r.weights (is_clear r.descent.end) h

-- weights 1 are valid
pub unit_valid : (j : Job) → ValidWeights j (unit_weights j.size.count)
unfolding unit_weights
unit_valid j =
    let e = length-replicate {A = ℕ} (length (pairs j.size.count)) 1 in
    record { one_per_pair = e; in_range = λ k l. rw (get_or-replicate {A = ℕ} (length (pairs j.size.count)) k 1 0 (omega arith)) (lit≤ tt, lit≤ tt) }

-- a plain sum is 0 exactly when no two pieces conflict
pub plain_zero : (j : Job) (v : Layout) → (plain_sum j v ≡ 0) ↔ NoConflict j v
unfolding plain_sum
plain_zero j v = zero_exactly_lem j (unit_weights j.size.count) v (unit_valid j)

-- ── rounds ──

-- the test for a clear end says yes for that end only
is_clear_lem : (e : End) → is_clear e ≡ true → e ≡ Clear
is_clear_lem Clear h = refl
is_clear_lem Settled h = impossible (cc)
is_clear_lem Spent h = impossible (cc)

-- and no for the others
not_clear_lem : (e : End) → is_clear e ≡ false → e ≢ Clear
not_clear_lem Clear h = impossible (cc)
not_clear_lem Settled h = λ g. impossible (cc)
not_clear_lem Spent h = λ g. impossible (cc)

-- one round, the last because it is clear
clear_round : (j : Job) (ws : List ℕ) (K budget : ℕ) (v : Layout) (r : Round) → RoundClaims j budget r → r.layout ≡ v → r.weights ≡ ws
    → r.descent.end ≡ Clear → RoundsClaims j ws (suc K) budget v (r ∷ [])
clear_round j ws K budget v r h begins by clear =
    record {
      each = λ s m. ⊎_elim (λ (e : s ≡ r). rw e h) (λ m'. absurd (Memᴰ-not_nil m')) (Memᴰ-cases_cons m);
      some = λ _. omega arith;
      at_most = omega arith;
      first = λ _. (begins, by);
      next = λ k l. absurd (omega arith);
      fewer_means_clear = λ k e l. (let z : k ≡ 0 = omega arith in rw z clear);
    }

-- one round that is not clear, and the rounds after it
round_more : (j : Job) (ws : List ℕ) (K budget : ℕ) (v : Layout) (r : Round) (rs : List Round) → RoundClaims j budget r → r.layout ≡ v
    → r.weights ≡ ws → r.descent.end ≢ Clear
    → RoundsClaims j (raised j r.descent.layout r.weights) K budget r.descent.layout rs → RoundsClaims j ws (suc K) budget v (r ∷ rs)
round_more j ws K budget v r rs h begins by unclear later =
    record {
      each = λ s m. ⊎_elim (λ (e : s ≡ r). rw e h) (later.each s) (Memᴰ-cases_cons m);
      some = λ _. omega arith;
      at_most = let l : length rs ≤ K = later.at_most in omega arith;
      first = λ _. (begins, by);
      next = follows;
      fewer_means_clear = last;
    }
  where
    follows : (k : ℕ) → suc k < length (r ∷ rs) → Follows j (round_at (r ∷ rs) k) (round_at (r ∷ rs) (suc k))
    follows zero l = let f = later.first (omega arith) in record { not_clear = unclear; begins_at_end = f.0; weights_raised = f.1 }
    follows (suc k) l = later.next k (omega arith)

    last : (k : ℕ) → suc k ≡ length (r ∷ rs) → suc k < suc K → (round_at (r ∷ rs) k).descent.end ≡ Clear
    last zero e l = let s = later.some (omega arith) in absurd (omega arith)
    last (suc k) e l = later.fewer_means_clear k (omega arith) (omega arith)

-- a round and what follows, by the test for a clear end
rounds_at : (j : Job) (ws : List ℕ) (K budget : ℕ) (v : Layout) (r : Round) → RoundClaims j budget r → r.layout ≡ v → r.weights ≡ ws
    → (b : Bool) → is_clear r.descent.end ≡ b
    → (b ≡ false → RoundsClaims j (raised j r.descent.layout r.weights) K budget r.descent.layout
    (rounds j K budget (weights_after j r) r.descent.layout))
    → RoundsClaims j ws (suc K) budget v
    (r ∷ elim b as (λ _. List Round) [ true ↦ [] | false ↦ rounds j K budget (weights_after j r) r.descent.layout ])
rounds_at j ws K budget v r h begins by true e later = clear_round j ws K budget v r h begins by (is_clear_lem _ e)
rounds_at j ws K budget v r h begins by false e later = round_more j ws K budget v r _ h begins by (not_clear_lem _ e) (later refl)

-- the rounds of a guided run are so
pub rounds_claims_lem : (j : Job) (ws : List ℕ) (K budget : ℕ) (v : Layout) → ValidWeights j ws → ValidLayout j v
    → RoundsClaims j ws K budget v (rounds j K budget ws v)
unfolding rounds
rounds_claims_lem j ws zero budget v weights h =
    record {
      each = λ r m. absurd (Memᴰ-not_nil m);
      some = λ b. b;
      at_most = omega arith;
      first = λ b. absurd (omega arith);
      next = λ k b. absurd (omega arith);
      fewer_means_clear = λ k e b. absurd (omega arith);
    }
rounds_claims_lem j ws (suc K) budget v weights h =
    let c : DescentClaims j ws budget v (descend j ws budget v) = descent_claims j ws budget v weights h in
    let d : Descent = descend j ws budget v in
    rounds_at j ws K budget v (round_from j budget ws v)
    (record { is_descent = refl; valid_layout = h; valid_weights = weights; claims = c }) refl refl _ refl
    (λ (e : is_clear d.end ≡ false).
    rw (e, weights_after) (rounds_claims_lem j (raised j d.layout ws) K budget d.layout (raised_valid j d.layout ws weights) c.valid))

-- ── the best layout ──

-- best is the given layout or a round's end, and no plain sum of these is smaller
pub record BestClaims (j : Job) (v : Layout) (rs : List Round) (best : Layout) : Type 0 where
  pub given_or_round_end : (best ≡ v) ⊎ RoundEnd rs best
  pub at_most_given : plain_sum j best ≤ plain_sum j v
  pub at_most_round_ends : (r : Round) → Memᴰ r rs → plain_sum j best ≤ plain_sum j r.descent.layout

-- the better of two layouts is one of them, and neither is better
record Better (j : Job) (u v best : Layout) : Type 0 where
  one_of : (best ≡ u) ⊎ (best ≡ v)
  at_most_first : plain_sum j best ≤ plain_sum j u
  at_most_second : plain_sum j best ≤ plain_sum j v

-- by the test of the two plain sums
better_at : (j : Job) (u v : Layout) (b : Bool) → ltb (plain_sum j v) (plain_sum j u) ≡ b
    → Better j u v (elim b as (λ _. Layout) [ true ↦ v | false ↦ u ])
better_at j u v true e =
    let less : plain_sum j v < plain_sum j u = ltb-true _ _ e in
    record { one_of = inr refl; at_most_first = omega arith; at_most_second = le_refl _ }
better_at j u v false e = record { one_of = inl refl; at_most_first = le_refl _; at_most_second = ltb-false _ _ e }

-- `best_of` takes the better one
better : (j : Job) (u v : Layout) → Better j u v (best_of j u v)
better j u v = better_at j u v _ refl

-- one more round in front: the best so far is the better of the given layout and its end
best_more : (j : Job) (v : Layout) (r : Round) (rs : List Round) (start best : Layout) → Better j v r.descent.layout start
    → BestClaims j start rs best → BestClaims j v (r ∷ rs) best
best_more j v r rs start best b c =
    record {
      given_or_round_end =
          ⊎_elim
          (λ e. ⊎_elim (λ e'. inl (e ∙ e')) (λ e'. inr (record { round = r; member = Memᴰ-head refl; at_end = e ∙ e' })) b.one_of)
          (λ x. inr (record { round = x.round; member = Memᴰ-tail x.member; at_end = x.at_end })) c.given_or_round_end;
      at_most_given = le_trans c.at_most_given b.at_most_first;
      at_most_round_ends =
          λ s m. ⊎_elim (λ (e : s ≡ r). rw e (le_trans c.at_most_given b.at_most_second)) (c.at_most_round_ends s) (Memᴰ-cases_cons m);
    }

-- `best_after` finds the best
best_claims : (j : Job) (v : Layout) (rs : List Round) → BestClaims j v rs (best_after j v rs)
unfolding best_after
best_claims j v [] =
    record { given_or_round_end = inl refl; at_most_given = le_refl _; at_most_round_ends = λ r m. absurd (Memᴰ-not_nil m) }
best_claims j v (r ∷ rs) =
    best_more j v r rs (best_of j v r.descent.layout) _ (better j v r.descent.layout) (best_claims j (best_of j v r.descent.layout) rs)

-- ── the whole guided run ──

-- the weights at the end are valid
last_valid : (j : Job) (ws : List ℕ) (rs : List Round) → ValidWeights j ws → ((r : Round) → Memᴰ r rs → ValidWeights j r.weights)
    → ValidWeights j (last_weights j ws rs)
unfolding last_weights
last_valid j ws [] h each = h
last_valid j ws (r ∷ rs) h each =
    last_valid j (weights_after j r) rs (after_valid j r (each r (Memᴰ-head refl))) (λ s m. each s (Memᴰ-tail m))

-- at the end of each round the locked pieces lie where they were given, by its number
stays_at : (j : Job) (ws : List ℕ) (K budget : ℕ) (v : Layout) (rs : List Round) → RoundsClaims j ws K budget v rs → (k : ℕ) → k < length rs
    → LockedStay j v (round_at rs k).descent.layout
stays_at j ws K budget v rs c zero l =
    rw (c.first l).0 at (c.each (round_at rs 0) (member_at rs 0 no_round l)).claims.locked_stay
stays_at j ws K budget v rs c (suc k) l =
    stay_on j v (round_at rs k).descent.layout (round_at rs (suc k)).descent.layout (stays_at j ws K budget v rs c k (omega arith))
    (rw (c.next k l).begins_at_end at (c.each (round_at rs (suc k)) (member_at rs (suc k) no_round l)).claims.locked_stay)

-- at the end of each round the locked pieces lie where they were given
round_stays : (j : Job) (ws : List ℕ) (K budget : ℕ) (v : Layout) (rs : List Round) → RoundsClaims j ws K budget v rs → (r : Round) → Memᴰ r rs
    → LockedStay j v r.descent.layout
round_stays j ws K budget v rs c r m =
    let p = position no_round rs m in rw p.there at (stays_at j ws K budget v rs c p.number p.below)

-- rounds without a trial have none together, and no move
none_made : (rs : List Round) → ((r : Round) → Memᴰ r rs → (r.descent.made ≡ 0) × (r.descent.moves ≡ 0)) → (made_in rs ≡ 0) × (moves_in rs ≡ 0)
unfolding made_in moves_in
none_made [] each = (refl, refl)
none_made (r ∷ rs) each =
    let here = each r (Memᴰ-head refl) in
    let later = none_made rs (λ s m. each s (Memᴰ-tail m)) in
    let made : r.descent.made ≡ 0 = here.0 in
    let moves : r.descent.moves ≡ 0 = here.1 in
    let madeLater : made_in rs ≡ 0 = later.0 in
    let movesLater : moves_in rs ≡ 0 = later.1 in
    (omega arith, omega arith)

-- with every piece locked, so has a round
round_still : (j : Job) (budget : ℕ) (r : Round) → AllLocked j → RoundClaims j budget r → (r.descent.made ≡ 0) × (r.descent.moves ≡ 0)
round_still j budget r locked c =
    let e : r.descent.made ≡ 0 = (c.claims.all_locked locked).0 in
    let few = c.claims.moves_at_most_made in
    (e, omega arith)

-- two layouts of all pieces, locked in the same places, are one
same_layout_lem : (j : Job) (v w : Layout) → AllLocked j → ValidLayout j v → ValidLayout j w → LockedStay j v w → w ≡ v
same_layout_lem j v w locked a b stay =
    let e = a.one_per_piece in
    let e' = b.one_per_piece in
    ext_get_or origin w v (e' ∙ sym e) (λ i l. stay i (omega arith) (locked i (omega arith)))

-- demand 3's claims hold of a guided run
pub guided_claims : (j : Job) (ws : List ℕ) (K budget : ℕ) (v : Layout) → ValidWeights j ws → ValidLayout j v
    → GuidedClaims j ws K budget v (rounds j K budget ws v) (guide j K budget ws v)
unfolding guide outcome
guided_claims j ws K budget v weights h =
    record {
      sum_of_layout = refl;
      zero_exactly = plain_zero j best;
      given_or_round_end = b.given_or_round_end;
      at_most_given = b.at_most_given;
      at_most_round_ends = b.at_most_round_ends;
      rounds_claims = c;
      valid_layout = valid;
      valid_weights = last_valid j ws rs weights (λ r m. (c.each r m).valid_weights);
      locked_stay = stays;
      all_locked = λ locked. (same_layout_lem j v best locked h valid stays, (still locked).0, (still locked).1);
    }
  where
    rs : List Round
    rs = rounds j K budget ws v

    best : Layout
    best = best_after j v rs

    b : BestClaims j v rs best
    b = best_claims j v rs

    c : RoundsClaims j ws K budget v rs
    c = rounds_claims_lem j ws K budget v weights h

    -- the best layout is valid
    valid : ValidLayout j best
    valid =
        ⊎_elim (λ (e : best ≡ v). rw e h) (λ (x : RoundEnd rs best). rw x.at_end (c.each x.round x.member).claims.valid) b.given_or_round_end

    -- and has each locked piece where it was given
    stays : LockedStay j v best
    stays =
        ⊎_elim (λ (e : best ≡ v). rw e (λ i l locked. refl))
        (λ (x : RoundEnd rs best). rw x.at_end (round_stays j ws K budget v rs c x.round x.member)) b.given_or_round_end

    -- with every piece locked no round has a trial
    still : AllLocked j → (made_in rs ≡ 0) × (moves_in rs ≡ 0)
    still locked = none_made rs (λ r m. round_still j budget r locked (c.each r m))
