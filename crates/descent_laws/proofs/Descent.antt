-- Document 01, 'Descent and guidance', a whole descent: what demand 3 says of it. A trial that is no move found no place on its line
-- with a smaller pair sum, hence none with a smaller weighted sum, since the other pairs stay as they are; a move lowers the
-- weighted sum and keeps every piece inside in a turn allowed to it, and every locked piece in its place, since a trial is of a free one. The
-- laws of a run do the rest. Assumes nothing.
use Rattle.list_laws.proofs.Kit.{◌∙◌, ◌≡◌, ap, refl, sym, Bool, false, true, ◌≢◌, ⊎_elim, Option, none, some, List, ◌*◌, ◌+◌, ◌<◌, ◌≤◌, ℕ, le_trans, arith}
use Rattle.list_laws.proofs.Kit.{eqb, ne_eqb, ltb, length, length-set, set, ext_get_or, get_or-set_other, get_or-set_same, le-ltb, ltb-false, ltb-true, ℕ_discrete}
use Rattle.model.specs.Piece.{on_line, line_through}
use Rattle.model.specs.Layout.{Job, Layout, allowed, is_locked, inside, origin, place_of, weighted_sum, piece_sum}
use Rattle.model.specs.Search.{Best, moved_to, search_line}
use Rattle.model.specs.Descent.{Trial, Attempt, moved, quiet, Descent, trials, trial_line, judged, begin, no_trial, attempt, descend_from, descend}
use Rattle.model.specs.declared.Turn.{Turn}
use Rattle.model.specs.declared.Direction.{Direction}
use Rattle.model.specs.declared.Direction.TheVariants.{Horizontal, Vertical}
use Rattle.model.specs.declared.End.TheVariants.{Spent}
use Rattle.model.specs.declared.Line.{Line}
use Rattle.model.specs.declared.Line.TheVariants.{InRow, InColumn}
use Rattle.model.specs.declared.Placement.{Placement}
use Rattle.list_laws.proofs.Tests.{clash}
use Rattle.list_laws.proofs.Lists.{member_at}
use Rattle.descent_laws.specs.Claims.{ValidWeights, ValidLayout, AllLocked, LockedStay, Rival, DescentClaims}
use Rattle.descent_laws.proofs.Sums.{placed_anew, zero_exactly_lem}
use Rattle.descent_laws.specs.Search.{LeastFound}
use Rattle.descent_laws.proofs.Search.{Searched, searched}
use Rattle.descent_laws.specs.Trials.{trial_of, Proper}
use Rattle.descent_laws.proofs.Trials.{position, trial_mem, mem_trial, no_trials}
use Rattle.descent_laws.proofs.Run.{impossible, trial_at, DescentRan, ran, end_at_once, ends_at_once}

-- ── layouts ──

-- a property of placements that holds of a layout's and of a new one holds after the piece is placed anew
pub set_keeps : (P : ℕ → Placement → Type 0) (v : Layout) (i : ℕ) (p : Placement) → i < length v → P i p
    → (k : ℕ) → P k (place_of v k) → Dec (k ≡ i) → P k (place_of (set v i p) k)
set_keeps P v i p l h k g (yes e) = rw (e, get_or-set_same v i p origin l) h
set_keeps P v i p l h k g (no n) = rw (get_or-set_other v i k p origin n) g

-- a piece placed anew, inside and in a turn allowed to it
pub valid_set : (j : Job) (v : Layout) (i : ℕ) (p : Placement) → ValidLayout j v → i < j.size.count → inside j i p ≡ true
    → allowed j i p.turn ≡ true → ValidLayout j (set v i p)
valid_set j v i p h l s a =
    let there : i < length v = (let e = h.one_per_piece in omega arith) in
    record {
      one_per_piece = length-set v i p ∙ h.one_per_piece;
      inside_sheet = λ k l'. set_keeps (λ n q. inside j n q ≡ true) v i p there s k (h.inside_sheet k l') (ℕ_discrete k i);
      turn_allowed = λ k l'. set_keeps (λ n q. allowed j n q.turn ≡ true) v i p there a k (h.turn_allowed k l') (ℕ_discrete k i);
    }

-- a free piece placed anew leaves the locked ones
pub locked_set : (j : Job) (v : Layout) (i : ℕ) (p : Placement) → is_locked j i ≡ false → LockedStay j v (set v i p)
locked_set j v i p free k l locked = get_or-set_other v i k p origin (λ (e : k ≡ i). clash locked (rw e free))

-- locked pieces that stay twice stay
pub stay_on : (j : Job) (u v w : Layout) → LockedStay j u v → LockedStay j v w → LockedStay j u w
stay_on j u v w a b k l locked = b k l locked ∙ a k l locked

-- ── one trial ──

-- no place on the trial's line has a smaller weighted sum
abbrev pub Quiet : Job → List ℕ → Layout → Trial → Type 0
Quiet j ws v k =
    (a : ℕ) → inside j k.piece (on_line (trial_line v k) k.turn a) ≡ true
    → weighted_sum j ws v ≤ weighted_sum j ws (moved_to v k.piece k.turn (trial_line v k) a)

-- w is v with piece i at an inside corner on the line, in the turn, with a smaller pair sum
record Step (j : Job) (ws : List ℕ) (v : Layout) (i : ℕ) (t : Turn) (line : Line) (w : Layout) : Type 0 where
  at : ℕ
  inside_sheet : inside j i (on_line line t at) ≡ true
  result : w ≡ moved_to v i t line at
  smaller : piece_sum j ws (moved_to v i t line at) i < piece_sum j ws v i

module _ (j : Job) (ws : List ℕ) (v : Layout) (i : ℕ) (t : Turn) (line : Line) where
  -- by the test of the least against the present sum: a move
  moved_at : (b : Best) (w : Layout) → LeastFound j ws v i t line b → (c : Bool) → ltb b.sum (piece_sum j ws v i) ≡ c
      → elim c as (λ _. Attempt) [ true ↦ moved (moved_to v i t line b.at) | false ↦ quiet ] ≡ moved w → Step j ws v i t line w
  moved_at b w f true e h =
      let less : b.sum < piece_sum j ws v i = ltb-true _ _ e in
      record { at = b.at; inside_sheet = f.inside_sheet; result = cc; smaller = rw f.attained at less }
  moved_at b w f false e h = impossible (cc)

  -- a move is a step
  judged_moved : (o : Option Best) (w : Layout) → Searched j ws v i t line o
      → judged (piece_sum j ws v i) (moved_to v i t line) o ≡ moved w → Step j ws v i t line w
  judged_moved none w s h = impossible (cc)
  judged_moved (some b) w s h = moved_at b w s _ refl h

  -- by the same test: quiet
  quiet_at : (b : Best) → LeastFound j ws v i t line b → (c : Bool) → ltb b.sum (piece_sum j ws v i) ≡ c
      → elim c as (λ _. Attempt) [ true ↦ moved (moved_to v i t line b.at) | false ↦ quiet ] ≡ quiet
      → (a : ℕ) → inside j i (on_line line t a) ≡ true → piece_sum j ws v i ≤ piece_sum j ws (moved_to v i t line a) i
  quiet_at b f true e h = impossible (cc)
  quiet_at b f false e h = λ a g. le_trans (ltb-false b.sum (piece_sum j ws v i) e) (f.least a g)

  -- a quiet trial: no inside corner on the line has a smaller pair sum
  judged_quiet : (o : Option Best) → Searched j ws v i t line o → judged (piece_sum j ws v i) (moved_to v i t line) o ≡ quiet
      → (a : ℕ) → inside j i (on_line line t a) ≡ true → piece_sum j ws v i ≤ piece_sum j ws (moved_to v i t line a) i
  judged_quiet none f h = λ a g. absurd (f a g)
  judged_quiet (some b) f h = quiet_at b f _ refl h

-- a placement on a line has the turn that was asked for
turn_on : (line : Line) (t : Turn) (a : ℕ) → (on_line line t a).turn ≡ t
turn_on (InRow r) t a = refl
turn_on (InColumn c) t a = refl

module _ (j : Job) (ws : List ℕ) (v : Layout) (i : ℕ) (t : Turn) (line : Line) where
  -- a step keeps the layout valid, where the turn is allowed
  step_valid : (w : Layout) → Step j ws v i t line w → ValidLayout j v → i < j.size.count → allowed j i t ≡ true → ValidLayout j w
  step_valid w s h l a = rw s.result (valid_set j v i (on_line line t s.at) h l s.inside_sheet (rw (turn_on line t s.at) a))

  -- a step of a free piece leaves the locked ones
  step_stays : (w : Layout) → Step j ws v i t line w → is_locked j i ≡ false → LockedStay j v w
  step_stays w s free = rw s.result (locked_set j v i (on_line line t s.at) free)

  -- a step lowers the weighted sum
  step_lower : (w : Layout) → Step j ws v i t line w → weighted_sum j ws w < weighted_sum j ws v
  step_lower w s =
      let anew = placed_anew j ws v i (on_line line t s.at) in
      let less = s.smaller in
      rw s.result (omega arith)

-- a move keeps the layout valid, leaves the locked pieces, and lowers the weighted sum
pub attempt_moved : (j : Job) (ws : List ℕ) (v w : Layout) (k : Trial) → Proper j 0 j.size.count k → ValidLayout j v
    → attempt j ws v k ≡ moved w → ValidLayout j w × LockedStay j v w × (weighted_sum j ws w < weighted_sum j ws v)
unfolding attempt
attempt_moved j ws v w k p h e =
    (step_valid j ws v i t line w s h p.below p.turn_allowed, step_stays j ws v i t line w s p.piece_free, step_lower j ws v i t line w s)
  where
    i : ℕ
    i = k.piece

    t : Turn
    t = k.turn

    line : Line
    line = trial_line v k

    s : Step j ws v i t line w
    s = judged_moved j ws v i t line (search_line j ws v i t line) w (searched j ws v i t line) e

-- a quiet trial: no place on its line has a smaller weighted sum
pub attempt_quiet : (j : Job) (ws : List ℕ) (v : Layout) (k : Trial) → attempt j ws v k ≡ quiet → Quiet j ws v k
unfolding attempt
attempt_quiet j ws v k e a g =
    let i : ℕ = k.piece in
    let t : Turn = k.turn in
    let line : Line = trial_line v k in
    let not_less = judged_quiet j ws v i t line (search_line j ws v i t line) (searched j ws v i t line) e a g in
    let anew = placed_anew j ws v i (on_line line t a) in
    omega arith

-- nothing is below 0
zero_judged_at : (o : Option Best) (place : ℕ → Layout) → judged 0 place o ≡ quiet
zero_judged_at none place = refl
zero_judged_at (some b) place = rw (le-ltb b.sum 0 (omega arith), judged)

-- a piece whose pair sum is 0 does not move: its trial needs no search
pub zero_quiet : (j : Job) (ws : List ℕ) (v : Layout) (k : Trial) → piece_sum j ws v k.piece ≡ 0 → attempt j ws v k ≡ quiet
unfolding attempt
zero_quiet j ws v k e = rw e (zero_judged_at (search_line j ws v k.piece k.turn (trial_line v k)) _)

-- ── rivals ──

-- a rival is the layout with one piece placed anew
rival_set : (j : Job) (v w : Layout) → ValidLayout j v → (r : Rival j v w) → w ≡ set v r.piece (place_of w r.piece)
rival_set j v w h r =
    ext_get_or origin w (set v r.piece (place_of w r.piece))
    (r.one_per_piece ∙ sym (length-set v r.piece (place_of w r.piece) ∙ h.one_per_piece))
    (λ k l. same k (let e = r.one_per_piece in omega arith) (ℕ_discrete k r.piece))
  where
    same : (k : ℕ) → k < j.size.count → Dec (k ≡ r.piece) → place_of w k ≡ place_of (set v r.piece (place_of w r.piece)) k
    same k l (yes e) =
        let there : r.piece < length v = (let n = h.one_per_piece in let b = r.there in omega arith) in
        rw (e, get_or-set_same v r.piece (place_of w r.piece) origin there)
    same k l (no n) = rw (get_or-set_other v r.piece k (place_of w r.piece) origin n) (r.others_same k l n)

-- where every trial is quiet, no rival has a smaller weighted sum
quiet_rival : (j : Job) (ws : List ℕ) (v w : Layout) → ValidLayout j v
    → ((m : ℕ) → m < length (trials j) → Quiet j ws v (trial_at (trials j) m)) → Rival j v w → weighted_sum j ws v ≤ weighted_sum j ws w
quiet_rival j ws v w h q r = rw (rival_set j v w h r) (⊎_elim in_row in_column r.same_row_or_column)
  where
    i : ℕ
    i = r.piece

    p : Placement
    p = place_of w i

    along : (d : Direction) (a : ℕ) → on_line (line_through d (place_of v i)) p.turn a ≡ p → weighted_sum j ws v ≤ weighted_sum j ws (set v i p)
    along d a e =
        let pos = position no_trial (trials j) (trial_mem j i p.turn d r.there r.piece_free r.turn_allowed) in
        let k : Quiet j ws v (trial_of i p.turn d) = rw pos.there at (q pos.number pos.below) in
        rw e at (k a (rw e r.inside_sheet))

    in_row : (place_of w i).y ≡ (place_of v i).y → weighted_sum j ws v ≤ weighted_sum j ws (set v i p)
    in_row e = along Horizontal p.x.0 (ap (λ y. record { turn = p.turn; x = p.x; y = y }) (sym e))

    in_column : (place_of w i).x ≡ (place_of v i).x → weighted_sum j ws v ≤ weighted_sum j ws (set v i p)
    in_column e = along Vertical p.y.0 (ap (λ x. record { turn = p.turn; x = x; y = p.y }) (sym e))

-- ── the whole descent ──

-- what holds of each layout u of a run from v: it is valid, and the locked pieces lie where they were given
abbrev Kept : Job → Layout → Layout → Type 0
Kept j v u = ValidLayout j u × LockedStay j v u

-- a move keeps it
kept_moved : (j : Job) (ws : List ℕ) (v u w : Layout) (k : Trial) → Proper j 0 j.size.count k → Kept j v u → attempt j ws u k ≡ moved w
    → Kept j v w × (weighted_sum j ws w < weighted_sum j ws u)
kept_moved j ws v u w k p g e = let m = attempt_moved j ws u w k p g.0 e in ((m.0, stay_on j v u w g.1 m.1), m.2)

-- the run of the job's trials
descent_ran : (j : Job) (ws : List ℕ) (budget : ℕ) (v : Layout) → ValidLayout j v
    → DescentRan (weighted_sum j ws) (trials j) (Kept j v) (Quiet j ws) v budget (descend j ws budget v)
unfolding descend
descent_ran j ws budget v h =
    ran (weighted_sum j ws) (attempt j ws) (trials j) (Kept j v) (Quiet j ws)
    (λ u w m b g e. kept_moved j ws v u w (trial_at (trials j) m) (mem_trial j _ (member_at (trials j) m no_trial b)) g e)
    (λ u m b g e. attempt_quiet j ws u (trial_at (trials j) m) e) v budget (h, λ i l locked. refl)

-- with every piece locked there is no trial, and a run ends at once
all_locked_lem : (j : Job) (ws : List ℕ) (budget : ℕ) (v : Layout) → AllLocked j
    → descend j ws budget v ≡ record { end = end_at_once (eqb (weighted_sum j ws v) 0); layout = v; sum = weighted_sum j ws v; made = 0; moves = 0 }
unfolding descend
all_locked_lem j ws budget v locked =
    ap (λ (ts : List Trial). descend_from (weighted_sum j ws) (attempt j ws) ts budget (begin v)) (no_trials j locked)
    ∙ ends_at_once (weighted_sum j ws) (attempt j ws) v budget (eqb (weighted_sum j ws v) 0) refl

-- demand 3's claims hold of a descent
pub descent_claims : (j : Job) (ws : List ℕ) (budget : ℕ) (v : Layout) → ValidWeights j ws → ValidLayout j v
    → DescentClaims j ws budget v (descend j ws budget v)
descent_claims j ws budget v weights h =
    record {
      rival =
          λ c w r. ⊎_elim (λ e. rw run.sum_of_layout (quiet_rival j ws d.layout w run.good.0 (run.settled_means_quiet e) r))
          (λ e. let z = run.clear_means_zero e in omega arith) c;
      sum_at_most = at_most;
      zero_exactly = rw run.sum_of_layout (zero_exactly_lem j ws d.layout weights);
      moves_at_most_fall = run.moves_at_most_fall;
      budget_suffices = suffices;
      sum_of_layout = run.sum_of_layout;
      valid = run.good.0;
      clear_exactly = (run.clear_means_zero, run.zero_means_clear);
      spent_uses_budget = run.spent_means_budget;
      made_within_budget = run.made_within_budget;
      moves_at_most_made = run.moves_at_most_made;
      locked_stay = run.good.1;
      all_locked =
          λ locked.
          let e = all_locked_lem j ws budget v locked in
          rw e (refl, refl, λ not_clear. ap end_at_once (ne_eqb (weighted_sum j ws v) 0 not_clear));
    }
  where
    d : Descent
    d = descend j ws budget v

    run : DescentRan (weighted_sum j ws) (trials j) (Kept j v) (Quiet j ws) v budget d
    run = descent_ran j ws budget v h

    -- arithmetic proves these two claims and every weaker one, so they are said in full here too
    at_most : d.sum ≤ weighted_sum j ws v
    at_most = let f = run.moves_at_most_fall in omega arith

    suffices : length (trials j) * (weighted_sum j ws v + 1) ≤ budget → d.end ≢ Spent
    suffices enough e = let few = run.spent_means_few e in let all = run.spent_means_budget e in omega arith
