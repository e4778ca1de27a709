-- Document 01, 'Descent and guidance': what holds of a whole descent, whatever a trial is and however it is judged. It needs two
-- facts of a single trial only: a move lowers the sum, and a quiet trial says something of the present layout. A window of quiet trials
-- ends before the next trial, going round; when it has all T trials, each of them is quiet at the end. A quiet trial makes the
-- window one longer and a move lowers the sum by at least 1, so at most T trials are made for each unit of the sum, and T more.
-- Assumes nothing.
use Rattle.list_laws.proofs.Kit.{◌≡◌, refl, subst, sym, Bool, false, true, ◌≢◌, ⊎_elim, Option, none, some, List, [], ◌*◌, ◌+◌, ◌<◌, ◌≤◌, suc, zero, ℕ}
use Rattle.list_laws.proofs.Kit.{eq-or-lt_of_le, le_of_suc-le-suc, mul-add, mul-le-mul_left, mul-one, mul-suc, arith, eqb, ltb, get_or, length, eqb-false}
use Rattle.list_laws.proofs.Kit.{eqb-true, ltb-false, ltb-true, dec_lt}
use Rattle.model.specs.Layout.{Layout}
use Rattle.model.specs.Descent.{Trial, Attempt, moved, quiet, Progress, Descent, trial_after, begin, proceed, no_trial, step, ended, descend_from}
use Rattle.model.specs.declared.End.{End}
use Rattle.model.specs.declared.End.TheVariants.{Clear, Settled, Spent}

-- the trial with number m
abbrev pub trial_at : List Trial → ℕ → Trial
trial_at ts m = get_or ts m no_trial

-- ── the window of quiet trials ──

-- of `count` trials, the last `quiet_count` before the next one, going round, have the property
record Window (Holds : ℕ → Type 0) (count next quiet_count : ℕ) : Type 0 where
  before : (m : ℕ) → m < next → next ≤ m + quiet_count → Holds m
  behind : (m : ℕ) → next ≤ m → m < count → count + next ≤ m + quiet_count → Holds m

-- an empty window says nothing
no_window : (Holds : ℕ → Type 0) (count next : ℕ) → Window Holds count next 0
no_window Holds count next = record { before = λ m l h. absurd (omega arith); behind = λ m l b h. absurd (omega arith) }

-- by the test for the last trial of the list
longer_at : (Holds : ℕ → Type 0) (count next quiet_count : ℕ) → Window Holds count next quiet_count → next < count → Holds next
    → (b : Bool) → ltb (suc next) count ≡ b → Window Holds count (elim b as (λ _. ℕ) [ true ↦ suc next | false ↦ 0 ]) (suc quiet_count)
longer_at Holds count next quiet_count w there holds true e =
    record {
      before = λ m l h. ⊎_elim (λ (s : m ≡ next). subst Holds (sym s) holds) (λ (g : m < next). w.before m g (omega arith))
          (eq-or-lt_of_le (le_of_suc-le-suc l));
      behind = λ m l b h. w.behind m (omega arith) b (omega arith);
    }
longer_at Holds count next quiet_count w there holds false e =
    let last : count ≤ suc next = ltb-false _ _ e in
    record {
      before = λ m l h. absurd (omega arith);
      behind = λ m l b h. ⊎_elim (λ (s : m ≡ next). subst Holds (sym s) holds) (λ (g : m < next). w.before m g (omega arith))
          (eq-or-lt_of_le (omega arith));
    }

-- one more trial that has the property makes the window one longer
longer : (Holds : ℕ → Type 0) (count next quiet_count : ℕ) → Window Holds count next quiet_count → next < count → Holds next
    → Window Holds count (trial_after count next) (suc quiet_count)
longer Holds count next quiet_count w there holds = longer_at Holds count next quiet_count w there holds _ refl

-- a window of all trials
all_hold : (Holds : ℕ → Type 0) (count next : ℕ) → next < count → Window Holds count next count → (m : ℕ) → m < count → Holds m
all_hold Holds count next there w m l = all_at (dec_lt m next)
  where
    all_at : Dec (m < next) → Holds m
    all_at (yes b) = w.before m b (omega arith)
    all_at (no n) = w.behind m (omega arith) l (omega arith)

-- by the same test
after_at : (count next : ℕ) → 0 < count → (b : Bool) → ltb (suc next) count ≡ b
    → elim b as (λ _. ℕ) [ true ↦ suc next | false ↦ 0 ] < count
after_at count next h true e = ltb-true _ _ e
after_at count next h false e = h

-- the trial after one of the list is one of the list
pub after_there : (count next : ℕ) → 0 < count → trial_after count next < count
after_there count next h = after_at count next h _ refl

-- ── a run ──

-- two constructors are never equal: `impossible (cc)`
pub impossible : {A : Type 0} → ◌≡◌ {A = ℕ} 0 1 → A
impossible e = absurd (omega arith)

-- each trial is counted
one_more : (count : ℕ) (s : Progress) (a : Attempt) → (proceed count s a).made ≡ suc s.made
one_more count s (moved v) = refl
one_more count s quiet = refl

-- what holds of a run's outcome
pub record DescentRan (sum : Layout → ℕ) (ts : List Trial) (Good : Layout → Type 0) (Quiet : Layout → Trial → Type 0)
    (v : Layout) (budget : ℕ) (d : Descent) : Type 0 where
  pub good : Good d.layout
  pub sum_of_layout : d.sum ≡ sum d.layout
  pub moves_at_most_fall : d.moves + d.sum ≤ sum v
  pub moves_at_most_made : d.moves ≤ d.made
  pub made_within_budget : d.made ≤ budget
  pub clear_means_zero : d.end ≡ Clear → d.sum ≡ 0
  pub zero_means_clear : d.sum ≡ 0 → d.end ≡ Clear
  pub settled_means_quiet : d.end ≡ Settled → (m : ℕ) → m < length ts → Quiet d.layout (trial_at ts m)
  pub spent_means_budget : d.end ≡ Spent → d.made ≡ budget
  pub spent_means_few : d.end ≡ Spent → d.made < length ts * (sum v + 1)

module _ (sum : Layout → ℕ) (try : Layout → Trial → Attempt) (ts : List Trial) (Good : Layout → Type 0) (Quiet : Layout → Trial → Type 0)
    (move : (v w : Layout) (m : ℕ) → m < length ts → Good v → try v (trial_at ts m) ≡ moved w → Good w × (sum w < sum v))
    (rest : (v : Layout) (m : ℕ) → m < length ts → Good v → try v (trial_at ts m) ≡ quiet → Quiet v (trial_at ts m))
  where
    -- what holds before each trial of a run from v
    record Reached (v : Layout) (s : Progress) : Type 0 where
      good : Good s.layout
      there : 0 < length ts → s.next < length ts
      window : Window (λ m. Quiet s.layout (trial_at ts m)) (length ts) s.next s.quiet_count
      quiet_at_most : s.quiet_count ≤ length ts
      moves_fall : s.moves + sum s.layout ≤ sum v
      moves_made : s.moves ≤ s.made
      made_few : s.made + length ts * sum s.layout ≤ length ts * sum v + s.quiet_count

    -- it holds at the beginning
    reached_begin : (v : Layout) → Good v → Reached v (begin v)
    reached_begin v g =
        record {
          good = g;
          there = λ h. h;
          window = no_window _ (length ts) 0;
          quiet_at_most = omega arith;
          moves_fall = omega arith;
          moves_made = omega arith;
          made_few = omega arith;
        }

    -- it holds after a trial, whatever that came to
    reached_after : (v : Layout) (s : Progress) → Reached v s → s.quiet_count < length ts → (a : Attempt)
        → try s.layout (trial_at ts s.next) ≡ a → Reached v (proceed (length ts) s a)
    reached_after v s r few (moved w) e =
        let m = move s.layout w s.next (r.there (omega arith)) r.good e in
        let lower : sum w < sum s.layout = m.1 in
        let fall : s.moves + sum s.layout ≤ sum v = r.moves_fall in
        let bound : s.made + length ts * sum s.layout ≤ length ts * sum v + s.quiet_count = r.made_few in
        let pay : length ts * suc (sum w) ≤ length ts * sum s.layout = mul-le-mul_left (length ts) lower in
        let unit : length ts * suc (sum w) ≡ length ts * sum w + length ts = mul-suc (length ts) (sum w) in
        record {
          good = m.0;
          there = after_there (length ts) s.next;
          window = no_window _ (length ts) _;
          quiet_at_most = omega arith;
          moves_fall = omega arith;
          moves_made = let h = r.moves_made in omega arith;
          made_few = omega arith;
        }
    reached_after v s r few quiet e =
        let there : s.next < length ts = r.there (omega arith) in
        record {
          good = r.good;
          there = after_there (length ts) s.next;
          window = longer _ (length ts) s.next s.quiet_count r.window there (rest s.layout s.next there r.good e);
          quiet_at_most = few;
          moves_fall = r.moves_fall;
          moves_made = let h = r.moves_made in omega arith;
          made_few = let h = r.made_few in omega arith;
        }

    -- it holds after the next trial
    reached_step : (v : Layout) (s : Progress) → Reached v s → s.quiet_count < length ts → Reached v (step sum try ts s)
    reached_step v s r few = reached_after v s r few _ refl

    -- what holds of the outcome of a run from v
    abbrev Outcome : Layout → ℕ → Descent → Type 0
    Outcome v budget d = DescentRan sum ts Good Quiet v budget d

    -- what follows where the run ends clear
    ran_clear : (v : Layout) (s : Progress) (budget : ℕ) → Reached v s → s.made ≤ budget → sum s.layout ≡ 0
        → Outcome v budget (ended sum try ts Clear s)
    ran_clear v s budget r within e =
        record {
          good = r.good;
          sum_of_layout = refl;
          moves_at_most_fall = r.moves_fall;
          moves_at_most_made = r.moves_made;
          made_within_budget = within;
          clear_means_zero = λ _. e;
          zero_means_clear = λ _. refl;
          settled_means_quiet = λ (h : Clear ≡ Settled). impossible (cc);
          spent_means_budget = λ (h : Clear ≡ Spent). impossible (cc);
          spent_means_few = λ (h : Clear ≡ Spent). impossible (cc);
        }

    -- what follows where it ends settled
    ran_settled : (v : Layout) (s : Progress) (budget : ℕ) → Reached v s → s.made ≤ budget → (sum s.layout ≡ 0 → ⊥)
        → s.quiet_count ≡ length ts → Outcome v budget (ended sum try ts Settled s)
    ran_settled v s budget r within positive e =
        record {
          good = r.good;
          sum_of_layout = refl;
          moves_at_most_fall = r.moves_fall;
          moves_at_most_made = r.moves_made;
          made_within_budget = within;
          clear_means_zero = λ (h : Settled ≡ Clear). impossible (cc);
          zero_means_clear = λ h. absurd (positive h);
          settled_means_quiet = λ _ m l. all_hold _ (length ts) s.next (r.there (omega arith)) (rw e at r.window) m l;
          spent_means_budget = λ (h : Settled ≡ Spent). impossible (cc);
          spent_means_few = λ (h : Settled ≡ Spent). impossible (cc);
        }

    -- what follows where it ends spent
    ran_spent : (v : Layout) (s : Progress) (budget : ℕ) → Reached v s → s.made ≡ budget → (sum s.layout ≡ 0 → ⊥)
        → s.quiet_count < length ts → Outcome v budget (ended sum try ts Spent s)
    ran_spent v s budget r within positive few =
        let bound : s.made + length ts * sum s.layout ≤ length ts * sum v + s.quiet_count = r.made_few in
        record {
          good = r.good;
          sum_of_layout = refl;
          moves_at_most_fall = r.moves_fall;
          moves_at_most_made = r.moves_made;
          made_within_budget = omega arith;
          clear_means_zero = λ (h : Spent ≡ Clear). impossible (cc);
          zero_means_clear = λ h. absurd (positive h);
          settled_means_quiet = λ (h : Spent ≡ Settled). impossible (cc);
          spent_means_budget = λ _. within;
          spent_means_few = λ _. rw (mul-add (length ts) (sum v) 1, mul-one (length ts)) (omega arith);
        }

    -- the tests before each trial, and what comes of a run that goes on
    ran_tests : (v : Layout) (s : Progress) (budget : ℕ) (later : Descent) → Reached v s → s.made ≤ budget
        → ((sum s.layout ≡ 0 → ⊥) → s.quiet_count < length ts → Outcome v budget later)
        → (b : Bool) → eqb (sum s.layout) 0 ≡ b → (c : Bool) → eqb s.quiet_count (length ts) ≡ c
        → Outcome v budget
        (elim (elim b as (λ _. Option End) [ true ↦ some Clear | false ↦ elim c as (λ _. Option End) [ true ↦ some Settled | false ↦ none ] ])
        as (λ _. Descent) [ some e ↦ ended sum try ts e s | none ↦ later ])
    ran_tests v s budget later r within go true e c e' = ran_clear v s budget r within (eqb-true _ _ e)
    ran_tests v s budget later r within go false e true e' = ran_settled v s budget r within (eqb-false _ _ e) (eqb-true _ _ e')
    ran_tests v s budget later r within go false e false e' =
        go (eqb-false _ _ e) (let n : s.quiet_count ≢ length ts = eqb-false _ _ e' in let l = r.quiet_at_most in omega arith)

    -- what follows from any point of the run on, with so much of the budget left
    ran_from : (v : Layout) (budget left : ℕ) (s : Progress) → Reached v s → s.made + left ≡ budget
        → Outcome v budget (descend_from sum try ts left s)
    unfolding descend_from
    ran_from v budget zero s r e =
        ran_tests v s budget (ended sum try ts Spent s) r (omega arith) (λ positive few. ran_spent v s budget r (omega arith) positive few)
        _ refl _ refl
    ran_from v budget (suc left) s r e =
        ran_tests v s budget (descend_from sum try ts left (step sum try ts s)) r (omega arith)
        (λ positive few. ran_from v budget left (step sum try ts s) (reached_step v s r few)
        (let m = one_more (length ts) s (try s.layout (trial_at ts s.next)) in omega arith)) _ refl _ refl

    -- a run from v
    pub ran : (v : Layout) (budget : ℕ) → Good v → Outcome v budget (descend_from sum try ts budget (begin v))
    ran v budget g = ran_from v budget budget (begin v) (reached_begin v g) (omega arith)

-- the end that is reached without a trial: clear where the sum is 0, else settled
abbrev pub end_at_once : Bool → End
end_at_once true = Clear
end_at_once false = Settled

-- without a trial a run ends where it begins, whatever the budget
pub ends_at_once : (sum : Layout → ℕ) (try : Layout → Trial → Attempt) (v : Layout) (budget : ℕ) (b : Bool) → eqb (sum v) 0 ≡ b
    → descend_from sum try [] budget (begin v) ≡ ended sum try [] (end_at_once b) (begin v)
unfolding descend_from
ends_at_once sum try v zero true e = rw (e, descend_from)
ends_at_once sum try v zero false e = rw (e, descend_from)
ends_at_once sum try v (suc budget) true e = rw (e, descend_from)
ends_at_once sum try v (suc budget) false e = rw (e, descend_from)
