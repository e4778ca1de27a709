-- Document 01, 'Descent and guidance', trials: the list of trials has every free piece in every turn allowed to it and both directions, and
-- nothing else. Assumes nothing.
use Rattle.list_laws.proofs.Kit.{◌≡◌, refl, subst, sym, Bool, false, true, ⊎_elim, List, Memᴰ, Memᴰ-append_cases, Memᴰ-cases_cons}
use Rattle.list_laws.proofs.Kit.{Memᴰ-eq_of_singleton, Memᴰ-head, Memᴰ-not_nil, Memᴰ-tail, Memᴰ-append_left, Memᴰ-append_right, [], ◌++◌}
use Rattle.list_laws.proofs.Kit.{◌∷◌, ◌+◌, ◌<◌, ◌≤◌, suc, zero, ℕ, eq-or-lt_of_le, arith, get_or, length}
use Rattle.model.specs.Layout.{Job, allowed, is_locked}
use Rattle.model.specs.Descent.{Trial, turn_trials, piece_trials, trials_from, trials}
use Rattle.model.specs.declared.Turn.{Turn}
use Rattle.model.specs.declared.Turn.TheVariants.{Zero, Quarter, Half, ThreeQuarters}
use Rattle.model.specs.declared.Direction.{Direction}
use Rattle.model.specs.declared.Direction.TheVariants.{Horizontal, Vertical}
use Rattle.descent_laws.specs.Claims.{AllLocked}
use Rattle.descent_laws.specs.Trials.{trial_of, Proper}

-- ── members and their numbers ──

-- an element of a list stands at some number
pub record Position {A : Type 0} (a d : A) (l : List A) : Type 0 where
  pub number : ℕ
  pub below : number < length l
  pub there : get_or l number d ≡ a

-- where an element stands
pub position : {A : Type 0} {a : A} (d : A) (l : List A) → Memᴰ a l → Position a d l
position d [] m = absurd (Memᴰ-not_nil m)
position {A} {a} d (x ∷ l) m =
    ⊎_elim (λ (e : a ≡ x). record { number = 0; below = omega arith; there = sym e })
    (λ (m' : Memᴰ a l). let r = position d l m' in record { number = suc r.number; below = (let h = r.below in omega arith); there = r.there })
    (Memᴰ-cases_cons m)

-- ── trials ──

-- both directions are there
two_mem : (i : ℕ) (t : Turn) (d : Direction) → Memᴰ (trial_of i t d) (trial_of i t Horizontal ∷ trial_of i t Vertical ∷ [])
two_mem i t Horizontal = Memᴰ-head refl
two_mem i t Vertical = Memᴰ-tail (Memᴰ-head refl)

-- a turn that is allowed has both its trials
turn_mem : (j : Job) (i : ℕ) (t : Turn) (d : Direction) → allowed j i t ≡ true → Memᴰ (trial_of i t d) (turn_trials j i t)
unfolding turn_trials
turn_mem j i t d h = rw (h, turn_trials) (two_mem i t d)

-- the trials of a free piece, by turn
abbrev free_trials : Job → ℕ → List Trial
free_trials j i = turn_trials j i Zero ++ turn_trials j i Quarter ++ turn_trials j i Half ++ turn_trials j i ThreeQuarters

-- a turn's trials are among them
piece_mem : (j : Job) (i : ℕ) (t : Turn) (k : Trial) → Memᴰ k (turn_trials j i t) → Memᴰ k (free_trials j i)
piece_mem j i Zero k m = Memᴰ-append_left _ (Memᴰ-append_left _ (Memᴰ-append_left _ m))
piece_mem j i Quarter k m = Memᴰ-append_left _ (Memᴰ-append_left _ (Memᴰ-append_right (turn_trials j i Zero) m))
piece_mem j i Half k m = Memᴰ-append_left _ (Memᴰ-append_right (turn_trials j i Zero ++ turn_trials j i Quarter) m)
piece_mem j i ThreeQuarters k m = Memᴰ-append_right (turn_trials j i Zero ++ turn_trials j i Quarter ++ turn_trials j i Half) m

-- a free piece's trials are these
free_mem : (j : Job) (i : ℕ) (k : Trial) → is_locked j i ≡ false → Memᴰ k (free_trials j i) → Memᴰ k (piece_trials j i)
unfolding piece_trials
free_mem j i k free m = rw (free, piece_trials) m

-- a piece's trials are among those of the pieces from i on
from_mem : (j : Job) (i left a : ℕ) (k : Trial) → i ≤ a → a < i + left → Memᴰ k (piece_trials j a) → Memᴰ k (trials_from j i left)
unfolding trials_from
from_mem j i zero a k l h m = absurd (omega arith)
from_mem j i (suc left) a k l h m =
    ⊎_elim (λ (e : i ≡ a). Memᴰ-append_left _ (subst (λ (b : ℕ). Memᴰ k (piece_trials j b)) (sym e) m))
    (λ (g : i < a). Memᴰ-append_right (piece_trials j i) (from_mem j (suc i) left a k g (omega arith) m)) (eq-or-lt_of_le l)

-- every free piece in every turn allowed to it and either direction is a trial
pub trial_mem : (j : Job) (i : ℕ) (t : Turn) (d : Direction) → i < j.size.count → is_locked j i ≡ false → allowed j i t ≡ true
    → Memᴰ (trial_of i t d) (trials j)
unfolding trials
trial_mem j i t d l free h =
    from_mem j 0 j.size.count i _ (omega arith) (omega arith) (free_mem j i _ free (piece_mem j i t _ (turn_mem j i t d h)))

-- the trial of a free piece in an allowed turn
proper_is : (j : Job) (i : ℕ) (t : Turn) (d : Direction) (k : Trial) → is_locked j i ≡ false → allowed j i t ≡ true → k ≡ trial_of i t d
    → Proper j i (suc i) k
proper_is j i t d k free h e = rw e (record { from = omega arith; below = omega arith; piece_free = free; turn_allowed = h })

-- by the test for an allowed turn
proper_two : (j : Job) (i : ℕ) (t : Turn) (b : Bool) (k : Trial) → is_locked j i ≡ false → allowed j i t ≡ b
    → Memᴰ k (elim b as (λ _. List Trial) [ true ↦ trial_of i t Horizontal ∷ trial_of i t Vertical ∷ [] | false ↦ [] ]) → Proper j i (suc i) k
proper_two j i t true k free h m =
    ⊎_elim (proper_is j i t Horizontal k free h) (λ m'. proper_is j i t Vertical k free h (Memᴰ-eq_of_singleton m')) (Memᴰ-cases_cons m)
proper_two j i t false k free h m = absurd (Memᴰ-not_nil m)

-- the trials of a turn
proper_turn : (j : Job) (i : ℕ) (t : Turn) (k : Trial) → is_locked j i ≡ false → Memᴰ k (turn_trials j i t) → Proper j i (suc i) k
unfolding turn_trials
proper_turn j i t k free m = proper_two j i t (allowed j i t) k free refl m

-- an element of two lists in a row, by cases
either : {A C : Type 0} {a : A} (s t : List A) → (Memᴰ a s → C) → (Memᴰ a t → C) → Memᴰ a (s ++ t) → C
either s t f g m = ⊎_elim f g (Memᴰ-append_cases s m)

-- the trials of a free piece
proper_free : (j : Job) (i : ℕ) (k : Trial) → is_locked j i ≡ false → Memᴰ k (free_trials j i) → Proper j i (suc i) k
proper_free j i k free =
    either (turn_trials j i Zero ++ turn_trials j i Quarter ++ turn_trials j i Half) _
    (either (turn_trials j i Zero ++ turn_trials j i Quarter) _
    (either (turn_trials j i Zero) _ (proper_turn j i Zero k free) (proper_turn j i Quarter k free)) (proper_turn j i Half k free))
    (proper_turn j i ThreeQuarters k free)

-- by the lock: a locked piece has no trial
proper_locked : (j : Job) (i : ℕ) (k : Trial) (b : Bool) → is_locked j i ≡ b
    → Memᴰ k (elim b as (λ _. List Trial) [ true ↦ [] | false ↦ free_trials j i ]) → Proper j i (suc i) k
proper_locked j i k true e m = absurd (Memᴰ-not_nil m)
proper_locked j i k false e m = proper_free j i k e m

-- the trials of a piece
proper_piece : (j : Job) (i : ℕ) (k : Trial) → Memᴰ k (piece_trials j i) → Proper j i (suc i) k
unfolding piece_trials
proper_piece j i k m = proper_locked j i k (is_locked j i) refl m

-- the trials of the pieces from i on
proper_from : (j : Job) (i left : ℕ) (k : Trial) → Memᴰ k (trials_from j i left) → Proper j i (i + left) k
unfolding trials_from
proper_from j i zero k m = absurd (Memᴰ-not_nil m)
proper_from j i (suc left) k m =
    either (piece_trials j i) _
    (λ m'. let r = proper_piece j i k m' in
    record { from = r.from; below = (let l = r.below in omega arith); piece_free = r.piece_free; turn_allowed = r.turn_allowed })
    (λ m'. let r = proper_from j (suc i) left k m' in
    record {
      from = (let l = r.from in omega arith);
      below = (let l = r.below in omega arith);
      piece_free = r.piece_free;
      turn_allowed = r.turn_allowed;
    })
    m

-- every trial is of a free piece of the job in a turn allowed to it
pub mem_trial : (j : Job) (k : Trial) → Memᴰ k (trials j) → Proper j 0 j.size.count k
unfolding trials
mem_trial j k m =
    let r = proper_from j 0 j.size.count k m in
    record { from = r.from; below = (let l = r.below in omega arith); piece_free = r.piece_free; turn_allowed = r.turn_allowed }

-- locked pieces from i on have no trials
none_from : (j : Job) (i left : ℕ) → ((k : ℕ) → k < i + left → is_locked j k ≡ true) → trials_from j i left ≡ []
unfolding trials_from piece_trials
none_from j i zero h = refl
none_from j i (suc left) h = rw (h i (omega arith), piece_trials, none_from j (suc i) left (λ k l. h k (omega arith)))

-- where every piece is locked there is no trial
pub no_trials : (j : Job) → AllLocked j → trials j ≡ []
unfolding trials
no_trials j h = none_from j 0 j.size.count (λ k l. h k (omega arith))
