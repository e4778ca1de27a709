-- Trials as numbers: a trial's number stands for it, and the list of trials grows by a turn, a piece and the pieces that are left. Assumes nothing.
use Rattle.list_laws.proofs.Kit.{◌∙◌, ◌≡◌, ap, refl, sym, false, true, ◌≢◌, List, [], ◌++◌, ◌∷◌, append_assoc, append-nil, map-append, ◌%◌, ◌*◌, ◌+◌, ◌-◌, ◌/◌}
use Rattle.list_laws.proofs.Kit.{◌<◌, ◌≤◌, suc, zero, ℕ, add-one, arith, get_or, length, length-set, set, take, take-suc-set, le-ltb, lt-ltb}
use Rattle.model.specs.Layout.{Job, allowed, is_locked}
use Rattle.model.specs.Descent.{Trial, turn_trials, piece_trials, trials_from, trials, trial_after, no_trial}
use Rattle.model.specs.declared.Turn.{Turn}
use Rattle.model.specs.declared.Turn.TheVariants.{ThreeQuarters}
use Rattle.model.specs.declared.Direction.TheVariants.{Horizontal, Vertical}
use Rattle.descent_laws.specs.Trials.{trial_of}
use Rattle.run_trials.specs.Trials.{turn_at, direction_at, trial_of_code, trials_of}

-- ── a trial's number ──

-- a place behind the first three is the last turn's
pub turn_last : (n : ℕ) → n ≢ 0 → n ≢ 1 → n ≢ 2 → turn_at n ≡ ThreeQuarters
unfolding turn_at
turn_last zero a b c = absurd (a refl)
turn_last (suc zero) a b c = absurd (b refl)
turn_last (suc (suc zero)) a b c = absurd (c refl)
turn_last (suc (suc (suc n))) a b c = refl

-- a place behind the first is the vertical direction's
pub direction_last : (n : ℕ) → n ≢ 0 → direction_at n ≡ Vertical
unfolding direction_at
direction_last zero a = absurd (a refl)
direction_last (suc n) a = refl

-- the number stands for the trial that it is made from
pub code_back : (i t d : ℕ) → t < 4 → d < 2 → trial_of_code ((i * 4 + t) * 2 + d) ≡ trial_of i (turn_at t) (direction_at d)
unfolding trial_of_code
code_back i t d a b =
    let piece : ((i * 4 + t) * 2 + d) / 8 ≡ i = omega arith in
    let turn : ((i * 4 + t) * 2 + d) / 2 % 4 ≡ t = omega arith in
    let direction : ((i * 4 + t) * 2 + d) % 2 ≡ d = omega arith in
    rw (trial_of_code, piece, turn, direction)

-- the trial at a place of a list is what the number there stands for
pub trial_there : (codes : List ℕ) (at : ℕ) → get_or (trials_of codes) at no_trial ≡ trial_of_code (get_or codes at 0)
unfolding trial_of_code turn_at direction_at
trial_there [] at = refl
trial_there (code ∷ codes) zero = refl
trial_there (code ∷ codes) (suc at) = trial_there codes at

-- ── the list grows ──

-- two numbers behind the first `at`
two_stored : (store : List ℕ) (at a b : ℕ) → at + 2 ≤ length store
    → take (at + 2) (set (set store at a) (at + 1) b) ≡ take at store ++ (a ∷ b ∷ [])
two_stored store at a b room =
    let one : at + 1 ≡ suc at = omega arith in
    let two : at + 2 ≡ suc (suc at) = omega arith in
    rw (
      one,
      two,
      take-suc-set (set store at a) (suc at) b (rw (length-set store at a) (omega arith)),
      take-suc-set store at a (omega arith),
      append_assoc (take at store) (a ∷ []) (b ∷ []),
    )

module _ (j : Job) (i : ℕ) (t : Turn) (store : List ℕ) (at : ℕ) where
  -- an allowed turn: its two trials
  pub turn_added : (a b : ℕ) → at + 2 ≤ length store → allowed j i t ≡ true
      → trial_of_code a ≡ trial_of i t Horizontal → trial_of_code b ≡ trial_of i t Vertical
      → trials_of (take (at + 2) (set (set store at a) (at + 1) b)) ≡ trials_of (take at store) ++ turn_trials j i t
  unfolding turn_trials
  turn_added a b room may first second =
      rw (two_stored store at a b room, map-append, may, turn_trials, first, second)

  -- any other: none
  pub turn_passed : allowed j i t ≡ false → trials_of (take at store) ≡ trials_of (take at store) ++ turn_trials j i t
  unfolding turn_trials
  turn_passed not-may = rw (not-may, turn_trials, append-nil)

-- a locked piece: none
pub piece_passed : (j : Job) (i : ℕ) (listed : List Trial) → is_locked j i ≡ true → listed ≡ listed ++ piece_trials j i
unfolding piece_trials
piece_passed j i listed locked = rw (locked, piece_trials, append-nil)

-- a free piece, turn by turn
pub piece_added : (j : Job) (i : ℕ) (start first second third last : List Trial) → is_locked j i ≡ false
    → first ≡ start ++ turn_trials j i (turn_at 0) → second ≡ first ++ turn_trials j i (turn_at 1)
    → third ≡ second ++ turn_trials j i (turn_at 2) → last ≡ third ++ turn_trials j i (turn_at 3) → last ≡ start ++ piece_trials j i
unfolding piece_trials turn_at
piece_added j i start first second third last free a b c d = rw (d, c, b, a, free, piece_trials) (simp append_assoc)

-- ── the pieces that are left ──

-- the list and the trials of the pieces that are left make up the job's
abbrev pub Growing : Job → List Trial → ℕ → Type 0
Growing j listed i = listed ++ trials_from j i (j.size.count - i) ≡ trials j

-- before the first
pub growing_begin : (j : Job) → Growing j [] 0
unfolding trials
growing_begin j = ap (trials_from j 0) (omega arith)

-- one more
pub growing_more : (j : Job) (listed grown : List Trial) (i : ℕ) → i < j.size.count → Growing j listed i → grown ≡ listed ++ piece_trials j i
    → Growing j grown (i + 1)
unfolding trials_from
growing_more j listed grown i l h e =
    let left : j.size.count - i ≡ suc (j.size.count - (i + 1)) = omega arith in
    let next : i + 1 ≡ suc i = omega arith in
    ap (λ (ks : List Trial). ks ++ trials_from j (i + 1) (j.size.count - (i + 1))) e
    ∙ append_assoc listed (piece_trials j i) (trials_from j (i + 1) (j.size.count - (i + 1)))
    ∙ ap (λ (n : ℕ). listed ++ (piece_trials j i ++ trials_from j n (j.size.count - (i + 1)))) next
    ∙ ap (λ (n : ℕ). listed ++ trials_from j i n) (sym left)
    ∙ h

-- after the last
pub growing_end : (j : Job) (listed : List Trial) (i : ℕ) → i ≡ j.size.count → Growing j listed i → listed ≡ trials j
unfolding trials_from
growing_end j listed i e h =
    let none : j.size.count - i ≡ 0 = omega arith in
    sym (append-nil listed) ∙ ap (λ (n : ℕ). listed ++ trials_from j i n) (sym none) ∙ h

-- ── the place after a place ──

-- one more where that is a place
pub after_more : (count at : ℕ) → at + 1 < count → trial_after count at ≡ at + 1
after_more count at l =
    let more : suc at < count = omega arith in
    rw (lt-ltb (suc at) count more, trial_after) (sym (add-one at))

-- the first after the last
pub after_last : (count at : ℕ) → count ≤ at + 1 → trial_after count at ≡ 0
after_last count at l =
    let last : count ≤ suc at = omega arith in
    rw (le-ltb (suc at) count last, trial_after)
