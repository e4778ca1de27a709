-- Document 01's order of pairs, (0,1), (0,2) and so on, and of trials, by piece, turn, horizontal before vertical: each is listed once,
-- since a number that tells its place in the order rises along the list. Assumes nothing.
use Rattle.list_laws.proofs.Kit.{◌≡◌, ap, Bool, false, true, ◌≢◌, List, [], ◌++◌, ◌∷◌, ◌*◌, ◌+◌, ◌<◌, ◌≤◌, suc, zero, ℕ, add-suc, le_refl, le_trans, suc-mul}
use Rattle.list_laws.proofs.Kit.{arith, get_or, length}
use Rattle.model.specs.Layout.{Job, Pair, pairs, pairs_with, pairs_from, allowed, is_locked}
use Rattle.model.specs.Descent.{Trial, no_trial, turn_trials, piece_trials, trials_from, trials}
use Rattle.model.specs.declared.Turn.{Turn}
use Rattle.model.specs.declared.Turn.TheVariants.{Zero, Quarter, Half, ThreeQuarters}
use Rattle.model.specs.declared.Direction.{Direction}
use Rattle.model.specs.declared.Direction.TheVariants.{Horizontal, Vertical}
use Rattle.descent_laws.specs.Claims.{TrialsClaims}
use Rattle.descent_laws.specs.Trials.{turn_number, trial_of}
use Rattle.descent_laws.proofs.Trials.{trial_mem, mem_trial, no_trials}

-- ── rising lists ──

-- the keys of the list's elements rise, from low on and below high
abbrev pub Rising : {A : Type 0} → (A → ℕ) → ℕ → ℕ → List A → Type 0
Rising key low high [] = low ≤ high
Rising key low high (x ∷ l) = (low ≤ key x) × Rising key (suc (key x)) high l

-- the lower bound may be lowered
rising_lower : {A : Type 0} (key : A → ℕ) (low low' high : ℕ) (l : List A) → low ≤ low' → Rising key low' high l → Rising key low high l
rising_lower key low low' high [] h r = le_trans h r
rising_lower key low low' high (x ∷ l) h r = (le_trans h r.0, r.1)

-- a list that rises to a bound, and one that rises from there or from further up, in a row
rising_append : {A : Type 0} (key : A → ℕ) (low middle middle' high : ℕ) (s t : List A) → Rising key low middle s → middle ≤ middle'
    → Rising key middle' high t → Rising key low high (s ++ t)
rising_append key low middle middle' high [] t r h q = rising_lower key low middle' high t (le_trans r h) q
rising_append key low middle middle' high (x ∷ s) t r h q = (r.0, rising_append key (suc (key x)) middle middle' high s t r.1 h q)

-- no key is below the lower bound
rising_from : {A : Type 0} (key : A → ℕ) (low high : ℕ) (l : List A) (d : A) → Rising key low high l → (k : ℕ) → k < length l
    → low ≤ key (get_or l k d)
rising_from key low high [] d r k h = absurd (omega arith)
rising_from key low high (x ∷ l) d r zero h = r.0
rising_from key low high (x ∷ l) d r (suc k) h =
    let later : suc (key x) ≤ key (get_or l k d) = rising_from key (suc (key x)) high l d r.1 k (omega arith) in
    let here : low ≤ key x = r.0 in
    omega arith

-- of two numbers the larger has the larger key
rising_at : {A : Type 0} (key : A → ℕ) (low high : ℕ) (l : List A) (d : A) → Rising key low high l → (m k : ℕ) → m < k → k < length l
    → key (get_or l m d) < key (get_or l k d)
rising_at key low high [] d r m k h b = absurd (omega arith)
rising_at key low high (x ∷ l) d r zero zero h b = absurd (omega arith)
rising_at key low high (x ∷ l) d r (suc m) zero h b = absurd (omega arith)
rising_at key low high (x ∷ l) d r zero (suc k) h b = rising_from key (suc (key x)) high l d r.1 k (omega arith)
rising_at key low high (x ∷ l) d r (suc m) (suc k) h b = rising_at key (suc (key x)) high l d r.1 m k (omega arith) (omega arith)

-- no element stands at two numbers
rising_once : {A : Type 0} (key : A → ℕ) (low high : ℕ) (l : List A) (d : A) → Rising key low high l → (m k : ℕ) → m < k → k < length l
    → get_or l m d ≢ get_or l k d
rising_once key low high l d r m k h b e =
    let less : key (get_or l m d) < key (get_or l k d) = rising_at key low high l d r m k h b in
    let same : key (get_or l m d) ≡ key (get_or l k d) = ap key e in
    omega arith

-- there are no more elements than numbers between the bounds
rising_length : {A : Type 0} (key : A → ℕ) (low high : ℕ) (l : List A) → Rising key low high l → low + length l ≤ high
rising_length key low high [] r = omega arith
rising_length key low high (x ∷ l) r =
    let here : low ≤ key x = r.0 in
    let later : suc (key x) + length l ≤ high = rising_length key (suc (key x)) high l r.1 in
    omega arith

-- ── pairs ──

-- a pair's place in the order of n pieces: by first number, then by second
abbrev pub pair_key : ℕ → Pair → ℕ
pair_key n p = p.first * n + p.second

-- the pairs with first number i rise
with_rise : (n i k left : ℕ) → k + left ≡ n → Rising (pair_key n) (i * n + k) (i * n + n) (pairs_with i k left)
unfolding pairs_with
with_rise n i k zero e = omega arith
with_rise n i k (suc left) e = (le_refl _, rw (← add-suc (i * n) k) (with_rise n i (suc k) left (omega arith)))

-- the pairs with first numbers from i on rise
from_rise : (n i left : ℕ) → i + left ≡ n → Rising (pair_key n) (i * n) (n * n) (pairs_from i left)
unfolding pairs_from
from_rise n i zero e = let s : i ≡ n = omega arith in rw s (le_refl _)
from_rise n i (suc left) e =
    rising_append (pair_key n) (i * n) (i * n + n) (suc i * n) (n * n) (pairs_with i (suc i) left) (pairs_from (suc i) left)
    (rising_lower (pair_key n) (i * n) (i * n + suc i) (i * n + n) (pairs_with i (suc i) left) (omega arith) (with_rise n i (suc i) left (omega arith)))
    (omega (arith, suc-mul i n)) (from_rise n (suc i) left (omega arith))

-- the pairs come in order of first number, then second, each once
pub pairs_rise : (n : ℕ) → Rising (pair_key n) 0 (n * n) (pairs n)
pairs_rise n = rising_lower (pair_key n) 0 (0 * n) (n * n) (pairs n) (omega arith) (from_rise n 0 n (omega arith))

-- no pair is listed twice
pub pairs_once : (n m k : ℕ) (d : Pair) → m < k → k < length (pairs n) → get_or (pairs n) m d ≢ get_or (pairs n) k d
pairs_once n m k d = rising_once (pair_key n) 0 (n * n) (pairs n) d (pairs_rise n) m k

-- ── trials ──

-- a direction's place in the order
abbrev pub direction_number : Direction → ℕ
direction_number Horizontal = 0
direction_number Vertical = 1

-- a trial's place in the order: by piece, then turn, horizontal before vertical
abbrev pub trial_key : Trial → ℕ
trial_key k = 8 * k.piece + (2 * turn_number k.turn + direction_number k.direction)

-- the two trials of a piece in a turn rise, and so does none
two_rise : (i : ℕ) (t : Turn) (b : Bool)
    → Rising trial_key (8 * i + 2 * turn_number t) (8 * i + 2 * turn_number t + 2)
    (elim b as (λ _. List Trial) [ true ↦ trial_of i t Horizontal ∷ trial_of i t Vertical ∷ [] | false ↦ [] ])
two_rise i t true = (omega arith, (omega arith, omega arith))
two_rise i t false = omega arith

-- the trials of a piece in a turn rise
turn_rise : (j : Job) (i : ℕ) (t : Turn) → Rising trial_key (8 * i + 2 * turn_number t) (8 * i + 2 * turn_number t + 2) (turn_trials j i t)
unfolding turn_trials
turn_rise j i t = two_rise i t (allowed j i t)

-- where the trials of a piece in a turn begin in the order
abbrev turn_low : ℕ → Turn → ℕ
turn_low i t = 8 * i + 2 * turn_number t

-- and where they end
abbrev turn_high : ℕ → Turn → ℕ
turn_high i t = 8 * i + 2 * turn_number t + 2

-- by the lock: the trials of a free piece rise, and so does none
piece_rise_at : (j : Job) (i : ℕ) (b : Bool)
    → Rising trial_key (turn_low i Zero) (turn_high i ThreeQuarters)
    (elim b as (λ _. List Trial)
    [ true ↦ [] | false ↦ turn_trials j i Zero ++ turn_trials j i Quarter ++ turn_trials j i Half ++ turn_trials j i ThreeQuarters ])
piece_rise_at j i true = omega arith
piece_rise_at j i false =
    rising_append trial_key (turn_low i Zero) (turn_high i Half) (turn_low i ThreeQuarters) (turn_high i ThreeQuarters)
    (turn_trials j i Zero ++ turn_trials j i Quarter ++ turn_trials j i Half) (turn_trials j i ThreeQuarters)
    (rising_append trial_key (turn_low i Zero) (turn_high i Quarter) (turn_low i Half) (turn_high i Half)
    (turn_trials j i Zero ++ turn_trials j i Quarter) (turn_trials j i Half)
    (rising_append trial_key (turn_low i Zero) (turn_high i Zero) (turn_low i Quarter) (turn_high i Quarter) (turn_trials j i Zero)
    (turn_trials j i Quarter) (turn_rise j i Zero) (omega arith) (turn_rise j i Quarter))
    (omega arith) (turn_rise j i Half))
    (omega arith) (turn_rise j i ThreeQuarters)

-- the trials of a piece rise
piece_rise : (j : Job) (i : ℕ) → Rising trial_key (turn_low i Zero) (turn_high i ThreeQuarters) (piece_trials j i)
unfolding piece_trials
piece_rise j i = piece_rise_at j i (is_locked j i)

-- the trials of the pieces from i on rise
trials_from_rise : (j : Job) (i left : ℕ) → Rising trial_key (8 * i) (8 * (i + left)) (trials_from j i left)
unfolding trials_from
trials_from_rise j i zero = omega arith
trials_from_rise j i (suc left) =
    let e : i + suc left ≡ suc i + left = omega arith in
    rw e
    (rising_append trial_key (8 * i) (turn_high i ThreeQuarters) (8 * suc i) (8 * (suc i + left)) (piece_trials j i) (trials_from j (suc i) left)
    (rising_lower trial_key (8 * i) (turn_low i Zero) (turn_high i ThreeQuarters) (piece_trials j i) (omega arith) (piece_rise j i))
    (omega arith) (trials_from_rise j (suc i) left))

-- the trials come in order of piece, then turn, horizontal before vertical, each once
pub trials_rise : (j : Job) → Rising trial_key 0 (8 * (0 + j.size.count)) (trials j)
unfolding trials
trials_rise j = trials_from_rise j 0 j.size.count

-- no trial is listed twice
pub trials_once : (j : Job) (m k : ℕ) → m < k → k < length (trials j) → get_or (trials j) m no_trial ≢ get_or (trials j) k no_trial
trials_once j = rising_once trial_key 0 (8 * (0 + j.size.count)) (trials j) no_trial (trials_rise j)

-- a piece has at most eight trials
pub trials_at_most : (j : Job) → length (trials j) ≤ 8 * j.size.count
trials_at_most j = let l = rising_length trial_key 0 (8 * (0 + j.size.count)) (trials j) (trials_rise j) in omega arith

-- the list of trials is what the documents say
pub trials_claims : (j : Job) → TrialsClaims j (trials j)
trials_claims j =
    record {
      every = trial_mem j;
      piece_there = λ k m. (mem_trial j k m).below;
      piece_free = λ k m. (mem_trial j k m).piece_free;
      turn_allowed = λ k m. (mem_trial j k m).turn_allowed;
      once = trials_once j;
      none_left = λ h. ap length (no_trials j h);
    }
