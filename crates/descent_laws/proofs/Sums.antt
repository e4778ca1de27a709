-- Document 01, 'No-fit rows and penalty', weights and sums: the weighted sum is a piece's pair sum and the sum of the pairs that do
-- not name it. The latter stay as they are when the piece is placed anew, so comparing weighted sums is comparing pair sums.
-- A weighted sum is 0 exactly when no two pieces conflict, since weights are at least 1. Assumes nothing.
use Rattle.list_laws.proofs.Kit.{◌∙◌, ◌≡◌, ap, ap₂, refl, subst, sym, Bool, false, not, true, ◌↔◌, ⊎_elim, List, Memᴰ, Memᴰ-append_cases}
use Rattle.list_laws.proofs.Kit.{Memᴰ-cases_cons, Memᴰ-head, Memᴰ-not_nil, Memᴰ-tail, Memᴰ-append_left, Memᴰ-append_right, [], ◌∷◌, ◌*◌}
use Rattle.list_laws.proofs.Kit.{◌+◌, ◌<◌, ◌≤◌, suc, zero, ℕ, eq-or-lt_of_le, mul-le-mul_right, mul-zero, arith, eqb, get_or, length, set, get_or-set_other}
use Rattle.list_laws.proofs.Kit.{eqb-false, not-true}
use Rattle.model.specs.Piece.{corner}
use Rattle.model.specs.Overlap.{conflict_penalty}
use Rattle.model.specs.Layout.{Job, Layout, Pair, turned_piece, origin, pairs, pairs_with, pairs_from, pair_penalty, names, sum_over, weighted_sum, piece_sum}
use Rattle.model.specs.declared.Placement.{Placement}
use Rattle.list_laws.proofs.Tests.{or_neither, clash, fails}
use Rattle.overlap_laws.proofs.Grown.{conflict_from, conflict_witness}
use Rattle.overlap_laws.proofs.Penalty.{zero_conflict, conflict_zero}
use Rattle.descent_laws.specs.Sums.{PairOrdered}
use Rattle.descent_laws.specs.Claims.{ValidWeights, NoConflict}

-- ── sums over pairs ──

-- one more pair, by its test
split_step : (b : Bool) (x a r s : ℕ) → a ≡ r + s
    → x + a ≡ (elim b as (λ _. ℕ) [ true ↦ x | false ↦ 0 ] + r) + (elim (not b) as (λ _. ℕ) [ true ↦ x | false ↦ 0 ] + s)
split_step true x a r s e = omega arith
split_step false x a r s e = omega arith

-- the sum over all pairs is the sum over those that pass and the sum over those that do not
pub sum_split : (test : Pair → Bool) (cost : Pair → ℕ) (ps : List Pair) (ws : List ℕ)
    → sum_over (λ p. true) cost ps ws ≡ sum_over test cost ps ws + sum_over (λ p. not (test p)) cost ps ws
unfolding sum_over
sum_split test cost [] ws = refl
sum_split test cost (p ∷ ps) [] = refl
sum_split test cost (p ∷ ps) (w ∷ ws) = split_step (test p) (w * cost p) _ _ _ (sum_split test cost ps ws)

-- one more pair, by its test
same_step : (b : Bool) (w c c' r r' : ℕ) → (b ≡ true → c ≡ c') → r ≡ r'
    → elim b as (λ _. ℕ) [ true ↦ w * c | false ↦ 0 ] + r ≡ elim b as (λ _. ℕ) [ true ↦ w * c' | false ↦ 0 ] + r'
same_step true w c c' r r' h e = rw (h refl, e)
same_step false w c c' r r' h e = rw e

-- costs that agree on the pairs that pass have the same sum
pub same_sum : (test : Pair → Bool) (cost cost' : Pair → ℕ) (ps : List Pair) (ws : List ℕ)
    → ((p : Pair) → test p ≡ true → cost p ≡ cost' p) → sum_over test cost ps ws ≡ sum_over test cost' ps ws
unfolding sum_over
same_sum test cost cost' [] ws h = refl
same_sum test cost cost' (p ∷ ps) [] h = refl
same_sum test cost cost' (p ∷ ps) (w ∷ ws) h = same_step (test p) w (cost p) (cost' p) _ _ (h p) (same_sum test cost cost' ps ws h)

-- a product is 0 and the weight is not: the cost is
zero_factor : (w c : ℕ) → 1 ≤ w → w * c ≡ 0 → c ≡ 0
zero_factor w c h e = let l : 1 * c ≤ w * c = mul-le-mul_right c h in omega arith

-- a sum of 0 with weights of at least 1: every pair has cost 0
pub zero_sum_costs : (cost : Pair → ℕ) (ps : List Pair) (ws : List ℕ) → length ps ≤ length ws
    → ((k : ℕ) → k < length ws → 1 ≤ get_or ws k 0) → sum_over (λ p. true) cost ps ws ≡ 0
    → (p : Pair) → Memᴰ p ps → cost p ≡ 0
unfolding sum_over
zero_sum_costs cost [] ws l h e p m = absurd (Memᴰ-not_nil m)
zero_sum_costs cost (q ∷ ps) [] l h e p m = absurd (omega arith)
zero_sum_costs cost (q ∷ ps) (w ∷ ws) l h e p m =
    ⊎_elim (λ s. ap cost s ∙ zero_factor w (cost q) (h 0 (omega arith)) (omega arith))
    (zero_sum_costs cost ps ws (omega arith) (λ k l'. h (suc k) (omega arith)) (omega arith) p) (Memᴰ-cases_cons m)

-- costs of 0 have a sum of 0
pub zero_costs_sum : (cost : Pair → ℕ) (ps : List Pair) (ws : List ℕ) → ((p : Pair) → Memᴰ p ps → cost p ≡ 0)
    → sum_over (λ p. true) cost ps ws ≡ 0
unfolding sum_over
zero_costs_sum cost [] ws h = refl
zero_costs_sum cost (q ∷ ps) [] h = refl
zero_costs_sum cost (q ∷ ps) (w ∷ ws) h =
    rw (h q (Memᴰ-head refl), zero_costs_sum cost ps ws (λ p m. h p (Memᴰ-tail m)), mul-zero w)

-- ── which pairs there are ──

-- the pairs with first number i: every second number from k on
with_mem : (i k left b : ℕ) → k ≤ b → b < k + left → Memᴰ (record { first = i; second = b }) (pairs_with i k left)
unfolding pairs_with
with_mem i k zero b l l' = absurd (omega arith)
with_mem i k (suc left) b l l' =
    ⊎_elim (λ e. Memᴰ-head (ap (λ a. record { first = i; second = a }) (sym e)))
    (λ g. Memᴰ-tail (with_mem i (suc k) left b g (omega arith))) (eq-or-lt_of_le l)

-- the pairs with first numbers from i on: every second number above the first
from_mem : (i left a b : ℕ) → i ≤ a → a < b → b < i + left → Memᴰ (record { first = a; second = b }) (pairs_from i left)
unfolding pairs_from
from_mem i zero a b l m h = absurd (omega arith)
from_mem i (suc left) a b l m h =
    ⊎_elim
    (λ e. Memᴰ-append_left (pairs_from (suc i) left)
    (subst (λ (c : ℕ). Memᴰ (record { first = c; second = b }) (pairs_with i (suc i) left)) e
    (with_mem i (suc i) left b (omega arith) (omega arith))))
    (λ g. Memᴰ-append_right (pairs_with i (suc i) left) (from_mem (suc i) left a b g m (omega arith))) (eq-or-lt_of_le l)

-- every two numbers below n are one of the pairs
pub pair_mem : (n i k : ℕ) → i < k → k < n → Memᴰ (record { first = i; second = k }) (pairs n)
pair_mem n i k l h = from_mem 0 n i k (omega arith) l (omega arith)

-- a pair with first number i has a second number from k on
pub mem_with : (i k left : ℕ) (p : Pair) → Memᴰ p (pairs_with i k left) → (p.first ≡ i) × (k ≤ p.second) × (p.second < k + left)
unfolding pairs_with
mem_with i k zero p m = absurd (Memᴰ-not_nil m)
mem_with i k (suc left) p m =
    ⊎_elim (λ e. let f = ap (λ q. q.first) e in let s = ap (λ q. q.second) e in (f, omega arith, omega arith))
    (λ m'. let r = mem_with i (suc k) left p m' in (r.0, omega arith, omega arith)) (Memᴰ-cases_cons m)

-- a pair with first number from i on has a higher second number
pub mem_from : (i left : ℕ) (p : Pair) → Memᴰ p (pairs_from i left) → PairOrdered i (i + left) p
unfolding pairs_from
mem_from i zero p m = absurd (Memᴰ-not_nil m)
mem_from i (suc left) p m =
    ⊎_elim
    (λ m'. let r = mem_with i (suc i) left p m' in let f = r.0 in record { from = omega arith; rising = omega arith; below = omega arith })
    (λ m'. let r = mem_from (suc i) left p m' in record { from = omega arith; rising = r.rising; below = omega arith })
    (Memᴰ-append_cases (pairs_with i (suc i) left) m)

-- every one of the pairs is of two numbers below n
pub mem_pair : (n : ℕ) (p : Pair) → Memᴰ p (pairs n) → PairOrdered 0 n p
mem_pair n p m = let r = mem_from 0 n p m in record { from = omega arith; rising = r.rising; below = omega arith }

-- ── a piece placed anew ──

-- a pair's penalty, from the placements of its two pieces
penalty_at : Job → Pair → Placement → Placement → ℕ
penalty_at j q a b = conflict_penalty j.size.gap (turned_piece j q.first a.turn) (corner a) (turned_piece j q.second b.turn) (corner b)

-- a pair that does not name the piece has the penalty that it had
pub other_pair : (j : Job) (v : Layout) (i : ℕ) (p : Placement) (q : Pair) → not (names i q) ≡ true
    → pair_penalty j v q ≡ pair_penalty j (set v i p) q
unfolding pair_penalty penalty_at
other_pair j v i p q h =
    let n = or_neither (eqb q.first i) (eqb q.second i) (not-true (names i q) h) in
    sym
    (ap₂ (penalty_at j q) (get_or-set_other v i q.first p origin (eqb-false q.first i n.0))
    (get_or-set_other v i q.second p origin (eqb-false q.second i n.1)))

-- the weighted sum of the pairs that do not name piece i
other_sum : Job → List ℕ → Layout → ℕ → ℕ
other_sum j ws v i = sum_over (λ q. not (names i q)) (pair_penalty j v) (pairs j.size.count) ws

-- the weighted sum is the piece's pair sum and the rest
weighted_split : (j : Job) (ws : List ℕ) (v : Layout) (i : ℕ) → weighted_sum j ws v ≡ piece_sum j ws v i + other_sum j ws v i
unfolding weighted_sum piece_sum other_sum
weighted_split j ws v i = sum_split (names i) (pair_penalty j v) (pairs j.size.count) ws

-- a piece's pair sum is at most the weighted sum
pub piece_at_most : (j : Job) (ws : List ℕ) (v : Layout) (i : ℕ) → piece_sum j ws v i ≤ weighted_sum j ws v
piece_at_most j ws v i = omega (arith, weighted_split j ws v i)

-- the rest stays when the piece is placed anew
other_sum_lem : (j : Job) (ws : List ℕ) (v : Layout) (i : ℕ) (p : Placement) → other_sum j ws v i ≡ other_sum j ws (set v i p) i
unfolding other_sum
other_sum_lem j ws v i p =
    same_sum (λ q. not (names i q)) (pair_penalty j v) (pair_penalty j (set v i p)) (pairs j.size.count) ws (other_pair j v i p)

-- placing a piece anew changes the weighted sum by as much as it changes the piece's pair sum
pub placed_anew : (j : Job) (ws : List ℕ) (v : Layout) (i : ℕ) (p : Placement)
    → weighted_sum j ws (set v i p) + piece_sum j ws v i ≡ weighted_sum j ws v + piece_sum j ws (set v i p) i
placed_anew j ws v i p = omega (arith, weighted_split j ws v i, weighted_split j ws (set v i p) i, other_sum_lem j ws v i p)

-- ── a sum of 0 ──

-- a weighted sum is 0 exactly when no two pieces conflict
pub zero_exactly_lem : (j : Job) (ws : List ℕ) (v : Layout) → ValidWeights j ws → (weighted_sum j ws v ≡ 0) ↔ NoConflict j v
unfolding weighted_sum pair_penalty
zero_exactly_lem j ws v h = (
  (λ e i k l m both.
      clash (conflict_from _ _ _ _ _ both)
      (zero_conflict _ _ _ _ _
      (zero_sum_costs (pair_penalty j v) (pairs j.size.count) ws (omega arith) (λ n b. (h.in_range n b).0) e
      (record { first = i; second = k }) (pair_mem j.size.count i k l m)))),
  (λ apart. zero_costs_sum (pair_penalty j v) (pairs j.size.count) ws
      (λ q m. let o = mem_pair j.size.count q m in
      conflict_zero _ _ _ _ _ (fails _ (λ s. apart q.first q.second o.rising o.below (conflict_witness _ _ _ _ _ s))))),
)
