-- How large document 01's sums and counts grow: there are n(n - 1)/2 pairs, a penalty is at most 199 with document 02's gap, and so at most 255, as
-- the bound of a sum has it, and a weight at most 65,535, so a weighted sum of at most 64 pieces is below 2³⁵. Assumes nothing.
use Rattle.list_laws.proofs.Kit.{◌∙◌, ◌≡◌, ap, refl, Bool, false, true, List, Memᴰ, Memᴰ-head, Memᴰ-tail, [], ◌∷◌, ◌*◌, ◌+◌, ◌<◌, ◌≤◌, suc}
use Rattle.list_laws.proofs.Kit.{zero, ℕ, le_trans, mul-le-mul, mul-le-mul_left, mul-le-mul_right, mul-suc, suc-mul, arith, get_or, length, length-append}
use Rattle.model.specs.Piece.{side_bound, gap_bound, extent}
use Rattle.model.specs.Layout.{Job, Layout, Pair, place_of, shape_in, pairs, pairs_with, pairs_from, pair_penalty, sum_over, weighted_sum, piece_sum}
use Rattle.model.specs.Guided.{weight_bound, Round, made_in, moves_in}
use Rattle.model.specs.Lent.{piece_bound, area_bound}
use Rattle.model.specs.declared.Direction.{Direction}
use Rattle.model.specs.declared.Direction.TheVariants.{Horizontal, Vertical}
use Rattle.job_laws.proofs.Turned.{turned_extent, turned_area}
use Rattle.overlap_laws.proofs.Largest.{penalty_largest}
use Rattle.descent_laws.specs.Sums.{sum_bound, PairOrdered}
use Rattle.descent_laws.specs.Claims.{ValidWeights, RoundClaims}
use Rattle.descent_laws.proofs.Sums.{mem_pair, piece_at_most}

-- ── how many pairs ──

-- there are `left` pairs with first number i
with_length : (i k left : ℕ) → length (pairs_with i k left) ≡ left
unfolding pairs_with
with_length i k zero = refl
with_length i k (suc left) = ap suc (with_length i (suc k) left)

-- `left` pieces have left(left - 1)/2 pairs, whatever number they begin with
from_length : (i left : ℕ) → 2 * length (pairs_from i left) + left ≡ left * left
unfolding pairs_from
from_length i zero = refl
from_length i (suc left) =
    let earlier : 2 * length (pairs_from (suc i) left) + left ≡ left * left = from_length (suc i) left in
    let square : suc left * suc left ≡ left * left + left + suc left = suc-mul left (suc left) ∙ ap (λ a. a + suc left) (mul-suc left left) in
    rw (length-append (pairs_with i (suc i) left) (pairs_from (suc i) left), with_length i (suc i) left) (omega arith)

-- n pieces have n(n - 1)/2 pairs
pub pairs_length : (n : ℕ) → 2 * length (pairs n) + n ≡ n * n
pairs_length n = from_length 0 n

-- 64 pieces have 2,016 pairs, fewer have fewer
pub pairs_at_most : (n : ℕ) → n ≤ piece_bound → length (pairs n) ≤ 2016
pairs_at_most n h = let e = pairs_length n in let l : n * n ≤ n * 64 = mul-le-mul_left n h in omega arith

-- ── how large a sum ──

-- one term of a sum
term_at_most : (b : Bool) (w c W C : ℕ) → w ≤ W → c ≤ C → elim b as (λ _. ℕ) [ true ↦ w * c | false ↦ 0 ] ≤ W * C
term_at_most true w c W C h g = mul-le-mul h g
term_at_most false w c W C h g = omega arith

-- costs of at most C by weights of at most W
pub sum_at_most_lem : (test : Pair → Bool) (cost : Pair → ℕ) (ps : List Pair) (ws : List ℕ) (W C : ℕ) → ((k : ℕ) → k < length ws → get_or ws k 0 ≤ W)
    → ((p : Pair) → Memᴰ p ps → cost p ≤ C) → sum_over test cost ps ws ≤ length ps * (W * C)
unfolding sum_over
sum_at_most_lem test cost [] ws W C h g = omega arith
sum_at_most_lem test cost (p ∷ ps) [] W C h g = omega arith
sum_at_most_lem test cost (p ∷ ps) (w ∷ ws) W C h g =
    let here = term_at_most (test p) w (cost p) W C (h 0 (omega arith)) (g p (Memᴰ-head refl)) in
    let later = sum_at_most_lem test cost ps ws W C (λ k l. h (suc k) (omega arith)) (λ q m. g q (Memᴰ-tail m)) in
    omega (arith, suc-mul (length ps) (W * C))

-- each piece's box has sides of at most 255, any two have at most 65,536 pixels together, and the gap is at most 8
pub record BoxesSmall (j : Job) : Type 0 where
  pub columns_small : (i : ℕ) → i < j.size.count → (j.piece i).shape.columns ≤ side_bound
  pub rows_small : (i : ℕ) → i < j.size.count → (j.piece i).shape.rows ≤ side_bound
  pub together : (i k : ℕ) → i < k → k < j.size.count
      → (j.piece i).shape.columns * (j.piece i).shape.rows + (j.piece k).shape.columns * (j.piece k).shape.rows ≤ area_bound
  pub gap_small : j.size.gap ≤ gap_bound

-- a piece of the layout has at most 255 columns and rows
piece_extent : (d : Direction) (j : Job) → BoxesSmall j → (v : Layout) (i : ℕ) → i < j.size.count → extent d (shape_in j v i) ≤ side_bound
piece_extent d j small v i l = turned_extent d (place_of v i).turn (j.piece i).shape side_bound (small.columns_small i l) (small.rows_small i l)

-- a pair's penalty is at most 199
pub pair_penalty_largest : (j : Job) → BoxesSmall j → (v : Layout) (p : Pair) → Memᴰ p (pairs j.size.count) → pair_penalty j v p ≤ 199
unfolding pair_penalty
pair_penalty_largest j small v p m =
    let o : PairOrdered 0 j.size.count p = mem_pair j.size.count p m in
    let second : p.second < j.size.count = o.below in
    let first : p.first < j.size.count = (let l = o.rising in omega arith) in
    let a = turned_area (place_of v p.first).turn (j.piece p.first).shape in
    let b = turned_area (place_of v p.second).turn (j.piece p.second).shape in
    penalty_largest _ _ _ _ _ small.gap_small
    (piece_extent Horizontal j small v p.first first) (piece_extent Vertical j small v p.first first)
    (piece_extent Horizontal j small v p.second second) (piece_extent Vertical j small v p.second second)
    (omega (arith, a, b, small.together p.first p.second o.rising second))

-- and so it fits a byte
pub pair_penalty_at_most : (j : Job) → BoxesSmall j → (v : Layout) (p : Pair) → Memᴰ p (pairs j.size.count) → pair_penalty j v p ≤ side_bound
pair_penalty_at_most j small v p m = omega (arith, pair_penalty_largest j small v p m)

-- a weighted sum of at most 64 pieces
pub weighted_at_most : (j : Job) (ws : List ℕ) (v : Layout) → j.size.count ≤ piece_bound → BoxesSmall j → ValidWeights j ws → weighted_sum j ws v ≤ sum_bound
unfolding weighted_sum
weighted_at_most j ws v few small weights =
    le_trans
    (sum_at_most_lem _ (pair_penalty j v) (pairs j.size.count) ws weight_bound side_bound (λ k l. (weights.in_range k l).1) (pair_penalty_at_most j small v))
    (mul-le-mul_right (weight_bound * side_bound) (pairs_at_most j.size.count few))

-- a piece's pair sum
pub piece_sum_at_most : (j : Job) (ws : List ℕ) (v : Layout) (i : ℕ) → j.size.count ≤ piece_bound → BoxesSmall j → ValidWeights j ws
    → piece_sum j ws v i ≤ sum_bound
piece_sum_at_most j ws v i few small weights = le_trans (piece_at_most j ws v i) (weighted_at_most j ws v few small weights)

-- ── how many trials and moves ──

-- the trials of all rounds
pub made_at_most : (j : Job) (budget : ℕ) (rs : List Round) → ((r : Round) → Memᴰ r rs → RoundClaims j budget r) → made_in rs ≤ length rs * budget
unfolding made_in
made_at_most j budget [] each = omega arith
made_at_most j budget (r ∷ rs) each =
    let here = (each r (Memᴰ-head refl)).claims.made_within_budget in
    let later = made_at_most j budget rs (λ s m. each s (Memᴰ-tail m)) in
    omega (arith, suc-mul (length rs) budget)

-- the moves of all rounds
pub moves_at_most : (j : Job) (budget : ℕ) (rs : List Round) → ((r : Round) → Memᴰ r rs → RoundClaims j budget r) → moves_in rs ≤ made_in rs
unfolding made_in moves_in
moves_at_most j budget [] each = omega arith
moves_at_most j budget (r ∷ rs) each =
    let here = (each r (Memᴰ-head refl)).claims.moves_at_most_made in
    let later = moves_at_most j budget rs (λ s m. each s (Memᴰ-tail m)) in
    omega arith
