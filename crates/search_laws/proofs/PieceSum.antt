-- Document 01, 'No-fit rows and penalty', weights and sums, in the order in which a loop adds them: the weighted sum over the positions of
-- the pairs, a piece's pair sum over the other pieces' numbers. A pair's weight and its penalty do not depend on which of the two
-- pieces is named first, so a piece's pair sum reads one row of weights and penalties. Assumes nothing.
use Rattle.list_laws.proofs.Kit.{◌∙◌, ◌≡◌, ap, ap₂, refl, sym, Bool, ◌||◌, false, true, ◌≢◌, ⊎_elim, List, [], ◌∷◌, ◌*◌, ◌+◌, ◌-◌, ◌<◌, ◌≤◌, suc, zero, ℕ}
use Rattle.list_laws.proofs.Kit.{mul-le-mul, zero-mul, arith, eqb, ltb, get_or-eq_default, get_or, length, set, get_or-set_other, get_or-set_same, eq-eqb}
use Rattle.list_laws.proofs.Kit.{le-ltb, lt-ltb, ne_eqb, dec_lt, ℕ_discrete}
use Rattle.model.specs.Bounded.{sum_below}
use Rattle.model.specs.Piece.{on_line, side_bound}
use Rattle.model.specs.Layout.{Job, Layout, Pair, origin, place_of, shape_in, corner_in, pairs, pair_penalty, names, sum_over, weighted_sum, piece_sum}
use Rattle.model.specs.Search.{sum_at}
use Rattle.model.specs.Guided.{weight_bound}
use Rattle.model.specs.Lent.{piece_bound}
use Rattle.model.specs.declared.Turn.{Turn}
use Rattle.model.specs.declared.Line.{Line}
use Rattle.model.specs.declared.Line.TheVariants.{InRow, InColumn}
use Rattle.model.specs.declared.Placement.{Placement}
use Rattle.list_laws.proofs.Sums.{sum_agree, sum_zero, sum_single, sum_add, sum_first, sum_bound_lem, sum_grows, sum_changed, term_at_most, three_parts}
use Rattle.list_laws.proofs.Tests.{or_left, or_right}
use Rattle.list_laws.proofs.Numbers.{apart}
use Rattle.overlap_laws.proofs.Grown.{penalty_grown}
use Rattle.overlap_laws.proofs.GrownTurns.{turned_grown}
use Rattle.overlap_laws.proofs.Penalty.{penalty_symmetric, penalty_pixels}
use Rattle.overlap_laws.specs.Grown.{grown_in}
use Rattle.descent_laws.specs.Claims.{ValidWeights}
use Rattle.descent_laws.proofs.Sums.{pair_mem, piece_at_most, placed_anew}
use Rattle.descent_laws.specs.Sums.{sum_bound}
use Rattle.descent_laws.proofs.Bounds.{BoxesSmall, pair_penalty_at_most, weighted_at_most}
use Rattle.model.specs.Layout.{pair_of}
use Rattle.search_laws.specs.PieceSum.{weight_between, penalty_placed, penalty_between, penalty_on}
use Rattle.search_laws.specs.Pairs.{row_start, pair_index}
use Rattle.search_laws.proofs.Pairs.{pair_at, pair_below, row_at, last_index}

-- ── what is added ──

-- never looked up: every position below the number of pairs has its pair
abbrev pub no_pair : Pair
no_pair = pair_of 0 0

-- weight × penalty of the pair at a position
unfoldable pub pair_term : Job → List ℕ → Layout → ℕ → ℕ
pair_term j ws v c = get_or ws c 0 * pair_penalty j v (get_or (pairs j.size.count) c no_pair)

-- ── weights ──

-- the higher number second
pub weight_above : (n : ℕ) (ws : List ℕ) (i k : ℕ) → i < k → weight_between n ws i k ≡ get_or ws (pair_index n i k) 0
unfolding weight_between
weight_above n ws i k l = rw (lt-ltb i k l, weight_between)

-- the lower number second
pub weight_below : (n : ℕ) (ws : List ℕ) (i k : ℕ) → k < i → weight_between n ws i k ≡ get_or ws (pair_index n k i) 0
unfolding weight_between
weight_below n ws i k l = rw (le-ltb i k (omega arith), lt-ltb k i l, weight_between)

-- no pair with itself
pub weight_self : (n : ℕ) (ws : List ℕ) (i : ℕ) → weight_between n ws i i ≡ 0
unfolding weight_between
weight_self n ws i = rw (le-ltb i i (omega arith), le-ltb i i (omega arith), weight_between)

-- the weight of two pieces does not depend on which is named first
pub weight_symmetric : (n : ℕ) (ws : List ℕ) (i k : ℕ) → weight_between n ws i k ≡ weight_between n ws k i
weight_symmetric n ws i k = by_test (ℕ_discrete i k)
  where
    by_test : Dec (i ≡ k) → weight_between n ws i k ≡ weight_between n ws k i
    by_test (yes e) = rw e
    by_test (no d) =
        ⊎_elim (λ l. weight_above n ws i k l ∙ sym (weight_below n ws k i l)) (λ l. weight_below n ws i k l ∙ sym (weight_above n ws k i l)) (apart i k d)

-- ── sums over a list of pairs, by position ──

-- what counts where a test passes
abbrev part : Bool → ℕ → ℕ
part b x = elim b [ true ↦ x | false ↦ 0 ]

-- one pair's part of a sum over the pairs that pass
abbrev term : (Pair → Bool) → (Pair → ℕ) → Pair → ℕ → ℕ
term test cost p w = part (test p) (w * cost p)

-- a pair that passes has its weight × cost
passing_part : (b : Bool) (x : ℕ) → b ≡ true → part b x ≡ x
passing_part b x e = ap (λ c. part c x) e

-- one that does not has no part
failing_part : (b : Bool) (x : ℕ) → b ≡ false → part b x ≡ 0
failing_part b x e = ap (λ c. part c x) e

-- the part of the pair at a position
abbrev term_at : (Pair → Bool) → (Pair → ℕ) → List Pair → List ℕ → ℕ → ℕ
term_at test cost ps ws c = term test cost (get_or ps c no_pair) (get_or ws c 0)

-- a sum over a list of pairs is the running sum over the positions
over_positions : (test : Pair → Bool) (cost : Pair → ℕ) (ps : List Pair) (ws : List ℕ) → length ws ≡ length ps
    → sum_over test cost ps ws ≡ sum_below (length ps) (term_at test cost ps ws)
unfolding sum_over
over_positions test cost [] ws e = refl
over_positions test cost (p ∷ ps) [] e = absurd (omega arith)
over_positions test cost (p ∷ ps) (w ∷ ws) e =
    let later : sum_over test cost ps ws ≡ sum_below (length ps) (term_at test cost ps ws) = over_positions test cost ps ws (omega arith) in
    rw later (sym (sum_first (length ps) (term_at test cost (p ∷ ps) (w ∷ ws))))

-- the weighted sum is the running sum over the positions of the pairs
pub weighted_sum_lem : (j : Job) (ws : List ℕ) (v : Layout) → length ws ≡ length (pairs j.size.count)
    → weighted_sum j ws v ≡ sum_below (length (pairs j.size.count)) (pair_term j ws v)
unfolding weighted_sum pair_term
weighted_sum_lem j ws v e = over_positions (λ p. true) (pair_penalty j v) (pairs j.size.count) ws e

-- a pair's penalty by the gap is that of its two pieces, grown
pub pair_between : (j : Job) (v : Layout) (i k : ℕ) → pair_penalty j v (pair_of i k) ≡ penalty_between j v i k
unfolding pair_penalty penalty_placed
pair_between j v i k =
    let g = j.size.gap in
    let s = turned_grown (place_of v i).turn g (j.piece i).shape in
    let t = turned_grown (place_of v k).turn g (j.piece k).shape in
    penalty_grown g (shape_in j v i) (corner_in v i) (shape_in j v k) (corner_in v k)
    ∙ sym (penalty_pixels (grown_in j v i) (corner_in v i) (grown_in j v k) (corner_in v k) _ _ s.pixels t.pixels)

-- the part of the pair (i, k)
pub pair_term_lem : (j : Job) (ws : List ℕ) (v : Layout) (i k : ℕ) → i < k → k < j.size.count
    → pair_term j ws v (pair_index j.size.count i k) ≡ get_or ws (pair_index j.size.count i k) 0 * penalty_between j v i k
unfolding pair_term
pair_term_lem j ws v i k l h =
    ap (λ q. get_or ws (pair_index j.size.count i k) 0 * pair_penalty j v q) (pair_at j.size.count i k no_pair l h)
    ∙ ap (λ c. get_or ws (pair_index j.size.count i k) 0 * c) (pair_between j v i k)

-- ── row by row ──

-- the sum over the pairs with first number a
abbrev pub row_sum : ℕ → (ℕ → ℕ) → ℕ → ℕ
row_sum n f a = sum_below (n - suc a) (λ m. f (row_start n a + m))

-- the running sum up to a row's start is the sum of the rows before it
pub row_sums : (n : ℕ) (f : ℕ → ℕ) (i : ℕ) → sum_below (row_start n i) f ≡ sum_below i (row_sum n f)
unfolding row_start
row_sums n f zero = refl
row_sums n f (suc i) =
    let earlier : sum_below (row_start n i) f ≡ sum_below i (row_sum n f) = row_sums n f i in
    omega (arith, sum_add (row_start n i) (n - suc i) f)

-- a sum over all positions is the sum of all rows
pub positions_rows : (n : ℕ) (f : ℕ → ℕ) → sum_below (length (pairs n)) f ≡ sum_below n (λ a. sum_below (n - suc a) (λ m. f (row_start n a + m)))
positions_rows n f = rw (last_index n) at (row_sums n f n)

-- ── the pairs that name a piece ──

-- the cost of the pair of i and k, in order
cost_between : (Pair → ℕ) → ℕ → ℕ → ℕ
cost_between cost i k = elim (ltb i k) [ true ↦ cost (pair_of i k) | false ↦ cost (pair_of k i) ]

-- the higher number second
cost_above : (cost : Pair → ℕ) (i k : ℕ) → i < k → cost_between cost i k ≡ cost (pair_of i k)
unfolding cost_between
cost_above cost i k l = rw (lt-ltb i k l, cost_between)

-- the lower number second
cost_below : (cost : Pair → ℕ) (i k : ℕ) → k < i → cost_between cost i k ≡ cost (pair_of k i)
unfolding cost_between
cost_below cost i k l = rw (le-ltb i k (omega arith), cost_between)

module _ (n : ℕ) (cost : Pair → ℕ) (ws : List ℕ) (i : ℕ) (there : i < n) where
  -- weight × cost of i and k
  abbrev share : ℕ → ℕ
  share k = weight_between n ws i k * cost_between cost i k

  -- the part of the pair at a position, where only those count that name i
  abbrev own : ℕ → ℕ
  own = term_at (names i) cost (pairs n) ws

  -- the part of the pair (a, k)
  own_at : (a m : ℕ) → suc a + m < n → own (row_start n a + m) ≡ term (names i) cost (pair_of a (suc a + m)) (get_or ws (pair_index n a (suc a + m)) 0)
  own_at a m l =
      let e : row_start n a + m ≡ pair_index n a (suc a + m) = omega arith in
      rw (e, pair_at n a (suc a + m) no_pair (omega arith) l)

  -- a pair that does not name i has no part
  own_none : (a k w : ℕ) → a ≢ i → k ≢ i → term (names i) cost (pair_of a k) w ≡ 0
  own_none a k w f s = failing_part _ _ (ap₂ ◌||◌ (ne_eqb a i f) (ne_eqb k i s))

  -- the pair (a, i) has its weight × cost
  own_second : (a : ℕ) → a < i → term (names i) cost (pair_of a i) (get_or ws (pair_index n a i) 0) ≡ share a
  own_second a l =
      passing_part _ _ (or_right (eqb a i) _ (eq-eqb i i refl)) ∙ sym (ap₂ ◌*◌ (weight_below n ws i a l) (cost_below cost i a l))

  -- the pair (i, k) has its weight × cost
  own_first : (k : ℕ) → i < k → term (names i) cost (pair_of i k) (get_or ws (pair_index n i k) 0) ≡ share k
  own_first k l = passing_part _ _ (or_left (eqb i i) _ (eq-eqb i i refl)) ∙ sym (ap₂ ◌*◌ (weight_above n ws i k l) (cost_above cost i k l))

  -- of the pairs with a lower first number only (a, i) counts
  row_before_lem : (a : ℕ) → a < i → row_sum n own a ≡ share a
  row_before_lem a l =
      sum_single (n - suc a) (i - suc a) (λ m. own (row_start n a + m)) (omega arith)
      (λ m b d. own_at a m (omega arith) ∙ own_none a (suc a + m) _ (λ e. omega arith) (λ e. omega arith))
      ∙ own_at a (i - suc a) (omega arith)
      ∙ (let e : suc a + (i - suc a) ≡ i = omega arith in rw e (own_second a l))

  -- all pairs with first number i count
  row_own : row_sum n own i ≡ sum_below (n - suc i) (λ m. share (suc i + m))
  row_own =
      sum_agree (n - suc i) _ _ (λ m l. own_at i m (omega arith) ∙ own_first (suc i + m) (omega arith))

  -- no pair with a higher first number counts
  row_after : (a : ℕ) → i < a → row_sum n own a ≡ 0
  row_after a l =
      sum_zero (n - suc a) _ (λ m b. own_at a m (omega arith) ∙ own_none a (suc a + m) _ (λ e. omega arith) (λ e. omega arith))

  -- the sum over the pairs that name i is the sum over all numbers, i itself with weight 0
  named_sum : length ws ≡ length (pairs n) → sum_over (names i) cost (pairs n) ws ≡ sum_below n share
  named_sum e =
      let positions : sum_over (names i) cost (pairs n) ws ≡ sum_below (length (pairs n)) own = over_positions (names i) cost (pairs n) ws e in
      let rows : sum_below (length (pairs n)) own ≡ sum_below n (row_sum n own) = positions_rows n own in
      let before : sum_below i (row_sum n own) ≡ sum_below i share = sum_agree i _ _ row_before_lem in
      let after : sum_below (n - suc i) (λ m. row_sum n own (suc i + m)) ≡ 0 = sum_zero (n - suc i) _ (λ m l. row_after (suc i + m) (omega arith)) in
      let self : share i ≡ 0 = ap (λ w. w * cost_between cost i i) (weight_self n ws i) ∙ zero-mul (cost_between cost i i) in
      let mine : row_sum n own i ≡ sum_below (n - suc i) (λ m. share (suc i + m)) = row_own in
      let left = three_parts n i (row_sum n own) there in
      let right = three_parts n i share there in
      omega arith

-- ── a piece's pair sum ──

-- the penalty of two pieces does not depend on which is named first
pub between_symmetric : (j : Job) (v : Layout) (i k : ℕ) → penalty_between j v i k ≡ penalty_between j v k i
unfolding penalty_placed
between_symmetric j v i k = penalty_symmetric _ _ _ _

-- in either order the pair has the penalty of the two pieces
between_cost : (j : Job) (v : Layout) (i k : ℕ) → i ≢ k → cost_between (pair_penalty j v) i k ≡ penalty_between j v i k
between_cost j v i k d =
    ⊎_elim
    (λ l. cost_above (pair_penalty j v) i k l ∙ pair_between j v i k)
    (λ l. cost_below (pair_penalty j v) i k l ∙ pair_between j v k i ∙ between_symmetric j v k i)
    (apart i k d)

-- the weight of a piece with itself is 0, whatever stands beside it
pub share_agree : (n : ℕ) (ws : List ℕ) (i k : ℕ) (a b : ℕ) → (i ≢ k → a ≡ b) → weight_between n ws i k * a ≡ weight_between n ws i k * b
share_agree n ws i k a b h = agree (ℕ_discrete i k)
  where
    agree : Dec (i ≡ k) → weight_between n ws i k * a ≡ weight_between n ws i k * b
    agree (yes e) = rw (← e, weight_self n ws i, zero-mul a, zero-mul b)
    agree (no d) = ap (λ c. weight_between n ws i k * c) (h d)

-- a piece placed anew and another piece
pub placed_penalty : (j : Job) (v : Layout) (i : ℕ) (p : Placement) (k : ℕ) → i < length v → i ≢ k
    → penalty_between j (set v i p) i k ≡ penalty_placed j v i p k
unfolding penalty_placed
placed_penalty j v i p k l d =
    rw (get_or-set_same v i p origin l, get_or-set_other v i k p origin (λ e. d (sym e)))

-- two other pieces
pub others_penalty : (j : Job) (v : Layout) (i : ℕ) (p : Placement) (a b : ℕ) → a ≢ i → b ≢ i
    → penalty_between j (set v i p) a b ≡ penalty_between j v a b
unfolding penalty_placed
others_penalty j v i p a b d e = rw (get_or-set_other v i a p origin d, get_or-set_other v i b p origin e)

-- a piece's pair sum is the running sum of weight × penalty over all piece numbers; its own has weight 0
pub piece_sum_lem : (j : Job) (ws : List ℕ) (v : Layout) (i : ℕ) → i < j.size.count → length ws ≡ length (pairs j.size.count)
    → piece_sum j ws v i ≡ sum_below j.size.count (λ k. weight_between j.size.count ws i k * penalty_between j v i k)
unfolding piece_sum
piece_sum_lem j ws v i l e =
    named_sum j.size.count (pair_penalty j v) ws i l e
    ∙ sum_agree j.size.count _ _ (λ k h. share_agree j.size.count ws i k _ _ (between_cost j v i k))

-- the pair sum of a piece placed anew: only its own placement is another
pub placed_sum : (j : Job) (ws : List ℕ) (v : Layout) (i : ℕ) (p : Placement) → i < j.size.count → length v ≡ j.size.count
    → length ws ≡ length (pairs j.size.count)
    → piece_sum j ws (set v i p) i ≡ sum_below j.size.count (λ k. weight_between j.size.count ws i k * penalty_placed j v i p k)
placed_sum j ws v i p l g e =
    piece_sum_lem j ws (set v i p) i l e
    ∙ sum_agree j.size.count _ _ (λ k h. share_agree j.size.count ws i k _ _ (λ d. placed_penalty j v i p k (omega arith) d))

-- a placement on a line has the turn that was asked for
turn_on : (line : Line) (t : Turn) (a : ℕ) → (on_line line t a).turn ≡ t
turn_on (InRow r) t a = refl
turn_on (InColumn c) t a = refl

-- it is the penalty of the placement there
pub penalty_on_lem : (j : Job) (v : Layout) (i : ℕ) (t : Turn) (line : Line) (a k : ℕ)
    → penalty_placed j v i (on_line line t a) k ≡ penalty_on j v i t line a k
unfolding penalty_placed penalty_on
penalty_on_lem j v i t line a k = rw (turn_on line t a)

-- the pair sum at coordinate a on a line: of all that is read only the piece's own corner depends on a
pub sum_at_lem : (j : Job) (ws : List ℕ) (v : Layout) (i : ℕ) (t : Turn) (line : Line) (a : ℕ) → i < j.size.count → length v ≡ j.size.count
    → length ws ≡ length (pairs j.size.count)
    → sum_at j ws v i t line a ≡ sum_below j.size.count (λ k. weight_between j.size.count ws i k * penalty_on j v i t line a k)
unfolding sum_at
sum_at_lem j ws v i t line a l g e =
    placed_sum j ws v i (on_line line t a) l g e
    ∙ sum_agree j.size.count _ _ (λ k h. ap (λ c. weight_between j.size.count ws i k * c) (penalty_on_lem j v i t line a k))

-- ── the weighted sum ──

-- the weighted sum is the sum over the rows of pairs, each the running sum over the second numbers
pub weighted_rows : (j : Job) (ws : List ℕ) (v : Layout) → length ws ≡ length (pairs j.size.count)
    → weighted_sum j ws v
    ≡ sum_below j.size.count (λ i. sum_below (j.size.count - suc i) (λ m. get_or ws (row_start j.size.count i + m) 0 * penalty_between j v i (suc i + m)))
unfolding pair_term
weighted_rows j ws v e =
    weighted_sum_lem j ws v e
    ∙ positions_rows j.size.count (pair_term j ws v)
    ∙ sum_agree j.size.count _ _
    (λ i l. sum_agree (j.size.count - suc i) _ _
    (λ m h.
    ap (λ q. get_or ws (row_start j.size.count i + m) 0 * pair_penalty j v q) (row_at j.size.count i m no_pair (omega arith))
    ∙ ap (λ c. get_or ws (row_start j.size.count i + m) 0 * c) (pair_between j v i (suc i + m))))

-- the weighted sum after a piece is placed anew: the old pair sum taken off, the new one added
pub moved_sum : (j : Job) (ws : List ℕ) (v : Layout) (i : ℕ) (p : Placement)
    → weighted_sum j ws (set v i p) ≡ weighted_sum j ws v - piece_sum j ws v i + piece_sum j ws (set v i p) i
moved_sum j ws v i p = omega (arith, placed_anew j ws v i p, piece_at_most j ws v i)

-- another piece's pair sum after piece i is placed anew: the pair's old part taken off, its new one added
pub moved_other_sum : (j : Job) (ws : List ℕ) (v : Layout) (i : ℕ) (p : Placement) (k : ℕ) → i < j.size.count → k < j.size.count → i ≢ k
    → length v ≡ j.size.count → length ws ≡ length (pairs j.size.count)
    → piece_sum j ws (set v i p) k
    ≡ piece_sum j ws v k - weight_between j.size.count ws i k * penalty_between j v i k + weight_between j.size.count ws i k * penalty_placed j v i p k
moved_other_sum j ws v i p k l h d e f =
    let n : ℕ = j.size.count in
    let w : ℕ = weight_between n ws i k in
    let old : ℕ → ℕ = λ m. weight_between n ws k m * penalty_between j v k m in
    let new : ℕ → ℕ = λ m. weight_between n ws k m * penalty_between j (set v i p) k m in
    let oldSum : piece_sum j ws v k ≡ sum_below n old = piece_sum_lem j ws v k h f in
    let newSum : piece_sum j ws (set v i p) k ≡ sum_below n new = piece_sum_lem j ws (set v i p) k h f in
    let oldPart : old i ≡ w * penalty_between j v i k = ap₂ ◌*◌ (weight_symmetric n ws k i) (between_symmetric j v k i) in
    let newPart : new i ≡ w * penalty_placed j v i p k =
    ap₂ ◌*◌ (weight_symmetric n ws k i) (between_symmetric j (set v i p) k i ∙ placed_penalty j v i p k (omega arith) d) in
    let same : (m : ℕ) → m < n → m ≢ i → new m ≡ old m = λ m b c. ap (λ x. weight_between n ws k m * x) (others_penalty j v i p k m (λ z. d (sym z)) c) in
    let changed : sum_below n new + old i ≡ sum_below n old + new i = sum_changed n i new old l same in
    let part : old i ≤ sum_below n old = term_at_most n i old l in
    omega arith

-- ── how large ──

-- every weight is at most the largest
list_weight_bound : (ws : List ℕ) (W c : ℕ) → ((k : ℕ) → k < length ws → get_or ws k 0 ≤ W) → get_or ws c 0 ≤ W
list_weight_bound ws W c h = bound (dec_lt c (length ws))
  where
    bound : Dec (c < length ws) → get_or ws c 0 ≤ W
    bound (yes l) = h c l
    bound (no g) = rw (get_or-eq_default ws 0 {n = c} (omega arith)) (omega arith)

-- so is the weight of two pieces
pub weight_bound_lem : (j : Job) (ws : List ℕ) (i k : ℕ) → ValidWeights j ws → weight_between j.size.count ws i k ≤ weight_bound
weight_bound_lem j ws i k w = bound (ℕ_discrete i k)
  where
    each : (c : ℕ) → get_or ws c 0 ≤ weight_bound
    each c = list_weight_bound ws weight_bound c (λ k l. (w.in_range k l).1)

    bound : Dec (i ≡ k) → weight_between j.size.count ws i k ≤ weight_bound
    bound (yes e) = rw (← e, weight_self j.size.count ws i) (omega arith)
    bound (no d) =
        ⊎_elim (λ l. rw (weight_above j.size.count ws i k l) (each _)) (λ l. rw (weight_below j.size.count ws i k l) (each _)) (apart i k d)

-- and at least 1 for two pieces
pub weight_positive : (j : Job) (ws : List ℕ) (i k : ℕ) → ValidWeights j ws → i < j.size.count → k < j.size.count → i ≢ k
    → 1 ≤ weight_between j.size.count ws i k
weight_positive j ws i k w l h d =
    ⊎_elim (λ g. rw (weight_above j.size.count ws i k g) (each i k g h)) (λ g. rw (weight_below j.size.count ws i k g) (each k i g l)) (apart i k d)
  where
    each : (a b : ℕ) → a < b → b < j.size.count → 1 ≤ get_or ws (pair_index j.size.count a b) 0
    each a b g x = (w.in_range (pair_index j.size.count a b) (let e = w.one_per_pair in let z = pair_below j.size.count a b g x in omega arith)).0

-- the penalty of two pieces is at most 255
pub between_bound : (j : Job) → BoxesSmall j → (v : Layout) (i k : ℕ) → i < j.size.count → k < j.size.count → i ≢ k → penalty_between j v i k ≤ side_bound
between_bound j small v i k l h d =
    ⊎_elim
    (λ g. rw (← pair_between j v i k) (pair_penalty_at_most j small v (pair_of i k) (pair_mem j.size.count i k g h)))
    (λ g. rw (between_symmetric j v i k, ← pair_between j v k i) (pair_penalty_at_most j small v (pair_of k i) (pair_mem j.size.count k i g l)))
    (apart i k d)

-- a piece's pair sum, and every running sum of it, is at most 63 × 65,535 × 255, which is below 2³⁰
abbrev pub piece_sum_bound : ℕ
piece_sum_bound = 63 * (weight_bound * side_bound)

-- any running sum of weight × penalty over the other pieces
pub running_bound : (j : Job) (ws : List ℕ) (i m : ℕ) (pen : ℕ → ℕ) → j.size.count ≤ piece_bound → ValidWeights j ws → i < j.size.count → m ≤ j.size.count
    → ((k : ℕ) → k < j.size.count → i ≢ k → pen k ≤ side_bound)
    → sum_below m (λ k. weight_between j.size.count ws i k * pen k) ≤ piece_sum_bound
running_bound j ws i m pen few w l h small =
    let n : ℕ = j.size.count in
    let f : ℕ → ℕ = λ k. weight_between n ws i k * pen k in
    let term : (k : ℕ) → k < n → i ≢ k → f k ≤ weight_bound * side_bound = λ k b d. mul-le-mul (weight_bound_lem j ws i k w) (small k b d) in
    let before : sum_below i f ≤ i * (weight_bound * side_bound) = sum_bound_lem i _ f (λ k b. term k (omega arith) (λ e. omega arith)) in
    let after : sum_below (n - suc i) (λ q. f (suc i + q)) ≤ (n - suc i) * (weight_bound * side_bound) =
    sum_bound_lem (n - suc i) _ _ (λ q b. term (suc i + q) (omega arith) (λ e. omega arith)) in
    let self : f i ≡ 0 = ap (λ a. a * pen i) (weight_self n ws i) ∙ zero-mul (pen i) in
    let all = three_parts n i f l in
    let part = sum_grows m n f h in
    omega arith

-- it is 1,052,819,775
pub piece_sum_number : piece_sum_bound ≡ 1052819775
piece_sum_number = refl

-- any running sum over the positions of the pairs is at most the largest weighted sum
pub running_total_bound : (j : Job) (ws : List ℕ) (v : Layout) (c : ℕ) → j.size.count ≤ piece_bound → BoxesSmall j → ValidWeights j ws
    → c ≤ length (pairs j.size.count) → sum_below c (pair_term j ws v) ≤ sum_bound
running_total_bound j ws v c few small w l =
    let all : weighted_sum j ws v ≡ sum_below (length (pairs j.size.count)) (pair_term j ws v) = weighted_sum_lem j ws v w.one_per_pair in
    let part = sum_grows c (length (pairs j.size.count)) (pair_term j ws v) l in
    let most : weighted_sum j ws v ≤ sum_bound = weighted_at_most j ws v few small w in
    omega arith
