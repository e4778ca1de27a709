-- Document 01, 'Line search': which pieces a piece conflicts with at a place of its line, and what that says of the sum there. A place at which
-- it conflicts with no piece has sum 0, and the smallest such place is the answer; at any other place the weights of the pieces that
-- it conflicts with are a lower bound of the sum, so the penalties are needed only where that is below the limit. Assumes nothing.
use Rattle.list_laws.proofs.Kit.{◌∙◌, ◌≡◌, refl, Bool, false, true, ◌≢◌, some, List, ◌*◌, ◌+◌, ◌<◌, ◌≤◌, ℕ, mul-le-mul, mul-le-mul_left, mul-zero, arith}
use Rattle.list_laws.proofs.Kit.{length}
use Rattle.model.specs.Bounded.{sum_below, one_if}
use Rattle.model.specs.Piece.{Point, Shape, along, extent, other, corner, line_direction, held, on_line}
use Rattle.model.specs.Overlap.{share}
use Rattle.model.specs.Layout.{Job, Layout, corner_in}
use Rattle.model.specs.Search.{sum_at}
use Rattle.model.specs.declared.Turn.{Turn}
use Rattle.model.specs.declared.Direction.{Direction}
use Rattle.model.specs.declared.Line.{Line}
use Rattle.model.specs.declared.Line.TheVariants.{InRow, InColumn}
use Rattle.list_laws.proofs.Sums.{sum_zero, sum_le, term_at_most}
use Rattle.list_laws.proofs.Tests.{clash}
use Rattle.overlap_laws.specs.Overlap.{SharedPixel}
use Rattle.overlap_laws.specs.Grown.{grown_piece, grown_in}
use Rattle.overlap_laws.proofs.Share.{share_witness, shared_along, pixel_along}
use Rattle.overlap_laws.proofs.Penalty.{zero_penalty, penalty_zero}
use Rattle.descent_laws.specs.Claims.{ValidWeights}
use Rattle.search_laws.specs.PieceSum.{weight_between, penalty_on}
use Rattle.search_laws.proofs.PieceSum.{share_agree, weight_positive, sum_at_lem}
use Rattle.search_laws.specs.BoundedSearch.{below_bound, best_at}
use Rattle.search_laws.proofs.BoundedSearch.{zero_answer}

-- piece i in the turn at coordinate a on the line conflicts with piece k as the layout places it: both grown, they share a pixel
unfoldable pub meets : Job → Layout → ℕ → Turn → Line → ℕ → ℕ → Bool
meets j v i t line a k = share (grown_piece j i t) (corner (on_line line t a)) (grown_in j v k) (corner_in v k)

-- where they share none the penalty is 0
pub apart_penalty : (j : Job) (v : Layout) (i : ℕ) (t : Turn) (line : Line) (a k : ℕ) → meets j v i t line a k ≡ false → penalty_on j v i t line a k ≡ 0
unfolding meets penalty_on
apart_penalty j v i t line a k e = penalty_zero _ _ _ _ e

-- where they share one it is at least 1
pub meeting_penalty : (j : Job) (v : Layout) (i : ℕ) (t : Turn) (line : Line) (a k : ℕ) → meets j v i t line a k ≡ true → 1 ≤ penalty_on j v i t line a k
unfolding meets penalty_on
meeting_penalty j v i t line a k e =
    let n : penalty_on j v i t line a k ≢ 0 = λ z. clash e (zero_penalty _ _ _ _ z) in
    omega arith

-- the test for a conflict, as a number, is at most the penalty
test_penalty : (j : Job) (v : Layout) (i : ℕ) (t : Turn) (line : Line) (a k : ℕ) (b : Bool) → meets j v i t line a k ≡ b
    → one_if b ≤ penalty_on j v i t line a k
test_penalty j v i t line a k true e = meeting_penalty j v i t line a k e
test_penalty j v i t line a k false e = omega arith

module _ (j : Job) (ws : List ℕ) (v : Layout) (i : ℕ) (t : Turn) (line : Line) (there : i < j.size.count) (onePlace : length v ≡ j.size.count)
    (weights : ValidWeights j ws)
  where
    -- the weight × penalty of piece k at coordinate a
    abbrev part : ℕ → ℕ → ℕ
    part a k = weight_between j.size.count ws i k * penalty_on j v i t line a k

    -- the sum at a place, by its parts
    parts : (a : ℕ) → sum_at j ws v i t line a ≡ sum_below j.size.count (part a)
    parts a = sum_at_lem j ws v i t line a there onePlace weights.one_per_pair

    -- a place at which no other piece is met has sum 0
    pub unmet_sum : (a : ℕ) → ((k : ℕ) → k < j.size.count → i ≢ k → meets j v i t line a k ≡ false) → sum_at j ws v i t line a ≡ 0
    unmet_sum a none =
        parts a
        ∙ sum_zero j.size.count (part a)
        (λ k l. share_agree j.size.count ws i k _ 0 (λ d. apart_penalty j v i t line a k (none k l d)) ∙ mul-zero (weight_between j.size.count ws i k))

    -- a place at which one is met has not
    pub met_sum : (a k : ℕ) → k < j.size.count → i ≢ k → meets j v i t line a k ≡ true → 0 < sum_at j ws v i t line a
    met_sum a k l d e =
        let w : 1 * 1 ≤ part a k = mul-le-mul (weight_positive j ws i k weights there l d) (meeting_penalty j v i t line a k e) in
        let m : part a k ≤ sum_below j.size.count (part a) = term_at_most j.size.count k (part a) l in
        rw (parts a) (omega arith)

    -- the weights of the pieces that are met are at most the sum
    pub met_weights : (a : ℕ)
        → sum_below j.size.count (λ k. weight_between j.size.count ws i k * one_if (meets j v i t line a k)) ≤ sum_at j ws v i t line a
    met_weights a =
        rw (parts a)
        (sum_le j.size.count _ (part a) (λ k l. mul-le-mul_left (weight_between j.size.count ws i k) (test_penalty j v i t line a k _ refl)))

    -- the smallest place at which no other piece is met is the answer of a search with a bound above 0
    pub unmet_answer : (n B a : ℕ) → 0 < B → a < n → ((k : ℕ) → k < j.size.count → i ≢ k → meets j v i t line a k ≡ false)
        → ((c : ℕ) → c < a → 0 < sum_at j ws v i t line c) → below_bound (sum_at j ws v i t line) n B ≡ some (best_at 0 a)
    unmet_answer n B a positive l none before = zero_answer (sum_at j ws v i t line) n a B positive l (unmet_sum a none) before

-- ── boxes ──

-- placed shapes that share a pixel have boxes that meet along each direction
pub share_boxes : (d : Direction) (s : Shape) (u : Point) (t : Shape) (v : Point) → share s u t v ≡ true
    → (along d u < along d v + extent d t) × (along d v < along d u + extent d s)
share_boxes d s u t v e =
    let w : SharedPixel s u t v = share_witness s u t v e in
    let same = shared_along d w in
    let first = pixel_along d s w.p w.of_first in
    let second = pixel_along d t w.q w.of_second in
    (omega arith, omega arith)

-- a placement on a line has the coordinate that was asked for
along_line : (line : Line) (t : Turn) (a : ℕ) → along (line_direction line) (corner (on_line line t a)) ≡ a
along_line (InRow r) t a = refl
along_line (InColumn c) t a = refl

-- and lies in the held row or column
across_line : (line : Line) (t : Turn) (a : ℕ) → along (other (line_direction line)) (corner (on_line line t a)) ≡ held line
across_line (InRow r) t a = refl
across_line (InColumn c) t a = refl

-- the places of a line at which piece k is met lie within its box's columns or rows and the moving piece's before them
pub meets_along : (j : Job) (v : Layout) (i : ℕ) (t : Turn) (line : Line) (a k : ℕ) → meets j v i t line a k ≡ true
    → (a < along (line_direction line) (corner_in v k) + extent (line_direction line) (grown_in j v k))
    × (along (line_direction line) (corner_in v k) < a + extent (line_direction line) (grown_piece j i t))
unfolding meets
meets_along j v i t line a k e =
    rw (along_line line t a) at (share_boxes (line_direction line) (grown_piece j i t) (corner (on_line line t a)) (grown_in j v k) (corner_in v k) e)

-- piece k is met only where the two boxes meet across the line
pub meets_across : (j : Job) (v : Layout) (i : ℕ) (t : Turn) (line : Line) (a k : ℕ) → meets j v i t line a k ≡ true
    → (held line < along (other (line_direction line)) (corner_in v k) + extent (other (line_direction line)) (grown_in j v k))
    × (along (other (line_direction line)) (corner_in v k) < held line + extent (other (line_direction line)) (grown_piece j i t))
unfolding meets
meets_across j v i t line a k e =
    rw (across_line line t a)
    at (share_boxes (other (line_direction line)) (grown_piece j i t) (corner (on_line line t a)) (grown_in j v k) (corner_in v k) e)
