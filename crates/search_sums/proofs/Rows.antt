-- Running sums over the rows of the table of penalties and over the weights beside it. Assumes nothing.
use Rattle.list_laws.proofs.Kit.{◌∙◌, ◌≡◌, ap, subst, sym, List, ◌*◌, ◌+◌, ◌-◌, ◌/◌, ◌<◌, ◌≤◌, suc, ℕ, add-one, mul-le-mul, arith, get_or, length}
use Rattle.list_laws.proofs.Kit.{replicate, take}
use Rattle.model.specs.Bounded.{sum_below}
use Rattle.model.specs.Layout.{Job, Layout, pairs, piece_sum, weighted_sum, unit_weights}
use Rattle.list_laws.proofs.Sums.{sum_agree}
use Rattle.list_laws.proofs.Lists.{take_repeat}
use Rattle.descent_laws.proofs.Bounds.{pairs_at_most}
use Rattle.search_laws.specs.Pairs.{row_start, row_part}
use Rattle.search_laws.proofs.Pairs.{row_start_twice}
use Rattle.search_laws.proofs.Rows.{part_there}
use Rattle.search_laws.specs.PieceSum.{weight_between}
use Rattle.search_laws.proofs.PieceSum.{weighted_rows}
use Rattle.search_laws.specs.Table.{entry, PenaltyTable}
use Rattle.search_laws.proofs.Table.{table_piece_sum}
use Rattle.search_sums.specs.Table.{Weighed, table_cost}

-- ── positions ──

-- a row's start without recursion
pub record RowClosed (n i : ℕ) : Type 0 where
  pub fits : i * (i + 1) / 2 ≤ n * i
  pub start : row_start n i ≡ n * i - i * (i + 1) / 2

pub row_closed : (n i : ℕ) → i ≤ n → RowClosed n i
row_closed n i h =
    let e : 2 * row_start n i + i * suc i ≡ 2 * (n * i) = row_start_twice n i h in
    let f : 2 * row_start n i + i * (i + 1) ≡ 2 * (n * i) = rw add-one e in
    record { fits = omega arith; start = omega arith }

-- two numbers of pieces, multiplied
pub few_times : (a b : ℕ) → a ≤ 64 → b ≤ 64 → a * b ≤ 4096
few_times a b h g = let m : a * b ≤ 64 * 64 = mul-le-mul h g in omega arith

-- ── a piece's pair sum ──

-- the row's term of piece k
abbrev pub row_term : ℕ → List ℕ → List ℕ → ℕ → ℕ → ℕ
row_term n T ws i k = weight_between n ws i k * get_or T (entry i k) 0

-- all terms
pub row_all : (j : Job) (v : Layout) (n : ℕ) (T ws : List ℕ) (i : ℕ) → j.size.count ≡ n → PenaltyTable j v n T → i < n → length ws ≡ length (pairs n)
    → piece_sum j ws v i ≡ sum_below n (row_term n T ws i)
row_all j v n T ws i e =
    subst (λ n. PenaltyTable j v n T → i < n → length ws ≡ length (pairs n) → piece_sum j ws v i ≡ sum_below n (row_term n T ws i)) e
    (λ t l w. table_piece_sum j ws v T t i l w)

-- ── the weighted sum ──

-- a pair (i, k) of the table, and the position of its weight
pub record PairPlace (n i k at : ℕ) (T ws : List ℕ) : Type 0 where
  pub few : n ≤ 64
  pub size : length T ≡ 4096
  pub above : i < k
  pub below : k < n
  pub there : at < length ws
  pub most : length ws ≤ 2016

-- along row i
pub row_place : (n i k at from : ℕ) (T ws : List ℕ) → Weighed n T ws → from ≡ row_start n i → i + 1 ≤ k → k < n → at + (i + 1) ≡ from + k
    → PairPlace n i k at T ws
row_place n i k at from T ws w s h l e =
    let few = w.few in
    let one = w.one_per_pair in
    let there = part_there n i k at h l (e ∙ ap (λ f. f + k) s) in
    let most = pairs_at_most n few in
    record { few = few; size = w.size; above = omega arith; below = l; there = omega arith; most = omega arith }

-- the weighted sum is the sum of all rows' parts
pub all_parts : (j : Job) (v : Layout) (n : ℕ) (T ws : List ℕ) → j.size.count ≡ n → PenaltyTable j v n T → length ws ≡ length (pairs n)
    → weighted_sum j ws v ≡ sum_below n (λ i. row_part n (table_cost T i) ws i (row_start n i))
all_parts j v n T ws e =
    subst (λ n. PenaltyTable j v n T → length ws ≡ length (pairs n) → weighted_sum j ws v ≡ sum_below n (λ i. row_part n (table_cost T i) ws i (row_start n i))) e
    (λ t w.
    weighted_rows j ws v w
    ∙ sum_agree j.size.count _ _
    (λ i l.
    sum_agree (j.size.count - suc i) _ _
    (λ m b. ap (λ p. get_or ws (row_start j.size.count i + m) 0 * p) (sym (t.holds i (suc i + m) l (omega arith) (λ f. omega arith))))))

-- ── weights 1 ──

-- the first so many of many weights 1
pub ones_taken : (n count : ℕ) (ones : List ℕ) → n ≤ 64 → ones ≡ replicate 2016 1 → count ≡ length (pairs n) → take count ones ≡ unit_weights n
unfolding unit_weights
ones_taken n count ones few e c =
    let most = pairs_at_most n few in
    rw (e, c) (take_repeat (length (pairs n)) 2016 1 (omega arith))
