-- Document 01's order of pairs, (0,1), (0,2) and so on, by position: the pairs with first number i begin at `row_start n i`, and (i, k) has
-- position row_start n i + (k - i - 1). A loop that takes i ascending and k ascending from i + 1 on visits the positions 0, 1, 2, ..,
-- so a counter that it raises by 1 is the position of the pair at hand. Assumes nothing.
use Rattle.list_laws.proofs.Kit.{◌∙◌, ◌≡◌, ap, refl, sym, Bool, false, true, none, some, List, [], ◌∷◌, ◌*◌, ◌+◌, ◌-◌, ◌<◌, ◌≤◌, suc, zero, ℕ, add-one}
use Rattle.list_laws.proofs.Kit.{mul-suc, suc-mul, arith, get_or-append, drop, get_or, length, length-append, drop_at, drop-drop, get_or-drop}
use Rattle.model.specs.Layout.{Pair, pair_of, pairs_with, pairs_from, pairs, first_pair}
use Rattle.model.specs.Lent.{piece_bound}
use Rattle.descent_laws.proofs.Bounds.{pairs_at_most}
use Rattle.search_laws.specs.Pairs.{row_start, pair_index}

-- where the next row begins
pub row_next : (n i : ℕ) → row_start n (i + 1) ≡ row_start n i + (n - (i + 1))
unfolding row_start
row_next n i = rw (add-one i)

-- ── the list of pairs ──

-- there are `left` pairs with first number i
with_length : (i k left : ℕ) → length (pairs_with i k left) ≡ left
unfolding pairs_with
with_length i k zero = refl
with_length i k (suc left) = ap suc (with_length i (suc k) left)

-- the m-th of them has second number k + m
with_at : (i k left m : ℕ) (d : Pair) → m < left → get_or (pairs_with i k left) m d ≡ pair_of i (k + m)
unfolding pairs_with
with_at i k zero m d l = absurd (omega arith)
with_at i k (suc left) zero d l = ap (pair_of i) (omega arith)
with_at i k (suc left) (suc m) d l = with_at i (suc k) left m d (omega arith) ∙ ap (pair_of i) (omega arith)

-- what is left after the pairs with first number i
from_rest : (i left : ℕ) → drop left (pairs_from i (suc left)) ≡ pairs_from (suc i) left
unfolding pairs_from
from_rest i left = drop_at (pairs_with i (suc i) left) (pairs_from (suc i) left) left (with_length i (suc i) left)

-- from `row_start n i` on come the pairs with first numbers from i on
pub rest_pairs : (n i : ℕ) → i ≤ n → drop (row_start n i) (pairs n) ≡ pairs_from i (n - i)
unfolding row_start
rest_pairs n zero l = ap (pairs_from 0) (omega arith)
rest_pairs n (suc i) l =
    let e : n - i ≡ suc (n - suc i) = omega arith in
    let earlier : drop (row_start n i) (pairs n) ≡ pairs_from i (suc (n - suc i)) = rw e at (rest_pairs n i (omega arith)) in
    rw (← drop-drop (n - suc i) (row_start n i) (pairs n), earlier) (from_rest i (n - suc i))

-- the pairs from i on are those that have first number i and those after them
from_length : (i left : ℕ) → length (pairs_from i (suc left)) ≡ left + length (pairs_from (suc i) left)
unfolding pairs_from
from_length i left =
    let e = length-append (pairs_with i (suc i) left) (pairs_from (suc i) left) in
    let w = with_length i (suc i) left in
    omega arith

-- the m-th pair from i on, m small, has first number i and second number i + 1 + m
from_at : (i left m : ℕ) (d : Pair) → m < left → get_or (pairs_from i (suc left)) m d ≡ pair_of i (suc i + m)
unfolding pairs_from
from_at i left m d l =
    let w = with_length i (suc i) left in
    get_or-append (pairs_with i (suc i) left) (pairs_from (suc i) left) d m (omega arith) ∙ with_at i (suc i) left m d l

-- ── positions ──

-- the m-th pair of the row that begins at `row_start n i`
pub row_at : (n i m : ℕ) (d : Pair) → suc i + m < n → get_or (pairs n) (row_start n i + m) d ≡ pair_of i (suc i + m)
row_at n i m d l =
    let e : n - i ≡ suc (n - suc i) = omega arith in
    let rest : drop (row_start n i) (pairs n) ≡ pairs_from i (suc (n - suc i)) = rw e at (rest_pairs n i (omega arith)) in
    sym (get_or-drop (row_start n i) (pairs n) m d) ∙ ap (λ l'. get_or l' m d) rest ∙ from_at i (n - suc i) m d (omega arith)

-- at the position of (i, k) stands the pair (i, k)
pub pair_at : (n i k : ℕ) (d : Pair) → i < k → k < n → get_or (pairs n) (pair_index n i k) d ≡ pair_of i k
pair_at n i k d l h = row_at n i (k - suc i) d (omega arith) ∙ ap (pair_of i) (omega arith)

-- the pairs before the row and those from it on are all pairs
rows_length : (n i : ℕ) → i ≤ n → row_start n i + length (pairs_from i (n - i)) ≡ length (pairs n)
unfolding row_start
rows_length n zero l = let e : n - 0 ≡ n = omega arith in rw e (omega arith)
rows_length n (suc i) l =
    let e : n - i ≡ suc (n - suc i) = omega arith in
    let earlier : row_start n i + length (pairs_from i (suc (n - suc i))) ≡ length (pairs n) = rw e at (rows_length n i (omega arith)) in
    omega (arith, from_length i (n - suc i))

-- a row ends within the pairs
pub row_below : (n i : ℕ) → i ≤ n → row_start n i ≤ length (pairs n)
row_below n i l = omega (arith, rows_length n i l)

-- the position of (i, k) is one of the pairs'
pub pair_below : (n i k : ℕ) → i < k → k < n → pair_index n i k < length (pairs n)
unfolding row_start
pair_below n i k l h = let b = row_below n (suc i) (omega arith) in omega arith

-- ── the walk ──

-- the first pair has position 0
pub first_index : (n : ℕ) → pair_index n 0 1 ≡ 0
unfolding row_start
first_index n = refl

-- a row's first pair has the row's start
pub row_index : (n i : ℕ) → pair_index n i (i + 1) ≡ row_start n i
row_index n i = omega arith

-- the next pair of the row has the next position
pub next_index : (n i k : ℕ) → i < k → pair_index n i (k + 1) ≡ pair_index n i k + 1
next_index n i k l = omega arith

-- the row ends where the next one begins
pub row_end : (n i : ℕ) → i < n → pair_index n i n ≡ row_start n (i + 1)
unfolding row_start
row_end n i l = rw (add-one i)

-- the last row ends with the pairs
pub last_index : (n : ℕ) → row_start n n ≡ length (pairs n)
unfolding pairs_from
last_index n =
    let e : n - n ≡ 0 = omega arith in
    let all : row_start n n + length (pairs_from n 0) ≡ length (pairs n) = rw e at (rows_length n n (omega arith)) in
    omega arith

-- down a column: the pairs (0, i), (1, i), .. with second number i begin at i - 1
pub column_first : (n i : ℕ) → pair_index n 0 i ≡ i - 1
unfolding row_start
column_first n i = omega arith

-- from (k, i) to (k + 1, i)
pub column_next : (n i k : ℕ) → k + 1 < i → i < n → pair_index n (k + 1) i ≡ pair_index n k i + (n - (k + 2))
unfolding row_start
column_next n i k l h = rw (add-one k) (omega arith)

-- (i, i + 1) is the last down the column of i + 1; the row of i + 1 begins one position further than the next step down would lead
pub column_last : (n i : ℕ) → i + 1 < n → row_start n (i + 1) ≡ pair_index n i (i + 1) + (n - (i + 2)) + 1
unfolding row_start
column_last n i h = rw (add-one i) (omega arith)

-- every position of at most 64 pieces is below 2,016
pub index_bound : (n i k : ℕ) → n ≤ piece_bound → i < k → k < n → pair_index n i k < 2016
index_bound n i k few l h = let b = pair_below n i k l h in let m = pairs_at_most n few in omega arith

-- twice the row's start, without recursion
pub row_start_twice : (n i : ℕ) → i ≤ n → 2 * row_start n i + i * suc i ≡ 2 * (n * i)
unfolding row_start
row_start_twice n zero l = omega arith
row_start_twice n (suc i) l =
    let earlier : 2 * row_start n i + i * suc i ≡ 2 * (n * i) = row_start_twice n i (omega arith) in
    let right : n * suc i ≡ n * i + n = mul-suc n i in
    let left : suc i * suc (suc i) ≡ i * suc i + i + suc (suc i) = suc-mul i (suc (suc i)) ∙ ap (λ a. a + suc (suc i)) (mul-suc i (suc i)) in
    omega arith

-- ── the first pair that passes ──

-- a pair that passes, where none before it does, is the first
pub first_pair_found : (test : Pair → Bool) (ps : List Pair) (d : Pair) (c : ℕ) → c < length ps
    → ((m : ℕ) → m < c → test (get_or ps m d) ≡ false) → test (get_or ps c d) ≡ true → first_pair test ps ≡ some (get_or ps c d)
unfolding first_pair
first_pair_found test [] d c l before here = absurd (omega arith)
first_pair_found test (p ∷ ps) d zero l before here = rw (here, first_pair)
first_pair_found test (p ∷ ps) d (suc c) l before here =
    rw (before 0 (omega arith), first_pair) (first_pair_found test ps d c (omega arith) (λ m b. before (suc m) (omega arith)) here)

-- where none passes there is none
pub first_pair_none : (test : Pair → Bool) (ps : List Pair) (d : Pair) → ((m : ℕ) → m < length ps → test (get_or ps m d) ≡ false) → first_pair test ps ≡ none
unfolding first_pair
first_pair_none test [] d None-passes = refl
first_pair_none test (p ∷ ps) d None-passes =
    rw (None-passes 0 (omega arith), first_pair) (first_pair_none test ps d (λ m b. None-passes (suc m) (omega arith)))
