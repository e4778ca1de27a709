-- Running sums over the pairs (i, i + 1), (i, i + 2), .. of a row, whatever their second pieces count. Assumes nothing.
use Rattle.list_laws.proofs.Kit.{◌∙◌, ◌≡◌, ap, ap₂, sym, List, ◌*◌, ◌+◌, ◌-◌, ◌<◌, ◌≤◌, suc, ℕ, mul-le-mul, arith, get_or, length}
use Rattle.model.specs.Bounded.{sum_below}
use Rattle.model.specs.Layout.{pairs}
use Rattle.list_laws.proofs.Sums.{sum_step}
use Rattle.search_laws.specs.Pairs.{row_start, pair_index, part_term, row_part}
use Rattle.search_laws.proofs.Pairs.{pair_below}

-- a weight times a penalty
pub term_small : (w p : ℕ) → w < 4294967296 → p < 256 → w * p ≤ 1099511627776
term_small w p h g = let m : w * p ≤ 4294967296 * 256 = (let a : w ≤ 4294967296 = omega arith in let b : p ≤ 256 = omega arith in mul-le-mul a b) in omega arith

-- one more pair of the row
pub part_more : (cost : ℕ → ℕ) (ws : List ℕ) (i from k at sum : ℕ) → i + 1 ≤ k → at + (i + 1) ≡ from + k
    → sum ≡ sum_below (k - (i + 1)) (part_term cost ws i from)
    → sum + get_or ws at 0 * cost k ≡ sum_below (k + 1 - (i + 1)) (part_term cost ws i from)
part_more cost ws i from k at sum h a e =
    let m = k - (i + 1) in
    let p : from + m ≡ at = omega arith in
    let q : suc i + m ≡ k = omega arith in
    let r : k + 1 - (i + 1) ≡ m + 1 = omega arith in
    let s : part_term cost ws i from m ≡ get_or ws at 0 * cost k = rw (p, q) in
    rw r (ap₂ ◌+◌ e (sym s) ∙ sym (sum_step m (part_term cost ws i from)))

-- the whole row
pub part_all : (n : ℕ) (cost : ℕ → ℕ) (ws : List ℕ) (i from k sum : ℕ) → k ≡ n → sum ≡ sum_below (k - (i + 1)) (part_term cost ws i from)
    → sum ≡ row_part n cost ws i from
part_all n cost ws i from k sum h e = let f : k - (i + 1) ≡ n - suc i = omega arith in rw f at e

-- the pair of row i at `at` has a weight
pub part_there : (n i k at : ℕ) → i + 1 ≤ k → k < n → at + (i + 1) ≡ row_start n i + k → at < length (pairs n)
part_there n i k at h l e =
    let p = pair_below n i k (omega arith) l in
    let q : pair_index n i k ≡ at = omega arith in
    rw q at p

-- one more row of pairs
pub parts_more : (n : ℕ) (cost : ℕ → ℕ → ℕ) (ws : List ℕ) (i from sum part : ℕ) → from ≡ row_start n i
    → sum ≡ sum_below i (λ m. row_part n (cost m) ws m (row_start n m)) → part ≡ row_part n (cost i) ws i from
    → sum + part ≡ sum_below (i + 1) (λ m. row_part n (cost m) ws m (row_start n m))
parts_more n cost ws i from sum part f e p =
    ap₂ ◌+◌ e (p ∙ ap (row_part n (cost i) ws i) f) ∙ sym (sum_step i (λ m. row_part n (cost m) ws m (row_start n m)))
