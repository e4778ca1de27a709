-- The numbers of pairs in their order (0,1), (0,2) and so on, and sums over those with one first number. Assumes nothing.
use Rattle.std.specs.Prelude.{List, ℕ, zero, suc, ◌+◌, ◌*◌, ◌-◌, get_or}
use Rattle.model.specs.Bounded.{sum_below}

-- how many pairs have a first number below i: where the pairs with first number i begin
unfoldable pub row_start : ℕ → ℕ → ℕ
row_start n zero = 0
row_start n (suc i) = row_start n i + (n - suc i)

-- the position of the pair (i, k) among the pairs of n pieces
abbrev pub pair_index : ℕ → ℕ → ℕ → ℕ
pair_index n i k = row_start n i + (k - suc i)

-- what the m-th of the pairs (i, i + 1), (i, i + 2), .. counts, by what its second piece costs, where their weights begin at `from`
abbrev pub part_term : (ℕ → ℕ) → List ℕ → ℕ → ℕ → ℕ → ℕ
part_term cost ws i from m = get_or ws (from + m) 0 * cost (suc i + m)

-- what those of n pieces count together
abbrev pub row_part : ℕ → (ℕ → ℕ) → List ℕ → ℕ → ℕ → ℕ
row_part n cost ws i from = sum_below (n - suc i) (part_term cost ws i from)
