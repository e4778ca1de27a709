-- Where a piece's pixels begin and end in the store: the begins are sums of areas, which grow. Assumes nothing.
use Rattle.list_laws.proofs.Kit.{◌≡◌, List, ◌+◌, ◌-◌, ◌<◌, ◌≤◌, suc, zero, ℕ, add-suc, add-zero, arith}
use Rattle.model.specs.Lent.{entry_area, pixel_start}

-- later pieces begin no earlier
pub start_grows : (table : List (List ℕ)) (i k : ℕ) → pixel_start table i ≤ pixel_start table (i + k)
unfolding pixel_start
start_grows table i zero = rw add-zero (omega arith)
start_grows table i (suc k) = let h = start_grows table i k in rw add-suc (omega arith)

-- a piece's pixels end no later than those of all pieces
pub start_end : (table : List (List ℕ)) (i n : ℕ) → i < n → pixel_start table i + entry_area table i ≤ pixel_start table n
unfolding pixel_start
start_end table i n h =
    let e : suc i + (n - suc i) ≡ n = omega arith in
    rw e at (start_grows table (suc i) (n - suc i))
