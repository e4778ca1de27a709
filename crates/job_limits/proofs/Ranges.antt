-- What numbers in range say of their bounds. Assumes nothing.
use Rattle.list_laws.proofs.Kit.{◌≡◌, true, ◌*◌, ◌≤◌, mul-le-mul}
use Rattle.model.specs.Lent.{piece_bound, row_bound, column_bound, numbers_in_range}
use Rattle.model.specs.declared.JobSize.{JobSize}
use Rattle.job_laws.proofs.Ranges.{up_to_lem, number_facts}

-- at most 64 pieces in range
pub few_count : (size : JobSize) → numbers_in_range size ≡ true → size.count ≤ piece_bound
few_count size e = up_to_lem piece_bound size.count (number_facts size e).pieces

-- W × L of numbers in range
pub sheet_small : (size : JobSize) → numbers_in_range size ≡ true → size.rows * size.columns ≤ 512 * 4096
sheet_small size e =
    let f = number_facts size e in
    mul-le-mul (up_to_lem row_bound size.rows f.rows) (up_to_lem column_bound size.columns f.columns)
