-- A job has at most 2,016 pairs, so there is room for a copy of the weights.
use Rattle.list_laws.proofs.Kit.{◌≡◌, sym, ◌≤◌, ℕ, arith, length, replicate, take}
use Rattle.list_laws.proofs.Lists.{repeated_front}
use Rattle.model.specs.Lent.{Lent, lent_by, job_of}
use Rattle.job_laws.proofs.Checked.{facts}
use Rattle.descent_laws.proofs.Bounds.{pairs_at_most}
use Rattle.run_memory.specs.Ready.{Given}
use Rattle.run_descent_calls.proofs.run_alone.Goals as goal

-- the weights of a job are at most 2,016
few : (l : Lent) {layout : _} {weights : _} → Given l layout weights → length weights ≤ 2016
unfolding job_of
few l given =
    let one = given.weights.one_per_pair in
    let most = pairs_at_most l.size.count (facts l given.laid.well).few_pieces in
    omega arith

-- as much of a fresh array as there are weights
fresh_part : (n : ℕ) → n ≤ 2016 → length (take n (replicate {A = ℕ} 2016 0)) ≡ n
fresh_part n l = repeated_front n 2016 0 l

pub slice_bounds-own-end : goal.slice_bounds-own-end
slice_bounds-own-end c = let a = c.args in few (lent_by a.size a.table.now a.pixels.now) c.requires.fact_1

pub slice_bounds-copy_weights-end : goal.slice_bounds-copy_weights-end
slice_bounds-copy_weights-end c = let a = c.args in sym (fresh_part _ (few (lent_by a.size a.table.now a.pixels.now) c.requires.fact_1))

pub copy_weights-requires : goal.copy_weights-requires
copy_weights-requires c = let a = c.args in fresh_part _ (few (lent_by a.size a.table.now a.pixels.now) c.requires.fact_1)
