-- `search_sums::pair_index` meets its contract: the row's start in closed form, and the place in the row. Assumes nothing.
use Rattle.list_laws.proofs.Kit.{◌+◌, arith, rules}
use Rattle.search_sums.proofs.Rows.{few_times, row_closed}
use Rattle.search_sums.proofs.pair_index.Statement.{statement}
use Rattle.search_sums.proofs.pair_index.Tie as tie

overflow_mul-result : tie.Need-overflow_mul-result
overflow_mul-result c = let a = c.args in
    let p = c.requires in
    let x = few_times a.n a.i p.0 (omega arith) in
    let y = few_times a.i (a.i + 1) (omega arith) (omega arith) in
    let r = row_closed a.n a.i (omega arith) in
    let f = r.fits in
    let s = r.start in
    omega arith

overflow_mul-result-2 : tie.Need-overflow_mul-result-2
overflow_mul-result-2 c = let a = c.args in
    let p = c.requires in
    let x = few_times a.n a.i p.0 (omega arith) in
    let y = few_times a.i (a.i + 1) (omega arith) (omega arith) in
    let r = row_closed a.n a.i (omega arith) in
    let f = r.fits in
    let s = r.start in
    omega arith

overflow_sub-result : tie.Need-overflow_sub-result
overflow_sub-result c = let a = c.args in
    let p = c.requires in
    let x = few_times a.n a.i p.0 (omega arith) in
    let y = few_times a.i (a.i + 1) (omega arith) (omega arith) in
    let r = row_closed a.n a.i (omega arith) in
    let f = r.fits in
    let s = r.start in
    omega arith

overflow_add-result-3 : tie.Need-overflow_add-result-3
overflow_add-result-3 c = let a = c.args in
    let p = c.requires in
    let x = few_times a.n a.i p.0 (omega arith) in
    let y = few_times a.i (a.i + 1) (omega arith) (omega arith) in
    let r = row_closed a.n a.i (omega arith) in
    let f = r.fits in
    let s = r.start in
    omega arith

returns : tie.Need-returns
returns c = let a = c.args in
    let p = c.requires in
    let x = few_times a.n a.i p.0 (omega arith) in
    let y = few_times a.i (a.i + 1) (omega arith) (omega arith) in
    let r = row_closed a.n a.i (omega arith) in
    let f = r.fits in
    let s = r.start in
    omega arith

pub pair_index_spec : {M : Type 1} → statement M
pair_index_spec = tie.close (tie.spec
    overflow_mul-result (search rules) overflow_mul-result-2 overflow_sub-result (search rules) (search rules) overflow_add-result-3 returns)
