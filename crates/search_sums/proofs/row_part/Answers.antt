-- `search_sums::row_part`: in each turn the pair (i, k) is there, and its weight. Assumes nothing.
use Rattle.list_laws.proofs.Kit.{◌*◌, ◌+◌, arith, get_or}
use Rattle.search_laws.proofs.Rows.{term_small, part_more}
use Rattle.search_sums.specs.Table.{table_cost}
use Rattle.search_sums.proofs.Rows.{row_place}
use Rattle.search_sums.proofs.row_part.Goals as goal

pub offset_bounds-weights-at : goal.offset_bounds-weights-at
offset_bounds-weights-at c =
    let b = c.requires.fact_2 in
    let o = c.loop-k in
    let t = row_place c.args.n c.args.i o.k o.at c.args.from _ _ c.requires.fact_1 b.1 (omega arith) (omega arith) o.invariant.at in
    omega arith

pub bounds-weights-at : goal.bounds-weights-at
bounds-weights-at c =
    let b = c.requires.fact_2 in
    let o = c.loop-k in
    (row_place c.args.n c.args.i o.k o.at c.args.from _ _ c.requires.fact_1 b.1 (omega arith) (omega arith) o.invariant.at).there

pub overflow_add-at : goal.overflow_add-at
overflow_add-at c =
    let b = c.requires.fact_2 in
    let o = c.loop-k in
    let t = row_place c.args.n c.args.i o.k o.at c.args.from _ _ c.requires.fact_1 b.1 (omega arith) (omega arith) o.invariant.at in
    omega arith

pub loop-k-preserved : goal.loop-k-preserved
loop-k-preserved c =
    let a = c.args in
    let o = c.loop-k in
    let b = c.requires.fact_2 in
    let word = c.type_inv.weights o.at in
    let byte = c.type_inv.penalties (a.i * 64 + o.k) in
    let small = term_small (get_or a.weights.now o.at 0) (get_or a.penalties.now (a.i * 64 + o.k) 0) (omega arith) (omega arith) in
    record {
      at = omega arith;
      small = omega arith;
      sum = part_more (table_cost a.penalties.now a.i) a.weights.now a.i a.from o.k o.at o.sum (omega arith) o.invariant.at o.invariant.sum;
    }
