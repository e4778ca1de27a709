-- `search_table::add_piece`: both entries of a pair are made, and those of the piece with all below it are the table's. Assumes nothing.
use Rattle.list_laws.proofs.Kit.{◌≡◌, ◌+◌, subst, arith}
use Rattle.model.specs.Layout.{place_of}
use Rattle.model.specs.Lent.{lent_by, job_of}
use Rattle.model.specs.Buffer.{layout_of}
use Rattle.search_laws.specs.Table.{Renewed}
use Rattle.search_laws.proofs.Table.{added_end, renewed_self, renewed_step}
use Rattle.search_table.proofs.add_piece.Goals as goal

pub loop-k-preserved : goal.loop-k-preserved
loop-k-preserved c =
    let a = c.args in
    let o = c.loop-k in
    let few = c.requires.fact_1.few in
    let b = c.requires.fact_2 in
    let n = o.auto.penalties in
    record {
      rows = c.penalty_of-p.ensures.rows;
      columns = c.penalty_of-p.ensures.columns;
      renewed =
          λ size g t.
          renewed_step (job_of (lent_by size a.table.now a.pixels.now)) (layout_of a.layout.now) (a.i + 1) a.i
          (place_of (layout_of a.layout.now) a.i) o.k _ o.penalties (omega arith) (omega arith) (omega arith) (λ e. omega arith)
          (c.penalty_of-p.ensures.penalty size g) (o.invariant.renewed size g t);
    }

pub returns-clause-table : goal.returns-clause-table
returns-clause-table c size g t =
    let a = c.args in
    let o = c.loop-k in
    let v = layout_of a.layout.now in
    let j = job_of (lent_by size a.table.now a.pixels.now) in
    let done : o.k ≡ a.i = omega arith in
    added_end j v a.i o.penalties
    (renewed_self j v (a.i + 1) a.i (place_of v a.i) o.penalties
    (subst (λ k. Renewed j v (a.i + 1) a.i (place_of v a.i) k o.penalties) done (o.invariant.renewed size g t)))
