-- A job that passes its check has few pieces, and a valid layout of it may be painted.
use Rattle.model.specs.Lent.{lent_by}
use Rattle.job_laws.proofs.Checked.{facts}
use Rattle.layout_strips.proofs.Keeping.{laid_drawable}
use Rattle.run_memory.proofs.memory.with_strips.Goals as goal

pub penalties_of-penalties-requires-clause-fact_1 : goal.penalties_of-penalties-requires-clause-fact_1
penalties_of-penalties-requires-clause-fact_1 g c =
    let a = c.args in
    laid_drawable (lent_by a.size a.table.now a.pixels.now) a.layout.now c.requires.fact_1.laid

pub penalties_of-penalties-requires-clause-fact_2 : goal.penalties_of-penalties-requires-clause-fact_2
penalties_of-penalties-requires-clause-fact_2 g c =
    let a = c.args in
    (facts (lent_by a.size a.table.now a.pixels.now) c.requires.fact_1.laid.well).small_gap

pub make_trials-count-requires-clause-fact_1 : goal.make_trials-count-requires-clause-fact_1
make_trials-count-requires-clause-fact_1 g c =
    let a = c.args in
    let f = facts (lent_by a.size a.table.now a.pixels.now) c.requires.fact_1.laid.well in
    (f.entries, f.few_pieces)
