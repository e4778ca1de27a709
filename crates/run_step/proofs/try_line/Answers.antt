-- `run_step::try_line` meets its contract: where the search finds a place, it is one of the line's, and the table is renewed for it. Assumes nothing.
use Rattle.list_laws.proofs.Kit.{◌∙◌, List, ℕ, ap, subst, sym, arith, set}
use Rattle.model.specs.Piece.{on_line}
use Rattle.model.specs.Layout.{Layout}
use Rattle.model.specs.Lent.{lent_by, job_of}
use Rattle.model.specs.Buffer.{layout_of, entry_of}
use Rattle.search_laws.specs.Table.{PenaltyTable}
use Rattle.search_shapes.proofs.Jobs.{places_few}
use Rattle.text_laws.proofs.Entries.{layout_set}
use Rattle.run_step.proofs.Moves.{found_there}
use Rattle.run_step.proofs.try_line.Goals as goal

pub renew_placed-requires-clause-fact_3 : goal.renew_placed-requires-clause-fact_3
renew_placed-requires-clause-fact_3 c =
    (c.requires.fact_4, found_there _ _ _ c.in_ok-least.least (sym c.in_ok-least.was ∙ c.search_below.ensures.found))

pub place_on-requires : goal.place_on-requires
place_on-requires c =
    let l = lent_by c.args.run.size c.args.table.now c.args.pixels.now in
    let m = c.args.mover in
    let there = found_there _ _ _ c.in_ok-least.least (sym c.in_ok-least.was ∙ c.search_below.ensures.found) in
    let few = places_few l c.requires.fact_1.well m.piece m.turn m.line in
    omega arith

pub returns-clause-renewed : goal.returns-clause-renewed
returns-clause-renewed c =
    let m = c.args.mover in
    let es = c.args.layout.now in
    let placed = ap (λ (z : List ℕ). layout_of (set es m.piece z)) (c.entry_of.ensures ∙ ap entry_of c.place_on.ensures)
    ∙ layout_set es m.piece (on_line m.line m.turn c.in_ok-least.least.at) in
    subst (λ (w : Layout).
    PenaltyTable (job_of (lent_by c.args.run.size c.args.table.now c.args.pixels.now)) w c.args.run.size.count c.renew_placed.new.penalties)
    (sym placed) c.renew_placed.ensures.table
