-- `search_map_lines::row_line`: one block of places after the other is done, the last one with the places that are left. Assumes nothing.
use Rattle.list_laws.proofs.Kit.{◌≡◌, ◌+◌, subst, arith}
use Rattle.search_map_lines.proofs.Rows.{RowDoing, row_start_lem, block_reaches, row_step, row_end}
use Rattle.search_map_lines.proofs.row_line.Goals as goal

pub loop-at-init : goal.loop-at-init
loop-at-init c = record { within = omega arith; done = row_start_lem _ _ _ _ _ }

pub peel-requires-clause-fact_1 : goal.peel-requires-clause-fact_1
peel-requires-clause-fact_1 c =
    let a = c.args in
    block_reaches a.ws.now a.w a.p a.places a.line.now c.loop-at.at _ c.requires.fact_1 (omega arith) (omega arith) (omega arith)

pub loop-at-preserved : goal.loop-at-preserved
loop-at-preserved c =
    let a = c.args in
    let o = c.loop-at in
    let next : o.at + c.min-count.result ≡ o.at + 64 = omega arith in
    record {
      within = omega arith;
      done =
          subst (RowDoing a.ws.now a.w a.p a.places a.line.now c.peel.new.line) next
          (row_step a.ws.now a.w a.p a.places a.line.now o.line _ o.at _ o.invariant.done c.peel.ensures);
    }

pub returns : goal.returns
returns c = row_end _ _ _ _ _ _ c.loop-at.at (omega arith) c.loop-at.invariant.done

pub returns-2 : goal.returns-2
returns-2 c =
    let a = c.args in
    let o = c.loop-at in
    row_end _ _ _ _ _ _ _ (omega arith) (row_step a.ws.now a.w a.p a.places a.line.now o.line _ o.at _ o.invariant.done c.peel.ensures)
