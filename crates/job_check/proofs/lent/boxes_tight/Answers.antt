-- `job_check::lent::boxes_tight`: a box that is loose shows that not all are tight, and after the last none was. Assumes nothing.
use Rattle.list_laws.proofs.Kit.{◌∙◌, sym, refl, below_more, below_none, arith}
use Rattle.list_laws.proofs.Bounded.{all_from}
use Rattle.list_laws.proofs.Searches.{not_all}
use Rattle.list_laws.proofs.Sums.{sum_step}
use Rattle.model.specs.Piece.{tight}
use Rattle.model.specs.Lent.{pixel_start, entry_area}
use Rattle.job_check.specs.Boxes.{stored_box}
use Rattle.job_check.proofs.lent.boxes_tight.Goals as goal

pub loop-i-init : goal.loop-i-init
unfolding pixel_start
loop-i-init c = (refl, omega arith, below_none _)

pub returns-then-not-stored_box_tight : goal.returns-then-not-stored_box_tight
returns-then-not-stored_box_tight c =
    sym (not_all c.args.count c.loop-i.i (λ k. tight (stored_box c.args.table.now c.args.pixels.now k)) c.loop-i-test.true
    (sym c.stored_box_tight.ensures ∙ c.if-not-stored_box_tight.true))

pub loop-i-preserved : goal.loop-i-preserved
unfolding pixel_start
loop-i-preserved c = (
  omega (arith, c.area_of-start.ensures.0, c.loop-i.invariant.0, sum_step c.loop-i.i (entry_area c.args.table.now)),
  omega arith,
  below_more _ _ c.loop-i.invariant.2 (sym c.stored_box_tight.ensures ∙ c.if-not-stored_box_tight.false),
)

pub returns : goal.returns
returns c =
    sym (all_from c.args.count (λ k. tight (stored_box c.args.table.now c.args.pixels.now k)) (λ k l. c.loop-i.invariant.2 k (omega arith)))
