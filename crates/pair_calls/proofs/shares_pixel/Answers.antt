-- `pair_calls::shares_pixel` meets its contract: the causes refuse, or none is there and what is measured is the pair's. Assumes nothing.
use Rattle.list_laws.proofs.Exits.{handed_on}
use Rattle.list_laws.proofs.Kit.{◌∙◌, ap, subst, sym, ℕ, arith, eqb}
use Rattle.model.specs.Layout.{place_of, pair_conflicts}
use Rattle.model.specs.Piece.{corner}
use Rattle.model.specs.Overlap.{conflict}
use Rattle.model.specs.declared.Direction.TheVariants.{Horizontal}
use Rattle.model.specs.Lent.{lent_by, job_of}
use Rattle.model.specs.Buffer.{layout_of}
use Rattle.model.specs.Calls.{share_call}
use Rattle.text_laws.proofs.Outcomes.{unless_given}
use Rattle.text_laws.proofs.Causes.{passed_none, refused_alone}
use Rattle.pair_measure.specs.Ready.{MeasureReady}
use Rattle.pair_measure.proofs.Amounts.{depth_conflicts, placed_at}
use Rattle.pair_calls.proofs.Readies.{asked}
use Rattle.pair_calls.proofs.shares_pixel.Goals as goal

pub returns-in_err-pair_causes : goal.returns-in_err-pair_causes
unfolding share_call
returns-in_err-pair_causes c = rw (refused_alone _ _ _ c.in_err-pair_causes.ensures) (handed_on _ _ c.from_residual.ensures.1)

pub overflow_cast-gap : goal.overflow_cast-gap
overflow_cast-gap c =
    let l = lent_by c.args.size c.args.table.now c.args.pixels.now in
    let g = (asked l c.args.layout.now c.args.i c.args.k c.in_ok-pair_causes.ensures).gap_small in omega arith

pub place_at-first-requires : goal.place_at-first-requires
place_at-first-requires c =
    (asked (lent_by c.args.size c.args.table.now c.args.pixels.now) c.args.layout.now c.args.i c.args.k c.in_ok-pair_causes.ensures).first_place

pub place_at-second-requires : goal.place_at-second-requires
place_at-second-requires c =
    (asked (lent_by c.args.size c.args.table.now c.args.pixels.now) c.args.layout.now c.args.i c.args.k c.in_ok-pair_causes.ensures).second_place

pub placed_depth-amount-requires : goal.placed_depth-amount-requires
placed_depth-amount-requires c =
    let ready = asked (lent_by c.args.size c.args.table.now c.args.pixels.now) c.args.layout.now c.args.i c.args.k c.in_ok-pair_causes.ensures in
    record {
      fact_1 = subst (MeasureReady _ _) (sym c.place_at-first.ensures) ready.first;
      fact_2 = subst (MeasureReady _ _) (sym c.place_at-second.ensures) ready.second;
      fact_3 = ready.together;
      fact_4 = (ready.gap_small, omega arith);
    }

pub returns : goal.returns
unfolding share_call pair_conflicts job_of
returns c =
    let l = lent_by c.args.size c.args.table.now c.args.pixels.now in
    let ready = asked l c.args.layout.now c.args.i c.args.k c.in_ok-pair_causes.ensures in
    let none = passed_none _ c.in_ok-pair_causes.ensures in
    let p = c.place_at-first.result in
    let q = c.place_at-second.result in
    let v = layout_of c.args.layout.now in
    rw (
      unless_given _ _ none,
      ap (λ (n : ℕ). eqb n 1) (c.placed_depth-amount.ensures c.args.size) ∙ depth_conflicts c.args.size.gap Horizontal _ (corner p) _ (corner q)
          ∙ placed_at (conflict c.args.size.gap) (job_of l) c.args.i p (place_of v c.args.i) c.args.k q (place_of v c.args.k)
          c.place_at-first.ensures c.place_at-second.ensures,
    )
