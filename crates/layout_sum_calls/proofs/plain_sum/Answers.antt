-- `layout_sum_calls::plain_sum` meets its contract: the causes refuse, or none is there and the sum is given. Assumes nothing.
use Rattle.list_laws.proofs.Exits.{handed_on}
use Rattle.list_laws.proofs.Kit.{◌∙◌, refl, sym}
use Rattle.model.specs.Lent.{lent_by, job_of}
use Rattle.model.specs.Buffer.{layout_of}
use Rattle.model.specs.Calls.{plain_sum_call}
use Rattle.job_laws.proofs.Checked.{facts}
use Rattle.text_laws.proofs.Outcomes.{unless_given}
use Rattle.text_laws.proofs.Causes.{passed_none, refused_alone}
use Rattle.causes.proofs.Passed.{layout_laid}
use Rattle.layout_strips.proofs.Keeping.{laid_drawable}
use Rattle.layout_sum_calls.proofs.plain_sum.Goals as goal

pub returns-in_err-layout_causes : goal.returns-in_err-layout_causes
unfolding plain_sum_call
returns-in_err-layout_causes c = rw (refused_alone _ _ _ c.in_err-layout_causes.ensures) (handed_on _ _ c.from_residual.ensures.1)

pub penalties_of-penalties-requires : goal.penalties_of-penalties-requires
penalties_of-penalties-requires c =
    let l = lent_by c.args.size c.args.table.now c.args.pixels.now in
    let laid = layout_laid l c.args.layout.now (passed_none _ c.in_ok-layout_causes.ensures) in
    record { fact_1 = laid_drawable l c.args.layout.now laid; fact_2 = (facts l laid.well).small_gap }

pub plain_total-requires : goal.plain_total-requires
plain_total-requires c =
    let l = lent_by c.args.size c.args.table.now c.args.pixels.now in
    let laid = layout_laid l c.args.layout.now (passed_none _ c.in_ok-layout_causes.ensures) in
    ((facts l laid.well).few_pieces, (c.penalties_of-penalties.ensures (sym laid.whole)).size)

pub returns : goal.returns
unfolding plain_sum_call job_of
returns c =
    let l = lent_by c.args.size c.args.table.now c.args.pixels.now in
    let none = passed_none _ c.in_ok-layout_causes.ensures in
    let table = c.penalties_of-penalties.ensures (sym (layout_laid l c.args.layout.now none).whole) in
    rw (unless_given _ _ none, c.plain_total.ensures (job_of l) (layout_of c.args.layout.now) refl table)
