-- `layout_sum_calls::weighted_sum` meets its contract: the causes refuse, or none is there and the sum is given. Assumes nothing.
use Rattle.std.specs.Prelude.{Ok}
use Rattle.list_laws.proofs.Exits.{handed_on}
use Rattle.list_laws.proofs.Kit.{◌∙◌, ap, refl, sym, false}
use Rattle.model.specs.Answers.{number_answer}
use Rattle.model.specs.Layout.{weighted_sum}
use Rattle.model.specs.Lent.{lent_by, job_of}
use Rattle.model.specs.Buffer.{layout_of}
use Rattle.model.specs.Calls.{weighted_sum_call}
use Rattle.job_laws.proofs.Checked.{facts}
use Rattle.text_laws.proofs.Outcomes.{unless_given}
use Rattle.text_laws.proofs.Causes.{passed_none, refused_alone}
use Rattle.causes.proofs.Asked.{sum_asked}
use Rattle.causes.proofs.Passed.{weighted_passed}
use Rattle.layout_strips.proofs.Keeping.{laid_drawable}
use Rattle.layout_sum_calls.proofs.weighted_sum.Goals as goal

pub returns-in_err-weighted_causes : goal.returns-in_err-weighted_causes
unfolding weighted_sum_call
returns-in_err-weighted_causes c =
    let l = lent_by c.args.size c.args.table.now c.args.pixels.now in
    handed_on _ _ c.from_residual.ensures.1
    ∙ sym (ap number_answer
    (sym (sum_asked l c.args.layout.now _ c.args.weights.now) ∙ refused_alone _ _ _ c.in_err-weighted_causes.ensures))

pub penalties_of-penalties-requires : goal.penalties_of-penalties-requires
penalties_of-penalties-requires c =
    let l = lent_by c.args.size c.args.table.now c.args.pixels.now in
    let valid = weighted_passed l c.args.layout.now c.args.weights.now false false (passed_none _ c.in_ok-weighted_causes.ensures) in
    record { fact_1 = laid_drawable l c.args.layout.now valid.laid; fact_2 = (facts l valid.laid.well).small_gap }

pub total-requires : goal.total-requires
unfolding job_of
total-requires c =
    let l = lent_by c.args.size c.args.table.now c.args.pixels.now in
    let valid = weighted_passed l c.args.layout.now c.args.weights.now false false (passed_none _ c.in_ok-weighted_causes.ensures) in
    record {
      few = (facts l valid.laid.well).few_pieces;
      size = (c.penalties_of-penalties.ensures (sym valid.laid.whole)).size;
      one_per_pair = valid.weights.one_per_pair;
    }

pub returns : goal.returns
unfolding weighted_sum_call job_of
returns c =
    let l = lent_by c.args.size c.args.table.now c.args.pixels.now in
    let none = passed_none _ c.in_ok-weighted_causes.ensures in
    let valid = weighted_passed l c.args.layout.now c.args.weights.now false false none in
    let sum = weighted_sum (job_of l) c.args.weights.now (layout_of c.args.layout.now) in
    ap Ok (c.total.ensures (job_of l) (layout_of c.args.layout.now) refl (c.penalties_of-penalties.ensures (sym valid.laid.whole)))
    ∙ sym (ap number_answer (sym (sum_asked l c.args.layout.now sum c.args.weights.now) ∙ unless_given _ sum none))
