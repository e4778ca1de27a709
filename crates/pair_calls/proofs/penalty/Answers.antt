-- `pair_calls::penalty` meets its contract: the causes refuse, or none is there and what is measured is the pair's. Assumes nothing.
use Rattle.list_laws.proofs.Exits.{handed_on}
use Rattle.list_laws.proofs.Kit.{◌∙◌, ◌≡◌, subst, sym, ℕ, arith}
use Rattle.model.specs.Layout.{place_of, pair_penalty}
use Rattle.model.specs.Overlap.{conflict_penalty}
use Rattle.model.specs.Lent.{lent_by, job_of}
use Rattle.model.specs.Buffer.{layout_of}
use Rattle.model.specs.Calls.{penalty_call}
use Rattle.text_laws.proofs.Outcomes.{unless_given}
use Rattle.text_laws.proofs.Causes.{passed_none, refused_alone}
use Rattle.pair_measure.specs.Ready.{MeasureReady}
use Rattle.pair_measure.proofs.Amounts.{placed_at}
use Rattle.pair_calls.proofs.Readies.{asked}
use Rattle.pair_calls.proofs.penalty.Goals as goal

pub returns-in_err-pair_causes : goal.returns-in_err-pair_causes
unfolding penalty_call
returns-in_err-pair_causes c =
    let e = handed_on _ _ c.from_residual.ensures.1 in
    record {
      answer = rw (refused_alone _ _ _ c.in_err-pair_causes.ensures) e;
      small = λ k told. absurd (let z : ◌≡◌ {A = ℕ} 0 1 = cc in omega arith);
    }

pub overflow_cast-gap : goal.overflow_cast-gap
overflow_cast-gap c =
    let l = lent_by c.args.size c.args.table.now c.args.pixels.now in
    let g = (asked l c.args.layout.now c.args.i c.args.k c.in_ok-pair_causes.ensures).gap_small in omega arith

pub place_at-first-requires : goal.place_at-first-requires
place_at-first-requires c =
    (asked (lent_by c.args.size c.args.table.now c.args.pixels.now) c.args.layout.now c.args.i c.args.k c.in_ok-pair_causes.ensures).first_place

pub place_at-second-requires : goal.place_at-second-requires
place_at-second-requires c =
    (asked (lent_by c.args.size c.args.table.now c.args.pixels.now) c.args.layout.now c.args.i c.args.k c.in_ok-pair_causes.ensures).second_place

pub placed_penalty-amount-requires : goal.placed_penalty-amount-requires
placed_penalty-amount-requires c =
    let ready = asked (lent_by c.args.size c.args.table.now c.args.pixels.now) c.args.layout.now c.args.i c.args.k c.in_ok-pair_causes.ensures in
    record {
      fact_1 = subst (MeasureReady _ _) (sym c.place_at-first.ensures) ready.first;
      fact_2 = subst (MeasureReady _ _) (sym c.place_at-second.ensures) ready.second;
      fact_3 = ready.together;
      fact_4 = ready.gap_small;
    }

pub returns : goal.returns
unfolding penalty_call pair_penalty job_of
returns c =
    let l = lent_by c.args.size c.args.table.now c.args.pixels.now in
    let ready = asked l c.args.layout.now c.args.i c.args.k c.in_ok-pair_causes.ensures in
    let none = passed_none _ c.in_ok-pair_causes.ensures in
    let p = c.place_at-first.result in
    let q = c.place_at-second.result in
    let v = layout_of c.args.layout.now in
    record {
      answer =
          rw (
            unless_given _ _ none,
            c.placed_penalty-amount.ensures c.args.size
                ∙ placed_at (conflict_penalty c.args.size.gap) (job_of l) c.args.i p (place_of v c.args.i) c.args.k q (place_of v c.args.k)
                c.place_at-first.ensures c.place_at-second.ensures,
          );
      small = λ k told. let same : c.placed_penalty-amount.result ≡ k = cc in omega arith;
    }
