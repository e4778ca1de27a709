-- Where no cause refuses a call on a pair, both pieces are ready to be measured: their table entries are checked, their corners lie in
-- the sheet, and as two pieces of one job they have no more pixels than its boxes. Assumes nothing.
use Rattle.list_laws.proofs.Kit.{◌≡◌, refl, Bool, ◌||◌, false, not, true, List, ◌<◌, ◌≤◌, ℕ, arith, eqb, ltb, length, eqb-false, ltb-true, not-false}
use Rattle.model.specs.Layout.{place_of}
use Rattle.model.specs.Lent.{Lent, job_of, gap_bound}
use Rattle.job_laws.proofs.Checked.{facts}
use Rattle.model.specs.Buffer.{layout_of}
use Rattle.model.specs.Calls.{some_turn_wrong, pair_causes}
use Rattle.list_laws.proofs.Tests.{or_neither}
use Rattle.std.specs.Prelude.{Ok}
use Rattle.model.specs.Answers.{first_cause}
use Rattle.text_laws.specs.Outcomes.{NoCause}
use Rattle.text_laws.proofs.Causes.{passed_none}
use Rattle.descent_laws.specs.LentLayout.{Laid}
use Rattle.causes.proofs.Passed.{laid_by}
use Rattle.pair_measure.specs.Ready.{MeasureReady, Together}
use Rattle.pair_measure.proofs.Readies.{piece_ready, pair_together}

-- one of four reasons, in another grouping
pub or_four : (a b c d : Bool) → (a || ((b || c) || d)) ≡ (((a || b) || c) || d)
or_four true b c d = refl
or_four false b c d = refl

-- what is known of a pair that no cause refuses
pub record Measurable (l : Lent) (es : List (List ℕ)) (i k : ℕ) : Type 0 where
  pub first_place : i < length es
  pub second_place : k < length es
  pub first : MeasureReady l.table i (place_of (layout_of es) i)
  pub second : MeasureReady l.table k (place_of (layout_of es) k)
  pub together : Together l.table i k
  pub gap_small : l.size.gap ≤ gap_bound

pub measurable : (l : Lent) (es : List (List ℕ)) (i k : ℕ) → NoCause (pair_causes l es i k) → Measurable l es i k
unfolding pair_causes
measurable l es i k h =
    let t : Bool = some_turn_wrong (job_of l) es in
    let u : Bool = not (ltb i l.size.count) in
    let v : Bool = not (ltb k l.size.count) in
    let three = (or_neither ((t || u) || v) (eqb i k) h.1.1.0).0 in
    let a : i < l.size.count = ltb-true i l.size.count (not-false _ (or_neither t u (or_neither (t || u) v three).0).1) in
    let b : k < l.size.count = ltb-true k l.size.count (not-false _ (or_neither (t || u) v three).1) in
    let laid : Laid l es = laid_by l es h.0 h.1.0 (or_neither t u (or_neither (t || u) v three).0).0 h.1.1.1.0 in
    let n = laid.whole in
    record {
      first_place = omega arith;
      second_place = omega arith;
      first = piece_ready l es laid i a;
      second = piece_ready l es laid k b;
      together = pair_together l laid.well i k a b (eqb-false i k (or_neither ((t || u) || v) (eqb i k) h.1.1.0).1);
      gap_small = (facts l laid.well).small_gap;
    }

-- so it is where the causes were asked and none refused
pub asked : (l : Lent) (es : List (List ℕ)) (i k : ℕ) → Ok tt ≡ first_cause (pair_causes l es i k) → Measurable l es i k
asked l es i k e = measurable l es i k (passed_none _ e)
