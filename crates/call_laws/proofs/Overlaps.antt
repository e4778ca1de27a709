-- Demand 2 of the public calls (document 01, 'No-fit rows and penalty', with document 02's gap): whatever a caller lends, a test for a conflict,
-- a depth, a penalty, a no-fit row or a sum that is not refused is that of the pieces' pixel sets where the lent layout puts them. The call's causes are
-- not there, so the two numbers are pieces of the job, and a lent job's boxes have sides of at most 255. Assumes nothing.
use Rattle.list_laws.proofs.Kit.{◌≡◌, ap, ap₂, refl, sym, Bool, ◌&&◌, ◌||◌, false, not, true, ⊎_elim, ◌↔◌, ◌≢◌, List, []}
use Rattle.list_laws.proofs.Kit.{◌∷◌, ◌<◌, ◌≤◌, ℕ, eqb, ltb, ℤ, eq-eqb, eqb-false}
use Rattle.list_laws.proofs.Kit.{eqb-true, ltb-true, not-false}
use Rattle.model.specs.Overlap.{OffsetRun}
use Rattle.model.specs.Layout.{Job, Layout, turned_piece, shape_in, corner_in, place_of, pair_of, pair_conflicts, pair_penalty, pair_depth, weighted_sum, plain_sum}
use Rattle.model.specs.Layout.{unit_weights}
use Rattle.model.specs.Buffer.{layout_of}
use Rattle.model.specs.Lent.{Lent, job_of, lent_well}
use Rattle.model.specs.Refusal.{given, Cause, cause, unless, no_such_piece}
use Rattle.model.specs.Calls.{job_cause, layout_length, outside_cause, some_turn_wrong, pair_causes, LentStretch, known, no_fit_of, share_call, depth_call, penalty_call}
use Rattle.model.specs.Calls.{no_fit_call, layout_causes, weighted_sum_call, plain_sum_call}
use Rattle.model.specs.declared.Direction.{Direction}
use Rattle.model.specs.declared.Direction.TheVariants.{Horizontal}
use Rattle.list_laws.proofs.Tests.{and_left, and_right, or_neither, same_tests}
use Rattle.list_laws.proofs.Numbers.{apart}
use Rattle.job_laws.proofs.Checked.{lent_few, lent_gap, lent_turned_small}
use Rattle.text_laws.specs.Outcomes.{NoCause}
use Rattle.text_laws.proofs.Outcomes.{given_unless}
use Rattle.overlap_laws.proofs.Penalty.{conflict_symmetric, conflict_depth_symmetric, conflict_penalty_symmetric, demand2_penalty, paper_penalty}
use Rattle.overlap_laws.specs.NoFit.{NoFitLine}
use Rattle.descent_laws.specs.Claims.{ValidLayout, ValidWeights}
use Rattle.descent_laws.proofs.Sums.{zero_exactly_lem, pair_mem}
use Rattle.descent_laws.proofs.Guided.{unit_valid}
use Rattle.descent_laws.proofs.Bounds.{BoxesSmall, pair_penalty_largest, weighted_at_most}
use Rattle.call_laws.specs.Overlaps.{PairLaws, PairNear, PairShared, DepthClaims, PenaltyClaims, SumClaims}
use Rattle.call_laws.proofs.Jobs.{lent_boxes_small, lent_no_fit}
use Rattle.call_laws.proofs.Layouts.{job_well, layout_valid, lent_weights_valid}

-- ── two pieces of a layout ──

-- two pieces of a lent job in a valid layout
pub record PairGiven (l : Lent) (es : List (List ℕ)) (i k : ℕ) : Type 0 where
  pub well : lent_well l ≡ true
  pub valid : ValidLayout (job_of l) (layout_of es)
  pub first : i < (job_of l).size.count
  pub second : k < (job_of l).size.count
  pub distinct : i ≢ k

-- where no cause of a call on a pair is there, it is such
pub pair_given : (l : Lent) (es : List (List ℕ)) (i k : ℕ) → NoCause (pair_causes l es i k) → PairGiven l es i k
unfolding pair_causes job_of
pair_given l es i k none =
    let turns : Bool = some_turn_wrong (job_of l) es in
    let a : Bool = not (ltb i l.size.count) in
    let b : Bool = not (ltb k l.size.count) in
    let abc = or_neither (turns || a || b) (eqb i k) none.1.1.0 in
    let ab = or_neither (turns || a) b abc.0 in
    let t = or_neither turns a ab.0 in
    record {
      well = job_well l none.0;
      valid = layout_valid l es none.1.0 t.0 none.1.1.1.0;
      first = ltb-true i l.size.count (not-false _ t.1);
      second = ltb-true k l.size.count (not-false _ ab.1);
      distinct = eqb-false i k abc.1;
    }

-- the penalty of two pieces, whichever is lower, is at most 199
pair_small : (j : Job) → BoxesSmall j → (v : Layout) (i k : ℕ) → i < j.size.count → k < j.size.count → i ≢ k → pair_penalty j v (pair_of i k) ≤ 199
unfolding pair_penalty
pair_small j small v i k a b n =
    ⊎_elim
    (λ l. pair_penalty_largest j small v (pair_of i k) (pair_mem j.size.count i k l b))
    (λ l.
    rw (conflict_penalty_symmetric j.size.gap (shape_in j v i) (corner_in v i) (shape_in j v k) (corner_in v k))
    (pair_penalty_largest j small v (pair_of k i) (pair_mem j.size.count k i l a)))
    (apart i k n)

-- a penalty that the call gives
pub penalty_given : (l : Lent) (es : List (List ℕ)) (i k n : ℕ) → penalty_call l es i k ≡ given n → PenaltyClaims (job_of l) (layout_of es) i k n
unfolding penalty_call pair_penalty
penalty_given l es i k n e =
    let j : Job = job_of l in
    let v : Layout = layout_of es in
    let u = given_unless (pair_causes l es i k) (pair_penalty j v (pair_of i k)) n e in
    let p : PairGiven l es i k = pair_given l es i k u.none in
    let laws : PairLaws j v i k = demand2_penalty _ _ _ _ _ in
    rw (← u.same)
    (record {
      is = refl;
      laws = laws;
      over_pixels = (laws.pixel_penalty _).1 refl;
      zero_exactly = laws.zero_no_pixel;
      paper = λ none. rw none (paper_penalty _ _ _ _).penalty_is;
      small = pair_small j (lent_boxes_small l p.well) v i k p.first p.second p.distinct;
    })

-- a depth that the call gives
pub depth_given : (d : Direction) (l : Lent) (es : List (List ℕ)) (i k n : ℕ) → depth_call d l es i k ≡ given n
    → DepthClaims d (job_of l) (layout_of es) i k n
unfolding depth_call pair_depth
depth_given d l es i k n e =
    let u = given_unless (pair_causes l es i k) (pair_depth d (job_of l) (layout_of es) (pair_of i k)) n e in
    let laws : PairLaws (job_of l) (layout_of es) i k = demand2_penalty _ _ _ _ _ in
    let p : PairGiven l es i k = pair_given l es i k u.none in
    let v : Layout = layout_of es in
    rw (← u.same)
    (record {
      shifts = laws.depths d;
      over_pixels = (laws.pixel_depths d _).1 refl;
      paper = λ none. rw none ((paper_penalty _ _ _ _).depth_is d);
      small =
          laws.bounded d (lent_gap l p.well) (lent_turned_small l p.well d i (place_of v i).turn p.first)
          (lent_turned_small l p.well d k (place_of v k).turn p.second);
    })

-- a test that the call gives says yes exactly when the two pieces conflict
pub share_given : (l : Lent) (es : List (List ℕ)) (i k : ℕ) (b : Bool) → share_call l es i k ≡ given b
    → (b ≡ true) ↔ PairNear (job_of l) (layout_of es) i k
unfolding share_call pair_conflicts
share_given l es i k b e =
    let u = given_unless (pair_causes l es i k) (pair_conflicts (job_of l) (layout_of es) (pair_of i k)) b e in
    rw (← u.same) (demand2_penalty _ _ _ _ _).conflict_exactly

-- and in a job without a gap exactly when they share a pixel
pub share_paper : (l : Lent) (es : List (List ℕ)) (i k : ℕ) (b : Bool) → share_call l es i k ≡ given b → l.size.gap ≡ 0
    → (b ≡ true) ↔ PairShared (job_of l) (layout_of es) i k
unfolding share_call pair_conflicts job_of
share_paper l es i k b e none =
    let u = given_unless (pair_causes l es i k) (pair_conflicts (job_of l) (layout_of es) (pair_of i k)) b e in
    let p = paper_penalty (shape_in (job_of l) (layout_of es) i) (corner_in (layout_of es) i) (shape_in (job_of l) (layout_of es) k) (corner_in (layout_of es) k) in
    rw (← u.same, none, p.share_is) p.shared_exactly

-- ── no-fit rows and columns ──

-- a no-fit row or column that the call gives is as document 01 says
pub no_fit_given : (d : Direction) (l : Lent) (p q : LentStretch) (o : ℤ) (room : ℕ) (rs : List OffsetRun) → no_fit_call d l p q o room ≡ given rs
    → NoFitLine l.size.gap d (turned_piece (job_of l) p.piece p.turn) (turned_piece (job_of l) q.piece q.turn) o rs
unfolding no_fit_call no_fit_of known job_of
no_fit_given d l p q o room rs e =
    let u = given_unless _ (no_fit_of d (job_of l) p q o) rs e in
    let both : (known (job_of l) p && known (job_of l) q) ≡ true = not-false _ u.none.1.0 in
    let a : p.piece < (job_of l).size.count = ltb-true p.piece (job_of l).size.count (and_left _ _ (and_left _ _ both)) in
    let b : q.piece < (job_of l).size.count = ltb-true q.piece (job_of l).size.count (and_left _ _ (and_right (known (job_of l) p) _ both)) in
    rw (← u.same) (lent_no_fit l (job_well l u.none.0) d p.piece q.piece p.turn q.turn a b o)

-- ── sums ──

-- of a weighted sum of a lent job by valid weights
sum_claims : (l : Lent) (ws : List ℕ) (v : Layout) → lent_well l ≡ true → ValidWeights (job_of l) ws → SumClaims (job_of l) ws v (weighted_sum (job_of l) ws v)
sum_claims l ws v well weights =
    record {
      is = refl;
      zero_exactly = zero_exactly_lem (job_of l) ws v weights;
      small = weighted_at_most (job_of l) ws v (lent_few l well) (lent_boxes_small l well) weights;
    }

-- a weighted sum that the call gives
pub weighted_given : (l : Lent) (es : List (List ℕ)) (ws : List ℕ) (n : ℕ) → weighted_sum_call l es ws ≡ given n
    → SumClaims (job_of l) ws (layout_of es) n
unfolding weighted_sum_call
weighted_given l es ws n e =
    let u = given_unless _ (weighted_sum (job_of l) ws (layout_of es)) n e in
    rw (← u.same)
    (sum_claims l ws (layout_of es) (job_well l u.none.0) (lent_weights_valid l ws u.none.1.1.0 u.none.1.1.1.0))

-- a plain sum that the call gives: weights 1
pub plain_given : (l : Lent) (es : List (List ℕ)) (n : ℕ) → plain_sum_call l es ≡ given n
    → SumClaims (job_of l) (unit_weights (job_of l).size.count) (layout_of es) n
unfolding plain_sum_call plain_sum layout_causes
plain_given l es n e =
    let u = given_unless (layout_causes l es) (plain_sum (job_of l) (layout_of es)) n e in
    rw (← u.same) (sum_claims l (unit_weights (job_of l).size.count) (layout_of es) (job_well l u.none.0) (unit_valid (job_of l)))

-- ── the order in which two pieces are named ──

-- a test of equal numbers does not depend on their order
eqb_order : (i k : ℕ) → eqb i k ≡ eqb k i
eqb_order i k = same_tests (eqb i k) (eqb k i) (λ e. eq-eqb k i (sym (eqb-true i k e))) (λ e. eq-eqb i k (sym (eqb-true k i e)))

-- nor does an `or` of two tests after another
or_order : (t a b : Bool) → (t || a || b) ≡ (t || b || a)
or_order true a b = refl
or_order false true true = refl
or_order false true false = refl
or_order false false true = refl
or_order false false false = refl

-- the causes of a call on a pair are the same for either order
causes_order : (l : Lent) (es : List (List ℕ)) (i k : ℕ) → pair_causes l es i k ≡ pair_causes l es k i
unfolding pair_causes
causes_order l es i k =
    ap (λ (b : Bool). job_cause l ∷ layout_length l es ∷ cause no_such_piece b ∷ outside_cause l es ∷ [])
    (ap₂ (λ (x y : Bool). x || y) (or_order (some_turn_wrong (job_of l) es) (not (ltb i l.size.count)) (not (ltb k l.size.count))) (eqb_order i k))

-- the penalty call answers the same whichever piece is called first, refusals among its answers
pub penalty_order : (l : Lent) (es : List (List ℕ)) (i k : ℕ) → penalty_call l es i k ≡ penalty_call l es k i
unfolding penalty_call pair_penalty
penalty_order l es i k = ap₂ (λ (cs : List Cause) (n : ℕ). unless cs n) (causes_order l es i k) (conflict_penalty_symmetric _ _ _ _ _)

-- and so does the depth call
pub depth_order : (d : Direction) (l : Lent) (es : List (List ℕ)) (i k : ℕ) → depth_call d l es i k ≡ depth_call d l es k i
unfolding depth_call pair_depth
depth_order d l es i k = ap₂ (λ (cs : List Cause) (n : ℕ). unless cs n) (causes_order l es i k) (conflict_depth_symmetric _ d _ _ _ _)

-- and the test for a conflict
pub share_order : (l : Lent) (es : List (List ℕ)) (i k : ℕ) → share_call l es i k ≡ share_call l es k i
unfolding share_call pair_conflicts
share_order l es i k = ap₂ (λ (cs : List Cause) (b : Bool). unless cs b) (causes_order l es i k) (conflict_symmetric _ _ _ _ _)
