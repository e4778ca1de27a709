-- Document 02, point 1, the used length of a lent layout: from the smallest corner x to the largest right end, both attained by a piece,
-- the same wherever the layout begins, and no longer than the sheet. Assumes nothing.
use Rattle.std.specs.Prelude.{Result, Ok}
use Rattle.model.specs.declared.Refusal.{Refusal}
use Rattle.list_laws.proofs.Kit.{◌∙◌, ◌≡◌, ap, sym, ◌↔◌, List, ◌+◌, ◌<◌, ◌≤◌, ℕ, arith, leb-true}
use Rattle.list_laws.proofs.Tests.{and_left}
use Rattle.list_laws.proofs.Extremes.{Attained, all_passed, attained, max_one, min_one}
use Rattle.model.specs.Layout.{Job, Layout, turned_piece, inside, shape_in, corner_in, right_end, rightmost, leftmost, used_length}
use Rattle.model.specs.Buffer.{layout_of}
use Rattle.model.specs.Lent.{Lent, job_of}
use Rattle.model.specs.Refusal.{given}
use Rattle.model.specs.Answers.{number_answer}
use Rattle.model.specs.Calls.{layout_causes, used_length_call}
use Rattle.job_laws.proofs.Checked.{lent_some}
use Rattle.text_laws.proofs.Outcomes.{given_unless, number_given}
use Rattle.descent_laws.specs.Claims.{ValidLayout}
use Rattle.call_laws.specs.Lengths.{Spanned, AtEdge, Shifted, UsedClaims}
use Rattle.call_laws.proofs.Layouts.{job_well, layout_valid}

-- the corner x of piece i
abbrev left_end : Layout → ℕ → ℕ
left_end v i = (corner_in v i).x

module _ (j : Job) (v : Layout) where
  -- no right end is larger than the largest
  rightmost_bounds : (n i : ℕ) → i < n → right_end j v i ≤ rightmost j v n
  unfolding rightmost
  rightmost_bounds = all_passed (λ i n. right_end j v i ≤ rightmost j v n) (λ n. omega arith) (λ n i h. omega arith)

  -- and a piece has it
  rightmost_attained : (n : ℕ) → 0 < n → Attained (right_end j v) n (rightmost j v n)
  unfolding rightmost
  rightmost_attained = attained (right_end j v) (rightmost j v) (omega arith) (λ n. max_one (rightmost j v n) (right_end j v n))

module _ (v : Layout) where
  -- no corner x is smaller than the smallest
  leftmost_bounds : (n i : ℕ) → i < n → leftmost v n ≤ left_end v i
  unfolding leftmost
  leftmost_bounds = all_passed (λ i n. leftmost v n ≤ left_end v i) (λ n. omega arith) (λ n i h. omega arith)

  -- and a piece has it
  leftmost_attained : (n : ℕ) → 0 < n → Attained (left_end v) n (leftmost v n)
  unfolding leftmost
  leftmost_attained = attained (left_end v) (leftmost v) (omega arith) (λ n. min_one (leftmost v n) (left_end v n))

-- the smallest corner x is no larger than the largest right end
pub ends_ordered : (j : Job) (v : Layout) (n : ℕ) → 0 < n → leftmost v n ≤ rightmost j v n
ends_ordered j v n some =
    let r = rightmost_bounds j v n 0 some in
    let l = leftmost_bounds v n 0 some in omega arith

module _ (j : Job) (v : Layout) (some : 0 < j.size.count) where
  -- the used length reaches from the smallest corner x to the largest right end
  used_spans : rightmost j v j.size.count ≡ leftmost v j.size.count + used_length j v
  unfolding used_length
  used_spans = let o = ends_ordered j v j.size.count some in omega arith

  -- so that no right end less a corner x is larger
  used_at_most : (i k : ℕ) → i < j.size.count → k < j.size.count → right_end j v i ≤ left_end v k + used_length j v
  used_at_most i k a b =
      let r = rightmost_bounds j v j.size.count i a in
      let l = leftmost_bounds v j.size.count k b in
      let s = used_spans in omega arith

  -- and for some it is this
  used_attained : Spanned j v j.size.count (used_length j v)
  used_attained =
      let r = rightmost_attained j v j.size.count some in
      let l = leftmost_attained v j.size.count some in
      let s = used_spans in
      let a : rightmost j v j.size.count ≡ right_end j v r.place = r.is in
      let b : leftmost v j.size.count ≡ left_end v l.place = l.is in
      record { last = r.place; first = l.place; last_below = r.below; first_below = l.below; is = omega arith }

-- the used length of a piece alone is its columns
used_of_one : (j : Job) (v : Layout) → j.size.count ≡ 1 → used_length j v ≡ (shape_in j v 0).columns
unfolding used_length rightmost leftmost
used_of_one j v e = rw e (omega arith)

-- it is the largest right end exactly when some piece has corner x 0
used_from_edge : (j : Job) (v : Layout) → 0 < j.size.count → (used_length j v ≡ rightmost j v j.size.count) ↔ AtEdge v j.size.count
used_from_edge j v some =
    let s = used_spans j v some in
    let l = leftmost_attained v j.size.count some in
    let b : leftmost v j.size.count ≡ left_end v l.place = l.is in (
      λ e. record { piece = l.place; below = l.below; is = omega arith },
      λ w. let m = leftmost_bounds v j.size.count w.piece w.below in
          let z : left_end v w.piece ≡ 0 = w.is in omega arith,
    )

-- a shift, seen from its end
shifted_back : (n : ℕ) (v v' : Layout) (a b : ℕ) → Shifted n v v' a b → Shifted n v' v b a
shifted_back n v v' a b s = record { turns = λ i l. sym (s.turns i l); columns = λ i l. sym (s.columns i l) }

-- a shift makes no layout shorter
shifted_at_most : (j : Job) (v v' : Layout) (a b : ℕ) → 0 < j.size.count → Shifted j.size.count v v' a b → used_length j v ≤ used_length j v'
shifted_at_most j v v' a b some s =
    let w = used_attained j v some in
    let is : right_end j v w.last ≡ left_end v w.first + used_length j v = w.is in
    let m = used_at_most j v' some w.last w.first w.last_below w.first_below in
    let same : (shape_in j v' w.last).columns ≡ (shape_in j v w.last).columns =
    ap (λ t. (turned_piece j w.last t).columns) (s.turns w.last w.last_below) in
    let last = s.columns w.last w.last_below in
    let first = s.columns w.first w.first_below in omega arith

-- so it leaves the used length as it is
used_shifted : (j : Job) (v v' : Layout) (a b : ℕ) → 0 < j.size.count → Shifted j.size.count v v' a b → used_length j v' ≡ used_length j v
used_shifted j v v' a b some s =
    let l = shifted_at_most j v v' a b some s in
    let g = shifted_at_most j v' v b a some (shifted_back j.size.count v v' a b s) in omega arith

-- a right end of a valid layout lies in the sheet
end_within : (j : Job) (v : Layout) → ValidLayout j v → (i : ℕ) → i < j.size.count → right_end j v i ≤ j.size.columns
unfolding inside
end_within j v h i l = leb-true (right_end j v i) j.size.columns (and_left _ _ (h.inside_sheet i l))

-- the used length of a valid layout of a job with a piece
used_claims : (j : Job) (v : Layout) → 0 < j.size.count → ValidLayout j v → UsedClaims j v (used_length j v)
used_claims j v some h =
    let w = used_attained j v some in
    let is : right_end j v w.last ≡ left_end v w.first + used_length j v = w.is in
    let last = end_within j v h w.last w.last_below in
    let spans = used_spans j v some in
    record {
      at_most = used_at_most j v some;
      attained = w;
      holds_each = λ i l. let m = used_at_most j v some i i l l in omega arith;
      of_one = used_of_one j v;
      at_most_end = omega arith;
      from_edge = used_from_edge j v some;
      shifting = λ v' a b s. used_shifted j v v' a b some s;
      within = omega arith;
    }

-- a used length that the call gives
pub used_given : (l : Lent) (es : List (List ℕ)) (n : ℕ) → used_length_call l es ≡ given n → UsedClaims (job_of l) (layout_of es) n
unfolding used_length_call layout_causes
used_given l es n e =
    let u = given_unless (layout_causes l es) (used_length (job_of l) (layout_of es)) n e in
    let v : ValidLayout (job_of l) (layout_of es) = layout_valid l es u.none.1.0 u.none.1.1.0 u.none.1.1.1.0 in
    rw (← u.same) (used_claims (job_of l) (layout_of es) (lent_some l (job_well l u.none.0)) v)

-- an answer that tells the call's outcome says so of the number in it
pub used_answered : (l : Lent) (es : List (List ℕ)) {r : Result ℕ Refusal} → r ≡ number_answer (used_length_call l es)
    → (r ≡ number_answer (used_length_call l es)) × ((n : ℕ) → r ≡ Ok n → UsedClaims (job_of l) (layout_of es) n)
used_answered l es {r} e = (e, λ n told. used_given l es n (number_given (used_length_call l es) n (sym told ∙ e)))
