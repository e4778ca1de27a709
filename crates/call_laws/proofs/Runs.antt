-- Demand 3 of the public calls (document 01, 'Line search' and 'Descent and guidance'): whatever a caller lends, a line search, a
-- descent or a guided run that is not refused is the job's own, and what demand 3 claims holds of it. The call's causes are not
-- there, so the lent buffers hold a valid layout and valid weights. Assumes nothing.
use Rattle.list_laws.proofs.Kit.{◌∙◌, ◌≡◌, ap, refl, ◌||◌, not, true, ◌↔◌, Option, none, some, List, ◌<◌, ◌≤◌, ℕ, arith, eqb, ltb, length, eq-eqb, eqb-false}
use Rattle.list_laws.proofs.Kit.{eqb-true, le-ltb}
use Rattle.model.specs.Piece.{on_line}
use Rattle.model.specs.Layout.{Job, Layout, inside, pairs}
use Rattle.model.specs.Buffer.{entries_of, layout_of}
use Rattle.model.specs.Search.{Best, places, search_line}
use Rattle.model.specs.Descent.{Descent, descend}
use Rattle.model.specs.Guided.{Guided, guide, rounds}
use Rattle.model.specs.Lent.{Lent, job_of, lent_well, up_to}
use Rattle.model.specs.Refusal.{given}
use Rattle.model.specs.Calls.{budget_bound, round_bound, some_weight_wrong, best_place, search_call, descent_call, descent_after, guided_call, best_after_run}
use Rattle.model.specs.Calls.{weights_after_run}
use Rattle.model.specs.declared.Turn.{Turn}
use Rattle.model.specs.declared.Line.{Line}
use Rattle.list_laws.proofs.Tests.{or_neither, passes, or_none}
use Rattle.text_laws.proofs.Entries.{entries_read_back}
use Rattle.text_laws.proofs.Outcomes.{given_unless, unless_given}
use Rattle.descent_laws.specs.Claims.{ValidWeights, ValidLayout, DescentClaims, GuidedClaims}
use Rattle.descent_laws.specs.Search.{LeastFound}
use Rattle.descent_laws.proofs.Search.{Searched, searched, inside_below, below_inside}
use Rattle.descent_laws.proofs.Demand3.{demand3}
use Rattle.call_laws.proofs.Layouts.{BufferPasses, valid_buffer, weights_pass, layout_valid, lent_weights_valid}

-- ── descent and guided run ──

-- a descent that the call gives is the job's, and demand 3's claims hold of it
pub descent_given : (l : Lent) (es : List (List ℕ)) (ws : List ℕ) (budget : ℕ) (d : Descent) → descent_call l es ws budget ≡ given d
    → DescentClaims (job_of l) ws budget (layout_of es) d
unfolding descent_call
descent_given l es ws budget d e =
    let u = given_unless _ (descend (job_of l) ws budget (layout_of es)) d e in
    let range = or_neither (some_weight_wrong ws) (ltb budget_bound budget) u.none.1.1.1.0 in
    let v : ValidLayout (job_of l) (layout_of es) = layout_valid l es u.none.1.0 u.none.1.1.1.1.0 u.none.1.1.1.1.1.0 in
    let w : ValidWeights (job_of l) ws = lent_weights_valid l ws u.none.1.1.0 range.0 in
    rw (← u.same) ((demand3 (job_of l) ws (layout_of es) w v).descents budget)

-- a guided run that the call gives is the job's, and demand 3's claims hold of it and of each of its rounds
pub guided_given : (l : Lent) (es : List (List ℕ)) (ws : List ℕ) (K budget : ℕ) (g : Guided) → guided_call l es ws K budget ≡ given g
    → GuidedClaims (job_of l) ws K budget (layout_of es) (rounds (job_of l) K budget ws (layout_of es)) g
unfolding guided_call
guided_given l es ws K budget g e =
    let u = given_unless _ (guide (job_of l) K budget ws (layout_of es)) g e in
    let range = or_neither (some_weight_wrong ws || ltb budget_bound budget) (not (up_to round_bound K)) u.none.1.1.1.0 in
    let v : ValidLayout (job_of l) (layout_of es) = layout_valid l es u.none.1.0 u.none.1.1.1.1.0 u.none.1.1.1.1.1.0 in
    let w : ValidWeights (job_of l) ws = lent_weights_valid l ws u.none.1.1.0 (or_neither (some_weight_wrong ws) _ range.0).0 in
    rw (← u.same) ((demand3 (job_of l) ws (layout_of es) w v).guided_runs K budget)

-- ── line search ──

-- the cause of refusal 11 of a line search is there exactly where no inside corner lies on the line
pub empty_line_exactly : (j : Job) (i : ℕ) (t : Turn) (line : Line)
    → (eqb (places j i t line) 0 ≡ true) ↔ ((a : ℕ) → inside j i (on_line line t a) ≡ true → ⊥)
empty_line_exactly j i t line = (
  λ e a h. let n = eqb-true (places j i t line) 0 e in let b = inside_below j i t line a h in omega arith,
  λ h. passes (eqb (places j i t line) 0) (λ e. let n = eqb-false (places j i t line) 0 e in h 0 (below_inside j i t line 0 (omega arith))),
)

-- where an inside corner lies on the line, the answer is a best place
place_found : (j : Job) (ws : List ℕ) (v : Layout) (i : ℕ) (t : Turn) (line : Line) (o : Option Best) → Searched j ws v i t line o
    → 0 < places j i t line → LeastFound j ws v i t line (best_place o)
place_found j ws v i t line none h some-place = absurd (h 0 (below_inside j i t line 0 some-place))
place_found j ws v i t line (some b) h some-place = h

-- a line search that the call gives found the least sum over the inside corners on the line and the smallest coordinate that has it
pub search_given : (l : Lent) (es : List (List ℕ)) (ws : List ℕ) (i : ℕ) (t : Turn) (line : Line) (b : Best)
    → search_call l es ws i t line ≡ given b → LeastFound (job_of l) ws (layout_of es) i t line b
unfolding search_call
search_given l es ws i t line b e =
    let u = given_unless _ (best_place (search_line (job_of l) ws (layout_of es) i t line)) b e in
    let n = eqb-false (places (job_of l) i t line) 0 u.none.1.1.1.1.1.1.0 in
    rw (← u.same) (place_found (job_of l) ws (layout_of es) i t line (search_line (job_of l) ws (layout_of es) i t line)
    (searched (job_of l) ws (layout_of es) i t line) (omega arith))

-- ── runs that are not refused ──

module _ (l : Lent) (well : lent_well l ≡ true) (v : Layout) (valid : ValidLayout (job_of l) v) (ws : List ℕ) (weights : ValidWeights (job_of l) ws) where
  -- a descent from a valid layout by valid weights is given
  pub descent_taken : (budget : ℕ) → budget ≤ budget_bound → descent_call l (entries_of v) ws budget ≡ given (descend (job_of l) ws budget v)
  unfolding descent_call job_of
  descent_taken budget few =
      let p : BufferPasses (job_of l) (entries_of v) = valid_buffer (job_of l) v valid in
      unless_given _ (descend (job_of l) ws budget (layout_of (entries_of v))) (
        ap not well,
        (
          ap not (eq-eqb (length (entries_of v)) l.size.count p.size),
          (
            ap not (eq-eqb (length ws) (length (pairs l.size.count)) weights.one_per_pair),
            (or_none (weights_pass ws weights.in_range) (le-ltb _ _ few), (p.turns, (p.outside, tt))),
          ),
        ),
      )
      ∙ ap (λ (w : Layout). given (descend (job_of l) ws budget w)) (entries_read_back v)

  -- and so is a guided run
  pub guided_taken : (K budget : ℕ) → up_to round_bound K ≡ true → budget ≤ budget_bound
      → guided_call l (entries_of v) ws K budget ≡ given (guide (job_of l) K budget ws v)
  unfolding guided_call job_of
  guided_taken K budget counted few =
      let p : BufferPasses (job_of l) (entries_of v) = valid_buffer (job_of l) v valid in
      unless_given _ (guide (job_of l) K budget ws (layout_of (entries_of v))) (
        ap not well,
        (
          ap not (eq-eqb (length (entries_of v)) l.size.count p.size),
          (
            ap not (eq-eqb (length ws) (length (pairs l.size.count)) weights.one_per_pair),
            (or_none (or_none (weights_pass ws weights.in_range) (le-ltb _ _ few)) (ap not counted), (p.turns, (p.outside, tt))),
          ),
        ),
      )
      ∙ ap (λ (w : Layout). given (guide (job_of l) K budget ws w)) (entries_read_back v)

-- ── what a run leaves in lent memory ──

-- after a descent the layout buffer holds the layout at the end
pub descent_left : (l : Lent) (es : List (List ℕ)) (ws : List ℕ) (budget : ℕ) (d : Descent) → descent_call l es ws budget ≡ given d
    → layout_of (descent_after es (descent_call l es ws budget)) ≡ d.layout
descent_left l es ws budget d e = rw e (entries_read_back d.layout)

-- after a guided run the layout buffer holds the best layout, and the weight buffer the new weights
pub guided_left : (l : Lent) (es : List (List ℕ)) (ws : List ℕ) (K budget : ℕ) (g : Guided) → guided_call l es ws K budget ≡ given g
    → (layout_of (best_after_run es (guided_call l es ws K budget)) ≡ g.layout) × (weights_after_run ws (guided_call l es ws K budget) ≡ g.weights)
guided_left l es ws K budget g e = rw e (entries_read_back g.layout, refl)
