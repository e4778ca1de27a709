-- What is said of a used length, of a preview, of a start, of a push, of no-fit offsets, of a cut list and of a run, over the numbers that C is given:
-- they are those of the call, and a reply of number 0 tells that it was not refused, since every cause of a refusal has a number other than 0.
-- Assumes nothing.
use Rattle.list_laws.proofs.Kit.{◌∙◌, ◌≡◌, ap, subst, sym, Option, none, some, List, ◌<◌, ℕ, arith, ℤ}
use Rattle.model.specs.Layout.{Job, Layout, Pair, conflicting_pair}
use Rattle.model.specs.Lent.{Lent, job_of}
use Rattle.model.specs.Refusal.{refused}
use Rattle.model.specs.Calls.{layout_causes, conflict_cause, used_length_call, preview_call, LentStretch, no_fit_call, cut_lines_call, cut_step_call, line_step_call}
use Rattle.model.specs.Calls.{compact_call, descent_call, guided_call, start_call}
use Rattle.model.specs.declared.Direction.{Direction}
use Rattle.model.specs.declared.End.{End}
use Rattle.model.specs.declared.Placement.{Placement}
use Rattle.model.specs.declared.Refusal.{Refusal}
use Rattle.model.specs.Buffer.{end_number, layout_of}
use Rattle.descent_laws.specs.Claims.{DescentClaims}
use Rattle.run_descent.specs.Descents.{descent_of}
use Rattle.run_descent.specs.declared.Ended.{Ended}
use Rattle.c_results.specs.Runs.{end_told, descent_told}
use Rattle.c_results.proofs.Runs.{end_back}
use Rattle.sigbrol.proofs.Told.{refused_numbered}

-- what holds of a descent holds of the one that its numbers tell
pub descent_claimed : (j : Job) (ws : List ℕ) (budget : ℕ) (from to : Layout) (e : Ended) (k : ℕ) → k ≡ end_number e.end
    → DescentClaims j ws budget from (descent_of e to) → DescentClaims j ws budget from (descent_told k e.sum e.made e.moves to)
descent_claimed j ws budget from to e k h claims =
    subst (λ (end : End). DescentClaims j ws budget from (record { end = end; layout = to; sum = e.sum; made = e.made; moves = e.moves }))
    (sym (ap end_told h ∙ end_back e.end)) claims

-- a refused used length has a number
pub used_numbered : (l : Lent) (es : List (List ℕ)) (r : Refusal) → used_length_call l es ≡ refused r → 0 < r.number
unfolding used_length_call layout_causes
used_numbered l es r e = refused_numbered _ _ r (omega arith, (omega arith, (omega arith, (omega arith, tt)))) e

-- a refused preview has one
pub preview_numbered : (l : Lent) (es : List (List ℕ)) (ws : List ℕ) (i : ℕ) (p : Placement) (r : Refusal) → preview_call l es ws i p ≡ refused r
    → 0 < r.number
unfolding preview_call
preview_numbered l es ws i p r e =
    refused_numbered _ _ r (omega arith, (omega arith, (omega arith, (omega arith, (omega arith, (omega arith, (omega arith, tt))))))) e

-- a refused start has one
pub start_numbered : (l : Lent) (es : List (List ℕ)) (r : Refusal) → start_call l es ≡ refused r → 0 < r.number
unfolding start_call
start_numbered l es r e = refused_numbered _ _ r (omega arith, (omega arith, (omega arith, (omega arith, tt)))) e

-- a refused no-fit row or column has one
pub no_fit_numbered : (d : Direction) (l : Lent) (p q : LentStretch) (o : ℤ) (room : ℕ) (r : Refusal) → no_fit_call d l p q o room ≡ refused r
    → 0 < r.number
unfolding no_fit_call
no_fit_numbered d l p q o room r e = refused_numbered _ _ r (omega arith, (omega arith, (omega arith, (omega arith, tt)))) e

-- the cause of a conflict has one, whether it is there or not
shared_numbered : (o : Option Pair) → 0 < (conflict_cause o).number
shared_numbered none = omega arith
shared_numbered (some p) = omega arith

-- a refused push has one
pub compact_numbered : (l : Lent) (es : List (List ℕ)) (r : Refusal) → compact_call l es ≡ refused r → 0 < r.number
unfolding compact_call layout_causes
compact_numbered l es r e =
    let shared = shared_numbered (conflicting_pair (job_of l) (layout_of es)) in
    refused_numbered _ _ r (omega arith, (omega arith, (omega arith, (omega arith, (shared, tt))))) e

-- refused lines of a cut list have one
pub cut_lines_numbered : (l : Lent) (es : List (List ℕ)) (room : ℕ) (r : Refusal) → cut_lines_call l es room ≡ refused r → 0 < r.number
unfolding cut_lines_call layout_causes
cut_lines_numbered l es room r e =
    let shared = shared_numbered (conflicting_pair (job_of l) (layout_of es)) in
    refused_numbered _ _ r (omega arith, (omega arith, (omega arith, (omega arith, (shared, (omega arith, tt)))))) e

-- and a refused step of lent lines
pub line_step_numbered : (lines : List (List ℕ)) (pitch k : ℕ) (r : Refusal) → line_step_call lines pitch k ≡ refused r → 0 < r.number
unfolding line_step_call
line_step_numbered lines pitch k r e = refused_numbered _ _ r (omega arith, tt) e

-- so has a refused step of a layout
pub cut_step_numbered : (l : Lent) (es : List (List ℕ)) (pitch k : ℕ) (r : Refusal) → cut_step_call l es pitch k ≡ refused r → 0 < r.number
unfolding cut_step_call
cut_step_numbered l es pitch k r e =
    let shared = shared_numbered (conflicting_pair (job_of l) (layout_of es)) in
    refused_numbered _ _ r (omega arith, (omega arith, (omega arith, (omega arith, (omega arith, (shared, tt)))))) e

-- a refused descent has a number
pub descent_numbered : (l : Lent) (es : List (List ℕ)) (ws : List ℕ) (budget : ℕ) (r : Refusal) → descent_call l es ws budget ≡ refused r
    → 0 < r.number
unfolding descent_call
descent_numbered l es ws budget r e =
    refused_numbered _ _ r (omega arith, (omega arith, (omega arith, (omega arith, (omega arith, (omega arith, tt)))))) e

-- and so has a refused guided run
pub guided_numbered : (l : Lent) (es : List (List ℕ)) (ws : List ℕ) (count budget : ℕ) (r : Refusal) → guided_call l es ws count budget ≡ refused r
    → 0 < r.number
unfolding guided_call
guided_numbered l es ws count budget r e =
    refused_numbered _ _ r (omega arith, (omega arith, (omega arith, (omega arith, (omega arith, (omega arith, tt)))))) e
