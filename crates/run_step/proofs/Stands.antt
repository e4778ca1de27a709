-- Where a descent stands after a trial, and how large its numbers are. Assumes nothing.
use Rattle.list_laws.proofs.Kit.{◌∙◌, ◌≡◌, ap, sym, true, some, List, ◌<◌, ◌≤◌, ℕ, add-one, arith, get_or, length, length-map}
use Rattle.model.specs.Piece.{on_line}
use Rattle.model.specs.Layout.{Job, Layout, piece_sum, weighted_sum}
use Rattle.model.specs.Lent.{Lent, job_of, lent_well}
use Rattle.model.specs.Buffer.{layout_of}
use Rattle.model.specs.Search.{Best}
use Rattle.model.specs.Descent.{Trial, Attempt, moved, quiet, proceed, trial_after, trial_line, attempt, no_trial, step}
use Rattle.job_laws.proofs.Checked.{facts}
use Rattle.call_laws.proofs.Jobs.{lent_boxes_small}
use Rattle.descent_laws.specs.Claims.{ValidWeights}
use Rattle.descent_laws.specs.Sums.{sum_bound}
use Rattle.descent_laws.proofs.Bounds.{weighted_at_most}
use Rattle.search_laws.specs.PieceSum.{penalty_between}
use Rattle.search_laws.proofs.PieceSum.{piece_sum_lem, piece_sum_bound, running_bound, between_bound}
use Rattle.search_laws.proofs.Loop.{trial_moved}
use Rattle.run_trials.specs.Trials.{trial_of_code, trials_of}
use Rattle.run_step.specs.Steps.{entries_after, standing_as, after_quiet, after_move}
use Rattle.run_step.specs.declared.DescentState.{DescentState}
use Rattle.text_laws.proofs.Entries.{layout_set}

-- ── how large ──

module _ (l : Lent) (well : lent_well l ≡ true) (ws : List ℕ) (weights : ValidWeights (job_of l) ws) (v : Layout) where
  -- a piece's pair sum is at most 63 × 65,535 × 255
  pub present_small : (i : ℕ) → i < l.size.count → piece_sum (job_of l) ws v i ≤ piece_sum_bound
  unfolding job_of
  present_small i b =
      rw (piece_sum_lem (job_of l) ws v i b weights.one_per_pair)
      (running_bound (job_of l) ws i l.size.count (penalty_between (job_of l) v i) (facts l well).few_pieces weights b (omega arith)
      (λ k c d. between_bound (job_of l) (lent_boxes_small l well) v i k b c d))

  -- a weighted sum is below 2³⁵
  pub total_small : weighted_sum (job_of l) ws v ≤ sum_bound
  unfolding job_of
  total_small = weighted_at_most (job_of l) ws v (facts l well).few_pieces (lent_boxes_small l well) weights

-- ── after a trial ──

module _ (codes : List ℕ) (v : Layout) (s : DescentState) (next : ℕ) (isNext : next ≡ trial_after (length codes) s.next) where
  -- a quiet trial
  after_quiet_lem : (r : DescentState) → r ≡ after_quiet s next → standing_as v r ≡ proceed (length (trials_of codes)) (standing_as v s) quiet
  after_quiet_lem r e = rw (e, isNext, length-map codes trial_of_code, add-one s.quiet, add-one s.made)

  -- a move
  after_move_lem : (w : Layout) (r : DescentState) (sum : ℕ) → r ≡ after_move s next sum
      → standing_as w r ≡ proceed (length (trials_of codes)) (standing_as v s) (moved w)
  after_move_lem w r sum e = rw (e, isNext, length-map codes trial_of_code, add-one s.made, add-one s.moves)

  module _ (j : Job) (ws : List ℕ) (k : Trial) (isTrial : k ≡ get_or (trials_of codes) s.next no_trial) where
    -- the step is the trial's
    taken : (a : Attempt) → attempt j ws v k ≡ a
        → proceed (length (trials_of codes)) (standing_as v s) a ≡ step (weighted_sum j ws) (attempt j ws) (trials_of codes) (standing_as v s)
    taken a e = ap (proceed (length (trials_of codes)) (standing_as v s)) (sym e ∙ ap (attempt j ws v) isTrial)

    -- a step whose trial is quiet
    pub quiet_passed : (r : DescentState) → r ≡ after_quiet s next → attempt j ws v k ≡ quiet
        → standing_as v r ≡ step (weighted_sum j ws) (attempt j ws) (trials_of codes) (standing_as v s)
    quiet_passed r e q = after_quiet_lem r e ∙ taken quiet q

    -- a step whose trial moves
    pub moved_passed : (w : Layout) (r : DescentState) (sum : ℕ) → r ≡ after_move s next sum → attempt j ws v k ≡ moved w
        → standing_as w r ≡ step (weighted_sum j ws) (attempt j ws) (trials_of codes) (standing_as v s)
    moved_passed w r sum e m = after_move_lem w r sum e ∙ taken (moved w) m

-- the layout after a move
pub moved_layout : (es new : List (List ℕ)) (k : Trial) (b : Best)
    → new ≡ entries_after es k.piece k.turn (trial_line (layout_of es) k) (some b) → layout_of new ≡ trial_moved (layout_of es) k b.at
moved_layout es new k b e = ap layout_of e ∙ layout_set es k.piece (on_line (trial_line (layout_of es) k) k.turn b.at)
