-- What the causes leave where none is there: a job that passes its check, a layout buffer that holds a valid layout, valid weights, and
-- nothing wrong of the call's own. Assumes nothing.
use Rattle.list_laws.proofs.Kit.{◌≡◌, Bool, false, true, List, ◌<◌, ◌≤◌, ℕ, eqb, length, eqb-true, not-false}
use Rattle.model.specs.Layout.{allowed}
use Rattle.model.specs.Lent.{Lent, job_of}
use Rattle.model.specs.Calls.{some_turn_wrong, some_weight_wrong, job_cause, layout_length, turns_cause, outside_cause, layout_causes, placing_causes}
use Rattle.list_laws.proofs.Tests.{or_neither}
use Rattle.job_laws.proofs.Checked.{facts}
use Rattle.text_laws.specs.Outcomes.{NoCause}
use Rattle.descent_laws.specs.Claims.{ValidWeights}
use Rattle.descent_laws.specs.LentLayout.{Laid}
use Rattle.call_laws.proofs.Layouts.{job_well, layout_valid, lent_weights_valid, placing_given}
use Rattle.model.specs.declared.Turn.{Turn}
use Rattle.causes.specs.Asked.{weighted_causes}

-- none of the four causes of a layout is there
pub laid_by : (l : Lent) (es : List (List ℕ)) → (job_cause l).there ≡ false → (layout_length l es).there ≡ false → (turns_cause l es).there ≡ false
    → (outside_cause l es).there ≡ false → Laid l es
laid_by l es job size turns outside =
    record {
      well = job_well l job;
      whole = eqb-true (length es) l.size.count (not-false (eqb (length es) l.size.count) size);
      valid = layout_valid l es size turns outside;
    }

-- of a call on a layout alone
pub layout_laid : (l : Lent) (es : List (List ℕ)) → NoCause (layout_causes l es) → Laid l es
unfolding layout_causes
layout_laid l es h = laid_by l es h.0 h.1.0 h.1.1.0 h.1.1.1.0

-- the table of such a job has an entry for each piece
pub laid_entries : (l : Lent) (es : List (List ℕ)) → Laid l es → l.size.count ≤ length l.table
laid_entries l es laid = (facts l laid.well).entries

-- what holds of a call on a layout and weights
pub record Weighable (l : Lent) (es : List (List ℕ)) (ws : List ℕ) (number piece : Bool) : Type 0 where
  pub laid : Laid l es
  pub weights : ValidWeights (job_of l) ws
  pub right_number : number ≡ false
  pub right_piece : piece ≡ false

-- where none of its causes is there
pub weighted_passed : (l : Lent) (es : List (List ℕ)) (ws : List ℕ) (number piece : Bool) → NoCause (weighted_causes l es ws number piece)
    → Weighable l es ws number piece
weighted_passed l es ws number piece h =
    let numbers = or_neither (some_weight_wrong ws) number h.1.1.1.0 in
    let pieces = or_neither (some_turn_wrong (job_of l) es) piece h.1.1.1.1.0 in
    record {
      laid = laid_by l es h.0 h.1.0 pieces.0 h.1.1.1.1.1.0;
      weights = lent_weights_valid l ws h.1.1.0 numbers.0;
      right_number = numbers.1;
      right_piece = pieces.1;
    }

-- what holds of a call that would place a piece in a turn
pub record Placeable (l : Lent) (es : List (List ℕ)) (ws : List ℕ) (i : ℕ) (t : Turn) : Type 0 where
  pub laid : Laid l es
  pub weights : ValidWeights (job_of l) ws
  pub piece : i < l.size.count
  pub turn : allowed (job_of l) i t ≡ true

-- where none of its causes is there
pub placing_passed : (l : Lent) (es : List (List ℕ)) (ws : List ℕ) (i : ℕ) (t : Turn) → NoCause (placing_causes l es ws i t) → Placeable l es ws i t
placing_passed l es ws i t h =
    let g = placing_given l es ws i t h in
    record {
      laid = laid_by l es g.job g.size g.turns g.outside;
      weights = lent_weights_valid l ws g.weights_size g.weights_right;
      piece = g.piece;
      turn = g.turn;
    }
