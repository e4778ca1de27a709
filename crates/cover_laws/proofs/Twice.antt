-- Document 01, 'Start, layout text, sheet', one computed example: a second lay and a second withdraw of a piece are refused and leave
-- the counts alone. Sheet of 2 rows and 3 columns, two full 2 × 2 pieces. Assumes nothing.
use Rattle.list_laws.proofs.Kit.{◌≡◌, refl, false, true, List, [], ◌∷◌, ℕ}
use Rattle.model.specs.Piece.{allows}
use Rattle.model.specs.Layout.{Job, inside}
use Rattle.model.specs.Refusal.{unless}
use Rattle.model.specs.Cover.{covers_pixel, map_from, fresh, lay, withdraw, lay_causes}
use Rattle.model.specs.Cover.{withdraw_causes, Call, laying, withdrawing, called, after_calls}
use Rattle.model.specs.declared.Turn.TheVariants.{Zero}
use Rattle.model.specs.declared.Placement.{Placement}

-- the job: both pieces in turn 0 only
two_squares : Job
two_squares =
    record {
      size = record { rows = 2; columns = 3; count = 2; gap = 0 };
      piece = λ i. record { shape = record { columns = 2; rows = 2; has = λ x y. true }; turns = 1; locked = false };
    }

-- turn 0 at column x of row 0
at_column : ℕ → Placement
at_column x = record { turn = Zero; x = record { 0 = x }; y = record { 0 = 0 } }

-- the counts after a list of calls
counts_left : List Call → List ℕ
counts_left cs = (after_calls two_squares (fresh two_squares) cs).counts

-- two pieces laid, the second one again elsewhere, which is refused: they share column 1
laid_twice : counts_left (laying 0 (at_column 0) ∷ laying 1 (at_column 1) ∷ laying 1 (at_column 0) ∷ []) ≡ 1 ∷ 2 ∷ 1 ∷ 1 ∷ 2 ∷ 1 ∷ []
unfolding counts_left two_squares at_column covers_pixel map_from fresh lay withdraw lay_causes withdraw_causes called after_calls unless inside allows
laid_twice = refl

-- the first one withdrawn, and once more, which is refused: the second one's count stays
withdrawn_twice : counts_left (laying 0 (at_column 0) ∷ laying 1 (at_column 1) ∷ withdrawing 0 ∷ withdrawing 0 ∷ []) ≡ 0 ∷ 1 ∷ 1 ∷ 0 ∷ 1 ∷ 1 ∷ []
unfolding counts_left two_squares at_column covers_pixel map_from fresh lay withdraw lay_causes withdraw_causes called after_calls unless inside allows
withdrawn_twice = refl
