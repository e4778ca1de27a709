-- What a step of the cut list hands over (document 02, point 2): the number of its word, and its point where it has one. Assumes nothing.
use Rattle.std.specs.Prelude.{true, false, ℕ, eqb, Float}
use Rattle.model.specs.declared.CutStep.{CutStep}
use Rattle.model.specs.declared.CutStep.TheVariants.{Lift, Cut, Done}

-- the word: 0 done, 1 lift, 2 cut
abbrev pub step_word : CutStep → ℕ
step_word Done = 0
step_word (Lift x y) = 1
step_word (Cut x y) = 2

-- the point's x, over what was there before: where the list is done that stays
abbrev pub step_x : Float → CutStep → Float
step_x before Done = before
step_x before (Lift x y) = x
step_x before (Cut x y) = x

-- the point's y, likewise
abbrev pub step_y : Float → CutStep → Float
step_y before Done = before
step_y before (Lift x y) = y
step_y before (Cut x y) = y

-- the step that a word and a point tell
abbrev pub told_step : ℕ → Float → Float → CutStep
told_step word x y = elim (eqb word 0) [ true ↦ Done | false ↦ elim (eqb word 1) [ true ↦ Lift x y | false ↦ Cut x y ] ]
