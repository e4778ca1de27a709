-- The tests of specs/Examples.antt pass, as the checker computes them. Assumes nothing.
use Rattle.std.specs.Prelude.{Bool, true, ◌≡◌, refl}
use Rattle.model.specs.Examples.{P1, P10, P11, P12, P2, P3, P3wide, P4, P5, P5wide, P6, P7, P8, P9, P9wide, at, both_count, descent_of, examples, flat_best, flat_descent, flat_runs, flat_strips, measures, place, rings_hole, shape_a, shape_b, shape_d, shape_e, signed, two_squares}
use Rattle.model.specs.Descent.{attempt, descend, descend_from, piece_trials, trials, trials_from, turn_trials}
use Rattle.model.specs.Overlap.{conflict, conflict_depth, conflict_penalty, free_at, near_to, no_fit, no_fit_at}
use Rattle.model.specs.Layout.{inside, pair_penalty, pairs_from, pairs_with, piece_sum, sum_over, weighted_sum}
use Rattle.model.specs.Search.{least, places, search_line, sum_at}
use Rattle.model.specs.Strip.{runs_from, strips_from}
use Rattle.model.specs.Buffer.{same_numbers}

-- P1 to P12 hold of the definitions, and so do those with a gap
pub examples_hold : examples ≡ true
unfolding examples P1 P2 P3 P4 P5 P6 P7 P8 P9 P10 P11 P12 rings_hole P3wide P5wide P9wide both_count same_numbers flat_strips signed flat_runs flat_best
    flat_descent shape_a shape_b shape_d shape_e at place two_squares measures descent_of runs_from strips_from no_fit_at no_fit near_to conflict free_at
    conflict_depth conflict_penalty pairs_with pairs_from pair_penalty sum_over weighted_sum piece_sum inside places sum_at least search_line turn_trials
    piece_trials trials_from trials attempt descend_from descend Rattle.model.specs.Piece.allows
examples_hold = refl
