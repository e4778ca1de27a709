-- The tests of specs/CutExamples.antt pass, as the checker computes them. Assumes nothing.
use Rattle.std.specs.Prelude.{Bool, true, ◌≡◌, refl}
use Rattle.model.specs.CutExamples.{at_the_edge, cut_examples, full, half_a_side, in_millimetres, job_with, listed, parts, pixel_alone, renumbered, ring, ring_lines, ring_shape, side_by_side, square_steps, squares, steps_in_millimetres, two_squares}
use Rattle.model.specs.Cut.{cut_lines, millimetres, side_count, side_of, sides, step_at, steps, total_length, unit_count}
use Rattle.std.specs.Float.Ieee.{div, eq, of_int, round}
use Rattle.model.specs.Strip.{runs_from, strips_from}
use Rattle.model.specs.Buffer.{same_entries, same_numbers, turn_of, turn_of_degrees}

-- they hold of the definitions
pub cut_examples_hold : cut_examples ≡ true
unfolding cut_examples squares square_steps ring renumbered parts pixel_alone half_a_side at_the_edge in_millimetres steps_in_millimetres
    full job_with listed two_squares side_by_side
    ring_shape ring_lines runs_from strips_from turn_of_degrees turn_of same_numbers same_entries
    side_of sides unit_count side_count total_length cut_lines steps step_at millimetres eq round of_int div
cut_examples_hold = refl
