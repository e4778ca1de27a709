-- The tests of specs/Worked.antt pass, as the checker computes them. Assumes nothing.
use Rattle.std.specs.Prelude.{Bool, true, ◌≡◌, refl}
use Rattle.model.specs.Worked.{at_the_edge, beside, checked, corners, figures_shown, four_boxes, free_on_the_left, full, in_a_row, input_length, largest_sum, lengths_used, parts, parts_and_pixel, printed_text, separate_parts, shown, shows_refused, started, three_bars, three_squares, told, two_squares, verdict, weights_left, worked}
use Rattle.model.specs.Cover.{after_calls, called, covers_pixel, fresh, lay, lay_causes, map_from}
use Rattle.model.specs.Calls.{allowed_degrees, check_call, layout_causes, preview_call, some_outside, some_turn_wrong, some_weight_wrong}
use Rattle.model.specs.Piece.{allows, tight}
use Rattle.model.specs.Descent.{attempt, descend, descend_from, piece_trials, trials, trials_from, turn_trials}
use Rattle.model.specs.Guided.{best_after, guide, last_weights, made_in, moves_in, outcome, raised, raised_over, rounds}
use Rattle.model.specs.Overlap.{conflict, conflict_depth, conflict_penalty, free_at, near_to}
use Rattle.model.specs.Layout.{conflicting_pair, figures, first_pair, inside, leftmost, pair_conflicts, pair_penalty, pairs_from, pairs_with, piece_sum, plain_sum, rightmost, sum_over, unit_weights, used_length, weighted_sum}
use Rattle.model.specs.Text.{decimal, digits_from, field_at, fields_at, fields_text, number_at, stands_at}
use Rattle.model.specs.Lent.{entry_fits, entry_in_range, job_of, lent_well, pixel_start, sheet_in_range}
use Rattle.model.specs.Start.{falling_order, free_only, insert, stack_all, start, start_of_all}
use Rattle.model.specs.JobText.{job_line, mark_at, marks_at, piece_at, piece_line, pieces_at, read_job, row_at, rows_at}
use Rattle.model.specs.LayoutText.{layout_text, placements_text}
use Rattle.model.specs.Search.{least, places, search_line, sum_at}
use Rattle.model.specs.Program.{program_run, program_text, run_text, word_line}
use Rattle.model.specs.Strip.{runs_from, strips_from}
use Rattle.model.specs.Buffer.{same_entries, same_numbers, turn_of, turn_of_degrees}
use Rattle.model.specs.Refusal.{unless}

-- the worked examples hold of the definitions
pub worked_hold : worked ≡ true
unfolding worked printed_text input_length largest_sum weights_left started lengths_used three_bars free_on_the_left at_the_edge figures_shown shows_refused shown told
    three_squares in_a_row verdict checked separate_parts parts beside parts_and_pixel same_entries turn_of_degrees turn_of runs_from strips_from covers_pixel map_from
    fresh lay lay_causes called after_calls corners two_squares four_boxes full word_line run_text program_run program_text same_numbers near_to conflict free_at
    conflict_depth conflict_penalty pairs_with pairs_from pair_conflicts pair_penalty sum_over weighted_sum plain_sum piece_sum unit_weights rightmost leftmost
    used_length figures first_pair conflicting_pair layout_causes check_call preview_call lent_well entry_in_range entry_fits sheet_in_range allowed_degrees
    some_turn_wrong some_outside some_weight_wrong places sum_at least search_line turn_trials piece_trials trials_from trials attempt descend_from descend
    raised_over raised rounds best_after last_weights made_in moves_in outcome guide insert falling_order free_only stack_all start start_of_all allows tight inside
    unless job_of pixel_start stands_at digits_from number_at field_at fields_at decimal fields_text job_line piece_line mark_at marks_at row_at rows_at piece_at
    pieces_at read_job placements_text layout_text
worked_hold = refl
