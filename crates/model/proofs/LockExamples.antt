-- The tests of specs/LockExamples.antt pass, as the checker computes them. Assumes nothing.
use Rattle.std.specs.Prelude.{Bool, true, ◌≡◌, refl}
use Rattle.model.specs.LockExamples.{descended, descent_told, guided_told, in_a_row, lent_locks, lock_beyond, lock_examples, lock_set, locked_runs, long_table, others_stacked, piece_numbers, prints_locked, sheet_locked, sheet_told, start_refused, started_from, starts_locked, table_told, three_squares, trials_left, turned_stays, with_more}
use Rattle.model.specs.Cover.{after_calls, called, covers_pixel, fresh, lay, lay_causes, map_from, withdraw, withdraw_causes}
use Rattle.model.specs.Calls.{allowed_degrees, locked_outside, locked_turn_wrong, set_lock_call, start_call, with_lock}
use Rattle.model.specs.Piece.{allows, tight}
use Rattle.model.specs.Descent.{attempt, descend, descend_from, piece_trials, trials, trials_from, turn_trials}
use Rattle.model.specs.Guided.{best_after, guide, last_weights, made_in, moves_in, outcome, raised, raised_over, rounds}
use Rattle.model.specs.Overlap.{conflict, conflict_depth, conflict_penalty, free_at, near_to}
use Rattle.model.specs.Text.{decimal, digits_from, field_at, fields_at, fields_text, number_at, stands_at}
use Rattle.model.specs.Lent.{entry_fits, entry_in_range, job_of, lent_well, pixel_start, sheet_in_range}
use Rattle.model.specs.Start.{falling_order, free_only, insert, stack_all, start, start_of_all}
use Rattle.model.specs.Layout.{inside, leftmost, pair_conflicts, pair_penalty, pairs_from, pairs_with, piece_sum, plain_sum, rightmost, sum_over, unit_weights, used_length, weighted_sum}
use Rattle.model.specs.JobText.{job_line, mark_at, marks_at, piece_at, piece_line, pieces_at, read_job, row_at, rows_at}
use Rattle.model.specs.LayoutText.{layout_text, placements_text}
use Rattle.model.specs.Search.{least, places, search_line, sum_at}
use Rattle.model.specs.Program.{program_run, program_text, run_text, word_line}
use Rattle.model.specs.Buffer.{same_entries, same_numbers, turn_of, turn_of_degrees}
use Rattle.model.specs.Refusal.{unless}

-- locked pieces are as document 02 says
pub lock_examples_hold : lock_examples ≡ true
unfolding lock_examples lent_locks lock_set long_table with_more lock_beyond trials_left guided_told locked_runs starts_locked start_refused turned_stays
    others_stacked prints_locked sheet_locked three_squares table_told piece_numbers descent_told in_a_row descended started_from sheet_told same_entries same_numbers
    turn_of_degrees turn_of covers_pixel map_from fresh lay withdraw lay_causes withdraw_causes called after_calls word_line run_text program_run program_text near_to
    conflict free_at conflict_depth conflict_penalty pairs_with pairs_from pair_conflicts pair_penalty sum_over weighted_sum plain_sum piece_sum unit_weights
    rightmost leftmost used_length lent_well entry_in_range entry_fits sheet_in_range allowed_degrees locked_turn_wrong locked_outside start_call with_lock set_lock_call
    places sum_at least search_line turn_trials piece_trials trials_from trials attempt descend_from descend raised_over raised rounds best_after last_weights
    made_in moves_in outcome guide insert falling_order free_only stack_all start start_of_all allows tight inside unless job_of pixel_start stands_at digits_from
    number_at field_at fields_at decimal fields_text job_line piece_line mark_at marks_at row_at rows_at piece_at pieces_at read_job placements_text layout_text
lock_examples_hold = refl
