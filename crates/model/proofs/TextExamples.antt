-- The tests of specs/TextExamples.antt pass, as the checker computes them. Assumes nothing.
use Rattle.std.specs.Prelude.{Bool, true, ◌≡◌, refl}
use Rattle.model.specs.TextExamples.{bars, box_areas, example, first_row_line, flat, flat_layout, flat_lent, flat_piece, flat_pieces, gap_layout, gap_line_form, gap_lines, job_line_form, job_line_range, joined, later_pieces, layout_damaged, layout_refuses, layout_with, layout_written, lock_line_form, lock_lines, locked_example, locked_squares, piece_lines, piece_one, read_with, reads, refuses, row_lines, row_of, second_piece, start_text, text_examples, turned_text, turns_read, with_gap}
use Rattle.model.specs.Piece.{allows, tight}
use Rattle.model.specs.Text.{decimal, digits_from, field_at, fields_at, fields_text, number_at, stands_at}
use Rattle.model.specs.Start.{falling_order, insert, stack_all, start_of_all}
use Rattle.model.specs.Layout.{inside}
use Rattle.model.specs.Buffer.{is_turn, same_numbers, turn_of, turn_of_degrees}
use Rattle.model.specs.JobText.{job_line, mark_at, marks_at, piece_at, piece_line, pieces_at, read_job, row_at, rows_at}
use Rattle.model.specs.Lent.{job_of, pixel_start}
use Rattle.model.specs.LayoutText.{layout_line, layout_text, placement_line, placements_at, placements_text, read_layout}
use Rattle.model.specs.Refusal.{unless}

-- a piece is read so
pub first_row_line_holds : first_row_line ≡ true
unfolding first_row_line row_of flat same_numbers tight unless job_of pixel_start stands_at digits_from number_at field_at fields_at job_line piece_line mark_at marks_at
    row_at rows_at piece_at pieces_at read_job
first_row_line_holds = refl

-- the texts are read, written and refused as the documents say
pub text_examples_hold : text_examples ≡ true
unfolding text_examples reads job_line_form job_line_range gap_lines gap_line_form lock_lines lock_line_form piece_lines box_areas row_lines layout_written gap_layout
    layout_damaged turns_read locked_squares locked_example joined flat flat_lent flat_piece flat_pieces flat_layout example with_gap bars turned_text read_with
    refuses piece_one second_piece later_pieces layout_with layout_refuses start_text same_numbers tight allows inside unless job_of pixel_start stands_at
    digits_from number_at field_at fields_at decimal fields_text job_line piece_line mark_at marks_at row_at rows_at piece_at pieces_at read_job turn_of_degrees is_turn
    turn_of placements_text layout_text layout_line placement_line placements_at read_layout start_of_all stack_all falling_order insert
text_examples_hold = refl
