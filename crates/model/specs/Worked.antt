-- Worked examples beside P1 to P12, one test that the checker computes: what the program prints for document 01's two examples, for
-- a refused job and at the limit of its input, a start layout with pieces of equal length and a full stack, the used length of a layout
-- that leaves cloth on its left, previews of a move, the check of a layout with a gap, and a piece of separate parts. Assumes nothing.
use Rattle.std.specs.Prelude.{Bool, true, false, ◌&&◌, ◌||◌, List, [], ◌∷◌, map, ◌≡◌, refl, ℕ, eqb, get_or, replicate}
use Prim.Native.String.{◌++◌ as ◌++ᵗ◌}
use Rattle.model.specs.Piece.{Shape, allows, tight}
use Rattle.model.specs.Strip.{runs_from, strips_from, strips}
use Rattle.model.specs.Overlap.{near_to, conflict, free_at, conflict_depth, conflict_penalty}
use Rattle.model.specs.Layout.{Job, Layout, pairs_with, pairs_from, pair_conflicts, pair_penalty, sum_over, weighted_sum, plain_sum, piece_sum, unit_weights}
use Rattle.model.specs.Layout.{rightmost, leftmost, used_length, figures, first_pair, conflicting_pair, inside, place_of}
use Rattle.model.specs.Search.{places, sum_at, least, search_line}
use Rattle.model.specs.Descent.{turn_trials, piece_trials, trials_from, trials, attempt, descend_from, descend}
use Rattle.model.specs.Guided.{raised_over, raised, rounds, best_after, last_weights, made_in, moves_in, outcome, guide}
use Rattle.model.specs.Start.{insert, falling_order, free_only, stack_all, start, start_of_all}
use Rattle.model.specs.Refusal.{Outcome, refused, given, unless}
use Rattle.model.specs.Lent.{Lent, lent_by, job_of, pixel_start, lent_well, entry_in_range, entry_fits, sheet_in_range}
use Rattle.model.specs.Buffer.{turn_of_degrees, turn_of, placement, strip_entry, same_numbers, same_entries}
use Rattle.model.specs.Text.{bytes, comma, stands_at, digits_from, number_at, field_at, fields_at, decimal, fields_text}
use Rattle.model.specs.JobText.{job_line, piece_line, mark_at, marks_at, row_at, rows_at, piece_at, pieces_at, read_job}
use Rattle.model.specs.LayoutText.{placements_text, layout_text}
use Rattle.model.specs.Program.{word_line, end_word, run_text, program_run, program_text}
use Rattle.model.specs.Cover.{covers_pixel, map_from, fresh, lay, lay_causes, laying, called, after_calls}
use Rattle.model.specs.Calls.{allowed_degrees, some_turn_wrong, some_outside, some_weight_wrong, layout_causes, preview_call, check_call}
use Rattle.model.specs.TextExamples.{squares}
use Rattle.model.specs.declared.Figures.{Figures}
use Rattle.model.specs.declared.Direction.TheVariants.{Horizontal, Vertical}

-- a full box
unfoldable pub full : ℕ → ℕ → Shape
full columns rows = record { columns = columns; rows = rows; has = λ x y. true }

-- ── the program ──

-- document 01's two full 2 × 2 pieces on a sheet of 2 rows and 4 columns, then 3; on 4 columns with a gap of 1; and a piece longer than
-- the sheet
unfoldable pub printed_text : Bool
printed_text =
    same_numbers (program_text (bytes ("job,1,2,4,2\n" ++ᵗ squares))) (bytes "layout,1,2,4,2\nat,0,0,0,0\nat,1,0,2,0\nend,clear,0,0,0,4\n")
    && same_numbers (program_text (bytes ("job,1,2,3,2\n" ++ᵗ squares))) (bytes "layout,1,2,3,2\nat,0,0,0,0\nat,1,0,1,0\nend,open,1,80,0,3\n")
    && same_numbers (program_text (bytes ("job,2,2,4,2,1\n" ++ᵗ squares))) (bytes "layout,1,2,4,2\nat,0,0,0,0\nat,1,0,2,0\nend,open,1,80,0,4\n")
    && same_numbers (program_text (bytes "job,1,2,4,2\npiece,0,5,2,1\n")) (bytes "refused,6,2\n")

-- an input of 65,536 bytes is read, and refused at its first line; one byte more is too much
unfoldable pub input_length : Bool
input_length =
    same_numbers (program_text (replicate 65536 comma)) (bytes "refused,1,1\n")
    && same_numbers (program_text (replicate 65537 comma)) (bytes "refused,7,0\n")

-- the last line of a plain sum of 2,016 times 255, more than any, which has more digits than a job's numbers
unfoldable pub largest_sum : Bool
largest_sum = same_numbers (word_line (end_word 514080) (514080 ∷ 20000 ∷ 0 ∷ 4096 ∷ [])) (bytes "end,open,514080,20000,0,4096\n")

-- two full 2 × 2 pieces, o = 1, on a sheet of 2 rows and so many columns, with a gap
unfoldable pub two_squares : ℕ → ℕ → Job
two_squares columns gap =
    record {
      size = record { rows = 2; columns = columns; count = 2; gap = gap };
      piece = λ i. record { shape = full 2 2; turns = 1; locked = false };
    }

-- the weight at the end of the program's run: 1 with L = 4, where the start is clear; raised by each of the 20 rounds with L = 3, and with
-- L = 4 and a gap of 1, where they lie side by side and share no pixel
unfoldable pub weights_left : Bool
weights_left =
    same_numbers (program_run (two_squares 4 0)).weights (1 ∷ []) && same_numbers (program_run (two_squares 3 0)).weights (21 ∷ [])
    && same_numbers (program_run (two_squares 4 1)).weights (21 ∷ [])

-- ── a start layout ──

-- boxes of 2 × 2, 3 × 2, 2 × 2 and 1 × 4 on a sheet of 4 rows and 6 columns
unfoldable pub four_boxes : Job
four_boxes =
    record {
      size = record { rows = 4; columns = 6; count = 4; gap = 0 };
      piece = λ i. record { shape = get_or (full 2 2 ∷ full 3 2 ∷ full 2 2 ∷ full 1 4 ∷ []) i (full 1 1); turns = 1; locked = false };
    }

-- the corners of the first four pieces of a layout, x and y of each
unfoldable pub corners : Layout → List ℕ
corners v =
    (place_of v 0).x.0 ∷ (place_of v 0).y.0 ∷ (place_of v 1).x.0 ∷ (place_of v 1).y.0 ∷ (place_of v 2).x.0 ∷ (place_of v 2).y.0
    ∷ (place_of v 3).x.0 ∷ (place_of v 3).y.0 ∷ []

-- piece 1 is the longest, 0 fills its stack, 2 of the same length as 0 begins the next, and 3 does not fit on top of 2
unfoldable pub started : Bool
started = same_numbers (corners (start_of_all four_boxes)) (0 ∷ 2 ∷ 0 ∷ 0 ∷ 3 ∷ 0 ∷ 5 ∷ 0 ∷ [])

-- ── the used length ──

-- a box of 2 × 2, a bar of 4 columns and a bar of 3 rows on a sheet of 4 rows and 9 columns
unfoldable pub three_bars : Job
three_bars =
    record {
      size = record { rows = 4; columns = 9; count = 3; gap = 0 };
      piece = λ i. record { shape = get_or (full 2 2 ∷ full 4 1 ∷ full 1 3 ∷ []) i (full 1 1); turns = 15; locked = false };
    }

-- the box at column 4; the bar of 4 columns stands upright at column 6 and ends at 7; the other lies flat, from column 2 to 5
unfoldable pub free_on_the_left : Layout
free_on_the_left = placement 0 4 0 ∷ placement 90 6 0 ∷ placement 270 2 2 ∷ []

-- the same layout two columns further left
unfoldable pub at_the_edge : Layout
at_the_edge = placement 0 2 0 ∷ placement 90 4 0 ∷ placement 270 0 2 ∷ []

-- from 2 to 7, and from 0 to 5
unfoldable pub lengths_used : Bool
lengths_used = same_numbers (used_length three_bars free_on_the_left ∷ used_length three_bars at_the_edge ∷ []) (5 ∷ 5 ∷ [])

-- ── the preview of a move ──

-- three full 2 × 2 pieces, o = 1, lent for a sheet of 2 rows and 9 columns with a gap
unfoldable pub three_squares : ℕ → Lent
three_squares gap = lent_by (record { rows = 2; columns = 9; count = 3; gap = gap }) (replicate 3 (2 ∷ 2 ∷ 1 ∷ 0 ∷ [])) (replicate 12 1)

-- their layout in turn 0 with corners at three columns
unfoldable pub in_a_row : ℕ → ℕ → ℕ → List (List ℕ)
in_a_row a b c = (0 ∷ a ∷ 0 ∷ []) ∷ (0 ∷ b ∷ 0 ∷ []) ∷ (0 ∷ c ∷ 0 ∷ []) ∷ []

-- what a preview tells: 0, the sum and the used length, or a refusal's number
unfoldable pub told : Outcome Figures → List ℕ
told (refused r) = r.number ∷ []
told (given f) = 0 ∷ f.sum ∷ f.length ∷ []

-- the first two lie at columns 1 and 2, where they share one, the third at column a; by weights 3, 5 and 7, it is shown in the degrees at column x
unfoldable pub shown : ℕ → ℕ → ℕ → List ℕ
shown a d x = told (preview_call (three_squares 0) (in_a_row 1 2 a) (3 ∷ 5 ∷ 7 ∷ []) 2 (placement d x 0))

-- from column 5: at 2 it lies on the second and shares a column with the first, at 3 one with the second, at 5 it stays, at 7 it is further off
unfoldable pub figures_shown : Bool
figures_shown =
    same_entries (shown 5 0 2 ∷ shown 5 0 3 ∷ shown 5 0 5 ∷ shown 5 0 7 ∷ [])
    ((0 ∷ 22 ∷ 3 ∷ []) ∷ (0 ∷ 10 ∷ 4 ∷ []) ∷ (0 ∷ 3 ∷ 6 ∷ []) ∷ (0 ∷ 3 ∷ 8 ∷ []) ∷ [])

-- refused where it lies outside, where it would lie outside, and in a turn that is not allowed to it
unfoldable pub shows_refused : Bool
shows_refused = same_entries (shown 8 0 3 ∷ shown 5 0 8 ∷ shown 5 90 3 ∷ []) ((10 ∷ []) ∷ (10 ∷ []) ∷ (9 ∷ []) ∷ [])

-- ── the check of a layout ──

-- what a check tells: 0, or a refusal's number and its places
unfoldable pub verdict : Outcome (Unit {0}) → List ℕ
verdict (refused r) = r.number ∷ r.first ∷ r.second ∷ []
verdict (given u) = 0 ∷ []

-- squares 1 and 2 side by side are refused by a gap of 1, as that pair, and pass without a gap; with a free column between any two they
-- pass by a gap of 1, though they touch the sheet's edges, which no gap is asked to
unfoldable pub checked : Bool
checked =
    same_entries
    (verdict (check_call (three_squares 1) (in_a_row 0 3 5)) ∷ verdict (check_call (three_squares 0) (in_a_row 0 3 5))
    ∷ verdict (check_call (three_squares 1) (in_a_row 0 3 7)) ∷ [])
    ((12 ∷ 1 ∷ 2 ∷ []) ∷ (0 ∷ []) ∷ (0 ∷ []) ∷ [])

-- ── a piece of separate parts ──

-- two pixels, (0, 0) and (2, 1), in a box of 3 columns and 2 rows; they do not touch, and column 1 has none
unfoldable pub parts : Shape
parts = record { columns = 3; rows = 2; has = λ x y. (eqb x 0 && eqb y 0) || (eqb x 2 && eqb y 1) }

-- its penalty with a single pixel at (x, y) of its box
unfoldable pub beside : ℕ → ℕ → ℕ
beside x y = conflict_penalty 0 parts (record { x = 0; y = 0 }) (full 1 1) (record { x = x; y = y })

-- the piece of two parts and a single pixel on a sheet of 2 rows and 4 columns; the gap plays no part in counts
unfoldable pub parts_and_pixel : Job
parts_and_pixel =
    record {
      size = record { rows = 2; columns = 4; count = 2; gap = 1 };
      piece = λ i. record { shape = get_or (parts ∷ full 1 1 ∷ []) i (full 1 1); turns = 1; locked = false };
    }

-- its box is not loose; each part is a row strip and a column strip; a pixel between the parts has penalty 0, one on a part has 1;
-- laid at (1, 0), with the single pixel between the parts at (2, 0), it counts on its own two pixels only
unfoldable pub separate_parts : Bool
separate_parts =
    tight parts && same_entries (map strip_entry (strips Horizontal parts)) ((0 ∷ 0 ∷ 1 ∷ []) ∷ (1 ∷ 2 ∷ 1 ∷ []) ∷ [])
    && same_entries (map strip_entry (strips Vertical parts)) ((0 ∷ 0 ∷ 1 ∷ []) ∷ (2 ∷ 1 ∷ 1 ∷ []) ∷ [])
    && same_numbers (beside 1 0 ∷ beside 1 1 ∷ beside 0 0 ∷ beside 2 1 ∷ []) (0 ∷ 0 ∷ 1 ∷ 1 ∷ [])
    && same_numbers (after_calls parts_and_pixel (fresh parts_and_pixel) (laying 0 (placement 0 1 0) ∷ [])).counts
    (0 ∷ 1 ∷ 0 ∷ 0 ∷ 0 ∷ 0 ∷ 0 ∷ 1 ∷ [])
    && same_numbers (after_calls parts_and_pixel (fresh parts_and_pixel) (laying 0 (placement 0 1 0) ∷ laying 1 (placement 0 2 0) ∷ [])).counts
    (0 ∷ 1 ∷ 1 ∷ 0 ∷ 0 ∷ 0 ∷ 0 ∷ 1 ∷ [])

-- all of them
unfoldable pub worked : Bool
worked = printed_text && input_length && largest_sum && weights_left && started && lengths_used && figures_shown && shows_refused && checked && separate_parts
