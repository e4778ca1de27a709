-- Worked examples of locked pieces (document 02, point 6), one test that the checker computes: a lent lock, setting one, trials, descents with
-- locked pieces, a start with locked placements, what the program prints, and the withdrawing of a locked piece. Assumes nothing.
use Rattle.std.specs.Prelude.{Bool, true, not, ◌&&◌, List, [], ◌∷◌, ◌++◌, ◌≡◌, refl, ℕ, replicate}
use Rattle.model.specs.Piece.{allows, tight}
use Rattle.model.specs.Overlap.{near_to, conflict, free_at, conflict_depth, conflict_penalty}
use Rattle.model.specs.Layout.{pairs_with, pairs_from, pair_penalty, sum_over, weighted_sum, plain_sum, piece_sum, unit_weights, inside}
use Rattle.model.specs.Layout.{rightmost, leftmost, used_length, pair_conflicts}
use Rattle.model.specs.Search.{places, sum_at, least, search_line}
use Rattle.model.specs.Descent.{Trial, Descent, turn_trials, piece_trials, trials_from, trials, attempt, descend_from, descend}
use Rattle.model.specs.Guided.{Guided, raised_over, raised, rounds, best_after, last_weights, made_in, moves_in, outcome, guide}
use Rattle.model.specs.Start.{insert, falling_order, free_only, stack_all, start, start_of_all}
use Rattle.model.specs.Refusal.{Outcome, refused, given, unless}
use Rattle.model.specs.Lent.{Lent, lent_by, job_of, pixel_start, lent_well, entry_in_range, entry_fits, sheet_in_range}
use Rattle.model.specs.Buffer.{turn_of_degrees, turn_of, placement, entries_of, layout_of, end_number, same_numbers, same_entries}
use Rattle.model.specs.Text.{bytes, stands_at, digits_from, number_at, field_at, fields_at, decimal, fields_text}
use Rattle.model.specs.JobText.{job_line, piece_line, mark_at, marks_at, row_at, rows_at, piece_at, pieces_at, read_job}
use Rattle.model.specs.LayoutText.{placements_text, layout_text}
use Rattle.model.specs.Program.{word_line, run_text, program_run, program_text}
use Rattle.model.specs.Cover.{Sheet, covers_pixel, map_from, fresh, lay, withdraw, lay_causes, withdraw_causes, laying, withdrawing, called, after_calls}
use Rattle.model.specs.Calls.{allowed_degrees, locked_turn_wrong, locked_outside, layout_after, start_call, with_lock, set_lock_call, locked_after}

-- three full 2 × 2 pieces, o = 1, with their locks, lent for a sheet of 2 rows and so many columns
unfoldable pub three_squares : ℕ → ℕ → ℕ → ℕ → Lent
three_squares columns a b c =
    lent_by (record { rows = 2; columns = columns; count = 3; gap = 0 })
    ((2 ∷ 2 ∷ 1 ∷ a ∷ []) ∷ (2 ∷ 2 ∷ 1 ∷ b ∷ []) ∷ (2 ∷ 2 ∷ 1 ∷ c ∷ []) ∷ []) (replicate 12 1)

-- a lock of a lent table is 0 or 1
unfoldable pub lent_locks : Bool
lent_locks = lent_well (three_squares 9 0 1 1) && not (lent_well (three_squares 9 0 2 1)) && not (lent_well (three_squares 9 255 0 0))

-- ── setting a lock ──

-- what is told of setting one: a refusal's number, or the table
unfoldable pub table_told : Outcome (List (List ℕ)) → List (List ℕ)
table_told (refused r) = (r.number ∷ []) ∷ []
table_told (given table) = table

-- from the cutter's station it is set, and stays set; from the planner's 16; a station that is none is 2, before 9; no such piece is 9, before 16;
-- a table that is none is 8, before all
unfoldable pub lock_set : Bool
lock_set =
    same_entries (table_told (set_lock_call (three_squares 9 0 0 1) 1 1)) ((2 ∷ 2 ∷ 1 ∷ 0 ∷ []) ∷ (2 ∷ 2 ∷ 1 ∷ 1 ∷ []) ∷ (2 ∷ 2 ∷ 1 ∷ 1 ∷ []) ∷ [])
    && same_entries (table_told (set_lock_call (three_squares 9 0 0 1) 2 1)) ((2 ∷ 2 ∷ 1 ∷ 0 ∷ []) ∷ (2 ∷ 2 ∷ 1 ∷ 0 ∷ []) ∷ (2 ∷ 2 ∷ 1 ∷ 1 ∷ []) ∷ [])
    && same_entries (table_told (set_lock_call (three_squares 9 0 0 1) 1 0)) ((16 ∷ []) ∷ [])
    && same_entries (table_told (set_lock_call (three_squares 9 0 0 1) 2 0)) ((16 ∷ []) ∷ [])
    && same_entries (table_told (set_lock_call (three_squares 9 0 0 1) 3 1)) ((9 ∷ []) ∷ [])
    && same_entries (table_told (set_lock_call (three_squares 9 0 0 1) 3 0)) ((9 ∷ []) ∷ [])
    && same_entries (table_told (set_lock_call (three_squares 9 0 0 1) 3 2)) ((2 ∷ []) ∷ [])
    && same_entries (table_told (set_lock_call (three_squares 9 0 0 1) 1 2)) ((2 ∷ []) ∷ [])
    && same_entries (table_told (set_lock_call (three_squares 9 0 0 2) 3 2)) ((8 ∷ []) ∷ [])

-- the pieces of a list of trials
unfoldable pub piece_numbers : List Trial → List ℕ
piece_numbers [] = []
piece_numbers (k ∷ ks) = k.piece ∷ piece_numbers ks

-- two squares, with a third entry beyond them that is none
unfoldable pub long_table : List (List ℕ)
long_table = (2 ∷ 2 ∷ 1 ∷ 0 ∷ []) ∷ (2 ∷ 2 ∷ 1 ∷ 0 ∷ []) ∷ (0 ∷ 0 ∷ 0 ∷ 255 ∷ []) ∷ []

-- they are lent for a sheet of 2 rows and 9 columns
unfoldable pub with_more : Lent
with_more = lent_by (record { rows = 2; columns = 9; count = 2; gap = 0 }) long_table (replicate 8 1)

-- entries beyond the job's play no part and stay; a refusal leaves the table
unfoldable pub lock_beyond : Bool
lock_beyond =
    lent_well with_more && same_entries (table_told (set_lock_call with_more 2 1)) ((9 ∷ []) ∷ [])
    && same_entries (locked_after long_table (set_lock_call with_more 1 1)) ((2 ∷ 2 ∷ 1 ∷ 0 ∷ []) ∷ (2 ∷ 2 ∷ 1 ∷ 1 ∷ []) ∷ (0 ∷ 0 ∷ 0 ∷ 255 ∷ []) ∷ [])
    && same_entries (locked_after long_table (set_lock_call with_more 1 0)) long_table
    && same_numbers (piece_numbers (trials (job_of with_more))) (0 ∷ 0 ∷ 1 ∷ 1 ∷ [])

-- ── runs ──

-- how a descent ended, its sum, trials and moves, and degrees, x and y of each piece
unfoldable pub descent_told : Descent → List (List ℕ)
descent_told d = (end_number d.end ∷ d.sum ∷ d.made ∷ d.moves ∷ []) ∷ entries_of d.layout

-- squares in turn 0 with corners at three columns
unfoldable pub in_a_row : ℕ → ℕ → ℕ → List (List ℕ)
in_a_row a b c = (0 ∷ a ∷ 0 ∷ []) ∷ (0 ∷ b ∷ 0 ∷ []) ∷ (0 ∷ c ∷ 0 ∷ []) ∷ []

-- the descent of the squares from three columns, by weights 1, with a budget
unfoldable pub descended : Lent → List (List ℕ) → ℕ → List (List ℕ)
descended l es budget = descent_told (descend (job_of l) (1 ∷ 1 ∷ 1 ∷ []) budget (layout_of es))

-- each square has two trials, a locked one none
unfoldable pub trials_left : Bool
trials_left =
    same_numbers (piece_numbers (trials (job_of (three_squares 9 0 0 0)))) (0 ∷ 0 ∷ 1 ∷ 1 ∷ 2 ∷ 2 ∷ [])
    && same_numbers (piece_numbers (trials (job_of (three_squares 9 0 1 0)))) (0 ∷ 0 ∷ 2 ∷ 2 ∷ [])
    && same_numbers (piece_numbers (trials (job_of (three_squares 9 1 1 1)))) []

-- a guided run of so many rounds from three columns, by weights 1: sum, trials, moves, and the weights
unfoldable pub guided_told : Lent → List (List ℕ) → ℕ → ℕ → List ℕ
guided_told l es count budget =
    let g : Guided = guide (job_of l) count budget (1 ∷ 1 ∷ 1 ∷ []) (layout_of es) in
    g.sum ∷ g.made ∷ g.moves ∷ g.weights

-- from columns 0, 1 and 4 the first square moves if none is locked; if it is, the second one does; with the first two locked the third has two
-- quiet trials, for which a budget of 2 does and one of 1 is spent; with all locked none, and the budget may be 0; a guided run has all its rounds
-- then, and raises the weight of the pair that conflicts
unfoldable pub locked_runs : Bool
locked_runs =
    same_entries (descended (three_squares 9 0 0 0) (in_a_row 0 1 4) 9) ((0 ∷ 0 ∷ 1 ∷ 1 ∷ []) ∷ in_a_row 6 1 4)
    && same_entries (descended (three_squares 9 1 0 0) (in_a_row 0 1 4) 9) ((0 ∷ 0 ∷ 1 ∷ 1 ∷ []) ∷ in_a_row 0 2 4)
    && same_entries (descended (three_squares 9 1 1 0) (in_a_row 0 1 4) 9) ((1 ∷ 1 ∷ 2 ∷ 0 ∷ []) ∷ in_a_row 0 1 4)
    && same_entries (descended (three_squares 9 1 1 0) (in_a_row 0 1 4) 2) ((1 ∷ 1 ∷ 2 ∷ 0 ∷ []) ∷ in_a_row 0 1 4)
    && same_entries (descended (three_squares 9 1 1 0) (in_a_row 0 1 4) 1) ((2 ∷ 1 ∷ 1 ∷ 0 ∷ []) ∷ in_a_row 0 1 4)
    && same_entries (descended (three_squares 9 1 1 1) (in_a_row 0 1 4) 9) ((1 ∷ 1 ∷ 0 ∷ 0 ∷ []) ∷ in_a_row 0 1 4)
    && same_entries (descended (three_squares 9 1 1 1) (in_a_row 0 1 4) 0) ((1 ∷ 1 ∷ 0 ∷ 0 ∷ []) ∷ in_a_row 0 1 4)
    && same_entries (descended (three_squares 9 1 1 1) (in_a_row 0 2 4) 0) ((0 ∷ 0 ∷ 0 ∷ 0 ∷ []) ∷ in_a_row 0 2 4)
    && same_numbers (guided_told (three_squares 9 1 1 1) (in_a_row 0 1 4) 3 0) (1 ∷ 0 ∷ 0 ∷ 4 ∷ 1 ∷ 1 ∷ [])

-- ── the start ──

-- the start of the squares from a layout buffer: a refusal's number, or the layout
unfoldable pub started_from : Lent → List (List ℕ) → List (List ℕ)
started_from l es = elim (start_call l es) [ refused r ↦ (r.number ∷ []) ∷ [] | given v ↦ entries_of v ]

-- the free squares are stacked from the left, the locked second one stays at column 5; what stands for free pieces plays no part; a locked one in
-- a turn not allowed is 9, one outside 10, 9 before 10; a buffer of another length is 7
unfoldable pub starts_locked : Bool
starts_locked =
    same_entries (started_from (three_squares 9 0 1 0) (in_a_row 7 5 7)) (in_a_row 0 5 2)
    && same_entries (started_from (three_squares 9 0 1 0) ((45 ∷ 9999 ∷ 9999 ∷ []) ∷ (0 ∷ 5 ∷ 0 ∷ []) ∷ (90 ∷ 8 ∷ 1 ∷ []) ∷ [])) (in_a_row 0 5 2)
    && same_entries (started_from (three_squares 9 0 0 0) (in_a_row 9 9 9)) (in_a_row 0 2 4)
    && same_entries (started_from (three_squares 9 1 1 1) (in_a_row 1 1 7)) (in_a_row 1 1 7)
    && same_entries (started_from (three_squares 9 0 1 1) ((0 ∷ 0 ∷ 0 ∷ []) ∷ (0 ∷ 8 ∷ 0 ∷ []) ∷ (90 ∷ 0 ∷ 0 ∷ []) ∷ [])) ((9 ∷ []) ∷ [])
    && same_entries (started_from (three_squares 9 0 1 0) (in_a_row 0 8 0)) ((10 ∷ []) ∷ [])
    && same_entries (started_from (three_squares 9 0 1 0) ((0 ∷ 0 ∷ 0 ∷ []) ∷ (45 ∷ 0 ∷ 0 ∷ []) ∷ (0 ∷ 0 ∷ 0 ∷ []) ∷ [])) ((9 ∷ []) ∷ [])
    && same_entries (started_from (three_squares 9 0 1 0) ((45 ∷ 8 ∷ 0 ∷ []) ∷ (45 ∷ 8 ∷ 0 ∷ []) ∷ [])) ((7 ∷ []) ∷ [])
    && same_entries (started_from (three_squares 9 0 1 0) (in_a_row 0 0 0 ++ in_a_row 0 0 0)) ((7 ∷ []) ∷ [])
    && same_entries (started_from (three_squares 9 0 2 0) []) ((8 ∷ []) ∷ [])

-- what the layout buffer holds after a start that is refused: what it held before
unfoldable pub start_refused : Bool
start_refused =
    same_entries (layout_after (junk 9) (start_call (three_squares 9 0 1 0) (junk 9))) (junk 9)
    && same_entries (layout_after (junk 5) (start_call (three_squares 9 0 1 0) (junk 5))) (in_a_row 0 5 2)
  where
    junk : ℕ → List (List ℕ)
    junk x = (45 ∷ 9999 ∷ 9999 ∷ []) ∷ (0 ∷ x ∷ 0 ∷ []) ∷ (7 ∷ 7 ∷ 7 ∷ []) ∷ []

-- a bar of 3 columns, locked upright in the last column of a sheet of 3 rows and 4 columns, stays so
unfoldable pub turned_stays : Bool
turned_stays = same_entries (started_from bar ((90 ∷ 3 ∷ 0 ∷ []) ∷ [])) ((90 ∷ 3 ∷ 0 ∷ []) ∷ [])
  where
    bar : Lent
    bar = lent_by (record { rows = 3; columns = 4; count = 1; gap = 0 }) ((3 ∷ 1 ∷ 15 ∷ 1 ∷ []) ∷ []) (replicate 3 1)

-- full boxes of 2 × 2, 3 × 2, 2 × 2 and 1 × 4 on a sheet of 4 rows and 6 columns, the longest locked: the others are stacked by falling length as if
-- they were alone, 2 on 0, and 3 beside them
unfoldable pub others_stacked : Bool
others_stacked =
    same_entries (started_from boxes (in_a_row 5 3 5 ++ ((0 ∷ 0 ∷ 0 ∷ []) ∷ [])))
    ((0 ∷ 0 ∷ 0 ∷ []) ∷ (0 ∷ 3 ∷ 0 ∷ []) ∷ (0 ∷ 0 ∷ 2 ∷ []) ∷ (0 ∷ 2 ∷ 0 ∷ []) ∷ [])
  where
    boxes : Lent
    boxes =
        lent_by (record { rows = 4; columns = 6; count = 4; gap = 0 })
        ((2 ∷ 2 ∷ 1 ∷ 0 ∷ []) ∷ (3 ∷ 2 ∷ 1 ∷ 1 ∷ []) ∷ (2 ∷ 2 ∷ 1 ∷ 0 ∷ []) ∷ (1 ∷ 4 ∷ 1 ∷ 0 ∷ []) ∷ []) (replicate 18 1)

-- two squares, the second locked, on 4 columns: it lies at column 2, where the start of all pieces has it; on 3 columns they lie at columns 0 and 1,
-- and the first has 2 trials a round; both locked there, none; with the first one locked the second begins on it, and is moved off, on 3 columns in part
unfoldable pub prints_locked : Bool
prints_locked =
    same_numbers (program_text (bytes "job,3,2,4,2,0\npiece,0,2,2,1,0\nrow,##\nrow,##\npiece,1,2,2,1,1\nrow,##\nrow,##\n"))
    (bytes "layout,1,2,4,2\nat,0,0,0,0\nat,1,0,2,0\nend,clear,0,0,0,4\n")
    && same_numbers (program_text (bytes "job,3,2,3,2,0\npiece,0,2,2,1,0\nrow,##\nrow,##\npiece,1,2,2,1,1\nrow,##\nrow,##\n"))
    (bytes "layout,1,2,3,2\nat,0,0,0,0\nat,1,0,1,0\nend,open,1,40,0,3\n")
    && same_numbers (program_text (bytes "job,3,2,3,2,0\npiece,0,2,2,1,1\nrow,##\nrow,##\npiece,1,2,2,1,1\nrow,##\nrow,##\n"))
    (bytes "layout,1,2,3,2\nat,0,0,0,0\nat,1,0,1,0\nend,open,1,0,0,3\n")
    && same_numbers (program_text (bytes "job,3,2,4,2,0\npiece,0,2,2,1,1\nrow,##\nrow,##\npiece,1,2,2,1,0\nrow,##\nrow,##\n"))
    (bytes "layout,1,2,4,2\nat,0,0,0,0\nat,1,0,2,0\nend,clear,0,1,1,4\n")
    && same_numbers (program_text (bytes "job,3,2,3,2,0\npiece,0,2,2,1,1\nrow,##\nrow,##\npiece,1,2,2,1,0\nrow,##\nrow,##\n"))
    (bytes "layout,1,2,3,2\nat,0,0,0,0\nat,1,0,1,0\nend,open,1,41,1,3\n")

-- ── the sheet ──

-- what is told of a call on a sheet: a refusal's number, or the counts
unfoldable pub sheet_told : Outcome Sheet → List ℕ
sheet_told (refused r) = r.number ∷ []
sheet_told (given s) = s.counts

-- a locked square is laid, and not withdrawn: 15; before it is laid 14; a piece that is not there 9; a free one is withdrawn
unfoldable pub sheet_locked : Bool
sheet_locked =
    same_numbers (sheet_told (called (job_of (three_squares 3 0 1 0)) laid (withdrawing 1))) (15 ∷ [])
    && same_numbers (sheet_told (called (job_of (three_squares 3 0 1 0)) (fresh (job_of (three_squares 3 0 1 0))) (withdrawing 1))) (14 ∷ [])
    && same_numbers (sheet_told (called (job_of (three_squares 3 0 1 0)) laid (withdrawing 3))) (9 ∷ [])
    && same_numbers (sheet_told (called (job_of (three_squares 3 0 1 0)) laid (withdrawing 0))) (0 ∷ 1 ∷ 1 ∷ 0 ∷ 1 ∷ 1 ∷ [])
  where
    laid : Sheet
    laid =
        after_calls (job_of (three_squares 3 0 1 0)) (fresh (job_of (three_squares 3 0 1 0)))
        (laying 0 (placement 0 0 0) ∷ laying 1 (placement 0 1 0) ∷ [])

-- all of them
unfoldable pub lock_examples : Bool
lock_examples =
    lent_locks && lock_set && lock_beyond && trials_left && locked_runs && starts_locked && start_refused && turned_stays && others_stacked && prints_locked
    && sheet_locked
