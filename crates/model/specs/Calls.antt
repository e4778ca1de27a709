-- Document 01, 'When a call says no', and document 02, points 2 (the cut list), 3 (the preview of a move), 4 (the gap), 6 (locks) and 7 (pushing
-- left and down): what each public call gives and leaves in lent memory, and its causes of refusal in their order. How a job or a layout is read
-- line by line stands in JobText and LayoutText. Assumes nothing.
--
-- The refusals of each call, in their order; places are 0 unless named. Refusal gives each number its name.
--   read a job             by line (first place): 1, 2, then 3 (job line) or 6, 4 (piece line); 5 at a piece's last row;
--                          1 for anything after the last line; then 7                      JobText, read_job
--   strips                 8 the job, 9, 7                                                 strips_call
--   stretch, its refusal   8 the job, 9, 8 a store                                         stretch_call, stretch_number
--   no-fit row, column     8 the job, 9, 8 a stretch, 7                                    no_fit_call
--   rebuild                2, 8, 7                                                         rebuild_call
--   conflict, depths       8, 7, 9, 10                                                     share_call, depth_call
--   penalty                8, 7, 9, 10                                                     penalty_call
--   weighted sum           8, 7, 2, 9, 10                                                  weighted_sum_call
--   plain sum              8, 7, 9, 10                                                     plain_sum_call
--   used length            8, 7, 9, 10                                                     used_length_call
--   preview of a move      8, 7, 2, 9, 10; 9 and 10 also of the new placement              preview_call
--   line search            8, 7, 2, 9, 10, 11                                              search_call
--   descent, guided run    8, 7, 2, 9, 10                                                  descent_call, guided_call
--   set a lock             8, 2 the station, 9, 16                                         set_lock_call
--   start                  8, 7, 9, 10 of the locked placements                            start_call
--   write a layout         8, 7 the layout's length, 9, 10, 7 the text buffer              write_layout_call
--   read a layout          8; by line (first place): 1, 2, 9, 10; 1 for anything after the last line; then 7
--                                                                                          read_layout_call; LayoutText, read_layout
--   check a layout         8, 7, 9, 10, 12 (both places: the pair)                         check_call
--   push left and down     8, 7, 9, 10, 12 (both places: the pair)                         compact_call
--   cut lines              8, 7 the layout's length, 9, 10, 12 (the pair), 7 the line buffer
--                                                                                          cut_lines_call
--   cut step               8, 7, 2 the pitch, 9, 10, 12 (the pair)                         cut_step_call
--   line step              2 the pitch                                                     line_step_call
--   fresh sheet            8, 7                                                            fresh_call
--   lay                    8 the job, 7, 8 the sheet, 9, 13, 10                            lay_call; Cover, lay_causes
--   withdraw               8 the job, 7, 8 the sheet, 9, 14, 15                            withdraw_call; Cover, withdraw_causes
--   the program            in its text: 7 (line 0) for too long an input, else the reader's
--                                                                                          Program, program_text
--                          7 where a lent output buffer is shorter than the text           Program, program_call
use Rattle.model.specs.declared.Refusal.{Refusal}
use Rattle.std.specs.Prelude.{Bool, true, false, not, ◌&&◌, ◌||◌, List, [], ◌∷◌, ◌++◌, map, ℕ, ◌*◌, ltb, eqb, ℤ, length, get_or, set, Result, Ok, Err}
use Rattle.std.proofs.Math.Option.{Option, none, some}
use Rattle.model.specs.Bounded.{any_below}
use Rattle.model.specs.Piece.{Shape, tight, side_bound}
use Rattle.model.specs.Strip.{strips, rebuilt}
use Rattle.model.specs.Overlap.{OffsetRun, no_fit}
use Rattle.model.specs.Layout.{Job, Layout, Pair, pair_of, pairs, turned_piece, allowed, is_locked, inside}
use Rattle.model.specs.Layout.{place_of, pair_conflicts, pair_penalty, pair_depth, weighted_sum}
use Rattle.model.specs.Layout.{with_place, plain_sum, used_length, figures, conflicting_pair}
use Rattle.model.specs.Search.{Best, places, search_line}
use Rattle.model.specs.Descent.{Descent, descend}
use Rattle.model.specs.Guided.{Guided, guide, weight_bound}
use Rattle.model.specs.Start.{start}
use Rattle.model.specs.Refusal.{Outcome, refused, given, Cause, cause, unless, out_of_range, wrong_length, not_ours, no_such_piece, outside_sheet, empty_line}
use Rattle.model.specs.Refusal.{pieces_conflict, not_the_cutter}
use Rattle.model.specs.Lent.{Lent, entry_columns, entry_rows, entry_turns, job_of, lent_well, up_to}
use Rattle.model.specs.Buffer.{turn_passes, layout_of, entries_of, strip_entry, entry_strip, run_entry, bytes_of, filled, same_entries}
use Rattle.model.specs.Text.{and_then}
use Rattle.model.specs.LayoutText.{layout_text, read_layout}
use Rattle.model.specs.Store.{store, starts, store_well, stretch_in}
use Rattle.model.specs.Cover.{Sheet, fresh, lay, withdraw, lay_causes, withdraw_causes, sheet_well}
use Rattle.model.specs.Compact.{Compacted, compact}
use Rattle.model.specs.Cut.{CutLine, cut_lines, step_at, pitch_bound, step_in, line_entry, entry_line}
use Rattle.model.specs.declared.Turn.{Turn}
use Rattle.model.specs.declared.Direction.{Direction}
use Rattle.model.specs.declared.Direction.TheVariants.{Horizontal, Vertical}
use Rattle.model.specs.declared.Line.{Line}
use Rattle.model.specs.declared.CutStep.{CutStep}
use Rattle.model.specs.declared.Figures.{Figures}
use Rattle.model.specs.declared.Placement.{Placement}

-- what a lent buffer holds after a call: the given value's content, or on a refusal what it held before
abbrev pub leaving : {A B : Type 0} → (A → B) → B → Outcome A → B
leaving content before (refused r) = before
leaving content before (given a) = content a

-- ── causes that calls share ──

-- the lent job is none that reading gives
abbrev pub job_cause : Lent → Cause
job_cause l = cause not_ours (not (lent_well l))

-- so many pixels, pieces or pairs are needed, and the buffer is not of that exact length
abbrev pub exactly : ℕ → ℕ → Cause
exactly needed len = cause wrong_length (not (eqb len needed))

-- the buffer is shorter than needed
abbrev pub at_least : ℕ → ℕ → Cause
at_least needed len = cause wrong_length (ltb len needed)

-- the degrees are a turn allowed to piece i
unfoldable pub allowed_degrees : Job → ℕ → ℕ → Bool
allowed_degrees j i k = turn_passes (allowed j i) k

-- some piece's turn in a layout buffer is not allowed
unfoldable pub some_turn_wrong : Job → List (List ℕ) → Bool
some_turn_wrong j es = any_below j.size.count (λ i. not (allowed_degrees j i (get_or (get_or es i []) 0 0)))

-- some piece's placement is outside
unfoldable pub some_outside : Job → Layout → Bool
some_outside j v = any_below j.size.count (λ i. not (inside j i (place_of v i)))

-- some weight is out of range
unfoldable pub some_weight_wrong : List ℕ → Bool
some_weight_wrong [] = false
some_weight_wrong (w ∷ ws) = elim (up_to weight_bound w) [ true ↦ some_weight_wrong ws | false ↦ true ]

-- the layout buffer is not n long
abbrev pub layout_length : Lent → List (List ℕ) → Cause
layout_length l es = exactly l.size.count (length es)

-- the weight buffer has not one weight a pair
abbrev pub weights_length : Lent → List ℕ → Cause
weights_length l ws = exactly (length (pairs l.size.count)) (length ws)

-- a weight is out of range
abbrev pub weights_cause : List ℕ → Cause
weights_cause ws = cause out_of_range (some_weight_wrong ws)

-- a turn of the layout is not allowed
abbrev pub turns_cause : Lent → List (List ℕ) → Cause
turns_cause l es = cause no_such_piece (some_turn_wrong (job_of l) es)

-- a placement of the layout is outside
abbrev pub outside_cause : Lent → List (List ℕ) → Cause
outside_cause l es = cause outside_sheet (some_outside (job_of l) (layout_of es))

-- ── strips, stretch, rebuild, no-fit rows and columns ──

-- a list of turns is not n long, or one is not allowed
unfoldable pub turn_list_wrong : Job → List ℕ → Bool
turn_list_wrong j ts = not (eqb (length ts) j.size.count) || any_below j.size.count (λ i. not (allowed_degrees j i (get_or ts i 0)))

-- the two stores and their starts
pub record Stores : Type 0 where
  pub row_strips : List (List ℕ)
  pub row_starts : List ℕ
  pub column_strips : List (List ℕ)
  pub column_starts : List ℕ

-- the stores of a job in given turns
unfoldable pub stores_of : Job → List ℕ → Stores
stores_of j ts =
    record {
      row_strips = map strip_entry (store Horizontal j ts);
      row_starts = starts Horizontal j ts;
      column_strips = map strip_entry (store Vertical j ts);
      column_starts = starts Vertical j ts;
    }

-- some lent store or starts are too short for the job's
unfoldable pub stores_short : Stores → Stores → Bool
stores_short needed lent =
    ltb (length lent.row_strips) (length needed.row_strips) || ltb (length lent.row_starts) (length needed.row_starts)
    || ltb (length lent.column_strips) (length needed.column_strips)
    || ltb (length lent.column_starts) (length needed.column_starts)

-- the strips call: 8, 9, 7
unfoldable pub strips_call : Lent → List ℕ → Stores → Outcome Stores
strips_call l ts lent =
    unless
    (job_cause l ∷ cause no_such_piece (turn_list_wrong (job_of l) ts) ∷ cause wrong_length (stores_short (stores_of (job_of l) ts) lent) ∷ [])
    (stores_of (job_of l) ts)

-- what the lent stores hold after the strips call: strips and starts over the front, what lies beyond untouched
abbrev pub stores_after : Stores → Outcome Stores → Stores
stores_after lent o =
    leaving
    (λ s. record {
      row_strips = filled s.row_strips lent.row_strips;
      row_starts = filled s.row_starts lent.row_starts;
      column_strips = filled s.column_strips lent.column_strips;
      column_starts = filled s.column_starts lent.column_starts;
    })
    lent o

-- both lent stores are the job's in these turns
unfoldable pub stores_well : Job → List ℕ → Stores → Bool
stores_well j ts lent =
    store_well Horizontal j ts lent.row_strips lent.row_starts && store_well Vertical j ts lent.column_strips lent.column_starts

-- the stretch of a piece, from the row store or the column store as the direction is horizontal or vertical
abbrev pub stretch_of : Direction → Stores → ℕ → List (List ℕ)
stretch_of Horizontal lent i = stretch_in lent.row_strips lent.row_starts i
stretch_of Vertical lent i = stretch_in lent.column_strips lent.column_starts i

-- the stretch call: 8 the job, 9, 8 a store
unfoldable pub stretch_call : Lent → List ℕ → Stores → ℕ → Direction → Outcome (List (List ℕ))
stretch_call l ts lent i d =
    unless
    (job_cause l ∷ cause no_such_piece (turn_list_wrong (job_of l) ts || not (ltb i l.size.count))
    ∷ cause not_ours (not (stores_well (job_of l) ts lent)) ∷ [])
    (stretch_of d lent i)

-- the part of the store that the stretch call hands out: empty on a refusal
abbrev pub stretch_given : Outcome (List (List ℕ)) → List (List ℕ)
stretch_given o = leaving (λ part. part) [] o

-- what the second call tells: the number of the refusal, or 0 where the stretch is given
abbrev pub stretch_number : Outcome (List (List ℕ)) → ℕ
stretch_number (refused r) = r.number
stretch_number (given part) = 0

-- a piece in a turn, with a lent stretch
pub record LentStretch : Type 0 where
  pub piece : ℕ
  pub turn : Turn
  pub stretch : List (List ℕ)

-- there is such a piece and the turn is allowed to it
unfoldable pub known : Job → LentStretch → Bool
known j p = ltb p.piece j.size.count && allowed j p.piece p.turn

-- the stretch is that of the piece in the turn
unfoldable pub stretch_well : Direction → Job → LentStretch → Bool
stretch_well d j p = same_entries p.stretch (map strip_entry (strips d (turned_piece j p.piece p.turn)))

-- the no-fit row (horizontal, by a row offset) or column (vertical, by a column offset) of two pieces
unfoldable pub no_fit_of : Direction → Job → LentStretch → LentStretch → ℤ → List OffsetRun
no_fit_of d j p q offset = no_fit j.size.gap d (turned_piece j p.piece p.turn) (turned_piece j q.piece q.turn) offset

-- the no-fit call: 8 the job, 9, 8 a stretch, 7
unfoldable pub no_fit_call : Direction → Lent → LentStretch → LentStretch → ℤ → ℕ → Outcome (List OffsetRun)
no_fit_call d l p q offset room =
    unless
    (job_cause l ∷ cause no_such_piece (not (known (job_of l) p && known (job_of l) q))
    ∷ cause not_ours (not (stretch_well d (job_of l) p && stretch_well d (job_of l) q))
    ∷ at_least (length (no_fit_of d (job_of l) p q offset)) room ∷ [])
    (no_fit_of d (job_of l) p q offset)

-- what the run buffer holds after the no-fit call
abbrev pub runs_after : List (List ℤ) → Outcome (List OffsetRun) → List (List ℤ)
runs_after before o = leaving (λ rs. filled (map run_entry rs) before) before o

-- the set that rebuilding gives from a box and lent strips
abbrev pub rebuilt_from : Direction → ℕ → ℕ → List (List ℕ) → Shape
rebuilt_from d columns rows es = rebuilt d columns rows (map entry_strip es)

-- a piece of that box has just these strips
unfoldable pub strips_well : Direction → ℕ → ℕ → List (List ℕ) → Bool
strips_well d columns rows es =
    tight (rebuilt_from d columns rows es) && same_entries (map strip_entry (strips d (rebuilt_from d columns rows es))) es

-- the rebuild call: 2, 8, 7
unfoldable pub rebuild_call : Direction → ℕ → ℕ → List (List ℕ) → ℕ → Outcome Shape
rebuild_call d columns rows es room =
    unless
    (cause out_of_range (not (up_to side_bound columns && up_to side_bound rows)) ∷ cause not_ours (not (strips_well d columns rows es))
    ∷ at_least (columns * rows) room ∷ [])
    (rebuilt_from d columns rows es)

-- what the pixel buffer holds after the rebuild call
abbrev pub pixels_after : List ℕ → Outcome Shape → List ℕ
pixels_after before o = leaving (λ s. filled (bytes_of s) before) before o

-- ── pairs, sums, used length ──

-- 9 for a pair: a turn not allowed, no such piece, or a piece with itself
abbrev pub pair_cause : Lent → List (List ℕ) → ℕ → ℕ → Cause
pair_cause l es i k =
    cause no_such_piece (some_turn_wrong (job_of l) es || not (ltb i l.size.count) || not (ltb k l.size.count) || eqb i k)

-- the causes of a call on a pair of a layout: 8, 7, 9, 10
unfoldable pub pair_causes : Lent → List (List ℕ) → ℕ → ℕ → List Cause
pair_causes l es i k = job_cause l ∷ layout_length l es ∷ pair_cause l es i k ∷ outside_cause l es ∷ []

-- whether two pieces conflict; with a gap of 0, the shared-pixel test
unfoldable pub share_call : Lent → List (List ℕ) → ℕ → ℕ → Outcome Bool
share_call l es i k = unless (pair_causes l es i k) (pair_conflicts (job_of l) (layout_of es) (pair_of i k))

-- the depth along a direction
unfoldable pub depth_call : Direction → Lent → List (List ℕ) → ℕ → ℕ → Outcome ℕ
depth_call d l es i k = unless (pair_causes l es i k) (pair_depth d (job_of l) (layout_of es) (pair_of i k))

-- the penalty
unfoldable pub penalty_call : Lent → List (List ℕ) → ℕ → ℕ → Outcome ℕ
penalty_call l es i k = unless (pair_causes l es i k) (pair_penalty (job_of l) (layout_of es) (pair_of i k))

-- the weighted sum: 8, 7, 2, 9, 10
unfoldable pub weighted_sum_call : Lent → List (List ℕ) → List ℕ → Outcome ℕ
weighted_sum_call l es ws =
    unless (job_cause l ∷ layout_length l es ∷ weights_length l ws ∷ weights_cause ws ∷ turns_cause l es ∷ outside_cause l es ∷ [])
    (weighted_sum (job_of l) ws (layout_of es))

-- the causes of a call on a layout alone: 8, 7, 9, 10
unfoldable pub layout_causes : Lent → List (List ℕ) → List Cause
layout_causes l es = job_cause l ∷ layout_length l es ∷ turns_cause l es ∷ outside_cause l es ∷ []

-- the plain sum
unfoldable pub plain_sum_call : Lent → List (List ℕ) → Outcome ℕ
plain_sum_call l es = unless (layout_causes l es) (plain_sum (job_of l) (layout_of es))

-- the used length
unfoldable pub used_length_call : Lent → List (List ℕ) → Outcome ℕ
used_length_call l es = unless (layout_causes l es) (used_length (job_of l) (layout_of es))

-- ── preview, line search, descent, guided run ──

-- the causes of a call that would place piece i in the turn: 8, 7 the layout, 7 the weights, 2, 9, also where there is no such piece or the
-- turn is not allowed to it, and 10 of the layout
abbrev pub placing_causes : Lent → List (List ℕ) → List ℕ → ℕ → Turn → List Cause
placing_causes l es ws i t =
    job_cause l ∷ layout_length l es ∷ weights_length l ws ∷ weights_cause ws
    ∷ cause no_such_piece (some_turn_wrong (job_of l) es || not (ltb i l.size.count) || not (allowed (job_of l) i t)) ∷ outside_cause l es ∷ []

-- those of a preview: the ones of placing the piece in its new turn, then 10 where its new placement is outside
abbrev pub preview_causes : Lent → List (List ℕ) → List ℕ → ℕ → Placement → List Cause
preview_causes l es ws i p = placing_causes l es ws i p.turn ++ (cause outside_sheet (not (inside (job_of l) i p)) ∷ [])

-- the preview of a move: the figures of the layout with piece i placed at p
unfoldable pub preview_call : Lent → List (List ℕ) → List ℕ → ℕ → Placement → Outcome Figures
preview_call l es ws i p = unless (preview_causes l es ws i p) (figures (job_of l) ws (with_place (layout_of es) i p))

-- the best place, where there is one
abbrev pub best_place : Option Best → Best
best_place none = record { sum = 0; at = 0 }
best_place (some b) = b

-- the line search: 8, 7, 2, 9, 10, and 11 exactly where no inside corner lies on the line
unfoldable pub search_call : Lent → List (List ℕ) → List ℕ → ℕ → Turn → Line → Outcome Best
search_call l es ws i t line =
    unless (placing_causes l es ws i t ++ (cause empty_line (eqb (places (job_of l) i t line) 0) ∷ []))
    (best_place (search_line (job_of l) ws (layout_of es) i t line))

-- the largest budget and round count
abbrev pub budget_bound : ℕ
budget_bound = 1000000000

abbrev pub round_bound : ℕ
round_bound = 1000

-- the descent: 8, 7, 2, 9, 10
unfoldable pub descent_call : Lent → List (List ℕ) → List ℕ → ℕ → Outcome Descent
descent_call l es ws budget =
    unless
    (job_cause l ∷ layout_length l es ∷ weights_length l ws ∷ cause out_of_range (some_weight_wrong ws || ltb budget_bound budget)
    ∷ turns_cause l es ∷ outside_cause l es ∷ [])
    (descend (job_of l) ws budget (layout_of es))

-- what the layout buffer holds after a descent: the layout at the end
abbrev pub descent_after : List (List ℕ) → Outcome Descent → List (List ℕ)
descent_after before o = leaving (λ d. entries_of d.layout) before o

-- the guided run: 8, 7, 2, 9, 10
unfoldable pub guided_call : Lent → List (List ℕ) → List ℕ → ℕ → ℕ → Outcome Guided
guided_call l es ws count budget =
    unless
    (job_cause l ∷ layout_length l es ∷ weights_length l ws
    ∷ cause out_of_range (some_weight_wrong ws || ltb budget_bound budget || not (up_to round_bound count))
    ∷ turns_cause l es ∷ outside_cause l es ∷ [])
    (guide (job_of l) count budget ws (layout_of es))

-- what the layout buffer holds after a guided run: the best layout
abbrev pub best_after_run : List (List ℕ) → Outcome Guided → List (List ℕ)
best_after_run before o = leaving (λ g. entries_of g.layout) before o

-- what the weight buffer holds after a guided run: the new weights
abbrev pub weights_after_run : List ℕ → Outcome Guided → List ℕ
weights_after_run before o = leaving (λ g. g.weights) before o

-- ── job text, start, layout text, check ──

-- what the table holds after a job is read
abbrev pub table_after : List (List ℕ) → Outcome Lent → List (List ℕ)
table_after before o = leaving (λ l. filled l.table before) before o

-- what the pixel store holds after a job is read
abbrev pub store_after : List ℕ → Outcome Lent → List ℕ
store_after before o = leaving (λ l. filled l.pixels before) before o

-- what a layout buffer holds after a call that gives a layout
abbrev pub layout_after : List (List ℕ) → Outcome Layout → List (List ℕ)
layout_after before o = leaving entries_of before o

-- writing a layout: 8, 7 for the layout's length, 9, 10, 7 for the text buffer
unfoldable pub write_layout_call : Lent → List (List ℕ) → ℕ → Outcome (List ℕ)
write_layout_call l es room =
    unless (layout_causes l es ++ (at_least (length (layout_text (job_of l) (layout_of es))) room ∷ []))
    (layout_text (job_of l) (layout_of es))

-- what the text buffer holds after a layout is written
abbrev pub text_after : List ℕ → Outcome (List ℕ) → List ℕ
text_after before o = leaving (λ text. filled text before) before o

-- reading a layout: 8, then by line, then 7
unfoldable pub read_layout_call : Lent → List ℕ → ℕ → Outcome Layout
read_layout_call l text room = and_then (unless (job_cause l ∷ []) (job_of l)) (λ j. read_layout j text room)

-- some locked piece's turn in a layout buffer is not allowed
unfoldable pub locked_turn_wrong : Job → List (List ℕ) → Bool
locked_turn_wrong j es = any_below j.size.count (λ i. is_locked j i && not (allowed_degrees j i (get_or (get_or es i []) 0 0)))

-- some locked piece's placement is outside
unfoldable pub locked_outside : Job → Layout → Bool
locked_outside j v = any_below j.size.count (λ i. is_locked j i && not (inside j i (place_of v i)))

-- the causes of a start: 8, 7, 9, 10 of the locked placements
abbrev pub start_causes : Lent → List (List ℕ) → List Cause
start_causes l es =
    job_cause l ∷ layout_length l es ∷ cause no_such_piece (locked_turn_wrong (job_of l) es)
    ∷ cause outside_sheet (locked_outside (job_of l) (layout_of es)) ∷ []

-- the start layout, with the locked placements of the lent one
unfoldable pub start_call : Lent → List (List ℕ) → Outcome Layout
start_call l es = unless (start_causes l es) (start (job_of l) (layout_of es))

-- 12, with the pair that conflicts
abbrev pub conflict_cause : Option Pair → Cause
conflict_cause none = cause pieces_conflict false
conflict_cause (some p) = record { there = true; number = pieces_conflict; first = p.first; second = p.second }

-- the causes of the check of a layout: 8, 7, 9, 10, 12
abbrev pub check_causes : Lent → List (List ℕ) → List Cause
check_causes l es = layout_causes l es ++ (conflict_cause (conflicting_pair (job_of l) (layout_of es)) ∷ [])

-- the check of a layout
unfoldable pub check_call : Lent → List (List ℕ) → Outcome (Unit {0})
check_call l es = unless (check_causes l es) tt

-- pushing a layout that passes the check left and down
unfoldable pub compact_call : Lent → List (List ℕ) → Outcome Compacted
compact_call l es = unless (check_causes l es) (compact (job_of l) (layout_of es))

-- what the layout buffer holds after the pieces are pushed: the layout that they slid to
abbrev pub compact_after : List (List ℕ) → Outcome Compacted → List (List ℕ)
compact_after before o = leaving (λ c. entries_of c.layout) before o

-- what is told of it: the pixels slid
abbrev pub slid_answer : Outcome Compacted → Result ℕ Refusal
slid_answer (refused r) = Err r
slid_answer (given c) = Ok c.slid

-- ── locks ──

-- the stations that may ask for a lock: 0 the planner's, which may not set one, and 1 the cutter's, which may
abbrev pub planners_station : ℕ
planners_station = 0

abbrev pub cutters_station : ℕ
cutters_station = 1

-- a table with the lock of piece i set, all else as it is
unfoldable pub with_lock : List (List ℕ) → ℕ → List (List ℕ)
with_lock table i = set table i (entry_columns table i ∷ entry_rows table i ∷ entry_turns table i ∷ 1 ∷ [])

-- setting a lock: 8, 2 a station that is none, 9 no such piece, 16 from the planner's station
unfoldable pub set_lock_call : Lent → ℕ → ℕ → Outcome (List (List ℕ))
set_lock_call l i station =
    unless
    (job_cause l ∷ cause out_of_range (ltb cutters_station station) ∷ cause no_such_piece (not (ltb i l.size.count))
    ∷ cause not_the_cutter (eqb station planners_station) ∷ [])
    (with_lock l.table i)

-- what the table holds after a lock is asked for
abbrev pub locked_after : List (List ℕ) → Outcome (List (List ℕ)) → List (List ℕ)
locked_after before o = leaving (λ table. table) before o

-- ── the cut list ──

-- the pitch is out of range: 1 to 4,096 sixty-fourths of a millimetre
abbrev pub pitch_cause : ℕ → Cause
pitch_cause pitch = cause out_of_range (not (up_to pitch_bound pitch))

-- the lines of a layout that passes the check: 8, 7, 9, 10, 12, then 7 for the line buffer
unfoldable pub cut_lines_call : Lent → List (List ℕ) → ℕ → Outcome (List CutLine)
cut_lines_call l es room =
    unless
    (layout_causes l es
    ++ (conflict_cause (conflicting_pair (job_of l) (layout_of es)) ∷ at_least (length (cut_lines (job_of l) (layout_of es))) room ∷ []))
    (cut_lines (job_of l) (layout_of es))

-- what the line buffer holds after the lines are given
abbrev pub lines_after : List (List ℕ) → Outcome (List CutLine) → List (List ℕ)
lines_after before o = leaving (λ ls. filled (map line_entry ls) before) before o

-- step number k of the cut list of a layout that passes the check, in millimetres: 8, 7, 2 for the pitch, 9, 10, 12
unfoldable pub cut_step_call : Lent → List (List ℕ) → ℕ → ℕ → Outcome CutStep
cut_step_call l es pitch k =
    unless
    (job_cause l ∷ layout_length l es ∷ pitch_cause pitch ∷ turns_cause l es ∷ outside_cause l es
    ∷ conflict_cause (conflicting_pair (job_of l) (layout_of es)) ∷ [])
    (step_in pitch (step_at (cut_lines (job_of l) (layout_of es)) k))

-- step number k of a lent list of lines, in millimetres: 2 for the pitch
unfoldable pub line_step_call : List (List ℕ) → ℕ → ℕ → Outcome CutStep
line_step_call ls pitch k = unless (pitch_cause pitch ∷ []) (step_in pitch (step_at (map entry_line ls) k))

-- ── the sheet of cover counts ──

-- so many counts are needed: one a pixel
abbrev pub counts_length : Lent → ℕ → Cause
counts_length l room = exactly (l.size.rows * l.size.columns) room

-- a fresh sheet: 8, 7
unfoldable pub fresh_call : Lent → ℕ → Outcome Sheet
fresh_call l room = unless (job_cause l ∷ counts_length l room ∷ []) (fresh (job_of l))

-- what the count buffer holds after a fresh sheet, a lay or a withdraw: the sheet's counts
abbrev pub counts_after : List ℕ → Outcome Sheet → List ℕ
counts_after before o = leaving (λ s. s.counts) before o

-- what is asked before a call on a sheet: 8 the job, 7, 8 the sheet
unfoldable pub sheet_causes : Lent → Sheet → List Cause → List Cause
sheet_causes l s more = job_cause l ∷ counts_length l (length s.counts) ∷ cause not_ours (not (sheet_well (job_of l) s)) ∷ more

-- lay: then 9, 13, 10
unfoldable pub lay_call : Lent → Sheet → ℕ → Placement → Outcome Sheet
lay_call l s i p = unless (sheet_causes l s (lay_causes (job_of l) s i p)) (lay (job_of l) s i p)

-- withdraw: then 9, 14, 15
unfoldable pub withdraw_call : Lent → Sheet → ℕ → Outcome Sheet
withdraw_call l s i = unless (sheet_causes l s (withdraw_causes (job_of l) s i)) (withdraw (job_of l) s i)
