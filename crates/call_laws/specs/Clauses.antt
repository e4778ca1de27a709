-- Document 01, 'When a call says no', one clause a public call: its causes in document 01's order, each with its number, the value that it
-- gives where none of them is there, and what each lent buffer that it writes holds afterwards; a buffer that is not named is lent
-- for reading only. The two places of a `cause` are 0. Assumes nothing.
use Rattle.std.specs.Prelude.{true, false, not, ◌&&◌, ◌||◌, List, [], ◌∷◌, map, ◌≡◌, ℕ, ◌*◌, ltb, eqb, ℤ, length}
use Rattle.model.specs.Piece.{Shape, side_bound}
use Rattle.model.specs.Layout.{pairs, allowed, is_locked, inside, pair_conflicts, pair_depth, pair_penalty, weighted_sum, plain_sum, used_length, conflicting_pair}
use Rattle.model.specs.Buffer.{layout_of, entries_of, run_entry, bytes_of, filled}
use Rattle.model.specs.Search.{places, search_line}
use Rattle.model.specs.Descent.{descend}
use Rattle.model.specs.Guided.{guide}
use Rattle.model.specs.Start.{start}
use Rattle.model.specs.Cover.{Sheet, entry_in, fresh, lay, withdraw, afterwards, sheet_well}
use Rattle.model.specs.Lent.{Lent, job_of, lent_well, up_to, piece_bound, area_bound}
use Rattle.model.specs.Refusal.{refused, given, cause, unless, out_of_range, wrong_length, not_ours, no_such_piece, outside_sheet, empty_line, laid_already, not_laid}
use Rattle.model.specs.Refusal.{piece_locked, not_the_cutter}
use Rattle.model.specs.Text.{and_then}
use Rattle.model.specs.JobText.{read_job}
use Rattle.model.specs.LayoutText.{layout_text, read_layout}
use Rattle.model.specs.Program.{input_bound, printed, program_text, program_call}
use Rattle.model.specs.Calls.{some_turn_wrong, some_outside, some_weight_wrong, turn_list_wrong, Stores, stores_of, stores_short, stores_well, stores_after, strips_call}
use Rattle.model.specs.Calls.{stretch_of, stretch_call, stretch_given, stretch_number, LentStretch, known, stretch_well, no_fit_of, no_fit_call, runs_after}
use Rattle.model.specs.Calls.{rebuilt_from, strips_well, rebuild_call, pixels_after, share_call, depth_call, penalty_call, weighted_sum_call, plain_sum_call}
use Rattle.model.specs.Calls.{used_length_call, best_place, search_call, budget_bound, round_bound, descent_call, descent_after, guided_call, best_after_run}
use Rattle.model.specs.Calls.{weights_after_run, preview_call}
use Rattle.model.specs.Calls.{table_after, store_after, layout_after, write_layout_call, text_after, read_layout_call, locked_turn_wrong, locked_outside, start_call}
use Rattle.model.specs.Calls.{conflict_cause, check_call, compact_call, compact_after}
use Rattle.model.specs.Compact.{compact}
use Rattle.model.specs.Calls.{planners_station, cutters_station, with_lock, set_lock_call, locked_after}
use Rattle.model.specs.Calls.{fresh_call, counts_after, lay_call, withdraw_call, cut_lines_call, lines_after, cut_step_call, line_step_call}
use Rattle.model.specs.Cut.{cut_lines, step_at, step_in, pitch_bound, line_entry, entry_line}
use Rattle.model.specs.declared.Turn.{Turn}
use Rattle.model.specs.declared.Direction.{Direction}
use Rattle.model.specs.declared.Line.{Line}
use Rattle.model.specs.declared.Placement.{Placement}
use Rattle.model.specs.declared.Refusal.{Refusal}
use Rattle.model.specs.Layout.{pair_of, with_place, figures}
use Rattle.call_laws.specs.Clause.{CallClaims, BufferClaims, Answers}

-- one clause a public call, in document 01's order, the program last
pub record CallClauses : Type 0 where
  -- ── reading a job ──
  -- it ends in a refusal or in a job; the causes, line by line, stand in JobText
  pub read_job_answer : (text : List ℕ) (tableLength pixelsLength : ℕ) → Answers (read_job text tableLength pixelsLength)
  -- the table: the entries that were read over its front
  pub read_job_table : (text : List ℕ) (table : List (List ℕ)) (pixelsLength : ℕ)
      → BufferClaims (λ l. filled l.table table) table (table_after table (read_job text (length table) pixelsLength))
      (read_job text (length table) pixelsLength)
  -- the pixel store: the bytes that were read over its front
  pub read_job_pixels : (text : List ℕ) (tableLength : ℕ) (pixels : List ℕ)
      → BufferClaims (λ l. filled l.pixels pixels) pixels (store_after pixels (read_job text tableLength (length pixels)))
      (read_job text tableLength (length pixels))
  -- ── locks ──
  -- setting a lock: 8, 2 the station, 9, 16
  pub set_lock : (l : Lent) (i station : ℕ)
      → CallClaims
      (cause not_ours (not (lent_well l))
      ∷ cause out_of_range (ltb cutters_station station)
      ∷ cause no_such_piece (not (ltb i l.size.count))
      ∷ cause not_the_cutter (eqb station planners_station) ∷ [])
      (with_lock l.table i) (set_lock_call l i station)
  -- the table: the one with the lock set
  pub set_lock_table : (l : Lent) (i station : ℕ)
      → BufferClaims (λ table. table) l.table (locked_after l.table (set_lock_call l i station)) (set_lock_call l i station)
  -- ── strips, stretch, no-fit rows and columns, rebuilding ──
  -- strips: 8, 9, 7
  pub strips : (l : Lent) (ts : List ℕ) (lent : Stores)
      → CallClaims
      (cause not_ours (not (lent_well l))
      ∷ cause no_such_piece (turn_list_wrong (job_of l) ts)
      ∷ cause wrong_length (stores_short (stores_of (job_of l) ts) lent) ∷ [])
      (stores_of (job_of l) ts) (strips_call l ts lent)
  -- the stores and their starts: the job's over their fronts
  pub strips_stores : (l : Lent) (ts : List ℕ) (lent : Stores)
      → BufferClaims
      (λ s. record {
        row_strips = filled s.row_strips lent.row_strips;
        row_starts = filled s.row_starts lent.row_starts;
        column_strips = filled s.column_strips lent.column_strips;
        column_starts = filled s.column_starts lent.column_starts;
      })
      lent (stores_after lent (strips_call l ts lent)) (strips_call l ts lent)
  -- stretch: 8 the job, 9, 8 a store
  pub stretch : (l : Lent) (ts : List ℕ) (lent : Stores) (i : ℕ) (d : Direction)
      → CallClaims
      (cause not_ours (not (lent_well l))
      ∷ cause no_such_piece (turn_list_wrong (job_of l) ts || not (ltb i l.size.count))
      ∷ cause not_ours (not (stores_well (job_of l) ts lent)) ∷ [])
      (stretch_of d lent i) (stretch_call l ts lent i d)
  -- what is handed out: the stretch, and on a refusal none of it
  pub stretch_part : (l : Lent) (ts : List ℕ) (lent : Stores) (i : ℕ) (d : Direction)
      → BufferClaims (λ part. part) [] (stretch_given (stretch_call l ts lent i d)) (stretch_call l ts lent i d)
  -- the stretch's refusal: its number, or 0 where there is none
  pub stretch_refusal : (l : Lent) (ts : List ℕ) (lent : Stores) (i : ℕ) (d : Direction) (r : Refusal)
      → stretch_call l ts lent i d ≡ refused r → stretch_number (stretch_call l ts lent i d) ≡ r.number
  pub stretch_no_refusal : (l : Lent) (ts : List ℕ) (lent : Stores) (i : ℕ) (d : Direction) (part : List (List ℕ))
      → stretch_call l ts lent i d ≡ given part → stretch_number (stretch_call l ts lent i d) ≡ 0
  -- no-fit rows and columns: 8 the job, 9, 8 a stretch, 7
  pub no_fit : (d : Direction) (l : Lent) (p q : LentStretch) (offset : ℤ) (room : ℕ)
      → CallClaims
      (cause not_ours (not (lent_well l))
      ∷ cause no_such_piece (not (known (job_of l) p && known (job_of l) q))
      ∷ cause not_ours (not (stretch_well d (job_of l) p && stretch_well d (job_of l) q))
      ∷ cause wrong_length (ltb room (length (no_fit_of d (job_of l) p q offset))) ∷ [])
      (no_fit_of d (job_of l) p q offset) (no_fit_call d l p q offset room)
  -- the run buffer: the runs over its front
  pub no_fit_runs : (d : Direction) (l : Lent) (p q : LentStretch) (offset : ℤ) (before : List (List ℤ))
      → BufferClaims (λ rs. filled (map run_entry rs) before) before (runs_after before (no_fit_call d l p q offset (length before)))
      (no_fit_call d l p q offset (length before))
  -- rebuilding: 2, 8, 7
  pub rebuild : (d : Direction) (columns rows : ℕ) (es : List (List ℕ)) (room : ℕ)
      → CallClaims
      (cause out_of_range (not (up_to side_bound columns && up_to side_bound rows))
      ∷ cause not_ours (not (strips_well d columns rows es))
      ∷ cause wrong_length (ltb room (columns * rows)) ∷ [])
      (rebuilt_from d columns rows es) (rebuild_call d columns rows es room)
  -- the pixel buffer: the set's bytes over its front
  pub rebuild_pixels : (d : Direction) (columns rows : ℕ) (es : List (List ℕ)) (before : List ℕ)
      → BufferClaims (λ (s : Shape). filled (bytes_of s) before) before (pixels_after before (rebuild_call d columns rows es (length before)))
      (rebuild_call d columns rows es (length before))
  -- ── pairs, sums, used length ──
  -- test for a conflict: 8, 7, 9, 10
  pub shared_pixel_test : (l : Lent) (es : List (List ℕ)) (i k : ℕ)
      → CallClaims
      (cause not_ours (not (lent_well l))
      ∷ cause wrong_length (not (eqb (length es) l.size.count))
      ∷ cause no_such_piece (some_turn_wrong (job_of l) es || not (ltb i l.size.count) || not (ltb k l.size.count) || eqb i k)
      ∷ cause outside_sheet (some_outside (job_of l) (layout_of es)) ∷ [])
      (pair_conflicts (job_of l) (layout_of es) (pair_of i k)) (share_call l es i k)
  -- depth along a direction: 8, 7, 9, 10
  pub depth : (d : Direction) (l : Lent) (es : List (List ℕ)) (i k : ℕ)
      → CallClaims
      (cause not_ours (not (lent_well l))
      ∷ cause wrong_length (not (eqb (length es) l.size.count))
      ∷ cause no_such_piece (some_turn_wrong (job_of l) es || not (ltb i l.size.count) || not (ltb k l.size.count) || eqb i k)
      ∷ cause outside_sheet (some_outside (job_of l) (layout_of es)) ∷ [])
      (pair_depth d (job_of l) (layout_of es) (pair_of i k)) (depth_call d l es i k)
  -- penalty: 8, 7, 9, 10
  pub penalty : (l : Lent) (es : List (List ℕ)) (i k : ℕ)
      → CallClaims
      (cause not_ours (not (lent_well l))
      ∷ cause wrong_length (not (eqb (length es) l.size.count))
      ∷ cause no_such_piece (some_turn_wrong (job_of l) es || not (ltb i l.size.count) || not (ltb k l.size.count) || eqb i k)
      ∷ cause outside_sheet (some_outside (job_of l) (layout_of es)) ∷ [])
      (pair_penalty (job_of l) (layout_of es) (pair_of i k)) (penalty_call l es i k)
  -- weighted sum: 8, 7 the layout, 7 the weights, 2, 9, 10
  pub weighted_sum_answer : (l : Lent) (es : List (List ℕ)) (ws : List ℕ)
      → CallClaims
      (cause not_ours (not (lent_well l))
      ∷ cause wrong_length (not (eqb (length es) l.size.count))
      ∷ cause wrong_length (not (eqb (length ws) (length (pairs l.size.count))))
      ∷ cause out_of_range (some_weight_wrong ws)
      ∷ cause no_such_piece (some_turn_wrong (job_of l) es)
      ∷ cause outside_sheet (some_outside (job_of l) (layout_of es)) ∷ [])
      (weighted_sum (job_of l) ws (layout_of es)) (weighted_sum_call l es ws)
  -- plain sum: 8, 7, 9, 10
  pub plain_sum_answer : (l : Lent) (es : List (List ℕ))
      → CallClaims
      (cause not_ours (not (lent_well l))
      ∷ cause wrong_length (not (eqb (length es) l.size.count))
      ∷ cause no_such_piece (some_turn_wrong (job_of l) es)
      ∷ cause outside_sheet (some_outside (job_of l) (layout_of es)) ∷ [])
      (plain_sum (job_of l) (layout_of es)) (plain_sum_call l es)
  -- used length: 8, 7, 9, 10
  pub used_length_answer : (l : Lent) (es : List (List ℕ))
      → CallClaims
      (cause not_ours (not (lent_well l))
      ∷ cause wrong_length (not (eqb (length es) l.size.count))
      ∷ cause no_such_piece (some_turn_wrong (job_of l) es)
      ∷ cause outside_sheet (some_outside (job_of l) (layout_of es)) ∷ [])
      (used_length (job_of l) (layout_of es)) (used_length_call l es)
  -- preview of a move: 8, 7 the layout, 7 the weights, 2, 9, 10, 10 the new placement
  pub preview : (l : Lent) (es : List (List ℕ)) (ws : List ℕ) (i : ℕ) (p : Placement)
      → CallClaims
      (cause not_ours (not (lent_well l))
      ∷ cause wrong_length (not (eqb (length es) l.size.count))
      ∷ cause wrong_length (not (eqb (length ws) (length (pairs l.size.count))))
      ∷ cause out_of_range (some_weight_wrong ws)
      ∷ cause no_such_piece (some_turn_wrong (job_of l) es || not (ltb i l.size.count) || not (allowed (job_of l) i p.turn))
      ∷ cause outside_sheet (some_outside (job_of l) (layout_of es))
      ∷ cause outside_sheet (not (inside (job_of l) i p)) ∷ [])
      (figures (job_of l) ws (with_place (layout_of es) i p)) (preview_call l es ws i p)
  -- ── line search, descent, guided run ──
  -- line search: 8, 7 the layout, 7 the weights, 2, 9, 10, 11
  pub line_search : (l : Lent) (es : List (List ℕ)) (ws : List ℕ) (i : ℕ) (t : Turn) (line : Line)
      → CallClaims
      (cause not_ours (not (lent_well l))
      ∷ cause wrong_length (not (eqb (length es) l.size.count))
      ∷ cause wrong_length (not (eqb (length ws) (length (pairs l.size.count))))
      ∷ cause out_of_range (some_weight_wrong ws)
      ∷ cause no_such_piece (some_turn_wrong (job_of l) es || not (ltb i l.size.count) || not (allowed (job_of l) i t))
      ∷ cause outside_sheet (some_outside (job_of l) (layout_of es))
      ∷ cause empty_line (eqb (places (job_of l) i t line) 0) ∷ [])
      (best_place (search_line (job_of l) ws (layout_of es) i t line)) (search_call l es ws i t line)
  -- descent: 8, 7 the layout, 7 the weights, 2 a weight or the budget, 9, 10
  pub descent : (l : Lent) (es : List (List ℕ)) (ws : List ℕ) (budget : ℕ)
      → CallClaims
      (cause not_ours (not (lent_well l))
      ∷ cause wrong_length (not (eqb (length es) l.size.count))
      ∷ cause wrong_length (not (eqb (length ws) (length (pairs l.size.count))))
      ∷ cause out_of_range (some_weight_wrong ws || ltb budget_bound budget)
      ∷ cause no_such_piece (some_turn_wrong (job_of l) es)
      ∷ cause outside_sheet (some_outside (job_of l) (layout_of es)) ∷ [])
      (descend (job_of l) ws budget (layout_of es)) (descent_call l es ws budget)
  -- the layout buffer: the layout at the end
  pub descent_layout : (l : Lent) (es : List (List ℕ)) (ws : List ℕ) (budget : ℕ)
      → BufferClaims (λ d. entries_of d.layout) es (descent_after es (descent_call l es ws budget)) (descent_call l es ws budget)
  -- guided run: 8, 7 the layout, 7 the weights, 2 a weight, the budget or the round count, 9, 10
  pub guided_run : (l : Lent) (es : List (List ℕ)) (ws : List ℕ) (count budget : ℕ)
      → CallClaims
      (cause not_ours (not (lent_well l))
      ∷ cause wrong_length (not (eqb (length es) l.size.count))
      ∷ cause wrong_length (not (eqb (length ws) (length (pairs l.size.count))))
      ∷ cause out_of_range (some_weight_wrong ws || ltb budget_bound budget || not (up_to round_bound count))
      ∷ cause no_such_piece (some_turn_wrong (job_of l) es)
      ∷ cause outside_sheet (some_outside (job_of l) (layout_of es)) ∷ [])
      (guide (job_of l) count budget ws (layout_of es)) (guided_call l es ws count budget)
  -- the layout buffer: the best layout
  pub guided_run_layout : (l : Lent) (es : List (List ℕ)) (ws : List ℕ) (count budget : ℕ)
      → BufferClaims (λ g. entries_of g.layout) es (best_after_run es (guided_call l es ws count budget)) (guided_call l es ws count budget)
  -- the weight buffer: the new weights
  pub guided_run_weights : (l : Lent) (es : List (List ℕ)) (ws : List ℕ) (count budget : ℕ)
      → BufferClaims (λ g. g.weights) ws (weights_after_run ws (guided_call l es ws count budget)) (guided_call l es ws count budget)
  -- ── start, layout text, check ──
  -- start layout, with the locked placements of the layout buffer: 8, 7, 9 and 10 of these
  pub start_layout : (l : Lent) (es : List (List ℕ))
      → CallClaims
      (cause not_ours (not (lent_well l))
      ∷ cause wrong_length (not (eqb (length es) l.size.count))
      ∷ cause no_such_piece (locked_turn_wrong (job_of l) es)
      ∷ cause outside_sheet (locked_outside (job_of l) (layout_of es)) ∷ [])
      (start (job_of l) (layout_of es)) (start_call l es)
  -- the layout buffer: the start layout
  pub start_layout_buffer : (l : Lent) (es : List (List ℕ)) → BufferClaims entries_of es (layout_after es (start_call l es)) (start_call l es)
  -- writing a layout: 8, 7 the layout, 9, 10, 7 the text buffer
  pub write_layout : (l : Lent) (es : List (List ℕ)) (room : ℕ)
      → CallClaims
      (cause not_ours (not (lent_well l))
      ∷ cause wrong_length (not (eqb (length es) l.size.count))
      ∷ cause no_such_piece (some_turn_wrong (job_of l) es)
      ∷ cause outside_sheet (some_outside (job_of l) (layout_of es))
      ∷ cause wrong_length (ltb room (length (layout_text (job_of l) (layout_of es)))) ∷ [])
      (layout_text (job_of l) (layout_of es)) (write_layout_call l es room)
  -- the text buffer: the text over its front
  pub write_layout_text : (l : Lent) (es : List (List ℕ)) (before : List ℕ)
      → BufferClaims (λ text. filled text before) before (text_after before (write_layout_call l es (length before)))
      (write_layout_call l es (length before))
  -- reading a layout: it ends in a refusal or in a layout, by 8 for the job and else as LayoutText reads, line by line
  pub read_layout_answer : (l : Lent) (text : List ℕ) (room : ℕ) → Answers (read_layout_call l text room)
  pub read_layout_not_ours : (l : Lent) (text : List ℕ) (room : ℕ) → lent_well l ≡ false
      → read_layout_call l text room ≡ refused (record { number = not_ours; first = 0; second = 0 })
  pub read_layout_by_line : (l : Lent) (text : List ℕ) (room : ℕ) → lent_well l ≡ true
      → read_layout_call l text room ≡ read_layout (job_of l) text room
  -- the layout buffer: the layout that was read
  pub read_layout_buffer : (l : Lent) (text : List ℕ) (before : List (List ℕ))
      → BufferClaims entries_of before (layout_after before (read_layout_call l text (length before))) (read_layout_call l text (length before))
  -- check of a layout: 8, 7, 9, 10, and 12 with the pair that conflicts as its places
  pub check : (l : Lent) (es : List (List ℕ))
      → CallClaims
      (cause not_ours (not (lent_well l))
      ∷ cause wrong_length (not (eqb (length es) l.size.count))
      ∷ cause no_such_piece (some_turn_wrong (job_of l) es)
      ∷ cause outside_sheet (some_outside (job_of l) (layout_of es))
      ∷ conflict_cause (conflicting_pair (job_of l) (layout_of es)) ∷ [])
      tt (check_call l es)
  -- pushing left and down: 8, 7, 9, 10, and 12 with the pair that conflicts as its places
  pub compacts : (l : Lent) (es : List (List ℕ))
      → CallClaims
      (cause not_ours (not (lent_well l))
      ∷ cause wrong_length (not (eqb (length es) l.size.count))
      ∷ cause no_such_piece (some_turn_wrong (job_of l) es)
      ∷ cause outside_sheet (some_outside (job_of l) (layout_of es))
      ∷ conflict_cause (conflicting_pair (job_of l) (layout_of es)) ∷ [])
      (compact (job_of l) (layout_of es)) (compact_call l es)
  -- the layout buffer: the layout that the pieces are pushed to
  pub compacts_layout : (l : Lent) (es : List (List ℕ))
      → BufferClaims (λ c. entries_of c.layout) es (compact_after es (compact_call l es)) (compact_call l es)
  -- ── the cut list ──
  -- all lines: 8, 7 the layout's length, 9, 10, 12 with the pair, 7 for the line buffer
  pub cut_list : (l : Lent) (es : List (List ℕ)) (room : ℕ)
      → CallClaims
      (cause not_ours (not (lent_well l))
      ∷ cause wrong_length (not (eqb (length es) l.size.count))
      ∷ cause no_such_piece (some_turn_wrong (job_of l) es)
      ∷ cause outside_sheet (some_outside (job_of l) (layout_of es))
      ∷ conflict_cause (conflicting_pair (job_of l) (layout_of es))
      ∷ cause wrong_length (ltb room (length (cut_lines (job_of l) (layout_of es)))) ∷ [])
      (cut_lines (job_of l) (layout_of es)) (cut_lines_call l es room)
  -- the line buffer: the lines over its front
  pub cut_list_lines : (l : Lent) (es before : List (List ℕ))
      → BufferClaims (λ ls. filled (map line_entry ls) before) before (lines_after before (cut_lines_call l es (length before)))
      (cut_lines_call l es (length before))
  -- a step of a layout: 8, 7, 2 for the pitch, 9, 10, 12 with the pair
  pub cut_step : (l : Lent) (es : List (List ℕ)) (pitch k : ℕ)
      → CallClaims
      (cause not_ours (not (lent_well l))
      ∷ cause wrong_length (not (eqb (length es) l.size.count))
      ∷ cause out_of_range (not (up_to pitch_bound pitch))
      ∷ cause no_such_piece (some_turn_wrong (job_of l) es)
      ∷ cause outside_sheet (some_outside (job_of l) (layout_of es))
      ∷ conflict_cause (conflicting_pair (job_of l) (layout_of es)) ∷ [])
      (step_in pitch (step_at (cut_lines (job_of l) (layout_of es)) k)) (cut_step_call l es pitch k)
  -- a step of a list of lines: 2 for the pitch
  pub line_step : (ls : List (List ℕ)) (pitch k : ℕ)
      → CallClaims (cause out_of_range (not (up_to pitch_bound pitch)) ∷ []) (step_in pitch (step_at (map entry_line ls) k)) (line_step_call ls pitch k)
  -- ── the sheet ──
  -- fresh sheet: 8, 7
  pub fresh_sheet : (l : Lent) (room : ℕ)
      → CallClaims (cause not_ours (not (lent_well l)) ∷ cause wrong_length (not (eqb room (l.size.rows * l.size.columns))) ∷ [])
      (fresh (job_of l)) (fresh_call l room)
  -- the count buffer: the fresh sheet's counts
  pub fresh_sheet_counts : (l : Lent) (before : List ℕ)
      → BufferClaims (λ s. s.counts) before (counts_after before (fresh_call l (length before))) (fresh_call l (length before))
  -- lay: 8 the job, 7, 8 the sheet, 9, 13, 10
  pub lays : (l : Lent) (s : Sheet) (i : ℕ) (p : Placement)
      → CallClaims
      (cause not_ours (not (lent_well l))
      ∷ cause wrong_length (not (eqb (length s.counts) (l.size.rows * l.size.columns)))
      ∷ cause not_ours (not (sheet_well (job_of l) s))
      ∷ cause no_such_piece (not (ltb i (job_of l).size.count && allowed (job_of l) i p.turn))
      ∷ cause laid_already (entry_in s.pieces i).laid
      ∷ cause outside_sheet (not (inside (job_of l) i p)) ∷ [])
      (lay (job_of l) s i p) (lay_call l s i p)
  -- record and counts together, and the count buffer
  pub lay_sheet : (l : Lent) (s : Sheet) (i : ℕ) (p : Placement)
      → BufferClaims (λ s'. s') s (afterwards s (lay_call l s i p)) (lay_call l s i p)
  pub lay_counts : (l : Lent) (s : Sheet) (i : ℕ) (p : Placement)
      → BufferClaims (λ s'. s'.counts) s.counts (counts_after s.counts (lay_call l s i p)) (lay_call l s i p)
  -- withdraw: 8 the job, 7, 8 the sheet, 9, 14, 15
  pub withdraws : (l : Lent) (s : Sheet) (i : ℕ)
      → CallClaims
      (cause not_ours (not (lent_well l))
      ∷ cause wrong_length (not (eqb (length s.counts) (l.size.rows * l.size.columns)))
      ∷ cause not_ours (not (sheet_well (job_of l) s))
      ∷ cause no_such_piece (not (ltb i (job_of l).size.count))
      ∷ cause not_laid (not (entry_in s.pieces i).laid)
      ∷ cause piece_locked (is_locked (job_of l) i) ∷ [])
      (withdraw (job_of l) s i) (withdraw_call l s i)
  -- record and counts together, and the count buffer
  pub withdraw_sheet : (l : Lent) (s : Sheet) (i : ℕ)
      → BufferClaims (λ s'. s') s (afterwards s (withdraw_call l s i)) (withdraw_call l s i)
  pub withdraw_counts : (l : Lent) (s : Sheet) (i : ℕ)
      → BufferClaims (λ s'. s'.counts) s.counts (counts_after s.counts (withdraw_call l s i)) (withdraw_call l s i)
  -- ── the program ──
  -- it prints the refusal by 7 for an input above 65,536 bytes, else the reader's, else the run
  pub program : (input : List ℕ)
      → program_text input
      ≡ printed
      (and_then (unless (cause wrong_length (ltb input_bound (length input)) ∷ []) input) (λ text. read_job text piece_bound area_bound))
  -- over a lent output buffer: 7
  pub program_output : (input : List ℕ) (room : ℕ)
      → CallClaims (cause wrong_length (ltb room (length (program_text input))) ∷ []) (program_text input) (program_call input room)
  -- the output buffer: what is printed over its front
  pub program_output_text : (input before : List ℕ)
      → BufferClaims (λ text. filled text before) before (text_after before (program_call input (length before)))
      (program_call input (length before))
