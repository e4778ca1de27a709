-- What demands 1, 2 and 3 say of the public calls, for a lent job, layouts, weights, stores, strips, sheets, texts and numbers of any
-- content: nothing is asked of what is lent but what an earlier call gave, since a call that is not refused has found it in order.
-- The calls are defined in model's Calls; each theorem named here is proved in the file that it is taken from. The last three theorems
-- are the claims. Assumes nothing.
use Rattle.list_laws.proofs.Kit.{◌≡◌, Bool, true, ◌↔◌, ◌≢◌, List, map, ◌*◌, ◌<◌, ◌≤◌, ℕ, eqb, length, take, ℤ}
use Rattle.model.specs.Piece.{Shape, on_line}
use Rattle.model.specs.Overlap.{OffsetRun}
use Rattle.model.specs.Layout.{Layout, Pair, allowed, is_locked, inside, place_of, with_place, figures, turned_piece, unit_weights}
use Rattle.model.specs.Buffer.{layout_of, strip_entry}
use Rattle.model.specs.Search.{Best, places}
use Rattle.model.specs.Descent.{Descent, trials}
use Rattle.model.specs.Guided.{Guided, rounds}
use Rattle.model.specs.Cover.{Sheet, entry_in, Call, laying, withdrawing, called, sheet_well}
use Rattle.model.specs.Lent.{Lent, job_of, lent_well, piece_bound, area_bound}
use Rattle.model.specs.Refusal.{refused, given, wrong_length}
use Rattle.model.specs.JobText.{read_job}
use Rattle.model.specs.Store.{turn_in, piece_strips}
use Rattle.model.specs.Program.{input_bound, refusal_text, program_text}
use Rattle.model.specs.Calls.{Stores, strips_call, stores_after, stretch_well, used_length_call, descent_after, best_after_run, weights_after_run, stretch_call}
use Rattle.model.specs.Calls.{stretch_given, stretch_number, LentStretch, no_fit_call, runs_after, strips_well, rebuild_call, share_call, depth_call, penalty_call}
use Rattle.model.specs.Calls.{weighted_sum_call, plain_sum_call, search_call, descent_call, guided_call, write_layout_call, read_layout_call, start_call, check_call}
use Rattle.model.specs.Calls.{set_lock_call, fresh_call, lay_call, withdraw_call, preview_call, cut_lines_call, lines_after, cut_step_call, line_step_call}
use Rattle.model.specs.Calls.{compact_call, compact_after}
use Rattle.model.specs.Compact.{Compacted, compact}
use Rattle.model.specs.Cut.{CutLine, cut_lines}
use Rattle.model.specs.declared.CutStep.{CutStep}
use Rattle.model.specs.declared.Figures.{Figures}
use Rattle.model.specs.declared.Turn.{Turn}
use Rattle.model.specs.declared.Direction.{Direction}
use Rattle.model.specs.declared.Line.{Line}
use Rattle.model.specs.declared.Placement.{Placement}
use Rattle.model.specs.declared.Refusal.{Refusal}
use Rattle.text_laws.proofs.JobRead.{job_read_well}
use Rattle.text_laws.specs.Texts.{Readable, Demand1Text}
use Rattle.text_laws.proofs.Demand1Text.{demand1_text}
use Rattle.text_laws.proofs.LentRead.{lent_well_readable}
use Rattle.overlap_laws.specs.NoFit.{NoFitLine}
use Rattle.cover_laws.specs.Effects.{LayGives, WithdrawGives}
use Rattle.cover_laws.specs.CoverClaims.{CoverHolds, SheetsWithLocks}
use Rattle.cover_laws.proofs.Locks.{sheets_with_locks_lem}
use Rattle.descent_laws.specs.Claims.{ValidLayout, TrialsClaims, DescentClaims, GuidedClaims}
use Rattle.descent_laws.proofs.Order.{trials_claims}
use Rattle.descent_laws.specs.Search.{LeastFound}
use Rattle.descent_laws.specs.Start.{StartClaims}
use Rattle.call_laws.specs.Stores.{StretchClaims}
use Rattle.call_laws.proofs.Stores.{stretch_some, stretch_tells, stretch_after, stretch_lent, stretch_rebuilt}
use Rattle.call_laws.specs.Rebuilding.{PieceOf, RebuildClaims, RebuiltAs}
use Rattle.call_laws.proofs.Rebuilding.{strips_well_piece, rebuild_given}
use Rattle.call_laws.specs.Overlaps.{PairNear, PairShared, PenaltyClaims, SumClaims, DepthClaims}
use Rattle.call_laws.proofs.Overlaps.{penalty_given, penalty_order, depth_given, share_given, share_paper, no_fit_given, weighted_given, plain_given}
use Rattle.call_laws.specs.NoFits.{OffsetsWithin}
use Rattle.call_laws.proofs.NoFits.{offsets_given}
use Rattle.call_laws.specs.Checks.{LowestPair, Checked, conflict_refusal}
use Rattle.call_laws.proofs.Checks.{check_given, check_conflict}
use Rattle.strip_laws.specs.Turns.{TurnedExactly}
use Rattle.strip_laws.proofs.Turns.{turned_exactly}
use Rattle.call_laws.specs.Clauses.{CallClauses}
use Rattle.call_laws.proofs.Clauses.{call_clauses}
use Rattle.call_laws.proofs.Texts.{start_given, layout_given, written_read_back}
use Rattle.call_laws.specs.Lengths.{UsedClaims}
use Rattle.call_laws.proofs.Lengths.{used_given}
use Rattle.call_laws.specs.Previews.{PreviewClaims}
use Rattle.call_laws.proofs.Previews.{preview_given, preview_gives, preview_at_rest}
use Rattle.call_laws.specs.Cuts.{CutListClaims}
use Rattle.cut_laws.specs.Exact.{StepExact}
use Rattle.call_laws.proofs.Cuts.{cut_given, step_given, same_steps}
use Rattle.call_laws.specs.Compacting.{CompactedClaims}
use Rattle.call_laws.proofs.Compacting.{compact_given}
use Rattle.call_laws.specs.Reading.{job_left, JobLeft, FrontRead}
use Rattle.call_laws.proofs.Reading.{job_given, front_given}
use Rattle.call_laws.specs.Programs.{Prints}
use Rattle.call_laws.proofs.Programs.{program_prints, program_refuses, program_too_long}
use Rattle.call_laws.proofs.Runs.{search_given, empty_line_exactly, descent_given, descent_left, guided_given, guided_left}
use Rattle.call_laws.specs.Sheets.{after_sheet_calls}
use Rattle.call_laws.proofs.Sheets.{lay_given, withdraw_given, fresh_given, lay_call_lem, withdraw_call_lem, sheet_reached, locked_laid_lem}
use Rattle.call_laws.specs.Locks.{LockCall, after_locks, LockGives, LocksClaims, Shop, ShopCall, after_shop_calls, ShopClaims}
use Rattle.call_laws.proofs.Locks.{lock_gives, locks_claims, shop_claims}

-- ── demand 1: results as laid down, and refusals ──

pub record Demand1Calls : Type 0 where
  -- one clause a call, in Clauses of specs/: it refuses exactly by the first of its causes in document 01's order that is there, it gives
  -- its value exactly where none is, and after a refusal each lent buffer holds what it held before
  pub each_call : CallClauses
  -- the readers, both ways: which text is read as what, and each refusal's cause on the line that it names
  pub texts : Demand1Text
  -- the check that every call makes first of a lent job passes exactly where reading some text gives the job
  pub job_check : (l : Lent) → (lent_well l ≡ true) ↔ Readable l
  pub job_read : (text : List ℕ) (tableLength pixelsLength : ℕ) (l : Lent) → read_job text tableLength pixelsLength ≡ given l
      → lent_well l ≡ true
  -- the check of a lent sheet that lay and withdraw make passes exactly where some list of calls from a fresh sheet gives the sheet
  pub sheet_check : (l : Lent) (room : ℕ) (f : Sheet) → fresh_call l room ≡ given f → (s : Sheet)
      → (sheet_well (job_of l) s ≡ true) ↔ ((cs : List Call) × (after_sheet_calls l f cs ≡ s))
  -- a job that is read stands in the lent buffers, whatever lies beyond it, as a job that every call takes
  pub job_leaves : (text : List ℕ) (table : List (List ℕ)) (pixels : List ℕ) (l : Lent) → read_job text (length table) (length pixels) ≡ given l
      → JobLeft l (job_left text table pixels l)
  pub job_front : (text : List ℕ) (table : List (List ℕ)) (pixels : List ℕ) (l : Lent) → read_job text (length table) (length pixels) ≡ given l
      → FrontRead text table pixels l
  -- a lock that is set changes that alone, and of every list of calls that set one: no call clears a lock, and the job is again one that reading gives
  pub lock_given : (l : Lent) (i station : ℕ) (table : List (List ℕ)) → set_lock_call l i station ≡ given table → LockGives l i table
  pub locks : (l : Lent) (cs : List LockCall) → LocksClaims l cs (after_locks l cs)
  -- the start layout is valid and leaves the locked pieces where they are given, a layout that is read is valid, and what is written is read
  -- back
  pub starts : (l : Lent) (es : List (List ℕ)) (v : Layout) → start_call l es ≡ given v → StartClaims (job_of l) (layout_of es) v
  pub layout_read : (l : Lent) (text : List ℕ) (room : ℕ) (v : Layout) → read_layout_call l text room ≡ given v → ValidLayout (job_of l) v
  pub written_read : (l : Lent) (es : List (List ℕ)) (room : ℕ) (text : List ℕ) → write_layout_call l es room ≡ given text
      → read_layout_call l text l.size.count ≡ given (layout_of es)
  -- a layout that passes the check is valid with no conflict, and refusal 12 names the lowest pair that conflicts
  pub checks : (l : Lent) (es : List (List ℕ)) (u : Unit {0}) → check_call l es ≡ given u → Checked (job_of l) (layout_of es)
  pub check_names : (l : Lent) (es : List (List ℕ)) (p : Pair) → check_call l es ≡ refused (conflict_refusal p)
      → LowestPair (job_of l) (layout_of es) p
  -- the used length reaches from the smallest corner x to the largest right end
  pub used_lengths : (l : Lent) (es : List (List ℕ)) (n : ℕ) → used_length_call l es ≡ given n → UsedClaims (job_of l) (layout_of es) n
  -- lines and steps of a cut list that are given are those of a layout that passes the check, and the steps of the lines that were stored are
  -- the layout's
  pub cut_lists : (l : Lent) (es : List (List ℕ)) (room : ℕ) (ls : List CutLine) → cut_lines_call l es room ≡ given ls
      → (ls ≡ cut_lines (job_of l) (layout_of es)) × CutListClaims l es
  pub cut_steps : (l : Lent) (es : List (List ℕ)) (pitch k : ℕ) (t : CutStep) → cut_step_call l es pitch k ≡ given t
      → CutListClaims l es × StepExact (cut_lines (job_of l) (layout_of es)) pitch k t
  pub line_steps : (l : Lent) (es before : List (List ℕ)) (ls : List CutLine) (pitch k : ℕ) → cut_lines_call l es (length before) ≡ given ls
      → line_step_call (take (length ls) (lines_after before (cut_lines_call l es (length before)))) pitch k ≡ cut_step_call l es pitch k
  -- a layout that is pushed left and down is what the request says, in the buffer that the call leaves
  pub compacted : (l : Lent) (es : List (List ℕ)) (c : Compacted) → compact_call l es ≡ given c
      → (c ≡ compact (job_of l) (layout_of es)) × CompactedClaims l es (compact_after es (compact_call l es)) c.slid
  -- the program prints the text of the run that the calls give, or the reader's refusal, or `refused,7,0` for too long an input
  pub program : (input : List ℕ) (l : Lent) → length input ≤ input_bound → read_job input piece_bound area_bound ≡ given l → Prints input l
  pub program_refused : (input : List ℕ) (r : Refusal) → length input ≤ input_bound → read_job input piece_bound area_bound ≡ refused r
      → program_text input ≡ refusal_text r
  pub program_long : (input : List ℕ) → input_bound < length input
      → program_text input ≡ refusal_text (record { number = wrong_length; first = 0; second = 0 })

-- ── demand 2: strips, overlap, counts ──

pub record Demand2Calls : Type 0 where
  -- a piece in a turn, of which every call on pixels speaks, is the image of the piece under document 01's map of that turn
  pub turns : (t : Turn) (s : Shape) → TurnedExactly t s
  -- the stores that the strips call leaves are the job's, so that each piece's stretch is handed out of them
  pub stores_left : (l : Lent) (ts : List ℕ) (lent s : Stores) → strips_call l ts lent ≡ given s → (i : ℕ) (d : Direction) → i < l.size.count
      → stretch_call l ts (stores_after lent (strips_call l ts lent)) i d ≡ given (map strip_entry (piece_strips d (job_of l) ts i))
  -- a stretch is the piece's strips in its turn and never empty; an empty one is a refusal's, whose number the second call tells
  pub stretches : (l : Lent) (ts : List ℕ) (lent : Stores) (i : ℕ) (d : Direction) (part : List (List ℕ))
      → stretch_call l ts lent i d ≡ given part → StretchClaims l ts i d part
  pub stretch_refused : (l : Lent) (ts : List ℕ) (lent : Stores) (i : ℕ) (d : Direction)
      → (length (stretch_given (stretch_call l ts lent i d)) ≡ 0) ↔ (stretch_number (stretch_call l ts lent i d) ≢ 0)
  -- the no-fit calls take a stretch that is given for the piece in its turn, and rebuilding gives the piece back, box and bytes
  pub stretch_taken : (l : Lent) (ts : List ℕ) (i : ℕ) (d : Direction) (part : List (List ℕ)) → StretchClaims l ts i d part
      → stretch_well d (job_of l) (record { piece = i; turn = turn_in ts i; stretch = part }) ≡ true
  pub pixels_again : (l : Lent) (ts : List ℕ) (i : ℕ) (d : Direction) (part : List (List ℕ)) (room : ℕ) → StretchClaims l ts i d part
      → (turned_piece (job_of l) i (turn_in ts i)).columns * (turned_piece (job_of l) i (turn_in ts i)).rows ≤ room
      → RebuiltAs d part (turned_piece (job_of l) i (turn_in ts i)) room
  -- the test of refusal 8 of rebuilding passes exactly where a piece of the box has just the lent strips, and rebuilding gives the
  -- one piece that has them
  pub rebuild_check : (d : Direction) (columns rows : ℕ) (es : List (List ℕ))
      → (strips_well d columns rows es ≡ true) ↔ ((s : Shape) × PieceOf d columns rows es s)
  pub rebuilds : (d : Direction) (columns rows : ℕ) (es : List (List ℕ)) (room : ℕ) (s : Shape) → rebuild_call d columns rows es room ≡ given s
      → RebuildClaims d columns rows es s
  -- the test for a conflict, depths, penalty and no-fit rows and columns are those of the pixel sets, by the job's gap
  pub shares : (l : Lent) (es : List (List ℕ)) (i k : ℕ) (b : Bool) → share_call l es i k ≡ given b
      → (b ≡ true) ↔ PairNear (job_of l) (layout_of es) i k
  -- of a job without a gap the test is the paper's: it tells whether the two share a pixel
  pub shares_paper : (l : Lent) (es : List (List ℕ)) (i k : ℕ) (b : Bool) → share_call l es i k ≡ given b → l.size.gap ≡ 0
      → (b ≡ true) ↔ PairShared (job_of l) (layout_of es) i k
  pub depths : (d : Direction) (l : Lent) (es : List (List ℕ)) (i k n : ℕ) → depth_call d l es i k ≡ given n
      → DepthClaims d (job_of l) (layout_of es) i k n
  pub penalties : (l : Lent) (es : List (List ℕ)) (i k n : ℕ) → penalty_call l es i k ≡ given n → PenaltyClaims (job_of l) (layout_of es) i k n
  -- the penalty does not depend on which piece is called first
  pub penalty_alike : (l : Lent) (es : List (List ℕ)) (i k : ℕ) → penalty_call l es i k ≡ penalty_call l es k i
  pub no_fits : (d : Direction) (l : Lent) (p q : LentStretch) (o : ℤ) (room : ℕ) (rs : List OffsetRun) → no_fit_call d l p q o room ≡ given rs
      → NoFitLine l.size.gap d (turned_piece (job_of l) p.piece p.turn) (turned_piece (job_of l) q.piece q.turn) o rs
  -- the runs that stand in the buffer lie between -(254 + g) and 254 + g, where g is the gap
  pub no_fit_offsets : (d : Direction) (l : Lent) (p q : LentStretch) (o : ℤ) (before : List (List ℤ)) (rs : List OffsetRun)
      → no_fit_call d l p q o (length before) ≡ given rs → OffsetsWithin l.size.gap (length rs) (runs_after before (no_fit_call d l p q o (length before)))
  -- after every list of lay and withdraw calls from a fresh sheet each pixel's count is the number of laid pieces on it
  pub counts : (l : Lent) (room : ℕ) (s : Sheet) → fresh_call l room ≡ given s → (cs : List Call)
      → CoverHolds (job_of l) cs (after_sheet_calls l s cs)
  -- a locked piece that is laid stays laid, at its place, after every list of such calls
  pub locked_laid : (l : Lent) (s : Sheet) (i : ℕ) → is_locked (job_of l) i ≡ true → (entry_in s.pieces i).laid ≡ true → (cs : List Call)
      → entry_in (after_sheet_calls l s cs).pieces i ≡ entry_in s.pieces i
  -- and the counts stay right while locks are set between the calls: a lock makes no difference to which sheets are well
  pub sheets_with_locks : (l : Lent) → SheetsWithLocks l
  pub locks_between : (w : Shop) (cs : List ShopCall) → ShopClaims w (after_shop_calls w cs)
  -- of a lent job and a sheet that pass their checks, lay and withdraw are the calls of the sheet's own rules (Cover of the model)
  pub lay_calls : (l : Lent) (s : Sheet) (i : ℕ) (p : Placement) → lent_well l ≡ true → sheet_well (job_of l) s ≡ true
      → lay_call l s i p ≡ called (job_of l) s (laying i p)
  pub withdraw_calls : (l : Lent) (s : Sheet) (i : ℕ) → lent_well l ≡ true → sheet_well (job_of l) s ≡ true
      → withdraw_call l s i ≡ called (job_of l) s (withdrawing i)
  -- a single lay or withdraw, on a sheet of any content that is not refused
  pub lays : (l : Lent) (s s' : Sheet) (i : ℕ) (p : Placement) → lay_call l s i p ≡ given s' → LayGives (job_of l) s i p s'
  pub withdraws : (l : Lent) (s s' : Sheet) (i : ℕ) → withdraw_call l s i ≡ given s' → WithdrawGives (job_of l) s i s'

-- ── demand 3: sums, line search, descent, guided run ──

pub record Demand3Calls : Type 0 where
  -- a sum is 0 exactly when no two pieces conflict
  pub weighted_sums : (l : Lent) (es : List (List ℕ)) (ws : List ℕ) (n : ℕ) → weighted_sum_call l es ws ≡ given n
      → SumClaims (job_of l) ws (layout_of es) n
  pub plain_sums : (l : Lent) (es : List (List ℕ)) (n : ℕ) → plain_sum_call l es ≡ given n
      → SumClaims (job_of l) (unit_weights (job_of l).size.count) (layout_of es) n
  -- the figures of a preview are those of the moved layout, which the calls give once the move is made
  pub previews : (l : Lent) (es : List (List ℕ)) (ws : List ℕ) (i : ℕ) (p : Placement) (f : Figures) → preview_call l es ws i p ≡ given f
      → PreviewClaims l es ws i p f
  -- they are given wherever the sum of the layout is and the new placement is inside in a turn allowed to the piece
  pub previews_given : (l : Lent) (es : List (List ℕ)) (ws : List ℕ) (i : ℕ) (p : Placement) (sum : ℕ) → weighted_sum_call l es ws ≡ given sum
      → i < l.size.count → allowed (job_of l) i p.turn ≡ true → inside (job_of l) i p ≡ true
      → preview_call l es ws i p ≡ given (figures (job_of l) ws (with_place (layout_of es) i p))
  -- and with the piece's own placement they are the present ones
  pub previews_at_rest : (l : Lent) (es : List (List ℕ)) (ws : List ℕ) (i sum used : ℕ) → weighted_sum_call l es ws ≡ given sum
      → used_length_call l es ≡ given used → i < l.size.count
      → preview_call l es ws i (place_of (layout_of es) i) ≡ given (record { sum = sum; length = used })
  -- a line search finds the least sum over every inside corner on the line, and the smallest coordinate that has it
  pub searches : (l : Lent) (es : List (List ℕ)) (ws : List ℕ) (i : ℕ) (t : Turn) (line : Line) (b : Best)
      → search_call l es ws i t line ≡ given b → LeastFound (job_of l) ws (layout_of es) i t line b
  -- the cause of refusal 11 is there exactly where no inside corner lies on the line
  pub empty_lines : (l : Lent) (i : ℕ) (t : Turn) (line : Line)
      → (eqb (places (job_of l) i t line) 0 ≡ true) ↔ ((a : ℕ) → inside (job_of l) i (on_line line t a) ≡ true → ⊥)
  -- the trials, T of them: every free piece in every turn allowed to it and both directions, nothing else, each once
  pub trials_listed : (l : Lent) → TrialsClaims (job_of l) (trials (job_of l))
  -- demand 3's claims about a descent, whatever its budget
  pub descents : (l : Lent) (es : List (List ℕ)) (ws : List ℕ) (budget : ℕ) (d : Descent) → descent_call l es ws budget ≡ given d
      → DescentClaims (job_of l) ws budget (layout_of es) d
  -- the layout at the end stands in the layout buffer
  pub descent_leaves : (l : Lent) (es : List (List ℕ)) (ws : List ℕ) (budget : ℕ) (d : Descent) → descent_call l es ws budget ≡ given d
      → layout_of (descent_after es (descent_call l es ws budget)) ≡ d.layout
  -- demand 3's claims about a guided run and each of its rounds, whatever their number and budget
  pub guided_runs : (l : Lent) (es : List (List ℕ)) (ws : List ℕ) (K budget : ℕ) (g : Guided) → guided_call l es ws K budget ≡ given g
      → GuidedClaims (job_of l) ws K budget (layout_of es) (rounds (job_of l) K budget ws (layout_of es)) g
  -- the best layout and the new weights stand in their buffers
  pub guided_leaves : (l : Lent) (es : List (List ℕ)) (ws : List ℕ) (K budget : ℕ) (g : Guided) → guided_call l es ws K budget ≡ given g
      → (layout_of (best_after_run es (guided_call l es ws K budget)) ≡ g.layout) × (weights_after_run ws (guided_call l es ws K budget) ≡ g.weights)

-- ── the claims ──

-- demand 1 holds of the public calls
pub demand1_calls : Demand1Calls
demand1_calls =
    record {
      each_call = call_clauses;
      texts = demand1_text;
      job_check = lent_well_readable;
      job_read = job_read_well;
      sheet_check = sheet_reached;
      job_leaves = job_given;
      job_front = front_given;
      lock_given = lock_gives;
      locks = locks_claims;
      starts = start_given;
      layout_read = layout_given;
      written_read = written_read_back;
      checks = check_given;
      check_names = check_conflict;
      used_lengths = used_given;
      cut_lists = cut_given;
      cut_steps = step_given;
      line_steps = same_steps;
      compacted = compact_given;
      program = program_prints;
      program_refused = program_refuses;
      program_long = program_too_long;
    }

-- demand 2 holds of the public calls
pub demand2_calls : Demand2Calls
demand2_calls =
    record {
      turns = turned_exactly;
      stores_left = stretch_after;
      stretches = stretch_some;
      stretch_refused = stretch_tells;
      stretch_taken = stretch_lent;
      pixels_again = stretch_rebuilt;
      rebuild_check = strips_well_piece;
      rebuilds = rebuild_given;
      shares = share_given;
      shares_paper = share_paper;
      depths = depth_given;
      penalties = penalty_given;
      penalty_alike = penalty_order;
      no_fits = no_fit_given;
      no_fit_offsets = offsets_given;
      counts = fresh_given;
      locked_laid = locked_laid_lem;
      sheets_with_locks = sheets_with_locks_lem;
      locks_between = shop_claims;
      lay_calls = lay_call_lem;
      withdraw_calls = withdraw_call_lem;
      lays = lay_given;
      withdraws = withdraw_given;
    }

-- demand 3 holds of the public calls
pub demand3_calls : Demand3Calls
demand3_calls =
    record {
      weighted_sums = weighted_given;
      plain_sums = plain_given;
      previews = preview_given;
      previews_given = preview_gives;
      previews_at_rest = preview_at_rest;
      searches = search_given;
      empty_lines = λ l. empty_line_exactly (job_of l);
      trials_listed = λ l. trials_claims (job_of l);
      descents = descent_given;
      descent_leaves = descent_left;
      guided_runs = guided_given;
      guided_leaves = guided_left;
    }
