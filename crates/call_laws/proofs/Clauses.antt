-- Document 01, 'When a call says no': each public call keeps its clause. The outcome of every call but the two readers is `unless` of its
-- causes in order, so the law of `unless` in Refusals is the call's, at the causes that the call names; what a call leaves in a
-- lent buffer goes by whether the outcome is a refusal. Assumes nothing.
use Rattle.list_laws.proofs.Kit.{◌≡◌, refl, Bool, false, true, inl, inr, List, [], ◌∷◌, ℕ, ltb, length}
use Rattle.model.specs.Lent.{Lent, job_of, lent_well, piece_bound, area_bound}
use Rattle.model.specs.Cover.{Sheet, afterwards, lay_causes, withdraw_causes}
use Rattle.model.specs.Refusal.{Outcome, refused, given, Cause, cause, unless, wrong_length, not_ours}
use Rattle.model.specs.Text.{and_then}
use Rattle.model.specs.JobText.{read_job}
use Rattle.model.specs.LayoutText.{read_layout}
use Rattle.model.specs.Program.{refusal_text, printed, program_text, input_bound, program_call}
use Rattle.model.specs.Calls.{set_lock_call}
use Rattle.model.specs.Calls.{leaving, stretch_number, strips_call, stretch_call, no_fit_call, rebuild_call, pair_causes, share_call, depth_call, penalty_call}
use Rattle.model.specs.Calls.{weighted_sum_call, layout_causes, plain_sum_call, used_length_call, search_call, descent_call, guided_call, start_call, write_layout_call}
use Rattle.model.specs.Calls.{compact_call, preview_call, read_layout_call, check_call, fresh_call, sheet_causes, lay_call, withdraw_call, cut_lines_call, cut_step_call, line_step_call}
use Rattle.model.specs.declared.Refusal.{Refusal}
use Rattle.call_laws.specs.Clause.{CallClaims, BufferClaims, Answers}
use Rattle.call_laws.specs.Clauses.{CallClauses}
use Rattle.call_laws.proofs.Refusals.{refused_exactly, given_exactly, refused_leaves}

-- ── of every call ──

-- an outcome that is `unless` of causes in order
pub unless_claims : {A : Type 0} (cs : List Cause) (a : A) → CallClaims cs a (unless cs a)
unless_claims cs a = record { refuses = refused_exactly cs a; gives = given_exactly cs a }

-- what is left in a lent buffer
pub leaving_claims : {A B : Type 0} (content : A → B) (before : B) (o : Outcome A)
    → BufferClaims content before (leaving content before o) o
leaving_claims content before o = record { kept = refused_leaves content before o; written = λ a e. rw e }

-- an outcome is a refusal or a value
pub answers : {A : Type 0} (o : Outcome A) → Answers o
answers (refused r) = inl (r, refl)
answers (given a) = inr (a, refl)

-- ── the sheet, the stretch's refusal, the readers ──

-- the sheet after an outcome
sheet_claims : (s : Sheet) (o : Outcome Sheet) → BufferClaims (λ (s' : Sheet). s') s (afterwards s o) o
sheet_claims s o = record { kept = λ r e. rw e; written = λ s' e. rw e }

-- the number that the second call tells
number_refused : (o : Outcome (List (List ℕ))) (r : Refusal) → o ≡ refused r → stretch_number o ≡ r.number
number_refused o r e = rw e

-- it is 0 where the stretch is given
number_given : (o : Outcome (List (List ℕ))) (part : List (List ℕ)) → o ≡ given part → stretch_number o ≡ 0
number_given o part e = rw e

-- a layout is not read of a job that no reading gives
layout_not_ours : (l : Lent) (text : List ℕ) (room : ℕ) → lent_well l ≡ false
    → read_layout_call l text room ≡ refused (record { number = not_ours; first = 0; second = 0 })
unfolding read_layout_call unless
layout_not_ours l text room e = rw e

-- of another it is read line by line
layout_by_line : (l : Lent) (text : List ℕ) (room : ℕ) → lent_well l ≡ true → read_layout_call l text room ≡ read_layout (job_of l) text room
unfolding read_layout_call unless
layout_by_line l text room e = rw e

-- ── the program ──

-- by whether the input is too long
program_test : (input : List ℕ) (t : Bool)
    → elim t as (λ _. List ℕ) [
      | true ↦ refusal_text (record { number = wrong_length; first = 0; second = 0 })
      | false ↦ printed (read_job input piece_bound area_bound)
    ]
    ≡ printed (and_then (unless (cause wrong_length t ∷ []) input) (λ text. read_job text piece_bound area_bound))
unfolding unless
program_test input true = refl
program_test input false = refl

-- the program refuses too long an input by 7, and else as the reader does
program_clause : (input : List ℕ)
    → program_text input
    ≡ printed (and_then (unless (cause wrong_length (ltb input_bound (length input)) ∷ []) input) (λ text. read_job text piece_bound area_bound))
unfolding program_text
program_clause input = program_test input (ltb input_bound (length input))

-- ── each call ──

-- every public call keeps its clause
pub call_clauses : CallClauses
unfolding set_lock_call strips_call stretch_call no_fit_call rebuild_call pair_causes share_call depth_call penalty_call weighted_sum_call layout_causes
    plain_sum_call used_length_call preview_call search_call descent_call guided_call start_call write_layout_call check_call compact_call fresh_call sheet_causes
    lay_call lay_causes withdraw_call withdraw_causes program_call cut_lines_call cut_step_call line_step_call
call_clauses =
    record {
      read_job_answer = λ text m n. answers (read_job text m n);
      read_job_table = λ text table n. leaving_claims _ table _;
      read_job_pixels = λ text m pixels. leaving_claims _ pixels _;
      set_lock = λ l i station. unless_claims _ _;
      set_lock_table = λ l i station. leaving_claims _ l.table _;
      strips = λ l ts lent. unless_claims _ _;
      strips_stores = λ l ts lent. leaving_claims _ lent _;
      stretch = λ l ts lent i d. unless_claims _ _;
      stretch_part = λ l ts lent i d. leaving_claims _ [] _;
      stretch_refusal = λ l ts lent i d. number_refused _;
      stretch_no_refusal = λ l ts lent i d. number_given _;
      no_fit = λ d l p q offset room. unless_claims _ _;
      no_fit_runs = λ d l p q offset before. leaving_claims _ before _;
      rebuild = λ d columns rows es room. unless_claims _ _;
      rebuild_pixels = λ d columns rows es before. leaving_claims _ before _;
      shared_pixel_test = λ l es i k. unless_claims _ _;
      depth = λ d l es i k. unless_claims _ _;
      penalty = λ l es i k. unless_claims _ _;
      weighted_sum_answer = λ l es ws. unless_claims _ _;
      plain_sum_answer = λ l es. unless_claims _ _;
      used_length_answer = λ l es. unless_claims _ _;
      preview = λ l es ws i p. unless_claims _ _;
      line_search = λ l es ws i t line. unless_claims _ _;
      descent = λ l es ws budget. unless_claims _ _;
      descent_layout = λ l es ws budget. leaving_claims _ es _;
      guided_run = λ l es ws count budget. unless_claims _ _;
      guided_run_layout = λ l es ws count budget. leaving_claims _ es _;
      guided_run_weights = λ l es ws count budget. leaving_claims _ ws _;
      start_layout = λ l es. unless_claims _ _;
      start_layout_buffer = λ l es. leaving_claims _ es _;
      write_layout = λ l es room. unless_claims _ _;
      write_layout_text = λ l es before. leaving_claims _ before _;
      read_layout_answer = λ l text room. answers (read_layout_call l text room);
      read_layout_not_ours = layout_not_ours;
      read_layout_by_line = layout_by_line;
      read_layout_buffer = λ l text before. leaving_claims _ before _;
      check = λ l es. unless_claims _ _;
      compacts = λ l es. unless_claims _ _;
      compacts_layout = λ l es. leaving_claims _ es _;
      cut_list = λ l es room. unless_claims _ _;
      cut_list_lines = λ l es before. leaving_claims _ before _;
      cut_step = λ l es pitch k. unless_claims _ _;
      line_step = λ ls pitch k. unless_claims _ _;
      fresh_sheet = λ l room. unless_claims _ _;
      fresh_sheet_counts = λ l before. leaving_claims _ before _;
      lays = λ l s i p. unless_claims _ _;
      lay_sheet = λ l s i p. sheet_claims s _;
      lay_counts = λ l s i p. leaving_claims _ s.counts _;
      withdraws = λ l s i. unless_claims _ _;
      withdraw_sheet = λ l s i. sheet_claims s _;
      withdraw_counts = λ l s i. leaving_claims _ s.counts _;
      program = program_clause;
      program_output = λ input room. unless_claims _ _;
      program_output_text = λ input before. leaving_claims _ before _;
    }
