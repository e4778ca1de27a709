-- Lists of calls through the code. On a sheet that is ready, the first three causes of a call are not there, so the call comes to what
-- the definition of a list of calls says; and the sheet is ready again after it. Assumes nothing.
use Rattle.std.specs.Prelude.{Ok, Err}
use Rattle.list_laws.proofs.Kit.{◌∙◌, ◌≡◌, refl, Bool, false, true, ◌⊎◌, inl, inr, ⊎_elim, List, [], ◌∷◌, ◌+◌, ◌<◌, ◌≤◌, ℕ, add-one, arith, drop}
use Rattle.list_laws.proofs.Kit.{drop_of_length-le, get_or, length, drop-cons, eq-eqb, ne_eqb, not-false}
use Rattle.model.specs.Layout.{Job}
use Rattle.model.specs.Lent.{Lent, job_of, lent_well}
use Rattle.model.specs.Buffer.{placement}
use Rattle.model.specs.Refusal.{Outcome, refused, given, Cause, refusal_of, unless}
use Rattle.model.specs.Calls.{lay_call, withdraw_call, fresh_call, counts_after}
use Rattle.model.specs.Cover.{Sheet, fresh, lay, withdraw, lay_causes, withdraw_causes, Call, laying, withdrawing, called, afterwards, after_calls}
use Rattle.model.specs.declared.Placement.{Placement}
use Rattle.model.specs.declared.Record.{Record}
use Rattle.model.specs.declared.Refusal.{Refusal}
use Rattle.text_laws.proofs.Outcomes.{unless_given}
use Rattle.text_laws.specs.Outcomes.{NoCause}
use Rattle.job_laws.proofs.Checked.{facts}
use Rattle.cover_laws.proofs.Counts.{fresh_sound}
use Rattle.cover_laws.proofs.Reached.{well_sound}
use Rattle.cover_laws.proofs.Effects.{fresh_well, call_well}
use Rattle.sheet_calls.specs.Answers.{record_of, blank_record, given_answer, sheet_answer}
use Rattle.sheet_refusals.specs.Causes.{sheet_of, buffer_causes}
use Rattle.sheet_calls.specs.Ready.{SheetReady}
use Rattle.sheet_calls.specs.declared.SheetAnswer.{SheetAnswer}
use Rattle.c_interface.specs.Numbers.{piece_with_turn}
use Rattle.sheet_lists.specs.CallList.{call_of, calls_of, run_outcome}
use Rattle.sheet_calls.proofs.Outcomes.{own_causes}

-- the answer and the buffer after a call are the sheet after its outcome
pub answer_after : (o : Outcome Sheet) (before : Record) (cs : List ℕ)
    → sheet_of (sheet_answer before o).sheet (counts_after cs o) ≡ afterwards (sheet_of before cs) o
answer_after (refused r) before cs = refl
answer_after (given s) before cs = refl

-- ── one call ──

module _ (l : Lent) (s : Sheet) (ready : SheetReady l s) where
  -- the calls come to what the definition of a list of calls says
  pub lay_called : (i : ℕ) (p : Placement) → lay_call l s i p ≡ called (job_of l) s (laying i p)
  unfolding lay_call called
  lay_called i p = own_causes l s (lay_causes (job_of l) s i p) (lay (job_of l) s i p) ready

  pub withdraw_called : (i : ℕ) → withdraw_call l s i ≡ called (job_of l) s (withdrawing i)
  unfolding withdraw_call called
  withdraw_called i = own_causes l s (withdraw_causes (job_of l) s i) (withdraw (job_of l) s i) ready

  -- after a call the sheet is ready for the next
  pub ready_after : (c : Call) → SheetReady l (afterwards s (called (job_of l) s c))
  unfolding job_of
  ready_after c =
      let again = call_well (job_of l) (facts l ready.well).few_pieces s c ready.sheet in
      record { well = ready.well; full = (well_sound (job_of l) (afterwards s (called (job_of l) s c)) again).counts; sheet = again }

-- five numbers of kind 0 are a lay, of another kind a withdraw
pub call_lays : (e : List ℕ) → get_or e 0 0 ≡ 0
    → call_of e ≡ laying (piece_with_turn (get_or e 2 0) (get_or e 1 0)) (placement (get_or e 2 0) (get_or e 3 0) (get_or e 4 0))
unfolding call_of
call_lays e h = rw (eq-eqb (get_or e 0 0) 0 h, call_of)

pub call_withdraws : (e : List ℕ) → (get_or e 0 0 ≡ 0 → ⊥) → call_of e ≡ withdrawing (get_or e 1 0)
unfolding call_of
call_withdraws e h = rw (ne_eqb (get_or e 0 0) 0 h, call_of)

-- ── a list ──

-- a fresh sheet of a job that is well is ready
pub fresh_ready : (l : Lent) → lent_well l ≡ true → SheetReady l (fresh (job_of l))
unfolding job_of
fresh_ready l well = record { well = well; full = (fresh_sound (job_of l)).counts; sheet = fresh_well (job_of l) (facts l well).few_pieces }

-- the first of the calls that are left
pub calls_step : (j : Job) (s : Sheet) (es : List (List ℕ)) (k : ℕ) → k < length es
    → after_calls j s (calls_of (drop k es)) ≡ after_calls j (afterwards s (called j s (call_of (get_or es k [])))) (calls_of (drop (k + 1) es))
unfolding after_calls
calls_step j s es k l = rw (drop-cons es k [] l, add-one)

-- no call is left
pub calls_end : (j : Job) (s : Sheet) (es : List (List ℕ)) (k : ℕ) → length es ≤ k → after_calls j s (calls_of (drop k es)) ≡ s
unfolding after_calls
calls_end j s es k h = rw (drop_of_length-le es h)

-- ── from a fresh sheet ──

-- two outcomes with the same causes are refused alike, or no cause is there
pub record Alike {A B : Type 0} (x : Outcome A) (y : Outcome B) : Type 0 where
  pub refusal : Refusal
  pub first : x ≡ refused refusal
  pub second : y ≡ refused refusal

alike_step : {A B : Type 0} (c : Cause) (cs : List Cause) (t : Bool) → c.there ≡ t → (x : Outcome A) (y : Outcome B) → Alike x y ⊎ NoCause cs
    → Alike {A = A} {B = B} (elim t as (λ _. Outcome A) [ true ↦ refused (refusal_of c) | false ↦ x ])
    (elim t as (λ _. Outcome B) [ true ↦ refused (refusal_of c) | false ↦ y ])
    ⊎ NoCause (c ∷ cs)
alike_step c cs true e x y earlier = inl (record { refusal = refusal_of c; first = refl; second = refl })
alike_step c cs false e x y (inl same) = inl same
alike_step c cs false e x y (inr none) = inr (e, none)

alike : {A B : Type 0} (cs : List Cause) (a : A) (b : B) → Alike (unless cs a) (unless cs b) ⊎ NoCause cs
unfolding unless
alike [] a b = inr tt
alike (c ∷ cs) a b = alike_step c cs c.there refl (unless cs a) (unless cs b) (alike cs a b)

-- a fresh sheet and a run are both given
pub record BothGiven (l : Lent) (room : ℕ) (es : List (List ℕ)) : Type 0 where
  pub well : lent_well l ≡ true
  pub start : fresh_call l room ≡ given (fresh (job_of l))
  pub run : run_outcome l room es ≡ given (after_calls (job_of l) (fresh (job_of l)) (calls_of es))

-- a run is refused as a fresh sheet is, or both are given
pub run_cases : (l : Lent) (room : ℕ) (es : List (List ℕ)) → Alike (fresh_call l room) (run_outcome l room es) ⊎ BothGiven l room es
unfolding fresh_call run_outcome
run_cases l room es =
    ⊎_elim (λ same. inl same)
    (λ none.
    inr
    (record {
      well = not-false (lent_well l) none.0;
      start = unless_given (buffer_causes l room) (fresh (job_of l)) none;
      run = unless_given (buffer_causes l room) (after_calls (job_of l) (fresh (job_of l)) (calls_of es)) none;
    }))
    (alike (buffer_causes l room) (fresh (job_of l)) (after_calls (job_of l) (fresh (job_of l)) (calls_of es)))

-- ── the code's answers ──

module _ (l : Lent) (es : List (List ℕ)) (cs cs' : List ℕ) (start : SheetAnswer) (is : start ≡ sheet_answer blank_record (fresh_call l (length cs)))
    (left : cs' ≡ counts_after cs (fresh_call l (length cs))) where
  -- a refused start is the run's answer
  pub refused_run : (r : Refusal) → start.reply ≡ Err r
      → (start ≡ sheet_answer blank_record (run_outcome l (length cs) es)) × (cs' ≡ counts_after cs (run_outcome l (length cs) es))
  refused_run r so =
      ⊎_elim
      (λ (same : Alike (fresh_call l (length cs)) (run_outcome l (length cs) es)).
      (is ∙ rw (same.first, same.second), left ∙ rw (same.first, same.second)))
      (λ (both : BothGiven l (length cs) es).
      let given_is : start ≡ given_answer (record_of (fresh (job_of l))) = is ∙ rw both.start in
      let z : ◌≡◌ {A = ℕ} 0 1 = cc in
      absurd (omega arith))
      (run_cases l (length cs) es)

  -- after a given start the sheet is fresh, and the run is given
  pub given_run : start.reply ≡ Ok tt → BothGiven l (length cs) es × (sheet_of start.sheet cs' ≡ fresh (job_of l))
  given_run so =
      ⊎_elim
      (λ (same : Alike (fresh_call l (length cs)) (run_outcome l (length cs) es)).
      let refused-is : start ≡ record { reply = Err same.refusal; sheet = blank_record } = is ∙ rw same.first in
      let z : ◌≡◌ {A = ℕ} 0 1 = cc in
      absurd (omega arith))
      (λ (both : BothGiven l (length cs) es).
      (both, rw (is, left) (answer_after (fresh_call l (length cs)) blank_record cs ∙ rw both.start)))
      (run_cases l (length cs) es)
