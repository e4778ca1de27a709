-- The outcomes of the calls for a step: the causes in the request's order, and the lines read back from a buffer. Assumes nothing.
use Rattle.std.specs.Prelude.{Ok, Err, Result}
use Rattle.list_laws.proofs.Kit.{◌∙◌, ◌≡◌, ◌≢◌, ⊎_elim, ap, refl, sym, Bool, ◌||◌, false, true, not, Option, none, some, List, [], ◌++◌, ◌∷◌, map, ◌+◌, ◌<◌}
use Rattle.list_laws.proofs.Kit.{◌≤◌, ℕ}
use Rattle.list_laws.proofs.Kit.{arith, length, take, le-leb, le-ltb, lt-leb, lt-ltb, ltb}
use Rattle.list_laws.proofs.Numbers.{below_or}
use Rattle.model.specs.Layout.{Pair, conflicting_pair}
use Rattle.model.specs.Lent.{Lent, job_of, up_to}
use Rattle.model.specs.Buffer.{layout_of, filled}
use Rattle.model.specs.Refusal.{Outcome, refused, given, Cause, cause, unless, refusal_of, plain_refusal, wrong_length, no_such_piece}
use Rattle.model.specs.Answers.{count_answer, first_cause}
use Rattle.model.specs.Cut.{CutLine, cut_lines, pitch_bound, step_at, step_in, line_entry, entry_line}
use Rattle.model.specs.Calls.{some_turn_wrong, job_cause, layout_length, turns_cause, outside_cause, layout_causes, conflict_cause, at_least, pitch_cause, cut_lines_call}
use Rattle.model.specs.Calls.{lines_after, cut_step_call, line_step_call}
use Rattle.model.specs.declared.Refusal.{Refusal}
use Rattle.model.specs.declared.CutStep.{CutStep}
use Rattle.text_laws.specs.Outcomes.{NoCause}
use Rattle.text_laws.proofs.Outcomes.{unless_given, given_unless}
use Rattle.text_laws.proofs.Causes.{passed_none, none_then, refused_then, behind, here_refused, not_there}
use Rattle.causes.specs.Asked.{call_causes}
use Rattle.causes.proofs.Asked.{or_nothing}
use Rattle.causes.proofs.Passed.{laid_by}
use Rattle.cut_laws.specs.Exact.{StepExact}
use Rattle.call_laws.specs.Cuts.{most_lines, CutListClaims}
use Rattle.call_laws.proofs.Cuts.{cut_list_lem, step_given, entries_back, front_lines, same_steps}
use Rattle.cut_line_calls.proofs.Outcomes.{count_given}
use Rattle.cut_list.proofs.Listed.{enough_room}
use Rattle.cut_step_calls.specs.Answers.{step_answer, shared_step}

-- ── the pitch ──

-- a pitch that is not 0 is out of range exactly above 4,096
pub pitch_above : (p : ℕ) → p ≢ 0 → ltb 4096 p ≡ not (up_to pitch_bound p)
pitch_above p n =
    ⊎_elim
    (λ (h : 4096 < p). lt-ltb 4096 p h ∙ sym (rw (le-leb 1 p (omega arith), lt-leb p 4096 h)))
    (λ (h : p ≤ 4096). le-ltb 4096 p h ∙ sym (rw (le-leb 1 p (omega arith), le-leb p 4096 h)))
    (below_or 4096 p)

-- ── the causes ──

-- where the call's own length and piece are right, 8, 7, 2, 9, 10 are asked
module _ (l : Lent) (es : List (List ℕ)) (pitch k : ℕ) where
  -- the causes of a step before 12
  abbrev step_causes : List Cause
  step_causes = job_cause l ∷ layout_length l es ∷ pitch_cause pitch ∷ turns_cause l es ∷ outside_cause l es ∷ []

  -- those asked with what the call found wrong
  abbrev pub asked : Bool → List Cause
  asked b = call_causes l es (record { length = false; number = b; piece = false })

  step_asked : {A : Type 0} (rest : List Cause) (a : A) (b : Bool) → b ≡ not (up_to pitch_bound pitch)
      → unless (asked b ++ rest) a ≡ unless (step_causes ++ rest) a
  step_asked rest a b e =
      behind (job_cause l ∷ layout_length l es ∷ []) _ _ a (not_there wrong_length false _ a refl)
      ∙ ap (λ (t : Bool). unless (job_cause l ∷ layout_length l es ∷ cause 2 t ∷ cause no_such_piece (some_turn_wrong (job_of l) es || false)
      ∷ outside_cause l es ∷ rest) a) e
      ∙ ap (λ (t : Bool). unless (job_cause l ∷ layout_length l es ∷ pitch_cause pitch ∷ cause no_such_piece t ∷ outside_cause l es ∷ rest) a)
      (or_nothing (some_turn_wrong (job_of l) es))

  -- the step call is these, and then 12
  step_call : cut_step_call l es pitch k
      ≡ unless (step_causes ++ (conflict_cause (conflicting_pair (job_of l) (layout_of es)) ∷ [])) (step_in pitch (step_at (cut_lines (job_of l) (layout_of es)) k))
  unfolding cut_step_call
  step_call = refl

  -- refused by one of them
  pub step_refused : (b : Bool) (r : Refusal) → b ≡ not (up_to pitch_bound pitch) → Err r ≡ first_cause (asked b)
      → cut_step_call l es pitch k ≡ refused r
  step_refused b r e h = step_call ∙ sym (step_asked _ _ b e) ∙ refused_then (asked b) _ _ r h

  -- past them
  pub step_passed : (b : Bool) → b ≡ not (up_to pitch_bound pitch) → Ok tt ≡ first_cause (asked b) → cut_step_call l es pitch k ≡ shared_step l es pitch k
  step_passed b e h = step_call ∙ sym (step_asked _ _ b e) ∙ none_then (asked b) _ _ (passed_none (asked b) h)

  -- and so the layout's own causes are not there
  pub step_none : (b : Bool) → Ok tt ≡ first_cause (asked b) → NoCause (layout_causes l es)
  unfolding layout_causes
  step_none b h =
      let n : NoCause (asked b) = passed_none (asked b) h in
      (n.0, (n.1.0, (sym (or_nothing (some_turn_wrong (job_of l) es)) ∙ n.1.1.1.1.0, (n.1.1.1.1.1.0, tt))))

-- ── the lines of a layout whose own causes are not there ──

module _ (l : Lent) (es : List (List ℕ)) (passed : NoCause (layout_causes l es)) where
  abbrev ls : List CutLine
  ls = cut_lines (job_of l) (layout_of es)

  -- there are not too many lines
  pub lines_most : length ls ≤ most_lines
  unfolding layout_causes
  lines_most =
      let laid = laid_by l es passed.0 passed.1.0 passed.1.1.0 passed.1.1.1.0 in (cut_list_lem l es laid.well laid.valid).most

  -- with room for them only 12 is left
  room_left : (o : Option Pair) (room : ℕ) → length ls ≤ room → unless (conflict_cause o ∷ at_least (length ls) room ∷ []) ls ≡ unless (conflict_cause o ∷ []) ls
  unfolding unless
  room_left none room h = enough_room ls room h
  room_left (some p) room h = refl

  pub lines_left : (room : ℕ) → most_lines ≤ room → cut_lines_call l es room ≡ unless (conflict_cause (conflicting_pair (job_of l) (layout_of es)) ∷ []) ls
  unfolding cut_lines_call
  lines_left room h =
      let most = lines_most in
      none_then (layout_causes l es) _ _ passed ∙ room_left (conflicting_pair (job_of l) (layout_of es)) room (omega arith)

-- a cause refuses whatever the call would give
same_refused : {A B : Type 0} (c : Cause) (a : A) (b : B) (r : Refusal) → unless (c ∷ []) a ≡ refused r → unless (c ∷ []) b ≡ refused r
unfolding unless
same_refused {A} {B} c a b r e = by_test c.there e
  where
    by_test : (t : Bool) → ◌≡◌ {A = Outcome A} (elim t as (λ _. Outcome A) [ true ↦ refused (refusal_of c) | false ↦ given a ]) (refused r)
        → ◌≡◌ {A = Outcome B} (elim t as (λ _. Outcome B) [ true ↦ refused (refusal_of c) | false ↦ given b ]) (refused r)
    by_test true h = let same : refusal_of c ≡ r = cc in ap refused same
    by_test false h = let z : ◌≡◌ {A = ℕ} 0 1 = cc in absurd (omega arith)

-- what an answer tells of an outcome
pub count_refused : (o : Outcome (List CutLine)) (r : Refusal) → Err r ≡ count_answer o → o ≡ refused r
count_refused (refused s) r e = cc
count_refused (given ls) r e = let z : ◌≡◌ {A = ℕ} 0 1 = cc in absurd (omega arith)

-- refused by 12
pub shared_refused : (l : Lent) (es : List (List ℕ)) (pitch k : ℕ) (r : Refusal)
    → unless (conflict_cause (conflicting_pair (job_of l) (layout_of es)) ∷ []) (cut_lines (job_of l) (layout_of es)) ≡ refused r → shared_step l es pitch k ≡ refused r
shared_refused l es pitch k r e = same_refused (conflict_cause (conflicting_pair (job_of l) (layout_of es))) _ _ r e

-- what the number of lines tells, where there is room for them: the lines are given, and so is every step
pub record LinesTold (l : Lent) (es : List (List ℕ)) (room n : ℕ) : Type 0 where
  pub lines : cut_lines_call l es room ≡ given (cut_lines (job_of l) (layout_of es))
  pub count : n ≡ length (cut_lines (job_of l) (layout_of es))
  pub step : (pitch k : ℕ) → shared_step l es pitch k ≡ given (step_in pitch (step_at (cut_lines (job_of l) (layout_of es)) k))

pub lines_told : (l : Lent) (es : List (List ℕ)) → NoCause (layout_causes l es) → (room n : ℕ) → most_lines ≤ room
    → Ok n ≡ count_answer (cut_lines_call l es room) → LinesTold l es room n
lines_told l es passed room n h e =
    let o = lines_left l es passed room h in
    let w = count_given (cut_lines_call l es room) n e in
    let u = given_unless _ _ w.0 (sym o ∙ w.1) in
    let lines : cut_lines_call l es room ≡ given (cut_lines (job_of l) (layout_of es)) = w.1 ∙ ap given (sym u.same) in
    let told : Ok n ≡ Ok (length (cut_lines (job_of l) (layout_of es))) = e ∙ ap count_answer lines in
    record { lines = lines; count = cc; step = λ pitch k. unless_given _ _ u.none }

-- ── the lines read back ──

-- the front of a filled buffer holds the lines
pub lines_back : (ms : List CutLine) (before : List (List ℕ)) (n : ℕ) → n ≡ length ms → map entry_line (take n (filled (map line_entry ms) before)) ≡ ms
lines_back ms before n e =
    ap (λ (k : ℕ). map entry_line (take k (filled (map line_entry ms) before))) e ∙ ap (map entry_line) (front_lines ms before) ∙ entries_back ms

-- ── a step of a list of lines ──

module _ (lines : List (List ℕ)) (pitch k : ℕ) (b : Bool) (wrong : b ≡ not (up_to pitch_bound pitch)) where
  -- a wrong pitch refuses
  pub line_refused : b ≡ true → line_step_call lines pitch k ≡ refused (plain_refusal 2)
  unfolding line_step_call
  line_refused e = here_refused 2 _ [] _ (sym wrong ∙ e)

  -- else the step is given
  pub line_given : b ≡ false → line_step_call lines pitch k ≡ given (step_in pitch (step_at (map entry_line lines) k))
  unfolding line_step_call
  line_given e = unless_given (pitch_cause pitch ∷ []) _ (sym wrong ∙ e, tt)

-- so an answer for such lines is the layout's answer
pub same_answer : {r : Result CutStep Refusal} (lines : List (List ℕ)) (pitch k : ℕ) → r ≡ step_answer (line_step_call lines pitch k)
    → (l : Lent) (es before : List (List ℕ)) (ms : List CutLine) → cut_lines_call l es (length before) ≡ given ms
    → lines ≡ take (length ms) (lines_after before (cut_lines_call l es (length before))) → r ≡ step_answer (cut_step_call l es pitch k)
same_answer lines pitch k e l es before ms o same =
    e ∙ ap (λ (xs : List (List ℕ)). step_answer (line_step_call xs pitch k)) same ∙ ap step_answer (same_steps l es before ms pitch k o)

-- an answer that tells a step says so of the layout
pub step_answered : (l : Lent) (es : List (List ℕ)) (pitch k : ℕ) {r : Result CutStep Refusal} → r ≡ step_answer (cut_step_call l es pitch k)
    → (t : CutStep) → r ≡ Ok t → CutListClaims l es × StepExact (cut_lines (job_of l) (layout_of es)) pitch k t
step_answered l es pitch k {r} e t told = by_outcome (cut_step_call l es pitch k) refl (sym told ∙ e)
  where
    by_outcome : (o : Outcome CutStep) → cut_step_call l es pitch k ≡ o → Ok t ≡ step_answer o
        → CutListClaims l es × StepExact (cut_lines (job_of l) (layout_of es)) pitch k t
    by_outcome (refused r) h q = let z : ◌≡◌ {A = ℕ} 0 1 = cc in absurd (omega arith)
    by_outcome (given u) h q = let same : u ≡ t = cc in step_given l es pitch k t (h ∙ ap given same)
