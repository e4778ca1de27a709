-- Document 02, point 2, the cut list of a lent layout: a layout whose lines or steps are given passes the check, so that the request's claims
-- hold of it, within document 01's limits; and the steps of the lines that are given are the layout's. Assumes nothing.
use Rattle.list_laws.proofs.Kit.{◌∙◌, ◌≡◌, ap, refl, subst, sym, true, List, [], ◌∷◌, map}
use Rattle.list_laws.proofs.Kit.{◌*◌, ◌<◌, ◌≤◌, suc, ℕ, arith, drop, length, length-map, take, take_at}
use Rattle.list_laws.proofs.Tests.{said_yes}
use Rattle.model.specs.Layout.{conflicting_pair}
use Rattle.model.specs.Lent.{Lent, job_of}
use Rattle.model.specs.Buffer.{layout_of, filled}
use Rattle.model.specs.Refusal.{Outcome, given, Cause, unless}
use Rattle.model.specs.Buffer.{direction_number, direction_of}
use Rattle.model.specs.Cut.{CutLine, cut_lines, smaller_end, larger_end, pitch_bound, step_at, step_in, line_entry, entry_line}
use Rattle.model.specs.Calls.{job_cause, layout_length, turns_cause, outside_cause, layout_causes, conflict_cause, pitch_cause, cut_lines_call, cut_step_call}
use Rattle.model.specs.Calls.{lines_after, line_step_call}
use Rattle.model.specs.declared.CutStep.{CutStep}
use Rattle.model.specs.declared.Direction.{Direction}
use Rattle.model.specs.declared.Direction.TheVariants.{Horizontal, Vertical}
use Rattle.job_laws.proofs.Checked.{facts}
use Rattle.job_laws.proofs.Ranges.{up_to_lem}
use Rattle.text_laws.proofs.Outcomes.{given_unless, unless_given}
use Rattle.text_laws.proofs.Causes.{none_then, behind_one}
use Rattle.descent_laws.specs.Claims.{ValidLayout}
use Rattle.cut_laws.specs.Lines.{cut_line_at}
use Rattle.cut_laws.specs.Sides.{CutClaims}
use Rattle.cut_laws.specs.Exact.{StepExact}
use Rattle.cut_laws.proofs.CutClaims.{cut_claims}
use Rattle.cut_laws.proofs.Exact.{step_exact}
use Rattle.call_laws.specs.Cuts.{SmallPoint, CutListClaims}
use Rattle.call_laws.proofs.Layouts.{job_well, layout_valid}
use Rattle.model.specs.Lent.{lent_well}

-- the cut list of a checked job and a valid layout
pub cut_list_lem : (l : Lent) (es : List (List ℕ)) → lent_well l ≡ true → ValidLayout (job_of l) (layout_of es) → CutListClaims l es
unfolding job_of
cut_list_lem l es well valid =
    let c : CutClaims (job_of l) (layout_of es) = cut_claims (job_of l) (layout_of es) valid in
    let f = facts l well in
    let area = f.area in
    let rows = f.few_rows in
    let columns = f.few_columns in
    let ls : List CutLine = cut_lines (job_of l) (layout_of es) in
    let smaller : (k : ℕ) → k < length ls → SmallPoint (smaller_end (cut_line_at ls k)) = λ k h.
    let x = (c.smaller_within k h).column in
    let y = (c.smaller_within k h).row in record { column = omega arith; row = omega arith } in
    let larger : (k : ℕ) → k < length ls → SmallPoint (larger_end (cut_line_at ls k)) = λ k h.
    let x = (c.larger_within k h).column in
    let y = (c.larger_within k h).row in record { column = omega arith; row = omega arith } in
    record {
      claims = c;
      smaller = smaller;
      larger = larger;
      most = let few : length ls ≤ suc l.size.rows * suc l.size.columns = c.few_lines in omega arith;
      steps = λ pitch k small.
          step_exact ls pitch k small (λ i h. let y = (smaller i h).row in ((smaller i h).column, omega arith))
          (λ i h. let y = (larger i h).row in ((larger i h).column, omega arith));
    }

-- a cut list that is given
pub cut_given : (l : Lent) (es : List (List ℕ)) (room : ℕ) (ls : List CutLine) → cut_lines_call l es room ≡ given ls
    → (ls ≡ cut_lines (job_of l) (layout_of es)) × CutListClaims l es
unfolding cut_lines_call layout_causes
cut_given l es room ls e =
    let u = given_unless _ (cut_lines (job_of l) (layout_of es)) ls e in
    let n = u.none in (sym u.same, cut_list_lem l es (job_well l n.0) (layout_valid l es n.1.0 n.1.1.0 n.1.1.1.0))

-- a step that is given
pub step_given : (l : Lent) (es : List (List ℕ)) (pitch k : ℕ) (t : CutStep) → cut_step_call l es pitch k ≡ given t
    → CutListClaims l es × StepExact (cut_lines (job_of l) (layout_of es)) pitch k t
unfolding cut_step_call
step_given l es pitch k t e =
    let u = given_unless _ (step_in pitch (step_at (cut_lines (job_of l) (layout_of es)) k)) t e in
    let n = u.none in
    let c : CutListClaims l es = cut_list_lem l es (job_well l n.0) (layout_valid l es n.1.0 n.1.1.1.0 n.1.1.1.1.0) in
    let small : pitch ≤ pitch_bound = up_to_lem pitch_bound pitch (said_yes refl n.1.1.0) in
    (c, subst (StepExact (cut_lines (job_of l) (layout_of es)) pitch k) u.same (c.steps pitch k small))

-- ── the lines read back ──

-- an entry reads back as its line
entry_back : (m : CutLine) → entry_line (line_entry m) ≡ m
entry_back m = ap (λ (d : Direction). record { direction = d; line = m.line; first = m.first; last = m.last }) (direction_back m.direction)
  where
    direction_back : (d : Direction) → direction_of (direction_number d) ≡ d
    direction_back Horizontal = refl
    direction_back Vertical = refl

-- and so do all
pub entries_back : (ms : List CutLine) → map entry_line (map line_entry ms) ≡ ms
entries_back [] = refl
entries_back (m ∷ ms) = λ i. entry_back m i ∷ entries_back ms i

-- the front of a filled buffer is the lines' entries
pub front_lines : (ms : List CutLine) (before : List (List ℕ)) → take (length ms) (filled (map line_entry ms) before) ≡ map line_entry ms
front_lines ms before = take_at (map line_entry ms) (drop (length (map line_entry ms)) before) (length ms) (length-map ms line_entry)

-- the steps of the lines that a layout gives are the layout's
given_steps : (l : Lent) (es : List (List ℕ)) (room : ℕ) (ms : List CutLine) (pitch k : ℕ) → cut_lines_call l es room ≡ given ms
    → line_step_call (map line_entry ms) pitch k ≡ cut_step_call l es pitch k
unfolding cut_lines_call layout_causes line_step_call cut_step_call
given_steps l es room ms pitch k e =
    let u = given_unless _ (cut_lines (job_of l) (layout_of es)) ms e in
    let n = u.none in
    let shared : Cause = conflict_cause (conflicting_pair (job_of l) (layout_of es)) in
    let step : CutStep = step_in pitch (step_at (cut_lines (job_of l) (layout_of es)) k) in
    ap (λ (ls : List CutLine). unless (pitch_cause pitch ∷ []) (step_in pitch (step_at ls k))) (entries_back ms ∙ sym u.same)
    ∙ sym
    (none_then (job_cause l ∷ layout_length l es ∷ []) (pitch_cause pitch ∷ turns_cause l es ∷ outside_cause l es ∷ shared ∷ []) step (n.0, (n.1.0, tt))
    ∙ behind_one (pitch_cause pitch) (turns_cause l es ∷ outside_cause l es ∷ shared ∷ []) [] step
    (unless_given (turns_cause l es ∷ outside_cause l es ∷ shared ∷ []) step (n.1.1.0, (n.1.1.1.0, (n.1.1.1.1.0, tt)))
    ∙ sym (unless_given [] step tt)))

-- and so are those of the front of the buffer that they were stored in
pub same_steps : (l : Lent) (es before : List (List ℕ)) (ms : List CutLine) (pitch k : ℕ) → cut_lines_call l es (length before) ≡ given ms
    → line_step_call (take (length ms) (lines_after before (cut_lines_call l es (length before)))) pitch k ≡ cut_step_call l es pitch k
same_steps l es before ms pitch k e =
    ap (λ (o : Outcome (List CutLine)). line_step_call (take (length ms) (lines_after before o)) pitch k) e
    ∙ ap (λ (xs : List (List ℕ)). line_step_call xs pitch k) (front_lines ms before)
    ∙ given_steps l es (length before) ms pitch k e
