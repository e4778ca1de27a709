-- What stands in the output buffer and in the workspace in the end. Assumes nothing.
use Rattle.std.specs.Prelude.{Result, Ok, Err}
use Rattle.list_laws.proofs.Kit.{◌∙◌, ◌≡◌, ap, refl, Bool, false, true, List, [], ◌++◌, ◌∷◌, ◌<◌, ◌≤◌, ℕ, arith, ltb, drop, length, length-append}
use Rattle.list_laws.proofs.Kit.{length-drop, length-take-le, take, take_at, le-ltb, lt-ltb, ltb-true}
use Rattle.model.specs.Lent.{Lent}
use Rattle.model.specs.Refusal.{Outcome, refused, given, unless, wrong_length, plain_refusal}
use Rattle.model.specs.declared.Refusal.{Refusal}
use Rattle.model.specs.Buffer.{filled}
use Rattle.model.specs.Calls.{text_after}
use Rattle.model.specs.Program.{printed, program_text, program_call}
use Rattle.list_laws.proofs.Stores.{sets_filled}
use Rattle.model.specs.Answers.{count_answer}
use Rattle.layout_write_calls.specs.Written.{Written}
use Rattle.program_text.specs.Output.{output_bound}
use Rattle.call_laws.specs.Workspaces.{LeftFree}
use Rattle.program_calls.specs.Runs.{UsedWords}

-- a larger bound
pub written_more : {before bytes after : List ℕ} {at most more next : ℕ} → Written before at bytes most next after → most ≤ more
    → Written before at bytes more next after
written_more w h = let s = w.short in record { end = w.end; short = omega arith; memory = w.memory }

-- what is printed of an outcome
pub written_printed : {before after : List ℕ} {most next : ℕ} (o p : Outcome Lent) → o ≡ p → Written before 0 (printed p) most next after → most ≤ output_bound
    → Written before 0 (printed o) output_bound next after
written_printed o p e w h = rw e (written_more w h)

-- ── the output buffer ──

-- what the program prints, by what is written of it
pub text_printed : {before after : List ℕ} {most next : ℕ} (input bytes : List ℕ) → program_text input ≡ bytes
    → Written before 0 bytes most next after → most ≤ output_bound → Written before 0 (program_text input) output_bound next after
text_printed input bytes e w h = rw e (written_more w h)

-- the text stands at the front of a buffer that it was written to
pub front_written : (before bytes : List ℕ) (most next : ℕ) (after : List ℕ) → most ≤ length before → Written before 0 bytes most next after
    → take next after ≡ bytes
front_written before bytes most next after h w =
    let short = w.short in
    let end = w.end in
    ap (take next) (w.memory ∙ sets_filled before bytes (omega arith)) ∙ take_at bytes _ next (omega arith)

-- the answer and the buffer of the call, where what the program prints fits 4,096 bytes
abbrev pub TextLeaves : List ℕ → List ℕ → (Result ℕ Refusal) → List ℕ → Type 0
TextLeaves input before r after =
    (r ≡ count_answer (program_call input (length before)))
    × ((after ≡ text_after before (program_call input (length before))) × (length (program_text input) ≤ output_bound))

-- a buffer that the text does not fit is refused and left as it is
pub leaves_short : (input before : List ℕ) → length before < length (program_text input) → length (program_text input) ≤ output_bound
    → TextLeaves input before (Err (plain_refusal wrong_length)) before
unfolding program_call unless
leaves_short input before h few =
    (rw (lt-ltb (length before) (length (program_text input)) h), (rw (lt-ltb (length before) (length (program_text input)) h), few))

-- one that it fits has it at the front
pub leaves_text : (input before : List ℕ) → length (program_text input) ≤ length before → length (program_text input) ≤ output_bound
    → TextLeaves input before (Ok (length (program_text input))) (filled (program_text input) before)
unfolding program_call unless
leaves_text input before h few = (rw (le-ltb (length before) (length (program_text input)) h), (rw (le-ltb (length before) (length (program_text input)) h), few))

-- the same by a count and a buffer that are so
pub leaves_written : (input before : List ℕ) (k : ℕ) (after : List ℕ) → k ≡ length (program_text input) → after ≡ filled (program_text input) before
    → k ≤ length before → k ≤ output_bound → TextLeaves input before (Ok k) after
leaves_written input before k after e m h few =
    let fits : length (program_text input) ≤ length before = omega arith in
    let short : length (program_text input) ≤ output_bound = omega arith in
    let text = leaves_text input before fits short in
    (ap Ok e ∙ text.0, (m ∙ text.1.0, short))

-- ── the workspace ──

-- as much of a list is left as there was, when its front is written
whole_length : (old written : List ℕ) (n : ℕ) → n ≤ length old → length written ≡ length (take n old) → length (written ++ drop n old) ≡ length old
whole_length old written n within same =
    let front = length-take-le n old within in
    let rest = length-drop n old in
    let all = length-append written (drop n old) in
    omega arith

-- a list of which no element was lent is as it was
none_lent : (old written : List ℕ) (n : ℕ) → n ≡ 0 → length written ≡ length (take n old) → written ++ drop n old ≡ old
none_lent old [] n none same = rw none refl
none_lent old (w ∷ written) n none same = absurd (let front : length (take n old) ≡ 0 = rw none refl in omega arith)

-- what is left, by the test of the buffer
left_by : (t : Bool) (r : Refusal) (text old new : List ℕ) → (t ≡ true → new ≡ old) → length new ≡ length old
    → LeftFree {A = List ℕ} (elim t as (λ _. Outcome (List ℕ)) [ true ↦ refused r | false ↦ given text ]) old new
left_by true r text old new same long = same refl
left_by false r text old new same long = long

-- a workspace of which so many words were lent as the output buffer's room allows
pub workspace_left : (input : List ℕ) (room : ℕ) (old written : List ℕ) (used : ℕ) → UsedWords room (length old) used → length written ≡ length (take used old)
    → length (program_text input) ≤ output_bound
    → LeftFree (program_call input room) old (written ++ drop used old)
unfolding program_call unless
workspace_left input room old written used words same few =
    left_by (ltb room (length (program_text input))) (plain_refusal wrong_length) (program_text input) old (written ++ drop used old)
    (λ t.
    let short : room < length (program_text input) = ltb-true room (length (program_text input)) t in
    none_lent old written used (words.none (omega arith)) same)
    (whole_length old written used words.within same)

-- ── the answer ──

-- how many bytes are told, by the test of the buffer
count_step : (t : Bool) (r : Refusal) (text : List ℕ) (k : ℕ)
    → Ok k ≡ count_answer {A = ℕ} (elim t as (λ _. Outcome (List ℕ)) [ true ↦ refused r | false ↦ given text ]) → k ≡ length text
count_step true r text k e = let z : ◌≡◌ {A = ℕ} 0 1 = cc in absurd (omega arith)
count_step false r text k e = cc

-- they are no more than the program prints
pub count_fits : (input : List ℕ) (room k : ℕ) → Ok k ≡ count_answer (program_call input room) → length (program_text input) ≤ output_bound
    → k ≤ output_bound
unfolding program_call unless
count_fits input room k e h =
    let same : k ≡ length (program_text input) =
    count_step (ltb room (length (program_text input))) (plain_refusal wrong_length) (program_text input) k e in
    omega arith
