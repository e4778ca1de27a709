-- Calls on a job that passes its check and on a valid layout are not refused. Assumes nothing.
use Rattle.std.specs.Prelude.{Ok, Err}
use Rattle.list_laws.proofs.Kit.{◌∙◌, ◌≡◌, ap, sym, not, true, List, ◌≤◌, ℕ, zero-add, arith, length, length-map, eq-eqb, le-ltb}
use Rattle.model.specs.Layout.{Layout, used_length}
use Rattle.model.specs.Buffer.{placement_of, entries_of, layout_of}
use Rattle.model.specs.Lent.{Lent, job_of, lent_well}
use Rattle.model.specs.Refusal.{given, unless}
use Rattle.model.specs.LayoutText.{layout_text}
use Rattle.model.specs.Program.{program_rounds, program_budget, program_run}
use Rattle.model.specs.Calls.{layout_causes, used_length_call, write_layout_call, text_after}
use Rattle.model.specs.declared.Refusal.{Refusal}
use Rattle.list_laws.proofs.Stores.{sets_filled}
use Rattle.job_laws.proofs.Checked.{lent_few}
use Rattle.text_laws.specs.Outcomes.{NoCause}
use Rattle.text_laws.proofs.Outcomes.{unless_given}
use Rattle.descent_laws.specs.Claims.{ValidLayout}
use Rattle.descent_laws.specs.LentLayout.{Laid}
use Rattle.descent_laws.proofs.Lent.{lent_demand3}
use Rattle.call_laws.proofs.Layouts.{BufferPasses, valid_buffer}
use Rattle.model.specs.Answers.{number_answer, count_answer}
use Rattle.text_laws.proofs.Causes.{none_then}
use Rattle.causes.proofs.Passed.{layout_laid}
use Rattle.layout_write_calls.specs.Written.{Written}
use Rattle.list_laws.proofs.Stores.{sets_filled}
use Rattle.program_calls.proofs.Short.{layout_short}

-- a buffer that holds a valid layout has none of a layout's causes
layout_passes : (l : Lent) (v : Layout) → lent_well l ≡ true → ValidLayout (job_of l) v → NoCause (layout_causes l (entries_of v))
unfolding layout_causes job_of
layout_passes l v well valid =
    let p : BufferPasses (job_of l) (entries_of v) = valid_buffer (job_of l) v valid in
    (ap not well, (ap not (eq-eqb (length (entries_of v)) l.size.count p.size), (p.turns, (p.outside, tt))))

-- the best layout of the program's run is valid
best_valid : (l : Lent) → lent_well l ≡ true → ValidLayout (job_of l) (program_run (job_of l)).layout
unfolding program_run
best_valid l well = ((lent_demand3 l well).guided_runs program_rounds program_budget).valid_layout

-- a buffer that holds it has none of a layout's causes
pub best_passes : (l : Lent) (es : List (List ℕ)) → lent_well l ≡ true → es ≡ entries_of (program_run (job_of l)).layout → NoCause (layout_causes l es)
best_passes l es well e = rw e (layout_passes l (program_run (job_of l)).layout well (best_valid l well))

module _ (l : Lent) (es : List (List ℕ)) (none : NoCause (layout_causes l es)) where
  -- the used length is given
  used_given : used_length_call l es ≡ given (used_length (job_of l) (layout_of es))
  unfolding used_length_call
  used_given = unless_given (layout_causes l es) (used_length (job_of l) (layout_of es)) none

  -- so the answer is that length
  pub used_taken : (n : ℕ) → Ok n ≡ number_answer (used_length_call l es) → n ≡ used_length (job_of l) (layout_of es)
  used_taken n e =
      let same : Ok n ≡ number_answer (given (used_length (job_of l) (layout_of es))) = e ∙ ap number_answer used_given in
      cc

  -- and no refusal
  pub used_not_refused : (r : Refusal) → Err r ≡ number_answer (used_length_call l es) → ⊥
  used_not_refused r e =
      let same : Err r ≡ number_answer (given (used_length (job_of l) (layout_of es))) = e ∙ ap number_answer used_given in
      let z : ◌≡◌ {A = ℕ} 0 1 = cc in
      omega arith

  -- the text has at most 65 lines of 27 bytes
  text_short : length (layout_text (job_of l) (layout_of es)) ≤ 1755
  unfolding job_of
  text_short =
      let s : Laid l es = layout_laid l es none in
      let few = lent_few l s.well in
      let whole = s.whole in
      let same = length-map es placement_of in
      let h = layout_short (job_of l) (layout_of es) in
      omega arith

  module _ (before : List ℕ) (room : 1755 ≤ length before) where
    -- the text is given
    text_given : write_layout_call l es (length before) ≡ given (layout_text (job_of l) (layout_of es))
    unfolding write_layout_call unless
    text_given =
        let short = text_short in
        let fits : length (layout_text (job_of l) (layout_of es)) ≤ length before = omega arith in
        none_then (layout_causes l es) _ _ none ∙ rw (le-ltb _ _ fits)

    -- so the text is written
    pub text_taken : (n : ℕ) (after : List ℕ) → Ok n ≡ count_answer (write_layout_call l es (length before))
        → after ≡ text_after before (write_layout_call l es (length before)) → Written before 0 (layout_text (job_of l) (layout_of es)) 1755 n after
    text_taken n after e m =
        let short = text_short in
        let same : Ok n ≡ count_answer (given (layout_text (job_of l) (layout_of es))) = e ∙ ap count_answer text_given in
        let end : n ≡ length (layout_text (job_of l) (layout_of es)) = cc in
        record {
          end = end ∙ sym (zero-add _);
          short = short;
          memory = m ∙ ap (text_after before) text_given ∙ sym (sets_filled before (layout_text (job_of l) (layout_of es)) (omega arith));
        }

    -- and the answer is no refusal
    pub text_not_refused : (r : Refusal) → Err r ≡ count_answer (write_layout_call l es (length before)) → ⊥
    text_not_refused r e =
        let same : Err r ≡ count_answer (given (layout_text (job_of l) (layout_of es))) = e ∙ ap count_answer text_given in
        let z : ◌≡◌ {A = ℕ} 0 1 = cc in
        omega arith
