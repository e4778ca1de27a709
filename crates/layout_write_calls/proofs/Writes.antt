-- What writing a layout comes to: refused by a cause of the layout, refused for a text buffer that is too short, or written.
-- Assumes nothing.
use Rattle.std.specs.Prelude.{Ok, Err}
use Rattle.list_laws.proofs.Kit.{◌∙◌, ◌≡◌, List, ◌<◌, ◌≤◌, ℕ, length, le-ltb, lt-ltb}
use Rattle.model.specs.Refusal.{refused, given, unless, plain_refusal, wrong_length}
use Rattle.model.specs.Lent.{Lent, job_of}
use Rattle.model.specs.Buffer.{layout_of}
use Rattle.model.specs.LayoutText.{layout_text}
use Rattle.model.specs.Calls.{layout_causes, write_layout_call}
use Rattle.model.specs.declared.Refusal.{Refusal}
use Rattle.text_laws.proofs.Causes.{passed_none, none_then, refused_then}
use Rattle.model.specs.Answers.{first_cause}

module _ (l : Lent) (es : List (List ℕ)) (room : ℕ) where
  -- a cause of the layout
  pub write_refused : (r : Refusal) → Err r ≡ first_cause (layout_causes l es) → write_layout_call l es room ≡ refused r
  unfolding write_layout_call
  write_refused r e = refused_then (layout_causes l es) _ _ r e

  -- the text buffer is too short
  pub write_short : Ok tt ≡ first_cause (layout_causes l es) → room < length (layout_text (job_of l) (layout_of es))
      → write_layout_call l es room ≡ refused (plain_refusal wrong_length)
  unfolding write_layout_call unless
  write_short e h = none_then (layout_causes l es) _ _ (passed_none (layout_causes l es) e) ∙ rw (lt-ltb _ _ h)

  -- the text
  pub write_given : Ok tt ≡ first_cause (layout_causes l es) → length (layout_text (job_of l) (layout_of es)) ≤ room
      → write_layout_call l es room ≡ given (layout_text (job_of l) (layout_of es))
  unfolding write_layout_call unless
  write_given e h = none_then (layout_causes l es) _ _ (passed_none (layout_causes l es) e) ∙ rw (le-ltb _ _ h)
