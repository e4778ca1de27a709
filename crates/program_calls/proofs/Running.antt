-- The program's run as the guided run's call gives it: from the start layout, by weights 1. Assumes nothing.
use Rattle.std.specs.Prelude.{Ok, Err}
use Rattle.list_laws.proofs.Kit.{◌∙◌, ◌≡◌, ap, sym, true, List, [], ◌∷◌, ◌≤◌, ℕ, arith, length, length-replicate, replicate, take, length-take-le}
use Rattle.model.specs.Layout.{Job, Layout, pairs, unit_weights, used_length}
use Rattle.model.specs.Buffer.{entries_of, layout_of}
use Rattle.model.specs.Guided.{Guided}
use Rattle.model.specs.Start.{program_start}
use Rattle.model.specs.Lent.{Lent, job_of, lent_well, piece_bound}
use Rattle.model.specs.Refusal.{Outcome, given}
use Rattle.model.specs.LayoutText.{layout_text}
use Rattle.model.specs.Program.{program_rounds, program_budget, word_line, end_word, run_text, program_run}
use Rattle.model.specs.Calls.{guided_call, best_after_run}
use Rattle.model.specs.declared.Refusal.{Refusal}
use Rattle.list_laws.proofs.Lists.{take_repeat}
use Rattle.text_laws.proofs.Entries.{entries_read_back}
use Rattle.descent_laws.proofs.Bounds.{pairs_at_most}
use Rattle.call_laws.proofs.Programs.{program_run_given}
use Rattle.layout_write_calls.specs.Written.{Written}
use Rattle.layout_write_calls.proofs.Sequel.{written_then}
use Rattle.run_guided_calls.specs.Answers.{guided_answer}
use Rattle.run_guided_calls.specs.declared.RunTotals.{RunTotals}
use Rattle.program_text.specs.Output.{output_bound}
use Rattle.program_calls.specs.Runs.{Gives, run_with}
use Rattle.program_calls.proofs.Printing.{written_more}

-- ── the front of a repeat ──

-- it is as long as asked
pub front_length : {A : Type 0} (k n : ℕ) (a : A) → k ≤ n → k ≡ length (take k (replicate n a))
front_length k n a h = sym (length-take-le k (replicate n a) (rw (length-replicate n a) h))

-- a job has at most 2,016 pairs
pub pairs_few : (n k : ℕ) → n ≤ piece_bound → k ≡ length (pairs n) → k ≤ 2016
pairs_few n k few e = let h = pairs_at_most n few in omega arith

-- as many ones as there are pairs
pub ones : (n k : ℕ) → n ≤ piece_bound → k ≡ length (pairs n) → take k (replicate 2016 1) ≡ unit_weights n
unfolding unit_weights
ones n k few e = take_repeat k 2016 1 (pairs_few n k few e) ∙ ap (λ (m : ℕ). replicate m 1) e

-- ── the run ──

-- the call gives the program's run
pub run_given : (l : Lent) (es : List (List ℕ)) (ws : List ℕ) → lent_well l ≡ true → es ≡ entries_of (program_start (job_of l)) → ws ≡ unit_weights l.size.count
    → guided_call l es ws program_rounds program_budget ≡ given (program_run (job_of l))
unfolding job_of
run_given l es ws well e f = rw (e, f) (program_run_given l well)

module _ (o : Outcome Guided) (g : Guided) (e : o ≡ given g) where
  -- what it answers and leaves
  pub run_gives : (r : RunTotals) (before after : List (List ℕ)) → Ok r ≡ guided_answer o → after ≡ best_after_run before o → Gives r after g
  run_gives r before after a m =
      let same : Ok r ≡ guided_answer (given g) = a ∙ ap guided_answer e in
      let is : r ≡ record { sum = g.sum; made = g.made; moves = g.moves } = cc in
      record {
        sum = ap (λ (x : RunTotals). x.sum) is;
        made = ap (λ (x : RunTotals). x.made) is;
        moves = ap (λ (x : RunTotals). x.moves) is;
        best = m ∙ ap (best_after_run before) e;
      }

  -- it does not refuse
  pub run_not_refused : (r : Refusal) → Err r ≡ guided_answer o → ⊥
  run_not_refused r a =
      let same : Err r ≡ guided_answer (given g) = a ∙ ap guided_answer e in
      let z : ◌≡◌ {A = ℕ} 0 1 = cc in
      omega arith

-- the text of a run, by its numbers and the layout buffer
pub run_text_lem : (j : Job) (r : RunTotals) (layout : List (List ℕ)) (g : Guided) → Gives r layout g → run_text j (run_with r (layout_of layout)) ≡ run_text j g
unfolding run_text
run_text_lem j r layout g h =
    let v : layout_of layout ≡ g.layout = ap layout_of h.best ∙ entries_read_back g.layout in
    rw (v, h.sum, h.made, h.moves)

-- the layout's text and the end line behind it
pub run_written : (j : Job) (r : RunTotals) (v : Layout) (used : ℕ) (before mid after : List ℕ) (next end : ℕ) → used ≡ used_length j v
    → Written before 0 (layout_text j v) 1755 next mid
    → Written mid next (word_line (end_word r.sum) (r.sum ∷ r.made ∷ r.moves ∷ used ∷ [])) 54 end after
    → Written before 0 (run_text j (run_with r v)) output_bound end after
unfolding run_text
run_written j r v used before mid after next end e f s = written_more (written_then f (rw e at s)) (omega arith)
