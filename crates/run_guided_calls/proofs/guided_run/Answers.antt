-- `run_guided_calls::guided_run` meets its contract: a cause refuses and nothing is written, else the run is the model's, and what is said of a
-- guided run holds of it. Assumes nothing.
use Rattle.list_laws.proofs.Exits.{handed_on}
use Rattle.list_laws.proofs.Kit.{◌∙◌, ◌≡◌, ap, sym, false, ℕ, arith}
use Rattle.model.specs.Lent.{lent_by}
use Rattle.model.specs.Calls.{best_after_run, weights_after_run}
use Rattle.model.specs.Answers.{first_cause}
use Rattle.text_laws.proofs.Causes.{passed_none}
use Rattle.call_laws.proofs.Workspaces.{left_refused, left_given}
use Rattle.causes.specs.Asked.{weighted_causes}
use Rattle.run_guided_calls.specs.Answers.{guided_answer, numbers_wrong}
use Rattle.run_memory.proofs.Causes.{run_given}
use Rattle.run_guided_calls.proofs.Calls.{call_refused, few_rounds, few_trials, call_given, call_claims}
use Rattle.run_guided_calls.proofs.guided_run.Goals as goal

pub returns-in_err-weighted_causes : goal.returns-in_err-weighted_causes
returns-in_err-weighted_causes c =
    let a = c.args in
    let l = lent_by a.size a.table.now a.pixels.now in
    let no =
    call_refused l a.layout.now a.weights.now a.rounds a.budget _
    (c.in_err-weighted_causes.ensures
    ∙ ap (λ b. first_cause (weighted_causes l a.layout.now a.weights.now b false)) c.numbers_wrong-wrong.ensures) in
    let e = handed_on _ _ c.from_residual.ensures.1 in
    record {
      answer = e ∙ sym (ap guided_answer no);
      layout = sym (ap (best_after_run a.layout.now) no);
      weights = sym (ap (weights_after_run a.weights.now) no);
      workspace = left_refused _ _ a.workspace.now no;
      demand3 = λ run same. absurd (let z : ◌≡◌ {A = ℕ} 0 1 = cc in omega arith);
    }

pub run_rounds-requires : goal.run_rounds-requires
run_rounds-requires c =
    let a = c.args in
    let l = lent_by a.size a.table.now a.pixels.now in
    let none =
    passed_none (weighted_causes l a.layout.now a.weights.now (numbers_wrong a.rounds a.budget) false)
    (c.in_ok-weighted_causes.ensures
    ∙ ap (λ b. first_cause (weighted_causes l a.layout.now a.weights.now b false)) c.numbers_wrong-wrong.ensures) in
    record {
      fact_1 = run_given l a.layout.now a.weights.now (numbers_wrong a.rounds a.budget) none c.write_entries.new.layout c.write_entries.ensures;
      fact_2 =
          record {
            rounds = few_rounds l a.layout.now a.weights.now a.rounds a.budget none;
            budget = few_trials l a.layout.now a.weights.now a.rounds a.budget none;
          };
    }

pub returns : goal.returns
returns c =
    let a = c.args in
    let l = lent_by a.size a.table.now a.pixels.now in
    let none =
    passed_none (weighted_causes l a.layout.now a.weights.now (numbers_wrong a.rounds a.budget) false)
    (c.in_ok-weighted_causes.ensures
    ∙ ap (λ b. first_cause (weighted_causes l a.layout.now a.weights.now b false)) c.numbers_wrong-wrong.ensures) in
    let written = c.write_entries in
    let ran = c.run_rounds in
    let is =
    call_given l a.layout.now a.weights.now a.rounds a.budget none written.new.layout written.ensures ran.result ran.new.layout
    ran.new.weights ran.ensures in
    record {
      answer = sym (ap guided_answer is);
      layout = sym (ap (best_after_run a.layout.now) is ∙ ran.ensures.written);
      weights = sym (ap (weights_after_run a.weights.now) is);
      workspace = left_given _ _ a.workspace.now ran.new.workspace is ran.auto.workspace;
      demand3 =
          call_claims l a.layout.now a.weights.now a.rounds a.budget none written.new.layout written.ensures ran.result ran.new.layout
          ran.new.weights ran.ensures;
    }
