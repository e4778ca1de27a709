-- `run_descent_calls::descent` meets its contract: a cause refuses and nothing is written, else the descent is the job's, and what is said of a
-- descent holds of it. Assumes nothing.
use Rattle.list_laws.proofs.Exits.{handed_on}
use Rattle.list_laws.proofs.Kit.{◌∙◌, ◌≡◌, ap, sym, ℕ, arith, ltb}
use Rattle.model.specs.Lent.{lent_by}
use Rattle.model.specs.Calls.{budget_bound, descent_after}
use Rattle.text_laws.proofs.Causes.{passed_none}
use Rattle.run_descent_calls.specs.Answers.{descent_answer}
use Rattle.call_laws.proofs.Workspaces.{left_refused, left_given}
use Rattle.run_memory.proofs.Causes.{run_given}
use Rattle.run_descent_calls.proofs.Calls.{call_refused, few_trials, call_given, call_claims}
use Rattle.run_descent_calls.proofs.descent.Goals as goal

pub returns-in_err-weighted_causes : goal.returns-in_err-weighted_causes
returns-in_err-weighted_causes c =
    let a = c.args in
    let no = call_refused (lent_by a.size a.table.now a.pixels.now) a.layout.now a.weights.now a.budget _ c.in_err-weighted_causes.ensures in
    let e = handed_on _ _ c.from_residual.ensures.1 in
    record {
      answer = e ∙ sym (ap descent_answer no);
      memory = sym (ap (descent_after a.layout.now) no);
      workspace = left_refused _ _ a.workspace.now no;
      demand3 = λ x same. absurd (let z : ◌≡◌ {A = ℕ} 0 1 = cc in omega arith);
    }

pub run_alone-requires : goal.run_alone-requires
run_alone-requires c =
    let a = c.args in
    let l = lent_by a.size a.table.now a.pixels.now in
    let none = passed_none _ c.in_ok-weighted_causes.ensures in
    record {
      fact_1 = run_given l a.layout.now a.weights.now (ltb budget_bound a.budget) none _ c.write_entries.ensures;
      fact_2 = few_trials l a.layout.now a.weights.now a.budget none;
    }

pub returns : goal.returns
returns c =
    let a = c.args in
    let l = lent_by a.size a.table.now a.pixels.now in
    let none = passed_none _ c.in_ok-weighted_causes.ensures in
    let r = c.run_alone in
    let is = call_given l a.layout.now a.weights.now a.budget none _ c.write_entries.ensures r.result r.new.layout r.ensures in
    record {
      answer = sym (ap descent_answer is);
      memory = sym (ap (descent_after a.layout.now) is ∙ r.ensures.written);
      workspace = left_given _ _ a.workspace.now r.new.workspace is r.auto.workspace;
      demand3 = call_claims l a.layout.now a.weights.now a.budget none _ c.write_entries.ensures r.result r.new.layout r.ensures;
    }
