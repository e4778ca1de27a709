-- `run_calls`: a refused fresh sheet is the answer. After a given one the calls run from the fresh sheet, and demand 2 holds of what they leave.
-- Assumes nothing.
use Rattle.list_laws.proofs.Kit.{◌∙◌, ◌≡◌, ap, subst, sym, ℕ, arith, rules}
use Rattle.model.specs.Lent.{lent_by, job_of}
use Rattle.model.specs.Cover.{Sheet, fresh, after_calls}
use Rattle.job_laws.proofs.Checked.{facts}
use Rattle.cover_laws.specs.CoverClaims.{CoverHolds}
use Rattle.cover_laws.proofs.Demand2Cover.{demand2_cover}
use Rattle.sheet_calls.specs.Ready.{SheetReady}
use Rattle.sheet_lists.proofs.run_calls.Statement.{statement}
use Rattle.sheet_lists.specs.CallList.{calls_of}
use Rattle.sheet_lists.proofs.CallLists.{fresh_ready, refused_run, given_run}
use Rattle.sheet_calls.proofs.Outcomes.{given_answer_lem}
use Rattle.sheet_calls.specs.Answers.{blank_record, record_of, given_answer}
use Rattle.sheet_refusals.specs.Causes.{sheet_of}
use Rattle.sheet_lists.proofs.run_calls.Tie as tie

returns-in-Err : tie.Need-returns-in-Err
returns-in-Err c =
    let at-fresh : tie.After-fresh-start = search in
    let at-start : tie.Start = search in
    let a = at-start.args in
    let l = lent_by a.size a.table.now a.pixels.now in
    let start = at-fresh.fresh-start in
    let no = c.in-Err.is in
    let run = refused_run l a.calls.now a.counts.now _ start.result start.ensures.0 start.ensures.1 _ no in
    (run.0, (run.1, λ so. let z : ◌≡◌ {A = ℕ} 0 1 = cc in absurd (omega arith)))

run_from-sheet-requires : tie.Need-run_from-sheet-requires
run_from-sheet-requires c κs =
    let at-fresh : tie.After-fresh-start = search in
    let at-start : tie.Start = search in
    let a = at-start.args in
    let l = lent_by a.size a.table.now a.pixels.now in
    let start = at-fresh.fresh-start in
    let run =
    given_run l a.calls.now a.counts.now _ start.result start.ensures.0 start.ensures.1 c.in_default.is in
    subst (λ (t : Sheet). SheetReady l t) (sym run.1) (fresh_ready l run.0.well)

returns : tie.Need-returns
unfolding job_of
returns c =
    let at-enum-told2 : tie.In_default = search in
    let at-fresh : tie.After-fresh-start = search in
    let at-start : tie.Start = search in
    let a = at-start.args in
    let l = lent_by a.size a.table.now a.pixels.now in
    let start = at-fresh.fresh-start in
    let calls = calls_of a.calls.now in
    let run = given_run l a.calls.now a.counts.now _ start.result start.ensures.0 start.ensures.1 at-enum-told2.in_default.is in
    let left = c.run_from-sheet.new.counts in
    let after : sheet_of c.run_from-sheet.result left ≡ after_calls (job_of l) (fresh (job_of l)) calls =
    c.run_from-sheet.ensures ∙ ap (λ (t : Sheet). after_calls (job_of l) t calls) run.1 in
    let answer =
    given_answer_lem _ (after_calls (job_of l) (fresh (job_of l)) calls) blank_record a.counts.now left (given_answer c.run_from-sheet.result)
    run.0.run
    (ap (λ (t : Sheet). given_answer (record_of t)) after) (ap (λ (t : Sheet). t.counts) after) in
    let holds : CoverHolds (job_of l) calls (after_calls (job_of l) (fresh (job_of l)) calls) =
    demand2_cover (job_of l) (facts l run.0.well).few_pieces calls in
    (answer.0, (answer.1, λ so. subst (λ (t : Sheet). CoverHolds (job_of l) calls t) (sym after) holds))

pub run_calls_spec : {M : Type 1} → statement M
run_calls_spec =
    tie.close (tie.spec
    (search rules) (search rules) (search rules) returns-in-Err (search rules) run_from-sheet-requires (search rules) returns)
