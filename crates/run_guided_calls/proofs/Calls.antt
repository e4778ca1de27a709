-- The call of a guided run: its causes are those of a run with a round count and a budget beside the weights, and where none is there the run
-- is given. Assumes nothing.
use Rattle.std.specs.Prelude.{Err, Ok, Result}
use Rattle.list_laws.proofs.Kit.{◌∙◌, ◌≡◌, ap, refl, subst, sym, Bool, ◌||◌, false, not, true, List, ◌≤◌, ℕ, ltb, ltb-false, not-false}
use Rattle.model.specs.Layout.{Layout}
use Rattle.model.specs.Guided.{Guided, rounds, guide}
use Rattle.model.specs.Lent.{Lent, job_of, up_to}
use Rattle.model.specs.Buffer.{layout_of, entries_of}
use Rattle.model.specs.Refusal.{refused, given, unless}
use Rattle.model.specs.Calls.{budget_bound, round_bound, some_weight_wrong, guided_call}
use Rattle.model.specs.declared.Refusal.{Refusal}
use Rattle.list_laws.proofs.Tests.{or_neither}
use Rattle.job_laws.proofs.Ranges.{up_to_lem}
use Rattle.text_laws.proofs.Entries.{entries_read_back}
use Rattle.text_laws.specs.Outcomes.{NoCause}
use Rattle.text_laws.proofs.Outcomes.{unless_given}
use Rattle.descent_laws.specs.Claims.{GuidedClaims}
use Rattle.call_laws.proofs.Runs.{guided_given}
use Rattle.search_laws.specs.Results.{guided_of}
use Rattle.model.specs.Answers.{first_cause}
use Rattle.text_laws.proofs.Causes.{refused_alone}
use Rattle.causes.specs.Asked.{weighted_causes}
use Rattle.causes.proofs.Asked.{run_asked}
use Rattle.causes.proofs.Passed.{weighted_passed}
use Rattle.run_guided_calls.specs.Answers.{tally_of, numbers_wrong}
use Rattle.run_rounds.specs.Rounds.{Ran}
use Rattle.run_guided_calls.specs.declared.RunTotals.{RunTotals}

-- three tests in a row, grouped either way
or_grouped : (a b c : Bool) → ((a || b) || c) ≡ (a || (b || c))
or_grouped true b c = refl
or_grouped false b c = refl

module _ (l : Lent) (es : List (List ℕ)) (ws : List ℕ) (count budget : ℕ) where
  -- the call by the causes of a run
  call_causes_lem : guided_call l es ws count budget
      ≡ unless (weighted_causes l es ws (numbers_wrong count budget) false) (guide (job_of l) count budget ws (layout_of es))
  unfolding guided_call
  call_causes_lem =
      rw (or_grouped (some_weight_wrong ws) (ltb budget_bound budget) (not (up_to round_bound count))) (sym (run_asked l es _ ws (numbers_wrong count budget)))

  -- a cause refuses it
  pub call_refused : (r : Refusal) → Err r ≡ first_cause (weighted_causes l es ws (numbers_wrong count budget) false)
      → guided_call l es ws count budget ≡ refused r
  call_refused r e = call_causes_lem ∙ refused_alone (weighted_causes l es ws (numbers_wrong count budget) false) (guide (job_of l) count budget ws (layout_of es)) r e

  module _ (none : NoCause (weighted_causes l es ws (numbers_wrong count budget) false)) where
    -- the budget and the round count are in range
    range : (ltb budget_bound budget ≡ false) × (not (up_to round_bound count) ≡ false)
    range = or_neither (ltb budget_bound budget) (not (up_to round_bound count)) (weighted_passed l es ws (numbers_wrong count budget) false none).right_number

    -- the rounds are few
    pub few_rounds : count ≤ round_bound
    few_rounds = up_to_lem round_bound count (not-false (up_to round_bound count) range.1)

    -- and so is the budget
    pub few_trials : budget ≤ budget_bound
    few_trials = ltb-false budget_bound budget range.0

    module _ (written : List (List ℕ)) (again : written ≡ entries_of (layout_of es)) (run : RunTotals) (best : List (List ℕ)) (raised : List ℕ)
        (ran : Ran l written ws count budget (tally_of run) best raised)
      where
        -- the run is given
        pub call_given : guided_call l es ws count budget ≡ given (guided_of (layout_of best) run.sum raised run.made run.moves)
        call_given =
            call_causes_lem
            ∙ unless_given (weighted_causes l es ws (numbers_wrong count budget) false) (guide (job_of l) count budget ws (layout_of es)) none
            ∙ ap (λ (v : Layout). given (guide (job_of l) count budget ws v)) (sym (ap layout_of again ∙ entries_read_back (layout_of es)))
            ∙ ap (λ (g : Guided). given g) ran.result

        -- what demand 3 claims holds of it
        pub call_claims : (told : RunTotals) → ◌≡◌ {A = Result RunTotals Refusal} (Ok run) (Ok told)
            → GuidedClaims (job_of l) ws count budget (layout_of es) (rounds (job_of l) count budget ws (layout_of es))
            (guided_of (layout_of best) told.sum raised told.made told.moves)
        call_claims told e =
            let same : run ≡ told = cc in
            subst
            (λ (z : RunTotals). GuidedClaims (job_of l) ws count budget (layout_of es) (rounds (job_of l) count budget ws (layout_of es))
            (guided_of (layout_of best) z.sum raised z.made z.moves))
            same (guided_given l es ws count budget _ call_given)
