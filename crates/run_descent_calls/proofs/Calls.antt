-- What the call of a descent comes to. Assumes nothing.
use Rattle.std.specs.Prelude.{Err, Ok, Result}
use Rattle.list_laws.proofs.Kit.{◌∙◌, ◌≡◌, ap, subst, sym, false, List, ◌≤◌, ℕ, ltb, ltb-false}
use Rattle.model.specs.Layout.{Layout}
use Rattle.model.specs.Lent.{Lent, job_of}
use Rattle.model.specs.Buffer.{layout_of, entries_of}
use Rattle.model.specs.Descent.{descend}
use Rattle.model.specs.Refusal.{refused, given}
use Rattle.model.specs.Calls.{budget_bound, descent_call}
use Rattle.model.specs.declared.Refusal.{Refusal}
use Rattle.text_laws.proofs.Entries.{entries_read_back}
use Rattle.text_laws.specs.Outcomes.{NoCause}
use Rattle.text_laws.proofs.Outcomes.{unless_given}
use Rattle.descent_laws.specs.Claims.{DescentClaims}
use Rattle.call_laws.proofs.Runs.{descent_given}
use Rattle.model.specs.Answers.{first_cause}
use Rattle.text_laws.proofs.Causes.{refused_alone}
use Rattle.causes.specs.Asked.{weighted_causes}
use Rattle.causes.proofs.Asked.{run_asked}
use Rattle.causes.proofs.Passed.{weighted_passed}
use Rattle.run_descent.specs.Descents.{descent_of}
use Rattle.run_descent.specs.declared.Ended.{Ended}
use Rattle.run_memory.specs.Done.{Descended}

module _ (l : Lent) (es : List (List ℕ)) (ws : List ℕ) (budget : ℕ) where
  -- a cause refuses the descent
  pub call_refused : (r : Refusal) → Err r ≡ first_cause (weighted_causes l es ws (ltb budget_bound budget) false)
      → descent_call l es ws budget ≡ refused r
  unfolding descent_call
  call_refused r e =
      sym (run_asked l es _ ws (ltb budget_bound budget))
      ∙ refused_alone (weighted_causes l es ws (ltb budget_bound budget) false) (descend (job_of l) ws budget (layout_of es)) r e

  module _ (none : NoCause (weighted_causes l es ws (ltb budget_bound budget) false)) where
    -- where none is there, the budget is in range
    pub few_trials : budget ≤ budget_bound
    few_trials = ltb-false budget_bound budget (weighted_passed l es ws (ltb budget_bound budget) false none).right_number

    module _ (written : List (List ℕ)) (again : written ≡ entries_of (layout_of es)) (r : Ended) (new : List (List ℕ))
        (done : Descended l written ws budget r new)
      where
        -- the descent is given
        pub call_given : descent_call l es ws budget ≡ given (descent_of r (layout_of new))
        unfolding descent_call
        call_given =
            sym (run_asked l es _ ws (ltb budget_bound budget))
            ∙ unless_given (weighted_causes l es ws (ltb budget_bound budget) false) (descend (job_of l) ws budget (layout_of es)) none
            ∙ ap (λ (v : Layout). given (descend (job_of l) ws budget v)) (sym (ap layout_of again ∙ entries_read_back (layout_of es)))
            ∙ ap given done.result

        -- what demand 3 claims holds of it
        pub call_claims : (e : Ended) → ◌≡◌ {A = Result Ended Refusal} (Ok r) (Ok e)
            → DescentClaims (job_of l) ws budget (layout_of es) (descent_of e (layout_of new))
        call_claims e same =
            let here : r ≡ e = cc in
            subst (λ (z : Ended). DescentClaims (job_of l) ws budget (layout_of es) (descent_of z (layout_of new))) here
            (descent_given l es ws budget (descent_of r (layout_of new)) call_given)
