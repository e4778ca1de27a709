-- Causes that are not there drop out of a call's list, and where the job is refused for its numbers nothing behind it is asked: so what
-- is asked here comes to what document 01 lists for each call. Assumes nothing.
use Rattle.list_laws.proofs.Kit.{◌∙◌, ◌≡◌, ap, refl, sym, Bool, ◌&&◌, ◌||◌, false, not, true, List, [], ◌∷◌, ◌≤◌, ℕ, eqb, ltb, length}
use Rattle.model.specs.Layout.{pairs, allowed}
use Rattle.model.specs.Refusal.{Cause, cause, unless, out_of_range, wrong_length, not_ours, no_such_piece}
use Rattle.model.specs.Lent.{Lent, job_of, lent_well, piece_bound}
use Rattle.model.specs.Calls.{some_turn_wrong, some_weight_wrong, job_cause, layout_length, weights_length, outside_cause, layout_causes, placing_causes}
use Rattle.job_laws.proofs.Checked.{facts}
use Rattle.text_laws.proofs.Causes.{here_refused, not_there, behind}
use Rattle.model.specs.declared.Turn.{Turn}
use Rattle.causes.specs.Asked.{place_causes, call_causes, weighted_causes}

-- a test or nothing
pub or_nothing : (b : Bool) → (b || false) ≡ b
or_nothing true = refl
or_nothing false = refl

-- a piece is not known for one of two reasons
either_unknown : (b x y : Bool) → (b || not (x && y)) ≡ ((b || not x) || not y)
either_unknown true x y = refl
either_unknown false true y = refl
either_unknown false false y = refl

-- the causes of a call on weights, by whether a number (2) and a piece or a turn (9) is wrong
abbrev pub weighed : Lent → List (List ℕ) → List ℕ → Bool → Bool → List Cause
weighed l es ws number piece =
    job_cause l ∷ layout_length l es ∷ weights_length l ws ∷ cause out_of_range number ∷ cause no_such_piece piece ∷ outside_cause l es ∷ []

module _ {A : Type 0} (l : Lent) (es : List (List ℕ)) (a : A) where
  -- a call whose own length and number are right asks 8, 7, 9, 10
  pub placed_asked : (piece : Bool)
      → unless (call_causes l es (record { length = false; number = false; piece = piece })) a
      ≡ unless (job_cause l ∷ layout_length l es ∷ place_causes l es piece) a
  placed_asked piece =
      behind (job_cause l ∷ layout_length l es ∷ []) _ _ a
      (not_there wrong_length false (cause out_of_range false ∷ place_causes l es piece) a refl ∙ not_there out_of_range false (place_causes l es piece) a refl)

  -- a call on a layout alone
  pub layout_asked : unless (call_causes l es (record { length = false; number = false; piece = false })) a ≡ unless (layout_causes l es) a
  unfolding layout_causes
  layout_asked =
      placed_asked false
      ∙ ap (λ b. unless (job_cause l ∷ layout_length l es ∷ cause no_such_piece b ∷ outside_cause l es ∷ []) a) (or_nothing (some_turn_wrong (job_of l) es))

  -- a run, whose budget or count may be out of range
  pub run_asked : (ws : List ℕ) (number : Bool)
      → unless (weighted_causes l es ws number false) a
      ≡ unless (weighed l es ws (some_weight_wrong ws || number) (some_turn_wrong (job_of l) es)) a
  run_asked ws number = ap (λ b. unless (weighed l es ws (some_weight_wrong ws || number) b) a) (or_nothing (some_turn_wrong (job_of l) es))

  -- a weighted sum
  pub sum_asked : (ws : List ℕ)
      → unless (weighted_causes l es ws false false) a
      ≡ unless (weighed l es ws (some_weight_wrong ws) (some_turn_wrong (job_of l) es)) a
  sum_asked ws = run_asked ws false ∙ ap (λ b. unless (weighed l es ws b (some_turn_wrong (job_of l) es)) a) (or_nothing (some_weight_wrong ws))

  -- a call that would place a piece in a turn
  pub placing_asked : (ws : List ℕ) (i : ℕ) (t : Turn)
      → unless (weighted_causes l es ws false (not (ltb i l.size.count && allowed (job_of l) i t))) a ≡ unless (placing_causes l es ws i t) a
  placing_asked ws i t =
      let wrong = some_turn_wrong (job_of l) es || not (ltb i l.size.count && allowed (job_of l) i t) in
      ap (λ b. unless (weighed l es ws b wrong) a) (or_nothing (some_weight_wrong ws))
      ∙ ap (λ b. unless (weighed l es ws (some_weight_wrong ws) b) a)
      (either_unknown (some_turn_wrong (job_of l) es) (ltb i l.size.count) (allowed (job_of l) i t))

  -- the length of the weights is asked behind the job
  pub weights_asked : (ws : List ℕ) (missing : Bool) (rest : List Cause)
      → (l.size.count ≤ piece_bound → missing ≡ not (eqb (length ws) (length (pairs l.size.count))))
      → unless (job_cause l ∷ layout_length l es ∷ cause wrong_length missing ∷ rest) a
      ≡ unless (job_cause l ∷ layout_length l es ∷ weights_length l ws ∷ rest) a
  weights_asked ws missing rest h = by_check (lent_well l) refl
    where
      by_check : (b : Bool) → lent_well l ≡ b
          → unless (job_cause l ∷ layout_length l es ∷ cause wrong_length missing ∷ rest) a
          ≡ unless (job_cause l ∷ layout_length l es ∷ weights_length l ws ∷ rest) a
      by_check true e = ap (λ b. unless (job_cause l ∷ layout_length l es ∷ cause wrong_length b ∷ rest) a) (h (facts l e).few_pieces)
      by_check false e =
          here_refused not_ours (not (lent_well l)) (layout_length l es ∷ cause wrong_length missing ∷ rest) a (ap not e)
          ∙ sym (here_refused not_ours (not (lent_well l)) (layout_length l es ∷ weights_length l ws ∷ rest) a (ap not e))
