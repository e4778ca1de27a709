-- Weights that are refused. Assumes nothing.
use Rattle.std.proofs.lemmas.Bool.Decides.{nat_tests}
use Rattle.std.specs.List.{list_any}
use Rattle.list_laws.proofs.Kit.{◌≡◌, refl, Bool, ◌||◌, false, not, true, List, [], ◌∷◌, ℕ, arith, eqb, ltb}
use Rattle.model.specs.Lent.{up_to}
use Rattle.model.specs.Guided.{weight_bound}
use Rattle.model.specs.Calls.{some_weight_wrong}

-- a weight is 0 or above 65,535 where it is out of range
out_of_range : (w : ℕ) → (eqb w 0 || ltb weight_bound w) ≡ not (up_to weight_bound w)
out_of_range w = grind (arith, nat_tests)

-- one of them is
pub some_out_of_range : (ws : List ℕ) → list_any (λ w. eqb w 0 || ltb weight_bound w) ws ≡ some_weight_wrong ws
unfolding some_weight_wrong
some_out_of_range [] = refl
some_out_of_range (w ∷ ws) = rw (out_of_range w) (step (up_to weight_bound w) _ _ (some_out_of_range ws))
  where
    step : (b p q : Bool) → p ≡ q → (not b || p) ≡ elim b as (λ _. Bool) [ true ↦ q | false ↦ true ]
    step true p q e = e
    step false p q e = refl
