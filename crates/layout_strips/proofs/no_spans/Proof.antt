-- `layout_strips::no_spans` meets its contract: every number of the array is 0. Assumes nothing.
use Rattle.list_laws.proofs.Kit.{ap, List, [], ◌∷◌, ℕ, get_or, get_or-replicate, length-replicate}
use Rattle.layout_strips.proofs.no_spans.Statement.{statement}
use Rattle.layout_strips.proofs.no_spans.Tie as tie

returns : tie.Need-returns
returns c =
    record {
      long = length-replicate {A = List ℕ} 64 (0 ∷ 0 ∷ 0 ∷ []);
      none = λ i b. ap (λ (s : List ℕ). get_or s 2 0) (get_or-replicate 64 i (0 ∷ 0 ∷ 0 ∷ []) [] b);
    }

pub no_spans_spec : {M : Type 1} → statement M
no_spans_spec = tie.close (tie.spec
    returns)
