-- Weights that are raised pair by pair, as the table tells which pairs conflict. Assumes nothing.
use Rattle.list_laws.proofs.Kit.{◌∙◌, ◌≡◌, ap, ap₂, refl, subst, sym, Bool, false, not, true, List, ◌+◌, ◌<◌, ◌≤◌, ℕ, arith, eqb, ltb, get_or, length, set}
use Rattle.list_laws.proofs.Kit.{eq-eqb, le-ltb, lt-ltb, ltb-false, ltb-true, ne_eqb}
use Rattle.model.specs.Layout.{Job, Layout, pairs}
use Rattle.model.specs.Guided.{weight_bound, raised}
use Rattle.descent_laws.specs.Claims.{ValidWeights}
use Rattle.search_laws.specs.Pairs.{pair_index, row_start}
use Rattle.search_laws.proofs.Pairs.{pair_below, last_index}
use Rattle.search_laws.specs.Table.{entry, PenaltyTable}
use Rattle.search_laws.proofs.Table.{table_conflicts}
use Rattle.search_laws.specs.Raising.{Raising}
use Rattle.search_laws.proofs.GuidedLoop.{raising_more, raising_full, raising_apart, raising_end}
use Rattle.search_sums.specs.Table.{raised_by, raised_at}

-- a penalty of 0 raises nothing
pub raised_none : (ws : List ℕ) (at p : ℕ) → p ≡ 0 → ws ≡ raised_at ws at p
unfolding raised_at
raised_none ws at p e = sym (ap (λ none. raised_by none (ltb (get_or ws at 0) weight_bound) ws at) (eq-eqb p 0 e))

-- any other raises by 1
pub raised_more : (ws : List ℕ) (at p : ℕ) → (p ≡ 0 → ⊥) → get_or ws at 0 < weight_bound → set ws at (get_or ws at 0 + 1) ≡ raised_at ws at p
unfolding raised_at
raised_more ws at p n h = sym (ap₂ (λ none below. raised_by none below ws at) (ne_eqb p 0 n) (lt-ltb (get_or ws at 0) weight_bound h))

-- unless the weight is the largest
pub raised_full : (ws : List ℕ) (at p : ℕ) → (p ≡ 0 → ⊥) → weight_bound ≤ get_or ws at 0 → ws ≡ raised_at ws at p
unfolding raised_at
raised_full ws at p n h = sym (ap₂ (λ none below. raised_by none below ws at) (ne_eqb p 0 n) (le-ltb (get_or ws at 0) weight_bound h))

module _ (j : Job) (v : Layout) (ws now T : List ℕ) (i k : ℕ) (t : PenaltyTable j v j.size.count T) (valid : ValidWeights j ws) (rising : i < k)
    (below : k < j.size.count) (h : Raising j v ws (pair_index j.size.count i k) now)
  where
    at : ℕ
    at = pair_index j.size.count i k

    -- by whether the penalty is 0 and the weight the largest
    cases : (a b : Bool) → eqb (get_or T (entry i k) 0) 0 ≡ a → ltb (get_or now at 0) weight_bound ≡ b
        → Raising j v ws (at + 1) (raised_by a b now at)
    unfolding at
    cases true b e f = raising_apart j v ws now i k valid.one_per_pair rising below h (table_conflicts j ws v T t i k rising below ∙ ap not e)
    cases false true e f =
        raising_more j v ws now i k valid.one_per_pair rising below h (table_conflicts j ws v T t i k rising below ∙ ap not e) (ltb-true _ _ f)
    cases false false e f =
        let there : pair_index j.size.count i k < length ws =
        (let p = pair_below j.size.count i k rising below in let o = valid.one_per_pair in omega arith) in
        let most = (valid.in_range (pair_index j.size.count i k) there).1 in
        raising_full j v ws now i k valid.one_per_pair rising below h (table_conflicts j ws v T t i k rising below ∙ ap not e) (ltb-false _ _ f)
        (omega (arith, h.rest (pair_index j.size.count i k) (omega arith)))

    -- the pair's weight
    raise_pair_at : Raising j v ws (pair_index j.size.count i k + 1) (raised_at now (pair_index j.size.count i k) (get_or T (entry i k) 0))
    unfolding raised_at at
    raise_pair_at = cases (eqb (get_or T (entry i k) 0) 0) (ltb (get_or now at 0) weight_bound) refl refl

-- the step of the loop along a row
pub raise_step : (j : Job) (v : Layout) (n : ℕ) (ws now T : List ℕ) (i k at : ℕ) → j.size.count ≡ n → PenaltyTable j v n T → ValidWeights j ws → i < k → k < n
    → pair_index n i k ≡ at → Raising j v ws at now → Raising j v ws (at + 1) (raised_at now at (get_or T (entry i k) 0))
raise_step j v n ws now T i k at e t valid rising below f h =
    subst (λ n. PenaltyTable j v n T → k < n → pair_index n i k ≡ at → Raising j v ws (at + 1) (raised_at now at (get_or T (entry i k) 0))) e
    (λ t b f.
    subst (λ at. Raising j v ws at now → Raising j v ws (at + 1) (raised_at now at (get_or T (entry i k) 0))) f
    (raise_all t b) h)
    t below f
  where
    raise_all : PenaltyTable j v j.size.count T → k < j.size.count → Raising j v ws (pair_index j.size.count i k) now
        → Raising j v ws (pair_index j.size.count i k + 1) (raised_at now (pair_index j.size.count i k) (get_or T (entry i k) 0))
    raise_all t b h = raise_pair_at j v ws now T i k t valid rising b h

-- after the last row
pub raise_end : (j : Job) (v : Layout) (n : ℕ) (ws now : List ℕ) (from : ℕ) → j.size.count ≡ n → ValidWeights j ws → from ≡ row_start n n
    → Raising j v ws from now
    → now ≡ raised j v ws
raise_end j v n ws now from e valid f h =
    raising_end j v ws now valid (subst (λ k. Raising j v ws k now) (f ∙ last_index n ∙ ap (λ n. length (pairs n)) (sym e)) h)
