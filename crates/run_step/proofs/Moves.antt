-- What the answers of a search and of a trial tell. Assumes nothing.
use Rattle.list_laws.proofs.Kit.{◌≡◌, ap₂, refl, Option, none, some, ◌<◌, ℕ}
use Rattle.std.specs.Prelude.{Some, None}
use Rattle.model.specs.Search.{Best}
use Rattle.search_line_sums.specs.declared.Least.{Least}
use Rattle.search_laws.specs.BoundedSearch.{best_at, below_bound}
use Rattle.search_laws.proofs.BoundedSearch.{Lowest, bounded_is}
use Rattle.search_line_sums.specs.Answers.{found_answer}
use Rattle.run_step.specs.Steps.{tried_answer}

-- a place was found
pub found_at : (o : Option Best) (least : Least) → Some least ≡ found_answer o → o ≡ some (best_at least.sum least.at)
found_at none least e = cc
found_at (some b) least e =
    let p : b.sum ≡ least.sum = cc in
    let q : b.at ≡ least.at = cc in
    ap₂ (λ (x y : ℕ). some (best_at x y)) p q

-- the place is one of the line's
pub found_there : (f : ℕ → ℕ) (n B : ℕ) (least : Least) → Some least ≡ found_answer (below_bound f n B) → least.at < n
found_there f n B least e = let h : Lowest f n B (best_at least.sum least.at) = rw (found_at (below_bound f n B) least e) at (bounded_is f n B) in h.there

-- a quiet trial found nothing
pub tried_quiet : (o : Option Best) → None ≡ tried_answer o → o ≡ none
tried_quiet none e = refl
tried_quiet (some b) e = cc

-- a trial that moved found a place
pub record MovedTo (o : Option Best) (s : ℕ) : Type 0 where
  pub best : Best
  pub found : o ≡ some best
  pub sum : best.sum ≡ s

pub tried_moved : (o : Option Best) (s : ℕ) → Some s ≡ tried_answer o → MovedTo o s
tried_moved none s e = cc
tried_moved (some b) s e = record { best = b; found = refl; sum = cc }
