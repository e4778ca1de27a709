-- Document 01, 'Line search' and a trial of 'Descent and guidance', as one search with a bound: a trial asks only for sums below the
-- piece's present one, and the line search is the same with a bound above every sum. Assumes nothing.
use Rattle.list_laws.proofs.Kit.{◌∙◌, ◌≡◌, ap, refl, sym, Bool, false, true, ◌↔◌, Option, none, some, List, ◌<◌, ◌≤◌, suc, zero, ℕ, arith, ltb, length}
use Rattle.list_laws.proofs.Kit.{lt-ltb, ltb-false, ltb-true}
use Rattle.model.specs.Layout.{Job, Layout, piece_sum}
use Rattle.model.specs.Search.{Best, places, moved_to, sum_at, least, search_line}
use Rattle.model.specs.Descent.{Trial, Attempt, moved, quiet, judged, trial_line, attempt}
use Rattle.model.specs.Lent.{piece_bound}
use Rattle.model.specs.declared.Turn.{Turn}
use Rattle.model.specs.declared.Line.{Line}
use Rattle.descent_laws.proofs.Search.{Least, least_is}
use Rattle.descent_laws.specs.Claims.{ValidWeights}
use Rattle.descent_laws.proofs.Bounds.{BoxesSmall}
use Rattle.descent_laws.proofs.Run.{impossible}
use Rattle.search_laws.specs.PieceSum.{penalty_between}
use Rattle.search_laws.proofs.PieceSum.{piece_sum_lem, piece_sum_bound, running_bound, between_bound}
use Rattle.search_laws.specs.BoundedSearch.{below_bound}
use Rattle.search_laws.proofs.BoundedSearch.{bounded_answer, none_answer}

-- ── the least of all ──

-- the search with a bound against the least of all, by the test of the least
least_test : (f : ℕ → ℕ) (n B : ℕ) (b : Best) → Least f n b → (c : Bool) → ltb b.sum B ≡ c
    → below_bound f (suc n) B ≡ elim c as (λ _. Option Best) [ true ↦ some b | false ↦ none ]
least_test f n B b h true e =
    bounded_answer f (suc n) B (some b)
    (record {
      there = let a = h.there in omega arith;
      attained = h.attained;
      below = ltb-true _ _ e;
      least = λ k l. h.least k (omega arith);
      smallest = h.smallest;
    })
least_test f n B b h false e = none_answer f (suc n) B (λ k l. (let g : B ≤ b.sum = ltb-false _ _ e in let a = h.least k (omega arith) in omega arith))

-- with a bound above every value it is the least of all
pub bounded_least : (f : ℕ → ℕ) (n B : ℕ) → ((k : ℕ) → k < suc n → f k < B) → below_bound f (suc n) B ≡ some (least f n)
bounded_least f n B h =
    let l : Least f n (least f n) = least_is f n in
    let below : (least f n).sum < B = (let a = l.attained in let b = h (least f n).at (let t = l.there in omega arith) in omega arith) in
    least_test f n B (least f n) l true (lt-ltb (least f n).sum B below)

-- the least of f 0, .., f (n - 1), where there is one
abbrev least_of : (ℕ → ℕ) → ℕ → Option Best
least_of f n = elim n [ zero ↦ none | suc n ↦ some (least f n) ]

-- ── a trial ──

-- what a search with the present sum as its bound comes to: a move where it finds a place, else quiet
abbrev pub best_taken : (ℕ → Layout) → Option Best → Attempt
best_taken place none = quiet
best_taken place (some b) = moved (place b.at)

-- by the test of the least against the present sum
judged_at : (present : ℕ) (place : ℕ → Layout) (b : Best) (c : Bool)
    → elim c as (λ _. Attempt) [ true ↦ moved (place b.at) | false ↦ quiet ]
    ≡ best_taken place (elim c as (λ _. Option Best) [ true ↦ some b | false ↦ none ])
judged_at present place b true = refl
judged_at present place b false = refl

-- by how many places there are
judged_below : (f : ℕ → ℕ) (present : ℕ) (place : ℕ → Layout) (n : ℕ)
    → judged present place (least_of f n) ≡ best_taken place (below_bound f n present)
unfolding below_bound
judged_below f present place zero = refl
judged_below f present place (suc n) =
    judged_at present place (least f n) (ltb (least f n).sum present)
    ∙ ap (best_taken place) (sym (least_test f n present (least f n) (least_is f n) _ refl))

-- a trial is the search below the piece's present pair sum
pub attempt_below : (j : Job) (ws : List ℕ) (v : Layout) (k : Trial)
    → attempt j ws v k
    ≡ best_taken (moved_to v k.piece k.turn (trial_line v k))
    (below_bound (sum_at j ws v k.piece k.turn (trial_line v k)) (places j k.piece k.turn (trial_line v k)) (piece_sum j ws v k.piece))
unfolding attempt search_line
attempt_below j ws v k =
    judged_below (sum_at j ws v k.piece k.turn (trial_line v k)) (piece_sum j ws v k.piece) (moved_to v k.piece k.turn (trial_line v k))
    (places j k.piece k.turn (trial_line v k))

-- ── the line search ──

-- by how many places there are
least_below : (f : ℕ → ℕ) (B n : ℕ) → ((a : ℕ) → a < n → f a < B)
    → least_of f n ≡ below_bound f n B
unfolding below_bound
least_below f B zero h = refl
least_below f B (suc n) h = sym (bounded_least f n B h)

-- the line search is the search below a bound that is above every sum
pub search_below : (j : Job) (ws : List ℕ) (v : Layout) (i : ℕ) (t : Turn) (line : Line) (B : ℕ)
    → ((a : ℕ) → a < places j i t line → sum_at j ws v i t line a < B)
    → search_line j ws v i t line ≡ below_bound (sum_at j ws v i t line) (places j i t line) B
unfolding search_line
search_below j ws v i t line B h = least_below (sum_at j ws v i t line) B (places j i t line) h

-- no answer exactly where there is no place
pub search_none : (j : Job) (ws : List ℕ) (v : Layout) (i : ℕ) (t : Turn) (line : Line)
    → (search_line j ws v i t line ≡ none) ↔ (places j i t line ≡ 0)
unfolding search_line
search_none j ws v i t line = (none_at (places j i t line), λ e. rw (e, search_line))
  where
    none_at : (n : ℕ) → least_of (sum_at j ws v i t line) n ≡ none → n ≡ 0
    none_at zero e = refl
    none_at (suc n) e = impossible (cc)

-- where there is a place the line search has an answer
pub search_some : (j : Job) (ws : List ℕ) (v : Layout) (i : ℕ) (t : Turn) (line : Line) (n : ℕ) → places j i t line ≡ suc n
    → search_line j ws v i t line ≡ some (least (sum_at j ws v i t line) n)
unfolding search_line
search_some j ws v i t line n e = rw (e, search_line)

-- every pair sum on a line is at most 63 × 65,535 × 255
pub sum_at_bound : (j : Job) (ws : List ℕ) (v : Layout) (i : ℕ) (t : Turn) (line : Line) (a : ℕ) → j.size.count ≤ piece_bound → BoxesSmall j
    → ValidWeights j ws → i < j.size.count → length v ≡ j.size.count → sum_at j ws v i t line a ≤ piece_sum_bound
unfolding sum_at
sum_at_bound j ws v i t line a few small w l e =
    rw (piece_sum_lem j ws (moved_to v i t line a) i l w.one_per_pair)
    (running_bound j ws i j.size.count (penalty_between j (moved_to v i t line a) i) few w l (omega arith)
    (λ k b d. between_bound j small (moved_to v i t line a) i k l b d))

-- the line search is the search below any bound above 63 × 65,535 × 255
pub search_unbounded : (j : Job) (ws : List ℕ) (v : Layout) (i : ℕ) (t : Turn) (line : Line) (B : ℕ) → j.size.count ≤ piece_bound → BoxesSmall j
    → ValidWeights j ws → i < j.size.count → length v ≡ j.size.count → piece_sum_bound < B
    → search_line j ws v i t line ≡ below_bound (sum_at j ws v i t line) (places j i t line) B
search_unbounded j ws v i t line B few small w l e large =
    search_below j ws v i t line B (λ a b. (let s = sum_at_bound j ws v i t line a few small w l e in omega arith))
