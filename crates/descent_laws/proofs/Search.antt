-- Document 01, 'Line search': the inside corners on a line are the coordinates below `places`, and the search finds the least sum
-- over them and the smallest coordinate that has it. Assumes nothing.
use Rattle.list_laws.proofs.Kit.{◌≡◌, refl, Bool, false, true, ⊎_elim, Option, none, some, List, ◌+◌, ◌-◌, ◌<◌, ◌≤◌, suc, zero, ℕ, eq-or-lt_of_le, arith, leb}
use Rattle.list_laws.proofs.Kit.{ltb, le-leb, leb-true, ltb-false, ltb-true}
use Rattle.model.specs.Piece.{extent, other, line_direction, held, on_line}
use Rattle.model.specs.Layout.{Job, Layout, sheet_extent, turned_piece, inside}
use Rattle.model.specs.Search.{Best, places, sum_at, least, search_line}
use Rattle.model.specs.declared.Turn.{Turn}
use Rattle.model.specs.declared.Line.{Line}
use Rattle.model.specs.declared.Line.TheVariants.{InRow, InColumn}
use Rattle.list_laws.proofs.Tests.{and_left, and_right, and_both}
use Rattle.descent_laws.specs.Search.{LeastFound}

-- ── the inside corners on a line ──

-- the placement at coordinate a is inside: the box fits the sheet across the line, and along it from a on
record Fits (j : Job) (i : ℕ) (t : Turn) (line : Line) (a : ℕ) : Type 0 where
  across : held line + extent (other (line_direction line)) (turned_piece j i t) ≤ sheet_extent (other (line_direction line)) j
  along : a + extent (line_direction line) (turned_piece j i t) ≤ sheet_extent (line_direction line) j

-- inside means that it fits across and along
inside_fits : (j : Job) (i : ℕ) (t : Turn) (line : Line) (a : ℕ) → inside j i (on_line line t a) ≡ true → Fits j i t line a
unfolding inside
inside_fits j i t (InRow r) a e =
    record { across = leb-true _ _ (and_right (leb (a + (turned_piece j i t).columns) j.size.columns) _ e); along = leb-true _ _ (and_left _ _ e) }
inside_fits j i t (InColumn c) a e =
    record { across = leb-true _ _ (and_left _ _ e); along = leb-true _ _ (and_right (leb (c.0 + (turned_piece j i t).columns) j.size.columns) _ e) }

-- what fits across and along is inside
fits_inside : (j : Job) (i : ℕ) (t : Turn) (line : Line) (a : ℕ) → Fits j i t line a → inside j i (on_line line t a) ≡ true
unfolding inside
fits_inside j i t (InRow r) a f = and_both (le-leb _ _ f.along) (le-leb _ _ f.across)
fits_inside j i t (InColumn c) a f = and_both (le-leb _ _ f.across) (le-leb _ _ f.along)

-- an inside corner is below `places`
pub inside_below : (j : Job) (i : ℕ) (t : Turn) (line : Line) (a : ℕ) → inside j i (on_line line t a) ≡ true → a < places j i t line
unfolding places
inside_below j i t line a e =
    let f = inside_fits j i t line a e in
    rw (le-leb _ _ f.across, places) (omega arith)

-- what is below `places` is an inside corner
below_fits : (j : Job) (i : ℕ) (t : Turn) (line : Line) (a : ℕ) (b : Bool)
    → leb (held line + extent (other (line_direction line)) (turned_piece j i t)) (sheet_extent (other (line_direction line)) j) ≡ b
    → a < elim b as (λ _. ℕ) [ true ↦ suc (sheet_extent (line_direction line) j) - extent (line_direction line) (turned_piece j i t) | false ↦ 0 ]
    → Fits j i t line a
below_fits j i t line a true e l = record { across = leb-true _ _ e; along = omega arith }
below_fits j i t line a false e l = absurd (omega arith)

pub below_inside : (j : Job) (i : ℕ) (t : Turn) (line : Line) (a : ℕ) → a < places j i t line → inside j i (on_line line t a) ≡ true
unfolding places
below_inside j i t line a l = fits_inside j i t line a (below_fits j i t line a _ refl l)

-- ── the least ──

-- b is the least of f 0, .., f n at the smallest number that has it
pub record Least (f : ℕ → ℕ) (n : ℕ) (b : Best) : Type 0 where
  pub there : b.at ≤ n
  pub attained : b.sum ≡ f b.at
  pub least : (k : ℕ) → k ≤ n → b.sum ≤ f k
  pub smallest : (k : ℕ) → k < b.at → b.sum < f k

-- one more number, by its test against the least so far
least_step : (f : ℕ → ℕ) (n : ℕ) (b : Best) → Least f n b → (c : Bool) → ltb (f (suc n)) b.sum ≡ c
    → Least f (suc n) (elim c as (λ _. Best) [ true ↦ record { sum = f (suc n); at = suc n } | false ↦ b ])
least_step f n b h true e =
    let less : f (suc n) < b.sum = ltb-true _ _ e in
    record {
      there = omega arith;
      attained = refl;
      least = λ k l. ⊎_elim (λ (s : k ≡ suc n). rw s (omega arith)) (λ (g : k < suc n). let m = h.least k (omega arith) in omega arith) (eq-or-lt_of_le l);
      smallest = λ k l. let m = h.least k (omega arith) in omega arith;
    }
least_step f n b h false e =
    let not_less : b.sum ≤ f (suc n) = ltb-false _ _ e in
    record {
      there = let g = h.there in omega arith;
      attained = h.attained;
      least = λ k l. ⊎_elim (λ (s : k ≡ suc n). rw s not_less) (λ (g : k < suc n). h.least k (omega arith)) (eq-or-lt_of_le l);
      smallest = h.smallest;
    }

-- `least` finds it
pub least_is : (f : ℕ → ℕ) (n : ℕ) → Least f n (least f n)
unfolding least
least_is f zero =
    record { there = omega arith; attained = refl; least = λ k l. (let e : k ≡ 0 = omega arith in rw e (omega arith)); smallest = λ k l. absurd (omega arith) }
least_is f (suc n) = least_step f n (least f n) (least_is f n) _ refl

-- ── the line search ──

-- what an answer of the line search means: none, no inside corner lies on the line; or the best is found
abbrev pub Searched : Job → List ℕ → Layout → ℕ → Turn → Line → Option Best → Type 0
Searched j ws v i t line none = (a : ℕ) → inside j i (on_line line t a) ≡ true → ⊥
Searched j ws v i t line (some b) = LeastFound j ws v i t line b

-- by how many inside corners there are
searched_at : (j : Job) (ws : List ℕ) (v : Layout) (i : ℕ) (t : Turn) (line : Line) (n : ℕ) → places j i t line ≡ n
    → Searched j ws v i t line (elim n as (λ _. Option Best) [ zero ↦ none | suc n ↦ some (least (sum_at j ws v i t line) n) ])
unfolding sum_at
searched_at j ws v i t line zero e = λ a h. (let l = inside_below j i t line a h in omega arith)
searched_at j ws v i t line (suc n) e =
    let b : Best = least (sum_at j ws v i t line) n in
    let r : Least (sum_at j ws v i t line) n b = least_is (sum_at j ws v i t line) n in
    record {
      inside_sheet = below_inside j i t line b.at (let l = r.there in omega arith);
      attained = r.attained;
      least = λ a h. (let l = inside_below j i t line a h in r.least a (omega arith));
      smallest = r.smallest;
    }

-- the line search answers so
pub searched : (j : Job) (ws : List ℕ) (v : Layout) (i : ℕ) (t : Turn) (line : Line) → Searched j ws v i t line (search_line j ws v i t line)
unfolding search_line
searched j ws v i t line = searched_at j ws v i t line (places j i t line) refl
