-- The line search as a call: the strips and the store that it begins with, and its answer. Assumes nothing.
use Rattle.list_laws.proofs.Kit.{◌∙◌, ◌≡◌, ap, refl, sym, true, Option, none, some, List, [], ◌∷◌, ◌<◌, ◌≤◌, suc, zero, ℕ}
use Rattle.list_laws.proofs.Kit.{arith, eqb, length-map, length-replicate, replicate, ne_eqb}
use Rattle.model.specs.Layout.{Job, Layout}
use Rattle.model.specs.Search.{Best, places, sum_at, least, search_line}
use Rattle.model.specs.Refusal.{cause, unless, empty_line}
use Rattle.model.specs.Lent.{Lent, job_of, lent_well}
use Rattle.model.specs.Buffer.{layout_of, placement_of}
use Rattle.model.specs.Calls.{best_place}
use Rattle.model.specs.declared.Direction.TheVariants.{Horizontal}
use Rattle.model.specs.declared.Line.{Line}
use Rattle.model.specs.declared.Turn.{Turn}
use Rattle.job_laws.proofs.Checked.{facts}
use Rattle.text_laws.proofs.Outcomes.{unless_given}
use Rattle.descent_laws.specs.Claims.{ValidWeights}
use Rattle.descent_laws.proofs.Search.{least_is}
use Rattle.call_laws.proofs.Jobs.{lent_boxes_small}
use Rattle.search_laws.specs.BoundedSearch.{below_bound}
use Rattle.search_laws.proofs.LineSearch.{search_unbounded}
use Rattle.search_shapes.proofs.Jobs.{places_few}
use Rattle.descent_laws.specs.LentLayout.{Laid}
use Rattle.search_shapes.specs.Shapes.{Shapes}
use Rattle.search_lines.specs.Kept.{MapsReady}
use Rattle.search_lines.proofs.Keeping.{none_kept, cleared_byte}
use Rattle.search_beside.specs.Ready.{LinesReady}
use Rattle.search_line_sums.specs.Answers.{found_answer}
use Rattle.search_calls.specs.Answers.{InReach, best_answer, search_answer}

-- ── the store ──

-- a fresh store that has room for every line keeps none
pub store_ready : (l : Lent) (strips : List (List ℕ)) (starts maps : List ℕ) → lent_well l ≡ true → Shapes Horizontal (job_of l) strips starts
    → MapsReady (job_of l) maps
    → LinesReady l (record { size = l.size; slots = 1 }) strips starts (replicate 548 0) maps
store_ready l strips starts maps w shapes ready =
    let n = length-replicate {A = ℕ} 548 0 in
    record {
      well = w;
      shapes = shapes;
      fit = record { room = omega arith; fits = omega arith };
      kept =
          none_kept (job_of l) (record { size = l.size; slots = 1 }) (replicate 548 0) maps ready (omega arith) (omega arith)
          (cleared_byte 548);
    }

-- ── the answer ──

-- a search with the largest bound is the line search
pub search_whole : (l : Lent) (ws : List ℕ) (layout : List (List ℕ)) (i : ℕ) (t : Turn) (line : Line) → Laid l layout → ValidWeights (job_of l) ws
    → i < l.size.count
    → below_bound (sum_at (job_of l) ws (layout_of layout) i t line) (places (job_of l) i t line) 4294967295
    ≡ search_line (job_of l) ws (layout_of layout) i t line
unfolding job_of
search_whole l ws layout i t line laid w b =
    sym (search_unbounded (job_of l) ws (layout_of layout) i t line 4294967295 (facts l laid.well).few_pieces (lent_boxes_small l laid.well) w b
    (length-map layout placement_of ∙ laid.whole) (omega arith))

-- the least of so many places, where there is one
abbrev least_of : (ℕ → ℕ) → ℕ → Option Best
least_of f n = elim n [ zero ↦ none | suc n ↦ some (least f n) ]

-- nothing is found exactly where the line has no place
best_of_lem : (line : Line) (f : ℕ → ℕ) (n : ℕ)
    → best_answer line (found_answer (least_of f n)) ≡ search_answer line (unless (cause empty_line (eqb n 0) ∷ []) (best_place (least_of f n)))
unfolding unless
best_of_lem line f zero = refl
best_of_lem line f (suc n) =
    sym (ap (search_answer line) (unless_given (cause empty_line (eqb (suc n) 0) ∷ []) (least f n) (ne_eqb (suc n) 0 (λ e. omega arith), tt)))

pub best_is_lem : (j : Job) (ws : List ℕ) (v : Layout) (i : ℕ) (t : Turn) (line : Line)
    → best_answer line (found_answer (search_line j ws v i t line))
    ≡ search_answer line (unless (cause empty_line (eqb (places j i t line) 0) ∷ []) (best_place (search_line j ws v i t line)))
unfolding search_line
best_is_lem j ws v i t line = best_of_lem line (sum_at j ws v i t line) (places j i t line)

-- what is found is one of the line's places
reach_of_lem : (f : ℕ → ℕ) (n : ℕ) → n ≤ 4097 → InReach (found_answer (least_of f n))
reach_of_lem f zero h = tt
reach_of_lem f (suc n) h = let b = (least_is f n).there in omega arith

pub best_in_reach : (l : Lent) → lent_well l ≡ true → (ws : List ℕ) (v : Layout) (i : ℕ) (t : Turn) (line : Line)
    → InReach (found_answer (search_line (job_of l) ws v i t line))
unfolding search_line
best_in_reach l w ws v i t line = reach_of_lem (sum_at (job_of l) ws v i t line) (places (job_of l) i t line) (places_few l w i t line)
