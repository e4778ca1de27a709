-- A search as a whole: its track, sums that are 0 at first, and what the least of them is at the end. Assumes nothing.
use Rattle.list_laws.proofs.Kit.{◌∙◌, ◌≡◌, ap, subst, sym, Option, none, some, List, ◌<◌, ◌≤◌, ℕ, arith, get_or, length, length-map}
use Rattle.list_laws.proofs.Kit.{replicate, take, dec_lt}
use Rattle.list_laws.proofs.Lists.{take_repeat}
use Rattle.search_lines.proofs.Keeping.{cleared_byte}
use Rattle.model.specs.Layout.{Job, Layout}
use Rattle.model.specs.Search.{Best, sum_at}
use Rattle.model.specs.Lent.{Lent, job_of}
use Rattle.model.specs.Buffer.{layout_of, placement_of}
use Rattle.descent_laws.specs.Claims.{ValidWeights}
use Rattle.search_laws.specs.BoundedSearch.{Serves, limit, below_bound}
use Rattle.search_laws.proofs.BoundedSearch.{Bounded, bounded_is, search_serves, whole_serves}
use Rattle.search_laws.proofs.PieceSum.{sum_at_lem}
use Rattle.descent_laws.specs.LentLayout.{Laid}
use Rattle.search_tracks.specs.declared.Mover.{Mover}
use Rattle.search_tracks.specs.declared.Track.{Track}
use Rattle.search_beside.specs.Ready.{OnTrack}
use Rattle.search_bounded.specs.Summing.{mover_places, Summed}
use Rattle.search_line_sums.proofs.Scans.{sum_of}

-- ── before the search ──

-- every one of the first sums of a cleared array is 0
pub cleared_zero : (k n a : ℕ) → k ≤ n → get_or {A = ℕ} (take k (replicate n 0)) a 0 ≡ 0
cleared_zero k n a l = ap (λ (xs : List ℕ). get_or xs a 0) (take_repeat k n 0 l) ∙ cleared_byte k a

-- sums that are 0, one for each place, are the sums of no piece
pub summed_none : (l : Lent) (ws : List ℕ) (v : Layout) (m : Mover) (t : Track) (bound : ℕ) (sums : List ℕ) → OnTrack l m t → length sums ≡ t.places
    → ((a : ℕ) → get_or sums a 0 ≡ 0) → Summed (job_of l) ws v m bound 0 sums
summed_none l ws v m t bound sums o n z =
    record {
      long = n ∙ ap (λ (x : Track). x.places) o.is;
      served = λ a b. subst (Serves bound 0) (sym (z a)) (whole_serves bound 0);
      small = λ a. (let e = z a in omega arith);
    }

-- ── after it ──

-- the limit is at most the bound
limit_most : (f : ℕ → ℕ) (n B : ℕ) (o : Option Best) → Bounded f n B o → limit B o ≤ B
limit_most f n B none h = omega arith
limit_most f n B (some b) h = let l = h.below in omega arith

-- what serves by the bound serves by a lower limit
serves_lower : (B L x y : ℕ) → L ≤ B → Serves B x y → Serves L x y
serves_lower B L x y l s = by_bound (dec_lt x B)
  where
    by_bound : Dec (x < B) → Serves L x y
    by_bound (yes b) = let e = s.exact b in record { exact = λ c. e; reaches = λ c. omega arith }
    by_bound (no h) = let r = s.reaches (omega arith) in record { exact = λ c. absurd (omega arith); reaches = λ c. omega arith }

-- the sums of all pieces are searched as the pair sums are
pub summed_found : (l : Lent) (ws : List ℕ) (layout : List (List ℕ)) (m : Mover) (bound : ℕ) (sums : List ℕ) → Laid l layout → ValidWeights (job_of l) ws
    → m.piece < l.size.count → Summed (job_of l) ws (layout_of layout) m bound l.size.count sums
    → below_bound (sum_of sums) (length sums) bound
    ≡ below_bound (sum_at (job_of l) ws (layout_of layout) m.piece m.turn m.line) (mover_places (job_of l) m) bound
unfolding job_of
summed_found l ws layout m bound sums laid w b s =
    let j : Job = job_of l in
    let v : Layout = layout_of layout in
    let f : ℕ → ℕ = sum_at j ws v m.piece m.turn m.line in
    let whole : length v ≡ j.size.count = length-map layout placement_of ∙ laid.whole in
    ap (λ (n : ℕ). below_bound (sum_of sums) n bound) s.long
    ∙ search_serves f (sum_of sums) (mover_places j m) bound
    (λ a h. serves_lower bound (limit bound (below_bound f a bound)) (f a) (get_or sums a 0) (limit_most f a bound (below_bound f a bound) (bounded_is f a bound))
    (subst (λ (x : ℕ). Serves bound x (get_or sums a 0)) (sym (sum_at_lem j ws v m.piece m.turn m.line a b whole w.one_per_pair)) (s.served a h)))
