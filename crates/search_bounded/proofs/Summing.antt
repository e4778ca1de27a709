-- The sums along a line when one more piece is taken into account: it changes only the sums in its reach, and those need not be exact where
-- they are at the bound already. Assumes nothing.
use Rattle.list_laws.proofs.Kit.{◌∙◌, ◌≡◌, ap, refl, subst, sym, false, ◌⊎◌, inl, inr, ⊎_elim, List, ◌*◌, ◌+◌, ◌-◌, ◌<◌, ◌≤◌, ℕ, mul-zero, zero-mul}
use Rattle.list_laws.proofs.Kit.{arith, ltb, drop, get_or, length, length-drop, length-take, take, get_or-drop, get_or-take, ltb-false, dec_lt}
use Rattle.model.specs.Bounded.{any_below, sum_below}
use Rattle.model.specs.Piece.{line_direction}
use Rattle.model.specs.Layout.{Job, Layout}
use Rattle.model.specs.Lent.{Lent, job_of}
use Rattle.list_laws.proofs.Numbers.{below_or}
use Rattle.list_laws.proofs.Sums.{sum_step}
use Rattle.list_laws.proofs.Bounded.{any_none}
use Rattle.search_laws.specs.BoundedSearch.{Serves}
use Rattle.search_laws.proofs.BoundedSearch.{serves_skip, serves_stop}
use Rattle.search_laws.specs.PieceSum.{weight_between}
use Rattle.search_laws.proofs.PieceSum.{weight_self}
use Rattle.search_tracks.specs.declared.Mover.{Mover}
use Rattle.search_tracks.specs.declared.Track.{Track}
use Rattle.search_tracks.specs.declared.StandingPiece.{StandingPiece}
use Rattle.search_tracks.specs.declared.Reach.{Reach}
use Rattle.search_tracks.specs.Boxes.{MeetingReach}
use Rattle.search_beside.specs.Ready.{OnTrack, IsStanding}
use Rattle.search_beside.specs.Reading.{mover_penalty, Apart}
use Rattle.search_beside.proofs.Outside.{outside_zero}
use Rattle.search_bounded.specs.Summing.{part_at, mover_places, Summed, PartAdded}

-- what becomes of a sum x for a part f k: it stays, as the part is 0 or the bound is reached, or the part is added
abbrev Grown : ℕ → ℕ → ℕ → ℕ → Type 0
Grown bound part x y = ((y ≡ x) × (part ≡ 0)) ⊎ (((y ≡ x) × (bound ≤ x)) ⊎ (y ≡ x + part))

-- more is added to what serves
serves_more : (L x total part : ℕ) → Serves L x total → Serves L (x + part) (total + part)
serves_more L x total part s = by_limit (dec_lt x L)
  where
    by_limit : Dec (x < L) → Serves L (x + part) (total + part)
    by_limit (yes l) = let e = s.exact l in record { exact = λ b. omega arith; reaches = λ b. omega arith }
    by_limit (no h) = let e = s.reaches (omega arith) in record { exact = λ b. absurd (omega arith); reaches = λ b. omega arith }

grown_serves : (bound k x y : ℕ) (f : ℕ → ℕ) → Serves bound (sum_below k f) x → Grown bound (f k) x y → Serves bound (sum_below (k + 1) f) y
grown_serves bound k x y f s g =
    rw (sum_step k f)
    (⊎_elim (λ (h : (y ≡ x) × (f k ≡ 0)). rw h.0 (serves_skip bound (sum_below k f) x (f k) s h.1))
    (⊎_elim (λ (h : (y ≡ x) × (bound ≤ x)). rw h.0 (serves_stop bound (sum_below k f) x (sum_below k f + f k) s h.1 (omega arith)))
    (λ (h : y ≡ x + f k). rw h (serves_more bound (sum_below k f) x (f k) s))) g)

module _ (j : Job) (ws : List ℕ) (v : Layout) (m : Mover) (bound k : ℕ) (before : List ℕ) (s : Summed j ws v m bound k before) where
  -- the sums with piece k
  summed_next : (after : List ℕ) → length after ≡ length before
      → ((a : ℕ) → a < mover_places j m → Grown bound (part_at j ws v m a k) (get_or before a 0) (get_or after a 0))
      → ((a : ℕ) → get_or after a 0 ≤ get_or before a 0 + 16777216) → Summed j ws v m bound (k + 1) after
  summed_next after e g b =
      record {
        long = e ∙ s.long;
        served = λ a l. grown_serves bound k (get_or before a 0) (get_or after a 0) (part_at j ws v m a) (s.served a l) (g a l);
        small = λ a. let x = s.small a in let y = b a in omega arith;
      }

  -- the piece itself has no part
  pub summed_self : k ≡ m.piece → Summed j ws v m bound (k + 1) before
  summed_self e =
      summed_next before refl
      (λ a l. inl (
        refl,
        subst (λ (i : ℕ). weight_between j.size.count ws m.piece i * mover_penalty j v m a i ≡ 0) (sym e)
            (ap (λ (w : ℕ). w * mover_penalty j v m a m.piece) (weight_self j.size.count ws m.piece) ∙ zero-mul (mover_penalty j v m a m.piece)),
      ))
      (λ a. omega arith)

-- a part is 0 where the penalty is
part_zero : (j : Job) (ws : List ℕ) (v : Layout) (m : Mover) (a k : ℕ) → mover_penalty j v m a k ≡ 0 → part_at j ws v m a k ≡ 0
part_zero j ws v m a k e = ap (λ (p : ℕ). weight_between j.size.count ws m.piece k * p) e ∙ mul-zero (weight_between j.size.count ws m.piece k)

-- a piece without penalty has no part
pub summed_apart : (j : Job) (ws : List ℕ) (v : Layout) (m : Mover) (bound k : ℕ) (before : List ℕ) → Summed j ws v m bound k before → Apart j v m k
    → Summed j ws v m bound (k + 1) before
summed_apart j ws v m bound k before s h =
    summed_next j ws v m bound k before s before refl (λ a l. inl (refl, part_zero j ws v m a k (h a))) (λ a. omega arith)

module _ (l : Lent) (ws : List ℕ) (v : Layout) (m : Mover) (t : Track) (st : StandingPiece) (bound k : ℕ) (r : Reach) (before : List ℕ)
    (track : OnTrack l m t) (standing : IsStanding (job_of l) v (line_direction m.line) k st) (reached : MeetingReach t st r)
    (s : Summed (job_of l) ws v m bound k before)
  where
    -- by where a place lies
    by_reach : (A : Type 0) (a : ℕ) → ((a < r.low) ⊎ (r.high ≤ a) → A) → (r.low ≤ a → a < r.high → A) → A
    by_reach A a out within =
        ⊎_elim (λ (x : a < r.low). out (inl x))
        (λ (x : r.low ≤ a). ⊎_elim (λ (y : a < r.high). within x y) (λ (y : r.high ≤ a). out (inr y)) (below_or a r.high))
        (below_or a r.low)

    -- out of reach
    outside_part : (a : ℕ) → a < mover_places (job_of l) m → (a < r.low) ⊎ (r.high ≤ a) → part_at (job_of l) ws v m a k ≡ 0
    outside_part a b o =
        let p : t.places ≡ mover_places (job_of l) m = ap (λ (z : Track). z.places) track.is in
        part_zero (job_of l) ws v m a k (outside_zero l v m t st k track standing r reached a (omega arith) o)

    -- there is a sum for each place in reach
    pub sums_within : r.high ≤ length before
    sums_within =
        let p : t.places ≡ mover_places (job_of l) m = ap (λ (z : Track). z.places) track.is in
        let w = reached.within in
        let e = s.long in
        omega arith

    -- with room for its part
    pub sums_small : k < 64 → (a : ℕ) → get_or before a 0 ≤ 1073741824
    sums_small few a = let b = s.small a in omega arith

    -- a piece that reaches no place below the bound is left out
    pub summed_left : ((a : ℕ) → r.low ≤ a → a < r.high → bound ≤ get_or before a 0) → Summed (job_of l) ws v m bound (k + 1) before
    summed_left h =
        summed_next (job_of l) ws v m bound k before s before refl
        (λ a b. by_reach _ a (λ o. inl (refl, outside_part a b o)) (λ x y. inr (inl (refl, h a x y)))) (λ a. omega arith)

    -- by the search for one
    pub summed_unread : (n : ℕ) → n ≡ r.high - r.low → r.high ≤ length before
        → false ≡ any_below (length (take n (drop r.low before))) (λ a. ltb (get_or (take n (drop r.low before)) a 0) bound)
        → Summed (job_of l) ws v m bound (k + 1) before
    summed_unread n e w h = summed_left (λ a x y. at_bound a x y)
      where
        at_bound : (a : ℕ) → r.low ≤ a → a < r.high → bound ≤ get_or before a 0
        at_bound a x y =
            let part : List ℕ = take n (drop r.low before) in
            let long : length part ≡ n = simp (length-take, length-drop) (omega arith) in
            let i : ℕ = a - r.low in
            let here : r.low + i ≡ a = omega arith in
            let b : bound ≤ get_or part i 0 = ltb-false _ _ (any_none (length part) (λ a. ltb (get_or part a 0) bound) (sym h) i (omega arith)) in
            let same : get_or part i 0 ≡ get_or before a 0 =
            get_or-take n (drop r.low before) i 0 (omega arith) ∙ get_or-drop r.low before i 0 ∙ ap (λ (z : ℕ). get_or before z 0) here in
            omega arith

    -- another's part is added
    pub summed_added : (after : List ℕ) → ((a : ℕ) → part_at (job_of l) ws v m a k ≤ 16777216) → PartAdded (job_of l) ws v m k r before after
        → Summed (job_of l) ws v m bound (k + 1) after
    summed_added after small h =
        summed_next (job_of l) ws v m bound k before s after h.same
        (λ a b. by_reach _ a (λ o. inl (same a o, outside_part a b o)) (λ x y. inr (inr (h.reached a x y))))
        (λ a. by_reach (get_or after a 0 ≤ get_or before a 0 + 16777216) a (λ o. let e = same a o in omega arith)
        (λ x y. let e = h.reached a x y in let b = small a in omega arith))
      where
        same : (a : ℕ) → (a < r.low) ⊎ (r.high ≤ a) → get_or after a 0 ≡ get_or before a 0
        same a o = ⊎_elim (λ (x : a < r.low). h.below a x) (λ (x : r.high ≤ a). h.above a x) o
