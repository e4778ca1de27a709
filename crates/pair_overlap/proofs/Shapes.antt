-- What the definitions over lent stretches come to for the strips of pixel sets, in every direction: two strips are at most the gap apart exactly
-- when the placed sets conflict, and the bounded depth is the sets', cut off at the bound. Strips hold just the pixels of their set, so two strips
-- at most the gap apart have two pixels that are, and two such pixels each lie in a strip. Assumes nothing.
use Rattle.list_laws.proofs.Kit.{◌∙◌, ◌≡◌, ap, ap₂, refl, subst, subst₂, sym, Bool, ◌||◌, not, true, ⊎_elim, List, Memᴰ, Memᴰ-head}
use Rattle.list_laws.proofs.Kit.{Memᴰ-not_nil, Memᴰ-tail, [], ◌∷◌, map, ◌+◌, ◌-◌, ◌<◌, ◌≤◌, min, suc, zero, ℕ, eq-or-lt_of_le, le_of_suc-le-suc}
use Rattle.list_laws.proofs.Kit.{not-suc-le-zero, arith, get_or, length}
use Rattle.model.specs.Bounded.{first_from}
use Rattle.model.specs.Piece.{Point, Shape, along, across, point, shift, extent}
use Rattle.model.specs.Strip.{Strip, strips}
use Rattle.model.specs.Buffer.{strip_entry}
use Rattle.model.specs.Overlap.{share, conflict, apart_at, depth, conflict_depth}
use Rattle.model.specs.declared.Direction.{Direction}
use Rattle.list_laws.proofs.Firsts.{FirstBelow, first_found, first_unique}
use Rattle.list_laws.proofs.Numbers.{below_or}
use Rattle.list_laws.proofs.Lists.{member_at}
use Rattle.list_laws.proofs.Tests.{or_left, or_right, same_tests}
use Rattle.strip_laws.proofs.Lists.{pairwise_at}
use Rattle.strip_laws.specs.Strips.{MaximalStrip, StripBefore}
use Rattle.strip_laws.proofs.Strips.{InStrips, have_in, strips_exactly, strips_maximal, strips_ordered}
use Rattle.overlap_laws.specs.Overlap.{NearPixels}
use Rattle.overlap_laws.specs.Grown.{grown}
use Rattle.overlap_laws.proofs.Share.{share_symmetric, along_point, across_point, along_shift, across_shift}
use Rattle.overlap_laws.proofs.Depth.{depth_before, depth_apart}
use Rattle.overlap_laws.proofs.Grown.{conflict_witness, conflict_from, near_along, near_across, near_over, conflict_grown, depth_grown}
use Rattle.pair_overlap.specs.Meet.{strip_at, strip_begin, Ordered, shifted, meet, stretches_meet, clear_at, clear_below, depth_below}
pub use Rattle.pair_overlap.specs.Seen.{entries, seen}
use Rattle.pair_overlap.proofs.Walk.{Meeting, meet_facts, facts_meet, meet_stretches, StripsMeet, stretches_meet_lem}

-- ── strips by place ──

no_strip : Strip
no_strip = record { line = 0; first = 0; count = 0 }

-- the strip at a place of a lent stretch
strip_at_lem : (ts : List Strip) (i : ℕ) (z : Strip) → i < length (map strip_entry ts) → strip_at (map strip_entry ts) i ≡ get_or ts i z
strip_at_lem [] i z h = absurd (not-suc-le-zero h)
strip_at_lem (t ∷ ts) zero z h = refl
strip_at_lem (t ∷ ts) (suc i) z h = strip_at_lem ts i z (le_of_suc-le-suc h)

length_entries : (ts : List Strip) → length (map strip_entry ts) ≡ length ts
length_entries [] = refl
length_entries (t ∷ ts) = ap suc (length_entries ts)

-- it is one of the strips
pub at_member : (ts : List Strip) (i : ℕ) → i < length (map strip_entry ts) → Memᴰ (strip_at (map strip_entry ts) i) ts
at_member ts i h = rw (strip_at_lem ts i no_strip h) (member_at ts i no_strip (omega (arith, length_entries ts)))

-- a place of a strip of the list
pub record PlaceOf (t : Strip) (ts : List Strip) : Type 0 where
  pub number : ℕ
  pub below : number < length (map strip_entry ts)
  pub is : strip_at (map strip_entry ts) number ≡ t

pub place_of : (t : Strip) (ts : List Strip) → Memᴰ t ts → PlaceOf t ts
place_of t [] m = absurd (Memᴰ-not_nil m)
place_of t (x ∷ ts) (Memᴰ-head e) = record { number = 0; below = omega arith; is = sym e }
place_of t (x ∷ ts) (Memᴰ-tail m) =
    let w : PlaceOf t ts = place_of t ts m in
    let b = w.below in
    record { number = suc w.number; below = omega arith; is = w.is }

-- the strips of a set stand by line, then first
strips_order : (d : Direction) (s : Shape) → extent d s ≤ 255 → (i j : ℕ) → i ≤ j → j < length (entries d s)
    → strip_begin (strip_at (entries d s) i) ≤ strip_begin (strip_at (entries d s) j)
strips_order d s h i j l m =
    let ts : List Strip = strips d s in
    ⊎_elim
    (λ (e : i ≡ j). subst (λ (k : ℕ). strip_begin (strip_at (entries d s) i) ≤ strip_begin (strip_at (entries d s) k)) e (omega arith))
    (λ (lt : i < j).
    let a : MaximalStrip d s (strip_at (entries d s) i) = strips_maximal d s _ (at_member ts i (omega arith)) in
    let b : StripBefore (get_or ts i no_strip) (get_or ts j no_strip) = pairwise_at (strips_ordered d s) i j no_strip lt (omega (arith, length_entries ts)) in
    let c : StripBefore (strip_at (entries d s) i) (strip_at (entries d s) j) =
    subst₂ StripBefore (sym (strip_at_lem ts i no_strip (omega arith))) (sym (strip_at_lem ts j no_strip m)) b in
    let w = a.within in
    ⊎_elim
    (λ (f : (strip_at (entries d s) i).line < (strip_at (entries d s) j).line). omega arith)
    (λ (f : ((strip_at (entries d s) i).line ≡ (strip_at (entries d s) j).line)
    × ((strip_at (entries d s) i).first + (strip_at (entries d s) i).count < (strip_at (entries d s) j).first)).
    omega (arith, f.0, f.1))
    c)
    (eq-or-lt_of_le l)

-- and within 255 pixels
pub entries_ordered : (d : Direction) (s : Shape) → extent d s ≤ 255 → Ordered (entries d s)
entries_ordered d s h =
    record {
      order = strips_order d s h;
      low = λ i l. let w = (strips_maximal d s _ (at_member (strips d s) i l)).within in let p = (strips_maximal d s _ (at_member (strips d s) i l)).some in
          omega arith;
      short = λ i l. let w = (strips_maximal d s _ (at_member (strips d s) i l)).within in omega arith;
    }

-- ── pixels at most g apart ──

module _ (g : ℕ) (d : Direction) (s : Shape) (u : Point) (t : Shape) (v : Point) where
  -- two strips' pixels at most g apart
  strips_pixel : (p q : Strip) → MaximalStrip d s p → MaximalStrip d t q → Meeting g p (seen d u) q (seen d v)
      → (a b : ℕ) → p.first ≤ a → a < p.first + p.count → q.first ≤ b → b < q.first + q.count
      → along d u + a ≤ along d v + b + g → along d v + b ≤ along d u + a + g → NearPixels g s u t v
  strips_pixel p q m n w a b al ah bl bh e f =
      let above = w.above in
      let below = w.below in
      near_over d g s u t v (point d a p.line) (point d b q.line) (m.pixels a al ah) (n.pixels b bl bh)
      (omega (arith, along_point d a p.line, along_point d b q.line))
      (omega (arith, along_point d a p.line, along_point d b q.line))
      (omega (arith, across_point d a p.line, across_point d b q.line))
      (omega (arith, across_point d a p.line, across_point d b q.line))

  -- two strips at most g apart have two such pixels: the first pixel of the one that begins later, and of the other the pixel there or, where it
  -- ends before, its last
  meeting_near : (p q : Strip) → MaximalStrip d s p → MaximalStrip d t q → Meeting g p (seen d u) q (seen d v) → NearPixels g s u t v
  meeting_near p q m n w =
      let a = m.some in
      let b = n.some in
      let l = w.low in
      let h = w.high in
      ⊎_elim
      (λ (e : q.first + along d v < p.first + along d u).
      strips_pixel p q m n w p.first (min (p.first + along d u - along d v) (q.first + q.count - 1)) (omega arith) (omega arith) (omega arith)
      (omega arith) (omega arith) (omega arith))
      (λ (e : p.first + along d u ≤ q.first + along d v).
      strips_pixel p q m n w (min (q.first + along d v - along d u) (p.first + p.count - 1)) q.first (omega arith) (omega arith) (omega arith)
      (omega arith) (omega arith) (omega arith))
      (below_or (q.first + along d v) (p.first + along d u))

  stretches_near : stretches_meet g (entries d s) (seen d u) (entries d t) (seen d v) ≡ true → conflict g s u t v ≡ true
  stretches_near e =
      let m : StripsMeet g (entries d s) (seen d u) (entries d t) (seen d v) = stretches_meet_lem g (entries d s) (seen d u) (entries d t) (seen d v) e in
      conflict_from g s u t v
      (meeting_near _ _ (strips_maximal d s _ (at_member (strips d s) m.i m.i_below))
      (strips_maximal d t _ (at_member (strips d t) m.j m.j_below))
      (meet_facts g _ (seen d u) _ (seen d v) m.meets))

  near_stretches : conflict g s u t v ≡ true → stretches_meet g (entries d s) (seen d u) (entries d t) (seen d v) ≡ true
  near_stretches e =
      let w : NearPixels g s u t v = conflict_witness g s u t v e in
      let p : InStrips d (strips d s) w.p = have_in d (strips d s) w.p (strips_exactly d s w.p ∙ w.of_first) in
      let q : InStrips d (strips d t) w.q = have_in d (strips d t) w.q (strips_exactly d t w.q ∙ w.of_second) in
      let i : PlaceOf p.strip (strips d s) = place_of p.strip (strips d s) p.listed in
      let j : PlaceOf q.strip (strips d t) = place_of q.strip (strips d t) q.listed in
      let a = p.line in
      let b = q.line in
      let al = p.low in
      let ah = p.high in
      let bl = q.low in
      let bh = q.high in
      let f = near_along d w in
      let h = near_across d w in
      let m : meet g p.strip (seen d u) q.strip (seen d v) ≡ true =
      facts_meet g p.strip (seen d u) q.strip (seen d v)
      record { above = omega arith; below = omega arith; low = omega arith; high = omega arith } in
      meet_stretches g (entries d s) (seen d u) (entries d t) (seen d v) i.number j.number i.below j.below
      (subst₂ (λ (x y : Strip). meet g x (seen d u) y (seen d v) ≡ true) (sym i.is) (sym j.is) m)

  -- some strips of two placed sets are at most g apart exactly when the sets conflict
  pub entries_conflict : stretches_meet g (entries d s) (seen d u) (entries d t) (seen d v) ≡ conflict g s u t v
  entries_conflict = same_tests _ _ stretches_near near_stretches

-- ── the depth: that of the shapes grown by the gap ──

-- a shifted corner
pub seen_shift : (d : Direction) (k : ℕ) (v : Point) → shifted k (seen d v) ≡ seen d (shift d k v)
seen_shift d k v =
    let e : along d v + k ≡ along d (shift d k v) = sym (along_shift d k v) in
    let f : across d v ≡ across d (shift d k v) = sym (across_shift d k v) in
    λ i. record { along = e i; across = f i }

module _ (g : ℕ) (d : Direction) (s : Shape) (u : Point) (t : Shape) (v : Point) where
  -- the stretches are clear at k exactly when the grown shapes share no pixel once the second is shifted by k
  clear_share : (k : ℕ) → clear_at g (entries d s) (seen d u) (entries d t) (seen d v) k ≡ not (share (grown g s) u (grown g t) (shift d k v))
  clear_share k =
      ap not
      (ap (stretches_meet g (entries d s) (seen d u) (entries d t)) (seen_shift d k v)
      ∙ entries_conflict g d s u t (shift d k v)
      ∙ conflict_grown g s u t (shift d k v))

module _ (g : ℕ) (d : Direction) (s : Shape) (u : Point) (t : Shape) (v : Point) where
  -- apart at k exactly when one of the two is clear at k
  apart_clear : (k : ℕ) → apart_at d (grown g s) u (grown g t) v k
      ≡ (clear_at g (entries d s) (seen d u) (entries d t) (seen d v) k || clear_at g (entries d t) (seen d v) (entries d s) (seen d u) k)
  unfolding apart_at
  apart_clear k =
      sym
      (ap₂ ◌||◌ (clear_share g d s u t v k) (clear_share g d t v s u k ∙ ap not (share_symmetric (grown g t) v (grown g s) (shift d k u))))

  -- the lesser of the two least shifts is the first at which they are apart
  depth_first : (bound : ℕ)
      → FirstBelow (apart_at d (grown g s) u (grown g t) v) bound (depth_below g (entries d s) (seen d u) (entries d t) (seen d v) bound)
  unfolding clear_below
  depth_first bound =
      let f : ℕ → Bool = clear_at g (entries d s) (seen d u) (entries d t) (seen d v) in
      let g : ℕ → Bool = clear_at g (entries d t) (seen d v) (entries d s) (seen d u) in
      let p = first_from f 0 bound in
      let q = first_from g 0 bound in
      let a : FirstBelow f bound p = first_found f bound in
      let b : FirstBelow g bound q = first_found g bound in
      let l = a.within in
      record {
        within = omega arith;
        before = λ k m. apart_clear k ∙ ap₂ ◌||◌ (a.before k (omega arith)) (b.before k (omega arith));
        passing =
            λ m.
            apart_clear (min p q)
            ∙ ⊎_elim
            (λ (h : p < q). let e : min p q ≡ p = omega arith in or_left (f (min p q)) (g (min p q)) (rw e (a.passing (omega arith))))
            (λ (h : q ≤ p). let e : min p q ≡ q = omega arith in or_right (f (min p q)) (g (min p q)) (rw e (b.passing (omega arith))))
            (below_or p q);
      }

  -- the depth, cut off at the bound, is the first shift at which they are apart
  depth_cut_first : (bound : ℕ) → FirstBelow (apart_at d (grown g s) u (grown g t) v) bound (min (depth d (grown g s) u (grown g t) v) bound)
  unfolding apart_at
  depth_cut_first bound =
      let deep = depth d (grown g s) u (grown g t) v in
      record {
        within = omega arith;
        before = λ k m. let both = depth_before d (grown g s) u (grown g t) v k (omega arith) in ap₂ ◌||◌ (ap not both.0) (ap not both.1);
        passing = λ m. let e : min deep bound ≡ deep = omega arith in rw e (depth_apart d (grown g s) u (grown g t) v);
      }

  -- the bounded depth of the strips is the depth, cut off at the bound
  pub entries_depth : (bound : ℕ) → depth_below g (entries d s) (seen d u) (entries d t) (seen d v) bound ≡ min (conflict_depth g d s u t v) bound
  entries_depth bound =
      first_unique (apart_at d (grown g s) u (grown g t) v) bound _ (depth_first bound)
      ∙ sym (first_unique (apart_at d (grown g s) u (grown g t) v) bound _ (depth_cut_first bound))
      ∙ ap (λ (z : ℕ). min z bound) (sym (depth_grown g d s u t v))
