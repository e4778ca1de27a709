-- Document 01, 'No-fit rows and penalty', and document 02, point 4: the no-fit row of s and t at a row offset lists the column offsets at which
-- they conflict, as maximal runs, ascending; no-fit columns likewise. Document 02, point 5: offsets are at most g from p - q for pixels p of s and q
-- of t, so with sides of at most 255 they lie between -(254 + g) and 254 + g, and for two full lines of 255 pixels both ends are offsets. With a gap
-- of at most 8 `no_fit`, which tries -262 to 262, leaves none out. That the runs list just the offsets that pass, are maximal and ascend is the law of
-- `runs`, carried from numbers biased by 262 to whole numbers. Assumes nothing.
use Rattle.list_laws.proofs.Kit.{◌≡◌, ap, refl, subst, sym, true, ⊎_elim, iff_trans, ◌↔◌, List, map, ◌+◌, ◌-◌, ◌<◌, ◌≤◌}
use Rattle.list_laws.proofs.Kit.{suc, ℕ, arith, ◌+ℤ◌, pos, negsuc, pred_ℤ, nat_abs}
use Rattle.list_laws.proofs.Kit.{sub_ℕ, ℤ, ◌<ℤ◌, ◌≤ℤ◌, leb, leb-true, leb-false, lt-ltb}
use Rattle.model.specs.Piece.{Point, Shape, side_bound, pixel, other, along, across, point, extent}
use Rattle.model.specs.Strip.{Run, runs}
use Rattle.model.specs.Overlap.{conflict, no_fit, no_fit_at, offset_bound, up, down, OffsetRun, unbiased}
use Rattle.model.specs.declared.Direction.{Direction}
use Rattle.model.specs.declared.Direction.TheVariants.{Horizontal, Vertical}
use Rattle.list_laws.proofs.Lists.{Source, map_source, map_member}
use Rattle.list_laws.proofs.Tests.{clash, decided}
use Rattle.strip_laws.proofs.Lists.{pairwise_map}
use Rattle.strip_laws.proofs.Runs.{MaximalRun, InRuns, RunBefore, runs_exactly, runs_maximal, runs_ascending}
use Rattle.overlap_laws.specs.NoFit.{offset_reach, Between, InOffsetRuns, MaximalOffsetRun, OffsetRunBefore, NoFitLine, ReachAttained}
use Rattle.overlap_laws.specs.PixelDepth.{PixelOffset}
use Rattle.overlap_laws.specs.Overlap.{NearPixels}
use Rattle.overlap_laws.proofs.Share.{pixel_along, pixel_across, along_point, across_point}
use Rattle.overlap_laws.proofs.Grown.{conflict_witness, conflict_from, near_along, near_across, near_over}
use Rattle.overlap_laws.proofs.Whole.{whole_eq, sub_whole, up_down, pred_whole, add_whole, add_signed, sub_up}
use Rattle.overlap_laws.proofs.Whole.{sub_down, le_whole, whole_le, lt_whole, whole_lt}

-- ── offsets ──

-- how far a difference goes up and down together is its size
size_parts : (z : ℤ) → nat_abs z ≡ up z + down z
size_parts (pos n) = omega arith
size_parts (negsuc n) = omega arith

-- the difference of numbers at most g apart is at most g, and of numbers whose difference is at most g neither is more than g above the other
size_within : (g m n : ℕ) → m ≤ n + g → n ≤ m + g → nat_abs (sub_ℕ m n) ≤ g
size_within g m n h k =
    ⊎_elim
    (λ e. omega (arith, size_parts (sub_ℕ m n), sub_whole m n, sub_down m n (leb-true m n e)))
    (λ e. let l = leb-false m n e in omega (arith, size_parts (sub_ℕ m n), sub_whole m n, sub_up m n (omega arith)))
    (decided (leb m n))

-- a - b and p - q differ by the difference of a + q and b + p
offset_by : (a b p q : ℕ) → sub_ℕ a b ≡ sub_ℕ p q +ℤ sub_ℕ (a + q) (b + p)
offset_by a b p q =
    whole_eq _ _
    (omega (arith, sub_whole a b, sub_whole p q, sub_whole (a + q) (b + p), add_signed (sub_ℕ p q) (sub_ℕ (a + q) (b + p))))

-- where they differ by at most g, neither of a + q and b + p is more than g above the other
offset_near : (g a b p q : ℕ) (z : ℤ) → nat_abs z ≤ g → sub_ℕ a b ≡ sub_ℕ p q +ℤ z → (a + q ≤ b + p + g) × (b + p ≤ a + q + g)
offset_near g a b p q z h e =
    let c = add_signed (sub_ℕ p q) z in
    let n = size_parts z in
    let l = sub_whole a b in
    let r = sub_whole p q in
    (omega (arith, ap up e, ap down e), omega (arith, ap up e, ap down e))

-- they conflict exactly when the corners' difference is an offset of two pixels, d = p - q, but for at most g
pub conflict_offset : (g : ℕ) (d : Direction) (s : Shape) (u : Point) (t : Shape) (v : Point)
    → (conflict g s u t v ≡ true) ↔ PixelOffset g d s t (sub_ℕ (along d v) (along d u)) (sub_ℕ (across d v) (across d u))
conflict_offset g d s u t v = (
  λ e.
      let w : NearPixels g s u t v = conflict_witness g s u t v e in
      let a = near_along d w in
      let c = near_across d w in
      record {
        p = w.p;
        q = w.q;
        of_first = w.of_first;
        of_second = w.of_second;
        along_by = sub_ℕ (along d v + along d w.q) (along d u + along d w.p);
        across_by = sub_ℕ (across d v + across d w.q) (across d u + across d w.p);
        along_small = size_within g _ _ a.1 a.0;
        across_small = size_within g _ _ c.1 c.0;
        along_is = offset_by (along d v) (along d u) (along d w.p) (along d w.q);
        across_is = offset_by (across d v) (across d u) (across d w.p) (across d w.q);
      },
  λ w.
      let a = offset_near g (along d v) (along d u) (along d w.p) (along d w.q) w.along_by w.along_small w.along_is in
      let c = offset_near g (across d v) (across d u) (across d w.p) (across d w.q) w.across_by w.across_small w.across_is in
      conflict_from g s u t v (near_over d g s u t v w.p w.q w.of_first w.of_second a.1 a.0 c.1 c.0),
)

-- the biased test passes at k exactly when k - offset_bound is an offset of two pixels
pub no_fit_at_lem : (g : ℕ) (d : Direction) (s t : Shape) (o : ℤ) (k : ℕ) → (no_fit_at g d s t o k ≡ true) ↔ PixelOffset g d s t (sub_ℕ k offset_bound) o
unfolding no_fit_at
no_fit_at_lem g d s t o k =
    rw (along_point d k (up o), along_point d offset_bound (down o), across_point d k (up o), across_point d offset_bound (down o), up_down o)
    at (conflict_offset g d s (point d offset_bound (down o)) t (point d k (up o)))

-- ── the range of offsets ──

-- an offset is a biased number that the search tries
pub record Biased (a : ℤ) : Type 0 where
  pub number : ℕ
  pub below : number < offset_bound + offset_bound + 1
  pub is : a ≡ sub_ℕ number offset_bound

-- with sides along the direction of at most 255 and a gap of at most 8, the search tries every offset
pub offset_biased : (g : ℕ) (d : Direction) (s t : Shape) → g ≤ 8 → extent d s ≤ 255 → extent d t ≤ 255 → (a o : ℤ) → PixelOffset g d s t a o
    → Biased a
offset_biased g d s t small h k a o w =
    let l : along d w.p < extent d s = pixel_along d s w.p w.of_first in
    let r : along d w.q < extent d t = pixel_along d t w.q w.of_second in
    let e = sub_whole (along d w.p) (along d w.q) in
    let c = add_signed (sub_ℕ (along d w.p) (along d w.q)) w.along_by in
    let n = size_parts w.along_by in
    let m : nat_abs w.along_by ≤ g = w.along_small in
    let b : ℕ = up a + offset_bound - down a in
    let f = sub_whole (up a + offset_bound - down a) offset_bound in
    record {
      number = b;
      below = omega (arith, ap up w.along_is, ap down w.along_is);
      is = whole_eq a (sub_ℕ b offset_bound) (omega (arith, ap up w.along_is, ap down w.along_is));
    }

-- the difference of two numbers below 255, but for at most g, lies between -254 and 254 but for g
reach_between : (g m n : ℕ) (a z : ℤ) → m < 255 → n < 255 → nat_abs z ≤ g → a ≡ sub_ℕ m n +ℤ z → Between (offset_reach g) a
reach_between g m n a z h k small is =
    let e = sub_whole m n in
    let c = add_signed (sub_ℕ m n) z in
    let parts = size_parts z in
    let f = sub_whole 0 (offset_reach g) in (
      whole_le (sub_ℕ 0 (offset_reach g)) a (omega (arith, ap up is, ap down is)),
      whole_le a (pos (offset_reach g)) (omega (arith, ap up is, ap down is)),
    )

-- with sides along the direction of at most 255, every offset lies there
offset_range : (g : ℕ) (d : Direction) (s t : Shape) → extent d s ≤ 255 → extent d t ≤ 255 → (a o : ℤ) → PixelOffset g d s t a o
    → Between (offset_reach g) a
offset_range g d s t h k a o w =
    let l : along d w.p < extent d s = pixel_along d s w.p w.of_first in
    let r : along d w.q < extent d t = pixel_along d t w.q w.of_second in
    reach_between g (along d w.p) (along d w.q) a w.along_by (omega arith) (omega arith) w.along_small w.along_is

-- and with sides across it of at most 255, so does the offset across
across_range : (g : ℕ) (d : Direction) (s t : Shape) → extent (other d) s ≤ 255 → extent (other d) t ≤ 255 → (a o : ℤ) → PixelOffset g d s t a o
    → Between (offset_reach g) o
across_range g d s t h k a o w =
    let l : across d w.p < extent (other d) s = pixel_across d s w.p w.of_first in
    let r : across d w.q < extent (other d) t = pixel_across d t w.q w.of_second in
    reach_between g (across d w.p) (across d w.q) o w.across_by (omega arith) (omega arith) w.across_small w.across_is

-- ── the runs of a no-fit line ──

-- where a run holds the biased number k, the unbiased run holds the offset of k
listed_biased : (k : ℕ) (rs : List Run) → InRuns k rs → InOffsetRuns (sub_ℕ k offset_bound) (map unbiased rs)
listed_biased k rs w =
    let r : Run = w.run in
    let l : r.first ≤ k = w.low in
    let h : k < r.first + r.count = w.high in
    let e = sub_whole r.first offset_bound in
    let f = sub_whole k offset_bound in
    let sum = add_whole (sub_ℕ r.first offset_bound) r.count in
    record {
      run = unbiased r;
      listed = map_member unbiased w.listed;
      low = whole_le (sub_ℕ r.first offset_bound) (sub_ℕ k offset_bound) (omega arith);
      high = whole_lt (sub_ℕ k offset_bound) (sub_ℕ r.first offset_bound +ℤ pos r.count) (omega arith);
    }

-- a biased number that lies in a run of the list and whose offset is a
record Unbiasing (a : ℤ) (rs : List Run) : Type 0 where
  number : ℕ
  is : a ≡ sub_ℕ number offset_bound
  inside : InRuns number rs

-- an offset in an unbiased run has its biased number in the run
biased_listed : (a : ℤ) (rs : List Run) → InOffsetRuns a (map unbiased rs) → Unbiasing a rs
biased_listed a rs w =
    let m : Source unbiased rs w.run = map_source unbiased rs w.listed in
    let r : Run = m.from in
    let l = le_whole (sub_ℕ r.first offset_bound) a (subst (λ (x : OffsetRun). x.first ≤ℤ a) m.image w.low) in
    let h = lt_whole a (sub_ℕ r.first offset_bound +ℤ pos r.count) (subst (λ (x : OffsetRun). a <ℤ (x.first +ℤ pos x.count)) m.image w.high) in
    let e = sub_whole r.first offset_bound in
    let sum = add_whole (sub_ℕ r.first offset_bound) r.count in
    let k : ℕ = up a + offset_bound - down a in
    let f = sub_whole (up a + offset_bound - down a) offset_bound in
    record {
      number = k;
      is = whole_eq a (sub_ℕ k offset_bound) (omega arith);
      inside = record { run = r; listed = m.listed; low = omega arith; high = omega arith };
    }

module _ (g : ℕ) (d : Direction) (s t : Shape) (o : ℤ) where
  -- a listed offset is the offset of two pixels, but for at most g
  pub no_fit_sound : (a : ℤ) → InOffsetRuns a (no_fit g d s t o) → PixelOffset g d s t a o
  unfolding no_fit
  no_fit_sound a w =
      let b : Unbiasing a (runs (no_fit_at g d s t o) (offset_bound + offset_bound + 1)) = biased_listed a _ w in
      rw b.is ((no_fit_at_lem g d s t o b.number).0 ((runs_exactly (no_fit_at g d s t o) _ b.number).0 b.inside).1)

  -- the offset of two pixels is listed, for sides along the direction of at most 255 and a gap of at most 8
  pub no_fit_complete : g ≤ 8 → extent d s ≤ 255 → extent d t ≤ 255 → (a : ℤ) → PixelOffset g d s t a o → InOffsetRuns a (no_fit g d s t o)
  unfolding no_fit
  no_fit_complete small h k a w =
      let b : Biased a = offset_biased g d s t small h k a o w in
      let e : no_fit_at g d s t o b.number ≡ true = (no_fit_at_lem g d s t o b.number).1 (rw b.is at w) in
      rw b.is (listed_biased b.number _ ((runs_exactly (no_fit_at g d s t o) _ b.number).1 (b.below, e)))

-- a maximal run of biased numbers is a maximal run of offsets
run_maximal : (g : ℕ) (d : Direction) (s t : Shape) (o : ℤ) → g ≤ 8 → extent d s ≤ 255 → extent d t ≤ 255 → (r : Run)
    → MaximalRun (no_fit_at g d s t o) (offset_bound + offset_bound + 1) r → MaximalOffsetRun g d s t o (unbiased r)
run_maximal g d s t o small h k r m =
    let first : ℤ = sub_ℕ r.first offset_bound in
    let e = sub_whole r.first offset_bound in
    record {
      some = m.some;
      before =
          λ w.
          let b : Biased (pred_ℤ first) = offset_biased g d s t small h k (pred_ℤ first) o w in
          let f = sub_whole b.number offset_bound in
          let sum = pred_whole first in
          let l : suc b.number ≡ r.first = omega (arith, ap up b.is, ap down b.is) in
          clash ((no_fit_at_lem g d s t o b.number).1 (rw b.is at w)) (m.before b.number l);
      after =
          λ w.
          let b : Biased (first +ℤ pos r.count) = offset_biased g d s t small h k (first +ℤ pos r.count) o w in
          let f = sub_whole b.number offset_bound in
          let sum = add_whole first r.count in
          let l : b.number ≡ r.first + r.count = omega (arith, ap up b.is, ap down b.is) in
          let below : b.number < offset_bound + offset_bound + 1 = b.below in
          clash ((no_fit_at_lem g d s t o b.number).1 (rw b.is at w)) (rw l (m.after (omega arith)));
    }

-- a run before another is before it as offsets
run_before : (r q : Run) → RunBefore r q → OffsetRunBefore (unbiased r) (unbiased q)
run_before r q h =
    let e = sub_whole r.first offset_bound in
    let f = sub_whole q.first offset_bound in
    let sum = add_whole (sub_ℕ r.first offset_bound) r.count in
    whole_lt (sub_ℕ r.first offset_bound +ℤ pos r.count) (sub_ℕ q.first offset_bound) (omega arith)

-- the no-fit row (horizontal) at a row offset, or the no-fit column (vertical) at a column offset, for boxes with sides of at most 255
-- and a gap of at most 8
pub no_fit_line : (g : ℕ) (d : Direction) (s t : Shape) → g ≤ 8 → ((e : Direction) → extent e s ≤ 255) → ((e : Direction) → extent e t ≤ 255) → (o : ℤ)
    → NoFitLine g d s t o (no_fit g d s t o)
unfolding no_fit
no_fit_line g d s t small h k o =
    let n : ℕ = offset_bound + offset_bound + 1 in
    record {
      exactly = λ a. (no_fit_sound g d s t o a, no_fit_complete g d s t o small (h d) (k d) a);
      in_range = λ a w. offset_range g d s t (h d) (k d) a o (no_fit_sound g d s t o a w);
      across_in_range = λ a w. across_range g d s t (h (other d)) (k (other d)) a o (no_fit_sound g d s t o a w);
      maximal =
          λ r m.
          let z : Source unbiased (runs (no_fit_at g d s t o) n) r = map_source unbiased (runs (no_fit_at g d s t o) n) m in
          subst (MaximalOffsetRun g d s t o) (sym z.image)
          (run_maximal g d s t o small (h d) (k d) z.from (runs_maximal (no_fit_at g d s t o) n z.from z.listed));
      ascending = pairwise_map OffsetRunBefore unbiased run_before (runs_ascending (no_fit_at g d s t o) n);
    }

-- two placed pieces conflict exactly when the corners' difference along the direction is listed at their difference across it
pub no_fit_conflict : (g : ℕ) (d : Direction) (s : Shape) (u : Point) (t : Shape) (v : Point) → g ≤ 8 → extent d s ≤ 255 → extent d t ≤ 255
    → (conflict g s u t v ≡ true) ↔ InOffsetRuns (sub_ℕ (along d v) (along d u)) (no_fit g d s t (sub_ℕ (across d v) (across d u)))
no_fit_conflict g d s u t v small h k =
    let a : ℤ = sub_ℕ (along d v) (along d u) in
    let o : ℤ = sub_ℕ (across d v) (across d u) in
    iff_trans (conflict_offset g d s u t v) (no_fit_complete g d s t o small h k a, no_fit_sound g d s t o a)

-- ── the range is sharp ──

-- a full line of 255 pixels along the direction
abbrev full_line : Direction → Shape
full_line Horizontal = record { columns = side_bound; rows = 1; has = λ x y. true }
full_line Vertical = record { columns = 1; rows = side_bound; has = λ x y. true }

-- its sides are at most 255
line_small : (d e : Direction) → extent e (full_line d) ≤ side_bound
line_small Horizontal Horizontal = omega arith
line_small Horizontal Vertical = omega arith
line_small Vertical Horizontal = omega arith
line_small Vertical Vertical = omega arith

-- its pixel by number
line_pixel : (d : Direction) (m : ℕ) → m < 255 → pixel (full_line d) (point d m 0) ≡ true
line_pixel Horizontal m h = rw (lt-ltb m side_bound h)
line_pixel Vertical m h = rw (lt-ltb m side_bound h)

-- two full lines at the offset 0 across have the difference of every two of their pixels as an offset, but for at most g
line_offset : (g : ℕ) (d : Direction) (m n : ℕ) → m < 255 → n < 255 → (a z : ℤ) → nat_abs z ≤ g → a ≡ sub_ℕ m n +ℤ z
    → PixelOffset g d (full_line d) (full_line d) a (pos 0)
line_offset g d m n h k a z small is =
    record {
      p = point d m 0;
      q = point d n 0;
      of_first = line_pixel d m h;
      of_second = line_pixel d n k;
      along_by = z;
      across_by = pos 0;
      along_small = small;
      across_small = omega arith;
      along_is = rw (along_point d m 0, along_point d n 0) is;
      across_is = rw (across_point d m 0, across_point d n 0) refl;
    }

-- for every gap and in both directions there are two pieces whose offsets reach as far as the range, up and down: the last pixel of a full line is
-- 254 and the gap beyond the first of another
pub offset_reached : (g : ℕ) (d : Direction) → g ≤ 8 → ReachAttained g d
offset_reached g d small =
    let listed = no_fit_complete g d (full_line d) (full_line d) (pos 0) small (line_small d d) (line_small d d) in
    let down_by = sub_whole 0 g in
    let whole = sub_whole 0 (offset_reach g) in
    let sum = add_signed (sub_ℕ 0 254) (sub_ℕ 0 g) in
    record {
      first = full_line d;
      second = full_line d;
      first_small = line_small d;
      second_small = line_small d;
      highest = listed _ (line_offset g d 254 0 (omega arith) (omega arith) _ (pos g) (omega arith) refl);
      lowest =
          listed _
          (line_offset g d 0 254 (omega arith) (omega arith) _ (sub_ℕ 0 g) (size_within g 0 g (omega arith) (omega arith)) (whole_eq _ _ (omega arith)));
    }
