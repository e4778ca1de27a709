-- Document 02, point 7, whole: what is said of a layout whose pieces are pushed left and down. The last pass slides nothing, so every piece is
-- pushed from the same layout, and no free piece slides in either direction: its corner is at 0 there, or one pixel further, which is inside,
-- it would conflict with another. The rest holds of every push. Assumes nothing.
use Rattle.list_laws.proofs.Kit.{◌∙◌, ◌≡◌, ap, sym, false, not, true, ◌≢◌, ⊎_elim, ◌<◌, ◌≤◌, suc, zero, ℕ, le_refl, arith, eqb, length, get_or-set_other}
use Rattle.list_laws.proofs.Kit.{get_or-set_same, eqb-false, not-false, not-true}
use Rattle.list_laws.proofs.Tests.{and_left, and_right}
use Rattle.list_laws.proofs.Numbers.{below_suc}
use Rattle.list_laws.proofs.Bounded.{any_witness}
use Rattle.model.specs.Piece.{along, corner}
use Rattle.model.specs.Layout.{Job, Layout, turned_piece, is_locked, inside, origin, place_of, with_place, shape_in, corner_in, pair_of, pair_conflicts, rightmost}
use Rattle.model.specs.Compact.{Compacted, at_rest, slid_to, conflicts_with_some, fits_at, slide_of, slide, corner_sum, left_then_down, push_piece, push_below}
use Rattle.model.specs.Compact.{pass, compact}
use Rattle.model.specs.declared.Turn.{Turn}
use Rattle.model.specs.declared.Direction.{Direction}
use Rattle.model.specs.declared.Direction.TheVariants.{Horizontal, Vertical}
use Rattle.model.specs.declared.Placement.{Placement}
use Rattle.overlap_laws.specs.Overlap.{NearPixels}
use Rattle.overlap_laws.proofs.Grown.{conflict_witness}
use Rattle.descent_laws.specs.Claims.{ValidLayout, NoConflict}
use Rattle.compact_laws.specs.Pushed.{Pushed}
use Rattle.compact_laws.specs.Claims.{Blocked, CompactClaims}
use Rattle.compact_laws.proofs.Slides.{moved_turn, moved_inside, slide_pushed, still_stuck}
use Rattle.compact_laws.proofs.Rest.{until_zero, rest_still, rest_end, below_pushed, pass_pushed, compact_pushed}

-- ── a layout at which nothing slides ──

-- a piece that slides neither left nor then down slides in neither direction
left_down_still : (j : Job) (i : ℕ) (v : Layout) → length v ≡ j.size.count → i < j.size.count → is_locked j i ≡ false
    → (left_then_down j i v).slid ≡ 0 → (d : Direction) → slide_of d j i v ≡ 0
unfolding left_then_down slide
left_down_still j i v size there free e Horizontal = omega arith
left_down_still j i v size there free e Vertical =
    let same : (slide Horizontal j i v).layout ≡ v = (slide_pushed Horizontal j i v size there free).still (omega arith) in
    let none : slide_of Vertical j i (slide Horizontal j i v).layout ≡ 0 = omega arith in
    ap (slide_of Vertical j i) (sym same) ∙ none

-- a free piece whose push slides nothing slides in neither direction
piece_still : (j : Job) (i : ℕ) (v : Layout) → length v ≡ j.size.count → i < j.size.count → is_locked j i ≡ false
    → (push_piece j i v).slid ≡ 0 → (d : Direction) → slide_of d j i v ≡ 0
unfolding push_piece
piece_still j i v size there free e =
    left_down_still j i v size there free (until_zero (left_then_down j i) (corner_sum v) v (rw (free, push_piece) at e))

-- where the pieces below n slide nothing, no push of one of them does
below_still : (j : Job) (n : ℕ) (v : Layout) → length v ≡ j.size.count → n ≤ j.size.count → (push_below j n v).slid ≡ 0
    → (i : ℕ) → i < n → (push_piece j i v).slid ≡ 0
unfolding push_below
below_still j zero v size l e i m = absurd (omega arith)
below_still j (suc n) v size l e i m =
    let same : (push_below j n v).layout ≡ v = (below_pushed j n v size (omega arith)).still (omega arith) in
    let none : (push_piece j n (push_below j n v).layout).slid ≡ 0 = omega arith in
    ⊎_elim (λ (s : i ≡ n). rw (s, ← same) none) (below_still j n v size (omega arith) (omega arith) i) (below_suc m)

-- where a pass slides nothing, no free piece slides in any direction
pub pass_still : (j : Job) (v : Layout) → length v ≡ j.size.count → (pass j v).slid ≡ 0
    → (d : Direction) (i : ℕ) → i < j.size.count → is_locked j i ≡ false → slide_of d j i v ≡ 0
pass_still j v size e d i there free =
    piece_still j i v size there free (below_still j j.size.count v size (le_refl _) e i there) d

-- ── one pixel further ──

-- a moved piece that conflicts with another has pixels too near to it
moved_near : (d : Direction) (j : Job) (v : Layout) (i a k : ℕ) → i < length v → k ≢ i
    → pair_conflicts j (with_place v i (slid_to d (place_of v i) a)) (pair_of i k) ≡ true
    → NearPixels j.size.gap (shape_in j v i) (corner (slid_to d (place_of v i) a)) (shape_in j v k) (corner_in v k)
unfolding pair_conflicts
moved_near d j v i a k there other e =
    let p : Placement = slid_to d (place_of v i) a in
    rw (get_or-set_same v i p origin there, get_or-set_other v i k p origin other, moved_turn d (place_of v i) a) at (conflict_witness _ _ _ _ _ e)

-- one that conflicts with some other piece is blocked by it
some_blocked : (d : Direction) (j : Job) (v : Layout) (i a : ℕ) → i < length v
    → conflicts_with_some j (with_place v i (slid_to d (place_of v i) a)) i ≡ true → Blocked d j v i a
unfolding conflicts_with_some
some_blocked d j v i a there e =
    let w = any_witness j.size.count _ e in
    let k : ℕ = w.number in
    let other : k ≢ i = eqb-false k i (not-true _ (and_left (not (eqb k i)) _ w.passing)) in
    record {
      by = k;
      there = w.below;
      is_other = other;
      conflicts = moved_near d j v i a k there other (and_right (not (eqb k i)) _ w.passing);
    }

-- a piece that does not fit at a smaller coordinate would conflict there
stuck_blocked : (d : Direction) (j : Job) (v : Layout) (i a : ℕ) → ValidLayout j v → i < j.size.count → a ≤ along d (corner_in v i)
    → fits_at d j v i a ≡ false → Blocked d j v i a
unfolding fits_at
stuck_blocked d j v i a h there l e =
    let stays : inside j i (slid_to d (place_of v i) a) ≡ true = moved_inside d j i (place_of v i) a (h.inside_sheet i there) l in
    let size = h.one_per_piece in
    some_blocked d j v i a (omega arith) (not-false _ (rw stays at e))

-- ── right ends ──

-- no right end grows, so the largest does not
ends_stay : (j : Job) (v : Layout) (c : Compacted) → Pushed j v c → (n : ℕ) → rightmost j c.layout n ≤ rightmost j v n
unfolding rightmost
ends_stay j v c p zero = omega arith
ends_stay j v c p (suc n) =
    let earlier = ends_stay j v c p n in
    let corners = p.left n in
    let boxes : (shape_in j c.layout n).columns ≡ (shape_in j v n).columns = ap (λ (t : Turn). (turned_piece j n t).columns) (p.turns n) in
    omega arith

-- ── what is said of the answer ──

-- a pass from there slides nothing
pub compact_still : (j : Job) (v : Layout) → length v ≡ j.size.count → (pass j (compact j v).layout).slid ≡ 0
unfolding compact
compact_still j v size = rest_end j j.size.count (pass j) (pass_pushed j) v size

-- so pushing again slides nothing
still_again : (j : Job) (v : Layout) → (pass j v).slid ≡ 0 → compact j v ≡ at_rest v
unfolding compact
still_again j v e = rest_still (pass j) v e

-- where the pieces of a layout that passes the check are pushed to
pub compact_claims : (j : Job) (v : Layout) → ValidLayout j v → NoConflict j v → CompactClaims j v (compact j v)
compact_claims j v valid apart =
    record {
      valid = in_all;
      apart = p.apart apart;
      turns_stay = λ i l. p.turns i;
      locked_stay = p.locked_stay;
      none_right = λ i l. p.left i;
      none_up = λ i l. p.down i;
      no_further = λ d i a there free e.
          stuck_blocked d j w i a in_all there (omega arith)
          (still_stuck d j i w a (pass_still j w in_all.one_per_piece rests d i there free) e);
      slid_is_fall = p.slid_is_fall;
      end_stays = ends_stay j v (compact j v) p j.size.count;
      again = still_again j w rests;
    }
  where
    w : Layout
    w = (compact j v).layout

    p : Pushed j v (compact j v)
    p = compact_pushed j v valid.one_per_piece

    in_all : ValidLayout j w
    in_all = p.valid valid

    rests : (pass j w).slid ≡ 0
    rests = compact_still j v valid.one_per_piece
