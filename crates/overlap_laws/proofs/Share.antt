-- Document 01, 'No-fit rows and penalty': two placed pieces share a pixel exactly when their corners differ by the difference of
-- a pixel of each. `share` searches the box of the first piece for such a pixel, so where it says yes the pixel found and the
-- pixel of the second piece at the same place are the two, and where there are two the search meets the first of them.
-- Assumes nothing.
use Rattle.list_laws.proofs.Kit.{◌∙◌, ◌≡◌, refl, sym, ◌&&◌, true, ◌↔◌, ◌+◌, ◌-◌, ◌<◌, ◌≤◌, ℕ, add-zero, arith, leb, ltb, le-leb, leb-true, lt-ltb, ltb-true}
use Rattle.list_laws.proofs.Tests.{and_left, and_right, and_both, same_tests}
use Rattle.list_laws.proofs.Bounded.{any_witness, any_from}
pub use Rattle.strip_laws.proofs.Boxes.{along_point, across_point}
use Rattle.model.specs.Piece.{Point, Shape, pixel, covers, other, along, across, shift, extent}
use Rattle.model.specs.Overlap.{share}
use Rattle.model.specs.declared.Direction.{Direction}
use Rattle.model.specs.declared.Direction.TheVariants.{Horizontal, Vertical}
use Rattle.overlap_laws.specs.Overlap.{SharedPixel}

-- ── a pixel of a shape ──

-- what it is for a point to be a pixel: it lies in the box, and the set has it
pub record PixelOf (s : Shape) (p : Point) : Type 0 where
  pub column : p.x < s.columns
  pub row : p.y < s.rows
  pub present : s.has p.x p.y ≡ true

-- a pixel lies in the box and in the set
pub pixel_facts : (s : Shape) (p : Point) → pixel s p ≡ true → PixelOf s p
pixel_facts s p e =
    let box : (ltb p.x s.columns && ltb p.y s.rows) ≡ true = and_left _ (s.has p.x p.y) e in
    record {
      column = ltb-true _ _ (and_left _ (ltb p.y s.rows) box);
      row = ltb-true _ _ (and_right (ltb p.x s.columns) _ box);
      present = and_right (ltb p.x s.columns && ltb p.y s.rows) _ e;
    }

-- a point of the box that the set has is a pixel
pub pixel_from : (s : Shape) (p : Point) → PixelOf s p → pixel s p ≡ true
pixel_from s p f = and_both (and_both (lt-ltb _ _ f.column) (lt-ltb _ _ f.row)) f.present

-- a pixel lies in the box, along every direction
pub pixel_along : (d : Direction) (s : Shape) (p : Point) → pixel s p ≡ true → along d p < extent d s
pixel_along Horizontal s p e = (pixel_facts s p e).column
pixel_along Vertical s p e = (pixel_facts s p e).row

-- and across it
pub pixel_across : (d : Direction) (s : Shape) (p : Point) → pixel s p ≡ true → across d p < extent (other d) s
pixel_across Horizontal s p e = (pixel_facts s p e).row
pixel_across Vertical s p e = (pixel_facts s p e).column

-- ── the sheet's pixels that a placed shape covers ──

-- a pixel of s whose place on the sheet, for s at corner v, is r
pub record Covered (s : Shape) (v r : Point) : Type 0 where
  pub pixel_at : Point
  pub is_pixel : pixel s pixel_at ≡ true
  pub column : v.x + pixel_at.x ≡ r.x
  pub row : v.y + pixel_at.y ≡ r.y

-- a covered pixel of the sheet is the place of a pixel of the shape
pub covers_witness : (s : Shape) (v r : Point) → covers s v r ≡ true → Covered s v r
covers_witness s v r e =
    let q : Point = record { x = r.x - v.x; y = r.y - v.y } in
    let corner : (leb v.x r.x && leb v.y r.y) ≡ true = and_left _ (pixel s q) e in
    let h : v.x ≤ r.x = leb-true _ _ (and_left _ (leb v.y r.y) corner) in
    let k : v.y ≤ r.y = leb-true _ _ (and_right (leb v.x r.x) _ corner) in
    record { pixel_at = q; is_pixel = and_right (leb v.x r.x && leb v.y r.y) _ e; column = omega arith; row = omega arith }

-- the place of a pixel of the shape is covered
pub covers_from : (s : Shape) (v r : Point) → Covered s v r → covers s v r ≡ true
covers_from s v r c =
    let h : v.x ≤ r.x = omega (arith, c.column) in
    let k : v.y ≤ r.y = omega (arith, c.row) in
    let a : r.x - v.x ≡ c.pixel_at.x = omega (arith, c.column) in
    let b : r.y - v.y ≡ c.pixel_at.y = omega (arith, c.row) in
    and_both (and_both (le-leb _ _ h) (le-leb _ _ k)) (rw (a, b) c.is_pixel)

-- ── sharing a pixel ──

-- where the search says that they share a pixel, there are two such pixels
pub share_witness : (s : Shape) (u : Point) (t : Shape) (v : Point) → share s u t v ≡ true → SharedPixel s u t v
unfolding share
share_witness s u t v e =
    let in_row = any_witness s.rows _ e in
    let y = in_row.number in
    let in-column = any_witness s.columns _ in_row.passing in
    let x = in-column.number in
    let r : Point = record { x = u.x + x; y = u.y + y } in
    let c : Covered t v r = covers_witness t v r (and_right (s.has x y) _ in-column.passing) in
    record {
      p = record { x = x; y = y };
      q = c.pixel_at;
      of_first = pixel_from s _ (record { column = in-column.below; row = in_row.below; present = and_left (s.has x y) _ in-column.passing });
      of_second = c.is_pixel;
      column = sym c.column;
      row = sym c.row;
    }

-- where there are two such pixels, the search finds one
pub share_from : (s : Shape) (u : Point) (t : Shape) (v : Point) → SharedPixel s u t v → share s u t v ≡ true
unfolding share
share_from s u t v w =
    let f : PixelOf s w.p = pixel_facts s w.p w.of_first in
    let r : Point = record { x = u.x + w.p.x; y = u.y + w.p.y } in
    let c : covers t v r ≡ true = covers_from t v r (record { pixel_at = w.q; is_pixel = w.of_second; column = sym w.column; row = sym w.row }) in
    any_from s.rows w.p.y _ f.row (any_from s.columns w.p.x _ f.column (and_both f.present c))

-- they share a pixel exactly when d = p - q for some pixels p of s and q of t, where d is the corners' difference
pub share_exactly : (s : Shape) (u : Point) (t : Shape) (v : Point) → (share s u t v ≡ true) ↔ SharedPixel s u t v
share_exactly s u t v = (share_witness s u t v, share_from s u t v)

-- a pixel of the sheet that both cover
pub record CommonPixel (s : Shape) (u : Point) (t : Shape) (v : Point) : Type 0 where
  pub place : Point
  pub by_first : covers s u place ≡ true
  pub by_second : covers t v place ≡ true

-- where they share a pixel, both cover some pixel of the sheet
pub share_common : (s : Shape) (u : Point) (t : Shape) (v : Point) → share s u t v ≡ true → CommonPixel s u t v
share_common s u t v e =
    let w : SharedPixel s u t v = share_witness s u t v e in
    let r : Point = record { x = u.x + w.p.x; y = u.y + w.p.y } in
    record {
      place = r;
      by_first = covers_from s u r (record { pixel_at = w.p; is_pixel = w.of_first; column = refl; row = refl });
      by_second = covers_from t v r (record { pixel_at = w.q; is_pixel = w.of_second; column = sym w.column; row = sym w.row });
    }

-- where both cover some pixel of the sheet, they share a pixel
pub common_share : (s : Shape) (u : Point) (t : Shape) (v : Point) → CommonPixel s u t v → share s u t v ≡ true
common_share s u t v c =
    let a : Covered s u c.place = covers_witness s u c.place c.by_first in
    let b : Covered t v c.place = covers_witness t v c.place c.by_second in
    share_from s u t v
    (record {
      p = a.pixel_at;
      q = b.pixel_at;
      of_first = a.is_pixel;
      of_second = b.is_pixel;
      column = a.column ∙ sym b.column;
      row = a.row ∙ sym b.row;
    })

-- they share a pixel exactly when both cover some pixel of the sheet
pub share_covers : (s : Shape) (u : Point) (t : Shape) (v : Point) → (share s u t v ≡ true) ↔ CommonPixel s u t v
share_covers s u t v = (share_common s u t v, common_share s u t v)

-- ── which is called first, and where the corners are ──

-- the two pixels in the other order
shared_swap : (s : Shape) (u : Point) (t : Shape) (v : Point) → SharedPixel s u t v → SharedPixel t v s u
shared_swap s u t v w =
    record { p = w.q; q = w.p; of_first = w.of_second; of_second = w.of_first; column = sym w.column; row = sym w.row }

-- sharing a pixel does not depend on which of the two is called first
pub share_symmetric : (s : Shape) (u : Point) (t : Shape) (v : Point) → share s u t v ≡ share t v s u
share_symmetric s u t v =
    same_tests _ _
    (λ e. share_from t v s u (shared_swap s u t v (share_witness s u t v e)))
    (λ e. share_from s u t v (shared_swap t v s u (share_witness t v s u e)))

-- two pairs of corners have the same difference: v - u = v' - u'
pub record SameDifference (u v u' v' : Point) : Type 0 where
  pub column : u.x + v'.x ≡ u'.x + v.x
  pub row : u.y + v'.y ≡ u'.y + v.y

-- the same two pixels are shared at corners with the same difference
shared_moved : (s : Shape) (u : Point) (t : Shape) (v u' v' : Point) → SameDifference u v u' v' → SharedPixel s u t v → SharedPixel s u' t v'
shared_moved s u t v u' v' d w =
    record {
      p = w.p;
      q = w.q;
      of_first = w.of_first;
      of_second = w.of_second;
      column = omega (arith, d.column, w.column);
      row = omega (arith, d.row, w.row);
    }

-- sharing a pixel depends on the corners' difference only
pub share_difference : (s : Shape) (u : Point) (t : Shape) (v u' v' : Point) → SameDifference u v u' v' → share s u t v ≡ share s u' t v'
share_difference s u t v u' v' d =
    same_tests _ _
    (λ e. share_from s u' t v' (shared_moved s u t v u' v' d (share_witness s u t v e)))
    (λ e. share_from s u t v (shared_moved s u' t v' u v (record { column = sym d.column; row = sym d.row }) (share_witness s u' t v' e)))

-- ── over the direction ──

-- along a direction, the places of the two shared pixels are the same
pub shared_along : (d : Direction) {s : Shape} {u : Point} {t : Shape} {v : Point} (w : SharedPixel s u t v)
    → along d u + along d w.p ≡ along d v + along d w.q
shared_along Horizontal w = w.column
shared_along Vertical w = w.row

-- and so are their places across it
pub shared_across : (d : Direction) {s : Shape} {u : Point} {t : Shape} {v : Point} (w : SharedPixel s u t v)
    → across d u + across d w.p ≡ across d v + across d w.q
shared_across Horizontal w = w.row
shared_across Vertical w = w.column

-- pixels at the same place along a direction and across it are shared
pub shared_over : (d : Direction) (s : Shape) (u : Point) (t : Shape) (v p q : Point) → pixel s p ≡ true → pixel t q ≡ true
    → along d u + along d p ≡ along d v + along d q → across d u + across d p ≡ across d v + across d q → SharedPixel s u t v
shared_over Horizontal s u t v p q a b e f = record { p = p; q = q; of_first = a; of_second = b; column = e; row = f }
shared_over Vertical s u t v p q a b e f = record { p = p; q = q; of_first = a; of_second = b; column = f; row = e }

-- corners whose differences agree along a direction and across it have the same difference
pub same_difference : (d : Direction) (u v u' v' : Point) → along d u + along d v' ≡ along d u' + along d v
    → across d u + across d v' ≡ across d u' + across d v → SameDifference u v u' v'
same_difference Horizontal u v u' v' e f = record { column = e; row = f }
same_difference Vertical u v u' v' e f = record { column = f; row = e }

-- the coordinate across is that along the other direction
pub across_other : (d : Direction) (p : Point) → along (other d) p ≡ across d p
across_other Horizontal p = refl
across_other Vertical p = refl

-- a shift moves a point along the direction
pub along_shift : (d : Direction) (k : ℕ) (v : Point) → along d (shift d k v) ≡ along d v + k
along_shift d k v = along_point d (along d v + k) (across d v)

-- and leaves it across the direction
pub across_shift : (d : Direction) (k : ℕ) (v : Point) → across d (shift d k v) ≡ across d v
across_shift d k v = across_point d (along d v + k) (across d v)

-- a shift by nothing leaves a point where it is
pub shift_zero : (d : Direction) (v : Point) → shift d 0 v ≡ v
shift_zero Horizontal v = rw add-zero
shift_zero Vertical v = rw add-zero

-- moving both corners by the same amount changes nothing
pub share_together : (d : Direction) (k : ℕ) (s : Shape) (u : Point) (t : Shape) (v : Point)
    → share s (shift d k u) t (shift d k v) ≡ share s u t v
share_together d k s u t v =
    share_difference s (shift d k u) t (shift d k v) u v
    (same_difference d (shift d k u) (shift d k v) u v
    (omega (arith, along_shift d k u, along_shift d k v))
    (omega (arith, across_shift d k u, across_shift d k v)))

-- ── pixel sets ──

-- two shapes with the same pixels; their boxes may differ
abbrev pub SamePixels : Shape → Shape → Type 0
SamePixels s s' = (p : Point) → pixel s p ≡ pixel s' p

-- shared pixels are shared by any shapes with the same pixels
shared_pixels : (s : Shape) (u : Point) (t : Shape) (v : Point) (s' t' : Shape) → SamePixels s s' → SamePixels t t' → SharedPixel s u t v
    → SharedPixel s' u t' v
shared_pixels s u t v s' t' e f w =
    record {
      p = w.p;
      q = w.q;
      of_first = sym (e w.p) ∙ w.of_first;
      of_second = sym (f w.q) ∙ w.of_second;
      column = w.column;
      row = w.row;
    }

-- sharing a pixel depends on the pixel sets only
pub share_pixels : (s : Shape) (u : Point) (t : Shape) (v : Point) (s' t' : Shape) → SamePixels s s' → SamePixels t t'
    → share s u t v ≡ share s' u t' v
share_pixels s u t v s' t' e f =
    same_tests _ _
    (λ h. share_from s' u t' v (shared_pixels s u t v s' t' e f (share_witness s u t v h)))
    (λ h. share_from s u t v (shared_pixels s' u t' v s t (λ p. sym (e p)) (λ p. sym (f p)) (share_witness s' u t' v h)))
