-- What demand 2 says of strips (document 01, 'Strips'): pixels become strips and strips the same pixels again, by rows and by columns.
-- The theorem is `demand2_strips` in proofs/Demand2Strips. Assumes nothing.
use Rattle.std.specs.Prelude.{true, false, ◌⊎◌, ◌≡◌, ℕ, suc, ◌+◌, ◌<◌, ◌≤◌, length}
use mathlib.Core.List.{List, Memᴰ}
use Rattle.model.specs.Piece.{Shape, pixel, other, point, extent, Point, tight}
use Rattle.model.specs.Strip.{Strip, strips, strips_have, rebuilt}
use Rattle.model.specs.declared.Direction.{Direction}
use Rattle.model.specs.declared.Direction.TheVariants.{Horizontal, Vertical}
use Rattle.strip_laws.specs.Lists.{Pairwise}
use Rattle.strip_laws.specs.Boxes.{SameShape}

-- ── strips of a shape ──

-- a strip is not empty, lies in the box, all its points are pixels, and the point before it and the one after it are none: they
-- are no pixels of the set or lie outside the box
pub record MaximalStrip (d : Direction) (s : Shape) (t : Strip) : Type 0 where
  pub some : 0 < t.count
  pub line : t.line < extent (other d) s
  pub within : t.first + t.count ≤ extent d s
  pub pixels : (a : ℕ) → t.first ≤ a → a < t.first + t.count → pixel s (point d a t.line) ≡ true
  pub before : (a : ℕ) → suc a ≡ t.first → pixel s (point d a t.line) ≡ false
  pub after : pixel s (point d (t.first + t.count) t.line) ≡ false

-- a strip stands before another: in an earlier line, or in the same line and ending before the other begins, with a gap
abbrev pub StripBefore : Strip → Strip → Type 0
StripBefore t u = (t.line < u.line) ⊎ ((t.line ≡ u.line) × (t.first + t.count < u.first))

-- a shape of the box has just these strips
pub record HasStrips (d : Direction) (l w : ℕ) (ts : List Strip) (s : Shape) : Type 0 where
  pub columns : s.columns ≡ l
  pub rows : s.rows ≡ w
  pub are : strips d s ≡ ts

-- ── strips that lie in a box ──

-- a box's pixels along the direction, from its columns and rows
abbrev pub side : Direction → ℕ → ℕ → ℕ
side Horizontal l w = l
side Vertical l w = w

-- a strip is not empty and lies in the box
pub record StripFits (d : Direction) (l w : ℕ) (t : Strip) : Type 0 where
  pub some : 0 < t.count
  pub line : t.line < side (other d) l w
  pub within : t.first + t.count ≤ side d l w

-- each strip fits, and they are ordered by line, then first, with a gap in a line
pub record ValidStrips (d : Direction) (l w : ℕ) (ts : List Strip) : Type 0 where
  pub fits : (t : Strip) → Memᴰ t ts → StripFits d l w t
  pub ordered : Pairwise StripBefore ts

-- ── demand 2 ──

-- what demand 2 says of a shape and its strips in a direction
pub record StripsOfPixels (d : Direction) (s : Shape) : Type 0 where
  -- a point is in a strip exactly when it is a pixel, in the box and outside it
  pub exact : (p : Point) → strips_have d (strips d s) p ≡ pixel s p
  -- each strip is a maximal run of pixels in its line
  pub maximal : (t : Strip) → Memᴰ t (strips d s) → MaximalStrip d s t
  -- the strips are ordered by line, then first
  pub ordered : Pairwise StripBefore (strips d s)
  -- a shape with the same strips has the same pixels
  pub unique : (u : Shape) → strips d s ≡ strips d u → (p : Point) → pixel s p ≡ pixel u p
  -- a shape with the same box and pixels has the same strips
  pub fixed : (u : Shape) → SameShape s u → strips d s ≡ strips d u
  -- rebuilding gives the same box and the same pixels
  pub again : SameShape (rebuilt d s.columns s.rows (strips d s)) s
  -- and so the same strips, by rows and by columns
  pub strips_again : (e : Direction) → strips e (rebuilt d s.columns s.rows (strips d s)) ≡ strips e s
  -- a piece has a strip
  pub some : tight s ≡ true → 0 < length (strips d s)

-- what demand 2 says of a list of strips and a box
pub record PixelsOfStrips (d : Direction) (l w : ℕ) (ts : List Strip) : Type 0 where
  -- a shape of the box that has just these strips is the rebuilt one
  pub only : (s : Shape) → HasStrips d l w ts s → SameShape (rebuilt d l w ts) s
  -- where there is such a shape, the rebuilt one has just these strips
  pub has : (s : Shape) → HasStrips d l w ts s → HasStrips d l w ts (rebuilt d l w ts)
  -- there is one where the strips lie in the box and are ordered with a gap
  pub valid : ValidStrips d l w ts → strips d (rebuilt d l w ts) ≡ ts

-- demand 2: pixels become strips and strips the same pixels again, in both directions
pub record Demand2Strips : Type 0 where
  pub of_pixels : (d : Direction) (s : Shape) → StripsOfPixels d s
  pub of_strips : (d : Direction) (l w : ℕ) (ts : List Strip) → PixelsOfStrips d l w ts
