-- Document 01, 'Sheet and panels': points of a box, and what is alike along rows and columns. A point of the box is a pixel
-- exactly when the shape's own test says so; outside the box there is no pixel. Assumes nothing.
use Rattle.list_laws.proofs.Kit.{◌∙◌, ◌≡◌, ap₂, refl, sym, Bool, ◌&&◌, false, true, ◌<◌, ◌≤◌, ℕ, arith, ltb, lt-ltb, ltb-true}
use Rattle.model.specs.Piece.{Point, Shape, pixel, other, along, across, point, extent, cell}
use Rattle.model.specs.declared.Direction.{Direction}
use Rattle.model.specs.declared.Direction.TheVariants.{Horizontal, Vertical}
use Rattle.list_laws.proofs.Tests.{and_left, and_right, fails}
use Rattle.strip_laws.specs.Boxes.{InBox, SameShape}

-- a pixel lies in the box
pub pixel_in_box : (s : Shape) (p : Point) → pixel s p ≡ true → InBox s p
pixel_in_box s p e =
    let h : Bool = ltb p.x s.columns in
    let v : Bool = ltb p.y s.rows in
    let box : (h && v) ≡ true = and_left (h && v) (s.has p.x p.y) e in
    record { column = ltb-true p.x s.columns (and_left h v box); row = ltb-true p.y s.rows (and_right h v box) }

-- in the box the shape's own test tells the pixels
pub pixel_in : (s : Shape) (p : Point) → InBox s p → pixel s p ≡ s.has p.x p.y
pixel_in s p b = rw (lt-ltb p.x s.columns b.column, lt-ltb p.y s.rows b.row)

-- the coordinate along of a point is the one that it was made with
pub along_point : (d : Direction) (a c : ℕ) → along d (point d a c) ≡ a
along_point Horizontal a c = refl
along_point Vertical a c = refl

-- and so is the coordinate across
pub across_point : (d : Direction) (a c : ℕ) → across d (point d a c) ≡ c
across_point Horizontal a c = refl
across_point Vertical a c = refl

-- the point with the coordinates of p is p
pub point_again : (d : Direction) (p : Point) → point d (along d p) (across d p) ≡ p
point_again Horizontal p = refl
point_again Vertical p = refl

-- a point lies in the box when both of its coordinates do, along and across
pub box_from : (d : Direction) (s : Shape) (p : Point) → along d p < extent d s → across d p < extent (other d) s → InBox s p
box_from Horizontal s p a c = record { column = a; row = c }
box_from Vertical s p a c = record { column = c; row = a }

-- the coordinate along of a point in the box
pub box_along : (d : Direction) (s : Shape) (p : Point) → InBox s p → along d p < extent d s
box_along Horizontal s p b = b.column
box_along Vertical s p b = b.row

-- the coordinate across of a point in the box
pub box_across : (d : Direction) (s : Shape) (p : Point) → InBox s p → across d p < extent (other d) s
box_across Horizontal s p b = b.row
box_across Vertical s p b = b.column

-- in the box the line's own test tells the pixels
pub pixel_cell : (d : Direction) (s : Shape) (p : Point) → InBox s p → pixel s p ≡ cell d s (along d p) (across d p)
pixel_cell Horizontal s p b = pixel_in s p b
pixel_cell Vertical s p b = pixel_in s p b

-- the pixel at given coordinates inside the box
pub pixel_point : (d : Direction) (s : Shape) (a c : ℕ) → a < extent d s → c < extent (other d) s → pixel s (point d a c) ≡ cell d s a c
pixel_point d s a c h v =
    let e : along d (point d a c) ≡ a = along_point d a c in
    let f : across d (point d a c) ≡ c = across_point d a c in
    pixel_cell d s (point d a c) (box_from d s (point d a c) (omega arith) (omega arith)) ∙ ap₂ (cell d s) e f

-- past the line's end there is no pixel
pub no_pixel_past : (d : Direction) (s : Shape) (a c : ℕ) → extent d s ≤ a → pixel s (point d a c) ≡ false
no_pixel_past d s a c h =
    let e : along d (point d a c) ≡ a = along_point d a c in
    fails (pixel s (point d a c))
    (λ p. let b : along d (point d a c) < extent d s = box_along d s (point d a c) (pixel_in_box s (point d a c) p) in omega arith)

-- and the other way round
pub same_sym : {s u : Shape} → SameShape s u → SameShape u s
same_sym h = record { columns = sym h.columns; rows = sym h.rows; pixels = λ p. sym (h.pixels p) }

-- they have the same extent in either direction
pub same_extent : (d : Direction) (s u : Shape) → SameShape s u → extent d s ≡ extent d u
same_extent Horizontal s u h = h.columns
same_extent Vertical s u h = h.rows

-- shapes with the same box and the same pixels have the same cells inside the box
pub same_cell : (d : Direction) (s u : Shape) → SameShape s u → (a c : ℕ) → a < extent d s → c < extent (other d) s → cell d s a c ≡ cell d u a c
same_cell d s u h a c l m =
    let e : extent d s ≡ extent d u = same_extent d s u h in
    let f : extent (other d) s ≡ extent (other d) u = same_extent (other d) s u h in
    sym (pixel_point d s a c l m) ∙ h.pixels (point d a c) ∙ pixel_point d u a c (omega arith) (omega arith)
