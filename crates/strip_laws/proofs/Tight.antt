-- Document 01, 'Sheet and panels': a tight box, one whose first and last row and column each hold a pixel. It has a row and a
-- column, and it is tight for any shape with the same box and pixels. Assumes nothing.
use Rattle.list_laws.proofs.Kit.{◌∙◌, ◌≡◌, ap, sym, Bool, ◌&&◌, true, ◌-◌, ◌<◌, ℕ, arith}
use Rattle.model.specs.Bounded.{any_below}
use Rattle.model.specs.Piece.{Shape, pixel, point, other, extent, cell, holds, tight}
use Rattle.model.specs.declared.Direction.{Direction}
use Rattle.model.specs.declared.Direction.TheVariants.{Horizontal, Vertical}
use Rattle.list_laws.proofs.Bounded.{Witness, any_witness, any_agree}
use Rattle.list_laws.proofs.Tests.{and_left, and_right, and_both}
use Rattle.strip_laws.specs.Boxes.{SameShape}
use Rattle.strip_laws.proofs.Boxes.{same_extent, same_cell, pixel_point}

-- the outer lines of a box each hold a pixel
pub record Edges (s : Shape) : Type 0 where
  pub bottom : holds Horizontal s 0 ≡ true
  pub top : holds Horizontal s (s.rows - 1) ≡ true
  pub left : holds Vertical s 0 ≡ true
  pub right : holds Vertical s (s.columns - 1) ≡ true

-- the outer lines of a tight box hold a pixel
pub tight_edges : (s : Shape) → tight s ≡ true → Edges s
unfolding tight
tight_edges s e =
    let bottom : Bool = holds Horizontal s 0 in
    let top : Bool = holds Horizontal s (s.rows - 1) in
    let left : Bool = holds Vertical s 0 in
    let right : Bool = holds Vertical s (s.columns - 1) in
    let h : (bottom && top) ≡ true = and_left (bottom && top) (left && right) e in
    let v : (left && right) ≡ true = and_right (bottom && top) (left && right) e in
    record {
      bottom = and_left bottom top h;
      top = and_right bottom top h;
      left = and_left left right v;
      right = and_right left right v;
    }

-- a box whose outer lines hold a pixel is tight
pub edges_tight : (s : Shape) → Edges s → tight s ≡ true
unfolding tight
edges_tight s e = and_both (and_both e.bottom e.top) (and_both e.left e.right)

-- a line that holds a pixel is not empty
line_side : (d : Direction) (s : Shape) (c : ℕ) → holds d s c ≡ true → 0 < extent d s
line_side d s c e =
    let w : Witness (extent d s) (λ a. cell d s a c) = any_witness (extent d s) (λ a. cell d s a c) e in
    let l : w.number < extent d s = w.below in
    omega arith

-- the first line of a tight box holds a pixel
pub tight_first : (d : Direction) (s : Shape) → tight s ≡ true → holds d s 0 ≡ true
tight_first Horizontal s e = (tight_edges s e).bottom
tight_first Vertical s e = (tight_edges s e).left

-- the last line of a tight box holds a pixel
pub tight_last : (d : Direction) (s : Shape) → tight s ≡ true → holds d s (extent (other d) s - 1) ≡ true
tight_last Horizontal s e = (tight_edges s e).top
tight_last Vertical s e = (tight_edges s e).right

-- a tight box has a row and a column
pub tight_side : (d : Direction) (s : Shape) → tight s ≡ true → 0 < extent d s
tight_side d s e = line_side d s 0 (tight_first d s e)

-- a pixel in a line of the box
pub record LinePixel (d : Direction) (s : Shape) (c : ℕ) : Type 0 where
  pub place : ℕ
  pub is_pixel : pixel s (point d place c) ≡ true

-- the first line of a tight box has a pixel
pub tight_pixel : (d : Direction) (s : Shape) → tight s ≡ true → LinePixel d s 0
tight_pixel d s e =
    let w : Witness (extent d s) (λ a. cell d s a 0) = any_witness (extent d s) (λ a. cell d s a 0) (tight_first d s e) in
    record { place = w.number; is_pixel = pixel_point d s w.number 0 w.below (tight_side (other d) s e) ∙ w.passing }

-- ── the same box and pixels ──

-- lines of the box hold a pixel alike
same_holds : (d : Direction) (s u : Shape) → SameShape s u → (c : ℕ) → c < extent (other d) s → holds d s c ≡ holds d u c
same_holds d s u h c l =
    any_agree (extent d s) (λ a. cell d s a c) (λ a. cell d u a c) (λ a k. same_cell d s u h a c k l)
    ∙ ap (λ n. any_below n (λ a. cell d u a c)) (same_extent d s u h)

-- a shape with the box and the pixels of a tight one is tight
pub same_tight : (s u : Shape) → SameShape s u → tight s ≡ true → tight u ≡ true
same_tight s u h e =
    let columns : 0 < s.columns = tight_side Horizontal s e in
    let rows : 0 < s.rows = tight_side Vertical s e in
    edges_tight u
    record {
      bottom = sym (same_holds Horizontal s u h 0 rows) ∙ tight_first Horizontal s e;
      top = ap (λ n. holds Horizontal u (n - 1)) (sym h.rows) ∙ sym (same_holds Horizontal s u h (s.rows - 1) (omega arith)) ∙ tight_last Horizontal s e;
      left = sym (same_holds Vertical s u h 0 columns) ∙ tight_first Vertical s e;
      right = ap (λ n. holds Vertical u (n - 1)) (sym h.columns) ∙ sym (same_holds Vertical s u h (s.columns - 1) (omega arith)) ∙ tight_last Vertical s e;
    }
