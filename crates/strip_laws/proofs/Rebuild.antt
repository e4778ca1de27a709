-- Document 01, 'Strips': rebuilding gives the one pixel set that has the given strips. The strips of a shape hold just its pixels,
-- so the set rebuilt from them, in the same box, has the same pixels and with them the same strips. Assumes nothing.
use Rattle.list_laws.proofs.Kit.{◌∙◌, ◌≡◌, refl, subst₃, sym, true, List, ◌<◌, ℕ, length}
use Rattle.model.specs.Piece.{Point, Shape, pixel, tight, point}
use Rattle.model.specs.Strip.{Strip, strips, strips_have, rebuilt}
use Rattle.model.specs.declared.Direction.{Direction}
use Rattle.list_laws.proofs.Lists.{member_length}
use Rattle.list_laws.proofs.Tests.{same_tests}
use Rattle.strip_laws.specs.Strips.{HasStrips}
use Rattle.strip_laws.specs.Boxes.{InBox, SameShape}
use Rattle.strip_laws.proofs.Boxes.{pixel_in_box, pixel_in, same_sym}
use Rattle.strip_laws.proofs.Tight.{LinePixel, tight_pixel, same_tight}
use Rattle.strip_laws.proofs.Strips.{InStrips, have_in, strips_exactly, strips_agree}

-- the columns of the rebuilt set are the given ones
pub rebuilt_columns : (d : Direction) (l w : ℕ) (ts : List Strip) → (rebuilt d l w ts).columns ≡ l
unfolding rebuilt
rebuilt_columns d l w ts = refl

-- and so are its rows
pub rebuilt_rows : (d : Direction) (l w : ℕ) (ts : List Strip) → (rebuilt d l w ts).rows ≡ w
unfolding rebuilt
rebuilt_rows d l w ts = refl

-- in the box the pixels of the rebuilt set are the points of the strips
pub rebuilt_pixel : (d : Direction) (l w : ℕ) (ts : List Strip) (p : Point) → p.x < l → p.y < w
    → pixel (rebuilt d l w ts) p ≡ strips_have d ts p
unfolding rebuilt
rebuilt_pixel d l w ts p a b = pixel_in (rebuilt d l w ts) p record { column = a; row = b }

-- the set rebuilt from a shape's strips is the shape again
pub rebuilt_same : (d : Direction) (s : Shape) → SameShape (rebuilt d s.columns s.rows (strips d s)) s
unfolding rebuilt
rebuilt_same d s =
    let u : Shape = rebuilt d s.columns s.rows (strips d s) in
    record {
      columns = refl;
      rows = refl;
      pixels = λ p.
          same_tests (pixel u p) (pixel s p)
          (λ e.
          let b : InBox u p = pixel_in_box u p e in
          sym (strips_exactly d s p) ∙ sym (rebuilt_pixel d s.columns s.rows (strips d s) p b.column b.row) ∙ e)
          (λ e.
          let b : InBox s p = pixel_in_box s p e in
          rebuilt_pixel d s.columns s.rows (strips d s) p b.column b.row ∙ strips_exactly d s p ∙ e);
    }

-- the set rebuilt from a shape's strips in one direction has the shape's strips in either direction
pub rebuilt_strips : (d e : Direction) (s : Shape) → strips e (rebuilt d s.columns s.rows (strips d s)) ≡ strips e s
rebuilt_strips d e s = strips_agree e (rebuilt d s.columns s.rows (strips d s)) s (rebuilt_same d s)

-- ── strips of some shape of a box ──

-- a shape of the box that has the strips is the rebuilt one
pub rebuilt_only : (d : Direction) (l w : ℕ) (ts : List Strip) (s : Shape) → HasStrips d l w ts s → SameShape (rebuilt d l w ts) s
rebuilt_only d l w ts s h = subst₃ (λ l w ts. SameShape (rebuilt d l w ts) s) h.columns h.rows h.are (rebuilt_same d s)

-- where a shape of the box has the strips, the rebuilt one has them
pub rebuilt_has : (d : Direction) (l w : ℕ) (ts : List Strip) (s : Shape) → HasStrips d l w ts s → HasStrips d l w ts (rebuilt d l w ts)
rebuilt_has d l w ts s h =
    record {
      columns = rebuilt_columns d l w ts;
      rows = rebuilt_rows d l w ts;
      are = strips_agree d (rebuilt d l w ts) s (rebuilt_only d l w ts s h) ∙ h.are;
    }

-- where a tight shape of the box has the strips, the rebuilt one is tight
pub rebuilt_tight : (d : Direction) (l w : ℕ) (ts : List Strip) (s : Shape) → HasStrips d l w ts s → tight s ≡ true
    → tight (rebuilt d l w ts) ≡ true
rebuilt_tight d l w ts s h = same_tight s (rebuilt d l w ts) (same_sym (rebuilt_only d l w ts s h))

-- ── a piece has a strip ──

-- the strips of a tight shape are not none
pub strips_some : (d : Direction) (s : Shape) → tight s ≡ true → 0 < length (strips d s)
strips_some d s e =
    let w : LinePixel d s 0 = tight_pixel d s e in
    let p : Point = point d w.place 0 in
    let t : InStrips d (strips d s) p = have_in d (strips d s) p (strips_exactly d s p ∙ w.is_pixel) in
    member_length t.listed
