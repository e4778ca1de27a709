-- Growing and turning can be exchanged: a shape that is grown by e and then turned has the pixels of the turned shape grown by e. A turn takes a
-- pixel's square of pixels to its right and above it to the same square of the turned pixel, since the box is longer by e as well. Assumes nothing.
use Rattle.list_laws.proofs.Kit.{◌∙◌, ◌≡◌, ap, refl, subst, sym, true, ◌+◌, ◌-◌, ◌<◌, ◌≤◌, ℕ, arith}
use Rattle.list_laws.proofs.Tests.{same_tests}
use Rattle.model.specs.Piece.{Point, Shape, pixel, turn_point, turned}
use Rattle.model.specs.declared.Turn.{Turn}
use Rattle.model.specs.declared.Turn.TheVariants.{Zero, Quarter, Half, ThreeQuarters}
use Rattle.strip_laws.specs.Boxes.{InBox, SameShape}
use Rattle.strip_laws.specs.Turns.{image}
use Rattle.strip_laws.proofs.Boxes.{pixel_in_box}
use Rattle.strip_laws.proofs.Turns.{image_pixel, turned_exactly}
use Rattle.overlap_laws.specs.Grown.{grown}
use Rattle.overlap_laws.proofs.Grown.{GrownFrom, grown_witness, grown_from}

-- q lies at most e columns to the right of r and at most e rows above it
record Beyond (e : ℕ) (r q : Point) : Type 0 where
  right : r.x ≤ q.x
  near_right : q.x ≤ r.x + e
  up : r.y ≤ q.y
  near_up : q.y ≤ r.y + e

-- a side of n places read from its other end, and the same of n + e places
mirrored : (e n r q : ℕ) → r < n → r ≤ q → q ≤ r + e → (n - 1 - r ≤ n + e - 1 - q) × (n + e - 1 - q ≤ n - 1 - r + e)
mirrored e n r q l h k = (omega arith, omega arith)

unmirrored : (e n r q : ℕ) → r < n → q < n + e → n - 1 - r ≤ n + e - 1 - q → n + e - 1 - q ≤ n - 1 - r + e → (r ≤ q) × (q ≤ r + e)
unmirrored e n r q l m h k = (omega arith, omega arith)

-- a turn of the box and of the grown box keeps that
turned_beyond : (t : Turn) (e : ℕ) (s : Shape) (r q : Point) → InBox s r → Beyond e r q → Beyond e (image t s r) (image t (grown e s) q)
unfolding turn_point
turned_beyond Zero e s r q b h = h
turned_beyond Quarter e s r q b h =
    let v = mirrored e s.rows r.y q.y b.row h.up h.near_up in
    record { right = v.0; near_right = v.1; up = h.right; near_up = h.near_right }
turned_beyond Half e s r q b h =
    let u = mirrored e s.columns r.x q.x b.column h.right h.near_right in
    let v = mirrored e s.rows r.y q.y b.row h.up h.near_up in
    record { right = u.0; near_right = u.1; up = v.0; near_up = v.1 }
turned_beyond ThreeQuarters e s r q b h =
    let u = mirrored e s.columns r.x q.x b.column h.right h.near_right in
    record { right = h.up; near_right = h.near_up; up = u.0; near_up = u.1 }

-- and no other point gets there
beyond_turned : (t : Turn) (e : ℕ) (s : Shape) (r q : Point) → InBox s r → InBox (grown e s) q → Beyond e (image t s r) (image t (grown e s) q)
    → Beyond e r q
unfolding turn_point
beyond_turned Zero e s r q b k h = h
beyond_turned Quarter e s r q b k h =
    let v = unmirrored e s.rows r.y q.y b.row k.row h.right h.near_right in
    record { right = h.up; near_right = h.near_up; up = v.0; near_up = v.1 }
beyond_turned Half e s r q b k h =
    let u = unmirrored e s.columns r.x q.x b.column k.column h.right h.near_right in
    let v = unmirrored e s.rows r.y q.y b.row k.row h.up h.near_up in
    record { right = u.0; near_right = u.1; up = v.0; near_up = v.1 }
beyond_turned ThreeQuarters e s r q b k h =
    let u = unmirrored e s.columns r.x q.x b.column k.column h.up h.near_up in
    record { right = u.0; near_right = u.1; up = h.right; near_up = h.near_right }

-- the boxes are alike
same_box : (t : Turn) (e : ℕ) (s : Shape)
    → ((turned t (grown e s)).columns ≡ (grown e (turned t s)).columns) × ((turned t (grown e s)).rows ≡ (grown e (turned t s)).rows)
same_box Zero e s = (refl, refl)
same_box Quarter e s = (refl, refl)
same_box Half e s = (refl, refl)
same_box ThreeQuarters e s = (refl, refl)

-- a grown shape, turned, is the turned shape, grown
pub turned_grown : (t : Turn) (e : ℕ) (s : Shape) → SameShape (turned t (grown e s)) (grown e (turned t s))
turned_grown t e s =
    record { columns = (same_box t e s).0; rows = (same_box t e s).1; pixels = λ p. same_tests _ _ (there p) (back p) }
  where
    there : (p : Point) → pixel (turned t (grown e s)) p ≡ true → pixel (grown e (turned t s)) p ≡ true
    there p h =
        let o = (turned_exactly t (grown e s)).onto p (pixel_in_box (turned t (grown e s)) p h) in
        let q : Point = o.from in
        let w : GrownFrom e s q =
        grown_witness e s q (sym (image_pixel t (grown e s) q o.in_box) ∙ ap (pixel (turned t (grown e s))) o.goes ∙ h) in
        let r : Point = w.from in
        let b : InBox s r = pixel_in_box s r w.is_pixel in
        let n : Beyond e (image t s r) p =
        subst (Beyond e (image t s r)) o.goes
        (turned_beyond t e s r q b (record { right = w.right; near_right = w.near_right; up = w.up; near_up = w.near_up })) in
        grown_from e (turned t s) p
        (record {
          from = image t s r;
          is_pixel = image_pixel t s r b ∙ w.is_pixel;
          right = n.right;
          near_right = n.near_right;
          up = n.up;
          near_up = n.near_up;
        })

    back : (p : Point) → pixel (grown e (turned t s)) p ≡ true → pixel (turned t (grown e s)) p ≡ true
    back p h =
        let i = pixel_in_box (grown e (turned t s)) p h in
        let x = i.column in
        let y = i.row in
        let c = same_box t e s in
        let o = (turned_exactly t (grown e s)).onto p (record { column = omega arith; row = omega arith }) in
        let q : Point = o.from in
        let w : GrownFrom e (turned t s) p = grown_witness e (turned t s) p h in
        let k = (turned_exactly t s).onto w.from (pixel_in_box (turned t s) w.from w.is_pixel) in
        let r : Point = k.from in
        let m : Beyond e (image t s r) (image t (grown e s) q) =
        subst (λ (v : Point). Beyond e v (image t (grown e s) q)) (sym k.goes)
        (subst (Beyond e w.from) (sym o.goes)
        (record { right = w.right; near_right = w.near_right; up = w.up; near_up = w.near_up })) in
        let n = beyond_turned t e s r q k.in_box o.in_box m in
        let e' : pixel (grown e s) q ≡ true =
        grown_from e s q
        (record {
          from = r;
          is_pixel = sym (image_pixel t s r k.in_box) ∙ ap (pixel (turned t s)) k.goes ∙ w.is_pixel;
          right = n.right;
          near_right = n.near_right;
          up = n.up;
          near_up = n.near_up;
        }) in
        ap (pixel (turned t (grown e s))) (sym o.goes) ∙ image_pixel t (grown e s) q o.in_box ∙ e'
