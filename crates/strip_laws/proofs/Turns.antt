-- Document 01, 'Sheet and panels': a turned shape is the image of the shape under the counterclockwise turn of its points, and
-- nothing more. `turned` asks the shape's test at the point that the turn takes there; at a point of the box the two
-- subtractions undo each other, so the tests agree. Assumes nothing.
use Rattle.list_laws.proofs.Kit.{◌∙◌, ◌≡◌, ap₂, refl, sym, Bool, false, true, ◌-◌, ◌<◌, ℕ, arith}
use Rattle.model.specs.Bounded.{any_below}
use Rattle.model.specs.Piece.{Point, Shape, pixel, tight, turn_point, turned}
use Rattle.model.specs.declared.Turn.{Turn}
use Rattle.model.specs.declared.Turn.TheVariants.{Zero, Quarter, Half, ThreeQuarters}
use Rattle.list_laws.proofs.Bounded.{Witness, any_witness, any_from}
use Rattle.strip_laws.specs.Turns.{image, TurnedExactly}
use Rattle.strip_laws.specs.Boxes.{InBox}
use Rattle.strip_laws.proofs.Boxes.{pixel_in}
use Rattle.strip_laws.proofs.Tight.{Edges, tight_edges, edges_tight}

-- the point of the shape's box that the turn takes to q
abbrev pub source : Turn → Shape → Point → Point
source Zero s q = q
source Quarter s q = record { x = q.y; y = s.rows - 1 - q.x }
source Half s q = record { x = s.columns - 1 - q.x; y = s.rows - 1 - q.y }
source ThreeQuarters s q = record { x = s.columns - 1 - q.y; y = q.x }

-- a turn takes the box into the turned box
pub image_in_box : (t : Turn) (s : Shape) (p : Point) → InBox s p → InBox (turned t s) (image t s p)
unfolding turn_point
image_in_box Zero s p b = b
image_in_box Quarter s p b = record { column = omega arith; row = omega arith }
image_in_box Half s p b = record { column = omega arith; row = omega arith }
image_in_box ThreeQuarters s p b = record { column = omega arith; row = omega arith }

-- a turned set has the image of a point exactly when the set has the point
pub image_has : (t : Turn) (s : Shape) (p : Point) → InBox s p
    → (turned t s).has (image t s p).x (image t s p).y ≡ s.has p.x p.y
unfolding turn_point
image_has Zero s p b = refl
image_has Quarter s p b = ap₂ s.has refl (omega arith)
image_has Half s p b = ap₂ s.has (omega arith) (omega arith)
image_has ThreeQuarters s p b = ap₂ s.has (omega arith) refl

-- every point of the turned box comes from a point of the box
source_in_box : (t : Turn) (s : Shape) (q : Point) → InBox (turned t s) q → InBox s (source t s q)
source_in_box Zero s q b = b
source_in_box Quarter s q b = let h = b.column in record { column = b.row; row = omega arith }
source_in_box Half s q b = let h = b.column in let v = b.row in record { column = omega arith; row = omega arith }
source_in_box ThreeQuarters s q b = let v = b.row in record { column = omega arith; row = b.column }

-- and the turn takes that point there
image_source : (t : Turn) (s : Shape) (q : Point) → InBox (turned t s) q → image t s (source t s q) ≡ q
unfolding turn_point
image_source Zero s q b = refl
image_source Quarter s q b =
    let e : s.rows - 1 - (s.rows - 1 - q.x) ≡ q.x = let h = b.column in omega arith in λ i. record { x = e i; y = q.y }
image_source Half s q b =
    let e : s.columns - 1 - (s.columns - 1 - q.x) ≡ q.x = let h = b.column in omega arith in
    let f : s.rows - 1 - (s.rows - 1 - q.y) ≡ q.y = let v = b.row in omega arith in
    λ i. record { x = e i; y = f i }
image_source ThreeQuarters s q b =
    let f : s.columns - 1 - (s.columns - 1 - q.y) ≡ q.y = let v = b.row in omega arith in λ i. record { x = q.x; y = f i }

-- a point of the box and its image are pixels alike
pub image_pixel : (t : Turn) (s : Shape) (p : Point) → InBox s p → pixel (turned t s) (image t s p) ≡ pixel s p
image_pixel t s p b = pixel_in (turned t s) (image t s p) (image_in_box t s p b) ∙ image_has t s p b ∙ sym (pixel_in s p b)

-- a turned shape is exactly the image of the shape
pub turned_exactly : (t : Turn) (s : Shape) → TurnedExactly t s
turned_exactly t s =
    record {
      inside = image_in_box t s;
      pixels = λ p b. (λ e. image_pixel t s p b ∙ e, λ e. sym (image_pixel t s p b) ∙ e);
      onto = λ q b. record { from = source t s q; in_box = source_in_box t s q b; goes = image_source t s q b };
    }

-- ── boxes of turned shapes ──

-- a half turn keeps the box, a quarter turn either way swaps its sides
abbrev pub swaps : Turn → Bool
swaps Zero = false
swaps Quarter = true
swaps Half = false
swaps ThreeQuarters = true

-- the sides of a turned box
pub turned_box : (t : Turn) (s : Shape)
    → ((turned t s).columns ≡ elim (swaps t) [ true ↦ s.rows | false ↦ s.columns ])
    × ((turned t s).rows ≡ elim (swaps t) [ true ↦ s.columns | false ↦ s.rows ])
turned_box Zero s = (refl, refl)
turned_box Quarter s = (refl, refl)
turned_box Half s = (refl, refl)
turned_box ThreeQuarters s = (refl, refl)

-- a line whose numbers are moved around still holds a pixel
moved : (n : ℕ) (f g : ℕ → Bool) (to : ℕ → ℕ) → ((k : ℕ) → k < n → to k < n) → ((k : ℕ) → k < n → g (to k) ≡ f k)
    → any_below n f ≡ true → any_below n g ≡ true
moved n f g to l h e =
    let w : Witness n f = any_witness n f e in
    any_from n (to w.number) g (l w.number w.below) (h w.number w.below ∙ w.passing)

-- a line kept in its order holds a pixel if the line does
kept : (n : ℕ) (f g : ℕ → Bool) → ((k : ℕ) → k < n → g k ≡ f k) → any_below n f ≡ true → any_below n g ≡ true
kept n f g h = moved n f g (λ k. k) (λ k l. l) h

-- a line read backwards holds a pixel if the line does
backwards : (n : ℕ) (f g : ℕ → Bool) → ((k : ℕ) → k < n → g (n - 1 - k) ≡ f k) → any_below n f ≡ true → any_below n g ≡ true
backwards n f g h = moved n f g (λ k. n - 1 - k) (λ k l. omega arith) h

-- a turn takes the outer lines to the outer lines
turned_edges : (t : Turn) (s : Shape) → Edges s → Edges (turned t s)
turned_edges Zero s e = e
turned_edges Quarter s e =
    record {
      bottom = backwards s.rows _ _ (λ k l. ap₂ s.has refl (omega arith)) e.left;
      top = backwards s.rows _ _ (λ k l. ap₂ s.has refl (omega arith)) e.right;
      left = kept s.columns _ _ (λ k l. ap₂ s.has refl (omega arith)) e.top;
      right = kept s.columns _ _ (λ k l. ap₂ s.has refl (omega arith)) e.bottom;
    }
turned_edges Half s e =
    record {
      bottom = backwards s.columns _ _ (λ k l. ap₂ s.has (omega arith) (omega arith)) e.top;
      top = backwards s.columns _ _ (λ k l. ap₂ s.has (omega arith) (omega arith)) e.bottom;
      left = backwards s.rows _ _ (λ k l. ap₂ s.has (omega arith) (omega arith)) e.right;
      right = backwards s.rows _ _ (λ k l. ap₂ s.has (omega arith) (omega arith)) e.left;
    }
turned_edges ThreeQuarters s e =
    record {
      bottom = kept s.rows _ _ (λ k l. ap₂ s.has (omega arith) refl) e.right;
      top = kept s.rows _ _ (λ k l. ap₂ s.has (omega arith) refl) e.left;
      left = backwards s.columns _ _ (λ k l. ap₂ s.has (omega arith) refl) e.bottom;
      right = backwards s.columns _ _ (λ k l. ap₂ s.has (omega arith) refl) e.top;
    }

-- a turned tight shape is tight
pub turned_tight : (t : Turn) (s : Shape) → tight s ≡ true → tight (turned t s) ≡ true
turned_tight t s e = edges_tight (turned t s) (turned_edges t s (tight_edges s e))
