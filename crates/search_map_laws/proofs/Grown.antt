-- A map is made from the strips of the two pieces: the moved one's marks are grown by twice the gap, the standing one's strips are as they are. It is, word
-- for word, the map of both pieces grown by the gap: the boxes together are as long and as high, and a pixel is shared at the same cells.
-- Assumes nothing.
use Rattle.list_laws.proofs.Kit.{◌∙◌, ◌≡◌, ap, ap₂, subst, sym, true, List, ◌*◌, ◌+◌, ◌-◌, ◌/◌, ◌<◌, ◌≤◌, ℕ, add-zero, arith, length}
use Rattle.list_laws.proofs.Tests.{same_tests}
use Rattle.model.specs.Piece.{Point, Shape, pixel, point, turned}
use Rattle.model.specs.Overlap.{share}
use Rattle.model.specs.declared.Direction.TheVariants.{Horizontal}
use Rattle.model.specs.declared.Turn.{Turn}
use Rattle.strip_laws.specs.Boxes.{SameShape}
use Rattle.strip_laws.proofs.Boxes.{same_sym}
use Rattle.overlap_laws.specs.Grown.{grown}
use Rattle.overlap_laws.proofs.Share.{share_pixels}
use Rattle.overlap_laws.proofs.Grown.{grown_witness, grown_from, share_balanced}
use Rattle.overlap_laws.proofs.GrownTurns.{turned_grown}
use Rattle.bit_laws.specs.Bit.{bit_in}
use Rattle.search_maps.specs.declared.Sides.{Sides}
use Rattle.search_maps.specs.Map.{sides_of, map_words, cell_place, shared_at, MapOf}

-- ── shapes alike ──

-- a pixel of a grown shape is one of any shape alike, grown
grown_on : (e : ℕ) (s u : Shape) → SameShape s u → (p : Point) → pixel (grown e s) p ≡ true → pixel (grown e u) p ≡ true
grown_on e s u h p is =
    let w = grown_witness e s p is in
    grown_from e u p
    (record {
      from = w.from;
      is_pixel = sym (h.pixels w.from) ∙ w.is_pixel;
      right = w.right;
      near_right = w.near_right;
      up = w.up;
      near_up = w.near_up;
    })

-- shapes alike are alike when they are grown
pub grown_same : (e : ℕ) (s u : Shape) → SameShape s u → SameShape (grown e s) (grown e u)
grown_same e s u h =
    record {
      columns = ap (λ (n : ℕ). n + e) h.columns;
      rows = ap (λ (n : ℕ). n + e) h.rows;
      pixels = λ p. same_tests _ _ (grown_on e s u h p) (grown_on e u s (same_sym h) p);
    }

-- the sides of two boxes along rows
abbrev in_rows : ℕ → ℕ → ℕ → ℕ → Sides
in_rows a b c e = record { moved_along = a; moved_across = b; standing_along = c; standing_across = e }

-- shapes alike have the same sides
sides_same : (s t s' t' : Shape) → SameShape s s' → SameShape t t' → sides_of Horizontal s t ≡ sides_of Horizontal s' t'
sides_same s t s' t' h k =
    ap₂ (λ (a b : ℕ). in_rows a b t.columns t.rows) h.columns h.rows ∙ ap₂ (in_rows s'.columns s'.rows) k.columns k.rows

-- grown by nothing, a shape has the sides that it has
pub sides_none : (s t : Shape) → sides_of Horizontal s (grown 0 t) ≡ sides_of Horizontal s t
sides_none s t = ap₂ (in_rows s.columns s.rows) (add-zero t.columns) (add-zero t.rows)

-- shapes alike share pixels at the same cells
shared_same : (s t s' t' : Shape) → SameShape s s' → SameShape t t' → (X Y : ℕ) → shared_at Horizontal s t X Y ≡ shared_at Horizontal s' t' X Y
shared_same s t s' t' h k X Y =
    share_pixels s (point Horizontal X Y) t (point Horizontal (s.columns - 1) (s.rows - 1)) s' t' h.pixels k.pixels
    ∙ ap₂ (λ (a b : ℕ). share s' (point Horizontal X Y) t' (point Horizontal (a - 1) (b - 1))) h.columns h.rows

-- ── one map for both ──

-- shapes whose boxes together are as long and as high, and that share pixels at the same cells
module _ (s t s' t' : Shape) (long : s.columns + t.columns ≡ s'.columns + t'.columns) (high : s.rows + t.rows ≡ s'.rows + t'.rows)
    (alike : (X Y : ℕ) → shared_at Horizontal s t X Y ≡ shared_at Horizontal s' t' X Y)
  where
    words_alike : map_words (sides_of Horizontal s t) ≡ map_words (sides_of Horizontal s' t')
    words_alike = ap₂ (λ (w h : ℕ). (h + 1) * w / 64 + 3) long high

    cell_alike : (X Y : ℕ) → cell_place (sides_of Horizontal s t) X Y ≡ cell_place (sides_of Horizontal s' t') X Y
    cell_alike X Y = ap (λ (w : ℕ). (Y + 1) * w + X) long

    map_alike : (ws : List ℕ) → MapOf Horizontal s t ws → MapOf Horizontal s' t' ws
    map_alike ws m =
        record {
          room = subst (λ (n : ℕ). n ≤ length ws) words_alike m.room;
          cells = λ X Y x y. ap (bit_in ws) (sym (cell_alike X Y)) ∙ m.cells X Y (omega arith) (omega arith) ∙ alike X Y;
          only = λ p l b.
              let c = m.only p (subst (λ (n : ℕ). p < n * 64) (sym words_alike) l) b in
              record { X = c.X; Y = c.Y; column = omega (arith, c.column); row = omega (arith, c.row); place = c.place ∙ cell_alike c.X c.Y };
        }

-- the moved shape grown by 2g, or both by g: the cells tell the same
balanced : (g : ℕ) (s t : Shape) (X Y : ℕ) → shared_at Horizontal (grown (g + g) s) t X Y ≡ shared_at Horizontal (grown g s) (grown g t) X Y
balanced g s t X Y =
    let a : s.columns + (g + g) - 1 ≡ s.columns + g - 1 + g = omega arith in
    let b : s.rows + (g + g) - 1 ≡ s.rows + g - 1 + g = omega arith in
    ap₂ (λ (x y : ℕ). share (grown (g + g) s) (point Horizontal X Y) t (point Horizontal x y)) a b
    ∙ share_balanced g s (point Horizontal X Y) t (point Horizontal (s.columns + g - 1) (s.rows + g - 1))

module _ (g : ℕ) (a b : Shape) (t u : Turn) where
  -- the two pieces in their turns, the first grown by 2g
  abbrev wide : Shape
  wide = grown (g + g) (turned t a)

  abbrev plain : Shape
  plain = turned u b

  -- both grown by g, in their turns
  abbrev first : Shape
  first = turned t (grown g a)

  abbrev second : Shape
  second = turned u (grown g b)

  -- the sides of these are the turned boxes' and the gap
  pub sides_grown : sides_of Horizontal (grown g (turned t a)) (grown g (turned u b)) ≡ sides_of Horizontal first second
  sides_grown = sides_same _ _ first second (same_sym (turned_grown t g a)) (same_sym (turned_grown u g b))

  long_alike : wide.columns + plain.columns ≡ first.columns + second.columns
  long_alike = let x = (turned_grown t g a).columns in let y = (turned_grown u g b).columns in omega arith

  high_alike : wide.rows + plain.rows ≡ first.rows + second.rows
  high_alike = let x = (turned_grown t g a).rows in let y = (turned_grown u g b).rows in omega arith

  shared_alike : (X Y : ℕ) → shared_at Horizontal wide plain X Y ≡ shared_at Horizontal first second X Y
  shared_alike X Y =
      balanced g (turned t a) (turned u b) X Y
      ∙ shared_same _ _ first second (same_sym (turned_grown t g a)) (same_sym (turned_grown u g b)) X Y

  -- so their maps are one
  pub words_grown : map_words (sides_of Horizontal wide plain) ≡ map_words (sides_of Horizontal first second)
  words_grown = words_alike wide plain first second long_alike high_alike shared_alike

  pub map_grown : (ws : List ℕ) → MapOf Horizontal wide plain ws → MapOf Horizontal first second ws
  map_grown ws m = map_alike wide plain first second long_alike high_alike shared_alike ws m
