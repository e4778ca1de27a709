-- A made map is the map of the two shapes: a strip's pixel of the standing shape and a mark of the moved one turned by half add up to a cell
-- exactly where the two pixels meet. Assumes nothing.
use Rattle.list_laws.proofs.Kit.{◌∙◌, ◌≡◌, ap, ap₂, refl, sym, subst, subst₃, true, ◌⊎◌, inl, inr, List, ◌*◌, ◌+◌, ◌-◌, ◌/◌, ◌%◌, ◌<◌, ◌≤◌, ℕ, arith}
use Rattle.list_laws.proofs.Kit.{length, mul-le-mul_right}
use Rattle.list_laws.proofs.Tests.{clash, same_tests}
use lib.Arith.{digits_div, digits_mod}
use Rattle.model.specs.Piece.{Point, Shape, pixel, other, point, along, across, extent, turned, turn_point}
use Rattle.model.specs.Strip.{Strip, strips}
use Rattle.model.specs.declared.Direction.{Direction}
use Rattle.model.specs.declared.Direction.TheVariants.{Horizontal, Vertical}
use Rattle.model.specs.declared.Turn.TheVariants.{Half}
use Rattle.strip_laws.proofs.Boxes.{along_point, across_point, box_along, box_across, pixel_in_box, point_again}
use Rattle.strip_laws.proofs.Strips.{InStrips, have_in, strips_exactly, strips_maximal}
use Rattle.strip_laws.proofs.Turns.{image_pixel}
use Rattle.overlap_laws.specs.Grown.{grown}
use Rattle.overlap_laws.specs.Overlap.{SharedPixel}
use Rattle.overlap_laws.proofs.Grown.{grown_witness, grown_from}
use Rattle.overlap_laws.proofs.GrownTurns.{turned_grown}
use Rattle.overlap_laws.proofs.Share.{share_witness, share_from, shared_along, shared_across, shared_over}
use Rattle.pair_overlap.specs.Meet.{strip_at}
use Rattle.pair_overlap.specs.Seen.{entries}
use Rattle.pair_overlap.proofs.Shapes.{at_member, PlaceOf, place_of}
use Rattle.bit_laws.specs.Bit.{bit_in}
use Rattle.bit_laws.proofs.Strings.{bit_none}
use Rattle.search_words.specs.Words.{Cleared}
use Rattle.search_levels.specs.Levels.{level_of}
use Rattle.search_marks.specs.Marks.{Made}
use Rattle.search_marks.proofs.Sums.{Sum, made_only, made_set}
use Rattle.search_maps.specs.declared.Sides.{Sides}
use Rattle.search_maps.specs.Map.{sides_of, columns_of, rows_of, row_width, mark_words, map_words, cell_place, shared_at, MapOf}
use Rattle.search_maps.specs.Making.{StripPoint, GrownPoint, MarksOf, LevelsMade, MapFilled}

-- ── points of strips are pixels ──

-- a strip has pixels only
pub strip_pixel : (d : Direction) (m : Shape) (a c : ℕ) → StripPoint (entries d m) a c → pixel m (point d a c) ≡ true
strip_pixel d m a c h =
    let k = strips_maximal d m _ (at_member (strips d m) h.number h.below) in
    ap (λ (n : ℕ). pixel m (point d a n)) (sym h.line) ∙ k.pixels a h.low h.high

-- and every pixel is in a strip
pub pixel_strip : (d : Direction) (m : Shape) (a c : ℕ) → pixel m (point d a c) ≡ true → StripPoint (entries d m) a c
pixel_strip d m a c e =
    let p : InStrips d (strips d m) (point d a c) = have_in d (strips d m) (point d a c) (strips_exactly d m (point d a c) ∙ e) in
    let i : PlaceOf p.strip (strips d m) = place_of p.strip (strips d m) p.listed in
    let f : along d (point d a c) ≡ a = along_point d a c in
    let g : across d (point d a c) ≡ c = across_point d a c in
    let lo = p.low in
    let hi = p.high in
    let first : (strip_at (entries d m) i.number).first ≡ p.strip.first = ap (λ (s : Strip). s.first) i.is in
    let count : (strip_at (entries d m) i.number).count ≡ p.strip.count = ap (λ (s : Strip). s.count) i.is in
    record {
      number = i.number;
      below = i.below;
      line = ap (λ (s : Strip). s.line) i.is ∙ p.line ∙ g;
      low = omega arith;
      high = omega arith;
    }

-- ── the half turn ──

-- a pixel of the shape turned by half is the shape's pixel at the same distance from the other end
pub half_pixel : (d : Direction) (s : Shape) (a c : ℕ) → a < extent d s → c < extent (other d) s
    → pixel (turned Half s) (point d (extent d s - 1 - a) (extent (other d) s - 1 - c)) ≡ pixel s (point d a c)
unfolding turn_point
half_pixel Horizontal s a c l m = image_pixel Half s (point Horizontal a c) (record { column = l; row = m })
half_pixel Vertical s a c l m = image_pixel Half s (point Vertical a c) (record { column = m; row = l })

-- the shape turned by half has the same box
pub half_extent : (e : Direction) (s : Shape) → extent e (turned Half s) ≡ extent e s
half_extent Horizontal s = refl
half_extent Vertical s = refl

-- ── the moved shape, grown ──

-- a shape has the pixel with the given coordinates
abbrev pub PixelAt : Direction → Shape → ℕ → ℕ → Type 0
PixelAt d m a c = pixel m (point d a c) ≡ true

-- a grown point of a shape's strips is a pixel of the grown shape
point_grown : (d : Direction) (m : Shape) (e a c : ℕ) → GrownPoint (entries d m) e a c → PixelAt d (grown e m) a c
point_grown d m e a c h = go d (strip_pixel d m h.from_along h.from_across h.from)
  where
    right : (h.from_along ≤ a) × (a ≤ h.from_along + e)
    right = let x = h.along in let f = h.few_along in (omega arith, omega arith)

    up : (h.from_across ≤ c) × (c ≤ h.from_across + e)
    up = let y = h.across in let f = h.few_across in (omega arith, omega arith)

    go : (k : Direction) → PixelAt k m h.from_along h.from_across → PixelAt k (grown e m) a c
    go Horizontal p =
        grown_from e m (point Horizontal a c)
        (record { from = _; is_pixel = p; right = right.0; near_right = right.1; up = up.0; near_up = up.1 })
    go Vertical p =
        grown_from e m (point Vertical a c)
        (record { from = _; is_pixel = p; right = up.0; near_right = up.1; up = right.0; near_up = right.1 })

-- a point at most e further than a pixel of the shape is a grown point of its strips
near : (d : Direction) (m : Shape) (e a c i j : ℕ) → PixelAt d m i j → i ≤ a → a ≤ i + e → j ≤ c → c ≤ j + e → GrownPoint (entries d m) e a c
near d m e a c i j p ai ae cj ce =
    record {
      from_along = i;
      from_across = j;
      by_along = a - i;
      by_across = c - j;
      from = pixel_strip d m i j p;
      few_along = omega arith;
      few_across = omega arith;
      along = omega arith;
      across = omega arith;
    }

-- and every pixel of the grown shape is one
grown_point : (d : Direction) (m : Shape) (e a c : ℕ) → PixelAt d (grown e m) a c → GrownPoint (entries d m) e a c
grown_point Horizontal m e a c p =
    let w = grown_witness e m (point Horizontal a c) p in
    near Horizontal m e a c w.from.x w.from.y w.is_pixel w.right w.near_right w.up w.near_up
grown_point Vertical m e a c p =
    let w = grown_witness e m (point Vertical a c) p in
    near Vertical m e a c w.from.y w.from.x w.is_pixel w.up w.near_up w.right w.near_right

-- the marks of a shape turned by half, grown, are the marks of the grown shape turned by half
grown_marks : (d : Direction) (s : Shape) (e w : ℕ) (bs : List ℕ) → MarksOf (GrownPoint (entries d (turned Half s)) e) w bs
    → MarksOf (PixelAt d (turned Half (grown e s))) w bs
grown_marks d s e w bs m =
    let same = turned_grown Half e s in
    record {
      set = λ a c p. m.set a c (grown_point d (turned Half s) e a c (sym (same.pixels (point d a c)) ∙ p));
      only = λ p b.
          let k = m.only p b in
          record {
            a = k.a;
            c = k.c;
            point = same.pixels (point d k.a k.c) ∙ point_grown d (turned Half s) e k.a k.c k.point;
            place = k.place;
          };
    }

-- a pixel at given coordinates has them in the box
pixel_bounds : (d : Direction) (m : Shape) (a c : ℕ) → pixel m (point d a c) ≡ true → (a < extent d m) × (c < extent (other d) m)
pixel_bounds d m a c e =
    let i = pixel_in_box m (point d a c) e in
    let x = along_point d a c in
    let y = across_point d a c in
    let p = box_along d m (point d a c) i in
    let q = box_across d m (point d a c) i in
    (omega arith, omega arith)

-- ── cells ──

-- a pixel (b, e) of the standing shape and a pixel (a, c) of the moved one turned by half add up to the cell
pub record Meets (d : Direction) (s t : Shape) (X Y : ℕ) : Type 0 where
  pub a : ℕ
  pub c : ℕ
  pub b : ℕ
  pub e : ℕ
  pub of_moved : pixel (turned Half s) (point d a c) ≡ true
  pub of_standing : pixel t (point d b e) ≡ true
  pub column : X ≡ b + a
  pub row : Y ≡ e + c

module _ (d : Direction) (s t : Shape) where
  -- the cell is one of the map
  pub meets_in : (X Y : ℕ) → Meets d s t X Y → (X < columns_of (sides_of d s t)) × (Y < rows_of (sides_of d s t))
  meets_in X Y k =
      let m = pixel_bounds d (turned Half s) k.a k.c k.of_moved in
      let n = pixel_bounds d t k.b k.e k.of_standing in
      let x = half_extent d s in
      let y = half_extent (other d) s in
      let p = k.column in
      let q = k.row in
      (omega arith, omega arith)

  -- its two pixels are shared
  meets_shared : (X Y : ℕ) → Meets d s t X Y → shared_at d s t X Y ≡ true
  meets_shared X Y k =
      let A = extent d s in
      let H = extent (other d) s in
      let m = pixel_bounds d (turned Half s) k.a k.c k.of_moved in
      let x = half_extent d s in
      let y = half_extent (other d) s in
      let back : A - 1 - (A - 1 - k.a) ≡ k.a = omega arith in
      let down : H - 1 - (H - 1 - k.c) ≡ k.c = omega arith in
      let p : Point = point d (A - 1 - k.a) (H - 1 - k.c) in
      let q : Point = point d k.b k.e in
      let has : pixel s p ≡ true =
      sym (half_pixel d s (A - 1 - k.a) (H - 1 - k.c) (omega arith) (omega arith)) ∙ ap₂ (λ (i j : ℕ). pixel (turned Half s) (point d i j)) back down
      ∙ k.of_moved in
      let u : Point = point d X Y in
      let v : Point = point d (A - 1) (H - 1) in
      let ux : along d u ≡ X = along_point d X Y in
      let uy : across d u ≡ Y = across_point d X Y in
      let vx : along d v ≡ A - 1 = along_point d (A - 1) (H - 1) in
      let vy : across d v ≡ H - 1 = across_point d (A - 1) (H - 1) in
      let px : along d p ≡ A - 1 - k.a = along_point d (A - 1 - k.a) (H - 1 - k.c) in
      let py : across d p ≡ H - 1 - k.c = across_point d (A - 1 - k.a) (H - 1 - k.c) in
      let qx : along d q ≡ k.b = along_point d k.b k.e in
      let qy : across d q ≡ k.e = across_point d k.b k.e in
      let f = k.column in
      let g = k.row in
      share_from s u t v (shared_over d s u t v p q has k.of_standing (omega arith) (omega arith))

  -- and shared pixels meet at it
  pub shared_meets : (X Y : ℕ) → shared_at d s t X Y ≡ true → Meets d s t X Y
  shared_meets X Y h =
      let A = extent d s in
      let H = extent (other d) s in
      let u : Point = point d X Y in
      let v : Point = point d (A - 1) (H - 1) in
      let k : SharedPixel s u t v = share_witness s u t v h in
      let ux : along d u ≡ X = along_point d X Y in
      let uy : across d u ≡ Y = across_point d X Y in
      let vx : along d v ≡ A - 1 = along_point d (A - 1) (H - 1) in
      let vy : across d v ≡ H - 1 = across_point d (A - 1) (H - 1) in
      let f = shared_along d k in
      let g = shared_across d k in
      let i = pixel_in_box s k.p k.of_first in
      let px = box_along d s k.p i in
      let py = box_across d s k.p i in
      record {
        a = A - 1 - along d k.p;
        c = H - 1 - across d k.p;
        b = along d k.q;
        e = across d k.q;
        of_moved = half_pixel d s (along d k.p) (across d k.p) px py ∙ ap (pixel s) (point_again d k.p) ∙ k.of_first;
        of_standing = ap (pixel t) (point_again d k.q) ∙ k.of_second;
        column = omega arith;
        row = omega arith;
      }

-- ── the made map ──

-- numbers by their two digits
pub two_digits : (w a b c e : ℕ) → b < w → e < w → a * w + b ≡ c * w + e → (a ≡ c) × (b ≡ e)
two_digits w a b c e hb he h =
    (sym (digits_div a hb) ∙ ap (λ (n : ℕ). n / w) h ∙ digits_div c he, sym (digits_mod a hb) ∙ ap (λ (n : ℕ). n % w) h ∙ digits_mod c he)

-- a cell stands in the words
pub cell_in : (z : Sides) (X Y : ℕ) → X < row_width z → Y < z.moved_across + z.standing_across → cell_place z X Y < map_words z * 64
cell_in z X Y l m =
    let h : (Y + 1 + 1) * row_width z ≤ (z.moved_across + z.standing_across + 1) * row_width z = mul-le-mul_right (row_width z) (omega arith) in
    let e : (Y + 1 + 1) * row_width z ≡ (Y + 1) * row_width z + row_width z = omega arith in
    omega arith

module _ (d : Direction) (s t : Shape) (bs xs ys zs : List ℕ)
    (marks : MarksOf (PixelAt d (turned Half s)) (row_width (sides_of d s t)) bs)
    (clear : Cleared (map_words (sides_of d s t)) xs ys) (room : map_words (sides_of d s t) ≤ length xs)
    (made : Made ys bs (entries d t) (row_width (sides_of d s t)) 1 (length (entries d t)) zs)
  where
    -- a cell whose place is p
    record Found (p : ℕ) : Type 0 where
      X : ℕ
      Y : ℕ
      meets : Meets d s t X Y
      place : p ≡ cell_place (sides_of d s t) X Y

    -- a sum is a cell
    from_sum : (p : ℕ) → Sum (entries d t) (length (entries d t)) bs (row_width (sides_of d s t)) 1 p → Found p
    from_sum p k =
        let w = row_width (sides_of d s t) in
        let e = strip_at (entries d t) k.i in
        let m = marks.only k.q k.marked in
        let l = k.t_in in
        let sum = k.sum in
        let q = m.place in
        record {
          X = e.first + k.t + m.a;
          Y = e.line + m.c;
          meets = record {
            a = m.a;
            c = m.c;
            b = e.first + k.t;
            e = e.line;
            of_moved = m.point;
            of_standing = strip_pixel d t (e.first + k.t) e.line
                (record { number = k.i; below = k.i_in; line = refl; low = omega arith; high = omega arith });
            column = refl;
            row = refl;
          };
          place = omega arith;
        }

    -- a set bit is a cell
    found : (p : ℕ) → p < map_words (sides_of d s t) * 64 → bit_in zs p ≡ true → Found p
    found p l b = go (made_only ys bs (entries d t) (row_width (sides_of d s t)) 1 (length (entries d t)) zs made p b)
      where
        go : (bit_in ys p ≡ true) ⊎ Sum (entries d t) (length (entries d t)) bs (row_width (sides_of d s t)) 1 p → Found p
        go (inl h) = absurd (clash h (bit_none ys p (clear.zero (p / 64) (omega arith))))
        go (inr k) = from_sum p k

    -- a cell at which pixels meet is set
    set_at : (X Y : ℕ) → Meets d s t X Y → bit_in zs (cell_place (sides_of d s t) X Y) ≡ true
    set_at X Y k =
        let w = row_width (sides_of d s t) in
        let n = pixel_strip d t k.b k.e k.of_standing in
        let e = strip_at (entries d t) n.number in
        let lo = n.low in
        let hi = n.high in
        let f : X ≡ k.b + k.a = k.column in
        let g : (Y + 1) * w ≡ (e.line + 1) * w + k.c * w =
        ap (λ (i : ℕ). (i + 1) * w) (k.row ∙ ap (λ (i : ℕ). i + k.c) (sym n.line)) ∙ omega arith in
        made_set ys bs (entries d t) w 1 (length (entries d t)) zs made (cell_place (sides_of d s t) X Y)
        (record {
          i = n.number;
          t = k.b - e.first;
          q = k.c * w + k.a;
          i_in = n.below;
          t_in = omega arith;
          marked = marks.set k.a k.c k.of_moved;
          sum = omega arith;
        })

    -- a bit that is set at a cell is the cell's
    at_cell : (X Y : ℕ) → X < row_width (sides_of d s t) → Found (cell_place (sides_of d s t) X Y) → Meets d s t X Y
    at_cell X Y l k =
        let c = meets_in d s t k.X k.Y k.meets in
        let h = c.0 in
        let q = two_digits (row_width (sides_of d s t)) (Y + 1) X (k.Y + 1) k.X l (omega arith) k.place in
        let r : k.Y ≡ Y = omega (arith, q.0) in
        subst (λ (i : ℕ). Meets d s t i Y) (sym q.1) (subst (λ (j : ℕ). Meets d s t k.X j) r k.meets)

    -- the words are the map
    pub map_made : MapOf d s t zs
    map_made =
        record {
          room = let p = made.same in let q = clear.same in omega arith;
          cells = λ X Y l m.
              same_tests _ _
              (λ h. meets_shared d s t X Y
              (at_cell X Y (omega arith) (found (cell_place (sides_of d s t) X Y) (cell_in (sides_of d s t) X Y (omega arith) (omega arith)) h)))
              (λ h. set_at X Y (shared_meets d s t X Y h));
          only = λ p l h.
              let k = found p l h in
              let c = meets_in d s t k.X k.Y k.meets in
              record { X = k.X; Y = k.Y; column = c.0; row = c.1; place = k.place };
        }

-- so it is for the sides and stretches that the code has, and the moved shape grown
pub map_from_lem : (d : Direction) (s t : Shape) (z : Sides) (moved standing : List (List ℕ)) (extra levels : ℕ) (gs xs zs : List ℕ)
    → z ≡ sides_of d (grown extra s) t → moved ≡ entries d (turned Half s) → standing ≡ entries d t → LevelsMade moved z extra levels gs
    → map_words z ≤ length xs → MapFilled standing z (level_of gs (mark_words z) 0) xs zs → MapOf d (grown extra s) t zs
map_from_lem d s t z moved standing extra levels gs xs zs ez em et v room m =
    subst₃
    (λ (y : Sides) (es fs : List (List ℕ)). LevelsMade es y extra levels gs → map_words y ≤ length xs
    → MapFilled fs y (level_of gs (mark_words y) 0) xs zs → MapOf d (grown extra s) t zs)
    (sym ez) (sym em) (sym et)
    (λ v' r m'.
    map_made d (grown extra s) t (level_of gs (mark_words (sides_of d (grown extra s) t)) 0) xs m'.cleared zs (grown_marks d s extra _ _ v'.marks)
    m'.clear r m'.made)
    v room m
