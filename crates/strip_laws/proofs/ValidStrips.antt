-- Document 01, 'Strips' and the refusals of rebuilding: which lists are the strips of some shape of a box. A list is one exactly
-- when each strip lies in the box and is not empty, and the strips are ordered by line, then first, with a gap in a line: then
-- no strip of the list touches another, so each is maximal in the rebuilt set, and two ordered lists of the same strips are
-- one. Assumes nothing.
use Rattle.list_laws.proofs.Kit.{◌∙◌, ◌≡◌, refl, subst, subst₃, sym, false, true, ◌↔◌, ◌⊎◌, inl, inr, List, Memᴰ, Memᴰ-cast, ◌+◌, ◌-◌, ◌<◌, ◌≤◌, suc, ℕ}
use Rattle.list_laws.proofs.Kit.{arith}
use Rattle.model.specs.Piece.{Point, Shape, pixel, tight, other, along, across, point, extent}
use Rattle.model.specs.Strip.{Strip, strips, rebuilt}
use Rattle.model.specs.declared.Direction.{Direction}
use Rattle.model.specs.declared.Direction.TheVariants.{Horizontal, Vertical}
use Rattle.list_laws.proofs.Tests.{fails, clash}
use Rattle.strip_laws.specs.Strips.{side, StripFits, ValidStrips, MaximalStrip, StripBefore, HasStrips}
use Rattle.strip_laws.proofs.Lists.{pairwise_compare, pairwise_unique}
use Rattle.strip_laws.specs.Boxes.{InBox}
use Rattle.strip_laws.proofs.Boxes.{pixel_in_box, along_point, across_point, box_from}
use Rattle.strip_laws.proofs.Strips.{InStrips, have_in, in_have, strips_exactly, strips_maximal, strips_ordered}
use Rattle.strip_laws.proofs.Rebuild.{rebuilt_columns, rebuilt_rows, rebuilt_pixel, rebuilt_tight}

-- the rebuilt set's box
pub rebuilt_extent : (e d : Direction) (l w : ℕ) (ts : List Strip) → extent e (rebuilt d l w ts) ≡ side e l w
rebuilt_extent Horizontal d l w ts = rebuilt_columns d l w ts
rebuilt_extent Vertical d l w ts = rebuilt_rows d l w ts

-- ── maximal strips ──

-- of two maximal strips in a line that share a point neither begins earlier
not_earlier : (d : Direction) (s : Shape) (t u : Strip) → MaximalStrip d s t → MaximalStrip d s u → t.line ≡ u.line
    → t.first < u.first + u.count → ¬ (u.first < t.first)
not_earlier d s t u c b e h l =
    clash (b.pixels (t.first - 1) (omega arith) (omega arith))
    (subst (λ k. pixel s (point d (t.first - 1) k) ≡ false) e (c.before (t.first - 1) (omega arith)))

-- and neither ends earlier
not_shorter : (d : Direction) (s : Shape) (t u : Strip) → MaximalStrip d s t → MaximalStrip d s u → t.line ≡ u.line
    → u.first ≤ t.first + t.count → ¬ (t.first + t.count < u.first + u.count)
not_shorter d s t u c b e h l =
    clash (b.pixels (t.first + t.count) h l) (subst (λ k. pixel s (point d (t.first + t.count) k) ≡ false) e c.after)

-- two maximal strips in a line that share a point are one
pub same_strip : (d : Direction) (s : Shape) (t u : Strip) → MaximalStrip d s t → MaximalStrip d s u → t.line ≡ u.line
    → t.first < u.first + u.count → u.first < t.first + t.count → t ≡ u
same_strip d s t u c b e h k =
    let a₁ = not_earlier d s t u c b e h in
    let a₂ = not_earlier d s u t b c (sym e) k in
    let first : t.first ≡ u.first = omega arith in
    let a₃ = not_shorter d s t u c b e (omega arith) in
    let a₄ = not_shorter d s u t b c (sym e) (omega arith) in
    let count : t.count ≡ u.count = omega arith in
    λ i. record { line = e i; first = first i; count = count i }

-- the first point of a strip
abbrev first_point : Direction → Strip → Point
first_point d t = point d t.first t.line

-- two maximal strips, of which one holds the first point of the other, are one
same_from : (d : Direction) (s : Shape) (t : Strip) (ts : List Strip) (w : InStrips d ts (first_point d t)) → MaximalStrip d s t
    → MaximalStrip d s w.strip → t ≡ w.strip
same_from d s t ts w c b =
    let e : along d (first_point d t) ≡ t.first = along_point d t.first t.line in
    let f : across d (first_point d t) ≡ t.line = across_point d t.first t.line in
    let some : 0 < t.count = c.some in
    let line : w.strip.line ≡ across d (first_point d t) = w.line in
    let low : w.strip.first ≤ along d (first_point d t) = w.low in
    let high : along d (first_point d t) < w.strip.first + w.strip.count = w.high in
    same_strip d s t w.strip c b (omega arith) (omega arith) (omega arith)

-- the first point of a maximal strip is a pixel
first_pixel : (d : Direction) (s : Shape) (t : Strip) → MaximalStrip d s t → pixel s (first_point d t) ≡ true
first_pixel d s t c = let some : 0 < t.count = c.some in c.pixels t.first (omega arith) (omega arith)

-- every maximal strip of a shape is listed
pub maximal_listed : (d : Direction) (s : Shape) (t : Strip) → MaximalStrip d s t → Memᴰ t (strips d s)
maximal_listed d s t c =
    let w : InStrips d (strips d s) (first_point d t) =
    have_in d (strips d s) (first_point d t) (strips_exactly d s (first_point d t) ∙ first_pixel d s t c) in
    Memᴰ-cast (same_from d s t (strips d s) w c (strips_maximal d s w.strip w.listed)) w.listed

-- ── the strips of the rebuilt set ──

-- a pixel of the rebuilt set lies in a strip
rebuilt_in : (d : Direction) (l w : ℕ) (ts : List Strip) (p : Point) → pixel (rebuilt d l w ts) p ≡ true → InStrips d ts p
rebuilt_in d l w ts p e =
    let b : InBox (rebuilt d l w ts) p = pixel_in_box (rebuilt d l w ts) p e in
    let column : p.x < (rebuilt d l w ts).columns = b.column in
    let row : p.y < (rebuilt d l w ts).rows = b.row in
    let columns : (rebuilt d l w ts).columns ≡ l = rebuilt_columns d l w ts in
    let rows : (rebuilt d l w ts).rows ≡ w = rebuilt_rows d l w ts in
    have_in d ts p (sym (rebuilt_pixel d l w ts p (omega arith) (omega arith)) ∙ e)

-- strips that stand one before the other do not touch
apart : (t u : Strip) (a : ℕ) → (t ≡ u) ⊎ (StripBefore t u ⊎ StripBefore u t) → u.line ≡ t.line → u.first ≤ a → a < u.first + u.count
    → t.first ≤ suc a → a ≤ t.first + t.count → t ≡ u
apart t u a (inl e) line low high from to = e
apart t u a (inr (inl (inl l))) line low high from to = absurd (omega arith)
apart t u a (inr (inl (inr l))) line low high from to = absurd (let h = l.1 in omega arith)
apart t u a (inr (inr (inl l))) line low high from to = absurd (omega arith)
apart t u a (inr (inr (inr l))) line low high from to = absurd (let h = l.1 in omega arith)

-- a pixel of the rebuilt set in a strip's line, in the strip or next to it, lies in the strip
touching : (d : Direction) (l w : ℕ) (ts : List Strip) → ValidStrips d l w ts → (t : Strip) → Memᴰ t ts → (a : ℕ)
    → t.first ≤ suc a → a ≤ t.first + t.count → pixel (rebuilt d l w ts) (point d a t.line) ≡ true
    → (t.first ≤ a) × (a < t.first + t.count)
touching d l w ts v t m a from to e =
    let q : Point = point d a t.line in
    let i : InStrips d ts q = rebuilt_in d l w ts q e in
    let u : Strip = i.strip in
    let f : along d q ≡ a = along_point d a t.line in
    let g : across d q ≡ t.line = across_point d a t.line in
    let line : u.line ≡ across d q = i.line in
    let low : u.first ≤ along d q = i.low in
    let high : along d q < u.first + u.count = i.high in
    let same : t ≡ u =
    apart t u a (pairwise_compare v.ordered t u m i.listed) (omega arith) (omega arith) (omega arith) from to in
    subst (λ (z : Strip). (z.first ≤ a) × (a < z.first + z.count)) (sym same) (omega arith)

-- the points of a fitting strip of the list are pixels of the rebuilt set
strip_rebuilt : (d : Direction) (l w : ℕ) (ts : List Strip) (t : Strip) → Memᴰ t ts → StripFits d l w t → (a : ℕ)
    → t.first ≤ a → a < t.first + t.count → pixel (rebuilt d l w ts) (point d a t.line) ≡ true
strip_rebuilt d l w ts t m k a low high =
    let s : Shape = rebuilt d l w ts in
    let q : Point = point d a t.line in
    let lines : extent (other d) s ≡ side (other d) l w = rebuilt_extent (other d) d l w ts in
    let length : extent d s ≡ side d l w = rebuilt_extent d d l w ts in
    let line : t.line < side (other d) l w = k.line in
    let within : t.first + t.count ≤ side d l w = k.within in
    let f : along d q ≡ a = along_point d a t.line in
    let g : across d q ≡ t.line = across_point d a t.line in
    let b : InBox s q = box_from d s q (omega arith) (omega arith) in
    let column : q.x < s.columns = b.column in
    let row : q.y < s.rows = b.row in
    let columns : s.columns ≡ l = rebuilt_columns d l w ts in
    let rows : s.rows ≡ w = rebuilt_rows d l w ts in
    rebuilt_pixel d l w ts q (omega arith) (omega arith)
    ∙ in_have d ts q record { strip = t; listed = m; line = sym g; low = omega arith; high = omega arith }

-- each strip of a valid list is maximal in the rebuilt set
valid_maximal : (d : Direction) (l w : ℕ) (ts : List Strip) → ValidStrips d l w ts → (t : Strip) → Memᴰ t ts
    → MaximalStrip d (rebuilt d l w ts) t
valid_maximal d l w ts v t m =
    let s : Shape = rebuilt d l w ts in
    let k : StripFits d l w t = v.fits t m in
    let lines : extent (other d) s ≡ side (other d) l w = rebuilt_extent (other d) d l w ts in
    let length : extent d s ≡ side d l w = rebuilt_extent d d l w ts in
    let line : t.line < side (other d) l w = k.line in
    let within : t.first + t.count ≤ side d l w = k.within in
    record {
      some = k.some;
      line = omega arith;
      within = omega arith;
      pixels = strip_rebuilt d l w ts t m k;
      before = λ a e. fails (pixel s (point d a t.line))
          (λ p. let h : t.first ≤ a = (touching d l w ts v t m a (omega arith) (omega arith) p).0 in omega arith);
      after = fails (pixel s (point d (t.first + t.count) t.line))
          (λ p.
          let h : t.first + t.count < t.first + t.count = (touching d l w ts v t m (t.first + t.count) (omega arith) (omega arith) p).1 in
          omega arith);
    }

-- no two strips stand each before the other
before_asym : (t u : Strip) → StripBefore t u → StripBefore u t → ⊥
before_asym t u (inl a) (inl b) = omega arith
before_asym t u (inl a) (inr b) = let e = b.0 in omega arith
before_asym t u (inr a) (inl b) = let e = a.0 in omega arith
before_asym t u (inr a) (inr b) = let e = a.1 in let f = b.1 in omega arith

-- a valid list is the strips of the set rebuilt from it
pub valid_rebuilt : (d : Direction) (l w : ℕ) (ts : List Strip) → ValidStrips d l w ts → strips d (rebuilt d l w ts) ≡ ts
valid_rebuilt d l w ts v =
    let s : Shape = rebuilt d l w ts in
    pairwise_unique before_asym (strips_ordered d s) v.ordered
    (λ t m.
    let c : MaximalStrip d s t = strips_maximal d s t m in
    let i : InStrips d ts (first_point d t) = rebuilt_in d l w ts (first_point d t) (first_pixel d s t c) in
    Memᴰ-cast (same_from d s t ts i c (valid_maximal d l w ts v i.strip i.listed)) i.listed)
    (λ t m. maximal_listed d s t (valid_maximal d l w ts v t m))

-- a shape's box, by its columns and rows
extent_side : (d : Direction) (s : Shape) → extent d s ≡ side d s.columns s.rows
extent_side Horizontal s = refl
extent_side Vertical s = refl

-- the strips of a shape are a valid list of its box
pub strips_valid : (d : Direction) (s : Shape) → ValidStrips d s.columns s.rows (strips d s)
strips_valid d s =
    record {
      fits = λ t m.
          let c : MaximalStrip d s t = strips_maximal d s t m in
          let line : t.line < extent (other d) s = c.line in
          let within : t.first + t.count ≤ extent d s = c.within in
          let lines : extent (other d) s ≡ side (other d) s.columns s.rows = extent_side (other d) s in
          let length : extent d s ≡ side d s.columns s.rows = extent_side d s in
          record { some = c.some; line = omega arith; within = omega arith };
      ordered = strips_ordered d s;
    }

-- a list that some shape of the box has for its strips is valid
pub has_valid : (d : Direction) (l w : ℕ) (ts : List Strip) (s : Shape) → HasStrips d l w ts s → ValidStrips d l w ts
has_valid d l w ts s h = subst₃ (ValidStrips d) h.columns h.rows h.are (strips_valid d s)

-- a list is valid exactly when the set rebuilt from it has it for its strips
pub valid_exactly : (d : Direction) (l w : ℕ) (ts : List Strip) → ValidStrips d l w ts ↔ HasStrips d l w ts (rebuilt d l w ts)
valid_exactly d l w ts = (
  λ v. record { columns = rebuilt_columns d l w ts; rows = rebuilt_rows d l w ts; are = valid_rebuilt d l w ts v },
  has_valid d l w ts (rebuilt d l w ts),
)

-- a tight shape of the box, as a piece's is, has just these strips
pub record PieceHas (d : Direction) (l w : ℕ) (ts : List Strip) : Type 0 where
  pub shape : Shape
  pub has : HasStrips d l w ts shape
  pub is_tight : tight shape ≡ true

-- some piece of the box has just these strips exactly when the list is valid and the rebuilt set is tight
pub piece_exactly : (d : Direction) (l w : ℕ) (ts : List Strip)
    → PieceHas d l w ts ↔ (ValidStrips d l w ts × (tight (rebuilt d l w ts) ≡ true))
piece_exactly d l w ts = (
  λ h. (has_valid d l w ts h.shape h.has, rebuilt_tight d l w ts h.shape h.has h.is_tight),
  λ v. record { shape = rebuilt d l w ts; has = (valid_exactly d l w ts).0 v.0; is_tight = v.1 },
)
