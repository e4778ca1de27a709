-- Document 01, 'Strips', over the direction: the strips of a shape hold just its pixels, each is maximal in its line, and they
-- are ordered by line, then first. A strip of the list is a run of one line's pixels, so all of this is what Runs says of each
-- line, line after line. Assumes nothing.
use Rattle.list_laws.proofs.Kit.{◌∙◌, ◌≡◌, ap, ap₂, refl, subst, sym, Bool, ◌&&◌, false, false≢true, true, inl, inr, ⊎_elim, List, Memᴰ}
use Rattle.list_laws.proofs.Kit.{Memᴰ-append_cases, Memᴰ-head, Memᴰ-not_nil, Memᴰ-tail, Memᴰ-append_left, Memᴰ-append_right, [], ◌++◌}
use Rattle.list_laws.proofs.Kit.{◌∷◌, map, ◌+◌, ◌<◌, ◌≤◌, suc, zero, ℕ, eq-or-lt_of_le, le_refl, arith, eqb, leb, ltb, eq-eqb, eqb-true, le-leb, leb-true}
use Rattle.list_laws.proofs.Kit.{lt-ltb, ltb-true}
use Rattle.model.specs.Piece.{Point, Shape, pixel, other, along, across, extent, cell}
use Rattle.model.specs.Strip.{Run, runs, Strip, strip_of, line_strips, strips_from, strips, strip_has, strips_have}
use Rattle.model.specs.declared.Direction.{Direction}
use Rattle.list_laws.proofs.Lists.{Source, map_source, map_member}
use Rattle.list_laws.proofs.Tests.{and_left, and_right, and_both, same_tests}
use Rattle.strip_laws.specs.Strips.{MaximalStrip, StripBefore}
use Rattle.strip_laws.specs.Lists.{Pairwise, none}
use Rattle.strip_laws.proofs.Lists.{pairwise_map, pairwise_append}
use Rattle.strip_laws.proofs.Runs.{MaximalRun, InRuns, runs_exactly, runs_maximal, runs_ascending, runs_agree}
use Rattle.strip_laws.specs.Boxes.{InBox, SameShape}
use Rattle.strip_laws.proofs.Boxes.{pixel_in_box, box_from, box_along, box_across, pixel_cell, pixel_point, no_pixel_past, same_extent, same_cell}

-- ── which strips are listed ──

-- the pixels of line c: the test that the line's strips are the runs of
abbrev pub line_test : Direction → Shape → ℕ → ℕ → Bool
line_test d s c a = cell d s a c

-- a strip's run in its line
abbrev pub strip_run : Strip → Run
strip_run t = record { first = t.first; count = t.count }

-- a strip is a run of the pixels of its line, one of the `left` lines from c on
pub record LineRun (d : Direction) (s : Shape) (c left : ℕ) (t : Strip) : Type 0 where
  pub low : c ≤ t.line
  pub high : t.line < c + left
  pub listed : Memᴰ (strip_run t) (runs (line_test d s t.line) (extent d s))

-- a strip of one line is a run of it
line_run : (d : Direction) (s : Shape) (c left : ℕ) (t : Strip) → Memᴰ t (line_strips d s c) → LineRun d s c (suc left) t
line_run d s c left t m =
    let w : Source (strip_of c) (runs (line_test d s c) (extent d s)) t = map_source (strip_of c) (runs (line_test d s c) (extent d s)) m in
    subst (LineRun d s c (suc left)) (sym w.image) record { low = le_refl c; high = omega arith; listed = w.listed }

-- a strip of the list is a run of its line
pub strip_run_lem : (d : Direction) (s : Shape) (c left : ℕ) (t : Strip) → Memᴰ t (strips_from d s c left) → LineRun d s c left t
unfolding strips_from
strip_run_lem d s c zero t m = absurd (Memᴰ-not_nil m)
strip_run_lem d s c (suc left) t m =
    ⊎_elim (line_run d s c left t)
    (λ (n : Memᴰ t (strips_from d s (suc c) left)).
    let r : LineRun d s (suc c) left t = strip_run_lem d s (suc c) left t n in
    let a : suc c ≤ t.line = r.low in
    let b : t.line < suc c + left = r.high in
    record { low = omega arith; high = omega arith; listed = r.listed })
    (Memᴰ-append_cases (line_strips d s c) m)

-- a run of a line is a strip of the list
pub run_strip : (d : Direction) (s : Shape) (c left k : ℕ) (r : Run) → c ≤ k → k < c + left
    → Memᴰ r (runs (line_test d s k) (extent d s)) → Memᴰ (strip_of k r) (strips_from d s c left)
unfolding strips_from
run_strip d s c zero k r a b m = absurd (omega arith)
run_strip d s c (suc left) k r a b m =
    ⊎_elim
    (λ (e : c ≡ k). Memᴰ-append_left (strips_from d s (suc c) left)
    (subst (λ (i : ℕ). Memᴰ (strip_of k r) (line_strips d s i)) (sym e) (map_member (strip_of k) m)))
    (λ (l : c < k). Memᴰ-append_right (line_strips d s c) (run_strip d s (suc c) left k r l (omega arith) m))
    (eq-or-lt_of_le a)

-- ── the points of strips ──

-- a point lies in a strip of the list
pub record InStrips (d : Direction) (ts : List Strip) (p : Point) : Type 0 where
  pub strip : Strip
  pub listed : Memᴰ strip ts
  pub line : strip.line ≡ across d p
  pub low : strip.first ≤ along d p
  pub high : along d p < strip.first + strip.count

-- a strip that holds the point
has_in : (d : Direction) (t : Strip) (ts : List Strip) (p : Point) → strip_has d t p ≡ true → InStrips d (t ∷ ts) p
has_in d t ts p e =
    let on : Bool = eqb t.line (across d p) in
    let from : Bool = leb t.first (along d p) in
    let to : Bool = ltb (along d p) (t.first + t.count) in
    let start : (on && from) ≡ true = and_left (on && from) to e in
    record {
      strip = t;
      listed = Memᴰ-head refl;
      line = eqb-true t.line (across d p) (and_left on from start);
      low = leb-true t.first (along d p) (and_right on from start);
      high = ltb-true (along d p) (t.first + t.count) (and_right (on && from) to e);
    }

-- a strip in whose line and numbers the point lies holds it
in_has : (d : Direction) (t : Strip) (p : Point) → t.line ≡ across d p → t.first ≤ along d p → along d p < t.first + t.count
    → strip_has d t p ≡ true
in_has d t p a b c =
    and_both (and_both (eq-eqb t.line (across d p) a) (le-leb t.first (along d p) b)) (lt-ltb (along d p) (t.first + t.count) c)

-- a point in a later strip is in the list
in_later_strip : {d : Direction} {t : Strip} {ts : List Strip} {p : Point} → InStrips d ts p → InStrips d (t ∷ ts) p
in_later_strip w = record { strip = w.strip; listed = Memᴰ-tail w.listed; line = w.line; low = w.low; high = w.high }

-- the point lies in the first strip, or in a later one
have_step : (d : Direction) (t : Strip) (ts : List Strip) (p : Point) (b : Bool) → strip_has d t p ≡ b
    → (strips_have d ts p ≡ true → InStrips d ts p) → elim b as (λ _. Bool) [ true ↦ true | false ↦ strips_have d ts p ] ≡ true
    → InStrips d (t ∷ ts) p
have_step d t ts p true h later e = has_in d t ts p h
have_step d t ts p false h later e = in_later_strip (later e)

-- where the strips have the point, one of them holds it
pub have_in : (d : Direction) (ts : List Strip) (p : Point) → strips_have d ts p ≡ true → InStrips d ts p
unfolding strips_have
have_in d [] p e = absurd (false≢true e)
have_in d (t ∷ ts) p e = have_step d t ts p (strip_has d t p) refl (have_in d ts p) e

-- the first strip holds the point
have_here : (d : Direction) (t : Strip) (ts : List Strip) (p : Point) → strip_has d t p ≡ true → strips_have d (t ∷ ts) p ≡ true
unfolding strips_have
have_here d t ts p e = rw (e, strips_have)

-- a later strip holds the point
have_there : (d : Direction) (t : Strip) (ts : List Strip) (p : Point) (b : Bool) → strip_has d t p ≡ b → strips_have d ts p ≡ true
    → elim b as (λ _. Bool) [ true ↦ true | false ↦ strips_have d ts p ] ≡ true
have_there d t ts p true h e = refl
have_there d t ts p false h e = e

-- a strip of the list that holds a point
pub listed_has : (d : Direction) (t : Strip) (ts : List Strip) (p : Point) → Memᴰ t ts → strip_has d t p ≡ true → strips_have d ts p ≡ true
unfolding strips_have
listed_has d t [] p m e = absurd (Memᴰ-not_nil m)
listed_has d t (u ∷ ts) p (Memᴰ-head q) e = have_here d u ts p (subst (λ (v : Strip). strip_has d v p ≡ true) q e)
listed_has d t (u ∷ ts) p (Memᴰ-tail m) e = have_there d u ts p (strip_has d u p) refl (listed_has d t ts p m e)

-- where one of the strips holds the point, the strips have it
pub in_have : (d : Direction) (ts : List Strip) (p : Point) → InStrips d ts p → strips_have d ts p ≡ true
in_have d ts p w = listed_has d w.strip ts p w.listed (in_has d w.strip p w.line w.low w.high)

-- ── the strips of a shape hold just its pixels ──

-- a point in a strip is a pixel
strip_pixel : (d : Direction) (s : Shape) (p : Point) → InStrips d (strips d s) p → pixel s p ≡ true
strip_pixel d s p w =
    let t : Strip = w.strip in
    let r : LineRun d s 0 (extent (other d) s) t = strip_run_lem d s 0 (extent (other d) s) t w.listed in
    let line : t.line ≡ across d p = w.line in
    let in-run : InRuns (along d p) (runs (line_test d s t.line) (extent d s)) =
    record { run = strip_run t; listed = r.listed; low = w.low; high = w.high } in
    let found : (along d p < extent d s) × (line_test d s t.line (along d p) ≡ true) =
    (runs_exactly (line_test d s t.line) (extent d s) (along d p)).0 in-run in
    let high : t.line < 0 + extent (other d) s = r.high in
    let box : InBox s p = box_from d s p found.0 (omega arith) in
    pixel_cell d s p box ∙ ap (cell d s (along d p)) (sym line) ∙ found.1

-- a pixel is in a strip
pixel_strip : (d : Direction) (s : Shape) (p : Point) → pixel s p ≡ true → InStrips d (strips d s) p
pixel_strip d s p e =
    let box : InBox s p = pixel_in_box s p e in
    let c : ℕ = across d p in
    let high : c < extent (other d) s = box_across d s p box in
    let w : InRuns (along d p) (runs (line_test d s c) (extent d s)) =
    (runs_exactly (line_test d s c) (extent d s) (along d p)).1 (box_along d s p box, sym (pixel_cell d s p box) ∙ e) in
    record {
      strip = strip_of c w.run;
      listed = run_strip d s 0 (extent (other d) s) c w.run (omega arith) (omega arith) w.listed;
      line = refl;
      low = w.low;
      high = w.high;
    }

-- a point is in the strips of a shape exactly when it is a pixel of it; no strip holds a point outside the box, where no
-- pixel is
pub strips_exactly : (d : Direction) (s : Shape) (p : Point) → strips_have d (strips d s) p ≡ pixel s p
strips_exactly d s p =
    same_tests (strips_have d (strips d s) p) (pixel s p) (λ e. strip_pixel d s p (have_in d (strips d s) p e))
    (λ e. in_have d (strips d s) p (pixel_strip d s p e))

-- ── each strip is maximal in its line ──

-- each strip of a shape is maximal
pub strips_maximal : (d : Direction) (s : Shape) (t : Strip) → Memᴰ t (strips d s) → MaximalStrip d s t
strips_maximal d s t m =
    let r : LineRun d s 0 (extent (other d) s) t = strip_run_lem d s 0 (extent (other d) s) t m in
    let f : ℕ → Bool = line_test d s t.line in
    let n : ℕ = extent d s in
    let end : ℕ = t.first + t.count in
    let c : MaximalRun f n (strip_run t) = runs_maximal f n (strip_run t) r.listed in
    let some : 0 < t.count = c.some in
    let within : end ≤ n = c.within in
    let high : t.line < 0 + extent (other d) s = r.high in
    let line : t.line < extent (other d) s = omega arith in
    record {
      some = some;
      line = line;
      within = within;
      pixels = λ a l h. pixel_point d s a t.line (omega arith) line ∙ c.passing a l h;
      before = λ a e. pixel_point d s a t.line (omega arith) line ∙ c.before a e;
      after =
          ⊎_elim (λ (e : end ≡ n). no_pixel_past d s end t.line (omega arith))
          (λ (l : end < n). pixel_point d s end t.line l line ∙ c.after l)
          (eq-or-lt_of_le within);
    }

-- ── the strips are ordered by line, then first ──

-- the strips of one line are ordered as its runs are
line_ordered : (d : Direction) (s : Shape) (c : ℕ) → Pairwise StripBefore (line_strips d s c)
line_ordered d s c =
    pairwise_map StripBefore (strip_of c) (λ r q l. inr (refl, l)) (runs_ascending (line_test d s c) (extent d s))

-- the strips of a line stand before those of the later lines
from_ordered : (d : Direction) (s : Shape) (c left : ℕ) → Pairwise StripBefore (strips_from d s c left)
unfolding strips_from
from_ordered d s c zero = none
from_ordered d s c (suc left) =
    pairwise_append (line_ordered d s c) (from_ordered d s (suc c) left)
    (λ t u m n.
    let a : t.line < c + 1 = (line_run d s c 0 t m).high in
    let b : suc c ≤ u.line = (strip_run_lem d s (suc c) left u n).low in
    inl (omega arith))

-- each strip stands before every later one, by line, then first
pub strips_ordered : (d : Direction) (s : Shape) → Pairwise StripBefore (strips d s)
strips_ordered d s = from_ordered d s 0 (extent (other d) s)

-- ── the pixels fix the strips, and the strips fix the pixels ──

-- shapes whose cells agree in the next lines have the same strips there
from_agree : (d : Direction) (s u : Shape) (c left : ℕ) → extent d s ≡ extent d u
    → ((a k : ℕ) → a < extent d s → c ≤ k → k < c + left → cell d s a k ≡ cell d u a k) → strips_from d s c left ≡ strips_from d u c left
unfolding strips_from
from_agree d s u c zero e h = refl
from_agree d s u c (suc left) e h =
    let line : runs (line_test d s c) (extent d s) ≡ runs (line_test d u c) (extent d u) =
    runs_agree (line_test d s c) (line_test d u c) (extent d s) (λ a l. h a c l (omega arith) (omega arith))
    ∙ ap (runs (line_test d u c)) e in
    ap₂ ◌++◌ (ap (map (strip_of c)) line) (from_agree d s u (suc c) left e (λ a k l m n. h a k l (omega arith) (omega arith)))

-- shapes with the same box and the same pixels have the same strips
pub strips_agree : (d : Direction) (s u : Shape) → SameShape s u → strips d s ≡ strips d u
strips_agree d s u h =
    from_agree d s u 0 (extent (other d) s) (same_extent d s u h) (λ a k l m n. same_cell d s u h a k l (omega arith))
    ∙ ap (strips_from d u 0) (same_extent (other d) s u h)

-- shapes with the same strips have the same pixels
pub strips_determine : (d : Direction) (s u : Shape) → strips d s ≡ strips d u → (p : Point) → pixel s p ≡ pixel u p
strips_determine d s u e p = sym (strips_exactly d s p) ∙ ap (λ ts. strips_have d ts p) e ∙ strips_exactly d u p
