-- Document 02, point 2: the lines of two sets of units, one for each direction. A line is a strip of its set, so that the lines go over
-- each unit once and over nothing else, none could be joined to another, and they stand in the request's order: this is what demand 2
-- says of strips, for each direction, one list after the other. Assumes nothing.
use Rattle.list_laws.proofs.Kit.{◌∙◌, ◌≡◌, ap, refl, subst, sym, true, ◌⊎◌, inl, inr, ⊎_elim, List, Memᴰ, Memᴰ-append_cases}
use Rattle.list_laws.proofs.Kit.{eqb, eqb-true, eqb-false, Memᴰ-append_left, Memᴰ-append_right, ◌++◌, ◌+◌, ◌-◌}
use Rattle.list_laws.proofs.Kit.{◌<◌, ◌≤◌, suc, ℕ, arith, length, length-append, length-map, ◌*◌}
use Rattle.list_laws.proofs.Lists.{member_at, At, member_place, Source, map_source, map_member}
use Rattle.list_laws.proofs.Numbers.{apart}
use Rattle.list_laws.proofs.Tests.{decided}
use Rattle.strip_laws.specs.Lists.{Pairwise}
use Rattle.strip_laws.specs.Strips.{MaximalStrip, StripBefore}
use Rattle.strip_laws.proofs.Boxes.{along_point, across_point}
use Rattle.strip_laws.proofs.Lists.{pairwise_map, pairwise_append, pairwise_at}
use Rattle.strip_laws.proofs.Halves.{lines_half}
use Rattle.strip_laws.proofs.Strips.{InStrips, have_in, strips_exactly, strips_maximal, strips_ordered}
use Rattle.model.specs.Piece.{Shape, pixel, point, extent, other}
use Rattle.model.specs.Strip.{Strip, strips}
use Rattle.model.specs.Buffer.{direction_number}
use Rattle.model.specs.Cut.{CutLine, cut_line_of, lines_along, lines_of}
use Rattle.model.specs.declared.Direction.{Direction}
use Rattle.model.specs.declared.Direction.TheVariants.{Horizontal, Vertical}
use Rattle.cut_laws.specs.Lines.{cut_line_at, no_line, GoesOver, LineBefore, Joinable, LinesExactly, LinesClaims}
use Rattle.cut_laws.proofs.Lengths.{lines_total}

-- ── which lines are listed ──

-- a line is a strip of the set of its direction
record FromStrip (units : Direction → Shape) (l : CutLine) : Type 0 where
  direction : Direction
  strip : Strip
  listed : Memᴰ strip (strips direction (units direction))
  is : l ≡ cut_line_of direction strip

-- one of the lines along a direction is
along_strip : (units : Direction → Shape) (d : Direction) (l : CutLine) → Memᴰ l (lines_along d (units d)) → FromStrip units l
along_strip units d l m =
    let w : Source (cut_line_of d) (strips d (units d)) l = map_source (cut_line_of d) (strips d (units d)) m in
    record { direction = d; strip = w.from; listed = w.listed; is = w.image }

-- every line of the list is
from_strip : (units : Direction → Shape) (l : CutLine) → Memᴰ l (lines_of units) → FromStrip units l
from_strip units l m =
    ⊎_elim (along_strip units Horizontal l) (along_strip units Vertical l) (Memᴰ-append_cases (lines_along Horizontal (units Horizontal)) m)

-- a strip of a set is a line of the list
strip_listed : (units : Direction → Shape) (d : Direction) (t : Strip) → Memᴰ t (strips d (units d)) → Memᴰ (cut_line_of d t) (lines_of units)
strip_listed units Horizontal t m = Memᴰ-append_left (lines_along Vertical (units Vertical)) (map_member (cut_line_of Horizontal) m)
strip_listed units Vertical t m = Memᴰ-append_right (lines_along Horizontal (units Horizontal)) (map_member (cut_line_of Vertical) m)

-- ── the order ──

-- strips in order make lines in order
before_lines : (d : Direction) (t u : Strip) → StripBefore t u → LineBefore (cut_line_of d t) (cut_line_of d u)
before_lines d t u h = inr (refl, h)

-- the lines of a direction
along_ordered : (d : Direction) (s : Shape) → Pairwise LineBefore (lines_along d s)
along_ordered d s = pairwise_map LineBefore (cut_line_of d) (before_lines d) (strips_ordered d s)

-- all lines
lines_ordered : (units : Direction → Shape) → Pairwise LineBefore (lines_of units)
lines_ordered units =
    pairwise_append (along_ordered Horizontal (units Horizontal)) (along_ordered Vertical (units Vertical))
    (λ l m p q.
    let a : Source (cut_line_of Horizontal) (strips Horizontal (units Horizontal)) l = map_source _ _ p in
    let b : Source (cut_line_of Vertical) (strips Vertical (units Vertical)) m = map_source _ _ q in
    let e : direction_number l.direction ≡ 0 = ap (λ (k : CutLine). direction_number k.direction) a.image in
    let f : direction_number m.direction ≡ 1 = ap (λ (k : CutLine). direction_number k.direction) b.image in
    inl (omega arith))

-- lines in order could not be joined
before_apart : (l m : CutLine) → LineBefore l m → Joinable l m → ⊥
before_apart l m (inl h) w = let e : direction_number l.direction ≡ direction_number m.direction = ap direction_number w.direction in omega arith
before_apart l m (inr (e, inl h)) w = let f = w.line in omega arith
before_apart l m (inr (e, inr (f, h))) w = let g = w.not_before in omega arith

-- joined either way round
joined_back : (l m : CutLine) → Joinable l m → Joinable m l
joined_back l m w = record { direction = sym w.direction; line = sym w.line; not_after = w.not_before; not_before = w.not_after }

-- two lines over one unit could be joined
over_both : (l m : CutLine) (d : Direction) (a c : ℕ) → GoesOver l d a c → GoesOver m d a c → Joinable l m
over_both l m d a c p q =
    let e = p.low in
    let f = p.high in
    let g = q.low in
    let h = q.high in
    record { direction = p.direction ∙ sym q.direction; line = p.line ∙ sym q.line; not_after = omega arith; not_before = omega arith }

-- the lines along a direction: at most half of the box's pixels along each line and one more
along_few : (d : Direction) (s : Shape) → 2 * length (lines_along d s) ≤ extent (other d) s * suc (extent d s)
along_few d s = let e = length-map (strips d s) (cut_line_of d) in let h = lines_half d s 0 (extent (other d) s) in omega arith

module _ (units : Direction → Shape) where
  -- a line of the list is a maximal strip of its set
  line_maximal : (l : CutLine) (w : FromStrip units l) → MaximalStrip w.direction (units w.direction) w.strip
  line_maximal l w = strips_maximal w.direction (units w.direction) w.strip w.listed

  -- it is not empty
  line_some : (l : CutLine) → Memᴰ l (lines_of units) → l.first < l.last
  line_some l m =
      let w = from_strip units l m in
      let h = (line_maximal l w).some in subst (λ (k : CutLine). k.first < k.last) (sym w.is) (omega arith)

  -- what it goes over is a unit of the set
  line_units : (l : CutLine) → Memᴰ l (lines_of units) → (d : Direction) (a c : ℕ) → GoesOver l d a c → pixel (units d) (point d a c) ≡ true
  line_units l m d a c over =
      let w = from_strip units l m in
      let g : GoesOver (cut_line_of w.direction w.strip) d a c = subst (λ (k : CutLine). GoesOver k d a c) w.is over in
      let unit : pixel (units w.direction) (point w.direction a w.strip.line) ≡ true = (line_maximal l w).pixels a g.low g.high in
      subst (λ (e : Direction). pixel (units e) (point e a c) ≡ true) g.direction
      (subst (λ (k : ℕ). pixel (units w.direction) (point w.direction a k) ≡ true) g.line unit)

  -- a unit of the set has a line that goes over it
  unit_line : (d : Direction) (a c : ℕ) → pixel (units d) (point d a c) ≡ true → (l : CutLine) × Memᴰ l (lines_of units) × GoesOver l d a c
  unit_line d a c h =
      let w : InStrips d (strips d (units d)) (point d a c) = have_in d (strips d (units d)) (point d a c) (strips_exactly d (units d) (point d a c) ∙ h) in
      let e = along_point d a c in
      let low = w.low in
      let high = w.high in (
        cut_line_of d w.strip,
        strip_listed units d w.strip w.listed,
        record { direction = refl; line = w.line ∙ across_point d a c; low = omega arith; high = omega arith },
      )

  -- two lines that go over one unit are one
  over_one : (d : Direction) (a c k m : ℕ) → k < length (lines_of units) → m < length (lines_of units) → GoesOver (cut_line_at (lines_of units) k) d a c
      → GoesOver (cut_line_at (lines_of units) m) d a c → k ≡ m
  over_one d a c k m l h p q =
      ⊎_elim (eqb-true k m)
      (λ e. absurd
      (⊎_elim (λ (b : k < m). before_apart _ _ (pairwise_at (lines_ordered units) k m no_line b h) (over_both _ _ d a c p q))
      (λ (b : m < k). before_apart _ _ (pairwise_at (lines_ordered units) m k no_line b l) (over_both _ _ d a c q p))
      (apart k m (eqb-false k m e))))
      (decided (eqb k m))

  -- each unit is on just one line and nothing else is, and the lines stand apart and in order
  lines_exactly : LinesExactly units (lines_of units)
  lines_exactly =
      let ls : List CutLine = lines_of units in
      let order : Pairwise LineBefore ls = lines_ordered units in
      record {
        every = λ d a c h.
            let l = unit_line d a c h in
            let w : At ls no_line l.0 = member_place ls no_line l.0 l.1 in
            let over : GoesOver (cut_line_at ls w.number) d a c = subst (λ (k : CutLine). GoesOver k d a c) (sym w.is) l.2 in
            record { number = w.number; there = w.there; over = over; only = λ k b g. over_one d a c k w.number b w.there g over };
        nothing_else = λ k h. line_units (cut_line_at ls k) (member_at ls k no_line h);
        some = λ k h. line_some (cut_line_at ls k) (member_at ls k no_line h);
        apart = λ k m a b n w.
            ⊎_elim (λ (h : k < m). before_apart _ _ (pairwise_at order k m no_line h b) w)
            (λ (h : m < k). before_apart _ _ (pairwise_at order m k no_line h a) (joined_back _ _ w))
            (apart k m n);
        ordered = λ k m h b. pairwise_at order k m no_line h b;
      }

  -- the lines of two sets of units
  pub lines_claims : LinesClaims units (lines_of units)
  lines_claims =
      let ls : List CutLine = lines_of units in
      let at : (k : ℕ) → k < length ls → FromStrip units (cut_line_at ls k) = λ k h. from_strip units (cut_line_at ls k) (member_at ls k no_line h) in
      record {
        exactly = lines_exactly;
        lengths = lines_total units;
        few =
            let rows : List CutLine = lines_along Horizontal (units Horizontal) in
            let columns : List CutLine = lines_along Vertical (units Vertical) in
            let both : length (rows ++ columns) ≡ length rows + length columns = length-append rows columns in
            let a = along_few Horizontal (units Horizontal) in
            let b = along_few Vertical (units Vertical) in omega arith;
        line_within = λ k h.
            let w = at k h in
            subst (λ (l : CutLine). l.line < extent (other l.direction) (units l.direction)) (sym w.is) (line_maximal (cut_line_at ls k) w).line;
        last_within = λ k h.
            let w = at k h in
            subst (λ (l : CutLine). l.last ≤ extent l.direction (units l.direction)) (sym w.is) (line_maximal (cut_line_at ls k) w).within;
      }
